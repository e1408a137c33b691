-- Private: what is known of a certificate while it comes.
use Rattle.std.specs.Prelude.{◌≡◌, ℕ, ◌+◌, ◌-◌, ◌<◌, ◌≤◌, List, ◌++◌, length, take, drop, Option, Result, ⊤}
use Rattle.std.specs.Io.KnownBytes.{Consumes, IsAtEnd}
use Rattle.iges_params.specs.Contents.{Contents}
use Rattle.solid_data.specs.SolidData.{SolidData}
use Rattle.solid_data.specs.Obligations.{AllHold, FirstFalse}
use Rattle.solid_data.specs.declared.verdict.Failing.{Failing}
use Rattle.brep_walk.specs.SolidOf.{solid_of}
use Rattle.cert_lines.specs.Line.{cut_lines}
use Rattle.cert_lines.specs.Opening.{Opens, IsBadOpening}
use Rattle.cert_lines.specs.declared.version.Version.{Version}
use Rattle.cert_lines.specs.declared.version.Version.TheVariants.{One, Two, Three}
use Rattle.cert_text.specs.declared.fault.Illegal.{Illegal}
use Rattle.cert_text.specs.declared.TheConstants.{CERT_LIMIT}
use Rattle.topo_certificate.specs.Feeding.{FedState, IsFed}
use Rattle.cert_accept.specs.Accepted.{checked}
use Rattle.command_replies.specs.declared.reply.Reply.{Reply}
use Rattle.command_replies.specs.declared.reply.Stop.{Stop}
use Rattle.command_replies.specs.Replies.{CountAfterCall, TakesWithin}
use Rattle.certificate_commands.specs.declared.opening.Opened.{Opened}
use Rattle.certificate_commands.specs.declared.opening.OpeningEnd.{OpeningEnd}
use Rattle.certificate_commands.specs.declared.opening.OpeningEnd.TheVariants as opening
use Rattle.command_replies.specs.declared.answer.Answer.TheVariants.{No}
use Rattle.command_replies.specs.Due.{Exactly}
use Rattle.certificate_commands.specs.Due.{OfVerify}

-- Certificates of these versions are of one solid each.
abbrev pub IsOfOne : Version → Type 0
IsOfOne One = ⊤
IsOfOne Two = ⊤
IsOfOne Three = ⊥

-- This is the solid, and all that is checked of it holds.
pub record IsChecked (f : Contents) (n : ℕ) (s : SolidData) : Type 0 where
  pub solid : s ≡ solid_of f n
  pub holds : AllHold (checked f n)

-- The reply says in these words the first that is false of all that is checked of the solid.
abbrev pub TellsFalse : (Failing → List ℕ) → Contents → ℕ → Reply → Type 0
TellsFalse words f n reply = (x : Failing) × FirstFalse (checked f n) x × Exactly No (words x) reply.answer reply.text

-- The certificate opens with two good lines, which name solid n, all that is checked of this holds, and the checker was fed what comes after them.
pub record HasChecked (f : Contents) (n : ℕ) (text : List ℕ) (c : FedState) : Type 0 where
  pub version : Version
  pub one : IsOfOne version
  pub holds : AllHold (checked f n)
  pub front : List ℕ
  pub rest : List ℕ
  pub whole : text ≡ front ++ rest
  pub opens : (more : List ℕ) → Opens (front ++ more) version n (cut_lines more)
  pub fed : IsFed version (solid_of f n) 3 rest c

-- This text, the certificate so far, decides the reply: it is owed whatever comes.
abbrev pub IsDecided : Contents → List ℕ → Reply → Type 0
IsDecided f text reply = (more : List ℕ) → length (text ++ more) ≤ CERT_LIMIT → OfVerify (text ++ more) f reply.answer reply.text

-- The rest of a certificate, of which so many bytes had come, was read to its end.
pub record IsRestRead (before after : Option (List ℕ)) (came : ℕ) : Type 0 where
  pub bytes : List ℕ
  pub taken : Consumes before after bytes
  pub ended : IsAtEnd after
  pub few : came + length bytes ≤ CERT_LIMIT

-- The rest was, and the checker was fed it.
pub record IsRestFed (before after : Option (List ℕ)) (came : ℕ) (old new : FedState) : Type 0 where
  pub bytes : List ℕ
  pub taken : Consumes before after bytes
  pub ended : IsAtEnd after
  pub few : came + length bytes ≤ CERT_LIMIT
  pub fed : (v : Version) (s : SolidData) (first : ℕ) (text : List ℕ) → IsFed v s first text old → IsFed v s first (text ++ bytes) new

-- More bytes than the limit came.
abbrev pub HasTooMany : Option (List ℕ) → Option (List ℕ) → ℕ → Type 0
HasTooMany before after came = (bytes : List ℕ) × Consumes before after bytes × (CERT_LIMIT < came + length bytes)

-- The first two lines have come, are good, and name the version and the solid; the buffer holds what came after them.
pub record HasOpened (before after : Option (List ℕ)) (buffer : List ℕ) (o : Opened) : Type 0 where
  pub front : List ℕ
  pub rest : List ℕ
  pub taken : Consumes before after (front ++ rest)
  pub long : length (front ++ rest) ≡ o.came
  pub few : o.came ≤ CERT_LIMIT
  pub ordered : o.from ≤ o.to
  pub within : o.to ≤ length buffer
  pub behind : rest ≡ take (o.to - o.from) (drop o.from buffer)
  pub opens : (more : List ℕ) → Opens (front ++ more) o.version o.no.0 (cut_lines more)

-- One of the two is bad, whatever comes; so many bytes have come.
pub record HasOpenedBadly (before after : Option (List ℕ)) (bad : Illegal) (came : ℕ) : Type 0 where
  pub bytes : List ℕ
  pub taken : Consumes before after bytes
  pub long : length bytes ≡ came
  pub few : came ≤ CERT_LIMIT
  pub always : (more : List ℕ) → IsBadOpening (bytes ++ more) bad

-- The certificate ended before its second line did.
pub record EndsEarly (before after : Option (List ℕ)) (bad : Illegal) : Type 0 where
  pub bytes : List ℕ
  pub taken : Consumes before after bytes
  pub ended : IsAtEnd after
  pub few : length bytes ≤ CERT_LIMIT
  pub wrong : IsBadOpening bytes bad

-- what reading the first two lines came to
abbrev pub IsOpeningEnd : Option (List ℕ) → Option (List ℕ) → List ℕ → OpeningEnd → Type 0
IsOpeningEnd before after buffer opening.TooLarge = HasTooMany before after 0
IsOpeningEnd before after buffer (opening.Ended bad) = EndsEarly before after bad
IsOpeningEnd before after buffer (opening.Bad bad came) = HasOpenedBadly before after bad came
IsOpeningEnd before after buffer (opening.Both o) = HasOpened before after buffer o

-- the certificate may go on after them
abbrev pub GoesOn : OpeningEnd → Type 0
GoesOn opening.TooLarge = ⊥
GoesOn (opening.Ended bad) = ⊥
GoesOn (opening.Bad bad came) = Unit {0}
GoesOn (opening.Both o) = Unit {0}

-- The places are in the buffer, and no more bytes than the limit have come.
pub record AreInBuffer (buffer : List ℕ) (o : Opened) : Type 0 where
  pub few : o.came ≤ CERT_LIMIT
  pub ordered : o.from ≤ o.to
  pub within : o.to ≤ length buffer
  pub holds : o.to - o.from ≤ o.came

-- What a call that reads a certificate, of which so many bytes may still come, does to its source: how many faults it counts, and how much it takes off.
pub record ReadsOn {T : Type 0} (limit : ℕ) (before after : Option (List ℕ)) (old new : ℕ) (result : Result T Stop) : Type 0 where
  pub count : CountAfterCall old new result
  pub taken : TakesWithin limit before after result
