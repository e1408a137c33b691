-- Private: what is known of a book while it comes.
use Rattle.std.specs.Prelude.{◌≡◌, ℕ, ◌+◌, ◌-◌, ◌<◌, ◌≤◌, List, [], ◌∷◌, ◌++◌, length, take, drop, flat_map, Option}
use Rattle.std.specs.List.{AllByRecursion}
use Rattle.std.specs.List.Sorted.{IsStrictlyIncreasing}
use Rattle.std.specs.Io.KnownBytes.{Consumes, IsAtEnd}
use Rattle.iges_params.specs.Contents.{Contents}
use Rattle.solid_data.specs.SolidData.{SolidData}
use Rattle.cert_lines.specs.Line.{solid, cut_lines, IsSpelled}
use Rattle.cert_lines.specs.Opening.{Opens, IsHeaded}
use Rattle.cert_lines.specs.declared.version.Version.{Version}
use Rattle.cert_lines.specs.declared.version.Version.TheVariants.{Three}
use Rattle.cert_text.specs.declared.TheConstants.{CERT_LIMIT}
use Rattle.topo_certificate.specs.Feeding.{FedState, IsFedPart}
use Rattle.topo_certificate.specs.PartEnds.{EndsPart}
use Rattle.cert_accept.specs.Accepted.{Part, part_lines, solids_named, IsGoodPart}
use Rattle.command_replies.specs.declared.answer.Answer.{Answer}
use Rattle.command_replies.specs.declared.answer.Answer.TheVariants.{Done}
use Rattle.certificate_commands.specs.declared.held_book.HeldPart.{HeldPart}
use Rattle.certificate_commands.specs.declared.held_book.HeldPart.TheVariants as held_part
use Rattle.command_replies.specs.declared.reply.Reply.{Reply}
use Rattle.certificate_commands.specs.declared.books.PartStart.{PartStart}
use Rattle.certificate_commands.specs.declared.books.PartEnd.{PartEnd}
use Rattle.certificate_commands.specs.declared.books.PartEnd.TheVariants as part_end
use Rattle.certificate_commands.specs.declared.books.PartJudged.{PartJudged}
use Rattle.certificate_commands.specs.declared.books.PartJudged.TheVariants as judged
use Rattle.command_replies.specs.Texts.{accepted_lines}
use Rattle.command_replies.specs.Due.{Exactly, OfText}
use Rattle.certificate_commands.specs.Due.{OfUpgrade, OfVerify}
use Rattle.certificate_commands.specs.Judging.{HasTooMany}
use Rattle.iges_io.specs.Reading.{TakesAtMost}
use Rattle.command_replies.specs.Outcome.{ReadsCertificate}
use Rattle.command_replies.specs.Replies.{IsReply}

-- The text is the front of a book: after the head come good parts, which name these solids, and then the line of solid n, which is greater. The line after that
-- has this number.
pub record BeginsPart (f : Contents) (ns : List ℕ) (text : List ℕ) (n line : ℕ) : Type 0 where
  pub parts : List Part
  pub named : solids_named parts ≡ ns
  pub good : AllByRecursion (IsGoodPart f) parts
  pub rising : IsStrictlyIncreasing (ns ++ n ∷ [])
  pub first : List ℕ
  pub names : IsSpelled first (solid n)
  pub headed : (more : List ℕ) → IsHeaded (text ++ more) Three (flat_map part_lines parts ++ first ∷ cut_lines more)
  pub opens : (more : List ℕ) → (m : ℕ) × (lines : List (List ℕ)) × Opens (text ++ more) Three m lines
  pub number : line ≡ 3 + length (flat_map part_lines parts)

-- what the buffer holds after the line of the solid
abbrev pub held : List ℕ → PartStart → List ℕ
held buffer b = take (b.to - b.from) (drop b.from buffer)

-- how many bytes the certificate has up to the end of that line
abbrev pub passed : PartStart → ℕ
passed b = b.came - (b.to - b.from)

-- The places are in the buffer, and no more lines than bytes have come.
pub record IsPlace (buffer : List ℕ) (b : PartStart) : Type 0 where
  pub few : b.came ≤ CERT_LIMIT
  pub ordered : b.from ≤ b.to
  pub within : b.to ≤ length buffer
  pub holds : b.to - b.from ≤ b.came
  pub lines : b.line ≤ passed b + 3

-- Of the certificate a part has begun after this front; the buffer holds what came after it.
pub record HasBegun (f : Contents) (ns : List ℕ) (before after : Option (List ℕ)) (buffer : List ℕ) (b : PartStart) : Type 0 where
  pub front : List ℕ
  pub taken : Consumes before after (front ++ held buffer b)
  pub long : length (front ++ held buffer b) ≡ b.came
  pub begins : BeginsPart f ns front b.no.0 b.line

-- A further part has begun, after so many bytes more.
pub record GoesOn (before after : Option (List ℕ)) (buffer : List ℕ) (old new : PartStart) : Type 0 where
  pub place : IsPlace buffer new
  pub further : passed old < passed new
  pub bytes : List ℕ
  pub taken : Consumes before after bytes
  pub came : new.came ≡ old.came + length bytes

-- The checker was fed some of a part.
abbrev pub IsInPart : FedState → Type 0
IsInPart c = (v : Version) × (s : SolidData) × (first : ℕ) × (text : List ℕ) × IsFedPart v s first text c

-- The checker was fed this text, of lines from this number on, if it was fed none before.
abbrev pub WasFed : FedState → List ℕ → FedState → Type 0
WasFed old text new = (v : Version) (s : SolidData) (first : ℕ) → IsFedPart v s first [] old → IsFedPart v s first text new

-- the same, and the text ends with a line that begins the part of this solid
abbrev pub WasEnded : FedState → List ℕ → ℕ → ℕ → FedState → Type 0
WasEnded old text n line new = (v : Version) (s : SolidData) (first : ℕ) → IsFedPart v s first [] old → EndsPart v s first text n line new

-- The part ended with the line of the next solid, which these bytes more have shown.
pub record IsNextBegun (before after : Option (List ℕ)) (came : ℕ) (there buffer : List ℕ) (old new : FedState) (next : PartStart) : Type 0 where
  pub few : next.came ≤ CERT_LIMIT
  pub ordered : next.from ≤ next.to
  pub within : next.to ≤ length buffer
  pub text : List ℕ
  pub bytes : List ℕ
  pub taken : Consumes before after bytes
  pub long : next.came ≡ came + length bytes
  pub whole : text ++ held buffer next ≡ there ++ bytes
  pub ends : WasEnded old text next.no.0 next.line new

-- The certificate ended with the part.
pub record IsPartLast (before after : Option (List ℕ)) (came : ℕ) (there : List ℕ) (old new : FedState) : Type 0 where
  pub bytes : List ℕ
  pub taken : Consumes before after bytes
  pub ended : IsAtEnd after
  pub few : came + length bytes ≤ CERT_LIMIT
  pub fed : WasFed old (there ++ bytes) new

-- how a part ended, of which so many bytes had come and the buffer held these after its first line
abbrev pub IsPartEnd : Option (List ℕ) → Option (List ℕ) → ℕ → List ℕ → List ℕ → FedState → FedState → PartEnd → Type 0
IsPartEnd before after came there buffer old new (part_end.Next next) = IsNextBegun before after came there buffer old new next
IsPartEnd before after came there buffer old new part_end.Last = IsPartLast before after came there old new
IsPartEnd before after came there buffer old new part_end.TooLarge = HasTooMany before after came

-- The certificate may go on.
abbrev pub EndsInside : PartEnd → Type 0
EndsInside (part_end.Next next) = Unit {0}
EndsInside part_end.Last = ⊥
EndsInside part_end.TooLarge = ⊥

abbrev pub HasNext : PartJudged → Type 0
HasNext (judged.Next next) = Unit {0}
HasNext judged.Last = ⊥
HasNext (judged.Decided reply) = ⊥

-- What is left after a part: the next one has begun, or the certificate was read to its end as the answer wants it.
abbrev pub Leaves : Option (List ℕ) → Option (List ℕ) → List ℕ → PartStart → PartJudged → Type 0
Leaves before after buffer old (judged.Next next) = GoesOn before after buffer old next
Leaves before after buffer old judged.Last = IsAtEnd after × TakesAtMost (CERT_LIMIT - old.came) before after
Leaves before after buffer old (judged.Decided reply) = ReadsCertificate after reply.answer

-- What judging the part of solid n came to, after good parts that name these solids: the next part, that the certificate is accepted and names these and n, or
-- a reply that is owed.
abbrev pub IsPartJudged : Contents → List ℕ → ℕ → Option (List ℕ) → Option (List ℕ) → List ℕ → PartJudged → Type 0
IsPartJudged f ns n before after buffer (judged.Next next) = HasBegun f (ns ++ n ∷ []) before after buffer next
IsPartJudged f ns n before after buffer judged.Last = (reply : Reply) → Exactly Done (accepted_lines (ns ++ n ∷ [])) reply.answer reply.text
    → IsReply (λ certificate. OfVerify certificate f) before reply
IsPartJudged f ns n before after buffer (judged.Decided reply) = IsReply (λ certificate. OfVerify certificate f) before reply

-- ---- a book that is held whole

-- What judging the part of solid n came to, which has this rest of the book after its first line.
abbrev pub IsHeldPart : Contents → List ℕ → List ℕ → ℕ → List ℕ → HeldPart → Type 0
IsHeldPart f certificate ns n rest (held_part.Next next) =
    (front : List ℕ) × (certificate ≡ front ++ drop next.used rest) × BeginsPart f (ns ++ n ∷ []) front next.no.0 next.line
IsHeldPart f certificate ns n rest held_part.Last = (a : Answer) (t : List ℕ) → OfText certificate a t → OfUpgrade certificate f a t
IsHeldPart f certificate ns n rest (held_part.Decided reply) = OfUpgrade certificate f reply.answer reply.text

-- A next part begins further on, and no more lines than bytes have come.
abbrev pub StepsIn : ℕ → List ℕ → HeldPart → Type 0
StepsIn line rest (held_part.Next next) = (0 < next.used) × (next.used ≤ length rest) × (next.line ≤ line + next.used)
StepsIn line rest held_part.Last = Unit {0}
StepsIn line rest (held_part.Decided reply) = Unit {0}
