-- A certificate that is judged while it comes.
use Rattle.std.proofs.Common.{◌≡◌, ℕ, ◌+◌, ◌-◌, ◌≤◌, ◌<◌, List, [], ◌∷◌, ◌++◌, length, Option, Result, refl, sym, ap, subst, ◌∙◌, arith, append_assoc}
use Rattle.std.specs.Prelude.{MatchResult}
use Rattle.std.proofs.lemmas.List.{append-nil, length-append}
use Rattle.std.proofs.lemmas.Grind.{flat_map-append}
use Rattle.std.specs.Io.KnownBytes.{Consumes, IsAtEnd}
use Rattle.iges_io.proofs.Streams.{consumes_none, consumes_more, told_all, told_more}
use Rattle.iges_params.specs.Contents.{Contents}
use Rattle.brep_walk.specs.SolidOf.{solid_of}
use Rattle.solid_data.specs.SolidData.{SolidData}
use Rattle.cert_lines.specs.Line.{cut_lines}
use Rattle.cert_lines.specs.Opening.{Opens, IsBadOpening}
use Rattle.cert_text.specs.declared.fault.Illegal.{Illegal}
use Rattle.cert_lines.specs.declared.version.Version.{Version}
use Rattle.cert_lines.specs.declared.version.Version.TheVariants.{Three}
use Rattle.cert_text.specs.declared.TheConstants.{CERT_LIMIT}
use Rattle.topo_certificate.specs.Legal.{IsLegal, IsFirstBad}
use Rattle.topo_certificate.specs.Feeding.{FedState, IsFed}
use Rattle.command_replies.specs.declared.answer.Answer.TheVariants.{Done, No, TooLarge}
use Rattle.command_replies.specs.declared.reply.Reply.{Reply}
use Rattle.certificate_commands.specs.declared.opening.Opened.{Opened}
use Rattle.command_replies.specs.Texts.{accepted_line, accepted_lines, fail_line, illegal_line}
use Rattle.certificate_commands.specs.declared.books.PartStart.{PartStart}
use Rattle.command_replies.specs.Due.{Owed, Exactly}
use Rattle.command_replies.proofs.Owing.{owed_so}
use Rattle.certificate_commands.specs.Due.{OfCertificate, certificate_too_large, opening_bad, OfVerify}
use Rattle.command_replies.specs.Replies.{IsReply}
use Rattle.certificate_commands.specs.Books.{HasBegun}
use Rattle.certificate_commands.specs.Judging.{AreInBuffer, IsChecked, IsOfOne, TellsFalse, HasChecked, IsDecided, IsRestFed, IsRestRead, HasTooMany, HasOpened}
use Rattle.certificate_commands.specs.Judging.{EndsEarly}
use Rattle.certificate_commands.proofs.BookParts.{book_begins}
use Rattle.certificate_commands.proofs.BookReads.{between_long}
use Rattle.certificate_commands.proofs.VerifyAnswers.{bad_owed, false_owed, legal_owed}

abbrev pub OfYes : List ℕ → Owed
OfYes ns = Exactly Done (accepted_lines ns)

-- the line of one solid
pub one_accepted : (n : ℕ) → accepted_lines (n ∷ []) ≡ accepted_line n
one_accepted n = append-nil (accepted_line n)

pub accepted_more : (ns : List ℕ) (n : ℕ) → accepted_lines (ns ++ n ∷ []) ≡ accepted_lines ns ++ accepted_line n
accepted_more ns n = flat_map-append accepted_line ns (n ∷ []) ∙ ap (λ (t : List ℕ). accepted_lines ns ++ t) (one_accepted n)

-- ---- more of the text

pub checked_more : (f : Contents) (n : ℕ) (text piece : List ℕ) (old new : FedState)
    → ((v : Version) (s : SolidData) (first : ℕ) (t : List ℕ) → IsFed v s first t old → IsFed v s first (t ++ piece) new) → HasChecked f n text old
    → HasChecked f n (text ++ piece) new
checked_more f n text piece old new fed h = record {
  version = h.version;
  one = h.one;
  holds = h.holds;
  front = h.front;
  rest = h.rest ++ piece;
  whole = ap (λ (t : List ℕ). t ++ piece) h.whole ∙ append_assoc h.front h.rest piece;
  opens = h.opens;
  fed = fed h.version (solid_of f n) 3 h.rest h.fed;
}

-- ---- the reply

-- what a checker says at the end of the lines that it was fed
abbrev pub Says : FedState → Result (Unit {0}) Illegal → Type 0
Says c r = (v : Version) (s : SolidData) (first : ℕ) (text : List ℕ) → IsFed v s first text c
    → MatchResult r (λ _. IsLegal v s (cut_lines text)) (λ bad. IsFirstBad v s first (cut_lines text) bad)

checked_opens : (f : Contents) (n : ℕ) (text : List ℕ) (c : FedState) (h : HasChecked f n text c) → Opens text h.version n (cut_lines h.rest)
checked_opens f n text c h = subst (λ (t : List ℕ). Opens t h.version n (cut_lines h.rest)) (sym h.whole) (h.opens h.rest)

pub accepted_reply : (f : Contents) (n : ℕ) (text : List ℕ) (c : FedState) (reply : Reply)
    → ((v : Version) (t : List ℕ) → IsFed v (solid_of f n) 3 t c → IsLegal v (solid_of f n) (cut_lines t))
    → (reply.answer ≡ Done) × (reply.text ≡ accepted_line n) → HasChecked f n text c → length text ≤ CERT_LIMIT
    → OfVerify text f reply.answer reply.text
accepted_reply f n text c reply legal exact h few =
    legal_owed OfYes f text h.version n (cut_lines h.rest) reply.answer reply.text few (checked_opens f n text c h) h.one h.holds
    (legal h.version h.rest h.fed) (exact.0, exact.1 ∙ sym (one_accepted n))

pub illegal_reply : (f : Contents) (n : ℕ) (text : List ℕ) (c : FedState) (bad : Illegal) (reply : Reply)
    → ((v : Version) (t : List ℕ) → IsFed v (solid_of f n) 3 t c → IsFirstBad v (solid_of f n) 3 (cut_lines t) bad)
    → (reply.answer ≡ No) × (reply.text ≡ illegal_line bad) → HasChecked f n text c
    → length text ≤ CERT_LIMIT → OfVerify text f reply.answer reply.text
illegal_reply f n text c bad reply first exact h few =
    bad_owed OfYes f text h.version n (cut_lines h.rest) reply.answer reply.text few (checked_opens f n text c h) h.one h.holds bad
    (first h.version h.rest h.fed) exact

-- ---- reading the rest

-- so many bytes of the rest were taken off
pub record IsReadSoFar (before now : Option (List ℕ)) (came so_far : ℕ) : Type 0 where
  pub bytes : List ℕ
  pub taken : Consumes before now bytes
  pub long : came + length bytes ≡ so_far

abbrev pub read_none : (left : Option (List ℕ)) (came : ℕ) → IsReadSoFar left left came came
read_none left came = record { bytes = []; taken = consumes_none left; long = omega arith }

module _ (a b c : Option (List ℕ)) (came so_far : ℕ) (s : IsReadSoFar a b came so_far) where
  abbrev pub read_more : (count : ℕ) (x : List ℕ) → Consumes b c x → length x ≡ count → IsReadSoFar a c came (so_far + count)
  read_more count x k is =
      let long = s.long in
      record { bytes = s.bytes ++ x; taken = consumes_more a b c s.bytes x s.taken k; long = omega (arith, long, is, length-append s.bytes x) }

  abbrev pub read_whole : so_far ≤ CERT_LIMIT → Consumes b c [] → IsAtEnd c → IsRestRead a c came
  read_whole few k e =
      let long = s.long in
      record {
        bytes = s.bytes;
        taken = subst (Consumes a c) (append-nil s.bytes) (consumes_more a b c s.bytes [] s.taken k);
        ended = e;
        few = (let h : came + length s.bytes ≤ CERT_LIMIT = omega (arith, long, few) in h);
      }

  pub read_too_many : (x : List ℕ) → Consumes b c x → CERT_LIMIT < so_far + length x → HasTooMany a c came
  read_too_many x k above =
      let long = s.long in (
        s.bytes ++ x,
        consumes_more a b c s.bytes x s.taken k,
        (let h : CERT_LIMIT < came + length (s.bytes ++ x) = omega (arith, long, above, length-append s.bytes x) in h),
      )

-- the same, and the checker was fed them
pub record IsFedSoFar (before now : Option (List ℕ)) (came so_far : ℕ) (old new : FedState) : Type 0 where
  pub read : IsReadSoFar before now came so_far
  pub fed : (v : Version) (s : SolidData) (first : ℕ) (text : List ℕ) → IsFed v s first text old → IsFed v s first (text ++ read.bytes) new

pub fed_none : (left : Option (List ℕ)) (came : ℕ) (k : FedState) → IsFedSoFar left left came came k k
fed_none left came k = record { read = read_none left came; fed = λ v s first text h. subst (λ (t : List ℕ). IsFed v s first t k) (sym (append-nil text)) h }

module _ (a b c : Option (List ℕ)) (came so_far : ℕ) (old mid : FedState) (r : IsFedSoFar a b came so_far old mid) where
  pub fed_more : (new : FedState) (count : ℕ) (x : List ℕ) → Consumes b c x → length x ≡ count
      → ((v : Version) (s : SolidData) (first : ℕ) (text : List ℕ) → IsFed v s first text mid → IsFed v s first (text ++ x) new)
      → IsFedSoFar a c came (so_far + count) old new
  fed_more new count x k is next = record {
    read = read_more a b c came so_far r.read count x k is;
    fed = λ v s first text h. subst (λ (t : List ℕ). IsFed v s first t new) (append_assoc text r.read.bytes x)
        (next v s first (text ++ r.read.bytes) (r.fed v s first text h));
  }

  pub fed_whole : so_far ≤ CERT_LIMIT → Consumes b c [] → IsAtEnd c → IsRestFed a c came old mid
  fed_whole few k e =
      let whole = read_whole a b c came so_far r.read few k e in
      record { bytes = whole.bytes; taken = whole.taken; ended = whole.ended; few = whole.few; fed = r.fed }

-- ---- the reply behind a part that was read

-- the certificate is too large
pub too_large_owed : (OfAccepted : List ℕ → Owed) (f : Contents) (a : Option (List ℕ)) (bytes : List ℕ) (c : Option (List ℕ)) (reply : Reply)
    → Consumes a c bytes → CERT_LIMIT < length bytes → (reply.answer ≡ TooLarge) × (reply.text ≡ [])
    → IsReply (λ certificate. OfCertificate OfAccepted certificate f) a reply
too_large_owed OfAccepted f a bytes c reply k above exact =
    let t = told_more a c bytes k in
    record {
      bytes = t.0;
      told = t.1;
      owed = owed_so (OfCertificate OfAccepted t.0 f) _ _ _ _ (certificate_too_large (omega (arith, above, t.2))) exact.0
          exact.1;
    }

pub rest_too_large : (f : Contents) (a b c : Option (List ℕ)) (text : List ℕ) (came : ℕ) (reply : Reply) → Consumes a b text → length text ≡ came
    → HasTooMany b c came → (reply.answer ≡ TooLarge) × (reply.text ≡ []) → IsReply (λ certificate. OfVerify certificate f) a reply
rest_too_large f a b c text came reply k long many exact =
    too_large_owed OfYes f a (text ++ many.0) c reply (consumes_more a b c text many.0 k many.1) (omega (arith, long, many.2, length-append text many.0)) exact

pub decided_owed : (f : Contents) (a b c : Option (List ℕ)) (text : List ℕ) (came : ℕ) (reply : Reply) → Consumes a b text → length text ≡ came
    → IsDecided f text reply → IsRestRead b c came → IsReply (λ certificate. OfVerify certificate f) a reply
decided_owed f a b c text came reply k long decided rest =
    let few = rest.few in
    record {
      bytes = text ++ rest.bytes;
      told = told_all a c (text ++ rest.bytes) (consumes_more a b c text rest.bytes k rest.taken) rest.ended;
      owed = decided rest.bytes (omega (arith, long, few, length-append text rest.bytes));
    }

pub rest_owed : (f : Contents) (a b c : Option (List ℕ)) (text : List ℕ) (came n : ℕ) (old new : FedState) (reply : Reply) → Consumes a b text
    → length text ≡ came → HasChecked f n text old → IsRestFed b c came old new
    → ((f : Contents) (text : List ℕ) → HasChecked f n text new → length text ≤ CERT_LIMIT → OfVerify text f reply.answer reply.text)
    → IsReply (λ certificate. OfVerify certificate f) a reply
rest_owed f a b c text came n old new reply k long checked rest owed =
    let few = rest.few in
    record {
      bytes = text ++ rest.bytes;
      told = told_all a c (text ++ rest.bytes) (consumes_more a b c text rest.bytes k rest.taken) rest.ended;
      owed = owed f (text ++ rest.bytes) (checked_more f n text rest.bytes old new rest.fed checked) (omega (arith, long, few, length-append text rest.bytes));
    }

-- ---- behind the first two lines

pub bad_opening_decides : (f : Contents) (text : List ℕ) (bad : Illegal) (reply : Reply) → ((more : List ℕ) → IsBadOpening (text ++ more) bad)
    → (reply.answer ≡ No) × (reply.text ≡ illegal_line bad) → IsDecided f text reply
bad_opening_decides f text bad reply always exact more few = owed_so (OfVerify (text ++ more) f) _ _ _ _ (opening_bad few bad (always more)) exact.0 exact.1

pub early_owed : (f : Contents) (a b : Option (List ℕ)) (bad : Illegal) (reply : Reply) → EndsEarly a b bad
    → (reply.answer ≡ No) × (reply.text ≡ illegal_line bad) → IsReply (λ certificate. OfVerify certificate f) a reply
early_owed f a b bad reply h exact =
    record {
      bytes = h.bytes;
      told = told_all a b h.bytes h.taken h.ended;
      owed = owed_so (OfVerify h.bytes f) _ _ _ _ (opening_bad h.few bad h.wrong) exact.0
          exact.1;
    }

pub refusal_decides : (f : Contents) (a b : Option (List ℕ)) (buffer : List ℕ) (o : Opened) (reply : Reply) (h : HasOpened a b buffer o) → IsOfOne o.version
    → TellsFalse fail_line f o.no.0 reply → IsDecided f (h.front ++ h.rest) reply
refusal_decides f a b buffer o reply h one (x, first, exact) more few =
    let same = append_assoc h.front h.rest more in
    subst (λ (c : List ℕ). OfVerify c f reply.answer reply.text) (sym same)
    (false_owed OfYes f (h.front ++ (h.rest ++ more)) o.version o.no.0 (cut_lines (h.rest ++ more)) reply.answer reply.text
    (subst (λ (c : List ℕ). length c ≤ CERT_LIMIT) same few) (h.opens (h.rest ++ more)) one x first exact)

pub lines_judged : (f : Contents) (a b : Option (List ℕ)) (buffer : List ℕ) (o : Opened) (c : FedState) (h : HasOpened a b buffer o) → IsOfOne o.version
    → (s : SolidData) → IsChecked f o.no.0 s → IsFed o.version s 3 h.rest c → HasChecked f o.no.0 (h.front ++ h.rest) c
lines_judged f a b buffer o c h one s k fed = record {
  version = o.version;
  one = one;
  holds = k.holds;
  front = h.front;
  rest = h.rest;
  whole = refl;
  opens = h.opens;
  fed = subst (λ (x : SolidData). IsFed o.version x 3 h.rest c) k.solid fed;
}

-- the first part of a book has begun
pub opened_begun : (f : Contents) (a b : Option (List ℕ)) (buffer : List ℕ) (o : Opened) (begun : PartStart) → HasOpened a b buffer o → o.version ≡ Three
    → begun ≡ (record { no = o.no; line = 3; from = o.from; to = o.to; came = o.came }) → HasBegun f [] a b buffer begun
opened_begun f a b buffer o begun h three is =
    let whole = ap (λ (l : List ℕ). h.front ++ l) h.behind in
    subst (HasBegun f [] a b buffer) (sym is) (record {
      front = h.front;
      taken = subst (Consumes a b) whole h.taken;
      long = ap (λ (l : List ℕ). length l) (sym whole) ∙ h.long;
      begins = book_begins f h.front o.no.0 (subst (λ (v : Version). (more : List ℕ) → Opens (h.front ++ more) v o.no.0 (cut_lines more)) three h.opens);
    })

-- the places behind line 2 are in the buffer
pub opened_place : (a b : Option (List ℕ)) (buffer : List ℕ) (o : Opened) → HasOpened a b buffer o → AreInBuffer buffer o
opened_place a b buffer o h =
    let long = h.long in
    let ordered = h.ordered in
    let within = h.within in
    let rest = ap (λ (l : List ℕ). length l) h.behind ∙ between_long buffer o.from o.to ordered within in
    record {
      few = h.few;
      ordered = ordered;
      within = within;
      holds =
          (let n : o.to - o.from ≤ o.came = omega (arith, long, rest, length-append h.front h.rest) in n);
    }
