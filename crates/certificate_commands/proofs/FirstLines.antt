-- The first two lines of a certificate, read while they come.
use Rattle.std.proofs.Common.{◌≡◌, ℕ, ◌+◌, ◌-◌, ◌≤◌, ◌<◌, take, drop, List, [], ◌++◌, length, Option, refl, sym, ap, subst, ◌∙◌, arith, append_assoc}
use Rattle.std.proofs.lemmas.List.{append-nil, length-append, take-take}
use Rattle.std.proofs.Math.Seq.{take-add}
use Rattle.std.specs.Io.KnownBytes.{Consumes, IsAtEnd}
use Rattle.iges_io.proofs.Streams.{consumes_none, consumes_more}
use Rattle.cert_lines.specs.Opening.{IsBadOpening}
use Rattle.cert_text.specs.declared.fault.Illegal.{Illegal}
use Rattle.cert_text.specs.declared.TheConstants.{CERT_LIMIT}
use Rattle.topo_certificate.specs.declared.opening.Stage.{Stage}
use Rattle.topo_certificate.specs.declared.opening.Stage.TheVariants as stage
use Rattle.topo_certificate.specs.OpeningFed.{Shows, IsOpening, IsWaiting}
use Rattle.topo_certificate.specs.OpeningFed.{Opened as OpeningState}
use Rattle.certificate_commands.specs.declared.opening.Opened.{Opened}
use Rattle.certificate_commands.specs.Judging.{HasTooMany, HasOpened, HasOpenedBadly, EndsEarly}

-- so many bytes were taken off, and the opening stands for them
pub record IsOpenedSoFar (before now : Option (List ℕ)) (came : ℕ) (o : OpeningState) : Type 0 where
  pub bytes : List ℕ
  pub taken : Consumes before now bytes
  pub long : length bytes ≡ came
  pub waits : IsWaiting o.stage
  pub stands : IsOpening o bytes

pub opened_none : (left : Option (List ℕ)) (o : OpeningState) → IsWaiting o.stage → IsOpening o [] → IsOpenedSoFar left left 0 o
opened_none left o waits stands = record { bytes = []; taken = consumes_none left; long = refl; waits = waits; stands = stands }

pub opened_more : (a b c : Option (List ℕ)) (came count : ℕ) (old new : OpeningState) (x : List ℕ) (s : IsOpenedSoFar a b came old) → Consumes b c x
    → length x ≡ count
    → IsWaiting new.stage → IsOpening new (s.bytes ++ x) → IsOpenedSoFar a c (came + count) new
opened_more a b c came count old new x s k is waits stands =
    let long = s.long in
    record {
      bytes = s.bytes ++ x;
      taken = consumes_more a b c s.bytes x s.taken k;
      long = omega (arith, long, is, length-append s.bytes x);
      waits = waits;
      stands = stands;
    }

pub opened_early : (a b c : Option (List ℕ)) (came : ℕ) (o : OpeningState) (bad : Illegal) → IsOpenedSoFar a b came o → came ≤ CERT_LIMIT → Consumes b c []
    → IsAtEnd c
    → ((text : List ℕ) → IsOpening o text → IsBadOpening text bad) → EndsEarly a c bad
opened_early a b c came o bad s few k e wrong =
    let long = s.long in
    record {
      bytes = s.bytes;
      taken = subst (Consumes a c) (append-nil s.bytes) (consumes_more a b c s.bytes [] s.taken k);
      ended = e;
      few = (let h : length s.bytes ≤ CERT_LIMIT = omega (arith, long, few) in h);
      wrong = wrong s.bytes s.stands;
    }

pub opened_too_many : (a b c : Option (List ℕ)) (came : ℕ) (o : OpeningState) (x : List ℕ) → IsOpenedSoFar a b came o → Consumes b c x
    → CERT_LIMIT < came + length x
    → HasTooMany a c 0
opened_too_many a b c came o x s k above =
    let long = s.long in (
      s.bytes ++ x,
      consumes_more a b c s.bytes x s.taken k,
      (let h : CERT_LIMIT < 0 + length (s.bytes ++ x) = omega (arith, long, above, length-append s.bytes x) in h),
    )

-- what a stage shows
shows : (o : OpeningState) (s : Stage) (text : List ℕ) → o.stage ≡ s → IsOpening o text → Shows s o.kept text
shows o s text is h = subst (λ (x : Stage). Shows x o.kept text) is h

pub opened_bad : (a b c : Option (List ℕ)) (came count : ℕ) (old new : OpeningState) (x : List ℕ) (bad : Illegal) (s : IsOpenedSoFar a b came old)
    → Consumes b c x
    → length x ≡ count → came + count ≤ CERT_LIMIT → new.stage ≡ stage.Failed bad → IsOpening new (s.bytes ++ x)
    → HasOpenedBadly a c bad (came + count)
opened_bad a b c came count old new x bad s k is few failed stands =
    let long = s.long in
    record {
      bytes = s.bytes ++ x;
      taken = consumes_more a b c s.bytes x s.taken k;
      long = (let h : length (s.bytes ++ x) ≡ came + count = omega (arith, long, is, length-append s.bytes x) in h);
      few = few;
      always = shows new (stage.Failed bad) (s.bytes ++ x) failed stands;
    }

-- what came of a piece in the buffer, up to a place and behind it
pub cut_piece : (buffer x : List ℕ) (from to : ℕ) → from ≤ to → x ≡ take to buffer → take from x ++ take (to - from) (drop from buffer) ≡ x
cut_piece buffer x from to h is =
    let n : from + (to - from) ≡ to = omega arith in
    let front : take from x ≡ take from buffer = ap (λ (l : List ℕ). take from l) is ∙ take-take from to buffer h in
    ap (λ (l : List ℕ). l ++ take (to - from) (drop from buffer)) front ∙ sym (take-add from (to - from) buffer) ∙ ap (λ (k : ℕ). take k buffer) n ∙ sym is

pub opened_both : (a b c : Option (List ℕ)) (came : ℕ) (old new : OpeningState) (buffer x : List ℕ) (o : Opened) (s : IsOpenedSoFar a b came old)
    → Consumes b c x
    → x ≡ take o.to buffer → length x ≡ o.to → o.came ≡ came + o.to → o.came ≤ CERT_LIMIT → o.to ≤ length buffer → o.from ≤ length x
    → new.stage ≡ stage.Done o.version o.no → IsOpening new (s.bytes ++ take o.from x) → HasOpened a c buffer o
opened_both a b c came old new buffer x o s k at is come few within used done stands =
    let long = s.long in
    let ordered : o.from ≤ o.to = omega (arith, used, is) in
    let front = s.bytes ++ take o.from x in
    let rest = take (o.to - o.from) (drop o.from buffer) in
    let cut : front ++ rest ≡ s.bytes ++ x = append_assoc s.bytes (take o.from x) rest
    ∙ ap (λ (l : List ℕ). s.bytes ++ l) (cut_piece buffer x o.from o.to ordered at) in
    record {
      front = front;
      rest = rest;
      taken = subst (Consumes a c) (sym cut) (consumes_more a b c s.bytes x s.taken k);
      long = ap (λ (l : List ℕ). length l) cut ∙ (let h : length (s.bytes ++ x) ≡ o.came = omega (arith, long, is, come, length-append s.bytes x) in h);
      few = few;
      ordered = ordered;
      within = within;
      behind = refl;
      opens = shows new (stage.Done o.version o.no) front done stands;
    }
