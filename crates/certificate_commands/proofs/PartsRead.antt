-- The parts of a book one after another.
use Rattle.std.proofs.Common.{◌≡◌, ◌∙◌, ℕ, ◌+◌, ◌-◌, ◌≤◌, ◌<◌, List, [], ◌∷◌, ◌++◌, length, Option, Result, Ok, Err, sym, ap, subst, arith}
use Rattle.std.proofs.lemmas.List.{length-append}
use Rattle.std.specs.Io.KnownBytes.{Consumes}
use Rattle.iges_io.specs.Reading.{TakesAtMost}
use Rattle.iges_io.specs.declared.reading.TheConstants.{PIECE}
use Rattle.iges_io.proofs.Streams.{consumes_none, consumes_more}
use Rattle.iges_params.specs.Contents.{Contents}
use Rattle.cert_text.specs.declared.TheConstants.{CERT_LIMIT}
use Rattle.certificate_commands.specs.declared.books.PartStart.{PartStart}
use Rattle.command_replies.specs.declared.reply.Stop.{Stop}
use Rattle.command_replies.specs.Texts.{accepted_line, accepted_lines}
use Rattle.certificate_commands.specs.Judging.{ReadsOn}
use Rattle.command_replies.specs.Replies.{CountAfterCall, TakesWithin}
use Rattle.certificate_commands.specs.Books.{GoesOn, HasBegun}
use Rattle.certificate_commands.proofs.Judged.{accepted_more}

pub nearer : (limit came held p : ℕ) → p < came - held → came ≤ limit → limit - (came - held) < limit - p
nearer limit came held p further few = omega arith

-- the next part has begun and the last one has its line
pub told_more : (f : Contents) (entry left after : Option (List ℕ)) (there buffer now : List ℕ) (first b next : PartStart) (out new : List ℕ)
    → ((before : Option (List ℕ)) → HasBegun f [] before entry there first → (ns : List ℕ) × HasBegun f ns before left buffer b × (out ≡ accepted_lines ns))
    → ((ns : List ℕ) (before : Option (List ℕ)) → HasBegun f ns before left buffer b → HasBegun f (ns ++ b.no.0 ∷ []) before after now next)
    → new ≡ out ++ accepted_line b.no.0
    → (before : Option (List ℕ)) → HasBegun f [] before entry there first → (ns : List ℕ) × HasBegun f ns before after now next × (new ≡ accepted_lines ns)
told_more f entry left after there buffer now first b next out new told goes put before h =
    let at = told before h in
    (at.0 ++ b.no.0 ∷ [], goes at.0 before at.1, put ∙ ap (λ (t : List ℕ). t ++ accepted_line b.no.0) at.2 ∙ sym (accepted_more at.0 b.no.0))

-- so many bytes were taken since the first part began
abbrev pub TakenSince : (entry left : Option (List ℕ)) (came now : ℕ) → Type 0
TakenSince entry left came now = (bytes : List ℕ) × Consumes entry left bytes × (now ≡ came + length bytes)

pub taken_none : (left : Option (List ℕ)) (came : ℕ) → TakenSince left left came came
taken_none left came = ([], consumes_none left, omega arith)

pub taken_more : (entry left after : Option (List ℕ)) (came : ℕ) (now : List ℕ) (b next : PartStart) → TakenSince entry left came b.came
    → GoesOn left after now b next → TakenSince entry after came next.came
taken_more entry left after came now b next t m =
    let long = m.came in
    let before = t.2 in (
      t.0 ++ m.bytes,
      consumes_more entry left after t.0 m.bytes t.1 m.taken,
      (let n : next.came ≡ came + length (t.0 ++ m.bytes) = omega (arith, long, before, length-append t.0 m.bytes) in n),
    )

pub taken_within : {T : Type 0} (entry left after : Option (List ℕ)) (came now : ℕ) (result : Result T Stop) → TakenSince entry left came now
    → now ≤ CERT_LIMIT → TakesWithin (CERT_LIMIT - now) left after result → TakesWithin (CERT_LIMIT - came) entry after result
taken_within entry left after came now (Ok x) t few h =
    let long = t.2 in
    let k = h.2 in (
      t.0 ++ h.0,
      consumes_more entry left after t.0 h.0 t.1 h.1,
      (let n : length (t.0 ++ h.0) ≤ (CERT_LIMIT - came) + PIECE = omega (arith, long, few, k, length-append t.0 h.0) in n),
    )
taken_within entry left after came now (Err stop) t few h =
    let long = t.2 in
    let k = h.2 in (
      t.0 ++ h.0,
      consumes_more entry left after t.0 h.0 t.1 h.1,
      (let n : length (t.0 ++ h.0) ≤ CERT_LIMIT - came = omega (arith, long, few, k, length-append t.0 h.0) in n),
    )

pub takes_few : (entry left after : Option (List ℕ)) (came now : ℕ) → TakenSince entry left came now → now ≤ CERT_LIMIT
    → TakesAtMost (CERT_LIMIT - now) left after
    → TakesAtMost (CERT_LIMIT - came) entry after
takes_few entry left after came now t few h =
    let long = t.2 in
    let k = h.2 in (
      t.0 ++ h.0,
      consumes_more entry left after t.0 h.0 t.1 h.1,
      (let n : length (t.0 ++ h.0) ≤ CERT_LIMIT - came = omega (arith, long, few, k, length-append t.0 h.0) in n),
    )

pub since_takes : (entry left : Option (List ℕ)) (came now : ℕ) → TakenSince entry left came now → now ≤ CERT_LIMIT → TakesAtMost (CERT_LIMIT - came) entry left
since_takes entry left came now t few =
    let long = t.2 in
    (t.0, t.1, (let n : length t.0 ≤ CERT_LIMIT - came = omega (arith, long, few) in n))

-- what the last call did the reading since then did
pub reads_since : {T : Type 0} (entry left after : Option (List ℕ)) (came now old mid new : ℕ) (result : Result T Stop) → TakenSince entry left came now
    → now ≤ CERT_LIMIT → mid ≡ old → ReadsOn {T = T} (CERT_LIMIT - now) left after mid new result
    → ReadsOn {T = T} (CERT_LIMIT - came) entry after old new result
reads_since entry left after came now old mid new result t few same h = record {
  count = subst (λ (n : ℕ). CountAfterCall n new result) same h.count;
  taken = taken_within entry left after came now result t few h.taken;
}
