-- Lists that fail alike under new numbers keep the verdict.
use Rattle.std.specs.Prelude.{◌≡◌, ℕ, ◌==◌, Bool, true, false, List, [], ◌∷◌, Contains, Some, slice_get}
use Rattle.std.specs.List.{position_or_len}
use Rattle.std.proofs.Common.{refl, sym, ◌∙◌, ap, subst, arith}
use Rattle.std.proofs.lemmas.Bool.{eqb-true}
use Rattle.std.proofs.lemmas.Option.{same_Some}
use Rattle.solid_data.specs.Obligations.{Obligation, FirstFalse}
use Rattle.solid_data.specs.declared.verdict.Failing.{Failing}
use Rattle.entry_references.proofs.RisingLists.{in_from}
use Rattle.solid_extract.specs.Extracted.{new_number}
use Rattle.solid_extract.proofs.Places.{place_step, place_found}
use Rattle.extraction_laws.specs.Alike.{FailAlike}
use Rattle.extraction_laws.specs.Kept.{IsNewNumber, kept_names, renamed_failing, KeepsVerdict}
use Rattle.extraction_laws.specs.Relabelled.{AreNamedAlike}
use Rattle.extraction_laws.proofs.AlikeLists.{HaveOneVerdict, one_verdict}
use Rattle.extraction_laws.proofs.RenamedPlaces.{failing_is, renumbered_parts}

-- what stands at the place of a number is that number
place_is : (ms : List ℕ) (m j : ℕ) → slice_get ms (position_or_len (λ k. k == m) ms) ≡ Some j → j ≡ m
place_is [] m j e = absurd cc
place_is (x ∷ ms) m j e = by_test (x == m) refl e (λ h. place_is ms m j h)
  where
    by_test : (b : Bool) → (x == m) ≡ b → slice_get (x ∷ ms) (position_or_len (λ k. k == m) (x ∷ ms)) ≡ Some j
        → (slice_get ms (position_or_len (λ k. k == m) ms) ≡ Some j → j ≡ m) → j ≡ m
    by_test true t h on = sym (same_Some x j (sym (ap (slice_get (x ∷ ms)) (place_step x m ms true t)) ∙ h)) ∙ eqb-true x m t
    by_test false t h on = on (sym (ap (slice_get (x ∷ ms)) (place_step x m ms false t)) ∙ h)

-- no other number becomes that of a kept entry
new_apart : (kept : List ℕ) (m k : ℕ) → Contains kept m → new_number kept k ≡ new_number kept m → m ≡ k
new_apart kept m k c e =
    let places : position_or_len (λ j. j == k) kept ≡ position_or_len (λ j. j == m) kept = omega (arith, e) in
    place_is kept k m (ap (slice_get kept) places ∙ place_found kept m (in_from kept m c))

pub keeps_verdict : (kept : List ℕ) (ps qs : List Obligation) → FailAlike (AreNamedAlike (kept_names kept)) ps qs → KeepsVerdict kept ps qs
keeps_verdict kept ps qs h = record {
  all = one.all;
  fails = λ x. (
    λ bad. let k = one.fails x bad in subst (FirstFalse qs) (is_renamed x k.0 k.1) k.2,
    λ bad.
        let k = one.only (renamed_failing kept x) bad in
        let n = renumbered_parts (IsNewNumber kept) k.0.rule k.0.entity.0 k.0.place (new_number kept x.entity.0) x.place k.1.named in
        subst (FirstFalse ps) (failing_is k.0 x k.1.rule (new_apart kept k.0.entity.0 x.entity.0 n.0.0 n.0.1) n.1) k.2,
  );
  only = λ y bad. let k = one.only y bad in (k.0, is_renamed k.0 y k.1, k.2);
}
  where
    one : HaveOneVerdict (AreNamedAlike (kept_names kept)) ps qs
    one = one_verdict (AreNamedAlike (kept_names kept)) ps qs h

    is_renamed : (x y : Failing) → AreNamedAlike (kept_names kept) x y → y ≡ renamed_failing kept x
    is_renamed x y k = let n = renumbered_parts (IsNewNumber kept) x.rule x.entity.0 x.place y.entity.0 y.place k.named in failing_is y
        (renamed_failing kept x) (sym k.rule) n.0.1 (sym n.1)
