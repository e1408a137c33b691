-- Going over the values of a record.
use Rattle.std.specs.Prelude.{◌≡◌, ℕ, zero, suc, ◌+◌, ◌-◌, ◌^◌, ◌<◌, ◌≤◌, Bool, true, false, if◌then◌else◌, List, [], ◌∷◌, ◌++◌, length, map, drop, Some, None}
use Rattle.std.specs.Prelude.{slice_get, Ok, Err}
use Rattle.std.proofs.Common.{sym, ◌∙◌, ap, arith, append_assoc}
use Rattle.std.proofs.lemmas.Option.{slice_get_within}
use Rattle.iges_fields.specs.declared.value.Value.{Value}
use Rattle.brep_lists.specs.Record.{count_of, count_at, value_or_default}
use Rattle.brep_lists.specs.declared.entity_kind.EntityKind.{EntityKind}
use Rattle.brep_lists.proofs.Places.{open_at, none_at, got}
use Rattle.record_values.specs.declared.due.Counted.{Counted}
use Rattle.record_values.specs.declared.due.ValueKind.{ValueKind}
use Rattle.record_values.specs.declared.misfit.Misfit.{Misfit}
use Rattle.record_values.specs.Expected.{Expected, single, count_of_items, times, counted_layout, counts, may_come, after, next_due, first_misfit, layout}
use Rattle.record_values.specs.Expected.{misfit_from, GoesOn, IsCounted}

abbrev stop : ℕ → List Expected → Misfit
stop at es = record { place = at; due = next_due es }

-- the value in a place may come
pub took : (vs : List Value) (at : ℕ) (es : List Expected) (v : Value) → Some v ≡ slice_get vs at → may_come es v ≡ true
    → misfit_from at es (drop at vs) ≡ misfit_from (at + 1) (after es v) (drop (at + 1) vs)
took vs at es v e f =
    ap (misfit_from at es) (open_at vs at v (sym e))
    ∙ ap (λ b. if b then misfit_from (at + 1) (after es v) (drop (at + 1) vs) else stop at es) f

pub refused : (vs : List Value) (at : ℕ) (es : List Expected) (v : Value) → Some v ≡ slice_get vs at → may_come es v ≡ false
    → misfit_from at es (drop at vs) ≡ stop at es
refused vs at es v e f =
    ap (misfit_from at es) (open_at vs at v (sym e))
    ∙ ap (λ b. if b then misfit_from (at + 1) (after es v) (drop (at + 1) vs) else stop at es) f

pub ended : (vs : List Value) (at : ℕ) (es : List Expected) → None ≡ slice_get vs at → misfit_from at es (drop at vs) ≡ stop at es
ended vs at es e = ap (misfit_from at es) (none_at vs at (sym e))

-- ---- one after the other

-- from a place on one gets to another, where the last of what is due is left
abbrev pub Gets : List Value → ℕ → List Expected → ℕ → List Expected → Type 0
Gets vs at es next left = (rest : List Expected) → misfit_from at (es ++ rest) (drop at vs) ≡ misfit_from next (left ++ rest) (drop next vs)

pub gets_more : (vs : List Value) (at next end : ℕ) (es before xs left : List Expected) → Gets vs at es next before → before ≡ xs ++ left
    → GoesOn vs next xs (Ok end) → Gets vs at es end left
gets_more vs at next end es before xs left g e h rest =
    g rest ∙ ap (λ bs. misfit_from next (bs ++ rest) (drop next vs)) e
    ∙ ap (λ ys. misfit_from next ys (drop next vs)) (append_assoc xs left rest) ∙ h (left ++ rest)

pub gets_stop : (vs : List Value) (at next : ℕ) (m : Misfit) (es before xs left : List Expected) → Gets vs at es next before → before ≡ xs ++ left
    → GoesOn vs next xs (Err m) → GoesOn vs at es (Err m)
gets_stop vs at next m es before xs left g e h rest =
    g rest ∙ ap (λ bs. misfit_from next (bs ++ rest) (drop next vs)) e
    ∙ ap (λ ys. misfit_from next ys (drop next vs)) (append_assoc xs left rest) ∙ h (left ++ rest)

pub one_slot : (shape : List ValueKind) (i : ℕ) (s : ValueKind) → drop i shape ≡ s ∷ drop (i + 1) shape → map single (drop i shape) ≡ (single s ∷ [])
    ++ map single (drop (i + 1) shape)
one_slot shape i s e = ap (map single) e

pub one_group : (n : ℕ) (es : List Expected) → 0 < n → times n es ≡ es ++ times (n - 1) es
one_group zero es some = absurd (omega (arith, some))
one_group (suc n) es some = let less : n ≡ suc n - 1 = omega arith in ap (λ k. es ++ times k es) less

-- ---- counts

pub counted : (vs : List Value) (at n : ℕ) (c : Counted) (v : Value) → length vs < 2 ^ 64 → Some v ≡ slice_get vs at → counts c (value_or_default vs at) ≡ true
    → n ≡ count_at vs at → IsCounted vs at c (Ok n)
counted vs at n c v few e f k = (
  omega (arith, few, slice_get_within vs at v (sym e)),
  λ rest. took vs at (count_of_items c ∷ rest) v e (sym (ap (counts c) (got vs at (Some v) e)) ∙ f)
      ∙ ap (λ m. misfit_from (at + 1) (counted_layout c m ++ rest) (drop (at + 1) vs)) (sym (k ∙ ap count_of (got vs at (Some v) e))),
)

pub miscounted : (vs : List Value) (at : ℕ) (c : Counted) (v : Value) → Some v ≡ slice_get vs at → counts c (value_or_default vs at) ≡ false
    → (rest : List Expected) → misfit_from at (count_of_items c ∷ rest) (drop at vs) ≡ stop at (count_of_items c ∷ rest)
miscounted vs at c v e f rest = refused vs at (count_of_items c ∷ rest) v e (sym (ap (counts c) (got vs at (Some v) e)) ∙ f)

-- ---- the place of a misfit

within_from : (at : ℕ) (es : List Expected) (vs : List Value) → let m = misfit_from at es vs in m.place ≤ at + length vs
within_from at es [] = omega arith
within_from at es (v ∷ vs) = by_test (may_come es v) (within_from (at + 1) (after es v) vs)
  where
    by_test : (b : Bool) → (let m = misfit_from (at + 1) (after es v) vs in m.place ≤ at + 1 + length vs)
        → let m = (if b then misfit_from (at + 1) (after es v) vs else stop at es) in m.place ≤ at + length (v ∷ vs)
    by_test true h = omega (arith, h)
    by_test false h = omega arith

pub misfit_within : (kind : EntityKind) (vs : List Value) (m : Misfit) → m ≡ first_misfit kind vs → m.place ≤ length vs
unfolding first_misfit
misfit_within kind vs m e = let place : m.place ≡ (first_misfit kind vs).place = ap (λ (x : Misfit). x.place) e in omega
    (arith, place, within_from 0 (layout kind) vs)
