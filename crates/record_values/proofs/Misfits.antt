-- The first misfit is where no record goes on.
use Rattle.std.specs.Prelude.{◌≡◌, ℕ, zero, suc, ◌+◌, ◌<◌, ◌≤◌, ◌&&◌, Bool, true, false, if◌then◌else◌, pos, List, [], ◌∷◌, ◌++◌, length, take}
use Rattle.std.proofs.Common.{refl, sym, ◌∙◌, ap, subst, arith, inl, inr}
use Rattle.std.proofs.lemmas.Bool.{cases_Bool}
use Rattle.iges_fields.specs.declared.value.Value.{Value}
use Rattle.iges_fields.specs.declared.value.Value.TheVariants.{Int}
use Rattle.brep_lists.specs.declared.entity_kind.EntityKind.{EntityKind}
use Rattle.brep_lists.proofs.Decided.{decided}
use Rattle.record_values.specs.declared.due.ValueKind.TheVariants as slot
use Rattle.record_values.specs.declared.due.Counted.TheVariants as counted
use Rattle.record_values.specs.declared.misfit.Misfit.{Misfit}
use Rattle.record_values.specs.Begins.{Begins, IsFirstMisfit, MisfitsAreFirst}
use Rattle.record_values.specs.Expected.{Expected, single, count_of_items, layout, may_come, after, next_due, misfit_from, first_misfit}
use Rattle.record_values.proofs.Accepts.{accepts, accepts_is}
use Rattle.brep_lists.proofs.Fitting.{and_left}

-- ---- what begins a record

-- each of the values may come
abbrev all_come : List Expected → List Value → Bool
all_come es [] = true
all_come es (v ∷ vs) = may_come es v && all_come (after es v) vs

abbrev after_all : List Expected → List Value → List Expected
after_all es [] = es
after_all es (v ∷ vs) = after_all (after es v) vs

and3 : (a b c : Bool) → (a && (b && c)) ≡ ((a && b) && c)
and3 true b c = refl
and3 false b c = refl

accepts_both : (es : List Expected) (xs ys : List Value) → accepts es (xs ++ ys) ≡ (all_come es xs && accepts (after_all es xs) ys)
accepts_both es [] ys = refl
accepts_both es (v ∷ xs) ys = ap (λ b. may_come es v && b) (accepts_both (after es v) xs ys) ∙ and3 (may_come es v) (all_come (after es v) xs)
    (accepts (after_all (after es v) xs) ys)

-- values that may come where this is due, after which the others are due
abbrev filler : Expected → List Value
filler (single s) = Int (pos 0) ∷ []
filler (count_of_items counted.Voids) = Int (pos 0) ∷ []
filler (count_of_items counted.Curves) = Int (pos 0) ∷ []
filler (count_of_items counted.Faces) = Int (pos 1) ∷ Int (pos 0) ∷ Int (pos 0) ∷ []
filler (count_of_items counted.Loops) = Int (pos 1) ∷ Int (pos 0) ∷ Int (pos 0) ∷ []
filler (count_of_items counted.Tuples) = Int (pos 1) ∷ Int (pos 0) ∷ Int (pos 0) ∷ Int (pos 0) ∷ Int (pos 0) ∷ Int (pos 0) ∷ []
filler (count_of_items counted.Edges) = Int (pos 1) ∷ Int (pos 0) ∷ Int (pos 0) ∷ Int (pos 0) ∷ Int (pos 0) ∷ Int (pos 0) ∷ []
filler (count_of_items counted.Vertices) = Int (pos 1) ∷ Int (pos 0) ∷ Int (pos 0) ∷ Int (pos 0) ∷ []

filled : (e : Expected) (es : List Expected) (ys : List Value) → accepts (e ∷ es) (filler e ++ ys) ≡ accepts es ys
filled (single slot.Pointer) es ys = refl
filled (single slot.Index) es ys = refl
filled (single slot.Flag) es ys = refl
filled (single slot.Type) es ys = refl
filled (single slot.Coordinate) es ys = refl
filled (count_of_items counted.Voids) es ys = refl
filled (count_of_items counted.Curves) es ys = refl
filled (count_of_items counted.Faces) es ys = refl
filled (count_of_items counted.Loops) es ys = refl
filled (count_of_items counted.Tuples) es ys = refl
filled (count_of_items counted.Edges) es ys = refl
filled (count_of_items counted.Vertices) es ys = refl

fillers : List Expected → List Value
fillers [] = []
fillers (e ∷ es) = filler e ++ fillers es

ended : (es : List Expected) → accepts es (fillers es) ≡ true
unfolding fillers
ended [] = refl
ended (e ∷ es) = filled e es (fillers es) ∙ ended es

to_begin : (kind : EntityKind) (xs : List Value) → all_come (layout kind) xs ≡ true → Begins kind xs
to_begin kind xs e =
    let rest = fillers (after_all (layout kind) xs) in
    let whole : accepts (layout kind) (xs ++ rest) ≡ true
    = accepts_both (layout kind) xs rest ∙ ap (λ b. b && accepts (after_all (layout kind) xs) rest) e ∙ ended (after_all (layout kind) xs) in
    (rest, (decided kind (xs ++ rest)).0 (sym (accepts_is kind (xs ++ rest)) ∙ whole))

from_begin : (kind : EntityKind) (xs : List Value) → Begins kind xs → all_come (layout kind) xs ≡ true
from_begin kind xs h =
    and_left (all_come (layout kind) xs) (accepts (after_all (layout kind) xs) h.0)
    (sym (accepts_both (layout kind) xs h.0) ∙ accepts_is kind (xs ++ h.0) ∙ (decided kind (xs ++ h.0)).1 h.1)

-- ---- the first misfit

pub record IsStop (es : List Expected) (at : ℕ) (vs : List Value) (m : Misfit) : Type 0 where
  pub come : ℕ
  pub place : m.place ≡ at + come
  pub within : come ≤ length vs
  pub before : (i : ℕ) → i ≤ come → all_come es (take i vs) ≡ true
  pub here : come < length vs → all_come es (take (suc come) vs) ≡ false

abbrev stop : ℕ → List Expected → Misfit
stop at es = record { place = at; due = next_due es }

none_came : (es : List Expected) (vs : List Value) (i : ℕ) → i ≤ 0 → all_come es (take i vs) ≡ true
none_came es vs zero h = refl
none_came es vs (suc i) h = absurd (omega (arith, h))

stopped : (es : List Expected) (at : ℕ) (v : Value) (vs : List Value) → may_come es v ≡ false → IsStop es at (v ∷ vs) (stop at es)
stopped es at v vs e = record {
  come = 0;
  place = omega arith;
  within = omega arith;
  before = none_came es (v ∷ vs);
  here = λ h. ap (λ b. b && all_come (after es v) (take 0 vs)) e;
}

came : (es : List Expected) (v : Value) (vs : List Value) (n : ℕ) → may_come es v ≡ true → ((i : ℕ) → i ≤ n → all_come (after es v) (take i vs) ≡ true)
    → (i : ℕ) → i ≤ suc n → all_come es (take i (v ∷ vs)) ≡ true
came es v vs n e k zero h = refl
came es v vs n e k (suc i) h = ap (λ b. b && all_come (after es v) (take i vs)) e ∙ k i (omega (arith, h))

went_on : (es : List Expected) (at : ℕ) (v : Value) (vs : List Value) (m : Misfit) → may_come es v ≡ true → IsStop (after es v) (at + 1) vs m
    → IsStop es at (v ∷ vs) m
went_on es at v vs m e s =
    let place = s.place in
    let within = s.within in
    record {
      come = suc s.come;
      place = omega (arith, place);
      within = omega (arith, within);
      before = came es v vs s.come e s.before;
      here = λ h. ap (λ b. b && all_come (after es v) (take (suc s.come) vs)) e ∙ s.here (omega (arith, h));
    }

stop_of : (es : List Expected) (at : ℕ) (vs : List Value) → IsStop es at vs (misfit_from at es vs)
stop_of es at [] = record { come = 0; place = omega arith; within = omega arith; before = none_came es []; here = λ h. absurd (omega (arith, h)) }
stop_of es at (v ∷ vs) =
    let rest = misfit_from (at + 1) (after es v) vs in
    elim (cases_Bool (may_come es v)) [
      | inl e ↦ subst (IsStop es at (v ∷ vs)) (sym (ap (λ b. if b then rest else stop at es) e)) (went_on es at v vs rest e (stop_of (after es v) (at + 1) vs))
      | inr e ↦ subst (IsStop es at (v ∷ vs)) (sym (ap (λ b. if b then rest else stop at es) e)) (stopped es at v vs e)
    ]

first : (kind : EntityKind) (values : List Value) (m : Misfit) → IsStop (layout kind) 0 values m → IsFirstMisfit kind values (m.place + 1)
first kind values m s =
    let place = s.place in
    let within = s.within in
    let same : m.place + 1 ≡ suc s.come = omega (arith, place) in
    record {
      some = omega arith;
      within = omega (arith, place, within);
      before = λ i h. to_begin kind (take i values) (s.before i (omega (arith, place, h)));
      here = λ h begun.
          let yes : all_come (layout kind) (take (suc s.come) values) ≡ true = subst (λ k. all_come (layout kind) (take k values) ≡ true) same
          (from_begin kind (take (m.place + 1) values) begun) in
          let never : false ≡ true = sym (s.here (omega (arith, place, h))) ∙ yes in
          absurd cc;
    }

pub misfits_are_first : MisfitsAreFirst
unfolding first_misfit
misfits_are_first kind values = first kind values (misfit_from 0 (layout kind) values) (stop_of (layout kind) 0 values)
