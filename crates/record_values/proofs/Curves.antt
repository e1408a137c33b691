-- The curves of a tuple, and the places of the tuples of a loop.
use Rattle.std.specs.Prelude.{◌≡◌, ℕ, zero, suc, ◌+◌, ◌-◌, ◌*◌, ◌<◌, ◌≤◌, not, Bool, true, false, ℤ, List, [], ◌∷◌, ◌++◌, length, take, drop, flat_map, sum_by}
use Rattle.std.specs.Prelude.{option_map, Option, Some, None, slice_get, IsSome, if◌then◌else◌}
use Rattle.std.specs.List.{position_from}
use Rattle.std.proofs.Common.{◌∙◌, ap, arith, length-drop}
use Rattle.std.proofs.lemmas.List.Sums.{sum_by-cons}
use Rattle.std.proofs.lemmas.Option.{slice_get_past}
use Rattle.iges_base.proofs.Lists.{open_at}
use Rattle.iges_fields.specs.declared.value.Value.{Value}
use Rattle.iges_params.specs.Contents.{Contents}
use Rattle.brep_lists.specs.DueValues.{DueValue, MeetsAll}
use Rattle.brep_lists.specs.Record.{LoopTuple, curve_due, tuple_due, Fits}
use Rattle.brep_lists.specs.declared.entity_kind.EntityKind.TheVariants.{Loop as «loop»}
use Rattle.brep_lists.proofs.OnlyRead.{missing, curves_only}
use Rattle.brep_lists.proofs.Places.{none_at}
use Rattle.solid_data.specs.declared.verdict.Rule.{Rule}
use Rattle.record_values.specs.declared.bad_values.BadValue.{BadValue}
use Rattle.record_values.specs.BadValue.{names_geometry, tuple_size, in_tuple}
use Rattle.record_values.proofs.Names.{is_there}

-- ---- the first curve that isn't one

abbrev pub curve_of : Bool × ℤ → ℤ
curve_of c = c.1

abbrev pub isnt_one : Contents → Bool × ℤ → Bool
isnt_one f c = not (names_geometry f c.1)

abbrev pub first_from : Contents → List (Bool × ℤ) → ℕ → Option ℕ
first_from f cs i = position_from (isnt_one f) i (drop i cs)

pub is_curve : (cs : List (Bool × ℤ)) (i : ℕ) → i < length cs → IsSome (option_map curve_of (slice_get cs i))
is_curve cs i h = there (slice_get cs i) (is_there cs i h)
  where
    there : (o : Option (Bool × ℤ)) → IsSome o → IsSome (option_map curve_of o)
    there None h = h
    there (Some c) h = h

of_curve : (cs : List (Bool × ℤ)) (i : ℕ) (z : ℤ) → Some z ≡ option_map curve_of (slice_get cs i) → (b : Bool) × (slice_get cs i ≡ Some (b, z))
of_curve cs i z e = from (slice_get cs i) e
  where
    from : (o : Option (Bool × ℤ)) → Some z ≡ option_map curve_of o → (b : Bool) × (o ≡ Some (b, z))
    from None e = absurd cc
    from (Some c) e = let same : c.1 ≡ z = cc in (c.0, ap (λ (x : ℤ). Some (c.0, x)) same)

pub bad_here : (f : Contents) (cs : List (Bool × ℤ)) (i : ℕ) (z : ℤ) → Some z ≡ option_map curve_of (slice_get cs i) → names_geometry f z ≡ false
    → first_from f cs i ≡ Some i
bad_here f cs i z e bad =
    let c = of_curve cs i z e in
    ap (position_from (isnt_one f) i) (open_at cs i (c.0, z) c.1)
    ∙ ap (λ b. if not b then Some i else position_from (isnt_one f) (i + 1) (drop (i + 1) cs)) bad

pub good_here : (f : Contents) (cs : List (Bool × ℤ)) (i : ℕ) (z : ℤ) → Some z ≡ option_map curve_of (slice_get cs i) → names_geometry f z ≡ true
    → first_from f cs i ≡ first_from f cs (i + 1)
good_here f cs i z e good =
    let c = of_curve cs i z e in
    ap (position_from (isnt_one f) i) (open_at cs i (c.0, z) c.1)
    ∙ ap (λ b. if not b then Some i else position_from (isnt_one f) (i + 1) (drop (i + 1) cs)) good

pub none_bad : (f : Contents) (cs : List (Bool × ℤ)) (i : ℕ) → length cs ≤ i → first_from f cs i ≡ None
none_bad f cs i past = ap (position_from (isnt_one f) i) (none_at cs i (slice_get_past cs i past))

-- ---- places of tuples

-- at the i-th of the tuples that are left, the first of which begins at a place
abbrev pub at_tuple : Contents → Rule → ℕ → ℕ → List LoopTuple → BadValue
at_tuple f r at i ts = in_tuple f r (at + sum_by tuple_size (take i ts)) (slice_get ts i)

pub this_tuple : (f : Contents) (r : Rule) (at i : ℕ) (all rest : List LoopTuple) (t : LoopTuple) → all ≡ t ∷ rest → i ≡ 0
    → at_tuple f r at i all ≡ in_tuple f r at (Some t)
this_tuple f r at i all rest t e z =
    ap (λ n. at_tuple f r at n all) z ∙ ap (at_tuple f r at 0) e
    ∙ (let none : at + sum_by tuple_size (take 0 (t ∷ rest)) ≡ at = omega arith in ap (λ n. in_tuple f r n (Some t)) none)

pub later_tuple : (f : Contents) (r : Rule) (at i : ℕ) (all rest : List LoopTuple) (t : LoopTuple) → all ≡ t ∷ rest → 0 < i
    → at_tuple f r at i all ≡ at_tuple f r (at + tuple_size t) (i - 1) rest
later_tuple f r at zero all rest t e some = absurd (omega (arith, some))
later_tuple f r at (suc i) all rest t e some =
    let less : i ≡ suc i - 1 = omega arith in
    let sum : at + sum_by tuple_size (take (suc i) (t ∷ rest)) ≡ at + tuple_size t + sum_by tuple_size (take i rest) =
    omega (arith, sum_by-cons tuple_size t (take i rest)) in
    ap (at_tuple f r at (suc i)) e ∙ ap (λ n. in_tuple f r n (slice_get rest i)) sum ∙ ap (λ n. at_tuple f r (at + tuple_size t) n rest) less

curves_room : (cs : List (Bool × ℤ)) (ds : List DueValue) (vs : List Value) → MeetsAll (flat_map curve_due cs ++ ds) vs → 2 * length cs ≤ length vs
curves_room [] ds vs h = omega arith
curves_room (c ∷ cs) ds [] h = absurd h
curves_room (c ∷ cs) ds (v ∷ []) h = absurd h.1
curves_room (c ∷ cs) ds (v ∷ w ∷ vs) h = omega (arith, curves_room cs ds vs h.1.1)

-- tuples take no more values than there are, but for the count of the last one's curves
tuples_room : (ts : List LoopTuple) (vs : List Value) → MeetsAll (flat_map tuple_due ts) vs → sum_by tuple_size ts ≤ length vs + 1
tuples_room [] vs h = omega arith
tuples_room (t ∷ ts) [] h = absurd h
tuples_room (t ∷ ts) (a ∷ []) h = absurd h.1
tuples_room (t ∷ ts) (a ∷ b ∷ []) h = absurd h.1.1
tuples_room (t ∷ ts) (a ∷ b ∷ c ∷ []) h = absurd h.1.1.1
tuples_room (t ∷ ts) (a ∷ b ∷ c ∷ d ∷ []) h =
    let none = missing t.curves ts h.1.1.1.1 in
    let no_curves : length t.curves ≡ 0 = ap (λ cs. length cs) none.0 in
    let no_tuples : sum_by tuple_size ts ≡ 0 = ap (λ us. sum_by tuple_size us) none.1 in
    omega (arith, sum_by-cons tuple_size t ts, no_curves, no_tuples)
tuples_room (t ∷ ts) (a ∷ b ∷ c ∷ d ∷ k ∷ vs) h =
    let rest = curves_only t.curves (flat_map tuple_due ts) vs h.1.1.1.1.1 in
    omega (
      arith,
      sum_by-cons tuple_size t ts,
      curves_room t.curves (flat_map tuple_due ts) vs h.1.1.1.1.1,
      tuples_room ts (drop (2 * length t.curves) vs)
          rest.1,
      length-drop (2 * length t.curves) vs,
    )

pub loop_room : (ts : List LoopTuple) (vs : List Value) → Fits «loop» vs ts → 1 + sum_by tuple_size ts ≤ length vs + 1
loop_room ts [] h = absurd h
loop_room ts (v ∷ vs) h = omega (arith, tuples_room ts vs h.1)
