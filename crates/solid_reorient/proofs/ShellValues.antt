-- The items of a shell's record with other flags.
use Rattle.std.specs.Prelude.{◌≡◌, suc, Bool, ℤ, List, [], ◌∷◌, length, flat_map}
use Rattle.std.proofs.Common.{refl, sym, ap, subst}
use Rattle.iges_fields.specs.declared.value.Value.{Value}
use Rattle.brep_lists.specs.DueValues.{at_least_one, Meets, MeetsAll}
use Rattle.brep_lists.specs.Record.{pair_due, items_of, Fits, IsRecordOf}
use Rattle.brep_lists.specs.declared.entity_kind.EntityKind.TheVariants.{Shell as shell}
use Rattle.brep_lists.proofs.OnlyRead.{only_read}
use Rattle.brep_walk.specs.Places.{numbers}
use Rattle.solid_reorient.specs.Reflagged.{pairs_with, values_with}

-- faces with these flags in place of the first ones
abbrev pub faces_flagged : List Bool → List (ℤ × Bool) → List (ℤ × Bool)
faces_flagged [] items = items
faces_flagged (b ∷ bs) [] = []
faces_flagged (b ∷ bs) (i ∷ items) = (i.0, b) ∷ faces_flagged bs items

pub length-flagged : (bs : List Bool) (items : List (ℤ × Bool)) → length (faces_flagged bs items) ≡ length items
length-flagged [] items = refl
length-flagged (b ∷ bs) [] = refl
length-flagged (b ∷ bs) (i ∷ items) = ap suc (length-flagged bs items)

pub numbers_flagged : (bs : List Bool) (items : List (ℤ × Bool)) → numbers (faces_flagged bs items) ≡ numbers items
numbers_flagged [] items = refl
numbers_flagged (b ∷ bs) [] = refl
numbers_flagged (b ∷ bs) (i ∷ items) = ap (λ (zs : List ℤ). i.0 ∷ zs) (numbers_flagged bs items)

fillers : (bs : List Bool) (vs : List Value) → MeetsAll [] vs → MeetsAll [] (pairs_with bs vs)
fillers [] vs h = h
fillers (b ∷ bs) [] h = h
fillers (b ∷ bs) (p ∷ []) h = h
fillers (b ∷ bs) (p ∷ v ∷ vs) h = (h.0, (tt, fillers bs vs h.1.1))

pairs_fit : (bs : List Bool) (items : List (ℤ × Bool)) (vs : List Value) → MeetsAll (flat_map pair_due items) vs
    → MeetsAll (flat_map pair_due (faces_flagged bs items)) (pairs_with bs vs)
pairs_fit [] items vs h = h
pairs_fit (b ∷ bs) [] vs h = fillers (b ∷ bs) vs h
pairs_fit (b ∷ bs) (i ∷ items) [] h = absurd h
pairs_fit (b ∷ bs) (i ∷ items) (p ∷ []) h = absurd h.1
pairs_fit (b ∷ bs) (i ∷ items) (p ∷ v ∷ vs) h = (h.0, (refl, pairs_fit bs items vs h.1.1))

shell_fits : (bs : List Bool) (items : List (ℤ × Bool)) (vs : List Value) → Fits shell vs items → Fits shell (values_with bs vs) (faces_flagged bs items)
shell_fits bs items [] h = absurd h
shell_fits bs items (v ∷ vs) h =
    let same : length items ≡ length (faces_flagged bs items) = sym (length-flagged bs items) in
    (subst (λ n. Meets (at_least_one n) v) same h.0, pairs_fit bs items vs h.1)

-- A record of a shell stays one, and its items are those with these flags.
module _ (bs : List Bool) (vs : List Value) (is : IsRecordOf shell vs) where
  pub items_flagged : items_of shell (values_with bs vs) ≡ faces_flagged bs (items_of shell vs)
  items_flagged = sym (only_read shell (values_with bs vs) (faces_flagged bs (items_of shell vs)) (shell_fits bs (items_of shell vs) vs is))

  pub still_record : IsRecordOf shell (values_with bs vs)
  still_record = subst (Fits shell (values_with bs vs)) (sym items_flagged) (shell_fits bs (items_of shell vs) vs is)
