-- Private: solids that name the same shells.
use Rattle.std.specs.Prelude.{◌≡◌, ℕ, ℤ, pos, Bool, List}
use Rattle.iges_params.specs.Contents.{Contents}
use Rattle.brep_lists.specs.declared.entity_kind.EntityKind.TheVariants.{Solid as solid}
use Rattle.brep_walk.specs.Places.{record_places, shells}
use Rattle.solid_data.specs.Obligations.{AllHold}
use Rattle.solid_data.specs.declared.verdict.Verdict.{Verdict}
use Rattle.solid_data.specs.declared.verdict.Verdict.TheVariants.{Closed, Fails}

-- Entry n is a solid, its record fits, and these are its shells with their flags.
pub record IsSolidOf (f : Contents) (n : ℕ) (items : List (ℤ × Bool)) : Type 0 where
  pub fits : AllHold (record_places f (pos n) 0 solid (pos n))
  pub shells_are : shells f (pos n) ≡ items

-- what fails isn't said of entry m itself
abbrev pub IsOfOther : ℕ → Verdict → Type 0
IsOfOther m Closed = Unit {0}
IsOfOther m (Fails x) = ¬ (x.entity.0 ≡ m)
