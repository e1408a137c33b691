-- What a record may go on with, value by value.
use Rattle.std.specs.Prelude.{◌≡◌, ℕ, zero, suc, ◌+◌, ◌^◌, ◌<◌, Bool, if◌then◌else◌, List, [], ◌∷◌, ◌++◌, drop, Result, Ok, Err}
use Rattle.iges_fields.specs.declared.value.Value.{Value}
use Rattle.brep_lists.specs.DueValues.{at_least_one, count}
use Rattle.brep_lists.specs.Record.{count_of}
use Rattle.brep_lists.specs.declared.entity_kind.EntityKind.{EntityKind}
use Rattle.brep_lists.specs.declared.entity_kind.EntityKind.TheVariants.{Solid as solid, Shell as shell, Face as face, Loop as «loop», EdgeList as edges}
use Rattle.brep_lists.specs.declared.entity_kind.EntityKind.TheVariants.{VertexList as vertices}
use Rattle.brep_lists.specs.OwnValues.{is_filler, meets}
use Rattle.brep_lists.specs.Groups.{passes}
use Rattle.brep_lists.specs.declared.groups.Slot.TheVariants as stands
use Rattle.record_values.specs.declared.due.Due.{Due}
use Rattle.record_values.specs.declared.due.Due.TheVariants as due
use Rattle.record_values.specs.declared.due.ValueKind.{ValueKind}
use Rattle.record_values.specs.declared.due.ValueKind.TheVariants as slot
use Rattle.record_values.specs.declared.due.Counted.{Counted}
use Rattle.record_values.specs.declared.due.Counted.TheVariants as counted
use Rattle.record_values.specs.declared.misfit.Misfit.{Misfit}

-- one value that is due: one that is no count, or the count of what follows
pub data Expected : Type 0 where
  single : ValueKind → Expected
  count_of_items : Counted → Expected

-- the layout of a record, up to what its counts bring
abbrev pub layout : EntityKind → List Expected
layout solid = single slot.Pointer ∷ single slot.Flag ∷ count_of_items counted.Voids ∷ []
layout shell = count_of_items counted.Faces ∷ []
layout face = single slot.Pointer ∷ count_of_items counted.Loops ∷ []
layout «loop» = count_of_items counted.Tuples ∷ []
layout edges = count_of_items counted.Edges ∷ []
layout vertices = count_of_items counted.Vertices ∷ []

-- what each of the items brings that a count counts
abbrev pub item_layout : Counted → List Expected
item_layout counted.Voids = single slot.Pointer ∷ single slot.Flag ∷ []
item_layout counted.Faces = single slot.Pointer ∷ single slot.Flag ∷ []
item_layout counted.Loops = single slot.Pointer ∷ []
item_layout counted.Tuples = single slot.Type ∷ single slot.Pointer ∷ single slot.Index ∷ single slot.Flag ∷ count_of_items counted.Curves ∷ []
item_layout counted.Curves = single slot.Flag ∷ single slot.Pointer ∷ []
item_layout counted.Edges = single slot.Pointer ∷ single slot.Pointer ∷ single slot.Index ∷ single slot.Pointer ∷ single slot.Index ∷ []
item_layout counted.Vertices = single slot.Coordinate ∷ single slot.Coordinate ∷ single slot.Coordinate ∷ []

-- the same, so many times
abbrev pub times : ℕ → List Expected → List Expected
times zero es = []
times (suc n) es = es ++ times n es

-- what follows a count of n; in a face the flag of the outer loop comes before the loops
abbrev pub counted_layout : Counted → ℕ → List Expected
counted_layout counted.Loops n = single slot.Flag ∷ times n (item_layout counted.Loops)
counted_layout c n = times n (item_layout c)

-- whether the value may be in the slot
abbrev pub fills : ValueKind → Value → Bool
fills slot.Pointer v = passes stands.Whole v
fills slot.Index v = passes stands.Whole v
fills slot.Flag v = passes stands.Flag v
fills slot.Type v = passes stands.Flag v
fills slot.Coordinate v = passes stands.Coordinate v

-- whether the value may be the count; those of voids and of curves may be 0, or left out
abbrev pub counts : Counted → Value → Bool
counts counted.Voids v = meets (count (count_of v)) v
counts counted.Curves v = meets (count (count_of v)) v
counts c v = meets (at_least_one (count_of v)) v

-- whether the value may come next where these are due; after all of them come integers and left-out values
abbrev pub may_come : List Expected → Value → Bool
may_come [] v = is_filler v
may_come (single s ∷ es) v = fills s v
may_come (count_of_items c ∷ es) v = counts c v

-- what is due after the value
abbrev pub after : List Expected → Value → List Expected
after [] v = []
after (single s ∷ es) v = es
after (count_of_items c ∷ es) v = counted_layout c (count_of v) ++ es

-- the word for what is due next
abbrev pub next_due : List Expected → Due
next_due [] = due.CountOrPointer
next_due (single s ∷ es) = due.Single s
next_due (count_of_items c ∷ es) = due.Count

-- The first value that may not come, by its place where the first value is in this one, and what is due there. Where all may come it is the place after them.
abbrev pub misfit_from : ℕ → List Expected → List Value → Misfit
misfit_from at es [] = record { place = at; due = next_due es }
misfit_from at es (v ∷ vs) = if may_come es v then misfit_from (at + 1) (after es v) vs else record { place = at; due = next_due es }

-- the first value of a record with which no record of the kind goes on, and what is due there
unfoldable pub first_misfit : EntityKind → List Value → Misfit
first_misfit kind values = misfit_from 0 (layout kind) values

-- Looking from a place on for what is due, one gets to a place after it, or to the first misfit, whatever is due then.
abbrev pub GoesOn : List Value → ℕ → List Expected → Result ℕ Misfit → Type 0
GoesOn vs at es (Ok next) = (rest : List Expected) → misfit_from at (es ++ rest) (drop at vs) ≡ misfit_from next rest (drop next vs)
GoesOn vs at es (Err m) = (rest : List Expected) → misfit_from at (es ++ rest) (drop at vs) ≡ m

-- In a place is a count of n, or the first misfit.
abbrev pub IsCounted : List Value → ℕ → Counted → Result ℕ Misfit → Type 0
IsCounted vs at c (Ok n) = (at + 1 < 2 ^ 64)
    × ((rest : List Expected) → misfit_from at (count_of_items c ∷ rest) (drop at vs) ≡ misfit_from (at + 1) (counted_layout c n ++ rest) (drop (at + 1) vs))
IsCounted vs at c (Err m) = (rest : List Expected) → misfit_from at (count_of_items c ∷ rest) (drop at vs) ≡ m
