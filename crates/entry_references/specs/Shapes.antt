-- How the values of a record are laid out.
use Rattle.std.specs.Prelude.{◌≡◌, ◌+◌, ◌^◌, ◌<◌, true, false, Some}
use Rattle.entry_references.specs.declared.fault.RefFault.{RefFault}
use Rattle.entry_references.specs.declared.fault.RefFault.TheVariants as fault
use Rattle.entry_references.specs.declared.group.Group.{Group as Between}
use Rattle.entry_references.specs.GroupPlaces.{group_between}
use Rattle.entry_references.specs.Layout.{Own}
use Rattle.entry_references.specs.Refs.{Record, is_listed, has_layout, own_of, second_group, are_groups}

-- these are its own values, and there is its second group
pub record HasShape (r : Record) (own : Own) (names : Between) : Type 0 where
  pub listed : is_listed r ≡ true
  pub own_values : own_of r ≡ Some own
  pub groups : are_groups own r.1 ≡ true
  pub second : second_group own r.1 ≡ group_between r.1 names.before names.count
  pub small : names.before + names.count < 2 ^ 32

-- of the faults of type and values the first is this one, unless memory ran out
abbrev pub IsShapeFault : Record → RefFault → Type 0
IsShapeFault r fault.Unlisted = is_listed r ≡ false
IsShapeFault r fault.Layout = (is_listed r ≡ true) × (has_layout r ≡ false)
IsShapeFault r fault.Dangling = ⊥
IsShapeFault r fault.NoMemory = Unit {0}
