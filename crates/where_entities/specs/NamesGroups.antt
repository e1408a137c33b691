-- Private: where the names of a record are.
use Rattle.std.specs.Prelude.{◌≡◌, ◌+◌, ◌^◌, ◌<◌, true, Some}
use Rattle.entry_references.specs.declared.group.Group.{Group}
use Rattle.entry_references.specs.Layout.{Own}
use Rattle.entry_references.specs.Refs.{Record, has_layout, own_of, second_group}
use Rattle.entry_references.specs.GroupPlaces.{group_between}

-- the record fits its type, and this is its second group
pub record IsNamesGroup (r : Record) (g : Group) : Type 0 where
  pub fits : has_layout r ≡ true
  pub own : Own
  pub own_values : own_of r ≡ Some own
  pub second : second_group own r.1 ≡ group_between r.1 g.before g.count
  pub small : g.before + g.count < 2 ^ 32
