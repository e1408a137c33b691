-- How the uses of a loop are held.
use Rattle.std.specs.Prelude.{◌≤◌, List, take}
use Rattle.solid_data.specs.declared.solid.LoopUse.{LoopUse}
use Rattle.solid_data.specs.declared.use_list.Held.{Held}
use Rattle.solid_data.specs.declared.use_list.Held.TheVariants as held

abbrev pub uses_held : Held → List LoopUse
uses_held (held.Few few) = take few.count few.uses
uses_held (held.Many uses) = uses.items

-- the few are at most four
abbrev pub HoldsFew : Held → Type 0
HoldsFew (held.Few few) = few.count ≤ 4
HoldsFew (held.Many uses) = Unit {0}
