use Rattle.std.proofs.Common.{◌≡◌, ◌++◌, drop, flat_map}
use Rattle.remedy_text.specs.Lines.{flag_item}
use Rattle.remedy_text.proofs.loop_steps.put_flag_items.Given as goal

abbrev pub invariant-items : goal.invariant-items
invariant-items l = l.out ++ flat_map flag_item (drop l.i l.items) ≡ l.fn.out ++ flat_map flag_item l.items
