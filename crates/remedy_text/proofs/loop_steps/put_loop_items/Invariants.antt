use Rattle.std.proofs.Common.{◌≡◌, ◌++◌, drop, flat_map, map}
use Rattle.remedy_text.specs.Lines.{loop_item}
use Rattle.remedy_text.specs.Steps.{loop_face}
use Rattle.remedy_text.proofs.loop_steps.put_loop_items.Given as goal

abbrev pub invariant-loops : goal.invariant-loops
invariant-loops l = record {
  text : l.out ++ flat_map (loop_item l.view.file.now) (drop l.i l.loops) ≡ l.fn.out ++ flat_map (loop_item l.view.file.now) l.loops;
  named : l.named ++ map loop_face (drop l.i l.loops) ≡ l.fn.named ++ map loop_face l.loops;
}
