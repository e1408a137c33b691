use Rattle.std.proofs.Common.{◌≡◌, ◌++◌, drop, flat_map, map}
use Rattle.std.specs.List.{enumerate_from}
use Rattle.remedy_text.proofs.Steps.{found_left}
use Rattle.remedy_text.specs.Lines.{body_item}
use Rattle.remedy_text.specs.Steps.{first_face}
use Rattle.remedy_text.proofs.body_steps.put_each_body.Given as goal

abbrev pub invariant-bodies : goal.invariant-bodies
invariant-bodies l = record {
  text : l.out ++ found_left (body_item l.view.file.now) l.bodies l.i ≡ l.fn.out ++ flat_map (body_item l.view.file.now) (enumerate_from 0 l.bodies);
  named : l.named ++ map first_face (drop l.i l.bodies) ≡ l.fn.named ++ map first_face l.bodies;
}
