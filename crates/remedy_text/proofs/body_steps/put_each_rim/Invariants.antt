use Rattle.std.proofs.Common.{◌≡◌, ◌++◌, flat_map}
use Rattle.std.specs.List.{enumerate_from}
use Rattle.remedy_text.proofs.Steps.{found_left}
use Rattle.remedy_text.specs.Lines.{rim_item}
use Rattle.remedy_text.proofs.body_steps.put_each_rim.Given as goal

abbrev pub invariant-rims : goal.invariant-rims
invariant-rims l = l.out ++ found_left (rim_item l.view.solid.now l.edges) l.rims l.i ≡ l.fn.out ++ flat_map (rim_item l.view.solid.now l.edges) (enumerate_from 0 l.rims)
