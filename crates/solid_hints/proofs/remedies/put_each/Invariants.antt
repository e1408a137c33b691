use Rattle.std.proofs.Common.{◌≡◌, ◌++◌, drop, flat_map}
use Rattle.std.specs.List.{enumerate_from}
use Rattle.solid_hints.specs.ShellHints.{faces_named, remedy_at}
use Rattle.solid_hints.proofs.remedies.put_each.Given as goal

abbrev pub invariant-remedies : goal.invariant-remedies
invariant-remedies l = record {
  text : l.out ++ flat_map (remedy_at l.view.listing l.view.file.now l.view.solid.now) (enumerate_from l.i (drop l.i l.remedies)) ≡ l.fn.out
      ++ flat_map (remedy_at l.view.listing l.view.file.now l.view.solid.now) (enumerate_from 0 l.remedies);
  named : l.named ++ flat_map (faces_named l.view.listing l.view.solid.now) (drop l.i l.remedies) ≡ l.fn.named
      ++ flat_map (faces_named l.view.listing l.view.solid.now) l.remedies;
}
