use Rattle.std.specs.Prelude.{take}
use Rattle.solid_hints.proofs.ToldHints.{AreTold}
use Rattle.solid_hints.proofs.remedies.put_each_tried.Given as goal

abbrev pub invariant-shells : goal.invariant-shells
invariant-shells l = AreTold l.view.on.now.listing l.view.on.now.file.now l.view.on.now.solid.now (take l.i l.shells) l.fn.out l.out l.fn.named l.named
