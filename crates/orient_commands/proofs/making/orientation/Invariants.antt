use Rattle.orient_commands.specs.Reading.{IsBegun}
use Rattle.orient_commands.specs.Shells.{IsReady}
use Rattle.orient_commands.proofs.ShellSteps.{Below}
use Rattle.orient_commands.proofs.making.orientation.Given as goal

abbrev pub invariant-shells : goal.invariant-shells
invariant-shells l = record {
  ready : Below IsReady l.solid l.k;
  begun : IsBegun l.solid l.solid.entity.0 l.k l.ringed l.out;
}
