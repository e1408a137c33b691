use Rattle.std.proofs.Common.{Some}
use Rattle.cert_state.specs.Progress.{loops_of}
use Rattle.solid_data.specs.declared.solid.Shell.{Shell}
use Rattle.edge_uses.specs.Before.{AreBelow}
use Rattle.edge_uses.specs.ShellRows.{shell_rows}
use Rattle.shell_rules.specs.ShellObligations.{shell_obligations, solid_obligations}
use Rattle.cert_lines.specs.declared.parts.ShellPart.{ShellPart}
use Rattle.cert_maker.specs.Certified.{IsPart}
use Rattle.shell_rules.proofs.Shells.{RemainFrom}
use Rattle.cert_maker.proofs.Zipping.{AgreeUpTo}
use Rattle.cert_maker.proofs.making.shell_parts.Given as goal

abbrev pub invariant-shells : goal.invariant-shells
invariant-shells l = record {
  left : RemainFrom (shell_obligations l.solid) (solid_obligations l.solid) l.solid.shells l.k;
  parts : AgreeUpTo (λ (h : Shell) (part : ShellPart). IsPart (shell_rows l.solid h) (loops_of (Some h)) part) l.solid.shells l.k l.parts;
  before : AreBelow l.solid l.k l.before;
}
