use Rattle.std.proofs.Common.{◌<◌, arith, length, Some}
use Rattle.cert_state.specs.Progress.{loops_of}
use Rattle.std.proofs.lemmas.Result.{err_from_is_err_and}
use Rattle.solid_data.specs.declared.solid.Shell.{Shell}
use Rattle.edge_uses.specs.ShellRows.{shell_rows}
use Rattle.shell_rules.specs.ShellObligations.{shell_obligations, solid_obligations}
use Rattle.cert_lines.specs.declared.parts.ShellPart.{ShellPart}
use Rattle.cert_maker.specs.Certified.{IsPart}
use Rattle.shell_rules.proofs.Few.{few_parts}
use Rattle.shell_rules.proofs.Shells.{from_first, one_shell, shell_fails}
use Rattle.cert_maker.proofs.Zipping.{agree_first, agree_more, agree_done}
use Rattle.cert_maker.proofs.making.shell_parts.Goals as goal

pub shells-init : goal.shells-init
shells-init c = record {
  left = from_first c.args.solid.now;
  parts = agree_first (λ (h : Shell) (part : ShellPart). IsPart (shell_rows c.args.solid.now h) (loops_of (Some h)) part) c.args.solid.now.shells
      c.new-parts.result c.new-parts.ensures;
  before = c.none-before.ensures c.args.solid.now;
}

pub overflow_cast-at : goal.overflow_cast-at
overflow_cast-at c =
    let few : length c.args.solid.now.shells < 536870912 = (few_parts c.args.solid.now c.shell_count-k-end.ensures.numbered).few_shells in
    omega (arith, few, c.shell_count-k-end.ensures.count, c.shells-test.true)

pub returns-in_err-part-clause-fails : goal.returns-in_err-part-clause-fails
returns-in_err-part-clause-fails c =
    let p = err_from_is_err_and c.from_residual.result c.from_residual.ensures.1 in
    rw (p.1, p.2) (shell_fails (shell_obligations c.args.solid.now) (solid_obligations c.args.solid.now) c.args.solid.now.shells c.shells.k
    c.shell_at-shell.result.now c.in_err-part.field-0.0 c.shell_at-shell.ensures c.shells.invariant.left c.in_err-part.ensures.fails)

pub shells-preserved : goal.shells-preserved
shells-preserved c = record {
  left = one_shell (shell_obligations c.args.solid.now) (solid_obligations c.args.solid.now) c.args.solid.now.shells c.shells.k c.shell_at-shell.result.now
      c.shell_at-shell.ensures c.shells.invariant.left c.in_ok-part.ensures.holds;
  parts = agree_more (λ (h : Shell) (part : ShellPart). IsPart (shell_rows c.args.solid.now h) (loops_of (Some h)) part) c.args.solid.now.shells c.shells.k
      c.shell_at-shell.result.now c.in_ok-part.part c.shells.parts c.push_part.new.parts c.shell_at-shell.ensures
      c.in_ok-part.ensures.part c.in_ok-push_part.ensures c.shells.invariant.parts;
  before = c.in_ok-part.ensures.before;
}

pub returns-clause-parts : goal.returns-clause-parts
returns-clause-parts c =
    agree_done (λ (h : Shell) (part : ShellPart). IsPart (shell_rows c.args.solid.now h) (loops_of (Some h)) part) c.args.solid.now.shells c.shells.k
    c.shells.parts (omega (arith, c.shell_count-k-end.ensures.count, c.shells-test.false)) c.shells.invariant.parts
