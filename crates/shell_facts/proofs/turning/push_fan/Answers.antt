use Rattle.std.proofs.Common.{arith}
use Rattle.shell_facts.proofs.TurnSteps.{turn_step}
use Rattle.shell_facts.proofs.turning.push_fan.Goals as goal

pub turns-preserved : goal.turns-preserved
turns-preserved c = record {
  inside = c.turned-row.ensures.inside;
  told = turn_step c.args.paired.now c.args.fan c.turns.left c.turns.row c.turned-row.result c.turns.out.items c.push_row.new.out.items _
      (omega (arith, c.turns-test.true)) c.turns.invariant.told c.in_ok-push_row.ensures c.turned-row.ensures.turn;
}
