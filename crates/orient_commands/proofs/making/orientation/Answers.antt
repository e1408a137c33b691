use Rattle.std.proofs.Common.{rules, ◌<◌, arith, length}
use Rattle.cert_state.proofs.UseSizes.{few_shells}
use Rattle.orient_commands.proofs.WholeText.{begun_first, oriented}
use Rattle.orient_commands.proofs.making.orientation.Goals as goal

pub shells-init : goal.shells-init
shells-init c = record {
  ready = λ j lt. absurd (omega (arith, lt));
  begun = begun_first c.args.solid.now c.entity.result c.new-out.result c.put_line.new.out c.entity.ensures.entity c.entity.ensures.numbered.number
      c.new-out.ensures c.in_ok-put_line.ensures;
}

pub overflow_cast-k : goal.overflow_cast-k
overflow_cast-k c =
    let few : length c.args.solid.now.shells < 536870912 = few_shells c.args.solid.now c.shell_count-k-end.ensures.numbered in
    omega (arith, few, c.shell_count-k-end.ensures.count, c.shells-test.true)

pub returns-clause-text : goal.returns-clause-text
returns-clause-text c =
    oriented c.args.solid.now c.args.solid.now.entity.0 c.shells.k c.shells.ringed c.shells.out c.into_bytes.result c.answer_of.result c.shells.invariant.begun
    (omega (arith, c.shell_count-k-end.ensures.count, c.shells-test.false, c.shells.auto.k-end)) (search rules) c.answer_of.ensures
