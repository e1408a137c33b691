use Rattle.std.proofs.Common.{◌+◌, ◌-◌, ◌*◌, ◌≤◌, ◌∙◌, arith, rules}
use Rattle.std.proofs.lemmas.Int.{to_z-of_z}
use mir.Syntax.{w64}
use mir.Val.{SFits}
use Rattle.named_once.proofs.ToldLemmas.{next_number}
use Rattle.named_once.proofs.numbers.numbers_from.Goals as goal

pub numbers-preserved : goal.numbers-preserved
numbers-preserved c =
    let fits : SFits w64 c.int_at.result = search rules in
    record {
      told = next_number c.args.values.now c.numbers.at c.args.step c.numbers.left c.numbers.numbers c.push.new.self _ _ c.numbers-test.true
          (to_z-of_z w64 c.int_at.result fits ∙ c.int_at.ensures) c.in_ok-push.ensures.ok c.numbers.invariant.told;
      room = omega (arith, c.numbers.invariant.room, c.requires.short, c.numbers-test.true);
    }
