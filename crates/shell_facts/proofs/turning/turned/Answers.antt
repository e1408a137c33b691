use Rattle.std.proofs.Common.{◌≤◌, length, subst}
use Rattle.std.specs.Prelude.{MatchOption, Option}
use Rattle.solid_data.specs.declared.solid.RowId.{RowId}
use Rattle.edge_uses.specs.RowRelations.{Turns}
use Rattle.shell_facts.proofs.TurnSteps.{turn_is, turn_inside}
use Rattle.shell_facts.proofs.turning.turned.Goals as goal

pub returns-clause-turn : goal.returns-clause-turn
returns-clause-turn c =
    turn_is c.args.paired.now c.args.r c.unwrap.result.0 c.requires.mates
    (subst (λ (o : Option RowId). MatchOption o (length c.args.paired.now.rows ≤ c.args.r) (λ (t : RowId). Turns c.args.paired.now c.args.r t.0))
    c.unwrap.ensures c.turn.ensures)

pub returns-clause-inside : goal.returns-clause-inside
returns-clause-inside c =
    turn_inside c.args.paired.now c.args.r c.unwrap.result.0 c.requires.whole.rows
    (subst (λ (o : Option RowId). MatchOption o (length c.args.paired.now.rows ≤ c.args.r) (λ (t : RowId). Turns c.args.paired.now c.args.r t.0))
    c.unwrap.ensures c.turn.ensures)
