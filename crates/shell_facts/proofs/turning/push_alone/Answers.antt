use Rattle.std.proofs.Common.{◌++◌, ◌∙◌, ap, arith, flat_map}
use Rattle.shell_components.specs.Groups.{places_of}
use Rattle.shell_facts.specs.FanFacts.{alone_numbered}
use Rattle.shell_facts.proofs.TurnSteps.{alone_read, read_done}
use Rattle.shell_facts.proofs.turning.push_alone.Goals as goal

pub returns : goal.returns
returns c =
    read_done (alone_numbered c.args.rows.now) c.places-points.result.now c.points.i c.points.out.items _ (omega (arith, c.points-test.false))
    c.points.invariant
    ∙ (ap (λ ps. c.args.out.now.items ++ flat_map (alone_numbered c.args.rows.now) ps) (c.places-points.ensures ∙ ap (places_of c.args.vertex.0) c.requires)
    ∙ ap (λ xs. c.args.out.now.items ++ xs) (alone_read c.args.rows.now c.args.vertex.0))
