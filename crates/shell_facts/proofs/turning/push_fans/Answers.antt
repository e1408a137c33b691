use Rattle.std.proofs.Common.{ℕ, ◌++◌, ◌∙◌, ap, arith, refl, sym, get_or, flat_map}
use Rattle.shell_components.specs.Groups.{places_of}
use Rattle.shell_facts.specs.FanFacts.{least_if, on_fans}
use Rattle.shell_facts.proofs.TurnSteps.{fan_step, least_short, row_split, rows_inside}
use Rattle.shell_facts.proofs.turning.push_fans.Goals as goal

pub push_fan_of-requires-clause-inside : goal.push_fan_of-requires-clause-inside
push_fan_of-requires-clause-inside c =
    rows_inside c.args.vertex.0 c.rows.i (get_or c.places-rows.result.now c.rows.i 0) c.args.paired.now c.places-rows.result.now
    (c.places-rows.ensures ∙ ap (places_of c.args.vertex.0) c.requires.tables.starts) c.rows-test.true refl

pub rows-preserved : goal.rows-preserved
rows-preserved c =
    let r : ℕ = get_or c.places-rows.result.now c.rows.i 0 in
    record {
      few = omega (arith, c.rows.invariant.few, c.in_ok-fan.ensures.1, least_short c.args.leasts.now r);
      told = fan_step c.args.paired.now c.args.leasts.now c.rows.fan c.in_ok-fan.fan r _ c.rows.out.items c.push_fan_of.new.out.items _
          (ap (λ rs. c.rows.out.items ++ on_fans c.args.paired.now c.args.leasts.now c.rows.fan (flat_map (least_if c.args.leasts.now) rs))
          (sym (row_split c.places-rows.result.now c.rows.i r c.rows-test.true refl)) ∙ c.rows.invariant.told)
          c.in_ok-fan.ensures.0 c.in_ok-fan.ensures.1;
    }
