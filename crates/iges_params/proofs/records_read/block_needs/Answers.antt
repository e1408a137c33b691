use Rattle.std.proofs.Common.{sym, ap, ◌∙◌, arith}
use Rattle.std.specs.Prelude.{option_copied}
use Rattle.iges_params.proofs.Needs.{most_more, needs_more}
use Rattle.iges_params.proofs.records_read.block_needs.Goals as goal

pub entries-preserved : goal.entries-preserved
entries-preserved c =
    let at = sym c.placed_at.ensures.placed ∙ ap (λ o. option_copied o) c.unwrap.ensures in
    let pushed = c.in_ok-push_need.ensures {u = tt} in
    let before = c.entries.invariant in
    record {
      few = omega (arith, pushed.few);
      many = omega (arith, pushed.many);
      most = most_more c.args.entries.now c.entries.i _ c.entries.most c.need_of-need.result c.max-most.result at before.most c.need_of-need.ensures
          (omega (arith, c.max-most.ensures)) (omega (arith, c.max-most.ensures));
      needs = needs_more c.args.entries.now c.entries.i c.entries.most c.entries.needs.items c.push_need.new.needs.items before.most before.needs pushed.items;
    }
