use Rattle.std.proofs.Common.{◌∷◌, false, get_or, sym, ◌∙◌, arith, rules}
use Rattle.where_unjudged.proofs.Marks.{marked_more}
use Rattle.where_unjudged.proofs.marking.mark_shells.Goals as goal

pub shells-preserved : goal.shells-preserved
shells-preserved c = record {
  len = search rules;
  marks = λ k lt. marked_more (c.args.of.now.outer ∷ c.args.of.now.voids) c.unwrap.result c.shells.i k (get_or c.shells.marks k false)
      (get_or c.mark_named.new.marks k false) _
      (sym c.item.ensures ∙ c.unwrap.ensures) (c.mark_named.ensures k (omega (arith, c.shells.invariant.len, lt))) (c.shells.invariant.marks k lt);
}
