use Rattle.std.proofs.Common.{false, get_or, sym, ◌∙◌, arith, rules}
use Rattle.where_unjudged.proofs.Marks.{marked_more}
use Rattle.where_unjudged.proofs.marking.mark_faces.Goals as goal

pub faces-preserved : goal.faces-preserved
faces-preserved c = record {
  len = search rules;
  marks = λ k lt. marked_more c.args.of.now c.unwrap.result c.faces.i k (get_or c.faces.marks k false) (get_or c.mark_named.new.marks k false) _
      (sym c.item.ensures ∙ c.unwrap.ensures) (c.mark_named.ensures k (omega (arith, c.faces.invariant.len, lt))) (c.faces.invariant.marks k lt);
}
