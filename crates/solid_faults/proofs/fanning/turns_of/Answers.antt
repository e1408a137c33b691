use Rattle.std.proofs.Common.{ℕ, ◌∷◌, [], ◌∙◌, ap, arith, length, length-append}
use Rattle.solid_faults.proofs.FanLemmas.{turn_pushed}
use Rattle.solid_faults.proofs.fanning.turns_of.Goals as goal

pub rows-preserved : goal.rows-preserved
rows-preserved c = record {
  each = ap (λ xs. length {A = ℕ × ℕ} xs) c.in_ok-push_pair.ensures
      ∙ (length-append c.rows.out.items ((c.rows.i, c.turned.result) ∷ []) ∙ omega (arith, c.rows.invariant.each));
  turns = turn_pushed c.args.paired.now c.rows.i c.turned.result c.rows.out.items c.push_pair.new.out.items c.rows.invariant.each c.rows.invariant.turns
      c.turned.ensures c.in_ok-push_pair.ensures;
}
