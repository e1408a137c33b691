use Rattle.std.proofs.Common.{refl, sym, ap, ◌∙◌, arith, length, ◌∷◌, length-append}
use Rattle.iges_lines.specs.Feeding.{Taken}
use Rattle.iges_lines.proofs.Fed.{left_all, left_next, left_none, left_failed}
use Rattle.iges_lines.proofs.Going.{none_from, some_from}
use Rattle.iges_lines.proofs.Growing.{extends_same, extends_more}
use Rattle.iges_lines.proofs.taken_lines.TakenLines.take_ended.Goals as goal

pub lines-init : goal.lines-init
lines-init c = record { left = left_all c.args.self.now c.args.bytes.now; extends = extends_same _ _ refl; few = omega arith }

pub returns-in_default-clause-ok : goal.returns-in_default-clause-ok
returns-in_default-clause-ok c = λ before s. left_none c.args.self.now c.args.bytes.now c.lines.self c.lines.left.now before
    (c.in_default.ensures {u = tt}) c.lines.invariant.left s

pub lines-preserved : goal.lines-preserved
lines-preserved c =
    let none = ap (λ (t : Taken). t.fault) (sym c.self.view_is) ∙ none_from c.self.inside.fault _ (sym (c.lines-test.ensures {u = tt})) refl in
    let cut = c.in-Some.ensures {u = tt} in
    let taken = c.in_ok-take.ensures {u = tt} in
    let few = c.lines.invariant.few in
    let next = taken.number in
    record {
      left = left_next c.args.self.now c.args.bytes.now c.lines.self c.take.new.self c.lines.left.now c.in-Some.piece.now c.in-Some.after.now none cut.0 cut.1
          (rw c.stripped.ensures at taken.ok) c.lines.invariant.left;
      extends = extends_more _ _ _ c.lines.invariant.extends taken.extends;
      few = omega (arith, few, next, ap length cut.0, length-append c.in-Some.piece.now (10 ∷ c.in-Some.after.now));
    }

pub returns-clause-ok : goal.returns-clause-ok
returns-clause-ok c =
    let f = some_from c.self.inside.fault _ (sym (c.lines-test.ensures {u = tt})) refl in
    λ before s. left_failed c.args.self.now c.args.bytes.now c.lines.self c.lines.left.now _ before f.0
    (ap (λ (t : Taken). t.fault) (sym c.self.view_is) ∙ f.1) c.lines.invariant.left s
