use Rattle.std.proofs.Common.{refl, sym, ap, ◌∙◌, arith, List, ℕ, ◌++◌, length, ◌≤◌}
use Rattle.std.specs.Str.Lines.{strip_carriage_return}
use Rattle.std.proofs.lemmas.Bool.{eqb-true}
use Rattle.iges_lines.proofs.Fed.{joined_ok, nil}
use Rattle.iges_lines.proofs.Growing.{extends_same}
use Rattle.iges_lines.proofs.feeding.take_joined.Goals as goal

pub returns-then-is_empty-clause-ok : goal.returns-then-is_empty-clause-ok
returns-then-is_empty-clause-ok c =
    let none : length c.args.rest.now ≤ 0 = omega (arith, eqb-true (length c.args.rest.now) 0 (sym (c.if-is_empty.ensures {u = tt}))) in
    joined_ok c.args.taken.now c.take.new.self c.args.rest.now c.stripped.result.now c.args.head.now c.requires.open c.requires.head
    (c.stripped.ensures ∙ ap (λ (r : List ℕ). strip_carriage_return (r ++ c.args.head.now)) (sym (nil c.args.rest.now none))) c.take.result c.take.ensures.ok

pub returns-in_err-line-clause-extends : goal.returns-in_err-line-clause-extends
returns-in_err-line-clause-extends c = extends_same _ _ refl

pub returns-in_err-extend_from_slice-clause-extends : goal.returns-in_err-extend_from_slice-clause-extends
returns-in_err-extend_from_slice-clause-extends c = extends_same _ _ refl

pub returns-clause-ok : goal.returns-clause-ok
returns-clause-ok c =
    let grown = (c.in_ok-extend_from_slice.ensures {u = tt}).items in
    joined_ok c.args.taken.now c.take-2.new.self c.args.rest.now c.stripped-2.result.now c.args.head.now c.requires.open c.requires.head
    (c.stripped-2.ensures ∙ ap strip_carriage_return (c.as_slice.ensures.value ∙ grown ∙ ap (λ (r : List ℕ). r ++ c.args.head.now)
    (c.in_ok-line.ensures {u = tt}))) c.take-2.result c.take-2.ensures.ok
