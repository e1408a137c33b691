use Rattle.std.proofs.lemmas.Result.{err_from_is_err_and}
use Rattle.std.proofs.Common.{arith, ap, sym, List, Ok, [], ◌∷◌, refl, ◌∙◌}
use Rattle.iges_fields.specs.declared.value.Value.{Value}
use Rattle.iges_fields.proofs.Loop.{first_ends, first_fails, first_in_line, first_next, first_shorter, behind_some}
use Rattle.iges_fields.proofs.reading.read_parted.Goals as goal

pub returns-in_err-first-clause-gives : goal.returns-in_err-first-clause-gives
returns-in_err-first-clause-gives c =
    let p = err_from_is_err_and c.from_residual.result c.from_residual.ensures.1 in
    rw (p.1, p.2) (first_fails c.args.delims.now c.args.text.now _ (c.in_err-first.ensures {u = tt}))

pub unreachable-requires : goal.unreachable-requires
unreachable-requires c = omega (arith, behind_some _ _ _ _ _ (c.in_ok-first.ensures {u = tt}))

pub returns-then-stop-end-clause-gives : goal.returns-then-stop-end-clause-gives
returns-then-stop-end-clause-gives c =
    first_ends c.args.delims.now c.args.text.now _ _ (c.in_ok-first.ensures {u = tt}) _ refl (c.if-stop-end.true ∙ c.end-end.ensures.is)
    ∙ ap (λ (vs : List Value). Ok (c.in_ok-first.first ∷ vs)) (sym c.new.ensures)

pub read_by-requires-clause-within : goal.read_by-requires-clause-within
read_by-requires-clause-within c = first_shorter c.args.delims.now c.args.text.now _ _ (c.in_ok-first.ensures {u = tt}) _ refl

pub read_by-requires-clause-in_line : goal.read_by-requires-clause-in_line
read_by-requires-clause-in_line c = first_in_line c.args.delims.now c.args.text.now _ _ (c.in_ok-first.ensures {u = tt}) _ refl c.requires.in_line

pub returns-in-Ok-clause-gives : goal.returns-in-Ok-clause-gives
returns-in-Ok-clause-gives c =
    c.in-Ok.ensures.gives (c.in_ok-first.first ∷ []) (first_next c.args.delims.now c.args.text.now _ _ (c.in_ok-first.ensures {u = tt}) _ refl
    (λ is. c.if-stop-end.false (is ∙ sym c.end-end.ensures.is)))

pub returns-in-Err-clause-gives : goal.returns-in-Err-clause-gives
returns-in-Err-clause-gives c =
    c.in-Err.ensures.gives (c.in_ok-first.first ∷ []) (first_next c.args.delims.now c.args.text.now _ _ (c.in_ok-first.ensures {u = tt}) _ refl
    (λ is. c.if-stop-end.false (is ∙ sym c.end-end.ensures.is)))
