use Rattle.std.proofs.lemmas.Result.{err_from_is_err_and}
use Rattle.std.proofs.Common.{arith, ap, sym, List, ◌++◌, refl, ◌∙◌, append_assoc}
use Rattle.iges_fields.specs.declared.value.Value.{Value}
use Rattle.iges_fields.proofs.Loop.{left_fails, left_end, left_next, after_in_line, after_shorter, behind_some}
use Rattle.iges_fields.proofs.reading.read_onto.Goals as goal

pub items-init : goal.items-init
items-init c = record {
  within = c.requires.within;
  in_line = c.requires.in_line;
  left = λ front h. h;
}

pub returns-in_err-behind : goal.returns-in_err-behind
returns-in_err-behind c front h =
    let p = err_from_is_err_and c.from_residual.result c.from_residual.ensures.1 in
    rw (p.1, p.2) (left_fails _ _ _ _ c.items.invariant.within (c.items.invariant.left front h) _ (c.in_err-behind.ensures {u = tt}).err)

pub unreachable-requires : goal.unreachable-requires
unreachable-requires c = omega (arith, behind_some _ _ _ _ _ (c.in_ok-behind.ensures {u = tt}).ok.1)

pub overflow_sub-result : goal.overflow_sub-result
overflow_sub-result c =
    let p = after_shorter _ _ _ c.items.invariant.within _ _ (c.in_ok-behind.ensures {u = tt}).ok.1 _ refl in
    let h = c.items.invariant.within in
    omega (arith, p)

pub returns-then-stop-end : goal.returns-then-stop-end
returns-then-stop-end c front h =
    left_end _ _ _ _ c.items.invariant.within (c.items.invariant.left front h) _ _ (c.in_ok-behind.ensures {u = tt}).ok.1 _ refl
    (c.if-stop-end.true ∙ c.end-end.ensures.is)
    (front ++ c.push_next.new.values) (ap (λ (vs : List Value). front ++ vs) (c.in_ok-behind.ensures {u = tt}).ok.2 ∙ sym (append_assoc front _ _))

pub items-smaller : goal.items-smaller
items-smaller c = after_shorter _ _ _ c.items.invariant.within _ _ (c.in_ok-behind.ensures {u = tt}).ok.1 _ refl

pub items-preserved : goal.items-preserved
items-preserved c =
    let p = after_shorter _ _ _ c.items.invariant.within _ _ (c.in_ok-behind.ensures {u = tt}).ok.1 _ refl in
    let h = c.items.invariant.within in
    record {
      within = omega (arith, p);
      in_line = after_in_line _ _ _ c.items.invariant.within _ _ (c.in_ok-behind.ensures {u = tt}).ok.1 _ refl c.items.invariant.in_line;
      left = λ front k. left_next _ _ _ _ c.items.invariant.within (c.items.invariant.left front k) _ _ (c.in_ok-behind.ensures {u = tt}).ok.1 _ refl
          (λ is. c.if-stop-end.false (is ∙ sym c.end-end.ensures.is))
          (front ++ c.push_next.new.values) (ap (λ (vs : List Value). front ++ vs) (c.in_ok-behind.ensures {u = tt}).ok.2 ∙ sym (append_assoc front _ _));
    }
