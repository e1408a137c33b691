use Rattle.std.proofs.Common.{◌∙◌, ap, subst, [], ◌∷◌, ℕ}
use Rattle.iges_fields.specs.declared.value.Value.TheVariants as value
use Rattle.iges_write.specs.Parts.{value_parts}
use Rattle.iges_write.specs.Sheet.{Sheet, Steps, put_parts}
use Rattle.iges_write.proofs.Sheets.{failed, two_fails, two_both, parts_width}
use Rattle.iges_write.proofs.page.Page.put_delimiters.Goals as goal

pub returns-in_err-put_text-clause-steps : goal.returns-in_err-put_text-clause-steps
returns-in_err-put_text-clause-steps c =
    let s = c.args.self.now in
    let part = λ (b : ℕ). value_parts s.width (value.Text (b ∷ [])) b in
    failed c.from_residual.result _ (put_parts s (part c.param-param.result)) _ _
    (two_fails s (part c.args.delims.now.param) (value_parts s.width (value.Text (c.args.delims.now.end ∷ [])) c.args.behind) (part c.param-param.result)
    (ap part c.param-param.ensures.is))
    (c.in_err-put_text.ensures {u = tt}) c.from_residual.ensures.1

pub returns-clause-steps : goal.returns-clause-steps
returns-clause-steps c =
    let s = c.args.self.now in
    let t = c.put_text.new.self in
    let part = λ (b : ℕ). value_parts s.width (value.Text (b ∷ [])) b in
    let other = λ (n b : ℕ). value_parts n (value.Text (b ∷ [])) c.args.behind in
    let is = c.in_ok-put_text.ensures {u = tt} in
    subst (λ (n : Sheet). Steps c.put_text-2.result c.put_text-2.new.self n)
    (two_both s t (part c.args.delims.now.param) (other s.width c.args.delims.now.end) (part c.param-param.result) (other t.width c.end.result)
    (ap part c.param-param.ensures.is) is
    (ap (λ (n : ℕ). other n c.end.result) (parts_width s t (part c.param-param.result) is) ∙ ap (other s.width) c.end.ensures.is)) c.put_text-2.ensures
