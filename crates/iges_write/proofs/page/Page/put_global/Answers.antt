use Rattle.std.proofs.Common.{◌∙◌, ap, subst, sym, [], ◌∷◌, ◌++◌, ℕ}
use Rattle.iges_fields.specs.declared.value.Value.TheVariants as value
use Rattle.iges_write.specs.Parts.{parts, value_parts}
use Rattle.iges_write.specs.Sheet.{Sheet, Steps, put_parts}
use Rattle.iges_write.proofs.Sheets.{failed, global_parts, ended_front, ended_behind, ended_done, parts_width}
use Rattle.iges_write.proofs.page.Page.put_global.Goals as goal

pub returns-in_err-put_delimiters-clause-steps : goal.returns-in_err-put_delimiters-clause-steps
returns-in_err-put_delimiters-clause-steps c =
    let s = c.args.self.now in
    let d = c.args.delims.now in
    let front = λ (e : ℕ). value_parts s.width (value.Text (d.param ∷ [])) d.param ++ value_parts s.width (value.Text (d.end ∷ [])) e in
    let first = front c.delimiter_before.result in
    failed c.from_residual.result _ (put_parts s first) _ _
    (ended_front s first (parts s.width c.args.delims.now c.args.values.now) _
    (global_parts s.width d c.args.values.now ∙ ap (λ (e : ℕ). front e ++ parts s.width d c.args.values.now) (sym c.delimiter_before.ensures)) c.requires)
    (let h = c.in_err-put_delimiters.ensures {u = tt} in h.steps) c.from_residual.ensures.1

pub returns-in_err-put_values-clause-steps : goal.returns-in_err-put_values-clause-steps
returns-in_err-put_values-clause-steps c =
    let s = c.args.self.now in
    let d = c.args.delims.now in
    let front = λ (e : ℕ). value_parts s.width (value.Text (d.param ∷ [])) d.param ++ value_parts s.width (value.Text (d.end ∷ [])) e in
    let first = front c.delimiter_before.result in
    let t = c.put_delimiters.new.self in
    failed c.from_residual-in_err-put_values.result _ (put_parts t (parts t.width c.args.delims.now c.args.values.now)) _ _
    (ended_behind s first (parts s.width c.args.delims.now c.args.values.now) _
    (global_parts s.width d c.args.values.now ∙ ap (λ (e : ℕ). front e ++ parts s.width d c.args.values.now) (sym c.delimiter_before.ensures)) c.requires
    t _ (let h = c.in_ok-put_delimiters.ensures {u = tt} in h.steps)
    (ap (λ (n : ℕ). parts n c.args.delims.now c.args.values.now) (parts_width s t first (let h = c.in_ok-put_delimiters.ensures {u = tt} in h.steps))))
    (c.in_err-put_values.ensures {u = tt}) c.from_residual-in_err-put_values.ensures.1

pub returns-clause-steps : goal.returns-clause-steps
returns-clause-steps c =
    let s = c.args.self.now in
    let d = c.args.delims.now in
    let front = λ (e : ℕ). value_parts s.width (value.Text (d.param ∷ [])) d.param ++ value_parts s.width (value.Text (d.end ∷ [])) e in
    let first = front c.delimiter_before.result in
    let t = c.put_delimiters.new.self in
    subst (λ (n : Sheet). Steps c.end_line.result c.end_line.new.self n)
    (ended_done s first (parts s.width c.args.delims.now c.args.values.now) _
    (global_parts s.width d c.args.values.now ∙ ap (λ (e : ℕ). front e ++ parts s.width d c.args.values.now) (sym c.delimiter_before.ensures)) c.requires
    t c.put_values.new.self (parts t.width c.args.delims.now c.args.values.now) (let h = c.in_ok-put_delimiters.ensures {u = tt} in h.steps)
    (ap (λ (n : ℕ). parts n c.args.delims.now c.args.values.now) (parts_width s t first (let h = c.in_ok-put_delimiters.ensures {u = tt} in h.steps)))
    (c.in_ok-put_values.ensures {u = tt}))
    c.end_line.ensures
