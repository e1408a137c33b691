use Rattle.std.proofs.Common.{◌∙◌, ap, subst, sym, ◌++◌, ℕ}
use Rattle.iges_fields.specs.declared.value.Value.TheVariants as value
use Rattle.iges_write.specs.Parts.{parts, value_parts}
use Rattle.iges_write.specs.Sheet.{Sheet, Steps, put_parts}
use Rattle.iges_write.proofs.Sheets.{failed, next_parts, ended_front, ended_behind, ended_done, parts_width}
use Rattle.iges_write.proofs.page.Page.fill_record.Goals as goal

pub returns-in_err-put_integer : goal.returns-in_err-put_integer
returns-in_err-put_integer c =
    let s = c.args.self.now in
    let first = value_parts s.width (value.Int c.args.kind.now) c.delimiter_before.result in
    failed c.from_residual.result _ (put_parts s first) _ _
    (ended_front s first (parts s.width c.args.delims.now c.args.values.now) _
    (next_parts s.width c.args.delims.now (value.Int c.args.kind.now) c.args.values.now
    ∙ ap (λ (e : ℕ). value_parts s.width (value.Int c.args.kind.now) e ++ parts s.width c.args.delims.now c.args.values.now) (sym c.delimiter_before.ensures))
    c.requires)
    (c.in_err-put_integer.ensures {u = tt}) c.from_residual.ensures.1

pub returns-in_err-put_values : goal.returns-in_err-put_values
returns-in_err-put_values c =
    let s = c.args.self.now in
    let first = value_parts s.width (value.Int c.args.kind.now) c.delimiter_before.result in
    let t = c.put_integer.new.self in
    failed c.from_residual-in_err-put_values.result _ (put_parts t (parts t.width c.args.delims.now c.args.values.now)) _ _
    (ended_behind s first (parts s.width c.args.delims.now c.args.values.now) _
    (next_parts s.width c.args.delims.now (value.Int c.args.kind.now) c.args.values.now
    ∙ ap (λ (e : ℕ). value_parts s.width (value.Int c.args.kind.now) e ++ parts s.width c.args.delims.now c.args.values.now) (sym c.delimiter_before.ensures))
    c.requires
    t _ (c.in_ok-put_integer.ensures {u = tt})
    (ap (λ (n : ℕ). parts n c.args.delims.now c.args.values.now) (parts_width s t first (c.in_ok-put_integer.ensures {u = tt}))))
    (c.in_err-put_values.ensures {u = tt}) c.from_residual-in_err-put_values.ensures.1

pub returns : goal.returns
returns c =
    let s = c.args.self.now in
    let first = value_parts s.width (value.Int c.args.kind.now) c.delimiter_before.result in
    let t = c.put_integer.new.self in
    subst (λ (n : Sheet). Steps c.end_line.result c.end_line.new.self n)
    (ended_done s first (parts s.width c.args.delims.now c.args.values.now) _
    (next_parts s.width c.args.delims.now (value.Int c.args.kind.now) c.args.values.now
    ∙ ap (λ (e : ℕ). value_parts s.width (value.Int c.args.kind.now) e ++ parts s.width c.args.delims.now c.args.values.now) (sym c.delimiter_before.ensures))
    c.requires
    t c.put_values.new.self (parts t.width c.args.delims.now c.args.values.now) (c.in_ok-put_integer.ensures {u = tt})
    (ap (λ (n : ℕ). parts n c.args.delims.now c.args.values.now) (parts_width s t first (c.in_ok-put_integer.ensures {u = tt})))
    (c.in_ok-put_values.ensures {u = tt}))
    c.end_line.ensures
