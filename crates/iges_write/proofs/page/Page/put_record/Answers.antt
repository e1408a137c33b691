use Rattle.std.proofs.Common.{◌∙◌, ap, subst, map, [], ◌∷◌, ◌++◌, List, ℕ}
use Rattle.iges_fields.specs.declared.value.Value.TheVariants as value
use Rattle.iges_write.specs.Filling.{fill}
use Rattle.iges_write.specs.Parts.{parts}
use Rattle.iges_write.specs.Sheet.{Sheet, Fails, put_lines, record_tail}
use Rattle.iges_write.proofs.Sheets.{same_fails, record_fails, record_done}
use Rattle.iges_write.proofs.page.Page.put_record.Goals as goal

pub returns-in_err-fill_record : goal.returns-in_err-fill_record
returns-in_err-fill_record c =
    let s = c.args.self.now in
    let t = c.set_tail.new.self in
    let lines = λ (n : ℕ). fill n [] (parts n c.args.delims.now (value.Int c.args.kind.now ∷ c.args.values.now)) in
    let is = c.set_tail.ensures in
    let filled = c.in_err-fill_record.ensures {u = tt} in
    same_fails c.from_residual.result _ _ _
    (subst (λ (n : ℕ). Fails c.in_err-fill_record.field-0.0 (put_lines s (map (λ (l : List ℕ). l ++ record_tail c.args.number) (lines n))))
    (ap (λ (x : Sheet). x.width) is)
    (record_fails s t (record_tail c.args.number) (lines t.width) c.requires.empty c.requires.no_tail is _ filled))
    c.from_residual.ensures.1

pub returns : goal.returns
returns c =
    let s = c.args.self.now in
    let t = c.set_tail.new.self in
    let lines = λ (n : ℕ). fill n [] (parts n c.args.delims.now (value.Int c.args.kind.now ∷ c.args.values.now)) in
    let is = c.set_tail.ensures in
    let filled = c.in_ok-fill_record.ensures {u = tt} in
    c.clear_tail.ensures ∙ record_done s t c.fill_record.new.self (record_tail c.args.number) (lines t.width) c.requires.empty c.requires.no_tail is filled
    ∙ ap (λ (n : ℕ). put_lines s (map (λ (l : List ℕ). l ++ record_tail c.args.number) (lines n))) (ap (λ (x : Sheet). x.width) is)
