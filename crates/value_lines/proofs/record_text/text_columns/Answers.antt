use Rattle.std.proofs.Common.{◌∙◌, ◌++◌, ap, take}
use Rattle.value_lines.specs.RecordText.{text_columns}
use Rattle.value_lines.proofs.Columns.{columns_last, columns_more}
use Rattle.value_lines.proofs.record_text.text_columns.Goals as goal

pub lines-preserved : goal.lines-preserved
lines-preserved c = columns_more c.lines.left c.lines.text c.put.new.self c.lines.rest.now c.from_line-rest.result.now
    (text_columns c.args.count c.args.bytes.now) c.lines-test.true
    (c.in_ok-put.ensures.ok ∙ ap (λ ys. c.lines.text ++ ys) (c.first_bytes.ensures ∙ ap (λ ys. take 64 ys) c.line_of.ensures))
    c.from_line-rest.ensures c.lines.invariant

pub returns : goal.returns
returns c = c.into_bytes.ensures
    ∙ columns_last c.lines.left c.lines.text c.lines.rest.now (text_columns c.args.count c.args.bytes.now) c.lines-test.false c.lines.invariant
