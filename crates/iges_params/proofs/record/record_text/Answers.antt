use Rattle.std.proofs.Common.{List, ℕ, sym, ap, ◌∙◌, arith}
use Rattle.std.proofs.lemmas.List.{append-nil}
use Rattle.std.specs.Prelude.{flat_map}
use Rattle.iges_lines.specs.Lines.{columns}
use Rattle.iges_params.proofs.Ranges.{only_line}
use Rattle.iges_params.proofs.record.record_text.Goals as goal

pub returns-then-count-eq1-clause-text : goal.returns-then-count-eq1-clause-text
returns-then-count-eq1-clause-text c =
    let line = c.in-Some.ensures {u = tt} in
    let one = only_line c.args.sections.now.param c.args.from c.args.count c.in-Some.line.now (sym line.line) (omega arith) c.requires.within (omega arith) in
    c.columns.ensures.is ∙ sym (append-nil (columns 1 64 c.in-Some.line.now)) ∙ sym (ap (λ (lines : List (List ℕ)). flat_map (columns 1 64) lines) one)
