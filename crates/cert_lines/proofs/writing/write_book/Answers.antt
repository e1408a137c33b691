use Rattle.std.proofs.Common.{rules, ap, ◌∙◌}
use Rattle.cert_lines.specs.Line.{cut_lines}
use Rattle.cert_lines.specs.Written.{book_lines}
use Rattle.cert_lines.specs.declared.version.Version.TheVariants.{Three}
use Rattle.cert_lines.proofs.CutLines.{cut_spelled}
use Rattle.cert_lines.proofs.Texts.{book_text}
use Rattle.cert_lines.proofs.writing.write_book.Goals as goal

pub returns-clause-text : goal.returns-clause-text
returns-clause-text c = book_text Three c.args.parts.now c.put_head_line.new.out c.put_solids.new.out c.into_bytes.result (search rules) (search rules)
    (search rules)

pub returns-clause-lines : goal.returns-clause-lines
returns-clause-lines c = λ spelled.
    let text = book_text Three c.args.parts.now c.put_head_line.new.out c.put_solids.new.out c.into_bytes.result (search rules) (search rules) (search rules) in
    ap cut_lines text ∙ cut_spelled (book_lines c.args.parts.now) spelled
