use Rattle.std.proofs.Common.{rules, ap, ◌∙◌}
use Rattle.cert_lines.specs.Line.{cut_lines}
use Rattle.open_certificate.specs.Written.{open_lines}
use Rattle.open_certificate.proofs.Spelling.{cut_spelled}
use Rattle.open_certificate.proofs.Texts.{whole_text}
use Rattle.open_certificate.proofs.writing.write_open.Goals as goal

pub returns-clause-text : goal.returns-clause-text
returns-clause-text c =
    whole_text c.args.c.now c.put.new.self c.put_shell_line.new.out c.put_edges.new.out c.put_corners.new.out c.put_reach.new.out c.put_borders.new.out
    c.into_bytes.result (search rules) (search rules) (search rules) (search rules)
    (search rules) (search rules) (search rules)

pub returns-clause-lines : goal.returns-clause-lines
returns-clause-lines c = λ spelled.
    let text =
    whole_text c.args.c.now c.put.new.self c.put_shell_line.new.out c.put_edges.new.out c.put_corners.new.out c.put_reach.new.out c.put_borders.new.out
    c.into_bytes.result (search rules) (search rules) (search rules) (search rules)
    (search rules) (search rules) (search rules) in
    ap cut_lines text ∙ cut_spelled (open_lines c.args.c.now) spelled
