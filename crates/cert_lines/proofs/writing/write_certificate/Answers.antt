use Rattle.std.proofs.Common.{rules, ap, ◌∙◌}
use Rattle.cert_lines.specs.Line.{cut_lines}
use Rattle.cert_lines.specs.Written.{solid_lines, certificate_lines}
use Rattle.cert_lines.proofs.CutLines.{cut_spelled}
use Rattle.cert_lines.proofs.Texts.{whole_text}
use Rattle.cert_lines.proofs.writing.write_certificate.Goals as goal

pub returns-clause-text : goal.returns-clause-text
returns-clause-text c = whole_text c.args.c.now.version (solid_lines c.args.c.now) c.put_head_line.new.out c.put_solid.new.out c.into_bytes.result
    (search rules) (search rules) (search rules)

pub returns-clause-lines : goal.returns-clause-lines
returns-clause-lines c = λ spelled.
    let text = whole_text c.args.c.now.version (solid_lines c.args.c.now) c.put_head_line.new.out c.put_solid.new.out c.into_bytes.result (search rules)
    (search rules) (search rules) in
    ap cut_lines text ∙ cut_spelled (certificate_lines c.args.c.now) spelled
