use Rattle.std.proofs.Common.{rules}
use Rattle.cert_lines.specs.Written.{shell_line, tally_lines}
use Rattle.cert_lines.proofs.Texts.{shell_text}
use Rattle.cert_lines.proofs.writing.put_shell.Goals as goal

pub returns : goal.returns
returns c =
    shell_text (shell_line c.args.number c.args.part.now) c.args.part.now.edges c.args.part.now.corners c.args.part.now.reach
    (tally_lines c.args.version c.args.part.now) c.args.out.now c.put_shell_line.new.out c.put_edges.new.out c.put_corners.new.out c.put_reach.new.out
    c.put_tally.new.out
    (search rules) (search rules) (search rules) (search rules) (search rules)
