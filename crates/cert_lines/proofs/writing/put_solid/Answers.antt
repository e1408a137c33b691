use Rattle.std.proofs.Common.{rules}
use Rattle.std.specs.List.{enumerate_from}
use Rattle.cert_lines.proofs.Texts.{solid_text}
use Rattle.cert_lines.proofs.writing.put_solid.Goals as goal

pub returns : goal.returns
returns c = solid_text c.args.c.now.version c.args.c.now.solid.0 (enumerate_from 1 c.args.c.now.shells) c.args.out.now c.put_line.new.out c.put_shells.new.out
    (search rules) (search rules)
