use Rattle.std.proofs.Common.{arith, length, drop, length-drop, sym, ◌∙◌, ◌-◌}
use Rattle.std.proofs.lemmas.List.{take_all, drop_all}
use Rattle.line_layout.proofs.columns.beyond.Goals as goal

pub returns-then-line-gt80 : goal.returns-then-line-gt80
returns-then-line-gt80 c = take_all (length c.args.line.now - 80) (drop 80 c.args.line.now) (omega (arith, length-drop 80 c.args.line.now))

pub returns : goal.returns
returns c =
    let line = c.args.line.now in
    take_all (length line - length line) (drop (length line) line) (omega (arith, length-drop (length line) line))
    ∙ drop_all (length line) line (omega arith) ∙ sym (drop_all 80 line (omega arith))
