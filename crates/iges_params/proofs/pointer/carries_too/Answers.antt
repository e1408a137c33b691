use Rattle.std.proofs.Common.{sym, ap, ◌∙◌}
use Rattle.std.specs.Int.{to_be_bytes, w64}
use Rattle.iges_params.proofs.Pointers.{alike_back}
use Rattle.iges_params.proofs.pointer.carries_too.Goals as goal

pub returns-then-word_of : goal.returns-then-word_of
returns-then-word_of c =
    let same = sym c.word_of.ensures ∙ ap (to_be_bytes w64) c.if-word_of.true ∙ c.word_of-2.ensures in
    alike_back c.args.known.now c.args.line.now c.args.number (sym c.pointer_bytes.ensures ∙ same ∙ c.pointer_bytes-2.ensures) c.requires.back
