use Rattle.std.proofs.Common.{◌∙◌, sym, ap, rules}
use mir.Val.{SFits, to_z}
use mir.Syntax.{w64}
use Rattle.std.proofs.lemmas.Int.{to_z-of_z}
use Rattle.iges_params.proofs.Pointers.{carried, carried_signed}
use Rattle.iges_params.proofs.pointer.carries.Goals as goal

pub returns-then-n-number : goal.returns-then-n-number
returns-then-n-number c =
    carried c.args.line.now c.word_of-word.result c.in-Some.n c.args.number (c.word_of-word.ensures ∙ c.pointer_bytes.ensures)
    (c.in-Some.ensures {u = tt}) c.if-n-number.true

pub returns-then-z-number : goal.returns-then-z-number
returns-then-z-number c =
    let fits : SFits w64 c.in-Some-number_behind_spaces.z = search rules in
    let same = sym (to_z-of_z w64 c.in-Some-number_behind_spaces.z fits) ∙ ap (to_z w64) c.if-z-number.true in
    carried_signed c.args.line.now c.word_of-word.result c.in-Some-number_behind_spaces.z c.args.number c.requires.number
    (c.word_of-word.ensures ∙ c.pointer_bytes.ensures) (c.in-Some-number_behind_spaces.ensures {u = tt}) same
