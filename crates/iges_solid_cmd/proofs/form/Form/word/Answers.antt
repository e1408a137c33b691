use Rattle.std.proofs.Common.{◌≡◌, ◌∙◌, None, Some, MatchOption, map, string_bytes, subst, sym}
use Rattle.iges_solid_cmd.specs.Forms.{word_in}
use Rattle.iges_solid_cmd.specs.FormTable.{slot_meant}
use Rattle.iges_solid_cmd.proofs.FormWords.{word_meant}
use Rattle.iges_solid_cmd.proofs.form.Form.word.Goals as goal

pub returns-in_err-place : goal.returns-in_err-place
returns-in_err-place c =
    let none = word_meant c.args.what c.args.self.slots.now (map string_bytes c.args.words.now) None (sym c.in_err-place.was ∙ c.place.ensures) in
    let word = word_in c.args.what (map slot_meant c.args.self.slots.now) (map string_bytes c.args.words.now) in
    subst (λ o. MatchOption o (word ≡ None) (λ w. word ≡ Some w.now)) (sym c.from_residual.ensures) none

pub returns : goal.returns
returns c =
    let is = word_meant c.args.what c.args.self.slots.now (map string_bytes c.args.words.now) (Some c.in_ok-place.place)
    (sym c.in_ok-place.was ∙ c.place.ensures) in
    subst (λ o. MatchOption c.word_at.result (o ≡ None) (λ w. o ≡ Some w.now)) (sym is) c.word_at.ensures
