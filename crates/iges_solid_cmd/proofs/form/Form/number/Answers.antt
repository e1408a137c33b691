use Rattle.std.proofs.Common.{◌∙◌, None, Some, ap, map, string_bytes, sym}
use Rattle.std.specs.Option.{option_map}
use Rattle.std.specs.Str.Parse.{digits_value}
use Rattle.iges_solid_cmd.specs.declared.form_slot.Operand.TheVariants.{Number}
use Rattle.iges_solid_cmd.proofs.FormWords.{fit_at, slot_holds, word_meant}
use Rattle.iges_solid_cmd.proofs.form.Form.number.Goals as goal

pub returns-in_err-place : goal.returns-in_err-place
returns-in_err-place c fit =
    let none = word_meant Number c.args.self.slots.now (map string_bytes c.args.words.now) None (sym c.in_err-place.was ∙ c.place.ensures) in
    c.from_residual.ensures ∙ sym (ap (option_map (digits_value 10)) none)

pub returns : goal.returns
returns c fit =
    let words = map string_bytes c.args.words.now in
    let place = sym c.in_ok-place.was ∙ c.place.ensures in
    let is = word_meant Number c.args.self.slots.now words (Some c.in_ok-place.place) place in
    let slot = sym c.in_ok-slot.was ∙ c.slot.ensures in
    let fits_there = fit_at c.args.self.slots.now words c.in_ok-place.place c.in_ok-slot.slot c.in_ok-word.word.now fit slot c.in_ok-word.ensures in
    let number = c.number.ensures (slot_holds Number c.args.self.slots.now c.in_ok-place.place c.in_ok-slot.slot place slot) fits_there in
    number ∙ sym (ap (option_map (digits_value 10)) (is ∙ c.in_ok-word.ensures))
