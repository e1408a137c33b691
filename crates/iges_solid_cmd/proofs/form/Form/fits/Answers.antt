use Rattle.std.proofs.Common.{◌≡◌, ◌∙◌, ◌&&◌, length, nat_eq, rules, sym}
use Rattle.iges_solid_cmd.proofs.FormWords.{each_fits, fit_meant}
use Rattle.iges_solid_cmd.proofs.form.Form.fits.Goals as goal

pub returns-then-self-words : goal.returns-then-self-words
returns-then-self-words c =
    let each : c.each_fits.result ≡ (nat_eq (length c.args.self.slots.now) (length c.args.words.now) && each_fits c.args.self.slots.now c.args.words.now) =
    search rules in
    each ∙ sym (fit_meant c.args.self.slots.now c.args.words.now)
