use Rattle.std.proofs.Common.{◌∙◌, ap, map, string_bytes}
use Rattle.std.specs.Option.{option_map}
use Rattle.iges_solid_cmd.specs.FormTable.{form_meant}
use Rattle.iges_solid_cmd.proofs.FormWords.{form_is}
use Rattle.iges_solid_cmd.proofs.form.form_of.Goals as goal

pub returns : goal.returns
returns c = ap (option_map form_meant) c.first_form.ensures ∙ form_is c.listed.result.now (map string_bytes c.args.words.now) c.listed.ensures
