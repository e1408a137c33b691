use Rattle.std.proofs.Common.{◌≡◌, map, rules, string_bytes}
use Rattle.std.specs.Option.{unwrap_or}
use Rattle.iges_solid_cmd.proofs.FormWords.{command_is}
use Rattle.iges_solid_cmd.proofs.form.command_in.Goals as goal

pub returns : goal.returns
returns c =
    let n : c.unwrap_or.result ≡ unwrap_or c.number.result 0 = search rules in
    command_is (map string_bytes c.args.words.now) c.form_of.result c.in_ok-form.form c.number.result c.unwrap_or.result c.command.result c.in_ok-form.was
    c.form_of.ensures c.number.ensures n c.command.ensures
