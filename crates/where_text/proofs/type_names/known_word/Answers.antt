use Rattle.std.proofs.Common.{◌≡◌, rules, to_z, of_z, w64}
use Rattle.where_text.proofs.NamedTypes.{known_is, unknown_is}
use Rattle.where_text.proofs.type_names.known_word.Goals as goal

pub returns-in-Some : goal.returns-in-Some
returns-in-Some c =
    let kind : to_z w64 (of_z w64 c.args.kind) ≡ c.args.kind = search rules in
    known_is _ c.args.kind c.listed.result.now c.in-Some.row kind c.listed.ensures c.in-Some.ensures

pub returns-in-None : goal.returns-in-None
returns-in-None c =
    let kind : to_z w64 (of_z w64 c.args.kind) ≡ c.args.kind = search rules in
    unknown_is _ c.args.kind c.listed.result.now kind c.listed.ensures c.in-None.ensures
