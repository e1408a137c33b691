use Rattle.std.proofs.Common.{◌≡◌, ◌∙◌, false, true, rules, sym}
use Rattle.entry_references.specs.Refs.{has_layout}
use Rattle.where_entities.specs.Facts.{is_of_solids}
use Rattle.where_entities.specs.NamesGroups.{IsNamesGroup}
use Rattle.where_entities.proofs.NamesGiven.{names_put, no_group, no_names}
use Rattle.where_entities.proofs.names.entity_names.Goals as goal

pub returns-then-not-is_of_solids : goal.returns-then-not-is_of_solids
returns-then-not-is_of_solids c =
    let other : is_of_solids c.args.entry.now.kind ≡ false = search rules in
    c.new-names.ensures ∙ sym (no_names c.args.file.now (c.args.entry.now, c.args.values.now) other)

pub returns-in_default : goal.returns-in_default
returns-in_default c =
    let solids : is_of_solids c.args.entry.now.kind ≡ true = search rules in
    let unfit : has_layout (c.args.entry.now, c.args.values.now) ≡ false = search rules in
    c.new-names.ensures ∙ sym (no_group c.args.file.now (c.args.entry.now, c.args.values.now) solids unfit)

pub returns : goal.returns
returns c =
    let solids : is_of_solids c.args.entry.now.kind ≡ true = search rules in
    let group : IsNamesGroup (c.args.entry.now, c.args.values.now) c.in-Some.group = search rules in
    names_put c.args.file.now (c.args.entry.now, c.args.values.now) c.in-Some.group _ _ solids group c.new-names.ensures c.in_ok-push_names.ensures.ok
