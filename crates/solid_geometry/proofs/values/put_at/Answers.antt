use Rattle.std.proofs.Common.{◌≡◌, ◌++◌, ◌∙◌, OnOk, List, ℕ, ℤ, ap, rules, subst, w64}
use mir.Val.{SFits}
use Rattle.std.specs.Prelude.{option_map}
use Rattle.std.proofs.lemmas.Int.{to_z-of_z}
use Rattle.iges_fields.specs.declared.value.Value.{Value}
use Rattle.iges_directory.specs.declared.entry.Entry.{Entry}
use Rattle.iges_params.specs.Named.{named}
use Rattle.solid_geometry.proofs.RecordValues.{key_there, no_key}
use Rattle.solid_geometry.proofs.values.put_at.Goals as goal

pub returns-in-Some : goal.returns-in-Some
returns-in-Some c =
    let fits : SFits w64 c.args.number = search rules in
    subst (λ (word : List ℕ). OnOk c.put_value.result (c.put_value.new.key.items ≡ c.args.key.now.items ++ word))
    (key_there c.args.file.now c.args.number c.args.place c.in-Some.values.now _
    (c.in-Some.ensures ∙ ap (λ (z : ℤ). option_map (λ (r : Entry × List Value). r.1) (named c.args.file.now z)) (to_z-of_z w64 c.args.number fits)) c.get.ensures.value)
    c.put_value.ensures

pub returns-in-None : goal.returns-in-None
returns-in-None c =
    let fits : SFits w64 c.args.number = search rules in
    subst (λ (word : List ℕ). OnOk c.put_value-in-None.result (c.put_value-in-None.new.key.items ≡ c.args.key.now.items ++ word))
    (no_key c.args.file.now c.args.number c.args.place
    (c.in-None.ensures ∙ ap (λ (z : ℤ). option_map (λ (r : Entry × List Value). r.1) (named c.args.file.now z)) (to_z-of_z w64 c.args.number fits)))
    c.put_value-in-None.ensures
