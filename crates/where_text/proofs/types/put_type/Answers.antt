use Rattle.std.proofs.Common.{◌≡◌, ◌∷◌, ◌++◌, OnOk, ap, rules, subst, sym, ◌∙◌, to_z, of_z, w64}
use Rattle.where_text.specs.Types.{type_word}
use Rattle.where_text.proofs.NamedTypes.{type_there}
use Rattle.where_text.proofs.types.put_type.Goals as goal

pub returns-in-Some-entry : goal.returns-in-Some-entry
returns-in-Some-entry c =
    let number : to_z w64 (of_z w64 c.args.number) ≡ c.args.number = search rules in
    let kind : to_z w64 (of_z w64 c.in-Some-entry.entry.now.kind) ≡ c.in-Some-entry.entry.now.kind = search rules in
    let is = ap type_word kind ∙ type_there c.args.file.now c.args.number c.in-Some.no.0 c.in-Some-entry.entry.now (sym number ∙ c.in-Some.ensures.named)
    c.in-Some-entry.ensures.named in
    record { text = subst (λ word. OnOk c.put_type_word.result (c.put_type_word.new.out ≡ c.args.out.now ++ 32 ∷ word)) is c.put_type_word.ensures.text }
