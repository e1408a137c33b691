use Rattle.std.proofs.Common.{◌≡◌, ◌++◌, ◌∙◌, ap, codes, OnOk, rules, subst, to_z, of_z, w64}
use Rattle.where_text.proofs.Steps.{three_pieces}
use Rattle.where_entities.specs.Facts.{colour_fact, field_facts, number_fact}
use Rattle.where_entities.proofs.facts.put_fields.Goals as goal

pub returns : goal.returns
unfolding field_facts
returns c =
    let e = c.args.entry.now in
    let level : to_z w64 (of_z w64 e.level) ≡ e.level = search rules in
    let matrix : to_z w64 (of_z w64 e.matrix) ≡ e.matrix = search rules in
    three_pieces _ c.args.out.now _ _ _ (number_fact (codes "level") e.level) (colour_fact c.args.file.now e.colour) (number_fact (codes "matrix") e.matrix)
    (c.in_ok-put_number_fact.ensures ∙ ap (λ n. c.args.out.now ++ number_fact (codes "level") n) level) c.in_ok-put_colour.ensures
    (subst (λ n. OnOk c.put_number_fact-2.result (c.put_number_fact-2.new.out ≡ c.put_colour.new.out ++ number_fact (codes "matrix") n)) matrix
    c.put_number_fact-2.ensures)
