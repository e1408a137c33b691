use Rattle.std.proofs.Common.{◌≡◌, pos, sym, ◌∙◌, ap, of_z, to_z, rules}
use mir.Syntax.{w64}
use Rattle.brep_lists.specs.Record.{kind_of_type}
use Rattle.record_values.proofs.BadValues.{by_number, of_no_entry, of_no_values, of_no_kind, of_kind}
use Rattle.record_values.proofs.bad_values.bad_value.Goals as goal

pub returns-then-is_of_number-clause-is : goal.returns-then-is_of_number-clause-is
returns-then-is_of_number-clause-is c = c.no_value.ensures
    ∙ sym (by_number c.args.file.now c.args.failing (sym c.is_of_number.ensures ∙ c.if-is_of_number.true))

pub returns-in_default-clause-is : goal.returns-in_default-clause-is
returns-in_default-clause-is c =
    let number : to_z w64 (of_z w64 c.from-number.result) ≡ pos c.args.failing.entity.0 = search rules in
    c.no_value-in_default.ensures ∙ of_no_entry c.args.file.now c.args.failing _ number (sym c.is_of_number.ensures ∙ c.if-is_of_number.false)
    c.in_default.ensures

pub returns-in_default-values_named-clause-is : goal.returns-in_default-values_named-clause-is
returns-in_default-values_named-clause-is c =
    let number : to_z w64 (of_z w64 c.from-number.result) ≡ pos c.args.failing.entity.0 = search rules in
    c.no_value-in_default-values_named.ensures ∙ of_no_values c.args.file.now c.args.failing _ number (sym c.is_of_number.ensures ∙ c.if-is_of_number.false)
    c.in_default-values_named.ensures.values

pub returns-in-Some-of_type-clause-is : goal.returns-in-Some-of_type-clause-is
returns-in-Some-of_type-clause-is c =
    let number : to_z w64 (of_z w64 c.from-number.result) ≡ pos c.args.failing.entity.0 = search rules in
    let kind : to_z w64 (of_z w64 c.in-Some.entry.now.kind) ≡ c.in-Some.entry.now.kind = search rules in
    c.by_rule.ensures.is
    ∙ of_kind c.args.file.now c.args.failing _ c.in-Some.entry.now c.in-Some-values_named.values.now c.in-Some-of_type.kind number
    (sym c.is_of_number.ensures ∙ c.if-is_of_number.false)
    c.in-Some.ensures c.in-Some-values_named.ensures.values (sym (c.in-Some-of_type.ensures.is ∙ ap kind_of_type kind))

pub returns-in-None-clause-is : goal.returns-in-None-clause-is
returns-in-None-clause-is c =
    let number : to_z w64 (of_z w64 c.from-number.result) ≡ pos c.args.failing.entity.0 = search rules in
    let kind : to_z w64 (of_z w64 c.in-Some.entry.now.kind) ≡ c.in-Some.entry.now.kind = search rules in
    c.no_value-in-None.ensures
    ∙ of_no_kind c.args.file.now c.args.failing _ c.in-Some.entry.now number (sym c.is_of_number.ensures ∙ c.if-is_of_number.false) c.in-Some.ensures
    (sym (c.in-None.ensures.is ∙ ap kind_of_type kind))
