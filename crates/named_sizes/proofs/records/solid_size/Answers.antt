use Rattle.std.proofs.Common.{◌≡◌, ◌∙◌, ap, of_z, rules, sym, to_z, w64}
use Rattle.iges_params.specs.Named.{values_of}
use Rattle.named_sizes.specs.Sizes.{capped}
use Rattle.named_sizes.proofs.Sums.{capped_zero, solid_is, solid_none, solid_of_none}
use Rattle.named_sizes.proofs.records.solid_size.Goals as goal

pub returns-in_default-clause-is : goal.returns-in_default-clause-is
returns-in_default-clause-is c =
    let number : to_z w64 (of_z w64 c.args.z) ≡ c.args.z = search rules in
    capped_zero ∙ ap capped (solid_of_none c.args.file.now c.args.z (ap (values_of c.args.file.now) (sym number) ∙ c.in_default.ensures))

pub returns-in-Some-of-clause-is : goal.returns-in-Some-of-clause-is
returns-in-Some-of-clause-is c =
    let number : to_z w64 (of_z w64 c.args.z) ≡ c.args.z = search rules in
    c.shells_size.ensures.is
    ∙ ap capped (solid_is c.args.file.now c.args.z c.in-Some.values.now (ap (values_of c.args.file.now) (sym number) ∙ c.in-Some.ensures) c.in-Some-of.record c.in-Some-of.ensures.some c.in-Some-of.ensures.read)

pub returns-in-None-clause-is : goal.returns-in-None-clause-is
returns-in-None-clause-is c =
    let number : to_z w64 (of_z w64 c.args.z) ≡ c.args.z = search rules in
    capped_zero ∙ ap capped (solid_none c.args.file.now c.args.z c.in-Some.values.now (ap (values_of c.args.file.now) (sym number) ∙ c.in-Some.ensures) c.in-None.ensures.none)
