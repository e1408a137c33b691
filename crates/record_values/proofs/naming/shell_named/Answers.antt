use Rattle.std.proofs.Common.{None, refl, sym, ◌∙◌, ap, of_z, to_z}
use Rattle.std.proofs.lemmas.Int.{to_z-of_z}
use mir.Syntax.{w64}
use Rattle.iges_params.specs.Named.{named, values_of}
use Rattle.brep_lists.specs.declared.entity_kind.EntityKind.TheVariants.{Shell as shell}
use Rattle.record_values.proofs.EntryValues.{no_values, the_values}
use Rattle.record_values.proofs.Names.{shell_told, told}
use Rattle.record_values.proofs.naming.shell_named.Goals as goal

pub returns-in_default : goal.returns-in_default
returns-in_default c =
    let same = sym (to_z-of_z w64 c.args.shell c.ranges.shell) in
    shell_told c.args.file.now c.args.shell _ None
    (ap (values_of c.args.file.now) same ∙ no_values (named c.args.file.now (to_z w64 (of_z w64 c.args.shell))) c.in_default.ensures.values) refl

pub returns : goal.returns
returns c =
    let same = sym (to_z-of_z w64 c.args.shell c.ranges.shell) in
    shell_told c.args.file.now c.args.shell c.in-Some.values.now c.of.result
    (ap (values_of c.args.file.now) same ∙ the_values (named c.args.file.now (to_z w64 (of_z w64 c.args.shell))) c.in-Some.values.now
    c.in-Some.ensures.values)
    (told shell c.in-Some.values.now c.of.result c.of.ensures.some c.of.ensures.read c.of.ensures.none)
