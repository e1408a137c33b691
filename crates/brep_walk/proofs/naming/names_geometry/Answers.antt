use Rattle.std.proofs.Common.{sym, ◌∙◌}
use Rattle.std.proofs.lemmas.Int.{to_z-of_z}
use mir.Syntax.{w64}
use Rattle.brep_walk.proofs.NamedEntry.{geometry_of}
use Rattle.brep_walk.proofs.naming.names_geometry.Goals as goal

pub returns-in-Some-entry : goal.returns-in-Some-entry
returns-in-Some-entry c =
    geometry_of c.args.file.now c.args.number c.in-Some.no.0 (sym (to_z-of_z w64 c.args.number c.ranges.number) ∙ c.in-Some.ensures.named)
    c.in-Some-entry.entry.now c.in-Some-entry.ensures.named c.is_geometry.ensures
