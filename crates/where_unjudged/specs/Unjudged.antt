-- What stands in a file beside its solids, of which nothing is said.
use Rattle.std.specs.Prelude.{ℕ, List, ◌++◌, flat_map}
use Rattle.iges_params.specs.Contents.{Contents}
use Rattle.where_unjudged.specs.declared.member.Member.TheVariants as member
use Rattle.where_unjudged.specs.Hints.{faces_hint, has_some, hint_if, other_solids_hint, other_solid_types, shells_hint, surface_types, trimmed_hint}
use Rattle.where_unjudged.specs.Lines.{member_lines, type_line}
use Rattle.where_unjudged.specs.Loose.{loose}

-- the shells and faces that nothing names, and how many there are of each other type
unfoldable pub unjudged_lines : Contents → List ℕ
unjudged_lines f =
    member_lines member.Shell f (loose member.Shell f) ++ member_lines member.Face f (loose member.Face f) ++ flat_map (type_line f) surface_types
    ++ flat_map (type_line f) other_solid_types

unfoldable pub unjudged_hints : Contents → List ℕ
unjudged_hints f =
    shells_hint f (loose member.Shell f) ++ faces_hint (loose member.Face f) ++ hint_if (has_some f surface_types) trimmed_hint
    ++ hint_if (has_some f other_solid_types) other_solids_hint

unfoldable pub unjudged_text : Contents → List ℕ
unjudged_text f = unjudged_lines f ++ unjudged_hints f
