-- The text, piece by piece.
use Rattle.std.specs.Prelude.{◌≡◌, ℕ, List, ◌++◌, flat_map, Result, OnOk}
use Rattle.std.proofs.Common.{ap, ◌∙◌, append_assoc}
use Rattle.iges_base.specs.declared.entry_no.EntryNo.{EntryNo}
use Rattle.iges_params.specs.Contents.{Contents}
use Rattle.where_text.proofs.Steps.{two_pieces}
use Rattle.where_unjudged.specs.declared.member.Member.TheVariants as member
use Rattle.where_unjudged.specs.Hints.{other_solid_types, surface_types}
use Rattle.where_unjudged.specs.Lines.{member_lines, type_line}
use Rattle.where_unjudged.specs.Loose.{loose}
use Rattle.where_unjudged.specs.Unjudged.{unjudged_lines}

four_pieces : {T E : Type 0} (r : Result T E) (old one two three new a b c d : List ℕ) → one ≡ old ++ a → two ≡ one ++ b → three ≡ two ++ c
    → OnOk r (new ≡ three ++ d) → OnOk r (new ≡ old ++ (a ++ b ++ c ++ d))
four_pieces r old one two three new a b c d e f g last =
    let second : two ≡ old ++ (a ++ b) = f ∙ (ap (λ xs. xs ++ b) e ∙ append_assoc old a b) in
    let third : three ≡ old ++ (a ++ b ++ c) = g ∙ (ap (λ xs. xs ++ c) second ∙ append_assoc old (a ++ b) c) in
    two_pieces r old three new (a ++ b ++ c) d third last

pub lines_put : {T E : Type 0} (r : Result T E) (f : Contents) (shells faces : List EntryNo) (old one two three new : List ℕ) → shells ≡ loose member.Shell f
    → faces ≡ loose member.Face f → one ≡ old ++ member_lines member.Shell f shells → two ≡ one ++ member_lines member.Face f faces
    → three ≡ two ++ flat_map (type_line f) surface_types → OnOk r (new ≡ three ++ flat_map (type_line f) other_solid_types)
    → OnOk r (new ≡ old ++ unjudged_lines f)
unfolding unjudged_lines
lines_put r f shells faces old one two three new s t a b c last =
    four_pieces r old one two three new (member_lines member.Shell f (loose member.Shell f)) (member_lines member.Face f (loose member.Face f))
    (flat_map (type_line f) surface_types) (flat_map (type_line f) other_solid_types)
    (a ∙ ap (λ ns. old ++ member_lines member.Shell f ns) s) (b ∙ ap (λ ns. one ++ member_lines member.Face f ns) t) c last
