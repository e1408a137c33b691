-- The paragraph on parts, where there is a shell, and where a face lies outside of the first part.
use Rattle.std.specs.Prelude.{◌≡◌, ℕ, List, [], ◌∷◌, length, flat_map, Some, slice_get}
use Rattle.std.proofs.Common.{refl, sym, ◌∙◌, ap}
use Rattle.iges_params.specs.Contents.{Contents}
use Rattle.solid_data.specs.SolidData.{SolidData}
use Rattle.solid_data.specs.declared.solid.Shell.{Shell}
use Rattle.shell_facts.specs.PartFacts.{parts_of}
use Rattle.shell_facts.specs.PartTables.{ShellParts}
use Rattle.solid_faults.specs.Parts.{faces_apart}
use Rattle.solid_faults.specs.declared.edge.Unpaired.{Unpaired}
use Rattle.where_text.specs.declared.listing.Listing.{Listing}
use Rattle.where_shells.specs.Reach.{part_named, shown_parts, reach_lines, where_apart, reach_of, reach_text, reach_faces, reach_named}

where_some : {A : Type 0} (faces : List ℕ) (lines : List A) → (length faces ≡ 0 → ⊥) → where_apart faces lines ≡ lines
where_some [] lines h = absurd (h refl)
where_some (x ∷ faces) lines h = refl

-- of a shell as it is told from tables
pub reach_told : (listing : Listing) (f : Contents) (s : SolidData) (k : ℕ) (h : Shell) (firsts : List ℕ) (us : List Unpaired) (t : ShellParts) (faults : ℕ)
    (parts : List ℕ) → slice_get s.shells k ≡ Some h → (length (faces_apart firsts) ≡ 0 → ⊥)
    → t ≡ record { solid = s; shell = h; firsts = firsts; unpaired = us } → faults ≡ length (faces_apart firsts) → parts ≡ parts_of firsts
    → reach_lines listing f s k t.shell t.firsts t.unpaired faults parts ≡ reach_text listing f s k firsts us
reach_told listing f s k h firsts us t faults parts at some told count are =
    ap (λ (q : ShellParts). reach_lines listing f s k q.shell q.firsts q.unpaired faults parts) told
    ∙ (ap (λ n. reach_lines listing f s k h firsts us n parts) count
    ∙ (ap (λ ps. reach_lines listing f s k h firsts us (length (faces_apart firsts)) ps) are
    ∙ (sym (where_some (faces_apart firsts) (reach_lines listing f s k h firsts us (length (faces_apart firsts)) (parts_of firsts)) some)
    ∙ ap (λ o. reach_of listing f s k o firsts us) (sym at))))

pub named_told : (listing : Listing) (s : SolidData) (k : ℕ) (h : Shell) (firsts : List ℕ) (us : List Unpaired) (t : ShellParts) (parts : List ℕ)
    → slice_get s.shells k ≡ Some h → (length (faces_apart firsts) ≡ 0 → ⊥)
    → t ≡ record { solid = s; shell = h; firsts = firsts; unpaired = us } → parts ≡ parts_of firsts
    → flat_map (part_named listing t.shell t.firsts) (shown_parts listing parts) ≡ reach_named listing s k firsts
named_told listing s k h firsts us t parts at some told are =
    ap (λ (q : ShellParts). flat_map (part_named listing q.shell q.firsts) (shown_parts listing parts)) told
    ∙ (ap (λ ps. flat_map (part_named listing h firsts) (shown_parts listing ps)) are
    ∙ (sym (where_some (faces_apart firsts) (flat_map (part_named listing h firsts) (shown_parts listing (parts_of firsts))) some)
    ∙ ap (λ o. reach_faces listing o firsts) (sym at)))
