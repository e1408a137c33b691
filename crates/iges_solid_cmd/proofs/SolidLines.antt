-- The lines of a listing.
use Rattle.std.proofs.Common.{◌≡◌, ℕ, List, [], ◌∷◌, ◌++◌, flat_map, refl, ap, ◌∙◌}
use Rattle.iges_base.specs.declared.entry_no.EntryNo.{EntryNo}
use Rattle.iges_params.specs.Contents.{Contents}
use Rattle.iges_params.specs.Solids.{numbers_of, solids_of}
use Rattle.iges_solid_cmd.specs.Texts.{solid_line, solids_text}

abbrev lines_of : List EntryNo → List ℕ
lines_of list = flat_map (λ (no : EntryNo). solid_line no.0) list

by_numbers : (list : List EntryNo) → lines_of list ≡ flat_map solid_line (numbers_of list)
by_numbers [] = refl
by_numbers (n ∷ list) = ap (λ (text : List ℕ). solid_line n.0 ++ text) (by_numbers list)

pub listed : (f : Contents) (solids given : List EntryNo) (old new text : List ℕ) → numbers_of solids ≡ solids_of f → given ≡ solids → old ≡ []
    → new ≡ old ++ lines_of given → text ≡ new → text ≡ solids_text f
listed f solids given old new text all same empty put whole =
    whole ∙ put ∙ ap (λ (start : List ℕ). start ++ lines_of given) empty ∙ ap lines_of same ∙ by_numbers solids ∙ ap (flat_map solid_line) all
