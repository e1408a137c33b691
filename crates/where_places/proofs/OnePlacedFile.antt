-- Bytes are one file, and its entries have one place each.
use Rattle.std.specs.Prelude.{◌≡◌, ℕ, List}
use Rattle.std.proofs.Common.{sym, ap, ◌∙◌}
use Rattle.iges_lines.specs.Lines.{SectionLines}
use Rattle.iges_lines.proofs.Exact.{IsSectioned-read_sections}
use Rattle.iges_directory.specs.declared.entry.Placed.{Placed}
use Rattle.iges_directory.specs.Reading.{read_directory}
use Rattle.iges_directory.proofs.Exact.{AreEntries-read_directory}
use Rattle.iges_params.specs.Contents.{Contents}
use Rattle.iges_params.proofs.Answers.{ok_is}
use Rattle.iges_params.proofs.FileExact.{IsFile-read_file}
use Rattle.where_places.specs.declared.placed_file.PlacedFile.{PlacedFile}
use Rattle.where_places.specs.Places.{EntryPlaces, HasPlaces, places_of}
use Rattle.where_places.specs.PlacedFiles.{IsPlacedFile, OnePlacedFile}

same_places : (bytes : List ℕ) (f g : Contents) (a b : EntryPlaces) → HasPlaces bytes f a → HasPlaces bytes g b → a ≡ b
same_places bytes f g a b h k =
    let lines : h.file.sections ≡ k.file.sections =
    ok_is h.file.sections k.file.sections (sym (IsSectioned-read_sections bytes h.file.sections h.file.sectioned)
    ∙ IsSectioned-read_sections bytes k.file.sections k.file.sectioned) in
    let entries : h.file.placed ≡ k.file.placed =
    ok_is h.file.placed k.file.placed (sym (AreEntries-read_directory h.file.sections h.file.placed h.file.directory)
    ∙ (ap read_directory lines ∙ AreEntries-read_directory k.file.sections k.file.placed k.file.directory)) in
    h.places_are ∙ (ap (λ (s : SectionLines). places_of s h.file.placed) lines ∙ (ap (places_of k.file.sections) entries ∙ sym k.places_are))

same_file : (bytes : List ℕ) (f g : Contents) (a b : EntryPlaces) → HasPlaces bytes f a → HasPlaces bytes g b → f ≡ g
same_file bytes f g a b h k = ok_is f g (sym (IsFile-read_file bytes f h.file) ∙ IsFile-read_file bytes g k.file)

pub one_placed : OnePlacedFile
one_placed bytes p q h k =
    let file : p.file ≡ q.file = same_file bytes p.file q.file p.places q.places h.at k.at in
    let places : p.places ≡ q.places = same_places bytes p.file q.file p.places q.places h.at k.at in
    ap (λ (b : List ℕ). record { bytes = b; file = p.file; places = p.places }) (h.bytes_are ∙ sym k.bytes_are)
    ∙ (ap (λ (f : Contents). record { bytes = q.bytes; file = f; places = p.places }) file
    ∙ ap (λ (x : EntryPlaces). record { bytes = q.bytes; file = q.file; places = x }) places)
