-- What is said of the shells of a solid that fail.
use Rattle.std.specs.Prelude.{ℕ, nat_lt, List, [], ◌∷◌, ◌++◌, length, flat_map, Option, Some, None, slice_get, if◌then◌else◌}
use Rattle.std.specs.List.{sum_by}
use Rattle.iges_base.specs.declared.entry_no.EntryNo.{EntryNo}
use Rattle.iges_params.specs.Contents.{Contents}
use Rattle.solid_data.specs.SolidData.{SolidData}
use Rattle.solid_data.specs.declared.solid.Shell.{Shell}
use Rattle.solid_faults.specs.Faults.{Faults, Linking}
use Rattle.where_places.specs.declared.placed_file.PlacedFile.{PlacedFile}
use Rattle.where_text.specs.declared.listing.Listing.{Listing}
use Rattle.where_text.specs.declared.listing.Listing.TheVariants.{Few}
use Rattle.where_text.specs.Listing.{more_items, shown}
use Rattle.where_shells.specs.Join.{join_named, join_text}
use Rattle.where_shells.specs.Pair.{pair_named, pair_text}
use Rattle.where_shells.specs.Apart.{apart_named, apart_text}
use Rattle.where_shells.specs.Link.{link_named, link_text}
use Rattle.where_shells.specs.Reach.{reach_named, reach_text}
use Rattle.where_entities.specs.Entities.{entities_text}
use Rattle.solid_hints.specs.AllFaults.{failing_shells}
use Rattle.where_solids.specs.Lines.{line_at, shells_line, units_line}
use Rattle.where_solids.specs.declared.TheConstants.{GAP_LIMIT}

-- the vertices that aren't linked, where fans are judged
abbrev pub linking_text : Listing → Contents → SolidData → ℕ → Option Linking → List ℕ
linking_text listing f s k None = []
linking_text listing f s k (Some l) = link_text listing f s k l.leasts l.unlinked

abbrev pub linking_named : Listing → SolidData → ℕ → Option Linking → List EntryNo
linking_named listing s k None = []
linking_named listing s k (Some l) = link_named listing s k l.leasts l.unlinked

-- the rules that fail in shell k, from 0, each with its items, of which gaps are listed by the second listing
unfoldable pub fault_paragraphs : Listing → Listing → Contents → SolidData → ℕ → Faults → List ℕ
fault_paragraphs listing gaps f s k x =
    join_text gaps f s k x.gaps ++ pair_text listing f s k x.unpaired ++ reach_text listing f s k x.firsts x.unpaired
    ++ linking_text listing f s k x.linking ++ apart_text listing f s k x.shared

-- the faces that these name
unfoldable pub fault_faces : Listing → Listing → SolidData → ℕ → Faults → List EntryNo
fault_faces listing gaps s k x =
    join_named gaps s k x.gaps ++ pair_named listing s k x.unpaired ++ reach_named listing s k x.firsts ++ linking_named listing s k x.linking
    ++ apart_named listing s k x.shared

abbrev pub shell_paragraphs : Listing → Listing → Contents → SolidData → ℕ → Option Shell → Option Faults → List ℕ
shell_paragraphs listing gaps f s k (Some h) (Some x) = fault_paragraphs listing gaps f s k x
shell_paragraphs listing gaps f s k (Some h) None = []
shell_paragraphs listing gaps f s k None x = []

-- the shell, and the faces that its paragraphs name
abbrev pub shell_named : Listing → Listing → SolidData → ℕ → Option Shell → Option Faults → List EntryNo
shell_named listing gaps s k (Some h) (Some x) = h.entity ∷ fault_faces listing gaps s k x
shell_named listing gaps s k (Some h) None = []
shell_named listing gaps s k None x = []

-- how many gaps there are in all shells
abbrev pub gap_count : List Faults → ℕ
gap_count xs = sum_by (λ (x : Faults). length x.gaps) xs

-- how gaps are listed: no more than few of each shell where there are too many together
unfoldable pub gap_listing : Listing → List Faults → Listing
gap_listing listing xs = if nat_lt GAP_LIMIT (gap_count xs) then Few else listing

abbrev pub paragraphs_at : Listing → Contents → SolidData → List Faults → ℕ → List ℕ
paragraphs_at listing f s xs k = shell_paragraphs listing (gap_listing listing xs) f s k (slice_get s.shells k) (slice_get xs k)

abbrev pub named_at : Listing → SolidData → List Faults → ℕ → List EntryNo
named_at listing s xs k = shell_named listing (gap_listing listing xs) s k (slice_get s.shells k) (slice_get xs k)

-- the units, how many shells fail, and a line for each of the failing shells that are listed
unfoldable pub shell_lines : Listing → Contents → SolidData → List Faults → List ℕ
shell_lines listing f s xs =
    units_line f ++ shells_line (length s.shells) (length (failing_shells xs)) ++ flat_map (line_at s xs) (shown listing (failing_shells xs))
    ++ more_items listing (length (failing_shells xs))

-- their paragraphs, and then those of the solid, of the faces that the hints name, of these shells and of the faces that these paragraphs name
unfoldable pub shell_texts : Listing → PlacedFile → SolidData → List Faults → List EntryNo → List ℕ
shell_texts listing p s xs hinted =
    flat_map (paragraphs_at listing p.file s xs) (shown listing (failing_shells xs))
    ++ entities_text p (s.entity ∷ hinted ++ flat_map (named_at listing s xs) (shown listing (failing_shells xs)))
