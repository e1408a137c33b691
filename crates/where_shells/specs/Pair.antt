-- The paragraph on the edges of a shell that aren't paired.
use Rattle.std.specs.Prelude.{ℕ, Bool, true, false, List, [], ◌∷◌, ◌++◌, length, flat_map, Option, Some, None, codes, decimal, slice_get}
use Rattle.iges_base.specs.declared.entry_no.EntryNo.{EntryNo}
use Rattle.iges_params.specs.Contents.{Contents}
use Rattle.solid_data.specs.SolidData.{SolidData, edge_name}
use Rattle.solid_data.specs.declared.solid.Edge.{Edge}
use Rattle.solid_data.specs.declared.solid.EdgeKey.{EdgeKey}
use Rattle.solid_data.specs.declared.solid.Shell.{Shell}
use Rattle.solid_data.specs.declared.verdict.Rule.TheVariants.{Unpaired as RuleUnpaired}
use Rattle.edge_uses.specs.Joins.{begin_of}
use Rattle.edge_uses.specs.ShellRows.{ShellRows, rows_of}
use Rattle.solid_faults.specs.declared.edge.Unpaired.{Unpaired}
use Rattle.shell_facts.specs.declared.placing.RowPlace.{RowPlace}
use Rattle.solid_faults.specs.Edges.{rows_on_edge}
use Rattle.shell_facts.specs.RowPlaces.{places_in}
use Rattle.solid_faults.specs.UseCounts.{once_count, same_way_count, many_count}
use Rattle.where_text.specs.declared.listing.Listing.{Listing}
use Rattle.where_text.specs.Listing.{shown, more_items, more_facts}
use Rattle.where_text.specs.Places.{face_words}
use Rattle.where_text.specs.Sentences.{rule_sentence}
use Rattle.where_text.specs.Spelled.{space_word}
use Rattle.where_shells.specs.Lines.{flag_number, rule_words, edge_words, curve_words, vertex_line}

-- the solid's flag for a shell
abbrev pub flag_in : Option Shell → Bool
flag_in None = false
flag_in (Some shell) = shell.flag

abbrev pub way_word : Bool → List ℕ
way_word true = codes "along"
way_word false = codes "against"

-- the flags of a row's tuple, of its face and of the shell
unfoldable pub flag_words : Bool → RowPlace → List ℕ
flag_words shell_flag p = codes " flags" ++ space_word (decimal (flag_number p.flag)) ++ space_word (decimal (flag_number p.face_flag))
    ++ space_word (decimal (flag_number shell_flag))

-- its loop and its tuple
unfoldable pub tuple_words : RowPlace → List ℕ
tuple_words p = codes " loop" ++ space_word (decimal p.walk.0) ++ codes " tuple" ++ space_word (decimal p.tuple)

-- a row: its direction, its face, its loop and its tuple, and the flags
unfoldable pub place_fact : Contents → Bool → RowPlace → List ℕ
place_fact f shell_flag p = codes " " ++ space_word (way_word p.along) ++ codes " face" ++ face_words f p.face ++ tuple_words p ++ flag_words shell_flag p
    ++ codes "\n"

abbrev pub row_fact : Contents → Bool → Option RowPlace → List ℕ
row_fact f shell_flag None = []
row_fact f shell_flag (Some p) = place_fact f shell_flag p

abbrev pub row_named : Option RowPlace → List EntryNo
row_named None = []
row_named (Some p) = p.face ∷ []

-- the rows with these numbers, of which the first ones are written
abbrev pub row_facts : Listing → Contents → Bool → List RowPlace → List ℕ → List ℕ
row_facts listing f shell_flag places rows = flat_map (λ r. row_fact f shell_flag (slice_get places r)) (shown listing rows) ++ more_facts listing (length rows)

abbrev pub rows_named : Listing → List RowPlace → List ℕ → List EntryNo
rows_named listing places rows = flat_map (λ r. row_named (slice_get places r)) (shown listing rows)

-- the head of an edge's paragraph
unfoldable pub edge_head : EdgeKey → Unpaired → List ℕ
edge_head key u = codes "edge" ++ edge_words key ++ codes " along" ++ space_word (decimal u.along) ++ codes " against" ++ space_word (decimal u.against)
    ++ codes "\n"

-- its curve, its start and its end
unfoldable pub edge_facts : Contents → SolidData → Option Edge → List ℕ
edge_facts f s edge = codes " " ++ curve_words f (edge_name edge) ++ codes "\n" ++ vertex_line (codes "  start") f s (begin_of edge true)
    ++ vertex_line (codes "  end") f s (begin_of edge false)

-- an edge and its rows
abbrev pub edge_text : Listing → Contents → SolidData → Bool → ShellRows → List RowPlace → Unpaired → List ℕ
edge_text listing f s shell_flag d places u =
    edge_head (edge_name (slice_get s.edges u.edge.0)) u ++ edge_facts f s (slice_get s.edges u.edge.0)
    ++ row_facts listing f shell_flag places (rows_on_edge d u.edge.0)

abbrev pub edge_named : Listing → ShellRows → List RowPlace → Unpaired → List EntryNo
edge_named listing d places u = rows_named listing places (rows_on_edge d u.edge.0)

-- how many of the edges are used once, twice and more often
unfoldable pub usage_words : List Unpaired → List ℕ
usage_words us = codes " once" ++ space_word (decimal (once_count us)) ++ codes " same-way" ++ space_word (decimal (same_way_count us)) ++ codes " many"
    ++ space_word (decimal (many_count us)) ++ codes "\n"

unfoldable pub pair_lines : Listing → Contents → SolidData → ℕ → Bool → ShellRows → List RowPlace → List Unpaired → List ℕ
pair_lines listing f s k shell_flag d places us =
    rule_words RuleUnpaired k (length us) ++ usage_words us ++ rule_sentence RuleUnpaired
    ++ flat_map (edge_text listing f s shell_flag d places) (shown listing us) ++ more_items listing (length us)

abbrev pub pair_of : Listing → Contents → SolidData → ℕ → Option Shell → List Unpaired → List ℕ
pair_of listing f s k shell [] = []
pair_of listing f s k shell (u ∷ us) = pair_lines listing f s k (flag_in shell) (rows_of s shell) (places_in s shell) (u ∷ us)

-- the paragraph on these edges, of shell k, from 0; nothing where there are none
abbrev pub pair_text : Listing → Contents → SolidData → ℕ → List Unpaired → List ℕ
pair_text listing f s k us = pair_of listing f s k (slice_get s.shells k) us

abbrev pub edges_named : Listing → SolidData → Option Shell → List Unpaired → List EntryNo
edges_named listing s shell us = flat_map (edge_named listing (rows_of s shell) (places_in s shell)) (shown listing us)

-- the faces that its written facts name
abbrev pub pair_named : Listing → SolidData → ℕ → List Unpaired → List EntryNo
pair_named listing s k us = edges_named listing s (slice_get s.shells k) us
