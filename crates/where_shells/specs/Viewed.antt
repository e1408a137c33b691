-- The words, lines and paragraphs on the shell of a view, and what holds of its rows and faces, as the view is given whole.
use Rattle.std.specs.Prelude.{◌≡◌, ◌<◌, ℕ, Bool, List, Option, length, slice_get}
use Rattle.iges_base.specs.declared.entry_no.EntryNo.{EntryNo}
use Rattle.solid_data.specs.declared.solid.FaceUse.{FaceUse}
use Rattle.solid_data.specs.declared.solid.LoopAt.{LoopAt}
use Rattle.solid_data.specs.declared.solid.LoopUse.{LoopUse}
use Rattle.edge_uses.specs.ShellRows as rows
use Rattle.edge_uses.specs.declared.row.Row.{Row}
use Rattle.spelled_solid.specs.Words as words
use Rattle.solid_faults.specs.Edges as edges
use Rattle.solid_faults.specs.Parts as parts
use Rattle.solid_faults.specs.declared.edge.Unpaired.{Unpaired}
use Rattle.solid_faults.specs.declared.fan.Unlinked.{Unlinked}
use Rattle.solid_faults.specs.declared.gap.Gap.{Gap}
use Rattle.shell_facts.specs.FaceTable.{touches_of}
use Rattle.shell_facts.specs.PartTables.{ShellParts}
use Rattle.shell_facts.specs.declared.placing.RowPlace.{RowPlace}
use Rattle.shell_facts.specs.declared.turning.AtVertex.{AtVertex}
use Rattle.where_text.specs.Listing as listed
use Rattle.where_text.specs.Places as places
use Rattle.where_shells.specs.declared.view.ShellView.{ShellView}
use Rattle.where_shells.specs.Lines as lines
use Rattle.where_shells.specs.Join as join
use Rattle.where_shells.specs.Pair as pair
use Rattle.where_shells.specs.Reach as reach
use Rattle.where_shells.specs.Link as link
use Rattle.where_shells.specs.Apart as apart

-- ---- what holds

-- the solid has the shell
abbrev pub HasShell : ShellView → Type 0
HasShell v = v.at.0 < length v.solid.now.shells

-- a number of a vertex of the solid
abbrev pub IsVertex : ShellView → ℕ → Type 0
IsVertex v = λ n. n < length v.solid.now.vertices

abbrev pub rows_of : ShellView → rows.ShellRows
rows_of v = rows.rows_of v.solid.now (slice_get v.solid.now.shells v.at.0)

abbrev pub HasRows : ShellView → Type 0
HasRows v = v.rows.now ≡ rows_of v

abbrev pub HasFaces : ShellView → Type 0
HasFaces v = v.faces.now ≡ touches_of v.solid.now

abbrev pub unpaired_of : ShellView → List Unpaired
unpaired_of v = edges.unpaired_of v.rows.now

abbrev pub shared_of : ShellView → List ℕ
shared_of v = edges.shared_of v.solid.now v.at.0 (rows_of v)

abbrev pub AreParts : ShellView → List ℕ → Type 0
AreParts v = parts.AreParts v.rows.now

-- the tables are of the solid
abbrev pub AreTables : ShellView → ShellParts → Type 0
AreTables v t = t.solid ≡ v.solid.now

-- ---- lines

-- the members that are written
abbrev pub shown : {A : Type 0} → ShellView → List A → List A
shown v = listed.shown v.listing

abbrev pub shown_gaps : ShellView → List Gap → List Gap
shown_gaps v = listed.shown v.gaps

abbrev pub face_words : ShellView → EntryNo → List ℕ
face_words v = places.face_words v.file.now

abbrev pub vertex_named : ShellView → ℕ → List ℕ
vertex_named v = words.vertex_named v.file.now v.solid.now

abbrev pub face_line : ShellView → EntryNo → List ℕ
face_line v = lines.face_line v.file.now

abbrev pub vertex_line : List ℕ → ShellView → ℕ → List ℕ
vertex_line word v = lines.vertex_line word v.file.now v.solid.now

-- ---- gaps of loops

abbrev pub use_words : ShellView → LoopUse → List ℕ
use_words v = join.use_words v.file.now v.solid.now

abbrev pub tuple_fact : List ℕ → ShellView → ℕ → LoopUse → List ℕ
tuple_fact word v = join.tuple_fact word v.file.now v.solid.now

abbrev pub meeting_facts : ShellView → ℕ → ℕ → Option LoopUse → Option LoopUse → List ℕ
meeting_facts v = join.meeting_facts v.file.now v.solid.now

abbrev pub loop_facts : ShellView → ℕ → List LoopUse → List ℕ
loop_facts v = join.loop_facts v.file.now v.solid.now

abbrev pub gap_text : ShellView → List FaceUse → Gap → List ℕ
gap_text v = join.gap_text v.file.now v.solid.now

abbrev pub join_lines : ShellView → List FaceUse → List Gap → List ℕ
join_lines v = join.join_lines v.gaps v.file.now v.solid.now v.at.0

abbrev pub join_text : ShellView → List Gap → List ℕ
join_text v = join.join_text v.gaps v.file.now v.solid.now v.at.0

abbrev pub join_named : ShellView → List Gap → List EntryNo
join_named v = join.join_named v.gaps v.solid.now v.at.0

-- ---- edges that aren't paired

abbrev pub place_fact : ShellView → Bool → RowPlace → List ℕ
place_fact v = pair.place_fact v.file.now

abbrev pub row_fact : ShellView → Bool → Option RowPlace → List ℕ
row_fact v = pair.row_fact v.file.now

abbrev pub row_facts : ShellView → Bool → List RowPlace → List ℕ → List ℕ
row_facts v = pair.row_facts v.listing v.file.now

abbrev pub rows_named : ShellView → List RowPlace → List ℕ → List EntryNo
rows_named v = pair.rows_named v.listing

-- of the edge with this number
abbrev pub edge_facts : ShellView → ℕ → List ℕ
edge_facts v e = pair.edge_facts v.file.now v.solid.now (slice_get v.solid.now.edges e)

abbrev pub edge_text : ShellView → Bool → rows.ShellRows → List RowPlace → Unpaired → List ℕ
edge_text v = pair.edge_text v.listing v.file.now v.solid.now

abbrev pub edge_named : ShellView → rows.ShellRows → List RowPlace → Unpaired → List EntryNo
edge_named v = pair.edge_named v.listing

abbrev pub pair_lines : ShellView → Bool → rows.ShellRows → List RowPlace → List Unpaired → List ℕ
pair_lines v = pair.pair_lines v.listing v.file.now v.solid.now v.at.0

abbrev pub pair_text : ShellView → List Unpaired → List ℕ
pair_text v = pair.pair_text v.listing v.file.now v.solid.now v.at.0

abbrev pub pair_named : ShellView → List Unpaired → List EntryNo
pair_named v = pair.pair_named v.listing v.solid.now v.at.0

-- ---- parts

abbrev pub part_lines : ShellView → ℕ → List EntryNo → ℕ → List ℕ → ℕ → List ℕ → List ℕ
part_lines v = reach.part_lines v.listing v.file.now v.solid.now

abbrev pub part_text : ShellView → ShellParts → ℕ × ℕ → List ℕ
part_text v t = reach.part_text v.listing v.file.now v.solid.now t.shell t.firsts t.unpaired

abbrev pub part_named : ShellView → ShellParts → ℕ × ℕ → List EntryNo
part_named v t = reach.part_named v.listing t.shell t.firsts

abbrev pub shown_parts : ShellView → List ℕ → List (ℕ × ℕ)
shown_parts v = reach.shown_parts v.listing

abbrev pub reach_lines : ShellView → ShellParts → ℕ → List ℕ → List ℕ
reach_lines v t = reach.reach_lines v.listing v.file.now v.solid.now v.at.0 t.shell t.firsts t.unpaired

abbrev pub reach_text : ShellView → List ℕ → List Unpaired → List ℕ
reach_text v = reach.reach_text v.listing v.file.now v.solid.now v.at.0

abbrev pub reach_named : ShellView → List ℕ → List EntryNo
reach_named v = reach.reach_named v.listing v.solid.now v.at.0

-- ---- vertices that aren't linked

abbrev pub place_words : ShellView → Option RowPlace → List ℕ
place_words v = link.place_words v.file.now

abbrev pub row_words : ShellView → Option Row → List ℕ
row_words v = link.row_words v.file.now v.solid.now

abbrev pub walk_words : ShellView → Option FaceUse → ℕ → List ℕ
walk_words v = link.walk_words v.file.now

abbrev pub row_line : ShellView → rows.ShellRows → List RowPlace → ℕ → ℕ → List ℕ
row_line v = link.row_line v.file.now v.solid.now

abbrev pub point_line : ShellView → List FaceUse → LoopAt → List ℕ
point_line v = link.point_line v.file.now

abbrev pub fact_line : ShellView → List FaceUse → rows.ShellRows → List RowPlace → AtVertex → List ℕ
fact_line v = link.fact_line v.file.now v.solid.now

abbrev pub unlinked_lines : ShellView → List FaceUse → rows.ShellRows → List RowPlace → Unlinked → List AtVertex → List ℕ
unlinked_lines v = link.unlinked_lines v.listing v.file.now v.solid.now

abbrev pub unlinked_text : ShellView → List FaceUse → rows.ShellRows → List RowPlace → List ℕ → Unlinked → List ℕ
unlinked_text v = link.unlinked_text v.listing v.file.now v.solid.now

abbrev pub unlinked_named : ShellView → List FaceUse → rows.ShellRows → List RowPlace → List ℕ → Unlinked → List EntryNo
unlinked_named v = link.unlinked_named v.listing

abbrev pub link_lines : ShellView → List FaceUse → rows.ShellRows → List RowPlace → List ℕ → List Unlinked → List ℕ
link_lines v = link.link_lines v.listing v.file.now v.solid.now v.at.0

abbrev pub link_text : ShellView → List ℕ → List Unlinked → List ℕ
link_text v = link.link_text v.listing v.file.now v.solid.now v.at.0

abbrev pub link_named : ShellView → List ℕ → List Unlinked → List EntryNo
link_named v = link.link_named v.listing v.solid.now v.at.0

-- ---- vertices that shells share

abbrev pub in_shell_line : ShellView → ℕ × EntryNo → List ℕ
in_shell_line v = apart.in_shell_line v.file.now

abbrev pub shared_lines : ShellView → ℕ → List (ℕ × EntryNo) → List ℕ
shared_lines v = apart.shared_lines v.file.now v.solid.now

abbrev pub shared_text : ShellView → ℕ → List ℕ
shared_text v = apart.shared_text v.file.now v.solid.now v.at.0

abbrev pub shared_named : ShellView → ℕ → List EntryNo
shared_named v = apart.shared_named v.solid.now v.at.0

abbrev pub apart_lines : ShellView → List ℕ → List ℕ
apart_lines v = apart.apart_lines v.listing v.file.now v.solid.now v.at.0

abbrev pub apart_text : ShellView → List ℕ → List ℕ
apart_text v = apart.apart_text v.listing v.file.now v.solid.now v.at.0

abbrev pub apart_named : ShellView → List ℕ → List EntryNo
apart_named v = apart.apart_named v.listing v.solid.now v.at.0
