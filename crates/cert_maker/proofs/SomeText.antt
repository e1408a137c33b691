-- A closed solid has the parts of a certificate, and so the text of one.
use Rattle.std.specs.Prelude.{◌≡◌, ◌<◌, ◌+◌, ◌==◌, ℕ, zero, suc, List, [], ◌∷◌, length, map, Contains, Some, slice_get}
use Rattle.std.specs.List.{AllByRecursion, AllZip}
use Rattle.std.proofs.Common.{refl, sym, ◌∙◌, ap, subst, arith, inl, inr}
use Rattle.std.proofs.lemmas.Bool.{eqb-true}
use Rattle.std.proofs.lemmas.List.Elements.{All-contains}
use Rattle.brep_walk.specs.SolidOf.{solid_of}
use Rattle.brep_walk.proofs.Few.{has_few_parts}
use Rattle.brep_walk.proofs.Found.{solid_is_numbered}
use Rattle.solid_data.specs.Numbering.{IsNumberedSolid}
use Rattle.solid_data.specs.Ring.{numbers_from}
use Rattle.solid_data.specs.SolidData.{SolidData}
use Rattle.solid_data.specs.declared.solid.LoopAt.{LoopAt}
use Rattle.solid_data.specs.declared.solid.RowId.{RowId}
use Rattle.solid_data.specs.declared.solid.Shell.{Shell}
use Rattle.solid_data.proofs.Members.{Has, All-at, All-from, Contains-from_Has, count_by-total, no_longer}
use Rattle.edge_uses.specs.declared.row.Row.{Row}
use Rattle.edge_uses.specs.ShellRows.{ShellRows, shell_rows}
use Rattle.edge_uses.specs.RowRelations.{StartsAt, Turns, IsPaired}
use Rattle.edge_uses.specs.Around.{IsCorner, IsLinked, IsReached}
use Rattle.shell_rules.specs.Closed.{IsClosedShell, IsClosedSolid}
use Rattle.edge_uses.specs.Mates.{ArePaired}
use Rattle.shell_rules.proofs.ClosedLemmas.{closed_is_all_hold}
use Rattle.edge_uses.proofs.Cycle.{zip_from_trail}
use Rattle.edge_uses.proofs.CornerCycle.{cycle_of_corner}
use Rattle.edge_uses.proofs.RowLemmas.{ends_meet}
use Rattle.edge_uses.proofs.RowNumbers.{starting, length-starting, starting_has, starting_none, starting_is}
use Rattle.edge_uses.proofs.Turn.{row_of_edge_along, row_of_edge_against, turning}
use Rattle.edge_uses.proofs.Whole.{are_rows}
use Rattle.vertex_link.specs.Corners.{IsCycle, IsCycleOf, LiesAt}
use Rattle.shell_reach.specs.Reaching.{row_numbers, ReachesAll, IsBreadthFirst}
use Rattle.shell_reach.proofs.SomeOrder.{some_order}
use Rattle.cert_lines.specs.Written.{certificate_lines, text_of}
use Rattle.cert_lines.specs.declared.parts.Certificate.{Certificate}
use Rattle.solid_data.specs.declared.linked.Corner.{Corner}
use Rattle.solid_data.specs.declared.linked.Corner.TheVariants.{Cycle, Point}
use Rattle.cert_lines.specs.declared.parts.ShellPart.{ShellPart}
use Rattle.cert_lines.specs.declared.version.Version.TheVariants.{Two}
use Rattle.cert_state.specs.Progress.{loops_of}
use Rattle.topo_certificate.proofs.Build.{found_point}
use Rattle.cert_state.proofs.PointOrder.{faces_of_rows}
use Rattle.cert_accept.proofs.Ready.{closed_at}
use Rattle.vertex_link.specs.Corners.{LiesAt}
use Rattle.cert_maker.specs.Certified.{AreItsRows, IsPart, AreParts}
use Rattle.cert_maker.specs.Certified.{ClosedHasText}
use Rattle.cert_maker.proofs.Certifying.{certificate_made}
use Rattle.cert_accept.proofs.Complete.{has_place}
use Rattle.vertex_link.proofs.Walks.{listed_at}

-- Where each item has one that agrees with it, so has the list.
some_zip : {A B : Type 0} (R : A → B → Type 0) (xs : List A) → ((x : A) → Has xs x → (y : B) × R x y) → (ys : List B) × AllZip R xs ys
some_zip R [] each = ([], tt)
some_zip R (x ∷ xs) each =
    let y = each x (inl refl) in
    let rest = some_zip R xs (λ z h. each z (inr h)) in
    (y.0 ∷ rest.0, (y.1, rest.1))

-- ---- what lies at a vertex

abbrev rows_at : ShellRows → ℕ → List ℕ
rows_at d v = starting v 0 d.rows

at_listed : (d : ShellRows) (v x : ℕ) → StartsAt d v x → Has (rows_at d v) x
at_listed d v x (row, at, e) = let zero_more : 0 + x ≡ x = omega arith in subst (Has (rows_at d v)) zero_more (starting_has v 0 x d.rows row at e)

some_cycle : (d : ShellRows) (v : ℕ) → ArePaired d → IsCorner d v → (r : ℕ) × (rs : List ℕ) × IsCycle d v r rs
some_cycle d v whole corner =
    let c = cycle_of_corner d v (turning d whole) corner in
    let cycle = c.2 in
    let rows : List ℕ = c.0 ∷ c.1 in (
      c.0,
      c.1,
      record {
        starts = All-from (StartsAt d v) rows cycle.each;
        all = λ x at. Contains-from_Has rows x (cycle.all x at);
        once = omega (
          arith,
          no_longer rows (rows_at d v) cycle.none (λ y h. at_listed d v y (cycle.each y h)),
          no_longer (rows_at d v) rows (starting_none v 0 d.rows) (λ y h. cycle.all y (listed_at d v y h)),
          count_by-total (λ (r : Row). r.from.0 == v) d.rows,
          length-starting v 0 d.rows,
        );
        turns = zip_from_trail (Turns d) c.0 c.1 c.0 cycle.trail;
        least = cycle.least;
        no_point = corner.no_point;
      },
    )

abbrev row_ids : List ℕ → List RowId
row_ids ns = map (λ n. record { 0 = n }) ns

numbers_back : (ns : List ℕ) → row_numbers (row_ids ns) ≡ ns
numbers_back [] = refl
numbers_back (n ∷ ns) = ap (λ l. n ∷ l) (numbers_back ns)

some_corner : (d : ShellRows) (v : ℕ) → ArePaired d → IsLinked d v → (c : Corner) × LiesAt d v c
some_corner d v whole (inl corner) =
    let c = some_cycle d v whole corner in (Cycle (row_ids (c.0 ∷ c.1)), subst (IsCycleOf d v) (sym (numbers_back (c.0 ∷ c.1))) c.2)
some_corner d v whole (inr point) =
    let f = found_point (λ (p : LoopAt × ℕ). p.1 == v) d.points (omega (arith, point.one_point, count_by-total (λ (p : LoopAt × ℕ). p.1 == v) d.points)) in
    (Point f.0.0, (point, subst (λ w. Contains d.points (f.0.0, w)) (eqb-true f.0.1 v f.2) (Contains-from_Has d.points f.0 f.1)))

-- ---- the part of a shell

some_edge : (d : ShellRows) (e : ℕ) → IsPaired d e → (p : RowId × RowId) × AreItsRows d e p
some_edge d e paired =
    let a = row_of_edge_along d e paired in
    let b = row_of_edge_against d e paired in (
      (record { 0 = a.0 }, record { 0 = b.0 }),
      (record { row = a.1; at = a.2; edge = a.3; along = a.4 }, record { row = b.1; at = b.2; edge = b.3; along = b.4 }),
    )

some_part : (d : ShellRows) (loops : ℕ) → ArePaired d → 0 < d.face_count → AllByRecursion (IsReached d) (numbers_from 0 d.face_count)
    → AllByRecursion (IsLinked d) d.vertices → (part : ShellPart) × IsPart d loops part
some_part d loops whole some reached linked =
    let edges = some_zip (AreItsRows d) d.edges (λ e h. some_edge d e (All-at (IsPaired d) d.edges whole.paired e h)) in
    let corners = some_zip (LiesAt d) d.vertices (λ v h. some_corner d v whole (All-at (IsLinked d) d.vertices linked v h)) in
    let order = some_order d whole some reached in
    let same = sym (numbers_back order.0) in (
      record {
        rows = length d.rows;
        edges = edges.0;
        corners = corners.0;
        faces = d.face_count;
        reach = row_ids order.0;
        vertices = length d.vertices;
        loops = loops;
      },
      record {
        rows = refl;
        edges = edges.1;
        corners = corners.1;
        faces = refl;
        reach = subst (ReachesAll d) same order.1;
        order = subst (IsBreadthFirst d) same order.2;
        vertices = refl;
        loops = refl;
      },
    )

some_parts : (s : SolidData) → IsNumberedSolid s → IsClosedSolid s → (parts : List ShellPart) × AreParts s s.shells parts
some_parts s numbered closed = some_zip (λ (h : Shell) (part : ShellPart). IsPart (shell_rows s h) (loops_of (Some h)) part) s.shells each
  where
    each : (h : Shell) → Has s.shells h → (part : ShellPart) × IsPart (shell_rows s h) (loops_of (Some h)) part
    each h there =
        let k = has_place s.shells h there in
        let shell : IsClosedShell s (0 + k.0) h = closed_at s 0 s.shells closed k.0 h k.1 in
        let count = sym (faces_of_rows s h) in
        some_part (shell_rows s h) (loops_of (Some h)) (record { rows = are_rows s h numbered there; meet = ends_meet s h shell.joined; paired = shell.paired })
        (subst (λ n. 0 < n) count (All-contains (λ (x : Shell). 0 < length x.faces) s.shells h numbered.each_shell (Contains-from_Has s.shells h there)))
        (subst (λ n. AllByRecursion (IsReached (shell_rows s h)) (numbers_from 0 n)) count shell.reached)
        shell.linked

-- ---- the text

pub some_text : ClosedHasText
some_text f n limits closed =
    let s : SolidData = solid_of f n in
    let numbered = solid_is_numbered f n closed.placed (has_few_parts f n limits closed.placed) in
    let parts = some_parts s numbered closed.closed in
    let c : Certificate = record { version = Two; solid = s.entity; shells = parts.0 } in
    (text_of (certificate_lines c), (c, certificate_made s c numbered refl refl ((closed_is_all_hold s).0 closed.closed) parts.1, refl))
