-- The lines of parts fit.
use Rattle.std.specs.Prelude.{◌≡◌, ℕ, suc, ◌+◌, ◌-◌, ◌<◌, ◌≤◌, ◌==◌, ◌&&◌, ◌⊎◌, Bool, true, false, List, [], ◌∷◌, ◌++◌, length, map, flat_map, Contains, Some}
use Rattle.std.specs.Prelude.{slice_get, option_map}
use Rattle.std.specs.List.{AllByRecursion, AllZip, enumerate_from}
use Rattle.std.proofs.Common.{refl, sym, ◌∙◌, ap, subst, arith, inl, inr, ⊎_elim, append_assoc}
use Rattle.std.proofs.lemmas.Bool.{eq-eqb, eqb-true, and_parts}
use Rattle.std.proofs.lemmas.List.{length-map}
use Rattle.cert_maker.proofs.Zipping.{zip_length}
use Rattle.edge_uses.proofs.Turn.{edge_id}
use Rattle.solid_data.specs.SolidData.{SolidData}
use Rattle.solid_data.specs.declared.solid.LoopAt.{LoopAt}
use Rattle.solid_data.specs.declared.solid.RowId.{RowId}
use Rattle.solid_data.specs.declared.solid.Shell.{Shell}
use Rattle.solid_data.proofs.Members.{Has, Has-from_Contains, Contains-from_Has, Rises}
use Rattle.edge_uses.specs.ShellRows.{ShellRows, rows_of}
use Rattle.edge_uses.specs.RowRelations.{AreMates, StartsAt}
use Rattle.edge_uses.specs.Mates.{RunsOn}
use Rattle.vertex_link.specs.Corners.{IsCycle}
use Rattle.shell_reach.specs.Reaching.{ReachFrom, ReachesOne, row_numbers}
use Rattle.cert_text.specs.Text.{IsShort}
use Rattle.cert_lines.specs.Line.{CertLine, tally, shell, edge, corner, point, reach, end, spelling, HasSpelling}
use Rattle.cert_lines.specs.declared.counts.ShellCounts.{ShellCounts}
use Rattle.cert_lines.specs.declared.counts.TallyCounts.{TallyCounts}
use Rattle.cert_lines.specs.declared.version.Version.{Version}
use Rattle.cert_lines.specs.declared.version.Version.TheVariants.{One, Two, Three}
use Rattle.topo_certificate.specs.Legal.{IsLegal}
use Rattle.topo_certificate.specs.After.{IsLegalAfter}
use Rattle.topo_certificate.proofs.Forward.{legal_forward}
use Rattle.cert_state.specs.Progress.{tallies, loops_of, loops_of_shell, progress_from_latest, FitsLine, IsAbove, first_of, row_start, row_face, point_named}
use Rattle.cert_state.specs.Progress.{rows_of_shell, start_count, IsMate, TurnsTo}
use Rattle.cert_lines.specs.Written.{tally_line, tally_lines, row_number, edge_line, corner_line, reach_line, shell_line, shell_lines}
use Rattle.solid_data.specs.declared.linked.Corner.{Corner}
use Rattle.solid_data.specs.declared.linked.Corner.TheVariants.{Cycle, Point}
use Rattle.cert_lines.specs.declared.parts.ShellPart.{ShellPart}
use Rattle.cert_state.proofs.Short.{IsSmall, IsReadable, readable_edge, readable_corner, readable_point, readable_reach, readable_tally, readable_end}
use Rattle.cert_state.proofs.Short.{row_short, starts_few}
use Rattle.topo_certificate.proofs.Build.{Stage, add_edge, add_corner, add_point, add_reach, nothing_due, tally_fits, none_after_tally, MatedAt, mates_listed}
use Rattle.topo_certificate.proofs.Build.{PointsDiffer, zip_suc, map-suc-append, above_suc, find_some, none_start}
use Rattle.topo_certificate.proofs.Complete.{AreReady, Done, counts_of, tally_of, begin_shell, any_above, end_fits, ended}
use Rattle.vertex_link.specs.Corners.{LiesAt}
use Rattle.cert_maker.specs.Certified.{AreItsRows, IsPart, AreParts}

-- Behind the lines before, the latest first: each line is spelled and fits, and the last is END.
abbrev pub GoesOn : Version → SolidData → List CertLine → List CertLine → Type 0
GoesOn version s before [] = (progress_from_latest version s before).ended ≡ true
GoesOn version s before (l ∷ ls) = IsReadable s l × FitsLine s (progress_from_latest version s before) l × GoesOn version s (l ∷ before) ls

goes_legal : (version : Version) (s : SolidData) (before ls : List CertLine) → GoesOn version s before ls → IsLegalAfter version s before (map spelling ls)
goes_legal version s before [] h = h
goes_legal version s before (l ∷ ls) h = (l, h.0, h.1, goes_legal version s (l ∷ before) ls h.2)

goes_spelled : (version : Version) (s : SolidData) (before ls : List CertLine) → GoesOn version s before ls → AllByRecursion HasSpelling ls
goes_spelled version s before [] h = tt
goes_spelled version s before (l ∷ ls) h = (h.0.1.0, goes_spelled version s (l ∷ before) ls h.2)

-- a row's number, from 1
one_more : (r : RowId) → suc r.0 ≡ row_number r
one_more r = omega arith

named_rows : (rows : List RowId) → map suc (row_numbers rows) ≡ map row_number rows
named_rows [] = refl
named_rows (r ∷ rows) = ap (λ n. n ∷ map suc (row_numbers rows)) (one_more r) ∙ ap (λ ns. row_number r ∷ ns) (named_rows rows)

edge_named : (p : RowId × RowId) → edge (suc p.0.0) (suc p.1.0) ≡ edge_line p
edge_named p = ap (λ n. edge n (suc p.1.0)) (one_more p.0) ∙ ap (edge (row_number p.0)) (one_more p.1)

module _ (version : Version) (s : SolidData) (k : ℕ) (d : ShellRows) (small : IsSmall s d) where
  -- The lines of the edges fit, if those behind them do.
  pub edges_go : (rest : List CertLine) (left es : List ℕ) (pairs : List (RowId × RowId)) (ms : List (ℕ × ℕ)) (lines : List CertLine)
      → Stage version s lines k d es [] [] ms
      → length es + length left ≡ length d.edges → AllByRecursion (λ z. IsAbove (first_of es) z) left → Rises left → AllZip (AreItsRows d) left pairs
      → ((e : ℕ) → Has d.edges e → Has left e ⊎ MatedAt d ms e)
      → ((es' : List ℕ) (ms' : List (ℕ × ℕ)) (lines' : List CertLine) → Stage version s lines' k d es' [] [] ms' → length d.edges ≤ length es'
      → ((e : ℕ) → Has d.edges e → MatedAt d ms' e) → GoesOn version s lines' rest)
      → GoesOn version s lines (map edge_line pairs ++ rest)
  edges_go rest [] es [] ms lines stage count above rises rows mated on =
      on es ms lines stage (omega (arith, count)) (λ e m. ⊎_elim (λ h. absurd h) (λ h. h) (mated e m))
  edges_go rest [] es (p ∷ pairs) ms lines stage count above rises rows mated on = absurd rows
  edges_go rest (e ∷ left) es [] ms lines stage count above rises rows mated on = absurd rows
  edges_go rest (e ∷ left) es (p ∷ pairs) ms lines stage count above rises rows mated on =
      let a : RunsOn d e true p.0.0 = rows.0.0 in
      let b : RunsOn d e false p.1.0 = rows.0.1 in
      let here : MatedAt d ((suc p.0.0, suc p.1.0) ∷ ms) e = (p.0.0, p.1.0, a.row, b.row, inl refl, a.at, b.at, a.edge, b.edge, a.along, b.along) in
      let next : Stage version s (edge (suc p.0.0) (suc p.1.0) ∷ lines) k d (e ∷ es) [] [] ((suc p.0.0, suc p.1.0) ∷ ms) =
      add_edge version s lines k d es [] [] ms stage (suc p.0.0) (suc p.1.0) e a.row b.row (omega (arith, count)) a.at b.at a.edge
      (edge_id a.row.edge b.row.edge (a.edge ∙ sym b.edge)) a.along b.along above.0
      (readable_edge s (suc p.0.0) (suc p.1.0) (row_short s d small p.0.0 a.row a.at) (row_short s d small p.1.0 b.row b.at)) in
      subst (λ l. GoesOn version s lines (l ∷ (map edge_line pairs ++ rest))) (edge_named p) (
        next.short.0,
        next.fit.0,
        edges_go rest left (e ∷ es) pairs ((suc p.0.0, suc p.1.0) ∷ ms) (edge (suc p.0.0) (suc p.1.0) ∷ lines) next (omega (arith, count)) rises.0 rises.1
            rows.1
            (λ x m. ⊎_elim
            (λ h. ⊎_elim (λ same. inr (subst (MatedAt d ((suc p.0.0, suc p.1.0) ∷ ms)) same here)) (λ t. inl t) h)
            (λ h. inr (h.0, h.1, h.2, h.3, inr h.4, h.5, h.6, h.7, h.8, h.9, h.10))
            (mated x m))
            on,
      )

  starts_short : (v : ℕ) (xs : List ℕ) → AllByRecursion (StartsAt d v) xs → AllByRecursion IsShort (map suc xs)
  starts_short v [] h = tt
  starts_short v (x ∷ xs) h = (row_short s d small x h.0.0 h.0.1, starts_short v xs h.1)

  -- The line of a loop without an edge names it.
  point_lies : (v : ℕ) (at : LoopAt) → PointsDiffer d → Contains d.points (at, v)
      → (option_map (λ (p : LoopAt × ℕ). p.1) (point_named d (at.face.0 + 1) (at.place + 1)) ≡ Some v) × IsShort (at.face.0 + 1) × IsShort (at.place + 1)
  point_lies v at differ here =
      let m : Has d.points (at, v) = Has-from_Contains d.points (at, v) here in
      let face : ℕ = at.face.0 + 1 in
      let l : ℕ = at.place + 1 in
      let test : LoopAt × ℕ → Bool = λ p. (p.0.face.0 + 1 == face) && (p.0.place + 1 == l) in
      let itself : test (at, v) ≡ true = ap (λ b. b && (at.place + 1 == l)) (eq-eqb face face refl) ∙ eq-eqb l l refl in
      let g = find_some test d.points (at, v) m itself in
      let parts = and_parts (g.0.0.face.0 + 1 == face) (g.0.0.place + 1 == l) g.3 in
      let same_face : g.0.0.face.0 ≡ at.face.0 = (let e = eqb-true (g.0.0.face.0 + 1) face parts.0 in omega (arith, e)) in
      let same_place : g.0.0.place ≡ at.place = (let e = eqb-true (g.0.0.place + 1) l parts.1 in omega (arith, e)) in
      let sizes = small.points (at, v) m in
      (ap (option_map (λ (p : LoopAt × ℕ). p.1)) g.1 ∙ ap Some (differ g.0 (at, v) g.2 m same_face same_place), sizes.0, sizes.1)

  -- The lines of the vertices fit, if those behind them do.
  pub corners_go : (es : List ℕ) (ms : List (ℕ × ℕ)) → PointsDiffer d → ((r m : ℕ) → AreMates d r m → IsMate ms (suc r) (suc m)) → length d.edges ≤ length es
      → (rest : List CertLine) (left vs : List ℕ) (corners : List Corner) (lines : List CertLine) → Stage version s lines k d es vs [] ms
      → length vs + length left ≡ length d.vertices → AllByRecursion (λ z. IsAbove (first_of vs) z) left → Rises left → AllZip (LiesAt d) left corners
      → ((vs' : List ℕ) (lines' : List CertLine) → Stage version s lines' k d es vs' [] ms → length d.vertices ≤ length vs' → GoesOn version s lines' rest)
      → GoesOn version s lines (map corner_line corners ++ rest)
  corners_go es ms differ listed done rest [] vs [] lines stage count above rises lie on = on vs lines stage (omega (arith, count))
  corners_go es ms differ listed done rest [] vs (c ∷ corners) lines stage count above rises lie on = absurd lie
  corners_go es ms differ listed done rest (v ∷ left) vs [] lines stage count above rises lie on = absurd lie
  corners_go es ms differ listed done rest (v ∷ left) vs (Cycle [] ∷ corners) lines stage count above rises lie on = absurd lie.0
  corners_go es ms differ listed done rest (v ∷ left) vs (Cycle (r ∷ rows) ∷ corners) lines stage count above rises lie on =
      let rs : List ℕ = row_numbers rows in
      let cycle : IsCycle d v r.0 rs = lie.0 in
      let turns = subst (λ ys. AllZip (TurnsTo d ms) (suc r.0 ∷ map suc rs) ys) (map-suc-append rs r.0)
      (zip_suc d ms listed (r.0 ∷ rs) (rs ++ r.0 ∷ []) cycle.turns) in
      let whole : length (suc r.0 ∷ map suc rs) ≡ start_count d v = omega (arith, cycle.once, length-map rs suc) in
      let next : Stage version s (corner (suc r.0 ∷ map suc rs) ∷ lines) k d es (v ∷ vs) [] ms =
      add_corner version s lines k d es vs [] ms stage v (suc r.0) (map suc rs) done (omega (arith, count))
      (ap row_start cycle.starts.0.1 ∙ ap Some cycle.starts.0.2) turns (above_suc r.0 rs cycle.least) whole cycle.no_point above.0
      (readable_corner s (suc r.0) (map suc rs) (starts_short v (r.0 ∷ rs) cycle.starts) (omega (arith, whole, starts_few s d small v))) in
      subst (λ ns. GoesOn version s lines (corner ns ∷ (map corner_line corners ++ rest))) (named_rows (r ∷ rows)) (
        next.short.0,
        next.fit.0,
        corners_go es ms differ listed done rest left (v ∷ vs) corners (corner (suc r.0 ∷ map suc rs) ∷ lines) next
            (omega (arith, count)) rises.0 rises.1 lie.1 on,
      )
  corners_go es ms differ listed done rest (v ∷ left) vs (Point at ∷ corners) lines stage count above rises lie on =
      let named = point_lies v at differ lie.0.1 in
      let next : Stage version s (point (at.face.0 + 1) (at.place + 1) ∷ lines) k d es (v ∷ vs) [] ms =
      add_point version s lines k d es vs [] ms stage v (at.face.0 + 1) (at.place + 1) done (omega (arith, count)) named.0 (none_start d v lie.0.0.no_row)
      lie.0.0.one_point above.0 (readable_point s (at.face.0 + 1) (at.place + 1) named.1 named.2) in (
        next.short.0,
        next.fit.0,
        corners_go es ms differ listed done rest left (v ∷ vs) corners (point (at.face.0 + 1) (at.place + 1) ∷ lines) next
            (omega (arith, count)) rises.0 rises.1 lie.1 on,
      )

  -- The lines of the faces fit, if those behind them do.
  pub reach_go : (es vs : List ℕ) (ms : List (ℕ × ℕ)) → ((r m : ℕ) → AreMates d r m → IsMate ms (suc r) (suc m)) → length d.edges ≤ length es
      → length d.vertices ≤ length vs
      → (rest : List CertLine) (rows : List RowId) (known fs : List ℕ) (lines : List CertLine) → Stage version s lines k d es vs fs ms
      → length fs + length rows ≡ d.face_count - 1 → ReachFrom d known (row_numbers rows)
      → ((f : ℕ) → Contains known f → Has (0 ∷ fs) f) → ((f : ℕ) → Has (0 ∷ fs) f → Contains known f)
      → ((fs' : List ℕ) (lines' : List CertLine) → Stage version s lines' k d es vs fs' ms → d.face_count - 1 ≤ length fs' → GoesOn version s lines' rest)
      → GoesOn version s lines (map reach_line rows ++ rest)
  reach_go es vs ms listed edges_done corners_done rest [] known fs lines stage count order into back on = on fs lines stage (omega (arith, count))
  reach_go es vs ms listed edges_done corners_done rest (r ∷ rows) known fs lines stage count order into back on =
      let face : ℕ = order.0 in
      let one : ReachesOne d known r.0 face = order.1 in
      let next : Stage version s (reach (suc r.0) ∷ lines) k d es vs (face ∷ fs) ms =
      add_reach version s lines k d es vs fs ms stage (suc r.0) (suc one.mate) face one.from edges_done corners_done (omega (arith, count))
      (listed r.0 one.mate one.mates)
      (ap row_face one.on_face.1 ∙ ap Some one.on_face.2) (ap row_face one.on_known.1 ∙ ap Some one.on_known.2) (λ h. one.new (back face h))
      (into one.from one.old)
      (readable_reach s (suc r.0) (row_short s d small r.0 one.on_face.0 one.on_face.1)) in
      subst (λ n. GoesOn version s lines (reach n ∷ (map reach_line rows ++ rest))) (one_more r) (
        next.short.0,
        next.fit.0,
        reach_go es vs ms listed edges_done corners_done rest rows (face ∷ known) (face ∷ fs) (reach (suc r.0) ∷ lines) next (omega (arith, count)) order.2
            (λ f m. ⊎_elim (λ e. inr (inl e)) (λ h. ⊎_elim (λ e. inl e) (λ t. inr (inr t)) (into f (Contains-from_Has known f h)))
            (Has-from_Contains (face ∷ known) f m))
            (λ f h. Contains-from_Has (face ∷ known) f
            (⊎_elim (λ e. inr (Has-from_Contains known f (back f (inl e))))
            (λ t. ⊎_elim (λ e. inl e) (λ u. inr (Has-from_Contains known f (back f (inr u)))) t) h))
            on,
      )

same_counts : (a a2 b b2 c c2 d d2 : ℕ) → a ≡ a2 → b ≡ b2 → c ≡ c2 → d ≡ d2
    → (let x : ShellCounts = record { rows = a; edges = b; corners = c; faces = d }
    in let y : ShellCounts = record { rows = a2; edges = b2; corners = c2; faces = d2 } in x ≡ y)
same_counts a a2 b b2 c c2 d d2 ha hb hc hd = cc

same_tally : (a a2 b b2 c c2 d d2 : ℕ) → a ≡ a2 → b ≡ b2 → c ≡ c2 → d ≡ d2
    → (let x : TallyCounts = record { vertices = a; edges = b; faces = c; loops = d } in let y : TallyCounts = record {
      vertices = a2;
      edges = b2;
      faces = c2;
      loops = d2;
    }
    in x ≡ y)
same_tally a a2 b b2 c c2 d d2 ha hb hc hd = cc

part_counts : (s : SolidData) (k : ℕ) (part : ShellPart) → IsPart (rows_of_shell s k) (loops_of_shell s k) part → shell k (counts_of (rows_of_shell s k))
    ≡ shell_line k part
part_counts s k part p =
    let d : ShellRows = rows_of_shell s k in
    ap (shell k) (same_counts (length d.rows) part.rows (length d.edges) (length part.edges) (length d.vertices) (length part.corners) d.face_count part.faces
    (sym p.rows) (zip_length (AreItsRows d) d.edges part.edges p.edges) (zip_length (LiesAt d) d.vertices part.corners p.corners) (sym p.faces))

part_tally : (s : SolidData) (k : ℕ) (part : ShellPart) → IsPart (rows_of_shell s k) (loops_of_shell s k) part → tally (tally_of s k) ≡ tally_line part
part_tally s k part p =
    let d : ShellRows = rows_of_shell s k in
    ap tally (same_tally (length d.vertices) part.vertices (length d.edges) (length part.edges) d.face_count part.faces (loops_of_shell s k) part.loops
    (sym p.vertices) (zip_length (AreItsRows d) d.edges part.edges p.edges) (sym p.faces) (sym p.loops))

one_tally : (version : Version) (s : SolidData) (k : ℕ) (rest lines : List CertLine) (es vs fs : List ℕ) (ms : List (ℕ × ℕ)) → tallies version ≡ 1
    → AreReady s (rows_of_shell s k) (loops_of_shell s k)
    → Stage version s lines k (rows_of_shell s k) es vs fs ms → length (rows_of_shell s k).edges ≤ length es → length (rows_of_shell s k).vertices ≤ length vs
    → (rows_of_shell s k).face_count - 1 ≤ length fs
    → ((next : Done version s k) → GoesOn version s next.lines rest) → GoesOn version s lines (tally (tally_of s k) ∷ rest)
one_tally version s k rest lines es vs fs ms one ready stage a b c on =
    let d : ShellRows = rows_of_shell s k in
    let fits = tally_fits version s lines k d es vs fs ms stage (tally_of s k) one a b c
    (record { vertices_counted = refl; edges_counted = refl; faces_counted = refl; loops_counted = refl }) in
    let short = readable_tally s (tally_of s k) ready.small.vertices ready.small.edges ready.small.faces ready.few_loops in (
      short,
      fits,
      on (record {
        lines = tally (tally_of s k) ∷ lines;
        fit = (fits, stage.fit);
        short = (short, stage.short);
        begun = stage.begun;
        shells = stage.shells;
        nothing = none_after_tally version s lines k d es vs fs ms stage (tally_of s k) one a b c;
      }),
    )

-- Where nothing is due of a shell but its TALLY line, the lines behind it fit, if those behind its TALLY line do.
tally_goes : (version : Version) (s : SolidData) (k : ℕ) (part : ShellPart) (rest lines : List CertLine) (es vs fs : List ℕ) (ms : List (ℕ × ℕ))
    → AreReady s (rows_of_shell s k) (loops_of_shell s k) → IsPart (rows_of_shell s k) (loops_of_shell s k) part
    → Stage version s lines k (rows_of_shell s k) es vs fs ms → length (rows_of_shell s k).edges ≤ length es → length (rows_of_shell s k).vertices ≤ length vs
    → (rows_of_shell s k).face_count - 1 ≤ length fs
    → ((next : Done version s k) → GoesOn version s next.lines rest) → GoesOn version s lines (tally_lines version part ++ rest)
tally_goes One s k part rest lines es vs fs ms ready is_part stage a b c on = on (record {
  lines = lines;
  fit = stage.fit;
  short = stage.short;
  begun = stage.begun;
  shells = stage.shells;
  nothing = nothing_due One s lines k (rows_of_shell s k) es vs fs ms stage refl a b c;
})
tally_goes Two s k part rest lines es vs fs ms ready is_part stage a b c on =
    subst (λ l. GoesOn Two s lines (l ∷ rest)) (part_tally s k part is_part) (one_tally Two s k rest lines es vs fs ms refl ready stage a b c on)
tally_goes Three s k part rest lines es vs fs ms ready is_part stage a b c on =
    subst (λ l. GoesOn Three s lines (l ∷ rest)) (part_tally s k part is_part) (one_tally Three s k rest lines es vs fs ms refl ready stage a b c on)

-- The lines of a shell fit, if those behind them do.
shell_goes : (version : Version) (s : SolidData) (j : ℕ) (part : ShellPart) (rest : List CertLine) → j < length s.shells
    → AreReady s (rows_of_shell s (suc j)) (loops_of_shell s (suc j)) → IsPart (rows_of_shell s (suc j)) (loops_of_shell s (suc j)) part
    → (done : Done version s j) → ((next : Done version s (suc j)) → GoesOn version s next.lines rest)
    → GoesOn version s done.lines (shell_lines version (suc j, part) ++ rest)
shell_goes version s j part rest lt ready is_part done on =
    let d : ShellRows = rows_of_shell s (suc j) in
    let edge_lines : List CertLine = map edge_line part.edges in
    let corner_lines : List CertLine = map corner_line part.corners in
    let reach_lines : List CertLine = map reach_line part.reach in
    let last : List CertLine = tally_lines version part in
    let started = begin_shell version s j lt ready done in
    let behind : GoesOn version s (shell (suc j) (counts_of d) ∷ done.lines) (edge_lines ++ (corner_lines ++ (reach_lines ++ (last ++ rest)))) =
    edges_go version s (suc j) d ready.small (corner_lines ++ (reach_lines ++ (last ++ rest))) d.edges [] part.edges [] _ started (omega arith)
    (any_above d.edges) ready.edges_rise is_part.edges (λ x m. inl m)
    (λ es ms lines stage edges_done mated.
    let listed : (r m : ℕ) → AreMates d r m → IsMate ms (suc r) (suc m) = mates_listed d ms ready.good ready.proper.paired mated in
    corners_go version s (suc j) d ready.small es ms ready.differ listed edges_done (reach_lines ++ (last ++ rest)) d.vertices [] part.corners lines stage
    (omega arith) (any_above d.vertices) ready.vertices_rise is_part.corners
    (λ vs lines' stage' corners_done.
    reach_go version s (suc j) d ready.small es vs ms listed edges_done corners_done (last ++ rest) part.reach (0 ∷ []) [] lines' stage'
    (omega (arith, is_part.reach.count, length-map part.reach (λ (r : RowId). r.0))) is_part.reach.order
    (λ f m. Has-from_Contains (0 ∷ []) f m) (λ f m. Contains-from_Has (0 ∷ []) f m)
    (λ fs lines'' stage'' all. tally_goes version s (suc j) part rest lines'' es vs fs ms ready is_part stage'' edges_done corners_done all on))) in
    subst (λ ls. GoesOn version s done.lines (shell_line (suc j) part ∷ ls)) (regroup edge_lines corner_lines reach_lines last)
    (subst (λ l. GoesOn version s done.lines (l ∷ (edge_lines ++ (corner_lines ++ (reach_lines ++ (last ++ rest)))))) (part_counts s (suc j) part is_part)
    (started.short.0, started.fit.0, behind))
  where
    regroup : (a b c e : List CertLine) → a ++ (b ++ (c ++ (e ++ rest))) ≡ (a ++ (b ++ (c ++ e))) ++ rest
    regroup a b c e = ap (λ ys. a ++ ys) (ap (λ ys. b ++ ys) (sym (append_assoc c e rest)) ∙ sym (append_assoc b (c ++ e) rest))
        ∙ sym (append_assoc a (b ++ (c ++ e)) rest)

end_goes : (version : Version) (s : SolidData) (j : ℕ) → j ≡ length s.shells → (done : Done version s j) → GoesOn version s done.lines (end ∷ [])
end_goes version s j e done =
    let whole : Done version s (length s.shells) =
    record { lines = done.lines; fit = done.fit; short = done.short; begun = done.begun; shells = done.shells ∙ e; nothing = done.nothing } in
    (readable_end s, (end_fits version s whole).0, ended version s done.lines)

parts_go : (version : Version) (s : SolidData) → ((j : ℕ) → j < length s.shells → AreReady s (rows_of_shell s (suc j)) (loops_of_shell s (suc j)))
    → (j : ℕ) (left : List Shell) (parts : List ShellPart) → ((i : ℕ) → slice_get left i ≡ slice_get s.shells (j + i)) → j + length left ≡ length s.shells
    → AreParts s left parts
    → (done : Done version s j) → GoesOn version s done.lines (flat_map (shell_lines version) (enumerate_from (suc j) parts) ++ end ∷ [])
parts_go version s ready j [] [] same count h done = end_goes version s j (omega (arith, count)) done
parts_go version s ready j [] (p ∷ parts) same count h done = absurd h
parts_go version s ready j (x ∷ left) [] same count h done = absurd h
parts_go version s ready j (x ∷ left) (p ∷ parts) same count h done =
    let nothing_more : j + 0 ≡ j = omega arith in
    let one_on : suc (suc j) ≡ suc j + 1 = omega arith in
    let at : Some x ≡ slice_get s.shells j = same 0 ∙ ap (slice_get s.shells) nothing_more in
    let lt : j < length s.shells = omega (arith, count) in
    subst (GoesOn version s done.lines)
    (sym (append_assoc (shell_lines version (suc j, p)) (flat_map (shell_lines version) (enumerate_from (suc j + 1) parts)) (end ∷ [])))
    (shell_goes version s j p (flat_map (shell_lines version) (enumerate_from (suc j + 1) parts) ++ end ∷ []) lt (ready j lt)
    (subst (λ o. IsPart (rows_of s o) (loops_of o) p) at h.0) done
    (λ next. subst (λ b. GoesOn version s next.lines (flat_map (shell_lines version) (enumerate_from b parts) ++ end ∷ [])) one_on
    (parts_go version s ready (suc j) left parts (λ i. let e : j + suc i ≡ suc j + i = omega arith in same (suc i) ∙ ap (slice_get s.shells) e)
    (omega (arith, count)) h.1 next)))

from_nothing : (version : Version) (s : SolidData) (rest : List CertLine) → ((done : Done version s 0) → GoesOn version s done.lines rest)
    → GoesOn version s [] rest
unfolding progress_from_latest
from_nothing version s rest on =
    on (record { lines = []; fit = tt; short = tt; begun = refl; shells = refl; nothing = record { edges = refl; corners = refl; reach = refl; tally = refl } })

-- Where the rows of each shell are ready, the lines of the parts are legal, and each is spelled.
pub parts_legal : (version : Version) (s : SolidData) (parts : List ShellPart)
    → ((j : ℕ) → j < length s.shells → AreReady s (rows_of_shell s (suc j)) (loops_of_shell s (suc j))) → AreParts s s.shells parts
    → IsLegal version s (map spelling (flat_map (shell_lines version) (enumerate_from 1 parts) ++ end ∷ []))
    × AllByRecursion HasSpelling (flat_map (shell_lines version) (enumerate_from 1 parts) ++ end ∷ [])
parts_legal version s parts ready h =
    let none : (i : ℕ) → slice_get s.shells i ≡ slice_get s.shells (0 + i) = λ i. let e : i ≡ 0 + i = omega arith in ap (slice_get s.shells) e in
    let go : GoesOn version s [] (flat_map (shell_lines version) (enumerate_from 1 parts) ++ end ∷ []) =
    from_nothing version s (flat_map (shell_lines version) (enumerate_from 1 parts) ++ end ∷ [])
    (parts_go version s ready 0 s.shells parts none (omega arith) h) in (
      legal_forward version s (map spelling (flat_map (shell_lines version) (enumerate_from 1 parts) ++ end ∷ []))
          (goes_legal version s [] (flat_map (shell_lines version) (enumerate_from 1 parts) ++ end ∷ []) go),
      goes_spelled version s []
          (flat_map (shell_lines version) (enumerate_from 1 parts) ++ end ∷ []) go,
    )
