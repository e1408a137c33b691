-- Two legal lists of lines for one solid are plainly the same, line by line.
use Rattle.std.specs.Prelude.{◌≡◌, ℕ, ◌⊎◌, true, false, List, [], ◌∷◌, map, filter_map}
use Rattle.std.specs.List.{AllZip, cons_option}
use Rattle.std.proofs.Common.{refl, sym, ◌∙◌, ap, subst, arith, inl, inr}
use Rattle.solid_data.specs.SolidData.{SolidData}
use Rattle.solid_data.proofs.Members.{Has}
use Rattle.edge_uses.specs.declared.row.Row.{Row}
use Rattle.edge_uses.specs.ShellRows.{ShellRows}
use Rattle.cert_lines.specs.Line.{CertLine, head, solid, shell, edge, corner, point, reach, tally, end, spelling, IsSpelled}
use Rattle.cert_lines.specs.declared.version.Version.{Version}
use Rattle.cert_state.specs.Progress.{Progress, progress_from_latest, FitsLine, edge_of, vertex_of, is_shell, number_of, since_shell, rows_of_shell, current_rows}
use Rattle.cert_state.specs.Progress.{row_edge}
use Rattle.topo_certificate.specs.After.{IsLegalAfter}
use Rattle.cert_state.proofs.Segment.{named_has, paired_rows, start_known, point_known}
use Rattle.topo_certificate.proofs.Facts.{AllFit, Good}
use Rattle.topo_certificate.proofs.LineKinds.{facts_of, plain}
use Rattle.cert_accept.specs.Laws.{AlikeButReach}
use Rattle.cert_accept.proofs.Nexts.{Leads, next_is}
use Rattle.cert_accept.proofs.Ahead.{LeadOn, lead_on, begun_row, begun_start, begun_point}
use Rattle.cert_accept.proofs.Plain.{same_or_reach, but_reached, plain_stands}
use Rattle.cert_accept.proofs.Sides.{EdgeSide, CornerSide, PointSide, edge_one, corner_one, point_one, corner_no_point, shell_one, tally_one}

module _ (version : Version) (s : SolidData) (good : Good s) where
  -- the rows of the shell at hand
  abbrev rows_at : Progress → ShellRows
  rows_at at = rows_of_shell s at.shell

  -- What an edge line, a corner line and a point line are, where they fit and legal lines follow.
  edge_side : (before : List CertLine) (a b : ℕ) → AllFit version s before → FitsLine s (progress_from_latest version s before) (edge a b)
      → (lines : List (List ℕ)) → IsLegalAfter version s (edge a b ∷ before) lines
      → EdgeSide (rows_at (progress_from_latest version s before)) (progress_from_latest version s before).last_edge a b
  unfolding progress_from_latest
  edge_side before a b fit fits lines legal =
      let d : ShellRows = current_rows s before in
      let h = fits.1.1 in
      let k = begun_row s (number_of is_shell before) a h.along_row h.at_a in
      let lead : LeadOn s (edge a b ∷ before) d = lead_on version s good (edge a b ∷ before) k.0 k.1 (fits, fit) lines legal fits.0 in
      let known : Has d.edges h.along_row.edge.0 = named_has (λ (r : Row). Has d.edges r.edge.0) d a h.along_row (good (number_of is_shell before)).edges
      h.at_a in
      let es : List ℕ = filter_map (edge_of d) (since_shell before) in
      record {
        along_row = h.along_row;
        against_row = h.against_row;
        at_a = h.at_a;
        at_b = h.at_b;
        one_edge = h.one_edge;
        along = h.along;
        against = h.against;
        next = next_is d.edges es h.along_row.edge.0 (subst (λ o. Leads d.edges (cons_option o es)) (ap row_edge h.at_a) lead.edges) known h.rises;
        paired = lead.paired h.along_row.edge.0 known;
      }

  corner_side : (before : List CertLine) (r : ℕ) (rs : List ℕ) → AllFit version s before → FitsLine s (progress_from_latest version s before) (corner (r ∷ rs))
      → (lines : List (List ℕ)) → IsLegalAfter version s (corner (r ∷ rs) ∷ before) lines
      → CornerSide (rows_at (progress_from_latest version s before)) (progress_from_latest version s before).mates (progress_from_latest version s before).last_vertex r
      rs
  unfolding progress_from_latest
  corner_side before r rs fit fits lines legal =
      let d : ShellRows = current_rows s before in
      let h = fits.1.1 in
      let k = begun_start s (number_of is_shell before) r h.vertex h.lies_at in
      let lead : LeadOn s (corner (r ∷ rs) ∷ before) d = lead_on version s good (corner (r ∷ rs) ∷ before) k.0 k.1 (fits, fit) lines legal fits.0 in
      let vs : List ℕ = filter_map (vertex_of d) (since_shell before) in
      let rows = good (number_of is_shell before) in
      record {
        vertex = h.vertex;
        lies_at = h.lies_at;
        turns = h.turns;
        least = h.least;
        whole = h.whole;
        next = next_is d.vertices vs h.vertex (subst (λ o. Leads d.vertices (cons_option o vs)) h.lies_at lead.vertices)
            (start_known d rows r h.vertex h.lies_at) h.rises;
        hold = (facts_of version s good before k.0 k.1 fit).edge_facts.hold;
        paired = paired_rows d rows lead.paired;
        good = rows;
      }

  point_side : (before : List CertLine) (face l : ℕ) → AllFit version s before → FitsLine s (progress_from_latest version s before) (point face l)
      → (lines : List (List ℕ)) → IsLegalAfter version s (point face l ∷ before) lines
      → PointSide (rows_at (progress_from_latest version s before)) (progress_from_latest version s before).last_vertex face l
  unfolding progress_from_latest
  point_side before face l fit fits lines legal =
      let d : ShellRows = current_rows s before in
      let h = fits.1.1 in
      let k = begun_point s (number_of is_shell before) face l h.vertex h.lies_at in
      let lead : LeadOn s (point face l ∷ before) d = lead_on version s good (point face l ∷ before) k.0 k.1 (fits, fit) lines legal fits.0 in
      let vs : List ℕ = filter_map (vertex_of d) (since_shell before) in
      record {
        vertex = h.vertex;
        lies_at = h.lies_at;
        no_row = h.no_row;
        one_point = h.one_point;
        next = next_is d.vertices vs h.vertex (subst (λ o. Leads d.vertices (cons_option o vs)) h.lies_at lead.vertices)
            (point_known d (good (number_of is_shell before)) face l h.vertex h.lies_at) h.rises;
      }

  -- behind lines that are plainly the same
  module _ (us ws : List CertLine) (fit_a : AllFit version s us) (fit_b : AllFit version s ws) (same : map plain us ≡ map plain ws) where
    abbrev here : Progress
    here = progress_from_latest version s us

    abbrev there : Progress
    there = progress_from_latest version s ws

    stands : but_reached here ≡ but_reached there
    stands = plain_stands version s us ws same

    shells : here.shell ≡ there.shell
    shells = ap (λ (t : Progress). t.shell) stands

    edges : here.due.edges ≡ there.due.edges
    edges = ap (λ (t : Progress). t.due.edges) stands

    corners : here.due.corners ≡ there.due.corners
    corners = ap (λ (t : Progress). t.due.corners) stands

    reaches : here.due.reach ≡ there.due.reach
    reaches = ap (λ (t : Progress). t.due.reach) stands

    tallies : here.due.tally ≡ there.due.tally
    tallies = ap (λ (t : Progress). t.due.tally) stands

    edge_there : (a b : ℕ) → EdgeSide (rows_at there) there.last_edge a b → EdgeSide (rows_at here) here.last_edge a b
    edge_there a b h = subst (λ (t : Progress). EdgeSide (rows_at t) t.last_edge a b) (sym stands) h

    corner_there : (r : ℕ) (rs : List ℕ) → CornerSide (rows_at there) there.mates there.last_vertex r rs
        → CornerSide (rows_at here) here.mates here.last_vertex r rs
    corner_there r rs h = subst (λ (t : Progress). CornerSide (rows_at t) t.mates t.last_vertex r rs) (sym stands) h

    point_there : (face l : ℕ) → PointSide (rows_at there) there.last_vertex face l → PointSide (rows_at here) here.last_vertex face l
    point_there face l h = subst (λ (t : Progress). PointSide (rows_at t) t.last_vertex face l) (sym stands) h

    -- The next lines are plainly the same too: their kind is told by what is due.
    next_same : (x y : CertLine) → FitsLine s here x → FitsLine s there y → (xs ys : List (List ℕ))
        → IsLegalAfter version s (x ∷ us) xs → IsLegalAfter version s (y ∷ ws) ys → plain x ≡ plain y
    next_same (head v) y f g xs ys p q = absurd f.1
    next_same (solid n) y f g xs ys p q = absurd f.1
    next_same (corner []) y f g xs ys p q = absurd f.1
    next_same (shell k c) (head w) f g xs ys p q = absurd g.1
    next_same (shell k c) (solid j) f g xs ys p q = absurd g.1
    next_same (shell k c) (corner []) f g xs ys p q = absurd g.1
    next_same (shell k c) (shell n e) f g xs ys p q = shell_one s here there k n c e shells f.1.1 g.1.1
    next_same (shell k c) (edge m n) f g xs ys p q = absurd (omega (arith, g.1.0, f.1.0.edges, edges))
    next_same (shell k c) (corner (w ∷ others)) f g xs ys p q = absurd (omega (arith, g.1.0.1, f.1.0.corners, corners))
    next_same (shell k c) (point other place) f g xs ys p q = absurd (omega (arith, g.1.0.1, f.1.0.corners, corners))
    next_same (shell k c) (reach m) f g xs ys p q = absurd (omega (arith, g.1.0.2, f.1.0.reach, reaches))
    next_same (shell k c) (tally u) f g xs ys p q = absurd (omega (arith, g.1.0.3, f.1.0.tally, tallies))
    next_same (shell k c) end f g xs ys p q = absurd (omega (arith, f.1.1.next, f.1.1.there, g.1.1, shells))
    next_same (edge a b) (head w) f g xs ys p q = absurd g.1
    next_same (edge a b) (solid j) f g xs ys p q = absurd g.1
    next_same (edge a b) (corner []) f g xs ys p q = absurd g.1
    next_same (edge a b) (shell n e) f g xs ys p q = absurd (omega (arith, f.1.0, g.1.0.edges, edges))
    next_same (edge a b) (edge m n) f g xs ys p q = edge_one (rows_at here) here.last_edge a b m n (edge_side us a b fit_a f xs p)
        (edge_there m n (edge_side ws m n fit_b g ys q))
    next_same (edge a b) (corner (w ∷ others)) f g xs ys p q = absurd (omega (arith, f.1.0, g.1.0.0, edges))
    next_same (edge a b) (point other place) f g xs ys p q = absurd (omega (arith, f.1.0, g.1.0.0, edges))
    next_same (edge a b) (reach m) f g xs ys p q = absurd (omega (arith, f.1.0, g.1.0.0, edges))
    next_same (edge a b) (tally u) f g xs ys p q = absurd (omega (arith, f.1.0, g.1.0.0, edges))
    next_same (edge a b) end f g xs ys p q = absurd (omega (arith, f.1.0, g.1.0.edges, edges))
    next_same (corner (r ∷ rs)) (head w) f g xs ys p q = absurd g.1
    next_same (corner (r ∷ rs)) (solid j) f g xs ys p q = absurd g.1
    next_same (corner (r ∷ rs)) (corner []) f g xs ys p q = absurd g.1
    next_same (corner (r ∷ rs)) (shell n e) f g xs ys p q = absurd (omega (arith, f.1.0.1, g.1.0.corners, corners))
    next_same (corner (r ∷ rs)) (edge m n) f g xs ys p q = absurd (omega (arith, g.1.0, f.1.0.0, edges))
    next_same (corner (r ∷ rs)) (corner (w ∷ others)) f g xs ys p q = corner_one (rows_at here) here.mates here.last_vertex r rs w others
        (corner_side us r rs fit_a f xs p) (corner_there w others (corner_side ws w others fit_b g ys q))
    next_same (corner (r ∷ rs)) (point other place) f g xs ys p q =
        absurd (corner_no_point (rows_at here) here.mates here.last_vertex r rs other place (corner_side us r rs fit_a f xs p)
        (point_there other place (point_side ws other place fit_b g ys q)))
    next_same (corner (r ∷ rs)) (reach m) f g xs ys p q = absurd (omega (arith, f.1.0.1, g.1.0.1, corners))
    next_same (corner (r ∷ rs)) (tally u) f g xs ys p q = absurd (omega (arith, f.1.0.1, g.1.0.1, corners))
    next_same (corner (r ∷ rs)) end f g xs ys p q = absurd (omega (arith, f.1.0.1, g.1.0.corners, corners))
    next_same (point face l) (head w) f g xs ys p q = absurd g.1
    next_same (point face l) (solid j) f g xs ys p q = absurd g.1
    next_same (point face l) (corner []) f g xs ys p q = absurd g.1
    next_same (point face l) (shell n e) f g xs ys p q = absurd (omega (arith, f.1.0.1, g.1.0.corners, corners))
    next_same (point face l) (edge m n) f g xs ys p q = absurd (omega (arith, g.1.0, f.1.0.0, edges))
    next_same (point face l) (corner (w ∷ others)) f g xs ys p q =
        absurd (corner_no_point (rows_at here) here.mates here.last_vertex w others face l (corner_there w others (corner_side ws w others fit_b g ys q))
        (point_side us face l fit_a f xs p))
    next_same (point face l) (point other place) f g xs ys p q = point_one (rows_at here) here.last_vertex face l other place
        (point_side us face l fit_a f xs p) (point_there other place (point_side ws other place fit_b g ys q))
    next_same (point face l) (reach m) f g xs ys p q = absurd (omega (arith, f.1.0.1, g.1.0.1, corners))
    next_same (point face l) (tally u) f g xs ys p q = absurd (omega (arith, f.1.0.1, g.1.0.1, corners))
    next_same (point face l) end f g xs ys p q = absurd (omega (arith, f.1.0.1, g.1.0.corners, corners))
    next_same (reach r) (head w) f g xs ys p q = absurd g.1
    next_same (reach r) (solid j) f g xs ys p q = absurd g.1
    next_same (reach r) (corner []) f g xs ys p q = absurd g.1
    next_same (reach r) (shell n e) f g xs ys p q = absurd (omega (arith, f.1.0.2, g.1.0.reach, reaches))
    next_same (reach r) (edge m n) f g xs ys p q = absurd (omega (arith, g.1.0, f.1.0.0, edges))
    next_same (reach r) (corner (w ∷ others)) f g xs ys p q = absurd (omega (arith, g.1.0.1, f.1.0.1, corners))
    next_same (reach r) (point other place) f g xs ys p q = absurd (omega (arith, g.1.0.1, f.1.0.1, corners))
    next_same (reach r) (reach m) f g xs ys p q = refl
    next_same (reach r) (tally u) f g xs ys p q = absurd (omega (arith, f.1.0.2, g.1.0.2, reaches))
    next_same (reach r) end f g xs ys p q = absurd (omega (arith, f.1.0.2, g.1.0.reach, reaches))
    next_same (tally t) (head w) f g xs ys p q = absurd g.1
    next_same (tally t) (solid j) f g xs ys p q = absurd g.1
    next_same (tally t) (corner []) f g xs ys p q = absurd g.1
    next_same (tally t) (shell n e) f g xs ys p q = absurd (omega (arith, f.1.0.3, g.1.0.tally, tallies))
    next_same (tally t) (edge m n) f g xs ys p q = absurd (omega (arith, g.1.0, f.1.0.0, edges))
    next_same (tally t) (corner (w ∷ others)) f g xs ys p q = absurd (omega (arith, g.1.0.1, f.1.0.1, corners))
    next_same (tally t) (point other place) f g xs ys p q = absurd (omega (arith, g.1.0.1, f.1.0.1, corners))
    next_same (tally t) (reach m) f g xs ys p q = absurd (omega (arith, g.1.0.2, f.1.0.2, reaches))
    next_same (tally t) (tally u) f g xs ys p q = tally_one s here.shell there.shell t u shells f.1.1 g.1.1
    next_same (tally t) end f g xs ys p q = absurd (omega (arith, f.1.0.3, g.1.0.tally, tallies))
    next_same end (head w) f g xs ys p q = absurd g.1
    next_same end (solid j) f g xs ys p q = absurd g.1
    next_same end (corner []) f g xs ys p q = absurd g.1
    next_same end (shell n e) f g xs ys p q = absurd (omega (arith, g.1.1.next, g.1.1.there, f.1.1, shells))
    next_same end (edge m n) f g xs ys p q = absurd (omega (arith, g.1.0, f.1.0.edges, edges))
    next_same end (corner (w ∷ others)) f g xs ys p q = absurd (omega (arith, g.1.0.1, f.1.0.corners, corners))
    next_same end (point other place) f g xs ys p q = absurd (omega (arith, g.1.0.1, f.1.0.corners, corners))
    next_same end (reach m) f g xs ys p q = absurd (omega (arith, g.1.0.2, f.1.0.reach, reaches))
    next_same end (tally u) f g xs ys p q = absurd (omega (arith, g.1.0.3, f.1.0.tally, tallies))
    next_same end end f g xs ys p q = refl

  -- Spellings of lines that are plainly the same are alike but for reach lines.
  spelled_alike : (x y : List ℕ) (a b : CertLine) → plain a ≡ plain b → IsSpelled x a → IsSpelled y b → AlikeButReach x y
  spelled_alike x y a b same is_a is_b = by_kind (same_or_reach a b same)
    where
      by_kind : (a ≡ b) ⊎ ((r : ℕ) × (t : ℕ) × (a ≡ reach r) × (b ≡ reach t)) → AlikeButReach x y
      by_kind (inl e) = inl (is_a.1 ∙ (ap spelling e ∙ sym is_b.1))
      by_kind (inr (r, t, p, q)) = inr ((r, subst (IsSpelled x) p is_a), (t, subst (IsSpelled y) q is_b))

  true_false : true ≡ false → ⊥
  true_false h = cc

  -- Behind lines that are plainly the same, legal lines are alike but for reach lines.
  pub lines_alike : (us ws : List CertLine) → AllFit version s us → AllFit version s ws → map plain us ≡ map plain ws → (xs ys : List (List ℕ))
      → IsLegalAfter version s us xs → IsLegalAfter version s ws ys → AllZip AlikeButReach xs ys
  lines_alike us ws fit_a fit_b same [] [] h k = tt
  lines_alike us ws fit_a fit_b same [] (y ∷ ys) ended (b, is_b, g, more) =
      absurd (true_false (sym ended ∙ (ap (λ (t : Progress). t.ended) (plain_stands version s us ws same) ∙ g.0)))
  lines_alike us ws fit_a fit_b same (x ∷ xs) [] (a, is_a, f, more) ended =
      absurd (true_false (sym ended ∙ (sym (ap (λ (t : Progress). t.ended) (plain_stands version s us ws same)) ∙ f.0)))
  lines_alike us ws fit_a fit_b same (x ∷ xs) (y ∷ ys) (a, is_a, f, more_a) (b, is_b, g, more_b) =
      let one : plain a ≡ plain b = next_same us ws fit_a fit_b same a b f g xs ys more_a more_b in (
        spelled_alike x y a b one is_a.1 is_b.1,
        lines_alike (a ∷ us) (b ∷ ws) (f, fit_a) (g, fit_b) (ap (λ l. l ∷ map plain us) one ∙ ap (λ ls. plain b ∷ ls) same) xs ys more_a more_b,
      )
