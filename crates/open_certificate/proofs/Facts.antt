-- What the lines of an open shell's certificate show of its rows.
use Rattle.std.specs.Prelude.{◌≡◌, ℕ, suc, ◌+◌, ◌-◌, ◌*◌, ◌<◌, ◌≤◌, true, false, List, [], ◌∷◌, length, filter_map, find, Option, Some, option_map}
use Rattle.std.specs.List.{AllByRecursion, cons_option, list_any}
use Rattle.std.proofs.Common.{refl, sym, ◌∙◌, ap, subst, arith, inl, inr, ⊎_elim}
use Rattle.solid_data.specs.SolidData.{SolidData}
use Rattle.solid_data.specs.declared.solid.LoopAt.{LoopAt}
use Rattle.edge_uses.specs.declared.row.Row.{Row}
use Rattle.edge_uses.specs.ShellRows.{ShellRows}
use Rattle.edge_uses.specs.Around.{IsReached}
use Rattle.solid_data.proofs.Members.{Has, covers}
use Rattle.cert_state.specs.Progress.{IsAbove, first_of, row_named, row_start, point_named}
use Rattle.cert_state.proofs.Segment.{AreGoodRows, Falls, falls_none, falls_more, ReachFacts, reach_step, faces_reached, start_known, point_known}
use Rattle.cert_state.proofs.Segment.{point_from_line}
use Rattle.open_certificate.specs.Sound.{IsOnce, IsFanned}
use Rattle.open_certificate.specs.Line.{OpenLine, head, shell, edge, lone, cycle, path, point, reach, border, end}
use Rattle.open_certificate.specs.Legal.{IsLegalAfter}
use Rattle.open_certificate.specs.Progress.{progress_from_latest, shell_of, shared, asked, is_shell, is_edge, is_corner, is_reach, number_of, mates_in, lone_in}
use Rattle.open_certificate.specs.Progress.{edge_in}
use Rattle.open_certificate.specs.Progress.{vertex_in, face_in, FitsShell, FitsLine, FitsOpen, IsDone}
use Rattle.open_certificate.proofs.Once.{EdgeFacts, AreListed, no_edges, edge_step, lone_step, all_once, lone_border, once_rows}
use Rattle.open_certificate.proofs.Fans.{fan_from_cycle, fan_from_path}

-- each line fits behind those before it
abbrev pub AllFit : SolidData → List OpenLine → Type 0
AllFit s [] = Unit {0}
AllFit s (l ∷ ls) = FitsLine s (progress_from_latest s ls) l × AllFit s ls

pub record FanFacts (d : ShellRows) (vs : List ℕ) (n : ℕ) : Type 0 where
  pub falls : Falls vs
  pub number : length vs ≡ n
  pub each : (v : ℕ) → Has vs v → Has d.vertices v × IsFanned d v

vertex_step : (d : ShellRows) (vs : List ℕ) (n v : ℕ) (o : Option ℕ) → FanFacts d vs n → o ≡ Some v → IsAbove (first_of vs) v → Has d.vertices v → IsFanned d v
    → FanFacts d (cons_option o vs) (suc n)
vertex_step d vs n v o facts e above known fanned = subst (λ p. FanFacts d (cons_option p vs) (suc n)) (sym e) (record {
  falls = (falls_more vs v above facts.falls, facts.falls);
  number = ap suc facts.number;
  each = λ x m. ⊎_elim (λ same. subst (λ y. Has d.vertices y × IsFanned d y) same (known, fanned)) (λ k. facts.each x k) m;
})

vertices_fanned : (d : ShellRows) (vs : List ℕ) (n : ℕ) → FanFacts d vs n → length d.vertices ≤ n → (v : ℕ) → Has d.vertices v → IsFanned d v
vertices_fanned d vs n facts all v m =
    (facts.each v (covers vs d.vertices (falls_none vs facts.falls) (λ x k. (facts.each x k).0) (omega (arith, all, facts.number)) v m)).1

-- what is shown once the SHELL line came
pub record Facts (s : SolidData) (lines : List OpenLine) (d : ShellRows) : Type 0 where
  pub edge_facts : EdgeFacts d (filter_map mates_in lines) (filter_map lone_in lines) (filter_map (edge_in d) lines) (number_of is_edge lines)
  pub listed : length d.edges ≤ number_of is_edge lines → 2 * length (filter_map mates_in lines) + length (filter_map lone_in lines) ≡ length d.rows
  pub fan_facts : FanFacts d (filter_map (vertex_in d) lines) (number_of is_corner lines)
  pub reach_facts : ReachFacts d (filter_map (face_in d) lines) (number_of is_reach lines)
  pub begun : list_any is_shell lines ≡ true
  pub asks_edges : (asked (find is_shell lines)).0 ≡ length d.edges
  pub asks_corners : (asked (find is_shell lines)).1 ≡ length d.vertices
  pub asks_reach : (asked (find is_shell lines)).2 ≡ d.face_count - 1

-- where no edge line is due, all rows are listed
pub facts_listed : (s : SolidData) (lines : List OpenLine) (d : ShellRows) → Facts s lines d → (progress_from_latest s lines).edges_due ≡ 0
    → AreListed d (filter_map mates_in lines) (filter_map lone_in lines) (filter_map (edge_in d) lines) (number_of is_edge lines)
unfolding progress_from_latest
facts_listed s lines d facts none =
    let each : length d.edges ≤ number_of is_edge lines = omega (arith, none, facts.asks_edges) in
    record { facts = facts.edge_facts; each_edge = each; each_row = facts.listed each }

pub facts_once : (s : SolidData) (lines : List OpenLine) (d : ShellRows) → Facts s lines d → (progress_from_latest s lines).edges_due ≡ 0 → (e : ℕ)
    → Has d.edges e → IsOnce d e
facts_once s lines d facts none = all_once d (filter_map mates_in lines) (filter_map lone_in lines) (filter_map (edge_in d) lines) (number_of is_edge lines)
    (facts_listed s lines d facts none)

no_rows_at_all : (d : ShellRows) → AreGoodRows d → length d.edges ≤ 0 → 0 ≡ length d.rows
no_rows_at_all d good none = by_rows d.rows good.edges
  where
    empty : (es : List ℕ) (e : ℕ) → length es ≤ 0 → Has es e → ⊥
    empty [] e none h = h
    empty (x ∷ es) e none h = omega (arith, none)

    by_rows : (rows : List Row) → AllByRecursion (λ (r : Row). Has d.edges r.edge.0) rows → 0 ≡ length rows
    by_rows [] all = refl
    by_rows (r ∷ rows) all = absurd (empty d.edges r.edge.0 none all.0)

facts_begin : (s : SolidData) (n rows edges corners faces borders : ℕ) → AreGoodRows (shell_of s) → FitsShell s n rows edges corners faces
    → Facts s (shell n rows edges corners faces borders ∷ []) (shell_of s)
facts_begin s n rows edges corners faces borders good h = record {
  edge_facts = no_edges (shell_of s);
  listed = λ none. (let e = no_rows_at_all (shell_of s) good none in omega (arith, e));
  fan_facts = record { falls = tt; number = refl; each = λ v m. absurd m };
  reach_facts = record { none = ((λ m. m), tt); number = refl; each = λ f m. absurd m };
  begun = refl;
  asks_edges = h.edges_counted;
  asks_corners = h.corners_counted;
  asks_reach = ap (λ f. f - 1) h.faces_counted;
}

-- The listed rows behind one more edge line: all, where it was the last one due.
lists_more : (due asks before edges now more rows : ℕ) → due ≡ asks - before → asks ≡ edges → 0 < due → (due ≡ 1 → now + more ≡ rows) → edges ≤ suc before
    → now + more ≡ rows
lists_more due asks before edges now more rows is_due is_asks some last all = last (omega (arith, is_due, is_asks, some, all))

facts_edge : (s : SolidData) (lines : List OpenLine) (a b : ℕ) → AreGoodRows (shell_of s) → Facts s lines (shell_of s)
    → FitsOpen s (progress_from_latest s lines) (edge a b) → Facts s (edge a b ∷ lines) (shell_of s)
unfolding progress_from_latest
facts_edge s lines a b good facts fits =
    let d : ShellRows = shell_of s in record {
      edge_facts = edge_step d (shared (progress_from_latest s lines)) (filter_map mates_in lines) (filter_map lone_in lines) (filter_map (edge_in d) lines)
          (number_of is_edge lines) a b good facts.edge_facts refl fits.1;
      listed = λ all. (let h = lists_more ((asked (find is_shell lines)).0 - number_of is_edge lines) ((asked (find is_shell lines)).0)
          (number_of is_edge lines) (length d.edges) (2 * length (filter_map mates_in lines) + length (filter_map lone_in lines)) 2
          (length d.rows) refl facts.asks_edges fits.0 fits.2 all in omega (arith, h));
      fan_facts = facts.fan_facts;
      reach_facts = facts.reach_facts;
      begun = facts.begun;
      asks_edges = facts.asks_edges;
      asks_corners = facts.asks_corners;
      asks_reach = facts.asks_reach;
    }

facts_lone : (s : SolidData) (lines : List OpenLine) (a : ℕ) → AreGoodRows (shell_of s) → Facts s lines (shell_of s)
    → FitsOpen s (progress_from_latest s lines) (lone a) → Facts s (lone a ∷ lines) (shell_of s)
unfolding progress_from_latest
facts_lone s lines a good facts fits =
    let d : ShellRows = shell_of s in record {
      edge_facts = lone_step d (progress_from_latest s lines) (filter_map mates_in lines) (filter_map lone_in lines) (filter_map (edge_in d) lines)
          (number_of is_edge lines) a good facts.edge_facts refl fits.1;
      listed = λ all. (let h = lists_more ((asked (find is_shell lines)).0 - number_of is_edge lines) ((asked (find is_shell lines)).0)
          (number_of is_edge lines) (length d.edges) (2 * length (filter_map mates_in lines) + length (filter_map lone_in lines)) 1
          (length d.rows) refl facts.asks_edges fits.0 fits.2 all in omega (arith, h));
      fan_facts = facts.fan_facts;
      reach_facts = facts.reach_facts;
      begun = facts.begun;
      asks_edges = facts.asks_edges;
      asks_corners = facts.asks_corners;
      asks_reach = facts.asks_reach;
    }

facts_cycle : (s : SolidData) (lines : List OpenLine) (r : ℕ) (rs : List ℕ) → AreGoodRows (shell_of s) → Facts s lines (shell_of s)
    → FitsOpen s (progress_from_latest s lines) (cycle (r ∷ rs)) → Facts s (cycle (r ∷ rs) ∷ lines) (shell_of s)
unfolding progress_from_latest
facts_cycle s lines r rs good facts fits =
    let d : ShellRows = shell_of s in
    let h = fits.1 in
    let fan = fan_from_cycle d (shared (progress_from_latest s lines)) r rs good.meet good.exchanged facts.edge_facts.hold
    (once_rows d good (facts_once s lines d facts fits.0.0)) h in
    record {
      edge_facts = facts.edge_facts;
      listed = facts.listed;
      fan_facts = vertex_step d (filter_map (vertex_in d) lines) (number_of is_corner lines) h.vertex (row_start (row_named d r)) facts.fan_facts h.lies_at
          h.rises (start_known d good r h.vertex h.lies_at) (inl fan);
      reach_facts = facts.reach_facts;
      begun = facts.begun;
      asks_edges = facts.asks_edges;
      asks_corners = facts.asks_corners;
      asks_reach = facts.asks_reach;
    }

facts_path : (s : SolidData) (lines : List OpenLine) (r : ℕ) (rs : List ℕ) → AreGoodRows (shell_of s) → Facts s lines (shell_of s)
    → FitsOpen s (progress_from_latest s lines) (path (r ∷ rs)) → Facts s (path (r ∷ rs) ∷ lines) (shell_of s)
unfolding progress_from_latest
facts_path s lines r rs good facts fits =
    let d : ShellRows = shell_of s in
    let h = fits.1 in
    let all = facts_listed s lines d facts fits.0.0 in
    let fan = fan_from_path d (progress_from_latest s lines) r rs good.meet good.exchanged facts.edge_facts.hold
    (once_rows d good (facts_once s lines d facts fits.0.0))
    (λ a c. lone_border d (filter_map mates_in lines) (filter_map lone_in lines) (filter_map (edge_in d) lines) (number_of is_edge lines) a all c) h in
    record {
      edge_facts = facts.edge_facts;
      listed = facts.listed;
      fan_facts = vertex_step d (filter_map (vertex_in d) lines) (number_of is_corner lines) h.vertex (row_start (row_named d r)) facts.fan_facts h.lies_at
          h.rises (start_known d good r h.vertex h.lies_at) (inl fan);
      reach_facts = facts.reach_facts;
      begun = facts.begun;
      asks_edges = facts.asks_edges;
      asks_corners = facts.asks_corners;
      asks_reach = facts.asks_reach;
    }

facts_point : (s : SolidData) (lines : List OpenLine) (face l : ℕ) → AreGoodRows (shell_of s) → Facts s lines (shell_of s)
    → FitsOpen s (progress_from_latest s lines) (point face l) → Facts s (point face l ∷ lines) (shell_of s)
unfolding progress_from_latest
facts_point s lines face l good facts fits =
    let d : ShellRows = shell_of s in
    let h = fits.1 in
    record {
      edge_facts = facts.edge_facts;
      listed = facts.listed;
      fan_facts = vertex_step d (filter_map (vertex_in d) lines) (number_of is_corner lines) h.vertex
          (option_map (λ (p : LoopAt × ℕ). p.1) (point_named d face l)) facts.fan_facts h.lies_at h.rises (point_known d good face l h.vertex h.lies_at)
          (inr (point_from_line d (shared (progress_from_latest s lines)) face l h));
      reach_facts = facts.reach_facts;
      begun = facts.begun;
      asks_edges = facts.asks_edges;
      asks_corners = facts.asks_corners;
      asks_reach = facts.asks_reach;
    }

facts_reach : (s : SolidData) (lines : List OpenLine) (r : ℕ) → AreGoodRows (shell_of s) → Facts s lines (shell_of s)
    → FitsOpen s (progress_from_latest s lines) (reach r) → Facts s (reach r ∷ lines) (shell_of s)
unfolding progress_from_latest
facts_reach s lines r good facts fits =
    let d : ShellRows = shell_of s in
    record {
      edge_facts = facts.edge_facts;
      listed = facts.listed;
      fan_facts = facts.fan_facts;
      reach_facts = reach_step d (shared (progress_from_latest s lines)) (filter_map (face_in d) lines) (number_of is_reach lines) r good facts.edge_facts.hold
          facts.reach_facts refl fits.1;
      begun = facts.begun;
      asks_edges = facts.asks_edges;
      asks_corners = facts.asks_corners;
      asks_reach = facts.asks_reach;
    }

facts_border : (s : SolidData) (lines : List OpenLine) (rs : List ℕ) → Facts s lines (shell_of s) → Facts s (border rs ∷ lines) (shell_of s)
facts_border s lines rs facts =
    record {
      edge_facts = facts.edge_facts;
      listed = facts.listed;
      fan_facts = facts.fan_facts;
      reach_facts = facts.reach_facts;
      begun =
          facts.begun;
      asks_edges = facts.asks_edges;
      asks_corners = facts.asks_corners;
      asks_reach = facts.asks_reach;
    }

facts_end : (s : SolidData) (lines : List OpenLine) → Facts s lines (shell_of s) → Facts s (end ∷ lines) (shell_of s)
facts_end s lines facts =
    record {
      edge_facts = facts.edge_facts;
      listed = facts.listed;
      fan_facts = facts.fan_facts;
      reach_facts = facts.reach_facts;
      begun =
          facts.begun;
      asks_edges = facts.asks_edges;
      asks_corners = facts.asks_corners;
      asks_reach = facts.asks_reach;
    }

false_is_not_true : false ≡ true → ⊥
false_is_not_true h = cc

-- the first line that fits is the SHELL line
facts_first : (s : SolidData) → AreGoodRows (shell_of s) → (l : OpenLine) → FitsLine s (progress_from_latest s []) l → Facts s (l ∷ []) (shell_of s)
unfolding progress_from_latest
facts_first s good head fit = absurd fit.1
facts_first s good (shell n a b c d e) fit = facts_begin s n a b c d e good fit.1.1
facts_first s good (edge a b) fit = absurd (omega (arith, fit.1.0))
facts_first s good (lone a) fit = absurd (omega (arith, fit.1.0))
facts_first s good (cycle []) fit = absurd fit.1
facts_first s good (cycle (r ∷ rs)) fit = absurd (omega (arith, fit.1.0.1))
facts_first s good (path []) fit = absurd fit.1
facts_first s good (path (r ∷ rs)) fit = absurd (omega (arith, fit.1.0.1))
facts_first s good (point face l) fit = absurd (omega (arith, fit.1.0.1))
facts_first s good (reach r) fit = absurd (omega (arith, fit.1.0.2))
facts_first s good (border []) fit = absurd fit.1
facts_first s good (border (r ∷ rs)) fit = absurd (omega (arith, fit.1.0.3))
facts_first s good end fit = absurd (false_is_not_true fit.1.begun)

twice_begun : (s : SolidData) (lines : List OpenLine) → Facts s lines (shell_of s) → (progress_from_latest s lines).begun ≡ false → ⊥
unfolding progress_from_latest
twice_begun s lines facts h = false_is_not_true (sym h ∙ facts.begun)

facts_more : (s : SolidData) → AreGoodRows (shell_of s) → (l : OpenLine) (lines : List OpenLine) → Facts s lines (shell_of s)
    → FitsLine s (progress_from_latest s lines) l → Facts s (l ∷ lines) (shell_of s)
facts_more s good head lines facts fit = absurd fit.1
facts_more s good (shell n a b c d e) lines facts fit = absurd (twice_begun s lines facts fit.1.0)
facts_more s good (edge a b) lines facts fit = facts_edge s lines a b good facts fit.1
facts_more s good (lone a) lines facts fit = facts_lone s lines a good facts fit.1
facts_more s good (cycle []) lines facts fit = absurd fit.1
facts_more s good (cycle (r ∷ rs)) lines facts fit = facts_cycle s lines r rs good facts fit.1
facts_more s good (path []) lines facts fit = absurd fit.1
facts_more s good (path (r ∷ rs)) lines facts fit = facts_path s lines r rs good facts fit.1
facts_more s good (point face l) lines facts fit = facts_point s lines face l good facts fit.1
facts_more s good (reach r) lines facts fit = facts_reach s lines r good facts fit.1
facts_more s good (border rs) lines facts fit = facts_border s lines rs facts
facts_more s good end lines facts fit = facts_end s lines facts

pub facts_of : (s : SolidData) → AreGoodRows (shell_of s) → (l : OpenLine) (lines : List OpenLine) → AllFit s (l ∷ lines) → Facts s (l ∷ lines) (shell_of s)
facts_of s good l [] fit = facts_first s good l fit.0
facts_of s good l (m ∷ lines) fit = facts_more s good l (m ∷ lines) (facts_of s good m lines fit.1) fit.0

-- what is shown of the rows
pub record AreProper (d : ShellRows) : Type 0 where
  pub once : (e : ℕ) → Has d.edges e → IsOnce d e
  pub reached : (f : ℕ) → f < d.face_count → IsReached d f
  pub fanned : (v : ℕ) → Has d.vertices v → IsFanned d v

proper_from_facts : (s : SolidData) (lines : List OpenLine) → Facts s lines (shell_of s) → IsDone (progress_from_latest s lines) → AreProper (shell_of s)
unfolding progress_from_latest
proper_from_facts s lines facts done =
    let d : ShellRows = shell_of s in
    record {
      once = facts_once s lines d facts done.no_edge;
      reached = faces_reached d (filter_map (face_in d) lines) (number_of is_reach lines) facts.reach_facts (omega (arith, done.no_reach, facts.asks_reach));
      fanned = vertices_fanned d (filter_map (vertex_in d) lines) (number_of is_corner lines) facts.fan_facts
          (omega (arith, done.no_corner, facts.asks_corners));
    }

none_ended : (s : SolidData) → (progress_from_latest s []).ended ≡ true → false ≡ true
unfolding progress_from_latest
none_ended s h = h

-- legal lines are lines that each fit, with END as the last
pub legal_fit : (s : SolidData) (before : List OpenLine) (lines : List (List ℕ)) → AllFit s before → IsLegalAfter s before lines
    → (all : List OpenLine) × AllFit s all × ((progress_from_latest s all).ended ≡ true)
legal_fit s before [] fit legal = (before, fit, legal)
legal_fit s before (bytes ∷ rest) fit (line, is_line, fits, more) = legal_fit s (line ∷ before) rest (fits, fit) more

-- END is the last, with nothing due
pub last_is_end : (s : SolidData) (l : OpenLine) (lines : List OpenLine) → FitsLine s (progress_from_latest s lines) l
    → (progress_from_latest s (l ∷ lines)).ended
    ≡ true → (l ≡ end) × IsDone (progress_from_latest s lines)
unfolding progress_from_latest
last_is_end s head lines fit ended = absurd fit.1
last_is_end s (shell n a b c d e) lines fit ended = absurd (false_is_not_true (sym fit.0 ∙ ended))
last_is_end s (edge a b) lines fit ended = absurd (false_is_not_true (sym fit.0 ∙ ended))
last_is_end s (lone a) lines fit ended = absurd (false_is_not_true (sym fit.0 ∙ ended))
last_is_end s (cycle rs) lines fit ended = absurd (false_is_not_true (sym fit.0 ∙ ended))
last_is_end s (path rs) lines fit ended = absurd (false_is_not_true (sym fit.0 ∙ ended))
last_is_end s (point face l) lines fit ended = absurd (false_is_not_true (sym fit.0 ∙ ended))
last_is_end s (reach r) lines fit ended = absurd (false_is_not_true (sym fit.0 ∙ ended))
last_is_end s (border rs) lines fit ended = absurd (false_is_not_true (sym fit.0 ∙ ended))
last_is_end s end lines fit ended = (refl, fit.1)

-- the lines but END
pub record FitsAll (s : SolidData) : Type 0 where
  pub lines : List OpenLine
  pub fit : AllFit s lines
  pub facts : Facts s lines (shell_of s)
  pub done : IsDone (progress_from_latest s lines)

some_lines : (s : SolidData) (lines : List OpenLine) → AreGoodRows (shell_of s) → AllFit s lines → IsDone (progress_from_latest s lines)
    → Facts s lines (shell_of s)
unfolding progress_from_latest
some_lines s [] good fit done = absurd (false_is_not_true done.begun)
some_lines s (l ∷ lines) good fit done = facts_of s good l lines fit

-- Lines that fit with END among them are END behind lines that fit, with nothing due.
pub fits_all : (s : SolidData) → AreGoodRows (shell_of s) → (all : List OpenLine) → AllFit s all → (progress_from_latest s all).ended ≡ true
    → (f : FitsAll s) × (all ≡ end ∷ f.lines)
fits_all s good [] fit ended = absurd (false_is_not_true (none_ended s ended))
fits_all s good (l ∷ ls) fit ended =
    let last = last_is_end s l ls fit.0 ended in
    (record { lines = ls; fit = fit.1; facts = some_lines s ls good fit.1 last.1; done = last.1 }, ap (λ k. k ∷ ls) last.0)

pub proper_of : (s : SolidData) → FitsAll s → AreProper (shell_of s)
proper_of s f = proper_from_facts s f.lines f.facts f.done

-- Legal lines show that the rows of the shell are proper.
pub legal_is_proper : (s : SolidData) → AreGoodRows (shell_of s) → (lines : List (List ℕ)) → IsLegalAfter s [] lines → AreProper (shell_of s)
legal_is_proper s good lines legal =
    let a = legal_fit s [] lines tt legal in
    proper_of s (fits_all s good a.0 a.1 a.2).0
