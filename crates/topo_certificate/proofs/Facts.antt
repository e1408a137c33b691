-- What the lines since the SHELL line show of its rows, and what each kind of line adds.
use Rattle.std.specs.Prelude.{◌≡◌, ℕ, suc, ◌-◌, ◌*◌, ◌<◌, List, [], ◌∷◌, length, filter_map, find, slice_get, Some}
use Rattle.std.proofs.Common.{refl, sym, ◌∙◌, ap, subst, arith}
use Rattle.solid_data.specs.SolidData.{SolidData}
use Rattle.edge_uses.specs.ShellRows.{ShellRows}
use Rattle.edge_uses.specs.RowRelations.{IsPaired}
use Rattle.solid_data.proofs.Members.{Has}
use Rattle.cert_lines.specs.Line.{CertLine, shell, edge, corner, point, reach}
use Rattle.cert_lines.specs.declared.counts.ShellCounts.{ShellCounts}
use Rattle.cert_lines.specs.declared.version.Version.{Version}
use Rattle.cert_state.specs.Progress.{progress_from_latest, tallies, FitsLine, FitsOpen, FitsShell, FitsEdge, FitsCorner, FitsPoint, FitsReach, mates_of}
use Rattle.cert_state.specs.Progress.{edge_of, vertex_of, face_of, is_shell, is_edge, is_corner_or_point, is_reach, number_of, since_shell, asked}
use Rattle.cert_state.specs.Progress.{rows_of_shell, current_rows}
use Rattle.cert_state.specs.declared.due.Due.{Due}
use Rattle.cert_state.specs.CheckState.{all_due}
use Rattle.cert_state.proofs.Progressing.{due_of}
use Rattle.cert_state.proofs.Segment.{AreGoodRows, EdgeFacts, CornerFacts, ReachFacts, edge_step, corner_step, point_step, reach_step, edges_paired}
use Rattle.cert_state.proofs.Segment.{paired_rows}

-- each line fits behind those before it
abbrev pub AllFit : Version → SolidData → List CertLine → Type 0
AllFit version s [] = Unit {0}
AllFit version s (l ∷ ls) = FitsLine s (progress_from_latest version s ls) l × AllFit version s ls

pub asked_is : (version : Version) (d : ShellRows) (c : ShellCounts) → c.edges ≡ length d.edges → c.corners ≡ length d.vertices → c.faces ≡ d.face_count
    → asked version (Some (shell 0 c)) ≡ all_due version d
asked_is version d c es vs fs = same_asked c.edges (length d.edges) c.corners (length d.vertices) c.faces d.face_count (tallies version) es vs fs
  where
    same_asked : (e e2 c c2 f f2 t : ℕ) → e ≡ e2 → c ≡ c2 → f ≡ f2 → due_of e c (f - 1) t ≡ due_of e2 c2 (f2 - 1) t
    same_asked e e2 c c2 f f2 t he hc hf = ap (λ x. due_of x c (f - 1) t) he ∙ (ap (λ x. due_of e2 x (f - 1) t) hc ∙ ap (λ x. due_of e2 c2 (x - 1) t) hf)

-- what the lines since the SHELL line show of its rows
pub record Facts (version : Version) (s : SolidData) (lines : List CertLine) (d : ShellRows) : Type 0 where
  pub edge_facts : EdgeFacts d (filter_map mates_of (since_shell lines)) (filter_map (edge_of d) (since_shell lines)) (number_of is_edge (since_shell lines))
  pub corner_facts : CornerFacts d (filter_map (vertex_of d) (since_shell lines)) (number_of is_corner_or_point (since_shell lines))
  pub reach_facts : ReachFacts d (filter_map (face_of d) (since_shell lines)) (number_of is_reach (since_shell lines))
  pub asks : asked version (find is_shell lines) ≡ all_due version d
  pub twice : 2 * length d.edges ≡ length d.rows

abbrev pub Good : SolidData → Type 0
Good s = (k : ℕ) → AreGoodRows (rows_of_shell s k)

pub facts_begin : (version : Version) (s : SolidData) (lines : List CertLine) (k : ℕ) (c : ShellCounts) → FitsShell s (progress_from_latest version s lines) k c
    → Facts version s (shell k c ∷ lines) (rows_of_shell s (suc (number_of is_shell lines)))
unfolding progress_from_latest
facts_begin version s lines k c h =
    let n : ℕ = number_of is_shell lines in
    let d : ShellRows = rows_of_shell s (suc n) in
    let same : k ≡ suc n = omega (arith, h.next) in
    let es : c.edges ≡ length d.edges = subst (λ j. c.edges ≡ length (rows_of_shell s j).edges) same h.edges_counted in
    let vs : c.corners ≡ length d.vertices = subst (λ j. c.corners ≡ length (rows_of_shell s j).vertices) same h.corners_counted in
    let fs : c.faces ≡ d.face_count = subst (λ j. c.faces ≡ (rows_of_shell s j).face_count) same h.faces_counted in
    let rs : c.rows ≡ length d.rows = subst (λ j. c.rows ≡ length (rows_of_shell s j).rows) same h.rows_counted in
    record {
      edge_facts = record { falls = tt; number = refl; within = omega arith; each = λ e m. absurd m; hold = λ r m c. absurd (omega (arith, c.1)) };
      corner_facts = record { falls = tt; number = refl; each = λ v m. absurd m };
      reach_facts = record { none = ((λ m. m), tt); number = refl; each = λ f m. absurd m };
      asks = asked_is version d c es vs fs;
      twice = omega (arith, h.two_rows_each, es, rs);
    }

-- where no edge line is due, each edge is paired
pub facts_paired : (version : Version) (s : SolidData) (lines : List CertLine) (d : ShellRows) → Facts version s lines d
    → (progress_from_latest version s lines).due.edges ≡ 0 → (e : ℕ) → Has d.edges e → IsPaired d e
unfolding progress_from_latest
facts_paired version s lines d facts none =
    let due : length d.edges - number_of is_edge (since_shell lines) ≡ 0 = sym (ap (λ (a : Due). a.edges - number_of is_edge (since_shell lines)) facts.asks)
    ∙ none in
    edges_paired d (filter_map mates_of (since_shell lines)) (filter_map (edge_of d) (since_shell lines)) (number_of is_edge (since_shell lines))
    facts.edge_facts (omega (arith, due)) facts.twice

pub facts_edge : (version : Version) (s : SolidData) (lines : List CertLine) (d : ShellRows) (a b : ℕ) → AreGoodRows d → d ≡ current_rows s lines
    → Facts version s lines d → 0 < (progress_from_latest version s lines).due.edges → FitsOpen s (progress_from_latest version s lines) (edge a b)
    → Facts version s (edge a b ∷ lines) d
unfolding progress_from_latest
facts_edge version s lines d a b good here facts due fits =
    let more : number_of is_edge (since_shell lines) < length d.edges =
    (let h : (asked version (find is_shell lines)).edges ≡ length d.edges = ap (λ (x : Due). x.edges) facts.asks in omega (arith, h, due)) in
    record {
      edge_facts = edge_step d (progress_from_latest version s lines) (filter_map mates_of (since_shell lines)) (filter_map (edge_of d) (since_shell lines))
          (number_of is_edge (since_shell lines)) a b good facts.edge_facts more
          (ap (λ c. slice_get (filter_map (edge_of c) (since_shell lines)) 0) (sym here))
          (subst (λ c. FitsEdge c (progress_from_latest version s lines) a b) (sym here) fits.1);
      corner_facts = facts.corner_facts;
      reach_facts = facts.reach_facts;
      asks = facts.asks;
      twice = facts.twice;
    }

pub facts_corner : (version : Version) (s : SolidData) (lines : List CertLine) (d : ShellRows) (r : ℕ) (rs : List ℕ) → AreGoodRows d → d ≡ current_rows s lines
    → Facts version s lines d → FitsOpen s (progress_from_latest version s lines) (corner (r ∷ rs)) → Facts version s (corner (r ∷ rs) ∷ lines) d
unfolding progress_from_latest
facts_corner version s lines d r rs good here facts fits =
    record {
      edge_facts = facts.edge_facts;
      corner_facts = corner_step d (progress_from_latest version s lines) (filter_map (vertex_of d) (since_shell lines))
          (number_of is_corner_or_point (since_shell lines)) r rs good facts.edge_facts.hold
          (paired_rows d good (facts_paired version s lines d facts fits.0.0)) facts.corner_facts
          (ap (λ c. slice_get (filter_map (vertex_of c) (since_shell lines)) 0) (sym here))
          (subst (λ c. FitsCorner c (progress_from_latest version s lines) r rs) (sym here) fits.1);
      reach_facts = facts.reach_facts;
      asks = facts.asks;
      twice = facts.twice;
    }

pub facts_point : (version : Version) (s : SolidData) (lines : List CertLine) (d : ShellRows) (face l : ℕ) → AreGoodRows d → d ≡ current_rows s lines
    → Facts version s lines d → FitsOpen s (progress_from_latest version s lines) (point face l) → Facts version s (point face l ∷ lines) d
unfolding progress_from_latest
facts_point version s lines d face l good here facts fits =
    record {
      edge_facts = facts.edge_facts;
      corner_facts = point_step d (progress_from_latest version s lines) (filter_map (vertex_of d) (since_shell lines))
          (number_of is_corner_or_point (since_shell lines)) face l good facts.corner_facts
          (ap (λ c. slice_get (filter_map (vertex_of c) (since_shell lines)) 0) (sym here))
          (subst (λ c. FitsPoint c (progress_from_latest version s lines) face l) (sym here) fits.1);
      reach_facts = facts.reach_facts;
      asks = facts.asks;
      twice = facts.twice;
    }

pub facts_reach : (version : Version) (s : SolidData) (lines : List CertLine) (d : ShellRows) (r : ℕ) → AreGoodRows d → d ≡ current_rows s lines
    → Facts version s lines d → FitsOpen s (progress_from_latest version s lines) (reach r) → Facts version s (reach r ∷ lines) d
unfolding progress_from_latest
facts_reach version s lines d r good here facts fits =
    record {
      edge_facts = facts.edge_facts;
      corner_facts = facts.corner_facts;
      reach_facts = reach_step d (progress_from_latest version s lines) (filter_map (face_of d) (since_shell lines)) (number_of is_reach (since_shell lines)) r
          good facts.edge_facts.hold facts.reach_facts
          (ap (λ c. 0 ∷ filter_map (face_of c) (since_shell lines)) (sym here))
          (subst (λ c. FitsReach c (progress_from_latest version s lines) r) (sym here) fits.1);
      asks = facts.asks;
      twice = facts.twice;
    }
