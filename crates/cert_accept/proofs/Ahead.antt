-- What the lines to come show of those before them, in a legal certificate.
use Rattle.std.specs.Prelude.{◌≡◌, ℕ, zero, suc, ◌-◌, true, false, List, [], ◌∷◌, length, filter_map, option_map, Some, ◌||◌, Bool, cond}
use Rattle.std.specs.List.{cons_option, list_any}
use Rattle.std.proofs.Common.{refl, sym, ◌∙◌, ap, subst, arith}
use Rattle.solid_data.specs.SolidData.{SolidData}
use Rattle.solid_data.specs.declared.solid.LoopAt.{LoopAt}
use Rattle.solid_data.proofs.Members.{Has, covers}
use Rattle.edge_uses.specs.declared.row.Row.{Row}
use Rattle.edge_uses.specs.ShellRows.{ShellRows}
use Rattle.edge_uses.specs.RowRelations.{IsPaired}
use Rattle.cert_lines.specs.Line.{CertLine, shell, end}
use Rattle.cert_lines.specs.declared.version.Version.{Version}
use Rattle.cert_state.specs.Progress.{Progress, progress_from_latest, NoneDue, edge_of, vertex_of, is_shell, is_edge, is_corner_or_point, number_of, since_shell}
use Rattle.cert_state.specs.Progress.{rows_of_shell, current_rows, row_named, row_start, point_named, FitsLine, is_last}
use Rattle.cert_state.specs.declared.due.Due.{Due}
use Rattle.topo_certificate.specs.After.{IsLegalAfter}
use Rattle.cert_state.proofs.Segment.{falls_none}
use Rattle.topo_certificate.proofs.Facts.{AllFit, Facts, Good, facts_paired}
use Rattle.topo_certificate.proofs.LineKinds.{facts_of, number_same, shell_line, end_line}
use Rattle.cert_accept.proofs.Nexts.{Leads, leads_none, leads_less}

-- The edges and the vertices that the lines since the SHELL line name lead to all of the shell, and its edges are paired.
pub record LeadOn (s : SolidData) (lines : List CertLine) (d : ShellRows) : Type 0 where
  pub edges : Leads d.edges (filter_map (edge_of d) (since_shell lines))
  pub vertices : Leads d.vertices (filter_map (vertex_of d) (since_shell lines))
  pub paired : (e : ℕ) → Has d.edges e → IsPaired d e

going_not_ended : (b : Progress) → b.ended ≡ false → b.ended ≡ true → ⊥
going_not_ended b going ended = true_false (sym ended ∙ going)
  where
    true_false : true ≡ false → ⊥
    true_false h = cc

-- a row, the start of a row, or a loop without an edge is named of a shell that has begun
pub begun_row : (s : SolidData) (n a : ℕ) (row : Row) → row_named (rows_of_shell s n) a ≡ Some row → (k : ℕ) × (n ≡ suc k)
begun_row s zero zero row h = absurd cc
begun_row s zero (suc a) row h = absurd cc
begun_row s (suc k) a row h = (k, refl)

pub begun_start : (s : SolidData) (n r v : ℕ) → row_start (row_named (rows_of_shell s n) r) ≡ Some v → (k : ℕ) × (n ≡ suc k)
begun_start s zero zero v h = absurd cc
begun_start s zero (suc r) v h = absurd cc
begun_start s (suc k) r v h = (k, refl)

pub begun_point : (s : SolidData) (n face l v : ℕ) → option_map (λ (p : LoopAt × ℕ). p.1) (point_named (rows_of_shell s n) face l) ≡ Some v
    → (k : ℕ) × (n ≡ suc k)
begun_point s zero face l v h = absurd cc
begun_point s (suc k) face l v h = (k, refl)

module _ (version : Version) (s : SolidData) (good : Good s) where
  -- Where nothing is due, all have come.
  all_came : (lines : List CertLine) (d : ShellRows) → Facts version s lines d → NoneDue (progress_from_latest version s lines).due → LeadOn s lines d
  unfolding progress_from_latest
  all_came lines d facts none =
      let edges : length d.edges - number_of is_edge (since_shell lines) ≡ 0 =
      sym (ap (λ (a : Due). a.edges - number_of is_edge (since_shell lines)) facts.asks) ∙ none.edges in
      let vertices : length d.vertices - number_of is_corner_or_point (since_shell lines) ≡ 0 =
      sym (ap (λ (a : Due). a.corners - number_of is_corner_or_point (since_shell lines)) facts.asks) ∙ none.corners in
      let es : List ℕ = filter_map (edge_of d) (since_shell lines) in
      let vs : List ℕ = filter_map (vertex_of d) (since_shell lines) in
      record {
        edges = leads_none d.edges es facts.edge_facts.falls
            (λ x m. covers es d.edges (falls_none es facts.edge_facts.falls) (λ y k. (facts.edge_facts.each y k).0)
            (omega (arith, edges, facts.edge_facts.number)) x m);
        vertices = leads_none d.vertices vs facts.corner_facts.falls
            (λ x m. covers vs d.vertices (falls_none vs facts.corner_facts.falls) (λ y k. (facts.corner_facts.each y k).0)
            (omega (arith, vertices, facts.corner_facts.number)) x m);
        paired = facts_paired version s lines d facts none.edges;
      }

  -- what leads on behind a line leads on before it
  one_less : (line : CertLine) (lines : List CertLine) (d : ShellRows)
      → Leads d.edges (cons_option (edge_of d line) (filter_map (edge_of d) (since_shell lines)))
      → Leads d.vertices (cons_option (vertex_of d line) (filter_map (vertex_of d) (since_shell lines)))
      → ((e : ℕ) → Has d.edges e → IsPaired d e) → LeadOn s lines d
  one_less line lines d edges vertices paired = record {
    edges = leads_less d.edges (filter_map (edge_of d) (since_shell lines)) (edge_of d line) edges;
    vertices = leads_less d.vertices (filter_map (vertex_of d) (since_shell lines)) (vertex_of d line) vertices;
    paired = paired;
  }

  -- what leads on behind a line, where that begins no shell and doesn't end the certificate, leads on before it
  before_line : (line : CertLine) (before : List CertLine) → is_shell line ≡ false → LeadOn s (line ∷ before) (current_rows s (line ∷ before))
      → LeadOn s before (current_rows s before)
  before_line line before e h =
      let rows : current_rows s (line ∷ before) ≡ current_rows s before = ap (rows_of_shell s) (number_same is_shell line before e) in
      let since : since_shell (line ∷ before) ≡ line ∷ since_shell before = ap (λ b. cond b [] (line ∷ since_shell before)) e in
      let lead : LeadOn s (line ∷ before) (current_rows s before) = subst (LeadOn s (line ∷ before)) rows h in
      let d : ShellRows = current_rows s before in
      one_less line before d (subst (λ ls. Leads d.edges (filter_map (edge_of d) ls)) since lead.edges)
      (subst (λ ls. Leads d.vertices (filter_map (vertex_of d) ls)) since lead.vertices) lead.paired

  -- the next line begins a shell, ends the certificate, or goes on
  lead_over : (before : List CertLine) (k : ℕ) → number_of is_shell before ≡ suc k → AllFit version s before → (line : CertLine)
      → FitsLine s (progress_from_latest version s before) line
      → (is_shell line ≡ false → is_last line ≡ false → LeadOn s (line ∷ before) (current_rows s (line ∷ before))) → LeadOn s before (current_rows s before)
  lead_over before k number fit line fits later = by_tests (is_shell line) (is_last line) refl refl
    where
      done : NoneDue (progress_from_latest version s before).due → LeadOn s before (current_rows s before)
      done none = all_came before (current_rows s before) (facts_of version s good before k number fit) none

      by_tests : (a b : Bool) → is_shell line ≡ a → is_last line ≡ b → LeadOn s before (current_rows s before)
      by_tests true b e f =
          let begun = shell_line line e in
          let here : FitsLine s (progress_from_latest version s before) (shell begun.0 begun.1) = subst (FitsLine s (progress_from_latest version s before)) begun.2
          fits in
          done here.1.0
      by_tests false true e f =
          let here : FitsLine s (progress_from_latest version s before) end = subst (FitsLine s (progress_from_latest version s before)) (end_line line f) fits in
          done here.1.0
      by_tests false false e f = before_line line before e (later e f)

  still_going : (line : CertLine) (before : List CertLine) → is_last line ≡ false → (progress_from_latest version s before).ended ≡ false
      → (progress_from_latest version s (line ∷ before)).ended ≡ false
  unfolding progress_from_latest
  still_going line before f going = ap (λ b. b || list_any is_last before) f ∙ going

  pub lead_on : (before : List CertLine) (k : ℕ) → number_of is_shell before ≡ suc k → AllFit version s before → (lines : List (List ℕ))
      → IsLegalAfter version s before lines → (progress_from_latest version s before).ended ≡ false → LeadOn s before (current_rows s before)
  lead_on before k number fit [] ended going = absurd (going_not_ended (progress_from_latest version s before) going ended)
  lead_on before k number fit (bytes ∷ lines) (line, is, fits, more) going =
      lead_over before k number fit line fits
      (λ e f. lead_on (line ∷ before) k (number_same is_shell line before e ∙ number) (fits, fit) lines more (still_going line before f going))
