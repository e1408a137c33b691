-- A closed solid has lines that fit, with END as the last.
use Rattle.std.specs.Prelude.{◌≡◌, ◌++◌, map, ℕ, zero, suc, ◌-◌, ◌^◌, ◌<◌, ◌≤◌, true, false, List, [], ◌∷◌, length}
use Rattle.std.specs.List.{AllByRecursion, list_any}
use Rattle.std.proofs.Common.{refl, ap, subst, arith, inl}
use Rattle.std.proofs.lemmas.List.{append-nil}
use Rattle.solid_data.specs.SolidData.{SolidData}
use Rattle.edge_uses.specs.ShellRows.{ShellRows}
use Rattle.edge_uses.specs.RowRelations.{AreMates}
use Rattle.edge_uses.proofs.Counting.{two_rows_each}
use Rattle.cert_lines.specs.Line.{CertLine, shell, tally, end, spelling, HasSpelling}
use Rattle.cert_lines.specs.declared.counts.ShellCounts.{ShellCounts}
use Rattle.cert_lines.specs.declared.counts.TallyCounts.{TallyCounts}
use Rattle.topo_certificate.specs.Legal.{IsLegal}
use Rattle.topo_certificate.specs.After.{IsLegalAfter}
use Rattle.cert_lines.specs.declared.version.Version.{Version}
use Rattle.cert_lines.specs.declared.version.Version.TheVariants.{One, Two, Three}
use Rattle.cert_state.specs.Progress.{progress_from_latest, loops_of_shell, tallies, NoneDue, IsAbove, first_of, is_shell, is_last, number_of, rows_of_shell}
use Rattle.cert_state.specs.Progress.{IsMate}
use Rattle.solid_data.proofs.Members.{Rises, rises_none}
use Rattle.cert_state.proofs.Segment.{AreGoodRows}
use Rattle.topo_certificate.proofs.Forward.{legal_forward}
use Rattle.topo_certificate.proofs.Facts.{AllFit}
use Rattle.topo_certificate.proofs.Shells.{AreProper}
use Rattle.edge_uses.proofs.Cycle.{AreTurning}
use Rattle.cert_state.proofs.Short.{IsSmall, IsReadable, readable_shell, readable_tally, readable_end}
use Rattle.topo_certificate.proofs.Build.{Stage, nothing_due, tally_fits, none_after_tally, PointsDiffer, EdgesBuilt, CornersBuilt, ReachBuilt, build_edges}
use Rattle.topo_certificate.proofs.Build.{build_corners, build_reach, mates_listed}

-- rows of a closed shell
pub record AreReady (s : SolidData) (d : ShellRows) (loops : ℕ) : Type 0 where
  pub small : IsSmall s d
  pub few_loops : loops < 10 ^ 9
  pub good : AreGoodRows d
  pub proper : AreProper d
  pub turning : AreTurning d
  pub differ : PointsDiffer d
  pub edges_rise : Rises d.edges
  pub vertices_rise : Rises d.vertices

-- lines that fit, and nothing due
pub record Done (version : Version) (s : SolidData) (j : ℕ) : Type 0 where
  pub lines : List CertLine
  pub fit : AllFit version s lines
  pub short : AllByRecursion (IsReadable s) lines
  pub begun : list_any is_last lines ≡ false
  pub shells : number_of is_shell lines ≡ j
  pub nothing : NoneDue (progress_from_latest version s lines).due

pub any_above : (xs : List ℕ) → AllByRecursion (λ z. IsAbove (first_of []) z) xs
any_above [] = tt
any_above (x ∷ xs) = (tt, any_above xs)

abbrev pub counts_of : ShellRows → ShellCounts
counts_of d = record { rows = length d.rows; edges = length d.edges; corners = length d.vertices; faces = d.face_count }

abbrev pub tally_of : SolidData → ℕ → TallyCounts
tally_of s k = record {
  vertices = length (rows_of_shell s k).vertices;
  edges = length (rows_of_shell s k).edges;
  faces =
      (rows_of_shell s k).face_count;
  loops = loops_of_shell s k;
}

pub begin_shell : (version : Version) (s : SolidData) (j : ℕ) → j < length s.shells → AreReady s (rows_of_shell s (suc j)) (loops_of_shell s (suc j))
    → (done : Done version s j)
    → Stage version s (shell (suc j) (counts_of (rows_of_shell s (suc j))) ∷ done.lines) (suc j) (rows_of_shell s (suc j)) [] [] [] []
unfolding progress_from_latest
begin_shell version s j lt ready done =
    let d : ShellRows = rows_of_shell s (suc j) in
    record {
      rows = refl;
      begun = done.begun;
      shells = ap suc done.shells;
      asks = refl;
      edges = refl;
      edge_count = refl;
      mates = refl;
      vertices = refl;
      corner_count = refl;
      faces = refl;
      reach_count = refl;
      tally_count = refl;
      fit = (
        (
          done.begun,
          (
            done.nothing,
            record {
              next = omega (arith, done.shells);
              there = omega (arith, lt);
              rows_counted = refl;
              edges_counted = refl;
              corners_counted = refl;
              faces_counted = refl;
              two_rows_each = two_rows_each d (rises_none d.edges ready.edges_rise) ready.good.edges ready.proper.paired;
            },
          ),
        ),
        done.fit,
      );
      short = (
        readable_shell s (suc j) (counts_of d) (omega (arith, lt, ready.small.shells)) (omega (arith, ready.small.rows, ready.small.few))
            ready.small.edges ready.small.vertices ready.small.faces,
        done.short,
      );
    }

pub with_tally : (version : Version) (s : SolidData) (k : ℕ) (lines : List CertLine) (es vs fs : List ℕ) (ms : List (ℕ × ℕ))
    → Stage version s lines k (rows_of_shell s k) es vs fs ms → tallies version ≡ 1
    → length (rows_of_shell s k).edges ≤ length es → length (rows_of_shell s k).vertices ≤ length vs → (rows_of_shell s k).face_count - 1 ≤ length fs
    → IsSmall s (rows_of_shell s k) → loops_of_shell s k < 10 ^ 9 → Done version s k
with_tally version s k lines es vs fs ms stage one a b c small few =
    let d : ShellRows = rows_of_shell s k in
    record {
      lines = tally (tally_of s k) ∷ lines;
      fit = (
        tally_fits version s lines k d es vs fs ms stage (tally_of s k) one a b c
            (record { vertices_counted = refl; edges_counted = refl; faces_counted = refl; loops_counted = refl }),
        stage.fit,
      );
      short = (readable_tally s (tally_of s k) small.vertices small.edges small.faces few, stage.short);
      begun = stage.begun;
      shells = stage.shells;
      nothing = none_after_tally version s lines k d es vs fs ms stage (tally_of s k) one a b c;
    }

-- the lines of a shell, and the one of its counts where the version has one
pub closes : (version : Version) (s : SolidData) (k : ℕ) (lines : List CertLine) (es vs fs : List ℕ) (ms : List (ℕ × ℕ))
    → Stage version s lines k (rows_of_shell s k) es vs fs ms
    → length (rows_of_shell s k).edges ≤ length es → length (rows_of_shell s k).vertices ≤ length vs → (rows_of_shell s k).face_count - 1 ≤ length fs
    → IsSmall s (rows_of_shell s k) → loops_of_shell s k < 10 ^ 9 → Done version s k
closes One s k lines es vs fs ms stage a b c small few = record {
  lines = lines;
  fit = stage.fit;
  short = stage.short;
  begun = stage.begun;
  shells = stage.shells;
  nothing = nothing_due One s lines k (rows_of_shell s k) es vs fs ms stage refl a b c;
}
closes Two s k lines es vs fs ms stage a b c small few = with_tally Two s k lines es vs fs ms stage refl a b c small few
closes Three s k lines es vs fs ms stage a b c small few = with_tally Three s k lines es vs fs ms stage refl a b c small few

one_more : (version : Version) (s : SolidData) (j : ℕ) → j < length s.shells → AreReady s (rows_of_shell s (suc j)) (loops_of_shell s (suc j))
    → Done version s j → Done version s (suc j)
one_more version s j lt ready done =
    let d : ShellRows = rows_of_shell s (suc j) in
    let started = begin_shell version s j lt ready done in
    let e : EdgesBuilt version s (suc j) d = build_edges version s (suc j) d ready.small d.edges [] [] _ started (omega arith) (any_above d.edges)
    ready.edges_rise ready.proper.paired (λ x m. inl m) in
    let listed : (r m : ℕ) → AreMates d r m → IsMate e.ms (suc r) (suc m) = mates_listed d e.ms ready.good ready.proper.paired e.mated in
    let edges_done : length d.edges ≤ length e.es = omega (arith, e.all) in
    let c : CornersBuilt version s (suc j) d e.es e.ms = build_corners version s (suc j) d e.es e.ms ready.small ready.turning ready.differ listed edges_done
    d.vertices [] e.lines e.stage (omega arith) (any_above d.vertices) ready.vertices_rise ready.proper.linked in
    let corners_done : length d.vertices ≤ length c.vs = omega (arith, c.all) in
    let r : ReachBuilt version s (suc j) d e.es c.vs e.ms = build_reach version s (suc j) d e.es c.vs e.ms ready.small listed edges_done corners_done
    ready.proper.reached (d.face_count - 1) [] c.lines c.stage (omega arith) in
    closes version s (suc j) r.lines e.es c.vs r.fs e.ms r.stage edges_done corners_done r.all ready.small ready.few_loops

nothing_at_first : (version : Version) (s : SolidData) → Done version s 0
unfolding progress_from_latest
nothing_at_first version s =
    record { lines = []; fit = tt; short = tt; begun = refl; shells = refl; nothing = record { edges = refl; corners = refl; reach = refl; tally = refl } }

upto : (version : Version) (s : SolidData) → ((j : ℕ) → j < length s.shells → AreReady s (rows_of_shell s (suc j)) (loops_of_shell s (suc j))) → (j : ℕ)
    → j ≤ length s.shells → Done version s j
upto version s ready zero le = nothing_at_first version s
upto version s ready (suc j) le = one_more version s j (omega (arith, le)) (ready j (omega (arith, le))) (upto version s ready j (omega (arith, le)))

pub end_fits : (version : Version) (s : SolidData) (done : Done version s (length s.shells)) → AllFit version s (end ∷ done.lines)
unfolding progress_from_latest
end_fits version s done = ((done.begun, (done.nothing, done.shells)), done.fit)

pub ended : (version : Version) (s : SolidData) (lines : List CertLine) → (progress_from_latest version s (end ∷ lines)).ended ≡ true
unfolding progress_from_latest
ended version s lines = refl

-- Where the rows of each shell are ready, lines that fit go up to END.
pub closed_has_lines : (version : Version) (s : SolidData) → ((j : ℕ) → j < length s.shells → AreReady s (rows_of_shell s (suc j)) (loops_of_shell s (suc j)))
    → (lines : List CertLine) × AllFit version s lines × ((progress_from_latest version s lines).ended ≡ true) × AllByRecursion (IsReadable s) lines
closed_has_lines version s ready =
    let done = upto version s ready (length s.shells) (omega arith) in
    (end ∷ done.lines, end_fits version s done, ended version s done.lines, (readable_end s, done.short))

all_then : {A : Type 0} (P : A → Type 0) (xs : List A) (x : A) → AllByRecursion P xs → P x → AllByRecursion P (xs ++ x ∷ [])
all_then P [] x h p = (p, tt)
all_then P (y ∷ xs) x h p = (h.0, all_then P xs x h.1 p)

-- the lines as bytes, in the order of the file
legal_from_fit : (version : Version) (s : SolidData) (lines : List CertLine) → AllFit version s lines → AllByRecursion (IsReadable s) lines
    → (rest : List (List ℕ)) → IsLegalAfter version s lines rest
    → (bytes : List CertLine) × IsLegalAfter version s [] (map spelling bytes ++ rest) × AllByRecursion HasSpelling bytes
legal_from_fit version s [] fit short rest legal = ([], legal, tt)
legal_from_fit version s (l ∷ lines) fit short rest legal =
    let before = legal_from_fit version s lines fit.1 short.1 (spelling l ∷ rest) (l, short.0, fit.0, legal) in
    (before.0 ++ l ∷ [], subst (IsLegalAfter version s []) (regroup before.0 l rest) before.1, all_then HasSpelling before.0 l before.2 short.0.1.0)
  where
    regroup : (ls : List CertLine) (l : CertLine) (rest : List (List ℕ)) → map spelling ls ++ spelling l ∷ rest ≡ map spelling (ls ++ l ∷ []) ++ rest
    regroup [] l rest = refl
    regroup (x ∷ ls) l rest = ap (λ ys. spelling x ∷ ys) (regroup ls l rest)

-- A solid whose shells are ready has lines that are legal, and each is spelled.
pub closed_has_legal : (version : Version) (s : SolidData) → ((j : ℕ) → j < length s.shells → AreReady s (rows_of_shell s (suc j)) (loops_of_shell s (suc j)))
    → (lines : List CertLine) × IsLegal version s (map spelling lines) × AllByRecursion HasSpelling lines
closed_has_legal version s ready =
    let h = closed_has_lines version s ready in
    let k = legal_from_fit version s h.0 h.1 h.3 [] h.2 in
    (k.0, legal_forward version s (map spelling k.0) (subst (IsLegalAfter version s []) (append-nil (map spelling k.0)) k.1), k.2)
