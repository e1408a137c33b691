-- Where a checker stands behind one more line.
use Rattle.std.specs.Prelude.{◌≡◌, ℕ, zero, suc, ◌+◌, ◌-◌, ◌<◌, ◌≤◌, ◌⊎◌, ◌^◌, Bool, true, false, List, [], ◌∷◌, ◌++◌, length, Option, Some, None, Result, Err}
use Rattle.std.specs.Prelude.{MatchOption, MatchResult, slice_get, slice_index_or, ◌||◌}
use Rattle.std.proofs.Common.{refl, sym, ◌∙◌, ap, subst, arith, inl, inr, ⊎_elim, length-append}
use Rattle.std.proofs.lemmas.Option.{same_Some}
use Rattle.solid_data.specs.SolidData.{SolidData}
use Rattle.edge_uses.specs.ShellRows.{ShellRows}
use Rattle.cert_lines.specs.Line.{CertLine, head, solid, shell, end, IsLine, IsSpelled, IsLong, line_limit}
use Rattle.cert_lines.specs.declared.counts.ShellCounts.{ShellCounts}
use Rattle.cert_state.specs.Progress.{Progress, progress_from_latest, rows_of_shell, loops_of_shell, NoneDue, FitsLine, is_shell, is_last}
use Rattle.cert_lines.proofs.Spelling.{line_one}
use Rattle.cert_lines.specs.Parsed.{IsRowLine, Means, IsJudged}
use Rattle.cert_lines.specs.declared.parsed.Judged.{Judged}
use Rattle.cert_lines.specs.declared.parsed.Judged.TheVariants.{Misspelt, Long}
use Rattle.cert_lines.specs.declared.parsed.ParsedLine.{ParsedLine}
use Rattle.cert_text.specs.declared.fault.Illegal.{Illegal}
use Rattle.cert_text.specs.declared.fault.Illegal.TheVariants.{Unfit}
use Rattle.topo_certificate.specs.Legal.{IsBadLine, BeginsNext, FitsPart}
use Rattle.cert_lines.specs.declared.version.Version.{Version}
use Rattle.cert_state.specs.CheckState.{ShellCheckState, IsFresh, AreCounts, HoldsMates, HoldsFaces, all_due, lines_due}
use Rattle.cert_state.specs.Matching.{MatchesShell, Takes}
use Rattle.topo_certificate.specs.Matching.{MatchesCurrent, AreWaiting, CheckerState, IsAt}
use Rattle.topo_certificate.specs.Room.{dues_of, HasRoom, TakesLine}
use Rattle.cert_state.proofs.UseSizes.{few_shells}
use Rattle.solid_data.specs.Numbering.{IsNumberedSolid}
use Rattle.topo_certificate.proofs.Facts.{asked_is}
use Rattle.cert_state.proofs.Progressing.{progress_of, shell_progress, end_progress, first_progress}
use Rattle.std.specs.List.{list_any}
use Rattle.topo_certificate.proofs.LineKinds.{no_row_line, row_kind, number_same}

-- nothing is due exactly where nothing is kept as due
none_due : (s : SolidData) (at : Progress) (o : Option ShellCheckState) → MatchesCurrent s at o → dues_of o ≡ 0 → NoneDue at.due
none_due s at None h none = h.1
none_due s at (Some k) h none =
    subst NoneDue h.due (record { edges = omega (arith, none); corners = omega (arith, none); reach = omega (arith, none); tally = omega (arith, none) })

dues_none : (s : SolidData) (at : Progress) (o : Option ShellCheckState) → MatchesCurrent s at o → NoneDue at.due → dues_of o ≡ 0
dues_none s at None h none = refl
dues_none s at (Some k) h none = ap lines_due h.due ∙ omega (arith, none.edges, none.corners, none.reach, none.tally)

-- Where something is due no shell begins, and the end doesn't come.
pub still_due : (old new : CheckerState) (k : ℕ) (counts : ShellCounts) → (dues_of old.current ≡ 0 → ⊥) → TakesLine old new (shell k counts) false
still_due old new k counts due first lines at fits = due (dues_none old.solid (progress_from_latest old.version old.solid lines) old.current at.current fits.1.0)

pub still_due_end : (old new : CheckerState) → (dues_of old.current ≡ 0 → ⊥) → TakesLine old new end false
still_due_end old new due first lines at fits = due (dues_none old.solid (progress_from_latest old.version old.solid lines) old.current at.current fits.1.0)

pub other_shell : (old new : CheckerState) (k : ℕ) (counts : ShellCounts) → (k ≡ old.shell + 1 → ⊥) → TakesLine old new (shell k counts) false
other_shell old new k counts other first lines at fits = other (omega (arith, fits.1.1.next, at.shell))

pub no_shell : (old new : CheckerState) (k : ℕ) (counts : ShellCounts) → length old.waiting ≡ 0 → TakesLine old new (shell k counts) false
no_shell old new k counts none first lines at fits = omega (arith, none, at.waiting.count, at.shell, fits.1.1.next, fits.1.1.there)

pub shell_left : (old new : CheckerState) → (length old.waiting ≡ 0 → ⊥) → TakesLine old new end false
shell_left old new some first lines at fits = some (omega (arith, at.waiting.count, at.shell, fits.1.1))

-- one that is last is there
pub some_last : (waiting : List ShellCheckState) (next : ShellCheckState) → slice_get waiting (length waiting - 1) ≡ Some next → 0 < length waiting
some_last [] next there = absurd cc
some_last (x ∷ xs) next there = omega arith

-- the shell that begins next
next_fresh : (old : CheckerState) (first : ℕ) (lines : List CertLine) (next : ShellCheckState) → IsAt first old lines
    → slice_get old.waiting (length old.waiting - 1) ≡ Some next
    → IsFresh old.version (rows_of_shell old.solid (old.shell + 1)) (loops_of_shell old.solid (old.shell + 1)) next
next_fresh old first lines next at there =
    let some : 0 < length old.waiting = some_last old.waiting next there in
    let place : length old.solid.shells - (length old.waiting - 1) ≡ old.shell + 1 = omega (arith, some, at.waiting.count) in
    subst (λ n. IsFresh old.version (rows_of_shell old.solid n) (loops_of_shell old.solid n) next) place
    (at.waiting.fresh (length old.waiting - 1) next there)

pub other_counts : (old new : CheckerState) (next : ShellCheckState) (k : ℕ) (counts : ShellCounts)
    → slice_get old.waiting (length old.waiting - 1) ≡ Some next → (AreCounts next.rows counts → ⊥) → TakesLine old new (shell k counts) false
other_counts old new next k counts there other first lines at fits =
    let fresh = next_fresh old first lines next at there in
    let f = fits.1.1 in
    let same : k ≡ old.shell + 1 = omega (arith, f.next, at.shell) in
    let d : ShellRows = next.rows in
    let is_d : rows_of_shell old.solid k ≡ next.rows = ap (rows_of_shell old.solid) same ∙ sym fresh.rows in
    other (record {
      rows_counted = subst (λ (d : ShellRows). counts.rows ≡ length d.rows) is_d f.rows_counted;
      edges_counted = subst (λ (d : ShellRows). counts.edges ≡ length d.edges) is_d f.edges_counted;
      corners_counted = subst (λ (d : ShellRows). counts.corners ≡ length d.vertices) is_d f.corners_counted;
      faces_counted = subst (λ (d : ShellRows). counts.faces ≡ d.face_count) is_d f.faces_counted;
      two_rows_each = f.two_rows_each;
    })

-- what pop takes is the last
pub popped_last : (waiting : List ShellCheckState) (i : ℕ) (next d : ShellCheckState) → slice_get waiting i ≡ Some next → slice_index_or waiting i d ≡ next
popped_last [] i next d there = absurd cc
popped_last (x ∷ xs) zero next d there = same_Some x next there
popped_last (x ∷ xs) (suc i) next d there = popped_last xs i next d there

abbrev pub with_shell : CheckerState → List ShellCheckState → ShellCheckState → ℕ → ℕ → CheckerState
with_shell old left next k n = record old { number = n; shell = k; current = Some next; waiting = left }

pub shell_begins : (old : CheckerState) (left : List ShellCheckState) (next : ShellCheckState) (k : ℕ) (counts : ShellCounts) (n : ℕ) → old.ended ≡ false → dues_of old.current ≡ 0
    → k ≡ old.shell + 1 → slice_get old.waiting (length old.waiting - 1) ≡ Some next → old.waiting ≡ left ++ next ∷ [] → AreCounts next.rows counts
    → n ≡ old.number + 1 → TakesLine old (with_shell old left next k n) (shell k counts) true
shell_begins old left next k counts n going none is_k there e are more first lines at =
    let s : SolidData = old.solid in
    let here : Progress = progress_from_latest old.version s lines in
    let fresh = next_fresh old first lines next at there in
    let is_d : rows_of_shell s k ≡ next.rows = ap (rows_of_shell s) is_k ∙ sym fresh.rows in
    let long : length old.waiting ≡ length left + 1 = omega (arith, ap (λ xs. length xs) e, length-append left (next ∷ [])) in
    let progress = shell_progress old.version s lines k counts in
    let next_shell : here.shell + 1 ≡ old.shell + 1 = omega (arith, at.shell) in (
      (
        sym at.ended ∙ going,
        (
          none_due s here old.current at.current none,
          record {
            next = omega (arith, is_k, at.shell);
            there = omega (arith, is_k, long, at.waiting.count);
            rows_counted = subst (λ (d : ShellRows). counts.rows ≡ length d.rows) (sym is_d) are.rows_counted;
            edges_counted = subst (λ (d : ShellRows). counts.edges ≡ length d.edges) (sym is_d) are.edges_counted;
            corners_counted = subst (λ (d : ShellRows). counts.corners ≡ length d.vertices) (sym is_d) are.corners_counted;
            faces_counted = subst (λ (d : ShellRows). counts.faces ≡ d.face_count) (sym is_d) are.faces_counted;
            two_rows_each = are.two_rows_each;
          },
        ),
      ),
      record {
        legal = at.legal;
        number = omega (arith, more, at.number);
        ended = at.ended ∙ sym (ap (λ (x : Progress). x.ended) progress);
        shell = omega (arith, is_k, at.shell, ap (λ (x : Progress). x.shell) progress);
        current = subst (λ x. MatchesShell s x next) (sym progress) (record {
          begun = omega arith;
          rows = fresh.rows ∙ ap (rows_of_shell s) (sym next_shell);
          loops = fresh.loops ∙ ap (loops_of_shell s) (sym next_shell);
          due = fresh.due ∙ ap (all_due old.version) (sym fresh.rows)
              ∙ sym (asked_is old.version next.rows counts are.edges_counted are.corners_counted are.faces_counted);
          last_edge = fresh.last_edge;
          last_vertex = fresh.last_vertex;
          mates = fresh.mates;
          reached = fresh.reached;
        });
        waiting = record {
          count = omega (arith, long, is_k, at.waiting.count);
          fresh = λ i x there. at.waiting.fresh i x (ap (λ xs. slice_get xs i) e ∙ there_too left i x there);
        };
      },
    )
  where
    there_too : (left : List ShellCheckState) (i : ℕ) (x : ShellCheckState) → slice_get left i ≡ Some x → slice_get (left ++ next ∷ []) i ≡ Some x
    there_too [] i x h = absurd cc
    there_too (y ∷ left) zero x h = h
    there_too (y ∷ left) (suc i) x h = there_too left i x h

abbrev pub with_end : CheckerState → ℕ → CheckerState
with_end old n = record old { number = n; ended = true }

same_current : (s : SolidData) (a b : Progress) (o : Option ShellCheckState) → a.shell ≡ b.shell → a.due ≡ b.due → a.mates ≡ b.mates → a.last_edge ≡ b.last_edge
    → a.last_vertex ≡ b.last_vertex
    → a.reached ≡ b.reached → MatchesCurrent s a o → MatchesCurrent s b o
same_current s a b None k e ms le lv fs h = (sym k ∙ h.0, subst NoneDue e h.1)
same_current s a b (Some x) k e ms le lv fs h = record {
  begun = subst (λ n. 0 < n) k h.begun;
  rows = h.rows ∙ ap (rows_of_shell s) k;
  loops = h.loops ∙ ap (loops_of_shell s) k;
  due = h.due ∙ e;
  last_edge = h.last_edge ∙ le;
  last_vertex = h.last_vertex ∙ lv;
  mates = subst (HoldsMates x.mates) ms h.mates;
  reached = subst (HoldsFaces x.reached) fs h.reached;
}

pub end_comes : (old : CheckerState) (n : ℕ) → old.ended ≡ false → dues_of old.current ≡ 0 → length old.waiting ≡ 0 → n ≡ old.number + 1
    → TakesLine old (with_end old n) end true
end_comes old n going none left more first lines at =
    let s : SolidData = old.solid in
    let here : Progress = progress_from_latest old.version s lines in
    let progress = end_progress old.version s lines in (
      (sym at.ended ∙ going, (none_due s here old.current at.current none, omega (arith, left, at.waiting.count, at.shell))),
      record {
        legal = at.legal;
        number = omega (arith, more, at.number);
        ended = sym (ap (λ (x : Progress). x.ended) progress);
        shell = at.shell ∙ sym (ap (λ (x : Progress). x.shell) progress);
        current = subst (λ x. MatchesCurrent s x old.current) (sym progress)
            (same_current s here (progress_of true here.shell here.due here.mates here.last_edge here.last_vertex here.reached) old.current refl refl refl refl
            refl refl at.current);
        waiting = at.waiting;
      },
    )

-- Lines of the shell at hand.

abbrev pub with_current : CheckerState → ShellCheckState → ℕ → CheckerState
with_current old k n = record old { number = n; current = Some k }

-- a line of rows changes neither the shell nor whether END came
row_line : (version : Version) (s : SolidData) (lines : List CertLine) (line : CertLine) → IsRowLine line
    → ((progress_from_latest version s (line ∷ lines)).ended ≡ (progress_from_latest version s lines).ended)
    × ((progress_from_latest version s (line ∷ lines)).shell ≡ (progress_from_latest version s lines).shell)
unfolding progress_from_latest
row_line version s lines line h =
    let kind = row_kind line h in
    (ap (λ b. b || list_any is_last lines) kind.1, number_same is_shell line lines kind.0)

pub row_line_taken : (old : CheckerState) (k new : ShellCheckState) (line : CertLine) (n : ℕ) → old.ended ≡ false → old.current ≡ Some k → IsRowLine line
    → Takes k new line true → n ≡ old.number + 1 → TakesLine old (with_current old new n) line true
row_line_taken old k new line n going is_k kind takes more first lines at =
    let s : SolidData = old.solid in
    let t : MatchesShell s (progress_from_latest old.version s lines) k = subst (MatchesCurrent s (progress_from_latest old.version s lines)) is_k at.current in
    let r = takes old.version s lines t in
    let l = row_line old.version s lines line kind in (
      (sym at.ended ∙ going, r.0),
      record {
        legal = at.legal;
        number = omega (arith, more, at.number);
        ended = at.ended ∙ sym l.0;
        shell = at.shell ∙ sym l.1;
        current = r.1;
        waiting = at.waiting;
      },
    )

pub row_line_refused : (old new : CheckerState) (k now : ShellCheckState) (line : CertLine) → old.current ≡ Some k → Takes k now line false → TakesLine old new line false
row_line_refused old new k now line is_k takes first lines at fits =
    takes old.version old.solid lines (subst (MatchesCurrent old.solid (progress_from_latest old.version old.solid lines)) is_k at.current) fits.1

pub no_shell_begun : (old new : CheckerState) (line : CertLine) → old.current ≡ None → IsRowLine line → TakesLine old new line false
no_shell_begun old new line none kind first lines at fits =
    let t = subst (MatchesCurrent old.solid (progress_from_latest old.version old.solid lines)) none at.current in
    no_row_line old.solid (progress_from_latest old.version old.solid lines) line t.1 kind fits.1

pub ended_already : (old new : CheckerState) (line : CertLine) → old.ended ≡ true → TakesLine old new line false
ended_already old new line over first lines at fits = let e : true ≡ false = sym over ∙ (at.ended ∙ fits.0) in cc

pub never_fits_head : (old new : CheckerState) (v : Version) → TakesLine old new (head v) false
never_fits_head old new v first lines at fits = fits.1

pub never_fits_solid : (old new : CheckerState) (n : ℕ) → TakesLine old new (solid n) false
never_fits_solid old new n first lines at fits = fits.1

-- Behind no line.
pub begins : (first : ℕ) (c : CheckerState) → c.failed ≡ None → c.number ≡ first → c.ended ≡ false → c.shell ≡ 0 → c.current ≡ None
    → AreWaiting c.version c.solid 0 c.waiting → IsAt first c []
begins first c legal number going shell_is none waiting =
    let s : SolidData = c.solid in
    let version : Version = c.version in
    let progress = first_progress version s in
    record {
      legal = legal;
      number = omega (arith, number);
      ended = going ∙ sym (ap (λ (x : Progress). x.ended) progress);
      shell = shell_is ∙ sym (ap (λ (x : Progress). x.shell) progress);
      current = subst (MatchesCurrent s (progress_from_latest version s [])) (sym none) (
        ap (λ (x : Progress). x.shell) progress,
        record {
          edges = ap (λ (x : Progress). x.due.edges) progress;
          corners = ap (λ (x : Progress). x.due.corners) progress;
          reach =
              ap (λ (x : Progress). x.due.reach) progress;
          tally = ap (λ (x : Progress). x.due.tally) progress;
        },
      );
      waiting = subst (λ n. AreWaiting version s n c.waiting) (sym shell_is) waiting;
    }

-- The shells from the last one on, so many of them.
pub record Waits (version : Version) (s : SolidData) (k : ℕ) (waiting : List ShellCheckState) : Type 0 where
  pub count : length waiting ≡ k
  pub fresh : (i : ℕ) (t : ShellCheckState) → slice_get waiting i ≡ Some t
      → IsFresh version (rows_of_shell s (length s.shells - i)) (loops_of_shell s (length s.shells - i)) t

pub waits_none : (version : Version) (s : SolidData) (waiting : List ShellCheckState) → waiting ≡ [] → Waits version s 0 waiting
waits_none version s waiting e = record { count = ap (λ xs. length xs) e; fresh = λ i t h. absurd (none_there i t (sym (ap (λ xs. slice_get xs i) e) ∙ h)) }
  where
    none_there : (i : ℕ) (t : ShellCheckState) → slice_get [] i ≡ Some t → ⊥
    none_there i t h = cc

pub waits_more : (version : Version) (s : SolidData) (k n : ℕ) (waiting new : List ShellCheckState) (t : ShellCheckState) → Waits version s k waiting → k < length s.shells
    → n ≡ length s.shells - 1 - k → IsFresh version (rows_of_shell s (n + 1)) (loops_of_shell s (n + 1)) t → new ≡ waiting ++ t ∷ []
    → Waits version s (k + 1) new
waits_more version s k n waiting new t w lt is_n fresh e = record {
  count = omega (arith, ap (λ xs. length xs) e, length-append waiting (t ∷ []), w.count);
  fresh = λ i x h.
      let z : 0 + i ≡ i = omega arith in
      let l : 0 + length waiting ≡ k = omega (arith, w.count) in
      subst (λ m. IsFresh version (rows_of_shell s (length s.shells - m)) (loops_of_shell s (length s.shells - m)) x) z
      (in_either waiting 0 i x
      (λ j y g. let b : j ≡ 0 + j = omega arith in subst
      (λ m. IsFresh version (rows_of_shell s (length s.shells - m)) (loops_of_shell s (length s.shells - m)) y) b (w.fresh j y g)) l
      (sym (ap (λ xs. slice_get xs i) e) ∙ h));
}
  where
    last_fresh : IsFresh version (rows_of_shell s (length s.shells - k)) (loops_of_shell s (length s.shells - k)) t
    last_fresh = let place : n + 1 ≡ length s.shells - k = omega (arith, is_n, lt) in subst (λ m. IsFresh version (rows_of_shell s m) (loops_of_shell s m) t)
        place fresh

    in_either : (xs : List ShellCheckState) (base i : ℕ) (x : ShellCheckState)
        → ((j : ℕ) (y : ShellCheckState) → slice_get xs j ≡ Some y
        → IsFresh version (rows_of_shell s (length s.shells - (base + j))) (loops_of_shell s (length s.shells - (base + j))) y) → base + length xs ≡ k
        → slice_get (xs ++ t ∷ []) i ≡ Some x
        → IsFresh version (rows_of_shell s (length s.shells - (base + i))) (loops_of_shell s (length s.shells - (base + i))) x
    in_either [] base zero x each long h =
        let place : length s.shells - k ≡ length s.shells - (base + 0) = omega (arith, long) in
        subst (λ m. IsFresh version (rows_of_shell s m) (loops_of_shell s m) x) place
        (subst (IsFresh version (rows_of_shell s (length s.shells - k)) (loops_of_shell s (length s.shells - k))) (same_Some t x h) last_fresh)
    in_either [] base (suc i) x each long h = absurd (none_there i x h)
      where
        none_there : (i : ℕ) (x : ShellCheckState) → slice_get [] i ≡ Some x → ⊥
        none_there i x h = cc
    in_either (y ∷ xs) base zero x each long h = each 0 x h
    in_either (y ∷ xs) base (suc i) x each long h =
        let a : base + 1 + i ≡ base + suc i = omega arith in
        subst (λ m. IsFresh version (rows_of_shell s (length s.shells - m)) (loops_of_shell s (length s.shells - m)) x) a
        (in_either xs (base + 1) i x
        (λ j z g. let b : base + suc j ≡ base + 1 + j = omega arith in subst
        (λ m. IsFresh version (rows_of_shell s (length s.shells - m)) (loops_of_shell s (length s.shells - m)) z) b (each (suc j) z g))
        (omega (arith, long)) h)

pub waits_all : (version : Version) (s : SolidData) (k : ℕ) (waiting : List ShellCheckState) → Waits version s k waiting → length s.shells ≡ k
    → AreWaiting version s 0 waiting
waits_all version s k waiting w all = record { count = omega (arith, w.count, all); fresh = w.fresh }

pub room_at_first : (version : Version) (s : SolidData) (limit first : ℕ) (waiting : List ShellCheckState) → IsNumberedSolid s → limit ≡ line_limit s
    → first ≤ 2 ^ 32 → AreWaiting version s 0 waiting
    → HasRoom limit (record { version = version; solid = s; failed = None; number = first; ended = false; shell = 0; current = None; waiting = waiting })
room_at_first version s limit first waiting numbered is_limit low w =
    record { limit_is = is_limit; few_shells = omega (arith, few_shells s numbered, w.count); few = omega (arith, low); unended = λ e. omega (arith, low) }

-- A line that is spelled and not taken is unfit.
pub line_refused : (old new : CheckerState) (bytes : List ℕ) (l : CertLine) (number : ℕ) (r : Result (Unit {0}) Illegal) (Good : Unit {0} → Type 0) (first : ℕ)
    (lines : List CertLine) → IsAt first old lines → IsLine (line_limit old.solid) bytes l
    → (FitsLine old.solid (progress_from_latest old.version old.solid lines) l → ⊥) → number ≡ old.number → r ≡ Err (Unfit number)
    → new.failed ≡ Some (Unfit number)
    → MatchResult r Good (λ bad. IsBadLine old.solid (FitsLine old.solid (progress_from_latest old.version old.solid lines)) (first + length lines) bytes bad
    × (new.failed ≡ Some bad))
line_refused old new bytes l number r Good first lines at is never same is_r failed =
    let n : Unfit number ≡ Unfit (first + length lines) = ap (λ k. Unfit k) (same ∙ at.number) in
    subst (λ x. MatchResult x Good
    (λ bad. IsBadLine old.solid (FitsLine old.solid (progress_from_latest old.version old.solid lines)) (first + length lines) bytes bad
    × (new.failed ≡ Some bad))) (sym is_r)
    (inr (inr (l, is, never), n), failed)

-- The line that begins the next part of a book.

-- END may come where nothing is kept as due and no shell waits
pub end_may_come : (c : CheckerState) (first : ℕ) (lines : List CertLine) → IsAt first c lines → c.ended ≡ false → dues_of c.current ≡ 0 → length c.waiting ≡ 0
    → FitsLine c.solid (progress_from_latest c.version c.solid lines) end
end_may_come c first lines at going none left = (
  sym at.ended ∙ going,
  (
    none_due c.solid (progress_from_latest c.version c.solid lines) c.current at.current none,
    omega
        (arith, left, at.waiting.count, at.shell),
  ),
)

pub end_may_not : (c : CheckerState) (first : ℕ) (lines : List CertLine) → IsAt first c lines → (c.ended ≡ false → dues_of c.current ≡ 0 → length c.waiting ≡ 0 → ⊥)
    → FitsLine c.solid (progress_from_latest c.version c.solid lines) end → ⊥
end_may_not c first lines at never fits =
    never (at.ended ∙ fits.0) (dues_none c.solid (progress_from_latest c.version c.solid lines) c.current at.current fits.1.0)
    (omega (arith, at.waiting.count, at.shell, fits.1.1))

-- what fits neither as a line nor as the first one of the next part is bad in a part
pub bad_in_part : (s : SolidData) (at : Progress) (number : ℕ) (bytes : List ℕ) (bad : Illegal)
    → ((n : ℕ) → IsLine (line_limit s) bytes (solid n) → BeginsNext s at n → ⊥) → IsBadLine s (FitsLine s at) number bytes bad
    → IsBadLine s (FitsPart s at) number bytes bad
bad_in_part s at number bytes bad never (inl misspelt) = inl misspelt
bad_in_part s at number bytes bad never (inr (inl long, is)) = inr (inl long, is)
bad_in_part s at number bytes bad never (inr (inr (l, is_l, not_fit), is)) =
    inr (inr (l, is_l, λ h. ⊎_elim not_fit (λ (n, is_n, begins). never n (subst (IsLine (line_limit s) bytes) is_n is_l) begins) h), is)

pub not_so : (b : Bool) → b ≡ false → b ≡ true → ⊥
not_so b no_ yes_ = let e : false ≡ true = sym no_ ∙ yes_ in cc

number_in : CertLine → ℕ
number_in (solid n) = n
number_in _ = 0

pub one_solid : (bytes : List ℕ) (n m : ℕ) → IsSpelled bytes (solid n) → IsSpelled bytes (solid m) → n ≡ m
unfolding number_in
one_solid bytes n m a b = ap number_in (line_one bytes (solid n) (solid m) a b)

-- a line that says what the words say names a solid exactly where they do
pub solid_told : (limit : ℕ) (bytes : List ℕ) (w : ParsedLine) (found : Option ℕ) → (line : CertLine) × Means w line × IsLine limit bytes line
    → MatchOption found ((line : CertLine) (n : ℕ) → Means w line → line ≡ solid n → ⊥) (λ n. (line : CertLine) → Means w line → line ≡ solid n)
    → MatchOption found ((n : ℕ) → ¬ IsLine limit bytes (solid n)) (λ n. IsLine limit bytes (solid n))
solid_told limit bytes w (Some n) (l, means, is) told = subst (IsLine limit bytes) (told l means) is
solid_told limit bytes w None (l, means, is) never = λ n h. never l n means (line_one bytes l (solid n) is.1 h.1)

pub not_spelled_names_none : (limit : ℕ) (bytes : List ℕ) (j : Judged) → IsJudged limit bytes j → (j ≡ Misspelt) ⊎ (j ≡ Long) → (n : ℕ)
    → IsLine limit bytes (solid n) → ⊥
not_spelled_names_none limit bytes j h (inl e) n is = (subst (IsJudged limit bytes) e h).none (solid n) is.1
not_spelled_names_none limit bytes j h (inr e) n is = let long : IsLong limit bytes = subst (IsJudged limit bytes) e h in omega (arith, long.0, is.0)
