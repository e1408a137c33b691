-- Legal lines of version 1 are legal in version 2 with TALLY lines.
use Rattle.std.specs.Prelude.{◌≡◌, ℕ, zero, suc, ◌+◌, ◌-◌, ◌<◌, true, false, List, [], ◌∷◌, ◌++◌, length, find, filter_map, Option, Some, None, slice_get, ◌||◌}
use Rattle.std.specs.Prelude.{Bool, cond}
use Rattle.std.specs.List.{list_any}
use Rattle.solid_data.proofs.Members.{get_some}
use Rattle.std.proofs.Common.{refl, sym, ◌∙◌, ap, subst, arith}
use Rattle.solid_data.specs.SolidData.{SolidData}
use Rattle.solid_data.specs.declared.solid.Shell.{Shell}
use Rattle.edge_uses.specs.ShellRows.{ShellRows, rows_of}
use Rattle.cert_lines.specs.Line.{CertLine, shell, tally, end, spelling, IsLine, line_limit}
use Rattle.cert_lines.specs.declared.counts.ShellCounts.{ShellCounts}
use Rattle.cert_lines.specs.declared.counts.TallyCounts.{TallyCounts}
use Rattle.cert_lines.specs.declared.version.Version.TheVariants.{One, Two}
use Rattle.cert_state.specs.Progress.{Progress, first_of, edge_of, vertex_of, face_of, mates_of, progress_from_latest, is_shell, is_last, is_tally, is_edge}
use Rattle.cert_state.specs.Progress.{is_corner_or_point, is_reach, number_of, since_shell, asked, loops_of, rows_of_shell, FitsLine, FitsTally, FitsShell}
use Rattle.cert_state.specs.Progress.{NoneDue}
use Rattle.topo_certificate.specs.Legal.{IsLegal}
use Rattle.topo_certificate.specs.After.{IsLegalAfter}
use Rattle.topo_certificate.specs.Upgraded.{tally_of_shell, tally_lines_of, tally_before, with_tallies}
use Rattle.topo_certificate.proofs.Forward.{legal_forward, legal_behind}
use Rattle.cert_state.proofs.Short.{IsReadable}
use Rattle.cert_state.specs.declared.due.Due.{Due}
use Rattle.cert_state.proofs.SameProgress.{SameProgress}
use Rattle.topo_certificate.proofs.LineKinds.{asked_none, end_line, fits_too, kept_there, number_more, number_same, shell_line, tally_line}

-- the latest first: what the progress is read off is the same, with TALLY lines of shells before the one at hand and without
record Alike (before new : List CertLine) : Type 0 where
  pub ended : list_any is_last new ≡ list_any is_last before
  pub shells : number_of is_shell new ≡ number_of is_shell before
  pub asks : find is_shell new ≡ find is_shell before
  pub since : since_shell new ≡ since_shell before

-- what a SHELL line asks for in version 1, and a TALLY line too in version 2
record AskedAlike (o : Option CertLine) : Type 0 where
  pub edges : (asked Two o).edges ≡ (asked One o).edges
  pub corners : (asked Two o).corners ≡ (asked One o).corners
  pub reach : (asked Two o).reach ≡ (asked One o).reach
  pub tally : (asked One o).tally ≡ 0

asked_alike : (o : Option CertLine) → AskedAlike o
asked_alike None = record { edges = refl; corners = refl; reach = refl; tally = refl }
asked_alike (Some l) = by_test (is_shell l) refl
  where
    by_test : (b : Bool) → is_shell l ≡ b → AskedAlike (Some l)
    by_test true e = subst (λ x. AskedAlike (Some x)) (sym (shell_line l e).2) (record { edges = refl; corners = refl; reach = refl; tally = refl })
    by_test false e =
        let one : asked One (Some l) ≡ asked One None = asked_none One l e in
        let two : asked Two (Some l) ≡ asked Two None = asked_none Two l e in
        record {
          edges = ap (λ (a : Due). a.edges) two ∙ sym (ap (λ (a : Due). a.edges) one);
          corners = ap (λ (a : Due). a.corners) two ∙ sym (ap (λ (a : Due). a.corners) one);
          reach = ap (λ (a : Due). a.reach) two ∙ sym (ap (λ (a : Due). a.reach) one);
          tally = ap (λ (a : Due). a.tally) one;
        }

abbrev mates_in : List CertLine → List (ℕ × ℕ)
mates_in ls = filter_map mates_of ls

abbrev last_edge_in : ShellRows → List CertLine → Option ℕ
last_edge_in d ls = first_of (filter_map (edge_of d) ls)

abbrev last_vertex_in : ShellRows → List CertLine → Option ℕ
last_vertex_in d ls = first_of (filter_map (vertex_of d) ls)

abbrev reached_in : ShellRows → List CertLine → List ℕ
reached_in d ls = 0 ∷ filter_map (face_of d) ls

-- the progress of version 2, as one of version 1 would be read
same_progress : (s : SolidData) (before new : List CertLine) → Alike before new → SameProgress (progress_from_latest One s before) (progress_from_latest Two s new)
unfolding progress_from_latest
same_progress s before new h = record {
  ended = h.ended;
  shell = h.shells;
  edges = ap (λ ls. (asked Two (find is_shell new)).edges - number_of is_edge ls) h.since ∙ ap (λ n. n - number_of is_edge (since_shell before))
      (ap (λ o. (asked Two o).edges) h.asks ∙ (asked_alike (find is_shell before)).edges);
  corners = ap (λ ls. (asked Two (find is_shell new)).corners - number_of is_corner_or_point ls) h.since
      ∙ ap (λ n. n - number_of is_corner_or_point (since_shell before)) (ap (λ o. (asked Two o).corners) h.asks ∙ (asked_alike (find is_shell before)).corners);
  reach = ap (λ ls. (asked Two (find is_shell new)).reach - number_of is_reach ls) h.since ∙ ap (λ n. n - number_of is_reach (since_shell before))
      (ap (λ o. (asked Two o).reach) h.asks ∙ (asked_alike (find is_shell before)).reach);
  mates = ap (λ ls. mates_in ls) h.since;
  last_edge = ap (λ ls. last_edge_in (rows_of_shell s (number_of is_shell new)) ls) h.since ∙ ap (λ n. last_edge_in (rows_of_shell s n) (since_shell before))
      h.shells;
  last_vertex = ap (λ ls. last_vertex_in (rows_of_shell s (number_of is_shell new)) ls) h.since
      ∙ ap (λ n. last_vertex_in (rows_of_shell s n) (since_shell before)) h.shells;
  reached = ap (λ ls. reached_in (rows_of_shell s (number_of is_shell new)) ls) h.since ∙ ap (λ n. reached_in (rows_of_shell s n) (since_shell before))
      h.shells;
}

-- no TALLY line fits in version 1
no_tally : (s : SolidData) (before : List CertLine) → (progress_from_latest One s before).due.tally ≡ 0
unfolding progress_from_latest
no_tally s before = let h : (asked One (find is_shell before)).tally ≡ 0 = (asked_alike (find is_shell before)).tally in omega (arith, h)

-- where a shell is begun, its line is the last one found
found_on : (l : CertLine) (ls : List CertLine) (n : ℕ) → number_of is_shell (l ∷ ls) ≡ suc n
    → (number_of is_shell ls ≡ suc n → (k : ℕ) × (c : ShellCounts) × (find is_shell ls ≡ Some (shell k c)))
    → (k : ℕ) × (c : ShellCounts) × (find is_shell (l ∷ ls) ≡ Some (shell k c))
found_on l ls n h later = by_test (is_shell l) refl
  where
    by_test : (b : Bool) → is_shell l ≡ b → (k : ℕ) × (c : ShellCounts) × (find is_shell (l ∷ ls) ≡ Some (shell k c))
    by_test true e =
        let begun = shell_line l e in
        let here : find is_shell (l ∷ ls) ≡ Some l = ap (λ b. cond b (Some l) (find is_shell ls)) e in
        (begun.0, begun.1, here ∙ ap (λ x. Some x) begun.2)
    by_test false e =
        let there = later (sym (number_same is_shell l ls e) ∙ h) in
        let on : find is_shell (l ∷ ls) ≡ find is_shell ls = ap (λ b. cond b (Some l) (find is_shell ls)) e in
        (there.0, there.1, on ∙ there.2)

found_shell : (ls : List CertLine) (n : ℕ) → number_of is_shell ls ≡ suc n → (k : ℕ) × (c : ShellCounts) × (find is_shell ls ≡ Some (shell k c))
found_shell [] n h = absurd (omega (arith, h))
found_shell (l ∷ ls) n h = found_on l ls n h (found_shell ls n)

none_on : (l : CertLine) (ls : List CertLine) → number_of is_shell (l ∷ ls) ≡ 0 → (number_of is_shell ls ≡ 0 → find is_shell ls ≡ None)
    → find is_shell (l ∷ ls) ≡ None
none_on l ls h later = by_test (is_shell l) refl
  where
    by_test : (b : Bool) → is_shell l ≡ b → find is_shell (l ∷ ls) ≡ None
    by_test true e = absurd (let never : suc (number_of is_shell ls) ≡ 0 = sym (number_more is_shell l ls e) ∙ h in omega (arith, never))
    by_test false e =
        let on : find is_shell (l ∷ ls) ≡ find is_shell ls = ap (λ b. cond b (Some l) (find is_shell ls)) e in
        on ∙ later (sym (number_same is_shell l ls e) ∙ h)

no_shell_found : (ls : List CertLine) → number_of is_shell ls ≡ 0 → find is_shell ls ≡ None
no_shell_found [] h = refl
no_shell_found (l ∷ ls) h = none_on l ls h (no_shell_found ls)

tally_there : (s : SolidData) (k : ℕ) (h : Shell) → slice_get s.shells k ≡ Some h → FitsTally s (suc k) (tally_of_shell s h)
tally_there s k h at = record {
  vertices_counted = ap (λ o. length (rows_of s o).vertices) (sym at);
  edges_counted = ap (λ o. length (rows_of s o).edges) (sym at);
  faces_counted = ap (λ o. (rows_of s o).face_count) (sym at);
  loops_counted = ap (λ o. loops_of o) (sym at);
}

-- nothing is due before the first shell
none_at_first : (s : SolidData) (new : List CertLine) → number_of is_shell new ≡ 0 → NoneDue (progress_from_latest Two s new).due
unfolding progress_from_latest
none_at_first s new none =
    let e = no_shell_found new none in
    record {
      edges = ap (λ o. (asked Two o).edges - number_of is_edge (since_shell new)) e ∙ omega arith;
      corners = ap (λ o. (asked Two o).corners - number_of is_corner_or_point (since_shell new)) e ∙ omega arith;
      reach = ap (λ o. (asked Two o).reach - number_of is_reach (since_shell new)) e ∙ omega arith;
      tally = ap (λ o. (asked Two o).tally - number_of is_tally (since_shell new)) e ∙ omega arith;
    }

-- where nothing but a TALLY line is due of a shell, it fits, and nothing is due after it
tally_next : (s : SolidData) (before new : List CertLine) (k : ℕ) (h : Shell) → Alike before new → number_of is_shell before ≡ suc k
    → number_of is_tally (since_shell new) ≡ 0 → slice_get s.shells k ≡ Some h
    → (progress_from_latest One s before).ended ≡ false → NoneDue (progress_from_latest One s before).due
    → FitsLine s (progress_from_latest Two s new) (tally (tally_of_shell s h))
unfolding progress_from_latest
tally_next s before new k h alike number no_tallies at going none =
    let same = same_progress s before new alike in
    let found = found_shell new k (alike.shells ∙ number) in
    let due : (asked Two (find is_shell new)).tally - number_of is_tally (since_shell new) ≡ 1 =
    ap (λ o. (asked Two o).tally - number_of is_tally (since_shell new)) found.2 ∙ omega (arith, no_tallies) in (
      same.ended ∙ going,
      (
        (same.edges ∙ none.edges, same.corners ∙ none.corners, same.reach ∙ none.reach, omega (arith, due)),
        subst (λ n. FitsTally s n (tally_of_shell s h))
            (sym (alike.shells ∙ number)) (tally_there s k h at),
      ),
    )

none_behind_tally : (s : SolidData) (before new : List CertLine) (k : ℕ) (t : TallyCounts) → Alike before new → number_of is_shell before ≡ suc k
    → number_of is_tally (since_shell new) ≡ 0 → NoneDue (progress_from_latest One s before).due
    → NoneDue (progress_from_latest Two s (tally t ∷ new)).due
unfolding progress_from_latest
none_behind_tally s before new k t alike number no_tallies none =
    let same = same_progress s before new alike in
    let found = found_shell new k (alike.shells ∙ number) in
    let left : (asked Two (find is_shell new)).tally - suc (number_of is_tally (since_shell new)) ≡ 0 =
    ap (λ o. (asked Two o).tally - suc (number_of is_tally (since_shell new))) found.2 ∙ omega arith in
    record { edges = same.edges ∙ none.edges; corners = same.corners ∙ none.corners; reach = same.reach ∙ none.reach; tally = left }

-- a line that begins a shell, or ends the certificate, after what ended the shell before
ended_kept : (s : SolidData) (t : TallyCounts) (ls : List CertLine) → ((progress_from_latest Two s (tally t ∷ ls)).ended ≡ (progress_from_latest Two s ls).ended)
    × ((progress_from_latest Two s (tally t ∷ ls)).shell ≡ (progress_from_latest Two s ls).shell)
unfolding progress_from_latest
ended_kept s t ls = (refl, refl)

shell_fits : (s : SolidData) (a b : Progress) (k : ℕ) (c : ShellCounts) → b.shell ≡ a.shell → FitsShell s a k c → FitsShell s b k c
shell_fits s a b k c e f =
    record {
      next = omega (arith, f.next, e);
      there = f.there;
      rows_counted = f.rows_counted;
      edges_counted = f.edges_counted;
      corners_counted =
          f.corners_counted;
      faces_counted = f.faces_counted;
      two_rows_each = f.two_rows_each;
    }

going_on : (s : SolidData) (before : List CertLine) → (progress_from_latest One s (end ∷ before)).ended ≡ false → ⊥
unfolding progress_from_latest
going_on s before h = cc

shells_told : (s : SolidData) (ls : List CertLine) → (progress_from_latest One s ls).shell ≡ number_of is_shell ls
unfolding progress_from_latest
shells_told s ls = refl

end_there : (s : SolidData) (ls : List CertLine) → (progress_from_latest Two s (end ∷ ls)).ended ≡ true
unfolding progress_from_latest
end_there s ls = refl

-- each TALLY line that is put is spelled, and not long
abbrev pub TalliesRead : SolidData → Type 0
TalliesRead s = (k : ℕ) (h : Shell) → slice_get s.shells k ≡ Some h → IsReadable s (tally (tally_of_shell s h))

module _ (s : SolidData) (read : TalliesRead s) where
  one_tally : (k : ℕ) (h : Shell) → slice_get s.shells k ≡ Some h → IsReadable s (tally (tally_of_shell s h))
  one_tally k h at = read k h at

  -- a shell begins
  shell_step : (before new : List CertLine) (n k : ℕ) (c : ShellCounts) (lines : List (List ℕ)) → Alike before new → number_of is_shell before ≡ n
      → number_of is_tally (since_shell new) ≡ 0 → IsReadable s (shell k c)
      → FitsLine s (progress_from_latest One s before) (shell k c)
      → ((new' : List CertLine) → Alike (shell k c ∷ before) new' → number_of is_tally (since_shell new') ≡ 0 → IsLegalAfter Two s new' lines)
      → IsLegalAfter Two s new (tally_before s n ++ spelling (shell k c) ∷ lines)
  shell_step before new zero k c lines alike number no_tallies is fits on =
      let same = same_progress s before new alike in (
        shell k c,
        is,
        (
          same.ended ∙ fits.0,
          (
            none_at_first s new (alike.shells ∙ number),
            shell_fits s (progress_from_latest One s before) (progress_from_latest Two s new) k c
                same.shell fits.1.1,
          ),
        ),
        on (shell k c ∷ new) (record { ended = alike.ended; shells = ap suc alike.shells; asks = refl; since = refl }) refl,
      )
  shell_step before new (suc n) k c lines alike number no_tallies is fits on =
      let lt : n < length s.shells = omega (arith, fits.1.1.there, fits.1.1.next, number, shells_told s before) in
      let at = get_some s.shells n lt in
      let t : TallyCounts = tally_of_shell s at.0 in
      let same = same_progress s before new alike in
      let kept = ended_kept s t new in
      subst (λ o. IsLegalAfter Two s new (tally_lines_of s o ++ spelling (shell k c) ∷ lines)) (sym at.1) (
        tally t,
        one_tally n at.0 at.1,
        tally_next s before new n at.0 alike number no_tallies at.1 fits.0 fits.1.0,
        (
          shell k c,
          is,
          (
            kept.0 ∙ (same.ended ∙ fits.0),
            (
              none_behind_tally s before new n t alike number no_tallies fits.1.0,
              shell_fits s (progress_from_latest One s before)
                  (progress_from_latest Two s (tally t ∷ new)) k c (kept.1 ∙ same.shell) fits.1.1,
            ),
          ),
          on (shell k c ∷ tally t ∷ new) (record { ended = alike.ended; shells = ap suc alike.shells; asks = refl; since = refl }) refl,
        ),
      )

  -- END comes
  end_step : (before new : List CertLine) (n : ℕ) → Alike before new → number_of is_shell before ≡ n → number_of is_tally (since_shell new) ≡ 0
      → FitsLine s (progress_from_latest One s before) end
      → IsReadable s end → IsLegalAfter Two s new (tally_before s n ++ spelling end ∷ [])
  end_step before new zero alike number no_tallies fits is =
      let same = same_progress s before new alike in
      (end, is, (same.ended ∙ fits.0, (none_at_first s new (alike.shells ∙ number), same.shell ∙ fits.1.1)), end_there s new)
  end_step before new (suc n) alike number no_tallies fits is =
      let lt : n < length s.shells = omega (arith, fits.1.1, number, shells_told s before) in
      let at = get_some s.shells n lt in
      let t : TallyCounts = tally_of_shell s at.0 in
      let same = same_progress s before new alike in
      let kept = ended_kept s t new in
      subst (λ o. IsLegalAfter Two s new (tally_lines_of s o ++ spelling end ∷ [])) (sym at.1) (
        tally t,
        one_tally n at.0 at.1,
        tally_next s before new n at.0 alike number no_tallies at.1 fits.0 fits.1.0,
        (
          end,
          is,
          (kept.0 ∙ (same.ended ∙ fits.0), (none_behind_tally s before new n t alike number no_tallies fits.1.0, kept.1 ∙ (same.shell ∙ fits.1.1))),
          end_there s (tally t ∷ new),
        ),
      )

  upgrade_behind : (before new : List CertLine) (n : ℕ) (lines : List (List ℕ)) → Alike before new → number_of is_shell before ≡ n
      → number_of is_tally (since_shell new) ≡ 0 → IsLegalAfter One s before lines → IsLegalAfter Two s new (with_tallies s n lines)
  upgrade_behind before new n [] alike number no_tallies legal = ended_too alike legal
    where
      ended_too : Alike before new → (progress_from_latest One s before).ended ≡ true → (progress_from_latest Two s new).ended ≡ true
      ended_too a h = (same_progress s before new a).ended ∙ h
  upgrade_behind before new n (bytes ∷ lines) alike number no_tallies (l, is_l, fits, more) =
      subst (λ b. IsLegalAfter Two s new (with_tallies s n (b ∷ lines))) (sym is_l.1.1)
      (by_line l (subst (λ b. IsLine (line_limit s) b l) is_l.1.1 is_l) fits more (λ new' m a b c d. upgrade_behind (l ∷ before) new' m lines a b c d))
    where
      same : SameProgress (progress_from_latest One s before) (progress_from_latest Two s new)
      same = same_progress s before new alike

      Later : CertLine → Type 0
      Later l = (new' : List CertLine) (m : ℕ) → Alike (l ∷ before) new' → number_of is_shell (l ∷ before) ≡ m → number_of is_tally (since_shell new') ≡ 0
          → IsLegalAfter One s (l ∷ before) lines → IsLegalAfter Two s new' (with_tallies s m lines)

      Follows : CertLine → Type 0
      Follows l = IsReadable s l → FitsLine s (progress_from_latest One s before) l → IsLegalAfter One s (l ∷ before) lines → Later l
          → IsLegalAfter Two s new (with_tallies s n (spelling l ∷ lines))

      at_shell : (k : ℕ) (c : ShellCounts) → Follows (shell k c)
      at_shell k c is fits more later =
          shell_step before new n k c (with_tallies s (n + 1) lines) alike number no_tallies is fits
          (λ new' a t. let m : number_of is_shell (shell k c ∷ before) ≡ n + 1 = omega (arith, number) in later new' (n + 1) a m t more)

      at_tally : (t : TallyCounts) → Follows (tally t)
      at_tally t is fits more later = absurd (omega (arith, fits.1.0.3, no_tally s before))

      at_end : Follows end
      at_end is fits more later = last lines more
        where
          last : (ls : List (List ℕ)) → IsLegalAfter One s (end ∷ before) ls → IsLegalAfter Two s new (with_tallies s n (spelling end ∷ ls))
          last [] h = end_step before new n alike number no_tallies fits is
          last (b ∷ ls) (m, is_m, fits_m, more_m) = absurd (going_on s before fits_m.0)

      at_row : (l : CertLine) → is_shell l ≡ false → is_last l ≡ false → is_tally l ≡ false → Follows l
      at_row l e f g is fits more later =
          let next : Alike (l ∷ before) (l ∷ new) = record {
            ended = ap (λ b. is_last l || b) alike.ended;
            shells = number_same is_shell l new e ∙ (alike.shells ∙ sym (number_same is_shell l before e));
            asks = ap (λ o. cond (is_shell l) (Some l) o) alike.asks;
            since = ap (λ ls. cond (is_shell l) [] (l ∷ ls)) alike.since;
          } in
          let counted : number_of is_shell (l ∷ before) ≡ n = number_same is_shell l before e ∙ number in
          let begun : since_shell (l ∷ new) ≡ l ∷ since_shell new = ap (λ b. cond b [] (l ∷ since_shell new)) e in
          let untold : number_of is_tally (since_shell (l ∷ new)) ≡ 0 = ap (number_of is_tally) begun
          ∙ (number_same is_tally l (since_shell new) g ∙ no_tallies) in
          subst (IsLegalAfter Two s new) (sym (kept_there s n l lines e f)) (
            l,
            is,
            (same.ended ∙ fits.0, fits_too s (progress_from_latest One s before) (progress_from_latest Two s new) l e f g same fits.1),
            later (l ∷ new) n next
                counted untold more,
          )

      by_tests : (l : CertLine) (a b c : Bool) → is_shell l ≡ a → is_last l ≡ b → is_tally l ≡ c → Follows l
      by_tests l true b c e f g = let begun = shell_line l e in subst Follows (sym begun.2) (at_shell begun.0 begun.1)
      by_tests l false true c e f g = subst Follows (sym (end_line l f)) at_end
      by_tests l false false true e f g = let counts = tally_line l g in subst Follows (sym counts.1) (at_tally counts.0)
      by_tests l false false false e f g = at_row l e f g

      by_line : (l : CertLine) → Follows l
      by_line l = by_tests l (is_shell l) (is_last l) (is_tally l) refl refl refl

  -- Legal lines of version 1, with TALLY lines, are legal in version 2.
  pub upgrade_legal : (lines : List (List ℕ)) → IsLegal One s lines → IsLegal Two s (with_tallies s 0 lines)
  upgrade_legal lines legal =
      legal_forward Two s (with_tallies s 0 lines)
      (upgrade_behind [] [] 0 lines (record { ended = refl; shells = refl; asks = refl; since = refl }) refl refl (legal_behind One s lines legal))
