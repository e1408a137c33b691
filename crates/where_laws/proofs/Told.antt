-- Of each solid something is told.
use Rattle.std.specs.Prelude.{◌≡◌, ◌⊎◌, ℕ, zero, suc, ◌+◌, Bool, true, false, List, [], ◌∷◌, ◌++◌, All, length, map, flat_map, Option, Some, None, slice_get}
use Rattle.std.proofs.Common.{refl, sym, ◌∙◌, ap, subst, arith, inl, inr}
use Rattle.std.proofs.lemmas.Option.{same_Some, none-some}
use Rattle.iges_base.specs.declared.entry_no.EntryNo.{EntryNo}
use Rattle.iges_params.specs.Contents.{Contents}
use Rattle.iges_params.specs.Limits.{FitsLimits}
use Rattle.brep_walk.specs.Places.{places}
use Rattle.brep_walk.specs.SolidOf.{solid_of}
use Rattle.brep_walk.proofs.Decided.{places_decided}
use Rattle.brep_walk.proofs.Few.{has_few_parts}
use Rattle.brep_walk.proofs.Found.{solid_is_numbered}
use Rattle.solid_data.specs.Numbering.{IsNumberedSolid}
use Rattle.solid_data.specs.Obligations.{AllHold, FirstFalse}
use Rattle.solid_data.specs.SolidData.{SolidData}
use Rattle.solid_data.specs.declared.solid.Shell.{Shell}
use Rattle.solid_data.specs.declared.verdict.Failing.{Failing}
use Rattle.solid_data.specs.declared.verdict.Verdict.{Verdict}
use Rattle.solid_data.proofs.Decisions.{Decided, decided_below, decided_bool, decided_three}
use Rattle.solid_data.proofs.ObligationLemmas.{FirstFalse-not_all}
use Rattle.shell_rules.specs.Closed.{IsClosedSolid}
use Rattle.shell_rules.specs.ShellObligations.{solid_obligations}
use Rattle.shell_rules.proofs.ClosedLemmas.{closed_is_all_hold}
use Rattle.shell_rules.proofs.Decided.{solid_decided}
use Rattle.solid_data.proofs.ObligationsDecided.{all_or_first_false, some_verdict}
use Rattle.solid_verdict.specs.Closed.{IsVerdictOn, obligations}
use Rattle.solid_verdict.proofs.Closed.{obligations_decided}
use Rattle.solid_faults.specs.FaceFlags.{flagged_solid}
use Rattle.solid_faults.specs.Faults.{AreFaults, Faults}
use Rattle.fault_laws.proofs.Found.{some_faults}
use Rattle.record_paths.specs.Paths.{all_owed, sited}
use Rattle.record_paths.proofs.Bearing.{first_bears}
use Rattle.record_paths.proofs.Same.{same_sited}
use Rattle.where_text.specs.declared.listing.Listing.{Listing}
use Rattle.where_text.specs.Listing.{shown}
use Rattle.solid_hints.specs.AllFaults.{AreAllFaults, failing_shells}
use Rattle.solid_hints.specs.Flags.{flags_hint, pair_fails, unset_flags}
use Rattle.where_solids.specs.Lines.{verdict_line}
use Rattle.where_overview.specs.Overview.{AreVerdicts, has_room, is_judged, judged_from, size_of, total_after}
use Rattle.solid_hints.specs.ShellHints.{AreRemediesOf, IsHint, IsRemedy, ShellRemedies, TellsFlags, named_at, remedies_at}
use Rattle.where_places.specs.declared.placed_file.PlacedFile.{PlacedFile}
use Rattle.where_solids.specs.ShellTexts.{shell_lines, shell_texts}
use Rattle.where_solids.specs.Told.{IsToldOf, record_rest}
use Rattle.where_laws.proofs.Names.{same_bears, some_path}

-- ---- all that fails

built : (s : SolidData) (i : ℕ) (hs : List Shell) → IsNumberedSolid s → ((j : ℕ) (h : Shell) → slice_get hs j ≡ Some h → slice_get s.shells (i + j) ≡ Some h)
    → (xs : List Faults) × (length xs ≡ length hs)
    × ((j : ℕ) (h : Shell) (x : Faults) → slice_get hs j ≡ Some h → slice_get xs j ≡ Some x → AreFaults s (i + j) h x)
built s i [] numbered are = ([], refl, λ j h x at there. absurd cc)
built s i (g ∷ hs) numbered are =
    let z : i + 0 ≡ i = omega arith in
    let first = some_faults s i g numbered (subst (λ n. slice_get s.shells n ≡ Some g) z (are 0 g refl)) in
    let rest = built s (i + 1) hs numbered (λ j h at. let n : i + suc j ≡ i + 1 + j = omega arith in
    subst (λ m. slice_get s.shells m ≡ Some h) n (are (suc j) h at)) in
    (first.0 ∷ rest.0, ap suc rest.1, λ j h x at there. by_place first.0 rest.0 first.1 rest.2 j h x at there)
  where
    by_place : (y : Faults) (ys : List Faults) → AreFaults s i g y
        → ((j : ℕ) (h : Shell) (x : Faults) → slice_get hs j ≡ Some h → slice_get ys j ≡ Some x → AreFaults s (i + 1 + j) h x)
        → (j : ℕ) (h : Shell) (x : Faults) → slice_get (g ∷ hs) j ≡ Some h → slice_get (y ∷ ys) j ≡ Some x → AreFaults s (i + j) h x
    by_place y ys first more zero h x at there =
        let z : i ≡ i + 0 = omega arith in
        subst (λ n. AreFaults s n h x) z (subst (λ t. AreFaults s i h t) (same_Some y x there) (subst (λ t. AreFaults s i t y) (same_Some g h at) first))
    by_place y ys first more (suc j) h x at there =
        let z : i + 1 + j ≡ i + suc j = omega arith in subst (λ n. AreFaults s n h x) z (more j h x at there)

some_all : (s : SolidData) → IsNumberedSolid s → (xs : List Faults) × AreAllFaults s xs
some_all s numbered =
    let all = built s 0 s.shells numbered (λ j h at. let z : j ≡ 0 + j = omega arith in subst (λ n. slice_get s.shells n ≡ Some h) z at) in (
      all.0,
      record {
        each = all.1;
        shell = λ k h x at there. let z : 0 + k ≡ k = omega arith in subst (λ n. AreFaults s n h x) z (all.2 k h x at there);
      },
    )

-- ---- the hints

closed_decided : (s : SolidData) → Decided (IsClosedSolid s)
closed_decided s = by_first (all_or_first_false (solid_obligations s) (solid_decided s))
  where
    by_first : AllHold (solid_obligations s) ⊎ ((x : Failing) × FirstFalse (solid_obligations s) x) → Decided (IsClosedSolid s)
    by_first (inl all) = let both = closed_is_all_hold s in inl (both.1 all)
    by_first (inr (x, first)) = inr (λ closed. let both = closed_is_all_hold s in FirstFalse-not_all (solid_obligations s) x first (both.0 closed))

-- of each shell no remedies
no_remedies : (f : Contents) (s : SolidData) (ks : List ℕ) → (told : List ShellRemedies) × AreRemediesOf f s ks told
no_remedies f s [] = ([], record { shells = refl; each = λ i t at. absurd (none-some t at) })
no_remedies f s (k ∷ ks) =
    let rest = no_remedies f s ks in
    ((k, []) ∷ rest.0, record { shells = ap (λ ns. k ∷ ns) rest.1.shells; each = λ i t at. by_place rest.0 rest.1.each i t at })
  where
    by_place : (told : List ShellRemedies) → ((i : ℕ) (t : ShellRemedies) → slice_get told i ≡ Some t → All (IsRemedy f s t.0) t.1) → (i : ℕ) (t : ShellRemedies)
        → slice_get ((k, []) ∷ told) i ≡ Some t → All (IsRemedy f s t.0) t.1
    by_place told each zero t at = subst (λ (x : ShellRemedies). All (IsRemedy f s x.0) x.1) (same_Some (k, []) t at) (λ i d lt. absurd (omega (arith, lt)))
    by_place told each (suc i) t at = each i t at

some_hint : (listing : Listing) (f : Contents) (s : SolidData) (faults : List Faults) (ks : List ℕ)
    → (told : List ShellRemedies) × (hint : List ℕ) × (faces : List EntryNo) × IsHint listing f s faults ks told hint faces
some_hint listing f s faults ks =
    by_flags (decided_three (decided_bool (pair_fails faults ks) true) (decided_below 0 (unset_flags s)) (closed_decided (flagged_solid s)))
  where
    by_flags : Decided (TellsFlags s (pair_fails faults ks))
        → (told : List ShellRemedies) × (hint : List ℕ) × (faces : List EntryNo) × IsHint listing f s faults ks told hint faces
    by_flags (inl tells) = ([], flags_hint (unset_flags s), [], inl (tells, refl, refl, refl))
    by_flags (inr never) =
        let xs = no_remedies f s ks in
        (xs.0, flat_map (remedies_at listing f s) xs.0, flat_map (named_at listing s) xs.0, inr (never, xs.1, refl, refl))

-- ---- a solid

module _ (listing : Listing) (p : PlacedFile) (n : EntryNo) where
  pub some_told : FitsLimits p.file → (remedies : List ShellRemedies) × (v : Verdict) × (t : List ℕ) × IsToldOf listing p n remedies v t
  some_told limits = by_places (all_or_first_false (places p.file n.0) (places_decided p.file n.0)) (some_verdict (obligations p.file n.0) (obligations_decided p.file n.0))
    where
      by_places : AllHold (places p.file n.0) ⊎ ((x : Failing) × FirstFalse (places p.file n.0) x) → (v : Verdict) × IsVerdictOn p.file n.0 v
          → (remedies : List ShellRemedies) × (v : Verdict) × (t : List ℕ) × IsToldOf listing p n remedies v t
      by_places (inl placed) (v, judged) =
          let s : SolidData = solid_of p.file n.0 in
          let numbered : IsNumberedSolid s = solid_is_numbered p.file n.0 placed (has_few_parts p.file n.0 limits placed) in
          let all = some_all s numbered in
          let hint = some_hint listing p.file s all.0 (shown listing (failing_shells all.0)) in
          let rest : List ℕ = shell_lines listing p.file s all.0 ++ hint.1 ++ shell_texts listing p s all.0 hint.2 in (
            hint.0,
            v,
            verdict_line n.0 v ++ rest,
            record {
              judged = judged;
              rest = rest;
              told = inr (record { placed = placed; faults = all.0; all = all.1; hint = hint.1; faces = hint.2; is_hint = hint.3; rest_is = refl });
              text_is = refl;
            },
          )
      by_places (inr (x, first)) (v, judged) =
          let path = some_path x (sited p.file n.0) (same_bears (all_owed (sited p.file n.0)) (places p.file n.0) x (same_sited p.file n.0) (first_bears (places p.file n.0) x first)) in
          let rest : List ℕ = record_rest p n x path.0 in (
            [],
            v,
            verdict_line n.0 v ++ rest,
            record {
              judged = judged;
              rest = rest;
              told = inl (record { failing = x; first = first; path = path.0; leads = path.1; none = refl; rest_is = refl });
              text_is = refl;
            },
          )

-- ---- all solids

some_from : (f : Contents) (limit total : ℕ) (ns : List EntryNo) → (vs : List (Option Verdict))
    × (map is_judged vs ≡ judged_from limit total (map (size_of f) ns))
    × ((i : ℕ) (n : EntryNo) (v : Verdict) → slice_get ns i ≡ Some n → slice_get vs i ≡ Some (Some v) → IsVerdictOn f n.0 v)
some_from f limit total [] = ([], refl, λ i n v at there. absurd (none-some n at))
some_from f limit total (m ∷ ns) =
    let rest = some_from f limit (total_after limit total (size_of f m)) ns in
    let first = next (has_room limit total (size_of f m)) (some_verdict (obligations f m.0) (obligations_decided f m.0)) in (
      first.0 ∷ rest.0,
      ap (λ b. b ∷ map is_judged rest.0) first.1 ∙ ap (λ bs. has_room limit total (size_of f m) ∷ bs) rest.1,
      λ i n v at there. by_place first.0 rest.0 first.2 rest.2 i n v at there,
    )
  where
    next : (room : Bool) → (v : Verdict) × IsVerdictOn f m.0 v → (o : Option Verdict) × (is_judged o ≡ room) × ((v : Verdict) → o ≡ Some v → IsVerdictOn f m.0 v)
    next false judged = (None, refl, λ v is. absurd (none-some v is))
    next true judged = (Some judged.0, refl, λ v is. subst (IsVerdictOn f m.0) (same_Some judged.0 v is) judged.1)

    by_place : (w : Option Verdict) (vs : List (Option Verdict)) → ((v : Verdict) → w ≡ Some v → IsVerdictOn f m.0 v)
        → ((i : ℕ) (n : EntryNo) (v : Verdict) → slice_get ns i ≡ Some n → slice_get vs i ≡ Some (Some v) → IsVerdictOn f n.0 v)
        → (i : ℕ) (n : EntryNo) (v : Verdict) → slice_get (m ∷ ns) i ≡ Some n → slice_get (w ∷ vs) i ≡ Some (Some v) → IsVerdictOn f n.0 v
    by_place w vs first more zero n v at there =
        subst (λ (x : EntryNo). IsVerdictOn f x.0 v) (same_Some m n at) (first v (same_Some w (Some v) there))
    by_place w vs first more (suc i) n v at there = more i n v at there

pub some_verdicts : (f : Contents) (limit : ℕ) (ns : List EntryNo) → (vs : List (Option Verdict)) × AreVerdicts f limit ns vs
some_verdicts f limit ns = let found = some_from f limit 0 ns in (found.0, record { judged = found.1; verdict = found.2 })
