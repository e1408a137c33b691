-- One answer and one text are owed.
use Rattle.std.specs.Prelude.{◌≡◌, ◌⊎◌, ℕ, List, [], ◌∷◌, ◌++◌, Option, Some, None, MatchOption, length, map, option_map, slice_get}
use Rattle.std.proofs.Common.{inl, inr, refl, sym, ap, ◌∙◌, subst, arith}
use Rattle.std.proofs.lemmas.Option.{same_Some, slice_get-map, slice_get_within}
use Rattle.iges_base.specs.declared.entry_no.EntryNo.{EntryNo}
use Rattle.iges_params.specs.Contents.{Contents}
use Rattle.iges_params.proofs.Answers.{err_is}
use Rattle.iges_params.proofs.FileExact.{Refusal-read_file}
use Rattle.brep_walk.specs.Places.{places}
use Rattle.brep_walk.specs.SolidOf.{solid_of}
use Rattle.solid_data.specs.Obligations.{Obligation, IsVerdict}
use Rattle.solid_data.specs.SolidData.{SolidData}
use Rattle.solid_data.specs.declared.verdict.Failing.{Failing}
use Rattle.solid_data.specs.declared.verdict.Verdict.{Verdict}
use Rattle.solid_data.specs.declared.verdict.Verdict.TheVariants.{Closed, Fails}
use Rattle.solid_data.proofs.Members.{get_some}
use Rattle.solid_data.proofs.ObligationLemmas.{FirstFalse-not_all, FirstFalse-one}
use Rattle.solid_verdict.specs.Closed.{obligations}
use Rattle.record_paths.specs.declared.path.Path.{Path}
use Rattle.record_paths.specs.Paths.{IsPathTo, Sited, sited}
use Rattle.command_replies.specs.declared.answer.Answer.{Answer}
use Rattle.command_replies.specs.declared.answer.Answer.TheVariants as answer
use Rattle.command_replies.specs.Due.{Exactly}
use Rattle.command_replies.specs.Outcome.{IsNoFile}
use Rattle.command_replies.proofs.One.{IsOne, no_file}
use Rattle.where_places.specs.declared.placed_file.PlacedFile.{PlacedFile}
use Rattle.where_places.proofs.OnePlacedFile.{one_placed}
use Rattle.where_text.specs.declared.listing.Listing.{Listing}
use Rattle.where_text.specs.Listing.{shown}
use Rattle.solid_hints.specs.AllFaults.{failing_shells}
use Rattle.solid_hints.specs.ShellHints.{IsHint, ShellRemedies}
use Rattle.solid_faults.specs.Faults.{Faults}
use Rattle.where_solids.specs.Lines.{verdict_line}
use Rattle.where_unjudged.specs.Listed.{solids_of}
use Rattle.where_overview.specs.Overview.{AreVerdicts, all_close, is_judged, overview_text}
use Rattle.where_overview.proofs.AllSolids.{verdicts_each}
use Rattle.where_solids.specs.ShellTexts.{shell_lines, shell_texts}
use Rattle.where_solids.specs.Told.{IsOfRecords, IsOfShells, IsToldOf, record_rest}
use Rattle.where_command.specs.declared.asked.Asked.{Asked}
use Rattle.where_command.specs.declared.asked.Asked.TheVariants as asked
use Rattle.where_command.specs.Asked.{asked_of, usage_line}
use Rattle.where_command.specs.Due.{DueOf, OfContents, OfNoFile, answer_to, answer_where, bad_file, bad_file_text, file_too_large}
use Rattle.where_command.specs.Laws.{OneAnswerIsOwed}
use Rattle.where_command.proofs.OneFaults.{one_of_all, same_list}

one_verdict : (os : List Obligation) (v w : Verdict) → IsVerdict os v → IsVerdict os w → v ≡ w
one_verdict os Closed Closed a b = refl
one_verdict os Closed (Fails y) a b = absurd (FirstFalse-not_all os y b a)
one_verdict os (Fails x) Closed a b = absurd (FirstFalse-not_all os x a b)
one_verdict os (Fails x) (Fails y) a b = ap Fails (FirstFalse-one os x y a b)

one_path : (name : Failing) (ss : List Sited) (p q : Option Path) → IsPathTo name ss p → IsPathTo name ss q → p ≡ q
one_path name [] p q a b = absurd a
one_path name (s ∷ ss) p q a b = by_front (one_path name ss p q) a.1 b.1
  where
    by_front : (IsPathTo name ss p → IsPathTo name ss q → p ≡ q) → (name ≡ s.owed.failing) ⊎ IsPathTo name ss p → (name ≡ s.owed.failing) ⊎ IsPathTo name ss q
        → p ≡ q
    by_front later (inl e) k = a.0 e ∙ sym (b.0 e)
    by_front later (inr h) (inl e) = a.0 e ∙ sym (b.0 e)
    by_front later (inr h) (inr k) = later h k

-- the hints, with these remedies
one_hint : (listing : Listing) (f : Contents) (s : SolidData) (faults : List Faults) (ks : List ℕ) (remedies : List ShellRemedies) (h k : List ℕ) (a b : List EntryNo)
    → IsHint listing f s faults ks remedies h a → IsHint listing f s faults ks remedies k b → (h ≡ k) × (a ≡ b)
one_hint listing f s faults ks remedies h k a b (inl p) (inl q) = (p.2 ∙ sym q.2, p.3 ∙ sym q.3)
one_hint listing f s faults ks remedies h k a b (inl p) (inr q) = absurd (q.0 p.0)
one_hint listing f s faults ks remedies h k a b (inr p) (inl q) = absurd (p.0 q.0)
one_hint listing f s faults ks remedies h k a b (inr p) (inr q) = (p.2 ∙ sym q.2, p.3 ∙ sym q.3)

module _ (listing : Listing) (p : PlacedFile) (n : EntryNo) where
  one_records : (some others : List ShellRemedies) (r t : List ℕ) → IsOfRecords p n some r → IsOfRecords p n others t → r ≡ t
  one_records some others r t a b =
      let x : a.failing ≡ b.failing = FirstFalse-one (places p.file n.0) a.failing b.failing a.first b.first in
      let path : a.path ≡ b.path = one_path b.failing (sited p.file n.0) a.path b.path (subst (λ y. IsPathTo y (sited p.file n.0) a.path) x a.leads) b.leads in
      a.rest_is ∙ (ap (λ y. record_rest p n y a.path) x ∙ (ap (record_rest p n b.failing) path ∙ sym b.rest_is))

  one_shells : (remedies : List ShellRemedies) (r t : List ℕ) → IsOfShells listing p n remedies r → IsOfShells listing p n remedies t → r ≡ t
  one_shells remedies r t a b =
      let s : SolidData = solid_of p.file n.0 in
      let xs : a.faults ≡ b.faults = one_of_all s a.faults b.faults a.all b.all in
      let ks : List ℕ = shown listing (failing_shells b.faults) in
      let hint = one_hint listing p.file s b.faults ks remedies a.hint b.hint a.faces b.faces
      (subst (λ ys. IsHint listing p.file s ys (shown listing (failing_shells ys)) remedies a.hint a.faces) xs a.is_hint) b.is_hint in
      a.rest_is ∙ (ap (λ ys. shell_lines listing p.file s ys ++ a.hint ++ shell_texts listing p s ys a.faces) xs
      ∙ (ap (λ h. shell_lines listing p.file s b.faults ++ h ++ shell_texts listing p s b.faults a.faces) hint.0
      ∙ (ap (λ ns. shell_lines listing p.file s b.faults ++ b.hint ++ shell_texts listing p s b.faults ns) hint.1 ∙ sym b.rest_is)))

  one_rest : (some others : List ShellRemedies) (r t : List ℕ) → some ≡ others → IsOfRecords p n some r ⊎ IsOfShells listing p n some r
      → IsOfRecords p n others t ⊎ IsOfShells listing p n others t → r ≡ t
  one_rest some others r t same (inl a) (inl b) = one_records some others r t a b
  one_rest some others r t same (inl a) (inr b) = absurd (FirstFalse-not_all (places p.file n.0) a.failing a.first b.placed)
  one_rest some others r t same (inr a) (inl b) = absurd (FirstFalse-not_all (places p.file n.0) b.failing b.first a.placed)
  one_rest some others r t same (inr a) (inr b) = one_shells others r t (subst (λ rs. IsOfShells listing p n rs r) same a) b

  one_told : (some others : List ShellRemedies) (v w : Verdict) (t u : List ℕ) → IsToldOf listing p n some v t → IsToldOf listing p n others w u
      → (v ≡ w) × (some ≡ others → t ≡ u)
  one_told some others v w t u a b =
      let same : v ≡ w = one_verdict (obligations p.file n.0) v w a.judged b.judged in (
        same,
        λ alike. a.text_is ∙ (ap (λ x. verdict_line n.0 x ++ a.rest) same
            ∙ (ap (λ r. verdict_line n.0 w ++ r) (one_rest some others a.rest b.rest alike a.told b.told) ∙ sym b.text_is)),
      )

one_of_two : (os : List Obligation) (v w : Option Verdict) → is_judged v ≡ is_judged w → ((x : Verdict) → v ≡ Some x → IsVerdict os x)
    → ((x : Verdict) → w ≡ Some x → IsVerdict os x) → v ≡ w
one_of_two os None None same a b = refl
one_of_two os None (Some w) same a b = absurd cc
one_of_two os (Some v) None same a b = absurd cc
one_of_two os (Some v) (Some w) same a b = ap Some (one_verdict os v w (a v refl) (b w refl))

judged_at : (vs : List (Option Verdict)) (i : ℕ) (v : Option Verdict) → slice_get vs i ≡ Some v → slice_get (map is_judged vs) i ≡ Some (is_judged v)
judged_at vs i v at = slice_get-map is_judged vs i ∙ ap (option_map is_judged) at

one_verdicts : (f : Contents) (limit : ℕ) (ns : List EntryNo) (vs ws : List (Option Verdict)) → AreVerdicts f limit ns vs → AreVerdicts f limit ns ws → vs ≡ ws
one_verdicts f limit ns vs ws a b =
    let each = verdicts_each f limit ns vs a in
    same_list vs ws (each ∙ sym (verdicts_each f limit ns ws b))
    (λ i v w at there.
    let n = get_some ns i (omega (arith, slice_get_within vs i v at, each)) in
    let same : is_judged v ≡ is_judged w = same_Some (is_judged v) (is_judged w)
    (sym (judged_at vs i v at) ∙ (ap (λ bs. slice_get bs i) (a.judged ∙ sym b.judged) ∙ judged_at ws i w there)) in
    one_of_two (obligations f n.0.0) v w same (λ x is. a.verdict i n.0 x n.1 (at ∙ ap Some is)) (λ x is. b.verdict i n.0 x n.1 (there ∙ ap Some is)))

-- one answer, and one text with the same remedies
abbrev AreOne : List ShellRemedies → List ShellRemedies → Answer → Answer → List ℕ → List ℕ → Type 0
AreOne some others a b t u = (a ≡ b) × (some ≡ others → t ≡ u)

contents_one : (q : Asked) (x : PlacedFile) (some others : List ShellRemedies) (a b : Answer) (t u : List ℕ) → OfContents q x some a t → OfContents q x others b u
    → AreOne some others a b t u
contents_one asked.Overview x some others a b t u (none, p) (nothing, q) =
    let same : p.0 ≡ q.0 = one_verdicts x.file (length x.bytes) (solids_of x.file) p.0 q.0 p.1.judged q.1.judged in
    (p.2 ∙ (ap (λ vs. answer_where (all_close vs)) same ∙ sym q.2), λ alike. p.1.text_is ∙ (ap (overview_text x) same ∙ sym q.1.text_is))
contents_one (asked.Solid n listing) x some others a b t u p q =
    let same = one_told listing x (record { 0 = n }) some others p.0 q.0 t u p.1 q.1 in
    (p.2 ∙ (ap answer_to same.0 ∙ sym q.2), same.1)

no_file_one : (bytes : List ℕ) → IsOne (OfNoFile bytes)
no_file_one bytes a b t u (file_too_large p) (file_too_large q) = (refl, refl)
no_file_one bytes a b t u (file_too_large p) (bad_file few fault q) = absurd (omega (arith, p, few))
no_file_one bytes a b t u (bad_file few fault p) (file_too_large q) = absurd (omega (arith, few, q))
no_file_one bytes a b t u (bad_file few fault p) (bad_file less other q) =
    (refl, ap (bad_file_text bytes) (err_is {X = Contents} fault other (sym (Refusal-read_file bytes fault p) ∙ Refusal-read_file bytes other q)))

owed_none : (bytes : List ℕ) (a : Answer) (t : List ℕ) → OfNoFile bytes a t → IsNoFile bytes
owed_none bytes a t (file_too_large p) = inl p
owed_none bytes a t (bad_file few fault p) = inr (few, fault, p)

due_of_one : (q : Asked) (bytes : List ℕ) (some others : List ShellRemedies) (a b : Answer) (t u : List ℕ) → DueOf q bytes some a t → DueOf q bytes others b u
    → AreOne some others a b t u
due_of_one c bytes some others a b t u (inl p) (inl q) = let same = no_file_one bytes a b t u p.1 q.1 in (same.0, λ alike. same.1)
due_of_one c bytes some others a b t u (inl p) (inr q) = absurd (no_file bytes q.1.file (owed_none bytes a t p.1) q.0 q.2.at.file)
due_of_one c bytes some others a b t u (inr p) (inl q) = absurd (no_file bytes p.1.file (owed_none bytes b u q.1) p.0 p.2.at.file)
due_of_one c bytes some others a b t u (inr p) (inr q) =
    let same : p.1 ≡ q.1 = one_placed bytes p.1 q.1 p.2 q.2 in
    contents_one c q.1 some others a b t u (subst (λ (x : PlacedFile). OfContents c x some a t) same p.3) q.3

pub due_one : OneAnswerIsOwed
due_one words bytes some others a b t u p q = by_asked (asked_of words) p q
  where
    by_asked : (o : Option Asked) → MatchOption o ((some ≡ []) × Exactly answer.Usage usage_line a t) (λ c. DueOf c bytes some a t)
        → MatchOption o ((others ≡ []) × Exactly answer.Usage usage_line b u) (λ c. DueOf c bytes others b u) → AreOne some others a b t u
    by_asked None p q = (p.1.0 ∙ sym q.1.0, λ alike. p.1.1 ∙ sym q.1.1)
    by_asked (Some c) p q = due_of_one c bytes some others a b t u p q
