-- What is told of a solid, put together.
use Rattle.std.specs.Prelude.{◌≡◌, ℕ, ◌-◌, List, [], ◌∷◌, ◌++◌, Option, length, flat_map}
use Rattle.std.proofs.Common.{refl, sym, ap, ◌∙◌, subst, inl, inr, append_assoc}
use Rattle.iges_base.specs.declared.entry_no.EntryNo.{EntryNo}
use Rattle.iges_params.specs.Contents.{Contents}
use Rattle.brep_walk.specs.Places.{places}
use Rattle.brep_walk.specs.SolidOf.{solid_of}
use Rattle.solid_data.specs.Obligations.{AllHold, FirstFalse, IsVerdict}
use Rattle.solid_data.specs.SolidData.{SolidData}
use Rattle.solid_data.specs.declared.verdict.Failing.{Failing}
use Rattle.solid_data.specs.declared.verdict.Verdict.{Verdict}
use Rattle.solid_data.specs.declared.verdict.Verdict.TheVariants.{Fails}
use Rattle.solid_data.proofs.ObligationLemmas.{FirstFalse-append_front}
use Rattle.shell_rules.specs.ShellObligations.{solid_obligations}
use Rattle.solid_verdict.specs.Closed.{IsVerdictOn, obligations}
use Rattle.solid_faults.specs.Faults.{Faults}
use Rattle.record_paths.specs.declared.path.Path.{Path}
use Rattle.record_paths.specs.Paths.{IsPathTo, sited}
use Rattle.where_places.specs.declared.placed_file.PlacedFile.{PlacedFile}
use Rattle.where_text.specs.declared.listing.Listing.{Listing}
use Rattle.where_text.specs.Listing.{left_line, shown, shown_count}
use Rattle.where_text.proofs.Steps.{shown_length}
use Rattle.solid_hints.specs.AllFaults.{AreAllFaults, failing_shells}
use Rattle.where_entities.specs.Entities.{entities_text}
use Rattle.where_solids.specs.Lines.{line_at, shells_line, units_line, verdict_line}
use Rattle.solid_hints.specs.ShellHints.{IsHint, ShellRemedies}
use Rattle.where_solids.specs.ShellTexts.{named_at, paragraphs_at, shell_lines, shell_texts}
use Rattle.where_solids.specs.Told.{IsToldOf, record_rest}
use Rattle.where_solids.proofs.VerdictSteps.{verdict_rest}

-- the verdict where a rule on records fails
pub fails_on : (f : Contents) (n : ℕ) (x : Failing) → FirstFalse (places f n) x → IsVerdictOn f n (Fails x)
unfolding obligations
fails_on f n x first = FirstFalse-append_front (places f n) (solid_obligations (solid_of f n)) x first

-- and where none does
pub judged_on : (f : Contents) (n : ℕ) (s : SolidData) (v : Verdict) → s ≡ solid_of f n → AllHold (places f n) → IsVerdict (solid_obligations s) v
    → IsVerdictOn f n v
unfolding obligations
judged_on f n s v is placed judged = verdict_rest (places f n) (solid_obligations (solid_of f n)) v placed
    (subst (λ s. IsVerdict (solid_obligations s) v) is judged)

whole : (start line text head rest : List ℕ) → start ≡ [] → line ≡ start ++ head → text ≡ line ++ rest → text ≡ head ++ rest
whole start line text head rest none first last = last ∙ (ap (λ xs. xs ++ rest) first ∙ ap (λ xs. xs ++ head ++ rest) none)

pub told_records : (listing : Listing) (p : PlacedFile) (n : EntryNo) (x : Failing) (path : Option Path) (start line text : List ℕ) → FirstFalse (places p.file n.0) x
    → IsPathTo x (sited p.file n.0) path
    → start ≡ [] → line ≡ start ++ verdict_line n.0 (Fails x) → text ≡ line ++ record_rest p n x path
    → (remedies : List ShellRemedies) × IsToldOf listing p n remedies (Fails x) text
told_records listing p n x path start line text first leads none head last = (
  [],
  record {
    judged = fails_on p.file n.0 x first;
    rest = record_rest p n x path;
    told = inl (record { failing = x; first = first; path = path; leads = leads; none = refl; rest_is = refl });
    text_is = whole start line text (verdict_line n.0 (Fails x)) (record_rest p n x path) none head last;
  },
)

-- the hint, and what is told of the shells after it
pub record IsShellsRest (listing : Listing) (p : PlacedFile) (s : SolidData) (xs : List Faults) (rest : List ℕ) : Type 0 where
  pub remedies : List ShellRemedies
  pub hint : List ℕ
  pub faces : List EntryNo
  pub is_hint : IsHint listing p.file s xs (shown listing (failing_shells xs)) remedies hint faces
  pub rest_is : rest ≡ shell_lines listing p.file s xs ++ hint ++ shell_texts listing p s xs faces

pub told_shells : (listing : Listing) (p : PlacedFile) (n : EntryNo) (s : SolidData) (v : Verdict) (xs : List Faults) (start line text rest : List ℕ)
    → s ≡ solid_of p.file n.0 → AllHold (places p.file n.0)
    → AreAllFaults s xs → IsVerdict (solid_obligations s) v → IsShellsRest listing p s xs rest → start ≡ [] → line ≡ start ++ verdict_line n.0 v
    → text ≡ line ++ rest → (remedies : List ShellRemedies) × IsToldOf listing p n remedies v text
told_shells listing p n s v xs start line text rest is placed all judged told none head last =
    let here : IsShellsRest listing p (solid_of p.file n.0) xs rest = subst (λ s. IsShellsRest listing p s xs rest) is told in (
      here.remedies,
      record {
        judged = judged_on p.file n.0 s v is placed judged;
        rest = rest;
        told = inr (record {
          placed = placed;
          faults = xs;
          all = subst (λ s. AreAllFaults s xs) is all;
          hint = here.hint;
          faces = here.faces;
          is_hint = here.is_hint;
          rest_is = here.rest_is;
        });
        text_is = whole start line text (verdict_line n.0 v) rest none head last;
      },
    )

pub lines_are : (listing : Listing) (f : Contents) (s : SolidData) (xs : List Faults) (lines ks : List ℕ) (m j : ℕ) → ks ≡ failing_shells xs
    → lines ≡ flat_map (line_at s xs) (shown listing ks)
    → m ≡ length ks → j ≡ length (shown listing ks)
    → units_line f ++ shells_line (length s.shells) m ++ lines ++ left_line [] (m - j) ≡ shell_lines listing f s xs
unfolding shell_lines
lines_are listing f s xs lines ks m j is text count few =
    ap (λ ys. units_line f ++ shells_line (length s.shells) m ++ ys ++ left_line [] (m - j)) text
    ∙ (ap (λ i. units_line f ++ shells_line (length s.shells) m ++ flat_map (line_at s xs) (shown listing ks) ++ left_line [] (m - i))
    (few ∙ shown_length listing ks)
    ∙ (ap (λ i. units_line f ++ shells_line (length s.shells) i ++ flat_map (line_at s xs) (shown listing ks)
    ++ left_line [] (i - shown_count listing (length ks))) count
    ∙ ap (λ zs. units_line f ++ shells_line (length s.shells) (length zs) ++ flat_map (line_at s xs) (shown listing zs)
    ++ left_line [] (length zs - shown_count listing (length zs))) is))

-- a text that grew by lines, by a hint and by paragraphs
pub three_more : (old one two new a b c : List ℕ) → one ≡ old ++ a → two ≡ one ++ b → new ≡ two ++ c → new ≡ old ++ (a ++ b ++ c)
three_more old one two new a b c e f g = g ∙ (ap (λ xs. xs ++ c) (f ∙ (ap (λ xs. xs ++ b) e ∙ append_assoc old a b)) ∙ append_assoc old (a ++ b) c)

-- the lines between the verdict and the hints
pub lines_written : (listing : Listing) (f : Contents) (s : SolidData) (xs : List Faults) (ks seen : List ℕ) (count m j : ℕ) (o0 o1 o2 o3 o4 : List ℕ)
    → ks ≡ failing_shells xs → seen ≡ shown listing ks → count ≡ length s.shells → m ≡ length ks → j ≡ length seen → o1 ≡ o0 ++ units_line f
    → o2 ≡ o1 ++ shells_line count m → o3 ≡ o2 ++ flat_map (line_at s xs) seen → o4 ≡ o3 ++ left_line [] (m - j) → o4 ≡ o0 ++ shell_lines listing f s xs
lines_written listing f s xs ks seen count m j o0 o1 o2 o3 o4 is first shells many few units head lines last =
    last
    ∙ (ap (λ o. o ++ left_line [] (m - j)) (three_more o0 o1 o2 o3 (units_line f) (shells_line count m) (flat_map (line_at s xs) seen) units head lines)
    ∙ (append_assoc o0 (units_line f ++ shells_line count m ++ flat_map (line_at s xs) seen) (left_line [] (m - j))
    ∙ ap (λ t. o0 ++ t)
    (ap (λ n. units_line f ++ shells_line n m ++ flat_map (line_at s xs) seen ++ left_line [] (m - j)) shells
    ∙ lines_are listing f s xs (flat_map (line_at s xs) seen) ks m j is (ap (flat_map (line_at s xs)) first) many (few ∙ ap (λ zs. length zs) first))))

-- what follows the verdict, once the lines, the hint, the paragraphs and those of the entities are written
pub rest_written : (listing : Listing) (f : Contents) (p : PlacedFile) (s : SolidData) (xs : List Faults) (ks seen : List ℕ) (n0 n1 n2 : List EntryNo)
    (o0 o1 o2 o3 o4 : List ℕ)
    → f ≡ p.file → ks ≡ failing_shells xs → seen ≡ shown listing ks → n0 ≡ s.entity ∷ [] → o1 ≡ o0 ++ shell_lines listing f s xs
    → (remedies : List ShellRemedies) × (hint : List ℕ) × (faces : List EntryNo) × IsHint listing f s xs seen remedies hint faces × (o2 ≡ o1 ++ hint)
    × (n1 ≡ n0 ++ faces)
    → o3 ≡ o2 ++ flat_map (paragraphs_at listing f s xs) seen → n2 ≡ n1 ++ flat_map (named_at listing s xs) seen → o4 ≡ o3 ++ entities_text p n2
    → (remedies : List ShellRemedies) × (hint : List ℕ) × (faces : List EntryNo)
    × IsHint listing f s xs (shown listing (failing_shells xs)) remedies hint faces × (o4 ≡ o0 ++ (shell_lines listing f s xs ++ hint ++ shell_texts listing p s xs faces))
unfolding shell_texts
rest_written listing f p s xs ks seen n0 n1 n2 o0 o1 o2 o3 o4 file is first none head hint more names last =
    let among : seen ≡ shown listing (failing_shells xs) = first ∙ ap (shown listing) is in
    let named : n2 ≡ s.entity ∷ hint.2 ++ flat_map (named_at listing s xs) (shown listing (failing_shells xs)) =
    names ∙ (ap (λ zs. n1 ++ flat_map (named_at listing s xs) zs) among
    ∙ ap (λ ns. ns ++ flat_map (named_at listing s xs) (shown listing (failing_shells xs))) (hint.5 ∙ ap (λ ns. ns ++ hint.2) none)) in
    let tail : flat_map (paragraphs_at listing f s xs) seen ++ entities_text p n2 ≡ shell_texts listing p s xs hint.2 =
    ap (λ zs. flat_map (paragraphs_at listing f s xs) zs ++ entities_text p n2) among
    ∙ (ap (λ g. flat_map (paragraphs_at listing g s xs) (shown listing (failing_shells xs)) ++ entities_text p n2) file
    ∙ ap (λ ns. flat_map (paragraphs_at listing p.file s xs) (shown listing (failing_shells xs)) ++ entities_text p ns) named) in (
      hint.0,
      hint.1,
      hint.2,
      subst (λ zs. IsHint listing f s xs zs hint.0 hint.1 hint.2) among hint.3,
      three_more o0 o1 o2 o4 (shell_lines listing f s xs) hint.1 (shell_texts listing p s xs hint.2) head hint.4
          (last ∙ (ap (λ o. o ++ entities_text p n2) more
          ∙ (append_assoc o2 (flat_map (paragraphs_at listing f s xs) seen) (entities_text p n2) ∙ ap (λ t. o2 ++ t) tail))),
    )
