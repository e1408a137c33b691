-- The verdicts on all solids of a file, and the text, put together.
use Rattle.std.specs.Prelude.{◌≡◌, ◌<◌, ◌≤◌, ◌⊎◌, ℕ, zero, suc, ◌+◌, Bool, true, false, ◌&&◌, ◌==◌, nat_lt, List, [], ◌∷◌, ◌++◌, length, map, flat_map, zip, count_by, Option, Some, None}
use Rattle.std.specs.Prelude.{IfSome, OnOk, Result, Ok, Err, codes, decimal, slice_get, drop}
use Rattle.std.proofs.Common.{refl, sym, ap, ◌∙◌, subst, append_assoc, arith, inl, inr}
use Rattle.std.proofs.lemmas.List.{append-nil, drop_all, length-map, map-append}
use Rattle.std.proofs.lemmas.Option.{none-some, same_Some}
use Rattle.iges_base.specs.declared.entry_no.EntryNo.{EntryNo}
use Rattle.iges_params.specs.Contents.{Contents}
use Rattle.solid_data.specs.declared.verdict.Verdict.{Verdict}
use Rattle.solid_data.proofs.Members.{split_at}
use Rattle.solid_verdict.specs.Closed.{IsVerdictOn}
use Rattle.where_places.specs.declared.placed_file.PlacedFile.{PlacedFile}
use Rattle.where_text.proofs.Steps.{piece_more}
use Rattle.where_text.specs.Spelled.{space_word}
use Rattle.where_unjudged.specs.Listed.{solids_of}
use Rattle.where_unjudged.specs.Unjudged.{unjudged_text}
use Rattle.where_solids.proofs.ToldSolids.{three_more}
use Rattle.where_overview.specs.Overview.{AreVerdicts, IsOverview, all_close, fails, has_room, is_judged, is_unjudged, judged_from, overview_end, overview_start}
use Rattle.where_overview.specs.Overview.{overview_text, size_of, solid_paragraph, total_after, unjudged_hint, unjudged_lines, unjudged_sentence}

-- ---- which are judged

-- a verdict of a list with one more is among those before, or it is the last
pub get_pushed : {A : Type 0} (xs : List A) (x y : A) (i : ℕ) → slice_get (xs ++ x ∷ []) i ≡ Some y → (slice_get xs i ≡ Some y) ⊎ ((i ≡ length xs) × (x ≡ y))
get_pushed [] x y zero h = inr (refl, same_Some x y h)
get_pushed [] x y (suc i) h = absurd (none-some y h)
get_pushed (z ∷ zs) x y zero h = inl h
get_pushed (z ∷ zs) x y (suc i) h = elim (get_pushed zs x y i h) [ inl old ↦ inl old | inr last ↦ inr (ap suc last.0, last.1) ]

-- one solid more
pub judged_more : (limit total next : ℕ) (sizes : List ℕ) (i size : ℕ) (v : Option Verdict) (old new : List (Option Verdict)) (all : List Bool)
    → slice_get sizes i ≡ Some size → is_judged v ≡ has_room limit total size → new ≡ old ++ v ∷ [] → next ≡ total_after limit total size
    → map is_judged old ++ judged_from limit total (drop i sizes) ≡ all → map is_judged new ++ judged_from limit next (drop (i + 1) sizes) ≡ all
judged_more limit total next sizes i size v old new all at room is goes h =
    piece_more (map is_judged old) (map is_judged new) (is_judged v ∷ []) (judged_from limit next (drop (i + 1) sizes)) all
    (ap (λ b. map is_judged old ++ b ∷ judged_from limit next (drop (i + 1) sizes)) room
    ∙ (ap (λ n. map is_judged old ++ has_room limit total size ∷ judged_from limit n (drop (i + 1) sizes)) goes
    ∙ (ap (λ ns. map is_judged old ++ judged_from limit total ns) (sym (split_at sizes i size at)) ∙ h)))
    (ap (map is_judged) is ∙ map-append is_judged old (v ∷ []))

-- a verdict that is there, of a solid by its number
pub some_verdict_on : (g f : Contents) (m n : EntryNo) (v : Verdict) (o : Option Verdict) → g ≡ f → m ≡ n → o ≡ Some v → IfSome o (IsVerdictOn g m.0)
    → IsVerdictOn f n.0 v
some_verdict_on g f m n v o file same is judged =
    let here : IsVerdictOn g m.0 v = subst (λ (o : Option Verdict). IfSome o (IsVerdictOn g m.0)) is judged in
    subst (λ (k : EntryNo). IsVerdictOn f k.0 v) same (subst (λ (h : Contents). IsVerdictOn h m.0 v) file here)

length_judged : (limit total : ℕ) (sizes : List ℕ) → length (judged_from limit total sizes) ≡ length sizes
length_judged limit total [] = refl
length_judged limit total (size ∷ sizes) = ap suc (length_judged limit (total_after limit total size) sizes)

pub are_all : (f : Contents) (limit total : ℕ) (ns : List EntryNo) (sizes : List ℕ) (i : ℕ) (vs : List (Option Verdict)) → sizes ≡ map (size_of f) ns
    → length ns ≤ i
    → map is_judged vs ++ judged_from limit total (drop i sizes) ≡ judged_from limit 0 sizes
    → ((j : ℕ) (n : EntryNo) (v : Verdict) → slice_get ns j ≡ Some n → slice_get vs j ≡ Some (Some v) → IsVerdictOn f n.0 v) → AreVerdicts f limit ns vs
are_all f limit total ns sizes i vs are past judged each = record {
  judged = sym (append-nil (map is_judged vs))
      ∙ (ap (λ ys. map is_judged vs ++ judged_from limit total ys) (sym (drop_all i sizes few)) ∙ (judged ∙ ap (judged_from limit 0) are));
  verdict = each;
}
  where
    few : length sizes ≤ i
    few = let many = ap (λ (xs : List ℕ). length xs) are ∙ length-map ns (size_of f) in omega (arith, many, past)

-- there are as many as solids
pub verdicts_each : (f : Contents) (limit : ℕ) (ns : List EntryNo) (vs : List (Option Verdict)) → AreVerdicts f limit ns vs → length vs ≡ length ns
verdicts_each f limit ns vs a =
    sym (length-map vs is_judged) ∙ (ap (λ (bs : List Bool). length bs) a.judged ∙ (length_judged limit 0 (map (size_of f) ns) ∙ length-map ns (size_of f)))

-- ---- the text

-- of solids that aren't judged
pub unjudged_written : {T E : Type 0} (r : Result T E) (n : ℕ) (o0 o1 o2 o3 o4 : List ℕ) → o1 ≡ o0 ++ codes "hint unjudged solids"
    → o2 ≡ o1 ++ space_word (decimal n) → o3 ≡ o2 ++ codes "\n" → OnOk r (o4 ≡ o3 ++ unjudged_sentence) → OnOk r (o4 ≡ o0 ++ unjudged_lines n)
unfolding unjudged_lines
unjudged_written (Ok x) n o0 o1 o2 o3 o4 head count line last =
    let here = three_more o0 o1 o2 o3 (codes "hint unjudged solids") (space_word (decimal n)) (codes "\n") head count line in
    last
    ∙ (ap (λ o. o ++ unjudged_sentence) here ∙ append_assoc o0 (codes "hint unjudged solids" ++ space_word (decimal n) ++ codes "\n") unjudged_sentence)
unjudged_written (Err e) n o0 o1 o2 o3 o4 head count line last = tt

abbrev rest_of : PlacedFile → ℕ → ℕ → List ℕ
rest_of p n u = unjudged_text p.file ++ overview_end n ++ unjudged_hint u

-- once the line of the counts, the solids and the rest are written
pub text_told : (p : PlacedFile) (ns items : List EntryNo) (vs judged : List (Option Verdict)) (m u : ℕ) (start one two three text : List ℕ) → start ≡ []
    → one ≡ start ++ overview_start vs → items ≡ ns → judged ≡ vs → two ≡ one ++ flat_map (solid_paragraph p) (zip items judged) → m ≡ length ns
    → u ≡ count_by is_unjudged vs → three ≡ two ++ (unjudged_text p.file ++ overview_end m ++ unjudged_hint u) → text ≡ three
    → text ≡ overview_start vs ++ flat_map (solid_paragraph p) (zip ns vs)
    ++ (unjudged_text p.file ++ overview_end (length ns) ++ unjudged_hint (count_by is_unjudged vs))
text_told p ns items vs judged m u start one two three text none head same is told count left tail last =
    last ∙ (three_more start one two three (overview_start vs) (flat_map (solid_paragraph p) (zip ns vs)) (rest_of p (length ns) (count_by is_unjudged vs))
    head (told ∙ ap (λ xs. one ++ flat_map (solid_paragraph p) xs) (ap (λ xs. zip xs judged) same ∙ ap (zip ns) is))
    (tail ∙ (ap (λ n. two ++ rest_of p n u) count ∙ ap (λ n. two ++ rest_of p (length ns) n) left))
    ∙ ap (λ xs. xs ++ (overview_start vs ++ flat_map (solid_paragraph p) (zip ns vs) ++ rest_of p (length ns) (count_by is_unjudged vs))) none)

pub all_told : (p : PlacedFile) (ns listed : List EntryNo) (vs judged : List (Option Verdict)) (m n u : ℕ) (b : Bool) (text : List ℕ) → ns ≡ solids_of p.file
    → listed ≡ ns → AreVerdicts p.file (length p.bytes) listed vs → judged ≡ vs → m ≡ length ns
    → n ≡ count_by fails judged → u ≡ count_by is_unjudged judged → b ≡ (nat_lt 0 m && (n == 0 && u == 0))
    → text ≡ overview_start vs ++ flat_map (solid_paragraph p) (zip ns vs)
    ++ (unjudged_text p.file ++ overview_end (length ns) ++ unjudged_hint (count_by is_unjudged vs))
    → (ws : List (Option Verdict)) × IsOverview p ws text × (b ≡ all_close ws)
unfolding overview_text
all_told p ns listed vs judged m n u b text solids same verdicts is many failing left closed told =
    let each : m ≡ length vs = many ∙ (ap (λ xs. length xs) (sym same) ∙ sym (verdicts_each p.file (length p.bytes) listed vs verdicts)) in (
      vs,
      record {
        judged = subst (λ xs. AreVerdicts p.file (length p.bytes) xs vs) (same ∙ solids) verdicts;
        text_is = told ∙ ap (λ xs. overview_start vs ++ flat_map (solid_paragraph p) (zip xs vs) ++ rest_of p (length xs) (count_by is_unjudged vs)) solids;
      },
      closed ∙ (ap (λ k. nat_lt 0 k && (n == 0 && u == 0)) each ∙ (ap (λ k. nat_lt 0 (length vs) && (k == 0 && u == 0)) (failing ∙ ap (count_by fails) is)
          ∙ ap (λ k. nat_lt 0 (length vs) && (count_by fails vs == 0 && k == 0)) (left ∙ ap (count_by is_unjudged) is))),
    )
