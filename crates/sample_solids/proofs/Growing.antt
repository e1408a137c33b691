-- One entry more, and one square more.
use Rattle.std.specs.Prelude.{◌≡◌, ℕ, ◌+◌, ◌*◌, ◌<◌, ◌≤◌, List, [], ◌∷◌, ◌++◌, length, map, flat_map, take, drop}
use Rattle.std.proofs.Common.{refl, sym, ◌∙◌, ap, subst, arith, append_assoc}
use Rattle.std.proofs.lemmas.List.{take-append-drop, append-nil}
use Rattle.std.proofs.lemmas.List.Concat.{flat_map-append}
use Rattle.iges_base.specs.declared.TheConstants.{ENTRY_LIMIT, FILE_LIMIT}
use Rattle.iges_fields.specs.declared.value.Value.{Value}
use Rattle.iges_directory.specs.declared.entry.Entry.{Entry}
use Rattle.iges_params.specs.Contents.{Contents, value_count}
use Rattle.solid_data.proofs.Members.{split_at}
use Rattle.sample_solids.specs.Sample.{squares, whole, plain, entry, face_record, loop_record, first_entries, face_entries, sample}
use Rattle.sample_solids.specs.Stages.{holding, stage}
use Rattle.sample_solids.proofs.Squares.{at_place, squares_at, squares_more, squares_all}
use Rattle.sample_solids.proofs.Sizes.{fronts_fit}

abbrev pub AnEntry : Type 0
AnEntry = Entry × List Value

abbrev pub grown : Contents → AnEntry → Contents
grown f e = record f { entries = f.entries ++ e ∷ [] }

-- one entry more
pub put_more : (f g : Contents) (es : List AnEntry) (kind form : ℕ) (v : List Value) (ns : List ℕ) → f ≡ holding es → g ≡ grown f (plain kind form, v)
    → v ≡ map whole ns
    → g ≡ holding (es ++ entry kind form ns ∷ [])
put_more f g es kind form v ns before is values =
    is ∙ (ap (λ c. grown c (plain kind form, v)) before ∙ ap (λ w. grown (holding es) (plain kind form, w)) values)

-- a front of the sample's entries has room for the next one
pub put_fits : (n : ℕ) (f : Contents) (es rest : List AnEntry) (kind form : ℕ) (v : List Value) (ns : List ℕ) → n ≤ 200 → f ≡ holding es → v ≡ map whole ns
    → es ++ entry kind form ns ∷ rest ≡ (sample n).entries → (length f.entries < ENTRY_LIMIT) × (value_count f.entries + length v ≤ FILE_LIMIT)
put_fits n f es rest kind form v ns few before values front =
    let a = fronts_fit n es rest (entry kind form ns) few front in
    let b : length f.entries ≡ length es = ap (λ (c : Contents). length c.entries) before in
    let d : value_count f.entries ≡ value_count es = ap (λ (c : Contents). value_count c.entries) before in
    let e : length v ≡ length (map whole ns) = ap (λ vs. length vs) values in
    (omega (arith, a.0, b), subst (λ k. k + length v ≤ FILE_LIMIT) (sym d) (subst (λ k. value_count es + k ≤ FILE_LIMIT) (sym e) a.1))

-- ---- the first entries

abbrev pub later : ℕ → List AnEntry
later n = flat_map (face_entries n) (squares n)

pub first_whole : (n : ℕ) → first_entries n ++ later n ≡ (sample n).entries
unfolding sample
first_whole n = refl

pub first_stage : (n : ℕ) → holding (first_entries n) ≡ stage n 0
unfolding stage
first_stage n = ap holding (sym (append-nil (first_entries n)))

-- ---- a square more

abbrev pub front : ℕ → ℕ → List AnEntry
front n k = first_entries n ++ flat_map (face_entries n) (take k (squares n))

pub is_front : (n k : ℕ) → stage n k ≡ holding (front n k)
unfolding stage
is_front n k = refl

rest_of : (n k : ℕ) → 0 < n → k < n * n → drop k (squares n) ≡ at_place n k ∷ drop (k + 1) (squares n)
rest_of n k some lt = split_at (squares n) k (at_place n k) (squares_at n k some lt)

abbrev pub face_of : ℕ → ℕ → AnEntry
face_of n k = entry 510 1 (face_record n (at_place n k))

abbrev pub loop_of : ℕ → ℕ → AnEntry
loop_of n k = entry 508 1 (loop_record n (at_place n k))

abbrev pub after : ℕ → ℕ → List AnEntry
after n k = flat_map (face_entries n) (drop (k + 1) (squares n))

pub square_front : (n k : ℕ) → 0 < n → k < n * n → front n k ++ face_of n k ∷ loop_of n k ∷ after n k ≡ (sample n).entries
unfolding sample
square_front n k some lt =
    let fe : ℕ × ℕ → List AnEntry = face_entries n in
    append_assoc (first_entries n) (flat_map fe (take k (squares n))) (face_of n k ∷ loop_of n k ∷ after n k)
    ∙ ap (λ es. first_entries n ++ es)
    (ap (λ ss. flat_map fe (take k (squares n)) ++ flat_map fe ss) (sym (rest_of n k some lt))
    ∙ (sym (flat_map-append fe (take k (squares n)) (drop k (squares n))) ∙ ap (flat_map fe) (take-append-drop k (squares n))))

pub loop_front : (n k : ℕ) → 0 < n → k < n * n → (front n k ++ face_of n k ∷ []) ++ loop_of n k ∷ after n k ≡ (sample n).entries
loop_front n k some lt = append_assoc (front n k) (face_of n k ∷ []) (loop_of n k ∷ after n k) ∙ square_front n k some lt

pub square_more : (n k : ℕ) → 0 < n → k < n * n → holding ((front n k ++ face_of n k ∷ []) ++ loop_of n k ∷ []) ≡ stage n (k + 1)
square_more n k some lt =
    let fe : ℕ × ℕ → List AnEntry = face_entries n in
    ap holding
    (append_assoc (front n k) (face_of n k ∷ []) (loop_of n k ∷ [])
    ∙ (append_assoc (first_entries n) (flat_map fe (take k (squares n))) (face_of n k ∷ loop_of n k ∷ [])
    ∙ ap (λ es. first_entries n ++ es) (sym (squares_more fe n k some lt))))
    ∙ sym (is_front n (k + 1))

pub last_stage : (n k : ℕ) (f : Contents) → n * n ≤ k → f ≡ stage n k → f ≡ sample n
unfolding sample
last_stage n k f past is = is ∙ (is_front n k ∙ ap (λ ss. holding (first_entries n ++ flat_map (face_entries n) ss)) (squares_all n k past))
