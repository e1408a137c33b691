-- The entries of a directory, two lines each.
use Rattle.std.specs.Prelude.{◌≡◌, ℕ, zero, suc, ◌+◌, ◌*◌, ◌≤◌, List, [], ◌∷◌, ◌++◌, length, map, Some, None, slice_get}
use Rattle.std.proofs.Common.{refl, sym, ap, subst, ◌∙◌, arith, drop, get_or, append_assoc}
use Rattle.std.proofs.lemmas.List.{drop_all, append-nil}
use Rattle.std.proofs.lemmas.Option.{slice_get_within, get_or_from_slice_get, same_Some}
use Rattle.std.proofs.Math.Seq.{drop-cons}
use Rattle.iges_directory.specs.declared.entry.Placed.{Placed}
use Rattle.iges_directory.specs.Entries.{AreEntries, IsEntry}
use Rattle.where_places.specs.declared.places.RecordLines.{RecordLines}
use Rattle.where_places.specs.Places.{record_lines_of}

-- the entry that two lines hold
entry_of : (n : ℕ) (ls : List (List ℕ)) (ps : List Placed) (i : ℕ) (a b : List ℕ) → AreEntries n ls ps → slice_get ls (2 * i) ≡ Some a
    → slice_get ls (2 * i + 1) ≡ Some b → (p : Placed) × (slice_get ps i ≡ Some p) × IsEntry a b p
entry_of n [] ps i a b h e f = absurd (let g : None ≡ Some a = e in cc)
entry_of n (x ∷ []) ps i a b h e f = absurd h
entry_of n (x ∷ y ∷ ls) [] i a b h e f = absurd h
entry_of n (x ∷ y ∷ ls) (p ∷ ps) zero a b h e f =
    let first : x ≡ a = same_Some x a e in
    let second : y ≡ b = same_Some y b f in
    (p, refl, subst (λ (l : List ℕ). IsEntry a l p) second (subst (λ (l : List ℕ). IsEntry l y p) first h.0))
entry_of n (x ∷ y ∷ ls) (p ∷ ps) (suc i) a b h e f =
    let first : 2 * suc i ≡ suc (suc (2 * i)) = omega arith in
    let second : 2 * suc i + 1 ≡ suc (suc (2 * i + 1)) = omega arith in
    entry_of n ls ps i a b h.2 (ap (slice_get (x ∷ y ∷ ls)) (sym first) ∙ e) (ap (slice_get (x ∷ y ∷ ls)) (sym second) ∙ f)

pub entry_count : (n : ℕ) (ls : List (List ℕ)) (ps : List Placed) → AreEntries n ls ps → length ls ≡ 2 * length ps
entry_count n [] [] h = refl
entry_count n [] (p ∷ ps) h = absurd h
entry_count n (x ∷ []) ps h = absurd h
entry_count n (x ∷ y ∷ ls) [] h = absurd h
entry_count n (x ∷ y ∷ ls) (p ∷ ps) h = let rest = entry_count n ls ps h.2 in omega (arith, rest)

-- one entry more is read
pub records_more : (n : ℕ) (ls : List (List ℕ)) (ps : List Placed) (i : ℕ) (a b : List ℕ) (r : RecordLines) (old new all : List RecordLines)
    → AreEntries n ls ps → slice_get ls (2 * i) ≡ Some a → slice_get ls (2 * i + 1) ≡ Some b
    → ((p : Placed) → IsEntry a b p → r ≡ record_lines_of p) → new ≡ old ++ r ∷ [] → old ++ map record_lines_of (drop i ps) ≡ all
    → new ++ map record_lines_of (drop (i + 1) ps) ≡ all
records_more n ls ps i a b r old new all are e f is put h =
    let found = entry_of n ls ps i a b are e f in
    let more : suc i ≡ i + 1 = omega arith in
    let rest : List RecordLines = map record_lines_of (drop (i + 1) ps) in
    let split : drop i ps ≡ found.0 ∷ drop (i + 1) ps =
    drop-cons ps i found.0 (slice_get_within ps i found.0 found.1)
    ∙ (ap (λ m. get_or ps i found.0 ∷ drop m ps) more ∙ ap (λ p. p ∷ drop (i + 1) ps) (get_or_from_slice_get ps i found.0 found.0 found.1)) in
    ap (λ xs. xs ++ rest) put ∙ (append_assoc old (r ∷ []) rest
    ∙ (ap (λ x. old ++ x ∷ rest) (is found.0 found.2) ∙ (ap (λ xs. old ++ map record_lines_of xs) (sym split) ∙ h)))

-- all entries are read
pub records_all : (n : ℕ) (ls : List (List ℕ)) (ps : List Placed) (i : ℕ) (now : List RecordLines) → AreEntries n ls ps → length ps ≤ i
    → now ++ map record_lines_of (drop i ps) ≡ map record_lines_of ps → now ≡ map record_lines_of ps
records_all n ls ps i now are past h =
    let none : drop i ps ≡ [] = drop_all i ps past in
    sym (append-nil now) ∙ (ap (λ xs. now ++ map record_lines_of xs) (sym none) ∙ h)
