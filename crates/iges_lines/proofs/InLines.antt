-- Lines hold no LF, and all of them together no more bytes than the text has.
use Rattle.std.proofs.Common.{◌≡◌, ℕ, suc, ◌+◌, ◌-◌, ◌≤◌, Bool, true, false, not, List, [], ◌∷◌, length, take, drop, map, refl, sym, ap, subst, ◌∙◌, arith}
use Rattle.std.specs.Prelude.{◌==◌, slice_index}
use Rattle.std.specs.List.{AllByRecursion}
use Rattle.std.specs.Str.Lines.{strip_carriage_return}
use Rattle.std.proofs.lemmas.Bool.{and_from, cond-true, cond-false}
use Rattle.std.proofs.lemmas.List.{length-take}
use Rattle.iges_base.specs.InLine.{is_in_line}
use Rattle.iges_base.proofs.Lists.{list_all-take, list_all-drop}
use Rattle.iges_lines.specs.Lines.{columns, pieces, cut, before_pieces, lines}

-- ---- the pieces have no LF

abbrev InLines : List (List ℕ) → Type 0
InLines ls = AllByRecursion (λ l. is_in_line l ≡ true) ls

before_in_line : (b : ℕ) (ps : List (List ℕ)) → not (b == 10) ≡ true → InLines ps → InLines (before_pieces b ps)
before_in_line b [] e h = (and_from (not (b == 10)) true e refl, tt)
before_in_line b (p ∷ ps) e h = (and_from (not (b == 10)) (is_in_line p) e h.0, h.1)

cut_in_line : (b : ℕ) (ps : List (List ℕ)) → InLines ps → InLines (cut b ps)
cut_in_line b ps h = by_test (b == 10) refl
  where
    by_test : (t : Bool) → (b == 10) ≡ t → InLines (cut b ps)
    by_test true e = subst InLines (sym (cond-true (b == 10) ([] ∷ ps) (before_pieces b ps) e)) (refl, h)
    by_test false e = subst InLines (sym (cond-false (b == 10) ([] ∷ ps) (before_pieces b ps) e)) (before_in_line b ps (ap not e) h)

pieces_in_line : (bytes : List ℕ) → InLines (pieces bytes)
pieces_in_line [] = tt
pieces_in_line (b ∷ bytes) = cut_in_line b (pieces bytes) (pieces_in_line bytes)

pub columns_in_line : (a b : ℕ) (l : List ℕ) → is_in_line l ≡ true → is_in_line (columns a b l) ≡ true
columns_in_line a b l h = list_all-take (λ c. not (c == 10)) (b - (a - 1)) (drop (a - 1) l) (list_all-drop (λ c. not (c == 10)) (a - 1) l h)

pub columns_short : (a b : ℕ) (l : List ℕ) → length (columns a b l) ≤ b - (a - 1)
columns_short a b l = omega (arith, length-take (b - (a - 1)) (drop (a - 1) l))

strip_in_line : (l : List ℕ) → is_in_line l ≡ true → is_in_line (strip_carriage_return l) ≡ true
strip_in_line l h = by_test (slice_index l (length l - 1) == 13) refl
  where
    by_test : (t : Bool) → (slice_index l (length l - 1) == 13) ≡ t → is_in_line (strip_carriage_return l) ≡ true
    by_test true e = ap is_in_line (cond-true (slice_index l (length l - 1) == 13) (take (length l - 1) l) l e) ∙ list_all-take (λ c. not (c == 10))
        (length l - 1) l h
    by_test false e = ap is_in_line (cond-false (slice_index l (length l - 1) == 13) (take (length l - 1) l) l e) ∙ h

strips_in_line : (ls : List (List ℕ)) → InLines ls → InLines (map strip_carriage_return ls)
strips_in_line [] h = tt
strips_in_line (l ∷ ls) h = (strip_in_line l h.0, strips_in_line ls h.1)

pub lines_in_line : (bytes : List ℕ) → InLines (lines bytes)
lines_in_line bytes = strips_in_line (pieces bytes) (pieces_in_line bytes)

-- ---- how long the lines are together

abbrev pub size : List (List ℕ) → ℕ
size [] = 0
size (l ∷ ls) = length l + size ls

before_size : (b : ℕ) (ps : List (List ℕ)) → size (before_pieces b ps) ≡ suc (size ps)
before_size b [] = refl
before_size b (p ∷ ps) = omega arith

cut_size : (b : ℕ) (ps : List (List ℕ)) → size (cut b ps) ≤ suc (size ps)
cut_size b ps = by_test (b == 10) refl
  where
    by_test : (t : Bool) → (b == 10) ≡ t → size (cut b ps) ≤ suc (size ps)
    by_test true e = let s : size (cut b ps) ≡ size ([] ∷ ps) = ap size (cond-true (b == 10) ([] ∷ ps) (before_pieces b ps) e) in omega (arith, s)
    by_test false e = let s : size (cut b ps) ≡ size (before_pieces b ps) =
        ap size (cond-false (b == 10) ([] ∷ ps) (before_pieces b ps) e) in omega (arith, s, before_size b ps)

pieces_size : (bytes : List ℕ) → size (pieces bytes) ≤ length bytes
pieces_size [] = omega arith
pieces_size (b ∷ bytes) = omega (arith, cut_size b (pieces bytes), pieces_size bytes)

strip_shorter : (l : List ℕ) → length (strip_carriage_return l) ≤ length l
strip_shorter l = by_test (slice_index l (length l - 1) == 13) refl
  where
    by_test : (t : Bool) → (slice_index l (length l - 1) == 13) ≡ t → length (strip_carriage_return l) ≤ length l
    by_test true e = let s : length (strip_carriage_return l) ≡ length (take (length l - 1) l) =
        ap length (cond-true (slice_index l (length l - 1) == 13) (take (length l - 1) l) l e) in omega (arith, s, length-take (length l - 1) l)
    by_test false e = let s : length (strip_carriage_return l) ≡ length l =
        ap length (cond-false (slice_index l (length l - 1) == 13) (take (length l - 1) l) l e) in omega (arith, s)

strips_size : (ls : List (List ℕ)) → size (map strip_carriage_return ls) ≤ size ls
strips_size [] = omega arith
strips_size (l ∷ ls) = omega (arith, strip_shorter l, strips_size ls)

pub lines_size : (bytes : List ℕ) → size (lines bytes) ≤ length bytes
lines_size bytes = omega (arith, strips_size (pieces bytes), pieces_size bytes)
