-- What holds of all bytes holds of the bytes of each piece.
use Rattle.std.proofs.Common.{◌≡◌, inl, inr, ℕ, Bool, true, false, not, List, [], ◌∷◌, ◌++◌, refl, ap, ◌∙◌}
use Rattle.std.specs.Prelude.{◌==◌, ◌||◌, flat_map}
use Rattle.std.specs.List.{list_all, list_any}
use Rattle.std.proofs.lemmas.Bool.{and_parts, and_from, cases_Bool, cond-true, cond-false, or_cases, or_right, or_left, or_parts, not_from_false, both_ways}
use Rattle.std.proofs.lemmas.List.Folds.{list_any-append}
use Rattle.iges_base.specs.Ended.{ended}
use Rattle.iges_base.specs.InLine.{is_in_line}
use Rattle.std.proofs.Common.{append_assoc}
use Rattle.line_layout.specs.Relaid.{before_pieces, pieces, end_byte}
use Rattle.line_layout.proofs.Cutting.{cut_first, no_pieces}

abbrev Lines : Type 0
Lines = List (List ℕ)

module _ (q : ℕ → Bool) (e : ℕ) where
  -- a byte before the first piece
  with_byte : (b : ℕ) (ps : Lines) → q b ≡ true → list_all (list_all q) ps ≡ true → list_all (list_all q) (before_pieces b ps) ≡ true
  with_byte b [] h k = and_from _ true (and_from (q b) true h refl) refl
  with_byte b (p ∷ ps) h k =
      let parts = and_parts (list_all q p) (list_all (list_all q) ps) k in
      and_from (list_all q (b ∷ p)) (list_all (list_all q) ps) (and_from (q b) (list_all q p) h parts.0) parts.1

  pub pieces_all : (bytes : List ℕ) → list_all (λ b. b == e || q b) bytes ≡ true → list_all (list_all q) (pieces e bytes) ≡ true
  unfolding pieces
  pieces_all [] h = refl
  pieces_all (b ∷ bytes) h =
      let parts = and_parts (b == e || q b) (list_all (λ x. x == e || q x) bytes) h in
      let rest = pieces_all bytes parts.1 in
      elim (cases_Bool (b == e)) [
        | inl t ↦ ap (list_all (list_all q)) (cond-true (b == e) ([] ∷ pieces e bytes) (before_pieces b (pieces e bytes)) t) ∙ rest
        | inr f ↦
            let here : q b ≡ true = elim (or_cases (b == e) (q b) parts.0) [ inl t ↦ absurd (both_ways (b == e) f t) | inr k ↦ k ] in
            ap (list_all (list_all q)) (cond-false (b == e) ([] ∷ pieces e bytes) (before_pieces b (pieces e bytes)) f) ∙ with_byte b (pieces e bytes) here rest
      ]

pub either_way : (bytes : List ℕ) → list_all (λ b. b == 10 || not (b == 10)) bytes ≡ true
either_way [] = refl
either_way (b ∷ bytes) = and_from (b == 10 || not (b == 10)) _
    (elim (cases_Bool (b == 10)) [ inl t ↦ or_left (b == 10) _ t | inr f ↦ or_right (b == 10) (not (b == 10)) (not_from_false (b == 10) f) ]) (either_way bytes)

no_end : (bytes : List ℕ) → list_any (λ b. b == 10) bytes ≡ false → list_all (λ b. b == 13 || not (b == 10)) bytes ≡ true
no_end [] h = refl
no_end (b ∷ bytes) h =
    let parts = or_parts (b == 10) (list_any (λ x. x == 10) bytes) h in
    and_from (b == 13 || not (b == 10)) _ (or_right (b == 13) (not (b == 10)) (not_from_false (b == 10) parts.0)) (no_end bytes parts.1)

-- no piece of a file has an LF
pub pieces_in_line : (bytes : List ℕ) → list_all is_in_line (pieces (end_byte bytes) bytes) ≡ true
pieces_in_line bytes = elim (cases_Bool (list_any (λ b. b == 10) bytes)) [
  | inl t ↦ ap (λ (e : ℕ). list_all is_in_line (pieces e bytes)) (cond-true (list_any (λ b. b == 10) bytes) 10 13 t)
      ∙ pieces_all (λ b. not (b == 10)) 10 bytes (either_way bytes)
  | inr f ↦ ap (λ (e : ℕ). list_all is_in_line (pieces e bytes)) (cond-false (list_any (λ b. b == 10) bytes) 10 13 f)
      ∙ pieces_all (λ b. not (b == 10)) 13 bytes (no_end bytes f)
]

-- the pieces of lines that are ended
pub pieces_text : (ls : Lines) → list_all is_in_line ls ≡ true → pieces 10 (flat_map ended ls) ≡ ls
pieces_text [] h = no_pieces 10
pieces_text (l ∷ ls) h =
    let parts = and_parts (is_in_line l) (list_all is_in_line ls) h in
    ap (pieces 10) (append_assoc l (10 ∷ []) (flat_map ended ls)) ∙ cut_first 10 l (flat_map ended ls) parts.0
    ∙ ap (λ (x : Lines). l ∷ x) (pieces_text ls parts.1)

-- they have an LF
pub text_has_end : (l : List ℕ) (ls : Lines) → end_byte (flat_map ended (l ∷ ls)) ≡ 10
text_has_end l ls =
    let rest = flat_map ended ls in
    let has : list_any (λ b. b == 10) (ended l ++ rest) ≡ true =
    list_any-append (λ b. b == 10) (ended l) rest
    ∙ or_left _ (list_any (λ b. b == 10) rest) (list_any-append (λ b. b == 10) l (10 ∷ []) ∙ or_right (list_any (λ b. b == 10) l) true refl) in
    cond-true (list_any (λ b. b == 10) (ended l ++ rest)) 10 13 has
