-- The first piece of some bytes.
use Rattle.std.proofs.Common.{◌≡◌, inl, inr, ℕ, zero, suc, ◌-◌, ◌<◌, ◌≤◌, Bool, true, false, not, List, [], ◌∷◌, ◌++◌, length, get_or, take, drop, refl, sym, ap, ◌∙◌}
use Rattle.std.proofs.Common.{arith, length-append}
use Rattle.std.specs.Prelude.{◌==◌, ◌&&◌, nat_lt}
use Rattle.std.specs.List.{list_all, list_any, prefix_len}
use Rattle.std.proofs.lemmas.Bool.{cases_Bool, cond-true, cond-false, and_parts, not-true, not_from_true, not_from_false, eq-eqb, eqb-true, lt-ltb, and_right}
use Rattle.std.proofs.lemmas.Bool.{false_from_ne_true, ltb-true, or_parts}
use Rattle.std.proofs.lemmas.List.{append-nil, take_all, take-append-drop}
use Rattle.iges_base.proofs.Lists.{prefix_len-pass, prefix_len-stop, list_all-take_while}
use Rattle.line_layout.specs.Changes.{Cut, before_cuts, cuts, first_cut, has_feed}
use Rattle.line_layout.specs.Relaid.{before_pieces, pieces}

abbrev pub made_cut : List ℕ → Bool → List ℕ → Cut
made_cut piece feed after = record { piece = piece; feed = feed; after = after }

and_true : (b t : Bool) → t ≡ true → (b && t) ≡ b
and_true true t e = e
and_true false t e = refl

module _ (e : ℕ) where
  -- a piece and its end
  pub cut_first : (p rest : List ℕ) → list_all (λ b. not (b == e)) p ≡ true → pieces e (p ++ e ∷ rest) ≡ p ∷ pieces e rest
  unfolding pieces
  cut_first [] rest h = cond-true (e == e) ([] ∷ pieces e rest) (before_pieces e (pieces e rest)) (eq-eqb e e refl)
  cut_first (b ∷ p) rest h =
      let k = and_parts (not (b == e)) (list_all (λ x. not (x == e)) p) h in
      cond-false (b == e) ([] ∷ pieces e (p ++ e ∷ rest)) (before_pieces b (pieces e (p ++ e ∷ rest))) (not-true (b == e) k.0)
      ∙ ap (before_pieces b) (cut_first p rest k.1)

  -- a last piece without an end
  pub cut_last : (p : List ℕ) → list_all (λ b. not (b == e)) p ≡ true → 0 < length p → pieces e p ≡ p ∷ []
  unfolding pieces
  cut_last [] h some = absurd (omega arith)
  cut_last (b ∷ p) h some =
      let k = and_parts (not (b == e)) (list_all (λ x. not (x == e)) p) h in
      cond-false (b == e) ([] ∷ pieces e p) (before_pieces b (pieces e p)) (not-true (b == e) k.0) ∙ by_rest p (λ some. cut_last p k.1 some)
    where
      by_rest : (r : List ℕ) → (0 < length r → pieces e r ≡ r ∷ []) → before_pieces b (pieces e r) ≡ (b ∷ r) ∷ []
      by_rest [] last = refl
      by_rest (x ∷ r) last = ap (before_pieces b) (last (omega arith))

  pub no_pieces : pieces e [] ≡ []
  unfolding pieces
  no_pieces = refl

  -- the same with the bytes after it
  pub cut_first_cut : (p rest : List ℕ) → list_all (λ b. not (b == e)) p ≡ true → cuts e (p ++ e ∷ rest) ≡ made_cut p (e == 10) rest ∷ cuts e rest
  unfolding cuts
  cut_first_cut [] rest h = cond-true (e == e) (made_cut [] (e == 10) rest ∷ cuts e rest) (before_cuts e (cuts e rest)) (eq-eqb e e refl)
  cut_first_cut (b ∷ p) rest h =
      let k = and_parts (not (b == e)) (list_all (λ x. not (x == e)) p) h in
      cond-false (b == e) (made_cut [] (e == 10) (p ++ e ∷ rest) ∷ cuts e (p ++ e ∷ rest)) (before_cuts b (cuts e (p ++ e ∷ rest))) (not-true (b == e) k.0)
      ∙ ap (before_cuts b) (cut_first_cut p rest k.1)

  pub cut_last_cut : (p : List ℕ) → list_all (λ b. not (b == e)) p ≡ true → 0 < length p → cuts e p ≡ made_cut p false [] ∷ []
  unfolding cuts
  cut_last_cut [] h some = absurd (omega arith)
  cut_last_cut (b ∷ p) h some =
      let k = and_parts (not (b == e)) (list_all (λ x. not (x == e)) p) h in
      cond-false (b == e) (made_cut [] (e == 10) p ∷ cuts e p) (before_cuts b (cuts e p)) (not-true (b == e) k.0) ∙ by_rest p (λ some. cut_last_cut p k.1 some)
    where
      by_rest : (r : List ℕ) → (0 < length r → cuts e r ≡ made_cut r false [] ∷ []) → before_cuts b (cuts e r) ≡ made_cut (b ∷ r) false [] ∷ []
      by_rest [] last = refl
      by_rest (x ∷ r) last = ap (before_cuts b) (last (omega arith))

  pub no_cuts : cuts e [] ≡ []
  unfolding cuts
  no_cuts = refl

  rest_ends : (xs : List ℕ) (y : ℕ) (ys : List ℕ) → drop (prefix_len (λ b. not (b == e)) xs) xs ≡ y ∷ ys → y ≡ e
  rest_ends [] y ys h = absurd cc
  rest_ends (x ∷ xs) y ys h =
      elim (cases_Bool (x == e)) [
        | inl t ↦
            let s : x ∷ xs ≡ y ∷ ys = sym (ap (λ (n : ℕ). drop n (x ∷ xs)) (prefix_len-stop (λ b. not (b == e)) x xs (not_from_true _ t))) ∙ h in
            sym (ap (λ (l : List ℕ). get_or l 0 0) s) ∙ eqb-true x e t
        | inr f ↦ rest_ends xs y ys (sym (ap (λ (n : ℕ). drop n (x ∷ xs)) (prefix_len-pass (λ b. not (b == e)) x xs (not_from_false _ f))) ∙ h)
      ]

  -- the first end byte stands behind so many bytes
  first_end : (xs : List ℕ) (n : ℕ) → n < length xs → get_or xs n 0 ≡ e → list_any (λ b. b == e) (take n xs) ≡ false → n ≡ prefix_len (λ b. not (b == e)) xs
  first_end [] n h at none = absurd (omega arith)
  first_end (x ∷ xs) zero h at none = sym (prefix_len-stop (λ b. not (b == e)) x xs (not_from_true (x == e) (eq-eqb x e at)))
  first_end (x ∷ xs) (suc n) h at none =
      let parts = or_parts (x == e) (list_any (λ b. b == e) (take n xs)) none in
      ap suc (first_end xs n (omega arith) at parts.1) ∙ sym (prefix_len-pass (λ b. not (b == e)) x xs (not_from_false (x == e) parts.0))

  pub ends_here : (xs : List ℕ) (n : ℕ) (r : Bool) → n < length xs → get_or xs n 0 ≡ e → r ≡ list_any (λ b. b == e) (take n xs) → not r ≡ true
      → n ≡ prefix_len (λ b. not (b == e)) xs
  ends_here xs n true h at is t = absurd cc
  ends_here xs n false h at is t = first_end xs n h at (sym is)

  module _ (xs : List ℕ) (n : ℕ) (piece rest : List ℕ) (some : 0 < length xs) (n-is : n ≡ prefix_len (λ b. not (b == e)) xs) (piece-is : piece ≡ take n xs)
      (rest-is : rest ≡ drop n xs) where
    on_line : list_all (λ b. not (b == e)) piece ≡ true
    on_line = ap (list_all (λ b. not (b == e))) (piece-is ∙ ap (λ (m : ℕ). take m xs) n-is) ∙ list_all-take_while (λ b. not (b == e)) xs

    whole : xs ≡ piece ++ rest
    whole = sym (take-append-drop n xs) ∙ ap (λ (p : List ℕ). p ++ drop n xs) (sym piece-is) ∙ ap (λ (r : List ℕ). piece ++ r) (sym rest-is)

    with_more : 1 ≤ length rest → (after : List ℕ) → after ≡ take (length rest - 1) (drop 1 rest) → xs ≡ piece ++ e ∷ after
    with_more more after is = whole ∙ ap (λ (r : List ℕ). piece ++ r) (by_rest rest refl more)
      where
        by_rest : (r : List ℕ) → rest ≡ r → 1 ≤ length r → r ≡ e ∷ after
        by_rest [] h m = absurd (omega arith)
        by_rest (y ∷ ys) h m =
            let end : y ≡ e = rest_ends xs y ys (ap (λ (m : ℕ). drop m xs) (sym n-is) ∙ sym rest-is ∙ h) in
            let one : length (y ∷ ys) - 1 ≡ length ys = omega arith in
            let back : after ≡ ys = is ∙ ap (λ (r : List ℕ). take (length r - 1) (drop 1 r)) h ∙ ap (λ (k : ℕ). take k ys) one
            ∙ take_all (length ys) ys (omega arith) in
            ap (λ (b : ℕ). b ∷ ys) end ∙ ap (λ (t : List ℕ). e ∷ t) (sym back)

    pub first_of_more : 1 ≤ length rest → (after : List ℕ) → after ≡ take (length rest - 1) (drop 1 rest)
        → (pieces e xs ≡ piece ∷ pieces e after) × (length after < length xs)
    first_of_more more after is =
        let w = with_more more after is in
        (ap (pieces e) w ∙ cut_first piece after on_line, omega (arith, ap length w, length-append piece (e ∷ after)))

    pub first_of_last : length rest < 1 → (pieces e xs ≡ piece ∷ pieces e rest) × (length rest < length xs)
    first_of_last none = by_rest rest refl none
      where
        by_rest : (r : List ℕ) → rest ≡ r → length r < 1 → (pieces e xs ≡ piece ∷ pieces e r) × (length r < length xs)
        by_rest (y ∷ ys) h m = absurd (omega arith)
        by_rest [] h m =
            let all : xs ≡ piece = whole ∙ ap (λ (r : List ℕ). piece ++ r) h ∙ append-nil piece in
            (ap (pieces e) all ∙ cut_last piece on_line (omega (arith, ap length all)) ∙ ap (λ (ps : List (List ℕ)). piece ∷ ps) (sym no_pieces), omega arith)

    pub cut_of_more : 1 ≤ length rest → (after : List ℕ) → after ≡ take (length rest - 1) (drop 1 rest) → cuts e xs ≡ first_cut e xs piece after ∷ cuts e after
    cut_of_more more after is =
        let w = with_more more after is in
        let fed : nat_lt (length piece) (length xs - length after) ≡ true = lt-ltb (length piece) (length xs - length after)
        (omega (arith, ap length w, length-append piece (e ∷ after))) in
        ap (cuts e) w ∙ cut_first_cut piece after on_line
        ∙ ap (λ (f : Bool). made_cut piece f after ∷ cuts e after) (sym (and_true (e == 10) (nat_lt (length piece) (length xs - length after)) fed))

    pub cut_of_last : length rest < 1 → cuts e xs ≡ first_cut e xs piece rest ∷ cuts e rest
    cut_of_last none = by_rest rest refl none
      where
        by_rest : (r : List ℕ) → rest ≡ r → length r < 1 → cuts e xs ≡ first_cut e xs piece r ∷ cuts e r
        by_rest (y ∷ ys) h m = absurd (omega arith)
        by_rest [] h m =
            let all : xs ≡ piece = whole ∙ ap (λ (r : List ℕ). piece ++ r) h ∙ append-nil piece in
            let unfed : nat_lt (length piece) (length xs - 0) ≡ false = false_from_ne_true (nat_lt (length piece) (length xs - 0))
            (λ t. omega (arith, ap length all, ltb-true (length piece) (length xs - 0) t)) in
            ap (cuts e) all ∙ cut_last_cut piece on_line (omega (arith, ap length all))
            ∙ ap (λ (f : Bool). made_cut piece f [] ∷ []) (sym (and_right (e == 10) (nat_lt (length piece) (length xs - 0)) unfed))
            ∙ ap (λ (cs : List Cut). first_cut e xs piece [] ∷ cs) (sym no_cuts)
