-- Lines of one width, one behind the other.
use Rattle.std.proofs.Common.{◌≡◌, ℕ, zero, suc, ◌+◌, ◌*◌, ◌<◌, ◌≤◌, List, [], ◌∷◌, ◌++◌, length, take, drop, Some, None, refl, sym, ap, subst, ◌∙◌, arith}
use Rattle.std.proofs.Common.{length-drop}
use Rattle.std.specs.Prelude.{◌==◌, slice_get}
use Rattle.std.proofs.lemmas.Bool.{eq-eqb, ne_eqb}
use Rattle.std.proofs.lemmas.Option.{slice_get_past}
use Rattle.std.proofs.lemmas.List.{take-append-le, drop-append-le, take-take, drop-take, take_all, nil_from_length}
use Rattle.std.proofs.Math.Nat.{suc-mul}
use Rattle.iges_base.specs.Word.{is_empty}
use Rattle.iges_lines.specs.Rows.{rows}

pub length-rows : (w n : ℕ) (text : List ℕ) → length (rows w n text) ≡ n
unfolding rows
length-rows w zero text = refl
length-rows w (suc n) text = ap suc (length-rows w n (drop w text))

more : (w n : ℕ) → suc n * w ≡ n * w + w
more w n = omega (arith, suc-mul n w)

pub rows-push : (w n : ℕ) (text line : List ℕ) → length text ≡ n * w → length line ≡ w → rows w (n + 1) (text ++ line) ≡ rows w n text ++ line ∷ []
unfolding rows
rows-push w n text line is long = let next : suc n ≡ n + 1 = omega arith in subst (λ (m : ℕ). rows w m (text ++ line) ≡ rows w n text ++ line ∷ []) next
    (by_count n text is)
  where
    by_count : (k : ℕ) (t : List ℕ) → length t ≡ k * w → rows w (suc k) (t ++ line) ≡ rows w k t ++ line ∷ []
    by_count zero t e =
        let none : length t ≡ 0 = omega (arith, e) in
        ap (λ (x : List ℕ). take w (x ++ line) ∷ []) (nil_from_length t none) ∙ ap (λ (x : List ℕ). x ∷ []) (take_all w line (omega arith))
    by_count (suc k) t e =
        let h : w ≤ length t = omega (arith, e, more w k) in
        let rest : length (drop w t) ≡ k * w = omega (arith, e, more w k, length-drop w t) in
        ap (λ (x : List ℕ). x ∷ rows w (suc k) (drop w (t ++ line))) (take-append-le w t line h)
        ∙ ap (λ (x : List ℕ). take w t ∷ rows w (suc k) x) (drop-append-le w t line h)
        ∙ ap (λ (x : List (List ℕ)). take w t ∷ x) (by_count k (drop w t) rest)

drop_none : (b : ℕ) → drop {A = ℕ} b [] ≡ []
drop_none zero = refl
drop_none (suc b) = refl

drop_drop : (a b : ℕ) (xs : List ℕ) → drop b (drop a xs) ≡ drop (a + b) xs
drop_drop zero b xs = let e : b ≡ 0 + b = omega arith in ap (λ (n : ℕ). drop n xs) e
drop_drop (suc a) b [] = drop_none b ∙ sym (drop_none (suc a + b))
drop_drop (suc a) b (x ∷ xs) = let e : suc (a + b) ≡ suc a + b = omega arith in drop_drop a b xs ∙ ap (λ (n : ℕ). drop n (x ∷ xs)) e

pub rows-at : (w n i : ℕ) (text : List ℕ) → i < n → slice_get (rows w n text) i ≡ Some (take w (drop (i * w) text))
unfolding rows
rows-at w zero i text h = absurd (omega arith)
rows-at w (suc n) zero text h = let e : 0 ≡ 0 * w = omega arith in ap (λ (k : ℕ). Some (take w (drop k text))) e
rows-at w (suc n) (suc i) text h =
    let e : w + i * w ≡ suc i * w = omega (arith, more w i) in
    rows-at w n i (drop w text) (omega arith) ∙ ap (λ (x : List ℕ). Some (take w x)) (drop_drop w (i * w) text) ∙ ap (λ (k : ℕ). Some (take w (drop k text))) e

pub row_from : (w n i : ℕ) (text : List ℕ) (view : List (List ℕ)) → rows w n text ≡ view → i < n → (from size : ℕ) → from ≡ i * w → size ≡ w →
    Some (take size (drop from text)) ≡ slice_get view i
row_from w n i text view is h from size from-is size-is =
    ap (λ (m : ℕ). Some (take m (drop from text))) size-is ∙ ap (λ (m : ℕ). Some (take w (drop m text))) from-is ∙ sym (rows-at w n i text h) ∙ ap
    (λ (x : List (List ℕ)). slice_get x i) is

pub row_past : (w n i : ℕ) (text : List ℕ) (view : List (List ℕ)) → rows w n text ≡ view → n ≤ i → None ≡ slice_get view i
row_past w n i text view is h = sym (slice_get_past view i (omega (arith, length-rows w n text, ap length is)))

pub rows-none : (w : ℕ) (text : List ℕ) → rows w 0 text ≡ []
unfolding rows
rows-none w text = refl

pub rows-count : (w n : ℕ) (text : List ℕ) (view : List (List ℕ)) → rows w n text ≡ view → n ≡ length view
rows-count w n text view is = sym (length-rows w n text) ∙ ap length is

pub empty_is : (n : ℕ) (xs : List (List ℕ)) → n ≡ length xs → (n == 0) ≡ is_empty xs
empty_is n [] e = eq-eqb n 0 e
empty_is n (x ∷ xs) e = ne_eqb n 0 (λ z. absurd (omega (arith, e, z)))

-- the first lines are those of a front of the text
pub rows-take : (w n m : ℕ) (text : List ℕ) → n ≤ m → rows w n (take (n * w) text) ≡ take n (rows w m text)
unfolding rows
rows-take w zero m text h = refl
rows-take w (suc n) zero text h = absurd (omega arith)
rows-take w (suc n) (suc m) text h =
    let e : suc n * w ≡ w + n * w = omega (arith, more w n) in
    ap (λ (k : ℕ). take w (take k text) ∷ rows w n (drop w (take k text))) e
    ∙ ap (λ (x : List ℕ). x ∷ rows w n (drop w (take (w + n * w) text))) (take-take w (w + n * w) text (omega arith))
    ∙ ap (λ (x : List ℕ). take w text ∷ rows w n x) (drop-take w (n * w) text)
    ∙ ap (λ (x : List (List ℕ)). take w text ∷ x) (rows-take w n m (drop w text) (omega arith))

pub rows_cut : (w n m : ℕ) (text new : List ℕ) (view : List (List ℕ)) → rows w m text ≡ view → n ≤ m → new ≡ take (n * w) text → rows w n new ≡ take n view
rows_cut w n m text new view is h e = ap (rows w n) e ∙ rows-take w n m text h ∙ ap (take n) is

pub rows_whole : (w n m : ℕ) (text : List ℕ) (view : List (List ℕ)) → rows w m text ≡ view → m ≤ n → rows w m text ≡ take n view
rows_whole w n m text view is h = is ∙ sym (take_all n view (omega (arith, length-rows w m text, ap length is)))
