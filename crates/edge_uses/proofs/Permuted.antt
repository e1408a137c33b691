-- The rows that follow are the rows of each loop in another order.
use Rattle.std.specs.Prelude.{◌≡◌, ℕ, zero, suc, ◌+◌, Bool, true, false, List, [], ◌∷◌, ◌++◌, length, map, flat_map, reverse, Option, Some, None, slice_get}
use Rattle.std.specs.Prelude.{IsPermutation, if◌then◌else◌}
use Rattle.std.specs.List.{AllByRecursion}
use Rattle.std.proofs.Common.{refl, sym, ◌∙◌, ap, subst, arith, length-append}
use Rattle.std.proofs.lemmas.List.{reverse-append}
use Rattle.std.proofs.lemmas.List.Sorted.{IsPermutation-refl, IsPermutation-sym, IsPermutation-trans, IsPermutation-append, IsPermutation-reverse}
use Rattle.std.proofs.lemmas.List.Sorted.{IsPermutation-to_front}
use Rattle.solid_data.specs.Ring.{next_of_each, previous_of_each, numbers_from}
use Rattle.solid_data.specs.SolidData.{SolidData, PlacedLoop, placed_loops, same_flag}
use Rattle.solid_data.specs.declared.solid.Edge.{Edge}
use Rattle.solid_data.specs.declared.solid.EdgeId.{EdgeId}
use Rattle.solid_data.specs.declared.solid.LoopAt.{LoopAt}
use Rattle.solid_data.specs.declared.solid.LoopUse.{LoopUse}
use Rattle.solid_data.specs.declared.solid.LoopUse.TheVariants.{EdgeUse, VertexUse}
use Rattle.solid_data.specs.declared.solid.Shell.{Shell}
use Rattle.solid_data.proofs.Members.{OptionAll, all_filter_map}
use Rattle.solid_data.proofs.ObligationLemmas.{AllByRecursion-weaker}
use Rattle.edge_uses.specs.declared.row.Row.{Row}
use Rattle.edge_uses.specs.ShellRows.{row_of_edge, row_of, loop_rows, follows_from, shell_rows}
use Rattle.edge_uses.proofs.RowLemmas.{EachFollows, follows_tell}

next_permutes : (xs : List ℕ) → IsPermutation xs (next_of_each xs)
next_permutes [] = IsPermutation-refl []
next_permutes (x ∷ xs) = IsPermutation-sym (xs ++ x ∷ []) (x ∷ xs) (IsPermutation-to_front xs x)

ring_permutes : (b : Bool) (xs : List ℕ) → IsPermutation xs (if b then next_of_each xs else previous_of_each xs)
ring_permutes true xs = next_permutes xs
ring_permutes false xs =
    IsPermutation-trans xs (next_of_each (reverse xs)) (previous_of_each xs)
    (IsPermutation-trans xs (reverse xs) (next_of_each (reverse xs)) (IsPermutation-reverse xs) (next_permutes (reverse xs)))
    (IsPermutation-reverse (next_of_each (reverse xs)))

numbers-append : (base n m : ℕ) → numbers_from base (n + m) ≡ numbers_from base n ++ numbers_from (base + n) m
numbers-append base zero m =
    let a : 0 + m ≡ m = omega arith in
    let b : base + 0 ≡ base = omega arith in
    ap (numbers_from base) a ∙ ap (λ k. numbers_from k m) (sym b)
numbers-append base (suc n) m =
    let a : suc n + m ≡ suc (n + m) = omega arith in
    let b : base + 1 + n ≡ base + suc n = omega arith in
    ap (numbers_from base) a ∙ ap (λ xs. base ∷ xs) (numbers-append (base + 1) n m ∙ ap (λ k. numbers_from (base + 1) n ++ numbers_from k m) b)

follows_permute : (s : SolidData) (base : ℕ) (ps : List PlacedLoop)
    → IsPermutation (numbers_from base (length (flat_map (loop_rows s) ps))) (follows_from s base ps)
follows_permute s base [] = IsPermutation-refl []
follows_permute s base (p ∷ ps) =
    let n : ℕ = length (loop_rows s p) in
    let m : ℕ = length (flat_map (loop_rows s) ps) in
    let ring : List ℕ = numbers_from base n in
    let both : numbers_from base (length (loop_rows s p ++ flat_map (loop_rows s) ps)) ≡ ring ++ numbers_from (base + n) m =
    ap (numbers_from base) (length-append (loop_rows s p) (flat_map (loop_rows s) ps)) ∙ numbers-append base n m in
    subst (λ xs. IsPermutation xs (follows_from s base (p ∷ ps))) (sym both)
    (IsPermutation-append ring (if p.forwards then next_of_each ring else previous_of_each ring) (numbers_from (base + n) m) (follows_from s (base + n) ps)
    (ring_permutes p.forwards ring) (follows_permute s (base + n) ps))

pub rows_permuted : (s : SolidData) (shell : Shell) → IsPermutation (numbers_from 0 (length (shell_rows s shell).rows)) (shell_rows s shell).follows
unfolding shell_rows
rows_permuted s shell = follows_permute s 0 (placed_loops shell)

-- Numbers that are all alike stay as they are in another order.

alike : ℕ → ℕ → List ℕ
alike c zero = []
alike c (suc n) = c ∷ alike c n

alike_push : (c n : ℕ) → alike c n ++ c ∷ [] ≡ c ∷ alike c n
unfolding alike
alike_push c zero = refl
alike_push c (suc n) = ap (λ xs. c ∷ xs) (alike_push c n)

alike_next : (c n : ℕ) → next_of_each (alike c n) ≡ alike c n
unfolding alike
alike_next c zero = refl
alike_next c (suc n) = alike_push c n

alike_reverse : (c n : ℕ) → reverse (alike c n) ≡ alike c n
unfolding alike
alike_reverse c zero = refl
alike_reverse c (suc n) = reverse-append (c ∷ []) (alike c n) ∙ (ap (λ xs. xs ++ c ∷ []) (alike_reverse c n) ∙ alike_push c n)

alike_ring : (c n : ℕ) (b : Bool) → alike c n ≡ (if b then next_of_each (alike c n) else previous_of_each (alike c n))
alike_ring c n true = sym (alike_next c n)
alike_ring c n false = sym (ap (λ xs. reverse (next_of_each xs)) (alike_reverse c n) ∙ (ap reverse (alike_next c n) ∙ alike_reverse c n))

all_alike : (f : Row → ℕ) (c : ℕ) (rows : List Row) → AllByRecursion (λ (r : Row). f r ≡ c) rows → map f rows ≡ alike c (length rows)
unfolding alike
all_alike f c [] h = refl
all_alike f c (r ∷ rows) h = ap (λ x. x ∷ map f rows) h.0 ∙ ap (λ xs. c ∷ xs) (all_alike f c rows h.1)

-- Each row of a loop names the loop.
of_edge : (at : LoopAt) (edge : EdgeId) (along : Bool) (o : Option Edge) → OptionAll (λ (r : Row). r.at ≡ at) (row_of_edge at edge along o)
of_edge at edge along None = tt
of_edge at edge true (Some e) = refl
of_edge at edge false (Some e) = refl

of_use : (s : SolidData) (p : PlacedLoop) (u : LoopUse) → OptionAll (λ (r : Row). r.at ≡ p.at) (row_of s p u)
of_use s p (EdgeUse edge along) = of_edge p.at edge (same_flag along p.forwards) (slice_get s.edges edge.0)
of_use s p (VertexUse vertex) = tt

-- what tells of the loop alone is told of the next row too
one_loop : (s : SolidData) (f : Row → ℕ) (g : LoopAt → ℕ) → ((r : Row) → f r ≡ g r.at) → (ps : List PlacedLoop) → AllByRecursion (EachFollows s f f) ps
one_loop s f g tells [] = tt
one_loop s f g tells (p ∷ ps) =
    let rows = loop_rows s p in
    let named : AllByRecursion (λ (r : Row). r.at ≡ p.at) rows = all_filter_map (λ (r : Row). r.at ≡ p.at) (row_of s p) p.loop.uses (λ u m. of_use s p u) in
    let same : map f rows ≡ alike (g p.at) (length rows) =
    all_alike f (g p.at) rows (AllByRecursion-weaker (λ (r : Row). r.at ≡ p.at) (λ (r : Row). f r ≡ g p.at) rows (λ r e. tells r ∙ ap g e) named) in (
      subst (λ xs. xs ≡ (if p.forwards then next_of_each xs else previous_of_each xs)) (sym same) (alike_ring (g p.at) (length rows) p.forwards),
      one_loop s f g
          tells ps,
    )

loop_at : (a b : LoopAt) → a.face.0 ≡ b.face.0 → a.place ≡ b.place → a ≡ b
loop_at a b face place = ap (λ n. record { face = record { 0 = n }; place = a.place }) face ∙ ap (λ n. record { face = b.face; place = n }) place

pub follows_in_loop : (s : SolidData) (shell : Shell) (r t : ℕ) (a b : Row) → slice_get (shell_rows s shell).follows r ≡ Some t
    → slice_get (shell_rows s shell).rows r ≡ Some a → slice_get (shell_rows s shell).rows t ≡ Some b → a.at ≡ b.at
unfolding shell_rows
follows_in_loop s shell r t a b follows at_r at_t =
    let face : Row → ℕ = λ (x : Row). x.at.face.0 in
    let place : Row → ℕ = λ (x : Row). x.at.place in
    loop_at a.at b.at
    (follows_tell s face face (placed_loops shell) r t a b (one_loop s face (λ (l : LoopAt). l.face.0) (λ x. refl) (placed_loops shell)) follows at_r at_t)
    (follows_tell s place place (placed_loops shell) r t a b (one_loop s place (λ (l : LoopAt). l.place) (λ x. refl) (placed_loops shell)) follows at_r at_t)
