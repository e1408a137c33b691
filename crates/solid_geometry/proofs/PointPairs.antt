-- Pairs of points, and lines by them.
use Rattle.std.specs.Prelude.{◌≡◌, ◌↔◌, ◌⊎◌, ℕ, ◌+◌, ◌<◌, ◌≤◌, ◌^◌, nat_le, Bool, true, false, ℤ, List, [], ◌∷◌, ◌++◌, length, take, get_or, pos, Option, Some, None, if◌then◌else◌}
use Rattle.std.specs.Fmt.{decimal}
use Rattle.std.specs.List.{AllZip}
use Rattle.std.proofs.Common.{refl, sym, ap, ◌∙◌, subst, arith, inl, inr}
use Rattle.std.proofs.lemmas.Bool.Decides.{leb_tells}
use Rattle.std.proofs.lemmas.Fmt.{decimal_injective}
use Rattle.std.proofs.lemmas.List.{append-nil, take_more}
use Rattle.std.proofs.lemmas.Option.{same_Some}
use Rattle.iges_params.specs.Contents.{Contents}
use Rattle.equal_values.specs.Keys.{keys_of, marked}
use Rattle.equal_values.specs.Equal.{AreEqualValues}
use Rattle.equal_values.proofs.Marks.{lists_decide}
use Rattle.record_numbers.specs.Keys.{KeyMap, number_by, AreNumbers, KeepsNumbers}
use Rattle.equal_values.proofs.Marks.{marks_part}
use Rattle.solid_geometry.specs.Curves.{is_line, point, AreAtOnePoint, HaveSamePoints}
use Rattle.solid_geometry.specs.Lines.{point_key, pair_key, ends_key, IsLineNumber, IsLineOf}

-- ---- pairs of numbers

pair_is : (x y u v : ℕ) → x < 2 ^ 32 → y < 2 ^ 32 → u < 2 ^ 32 → v < 2 ^ 32 → pair_key x y ≡ pair_key u v → (x ≡ u) × (y ≡ v)
pair_is x y u v sx sy su sv e =
    let first = marks_part (decimal x) (decimal u) (marked (decimal y)) (marked (decimal v)) e in
    let second = marks_part (decimal y) (decimal v) [] [] (append-nil (marked (decimal y)) ∙ (first.1 ∙ sym (append-nil (marked (decimal v))))) in
    (decimal_injective x u (omega (arith, sx)) (omega (arith, su)) first.0, decimal_injective y v (omega (arith, sy)) (omega (arith, sv)) second.0)

ends_at : (x y : ℕ) → ((ends_key x y ≡ pair_key x y) × (x ≤ y)) ⊎ ((ends_key x y ≡ pair_key y x) × (y < x))
ends_at x y = by_order (leb_tells x y)
  where
    by_order : ((nat_le x y ≡ true) × (x ≤ y)) ⊎ ((nat_le x y ≡ false) × (y < x)) → ((ends_key x y ≡ pair_key x y) × (x ≤ y)) ⊎ ((ends_key x y ≡ pair_key y x) × (y < x))
    by_order (inl t) = inl (ap (λ (b : Bool). if b then pair_key x y else pair_key y x) t.0, t.1)
    by_order (inr t) = inr (ap (λ (b : Bool). if b then pair_key x y else pair_key y x) t.0, t.1)

ends_turned : (x y : ℕ) → ends_key x y ≡ ends_key y x
ends_turned x y = both (ends_at x y) (ends_at y x)
  where
    both : ((ends_key x y ≡ pair_key x y) × (x ≤ y)) ⊎ ((ends_key x y ≡ pair_key y x) × (y < x))
        → ((ends_key y x ≡ pair_key y x) × (y ≤ x)) ⊎ ((ends_key y x ≡ pair_key x y) × (x < y)) → ends_key x y ≡ ends_key y x
    both (inl a) (inl b) =
        let same : x ≡ y = omega (arith, a.1, b.1) in
        a.0 ∙ (ap (λ k. pair_key k y) same ∙ (ap (λ k. pair_key y k) (sym same) ∙ sym b.0))
    both (inl a) (inr b) = a.0 ∙ sym b.0
    both (inr a) (inl b) = a.0 ∙ sym b.0
    both (inr a) (inr b) = absurd (omega (arith, a.1, b.1))

ends_are : (x y u v : ℕ) → x < 2 ^ 32 → y < 2 ^ 32 → u < 2 ^ 32 → v < 2 ^ 32 → ends_key x y ≡ ends_key u v → ((x ≡ u) × (y ≡ v)) ⊎ ((x ≡ v) × (y ≡ u))
ends_are x y u v sx sy su sv e = both (ends_at x y) (ends_at u v)
  where
    both : ((ends_key x y ≡ pair_key x y) × (x ≤ y)) ⊎ ((ends_key x y ≡ pair_key y x) × (y < x))
        → ((ends_key u v ≡ pair_key u v) × (u ≤ v)) ⊎ ((ends_key u v ≡ pair_key v u) × (v < u)) → ((x ≡ u) × (y ≡ v)) ⊎ ((x ≡ v) × (y ≡ u))
    both (inl a) (inl b) = inl (pair_is x y u v sx sy su sv (sym a.0 ∙ (e ∙ b.0)))
    both (inl a) (inr b) = inr (pair_is x y v u sx sy sv su (sym a.0 ∙ (e ∙ b.0)))
    both (inr a) (inl b) = let p = pair_is y x u v sy sx su sv (sym a.0 ∙ (e ∙ b.0)) in inr (p.1, p.0)
    both (inr a) (inr b) = let p = pair_is y x v u sy sx sv su (sym a.0 ∙ (e ∙ b.0)) in inl (p.1, p.0)

-- ---- points

points_agree : {Z : Type 0} (f : Contents) (points : KeyMap Z) (y z : ℤ) (at to x u : ℕ) → AreNumbers points
    → number_by points (point_key f y at) ≡ Some x → number_by points (point_key f z to) ≡ Some u
    → (x ≡ u → AreAtOnePoint f y at z to) × (AreAtOnePoint f y at z to → x ≡ u)
unfolding point_key
points_agree f points y z at to x u h hx hu = (
  λ e. (lists_decide (point f y at) (point f z to)).0 (h.one (keys_of (point f y at)) (keys_of (point f z to)) x hx (hu ∙ ap (λ (n : ℕ). Some n) (sym e))),
  λ s. same_Some x u (sym hx ∙ (ap (number_by points) ((lists_decide (point f y at) (point f z to)).1 s) ∙ hu)),
)

module _ {Z : Type 0} (f : Contents) (points pairs : KeyMap Z) (p : AreNumbers points) (q : AreNumbers pairs) where
  pub lines_agree : (y z : ℤ) (m n : ℕ) → IsLineNumber f points pairs y m → IsLineNumber f points pairs z n → (m ≡ n) ↔ HaveSamePoints f y z
  lines_agree y z m n a b = (λ e. same (ends_are a.start a.end b.start b.end a.small_start a.small_end b.small_start b.small_end (one_key e)), λ h. number h)
    where
      at : (i j x u : ℕ) → number_by points (point_key f y i) ≡ Some x → number_by points (point_key f z j) ≡ Some u
          → (x ≡ u → AreAtOnePoint f y i z j) × (AreAtOnePoint f y i z j → x ≡ u)
      at i j x u hx hu = points_agree f points y z i j x u p hx hu

      one_key : m ≡ n → ends_key a.start a.end ≡ ends_key b.start b.end
      one_key e = q.one (ends_key a.start a.end) (ends_key b.start b.end) m a.pair (b.pair ∙ ap (λ (k : ℕ). Some k) (sym e))

      same : ((a.start ≡ b.start) × (a.end ≡ b.end)) ⊎ ((a.start ≡ b.end) × (a.end ≡ b.start)) → HaveSamePoints f y z
      same (inl e) = inl ((at 0 0 a.start b.start a.start_is b.start_is).0 e.0, (at 3 3 a.end b.end a.end_is b.end_is).0 e.1)
      same (inr e) = inr ((at 0 3 a.start b.end a.start_is b.end_is).0 e.0, (at 3 0 a.end b.start a.end_is b.start_is).0 e.1)

      by_keys : ends_key a.start a.end ≡ ends_key b.start b.end → m ≡ n
      by_keys e = same_Some m n (sym a.pair ∙ (ap (number_by pairs) e ∙ b.pair))

      number : HaveSamePoints f y z → m ≡ n
      number (inl h) =
          let s = (at 0 0 a.start b.start a.start_is b.start_is).1 h.0 in
          let t = (at 3 3 a.end b.end a.end_is b.end_is).1 h.1 in
          by_keys (ap (λ k. ends_key k a.end) s ∙ ap (λ k. ends_key b.start k) t)
      number (inr h) =
          let s = (at 0 3 a.start b.end a.start_is b.end_is).1 h.0 in
          let t = (at 3 0 a.end b.start a.end_is b.start_is).1 h.1 in
          by_keys (ap (λ k. ends_key k a.end) s ∙ (ap (λ k. ends_key b.end k) t ∙ ends_turned b.end b.start))

-- ---- numbers stay

module _ {Z : Type 0} (f : Contents) (points points' pairs pairs' : KeyMap Z) (kp : KeepsNumbers points points') (kq : KeepsNumbers pairs pairs') where
  line_kept : (z : ℤ) (n : ℕ) → IsLineNumber f points pairs z n → IsLineNumber f points' pairs' z n
  line_kept z n a = record {
    start = a.start;
    end = a.end;
    start_is = kp (point_key f z 0) a.start a.start_is;
    end_is = kp (point_key f z 3) a.end a.end_is;
    small_start = a.small_start;
    small_end = a.small_end;
    pair = kq (ends_key a.start a.end) n a.pair;
  }

  line_of_kept : (z : ℤ) (o : Option ℕ) → IsLineOf f points pairs z o → IsLineOf f points' pairs' z o
  line_of_kept z None h = h
  line_of_kept z (Some n) h = (h.0, line_kept z n h.1)

  pub lines_next : (zs : List ℤ) (os : List (Option ℕ)) (z : ℤ) (o : Option ℕ) → AllZip (IsLineOf f points pairs) zs os → IsLineOf f points' pairs' z o
      → AllZip (IsLineOf f points' pairs') (zs ++ z ∷ []) (os ++ o ∷ [])
  lines_next [] [] z o h g = (g, tt)
  lines_next [] (p ∷ os) z o h g = absurd h
  lines_next (y ∷ zs) [] z o h g = absurd h
  lines_next (y ∷ zs) (p ∷ os) z o h g = (line_of_kept y p h.0, lines_next zs os z o h.1 g)

  pub lines_further : (zs : List ℤ) (os more : List (Option ℕ)) (i : ℕ) (z : ℤ) (o : Option ℕ) → i < length zs → z ≡ get_or zs i (pos 0)
      → AllZip (IsLineOf f points pairs) (take i zs) os → IsLineOf f points' pairs' z o → more ≡ os ++ o ∷ [] → AllZip (IsLineOf f points' pairs') (take (i + 1) zs) more
  lines_further zs os more i z o lt is h g en =
      subst (λ ys. AllZip (IsLineOf f points' pairs') ys more) (ap (λ y. take i zs ++ y ∷ []) is ∙ sym (take_more zs i (pos 0) lt))
      (subst (λ ys. AllZip (IsLineOf f points' pairs') (take i zs ++ z ∷ []) ys) (sym en) (lines_next (take i zs) os z o h g))
