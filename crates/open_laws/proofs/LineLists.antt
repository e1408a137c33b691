-- Lists that are told by numbers, and walks that go one way.
use Rattle.std.specs.Prelude.{◌≡◌, ℕ, zero, suc, ◌+◌, ◌≤◌, ◌<◌, Bool, true, false, cond, List, [], ◌∷◌, length, filter, filter_map, Option, Some, None}
use Rattle.std.specs.List.{AllByRecursion, cons_option}
use Rattle.std.proofs.Common.{refl, sym, ◌∙◌, ap, subst, arith, inl, inr, ⊎_elim}
use Rattle.solid_data.specs.Chain.{Steps}
use Rattle.solid_data.proofs.Members.{Has, All-at, covers}
use Rattle.solid_data.proofs.Trail.{Trail}
use Rattle.cert_state.proofs.Segment.{Falls, falls_none}
use Rattle.open_certificate.specs.Progress.{IsChain, last_of}

-- ---- numbers that fall

at_most : (x : ℕ) (xs : List ℕ) (y : ℕ) → Falls (x ∷ xs) → Has (x ∷ xs) y → y ≤ x
at_most x xs y falls (inl e) = omega (arith, e)
at_most x xs y falls (inr m) = let lt : y < x = All-at (λ z. z < x) xs falls.0 y m in omega (arith, lt)

-- they are told by which they are
pub falls_same : (xs ys : List ℕ) → Falls xs → Falls ys → ((x : ℕ) → Has xs x → Has ys x) → ((x : ℕ) → Has ys x → Has xs x) → xs ≡ ys
falls_same [] [] a b p q = refl
falls_same [] (y ∷ ys) a b p q = absurd (q y (inl refl))
falls_same (x ∷ xs) [] a b p q = absurd (p x (inl refl))
falls_same (x ∷ xs) (y ∷ ys) a b p q =
    let first : x ≡ y = omega (arith, at_most y ys x b (p x (inl refl)), at_most x xs y a (q y (inl refl))) in
    ap (λ z. z ∷ xs) first
    ∙ ap (λ zs. y ∷ zs) (falls_same xs ys a.1 b.1
    (λ z m. ⊎_elim (λ e. absurd (let lt : z < x = All-at (λ w. w < x) xs a.0 z m in omega (arith, lt, e, first))) (λ k. k) (p z (inr m)))
    (λ z m. ⊎_elim (λ e. absurd (let lt : z < y = All-at (λ w. w < y) ys b.0 z m in omega (arith, lt, e, first))) (λ k. k) (q z (inr m))))

-- Two that have all of a list, and nothing else, are one.
pub all_of_one : (all xs ys : List ℕ) → Falls xs → Falls ys → ((x : ℕ) → Has xs x → Has all x) → ((x : ℕ) → Has ys x → Has all x)
    → length all ≤ length xs → length all ≤ length ys → xs ≡ ys
all_of_one all xs ys a b p q many_x many_y =
    falls_same xs ys a b (λ x m. covers ys all (falls_none ys b) q many_y x (p x m)) (λ x m. covers xs all (falls_none xs a) p many_x x (q x m))

-- the first, with greater ones behind it, is the least
pub least_of : (r : ℕ) (rs : List ℕ) (x : ℕ) → AllByRecursion (λ y. r < y) rs → Has (r ∷ rs) x → r ≤ x
least_of r rs x least (inl e) = omega (arith, e)
least_of r rs x least (inr m) = let lt : r < x = All-at (λ y. r < y) rs least x m in omega (arith, lt)

-- ---- items with keys

pub some_here : (j k : ℕ) (js ks : List ℕ) → j ∷ js ≡ k ∷ ks → j ≡ k
some_here j k js ks e = cc

pub some_later : (j k : ℕ) (js ks : List ℕ) → j ∷ js ≡ k ∷ ks → js ≡ ks
some_later j k js ks e = cc

-- Q tells the item of a key.
pub keyed_same : {A : Type 0} (key : A → Option ℕ) (Q : A → ℕ → Type 0) → ((x y : A) (k : ℕ) → Q x k → Q y k → x ≡ y) → (xs ys : List A)
    → ((x : A) → Has xs x → (k : ℕ) × (key x ≡ Some k) × Q x k) → ((x : A) → Has ys x → (k : ℕ) × (key x ≡ Some k) × Q x k)
    → filter_map key xs ≡ filter_map key ys → xs ≡ ys
keyed_same key Q one [] [] p q e = refl
keyed_same key Q one [] (y ∷ ys) p q e =
    let l = q y (inl refl) in absurd (none_some l.0 (filter_map key ys) (e ∙ ap (λ o. cons_option o (filter_map key ys)) l.1))
  where
    none_some : (k : ℕ) (ks : List ℕ) → [] ≡ k ∷ ks → ⊥
    none_some k ks h = cc
keyed_same key Q one (x ∷ xs) [] p q e =
    let k = p x (inl refl) in absurd (some_none k.0 (filter_map key xs) (sym (ap (λ o. cons_option o (filter_map key xs)) k.1) ∙ e))
  where
    some_none : (k : ℕ) (ks : List ℕ) → k ∷ ks ≡ [] → ⊥
    some_none k ks h = cc
keyed_same key Q one (x ∷ xs) (y ∷ ys) p q e =
    let k = p x (inl refl) in
    let l = q y (inl refl) in
    let both : k.0 ∷ filter_map key xs ≡ l.0 ∷ filter_map key ys =
    sym (ap (λ o. cons_option o (filter_map key xs)) k.1) ∙ (e ∙ ap (λ o. cons_option o (filter_map key ys)) l.1) in
    let same : k.0 ≡ l.0 = some_here k.0 l.0 (filter_map key xs) (filter_map key ys) both in
    ap (λ z. z ∷ xs) (one x y l.0 (subst (Q x) same k.2) l.2)
    ∙ ap (λ zs. y ∷ zs) (keyed_same key Q one xs ys (λ z m. p z (inr m)) (λ z m. q z (inr m))
    (some_later k.0 l.0 (filter_map key xs) (filter_map key ys) both))

-- the items that pass have all keys, if the others have none
pub keys_of_passing : {A B : Type 0} (test : A → Bool) (key : A → Option B) → ((x : A) → test x ≡ false → key x ≡ None) → (xs : List A)
    → filter_map key (filter test xs) ≡ filter_map key xs
keys_of_passing test key none [] = refl
keys_of_passing test key none (x ∷ xs) = by_test (test x) refl (keys_of_passing test key none xs)
  where
    by_test : (b : Bool) → test x ≡ b → filter_map key (filter test xs) ≡ filter_map key xs
        → filter_map key (cond b (x ∷ filter test xs) (filter test xs)) ≡ filter_map key (x ∷ xs)
    by_test true e rest = ap (cons_option (key x)) rest
    by_test false e rest = rest ∙ sym (ap (λ o. cons_option o (filter_map key xs)) (none x e))

pub passing : {A : Type 0} (test : A → Bool) (xs : List A) (x : A) → Has (filter test xs) x → Has xs x × (test x ≡ true)
passing test [] x h = absurd h
passing test (y ∷ xs) x h = by_test (test y) refl h (λ m. passing test xs x m)
  where
    by_test : (b : Bool) → test y ≡ b → Has (cond b (y ∷ filter test xs) (filter test xs)) x → (Has (filter test xs) x → Has xs x × (test x ≡ true))
        → Has (y ∷ xs) x × (test x ≡ true)
    by_test true e (inl same) more = (inl same, ap test (sym same) ∙ e)
    by_test true e (inr m) more = let k = more m in (inr k.0, k.1)
    by_test false e m more = let k = more m in (inr k.0, k.1)

-- ---- walks of a relation that leads to one number at most

module _ (R : ℕ → ℕ → Type 0) (one : (x y z : ℕ) → R x y → R x z → y ≡ z) where
  -- a trail that comes back to a number is told by where it starts
  pub trail_same : (x : ℕ) (xs ys : List ℕ) (z : ℕ) → Trail R x xs z → (Has xs z → ⊥) → Trail R x ys z → (Has ys z → ⊥) → xs ≡ ys
  trail_same x [] [] z t p u q = refl
  trail_same x [] (b ∷ ys) z t p u q = absurd (q (inl (sym (one x z b t u.0))))
  trail_same x (a ∷ xs) [] z t p u q = absurd (p (inl (sym (one x z a u t.0))))
  trail_same x (a ∷ xs) (b ∷ ys) z t p u q =
      let first : a ≡ b = one x a b t.0 u.0 in
      ap (λ n. n ∷ xs) first
      ∙ ap (λ ns. b ∷ ns) (trail_same a xs ys z t.1 (λ m. p (inr m)) (subst (λ n. Trail R n ys z) (sym first) u.1) (λ m. q (inr m)))

  -- a chain to a number that leads nowhere is
  pub chain_same : (x : ℕ) (xs ys : List ℕ) → IsChain R x xs → ((w : ℕ) → R (last_of x xs) w → ⊥) → IsChain R x ys → ((w : ℕ) → R (last_of x ys) w → ⊥)
      → xs ≡ ys
  chain_same x [] [] c p d q = refl
  chain_same x [] (b ∷ ys) c p d q = absurd (p b d.0)
  chain_same x (a ∷ xs) [] c p d q = absurd (q a c.0)
  chain_same x (a ∷ xs) (b ∷ ys) c p d q =
      let first : a ≡ b = one x a b c.0 d.0 in
      ap (λ n. n ∷ xs) first
      ∙ ap (λ ns. b ∷ ns) (chain_same a xs ys c.1 p (subst (λ n. IsChain R n ys) (sym first) d.1)
      (λ w r. q w (subst (λ n. R (last_of n ys) w) first r)))

  -- Steps to a number that leads nowhere go on from each other number on the way.
  pub steps_left : (n m a b c : ℕ) → Steps R n a b → Steps R m a c → ((w : ℕ) → R c w → ⊥) → (k : ℕ) × (m ≡ n + k) × Steps R k b c
  steps_left zero m a b c e s stuck = (m, omega arith, subst (λ x. Steps R m x c) e s)
  steps_left (suc n) zero a b c (x, r, rest) e stuck = absurd (stuck x (subst (λ y. R y x) e r))
  steps_left (suc n) (suc m) a b c (x, r, rest) (y, t, more) stuck =
      let k = steps_left n m x b c rest (subst (λ z. Steps R m z c) (sym (one a x y r t)) more) stuck in
      (k.0, omega (arith, k.1), k.2)

pub chain_steps : (R : ℕ → ℕ → Type 0) (x : ℕ) (xs : List ℕ) → IsChain R x xs → Steps R (length xs) x (last_of x xs)
chain_steps R x [] c = refl
chain_steps R x (y ∷ ys) c = (y, c.0, chain_steps R y ys c.1)
