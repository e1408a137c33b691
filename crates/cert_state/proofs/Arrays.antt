-- Arrays of mates and of faces, after a write.
use Rattle.std.specs.Prelude.{◌≡◌, ℕ, zero, suc, ◌-◌, ◌<◌, ◌≤◌, ◌==◌, ◌≢◌, ◌⊎◌, Bool, true, false, List, [], ◌∷◌, length, Contains, Some, slice_get, slice_set}
use Rattle.std.specs.Prelude.{replicate}
use Rattle.std.proofs.Common.{refl, sym, ◌∙◌, ap, arith, inl, inr, ⊎_elim, get_or}
use Rattle.std.proofs.lemmas.Bool.Decides.{eqb_tells}
use Rattle.std.proofs.lemmas.Bool.{cases_lt}
use Rattle.std.proofs.lemmas.List.{get_or-replicate, get_or_past, length-replicate, length-set}
use Rattle.std.proofs.lemmas.Option.{same_Some}
use Rattle.solid_data.proofs.Members.{Has, Has-from_Contains, Contains-from_Has}
use Rattle.cert_state.specs.Progress.{IsMate}
use Rattle.cert_state.specs.CheckState.{above_zero, mate_in, HoldsMates, HoldsFaces}

pub get_set_same : {A : Type 0} (xs : List A) (k : ℕ) (v : A) → k < length xs → slice_get (slice_set xs k v) k ≡ Some v
get_set_same [] k v h = absurd (omega (arith, h))
get_set_same (x ∷ xs) zero v h = refl
get_set_same (x ∷ xs) (suc k) v h = get_set_same xs k v (omega (arith, h))

pub get_set_other : {A : Type 0} (xs : List A) (k j : ℕ) (v : A) → (k ≡ j → ⊥) → slice_get (slice_set xs k v) j ≡ slice_get xs j
get_set_other [] k j v ne = refl
get_set_other (x ∷ xs) zero zero v ne = absurd (ne refl)
get_set_other (x ∷ xs) zero (suc j) v ne = refl
get_set_other (x ∷ xs) (suc k) zero v ne = refl
get_set_other (x ∷ xs) (suc k) (suc j) v ne = get_set_other xs k j v (λ e. ne (ap suc e))

above_is : (v : ℕ) → 0 < v → above_zero (Some v) ≡ Some v
above_is zero h = absurd (omega (arith, h))
above_is (suc v) h = refl

mate_same : (ms : List ℕ) (a v : ℕ) → 0 < a → a ≤ length ms → 0 < v → mate_in (slice_set ms (a - 1) v) a ≡ Some v
mate_same ms zero v pos within some = absurd (omega (arith, pos))
mate_same ms (suc k) v pos within some =
    let e : suc k - 1 ≡ k = omega arith in
    ap (λ n. above_zero (slice_get (slice_set ms n v) k)) e ∙ (ap above_zero (get_set_same ms k v (omega (arith, within))) ∙ above_is v some)

mate_other : (ms : List ℕ) (a r v : ℕ) → 0 < a → (r ≡ a → ⊥) → mate_in (slice_set ms (a - 1) v) r ≡ mate_in ms r
mate_other ms a zero v pos ne = refl
mate_other ms a (suc j) v pos ne = ap above_zero (get_set_other ms (a - 1) j v (λ e. ne (omega (arith, e, pos))))

-- the array of mates with two rows more
abbrev pub with_mates : List ℕ → ℕ → ℕ → List ℕ
with_mates ms a b = slice_set (slice_set ms (a - 1) b) (b - 1) a

-- what a row's mate is then
abbrev pub MateCases : List ℕ → ℕ → ℕ → ℕ → ℕ → Type 0
MateCases ms a b r m = ((r ≡ a) × (m ≡ b)) ⊎ (((r ≡ b) × (m ≡ a)) ⊎ (mate_in ms r ≡ Some m))

pub record CanMate (ms : List ℕ) (a b : ℕ) : Type 0 where
  pub pos_a : 0 < a
  pub pos_b : 0 < b
  pub within_a : a ≤ length ms
  pub within_b : b ≤ length ms
  pub differ : a ≡ b → ⊥
  pub free_a : (m : ℕ) → mate_in ms a ≡ Some m → ⊥
  pub free_b : (m : ℕ) → mate_in ms b ≡ Some m → ⊥

pub mate_cases : (ms : List ℕ) (a b r m : ℕ) → CanMate ms a b → mate_in (with_mates ms a b) r ≡ Some m → MateCases ms a b r m
mate_cases ms a b r m can h = by_b (eqb_tells r b) (eqb_tells r a)
  where
    by_b : (((r == b) ≡ true) × (r ≡ b)) ⊎ (((r == b) ≡ false) × (r ≢ b)) → (((r == a) ≡ true) × (r ≡ a)) ⊎ (((r == a) ≡ false) × (r ≢ a))
        → MateCases ms a b r m
    by_b (inl y) other =
        let w : b ≤ length (slice_set ms (a - 1) b) = omega (arith, can.within_b, length-set ms (a - 1) b) in
        let e : mate_in (with_mates ms a b) b ≡ Some a = mate_same (slice_set ms (a - 1) b) b a can.pos_b w can.pos_a in
        inr (inl (y.1, same_Some m a (sym h ∙ (ap (mate_in (with_mates ms a b)) y.1 ∙ e))))
    by_b (inr n) (inl y) =
        let off : mate_in (with_mates ms a b) r ≡ mate_in (slice_set ms (a - 1) b) r = mate_other (slice_set ms (a - 1) b) b r a can.pos_b n.1 in
        let e : mate_in (slice_set ms (a - 1) b) a ≡ Some b = mate_same ms a b can.pos_a can.within_a can.pos_b in
        inl (y.1, same_Some m b (sym h ∙ (off ∙ (ap (mate_in (slice_set ms (a - 1) b)) y.1 ∙ e))))
    by_b (inr n) (inr k) =
        let off : mate_in (with_mates ms a b) r ≡ mate_in (slice_set ms (a - 1) b) r = mate_other (slice_set ms (a - 1) b) b r a can.pos_b n.1 in
        let off2 : mate_in (slice_set ms (a - 1) b) r ≡ mate_in ms r = mate_other ms a r b can.pos_a k.1 in
        inr (inr (sym off2 ∙ (sym off ∙ h)))

mate_first : (ms : List ℕ) (a b : ℕ) → CanMate ms a b → mate_in (with_mates ms a b) a ≡ Some b
mate_first ms a b can = mate_other (slice_set ms (a - 1) b) b a a can.pos_b can.differ ∙ mate_same ms a b can.pos_a can.within_a can.pos_b

mate_second : (ms : List ℕ) (a b : ℕ) → CanMate ms a b → mate_in (with_mates ms a b) b ≡ Some a
mate_second ms a b can = mate_same (slice_set ms (a - 1) b) b a can.pos_b (omega (arith, can.within_b, length-set ms (a - 1) b)) can.pos_a

mate_kept : (ms : List ℕ) (a b r m : ℕ) → CanMate ms a b → mate_in ms r ≡ Some m → mate_in (with_mates ms a b) r ≡ Some m
mate_kept ms a b r m can h =
    mate_other (slice_set ms (a - 1) b) b r a can.pos_b (λ e. can.free_b m (ap (mate_in ms) (sym e) ∙ h))
    ∙ (mate_other ms a r b can.pos_a (λ e. can.free_a m (ap (mate_in ms) (sym e) ∙ h)) ∙ h)

pair_parts : (p q : ℕ × ℕ) → p ≡ q → (p.0 ≡ q.0) × (p.1 ≡ q.1)
pair_parts p q e = (ap (λ (x : ℕ × ℕ). x.0) e, ap (λ (x : ℕ × ℕ). x.1) e)

same_pair : (a b x y : ℕ) → x ≡ a → y ≡ b → (let p : ℕ × ℕ = (a, b) in let q : ℕ × ℕ = (x, y) in p ≡ q)
same_pair a b x y e f = ap (λ n. (n, b)) (sym e) ∙ ap (λ n. (x, n)) (sym f)

pub mates_more : (ms : List ℕ) (pairs : List (ℕ × ℕ)) (a b : ℕ) → CanMate ms a b → HoldsMates ms pairs → HoldsMates (with_mates ms a b) ((a, b) ∷ pairs)
mates_more ms pairs a b can holds r m = (to, from)
  where
    to : IsMate ((a, b) ∷ pairs) r m → mate_in (with_mates ms a b) r ≡ Some m
    to h = ⊎_elim (λ c. ahead (Has-from_Contains ((a, b) ∷ pairs) (r, m) c)) (λ c. behind (Has-from_Contains ((a, b) ∷ pairs) (m, r) c)) h
      where
        ahead : Has ((a, b) ∷ pairs) (r, m) → mate_in (with_mates ms a b) r ≡ Some m
        ahead (inl e) =
            let p = pair_parts (a, b) (r, m) e in
            ap (mate_in (with_mates ms a b)) (sym p.0) ∙ (mate_first ms a b can ∙ ap (λ z. Some z) p.1)
        ahead (inr k) = mate_kept ms a b r m can ((holds r m).0 (inl (Contains-from_Has pairs (r, m) k)))

        behind : Has ((a, b) ∷ pairs) (m, r) → mate_in (with_mates ms a b) r ≡ Some m
        behind (inl e) =
            let p = pair_parts (a, b) (m, r) e in
            ap (mate_in (with_mates ms a b)) (sym p.1) ∙ (mate_second ms a b can ∙ ap (λ z. Some z) p.0)
        behind (inr k) = mate_kept ms a b r m can ((holds r m).0 (inr (Contains-from_Has pairs (m, r) k)))

    from : mate_in (with_mates ms a b) r ≡ Some m → IsMate ((a, b) ∷ pairs) r m
    from h = by_case (mate_cases ms a b r m can h)
      where
        by_case : MateCases ms a b r m → IsMate ((a, b) ∷ pairs) r m
        by_case (inl p) = inl (Contains-from_Has ((a, b) ∷ pairs) (r, m) (inl (same_pair a b r m p.0 p.1)))
        by_case (inr (inl p)) = inr (Contains-from_Has ((a, b) ∷ pairs) (m, r) (inl (same_pair a b m r p.1 p.0)))
        by_case (inr (inr k)) =
            ⊎_elim (λ c. inl (Contains-from_Has ((a, b) ∷ pairs) (r, m) (inr (Has-from_Contains pairs (r, m) c))))
            (λ c. inr (Contains-from_Has ((a, b) ∷ pairs) (m, r) (inr (Has-from_Contains pairs (m, r) c)))) ((holds r m).1 k)

-- an array of zeros tells no mate
no_above : (ms : List ℕ) (r m : ℕ) → ((k : ℕ) → get_or ms k 0 ≡ 0) → above_zero (slice_get ms r) ≡ Some m → ⊥
no_above [] r m all e = absurd cc
no_above (x ∷ ms) zero m all e = zero_above x m (all 0) e
  where
    zero_above : (x m : ℕ) → x ≡ 0 → above_zero (Some x) ≡ Some m → ⊥
    zero_above zero m z e = absurd cc
    zero_above (suc x) m z e = omega (arith, z)
no_above (x ∷ ms) (suc r) m all e = no_above ms r m (λ k. all (suc k)) e

pub none_in_zeros : (ms : List ℕ) (r m : ℕ) → ((k : ℕ) → get_or ms k 0 ≡ 0) → mate_in ms r ≡ Some m → ⊥
none_in_zeros ms zero m all e = absurd cc
none_in_zeros ms (suc r) m all e = no_above ms r m all e

pub no_mates : (ms : List ℕ) → ((k : ℕ) → get_or ms k 0 ≡ 0) → HoldsMates ms []
no_mates ms all r m = (
  λ h. absurd (⊎_elim (λ c. Has-from_Contains [] (r, m) c) (λ c. Has-from_Contains [] (m, r) c) h),
  λ e. absurd
      (none_in_zeros ms r m all e),
)

-- the faces, with one more
pub faces_more : (reached : List Bool) (first f : ℕ) (others : List ℕ) → f < length reached → HoldsFaces reached (first ∷ others)
    → HoldsFaces (slice_set reached f true) (first ∷ f ∷ others)
faces_more reached first f others within holds g = (to, from (eqb_tells f g))
  where
    was : Has (first ∷ others) g → slice_get (slice_set reached f true) g ≡ Some true
    was k = by_place (eqb_tells f g)
      where
        by_place : (((f == g) ≡ true) × (f ≡ g)) ⊎ (((f == g) ≡ false) × (f ≢ g)) → slice_get (slice_set reached f true) g ≡ Some true
        by_place (inl y) = ap (slice_get (slice_set reached f true)) (sym y.1) ∙ get_set_same reached f true within
        by_place (inr n) = get_set_other reached f g true n.1 ∙ (holds g).0 (Contains-from_Has (first ∷ others) g k)

    to : Contains (first ∷ f ∷ others) g → slice_get (slice_set reached f true) g ≡ Some true
    to c = by_has (Has-from_Contains (first ∷ f ∷ others) g c)
      where
        by_has : Has (first ∷ f ∷ others) g → slice_get (slice_set reached f true) g ≡ Some true
        by_has (inl e) = was (inl e)
        by_has (inr (inl e)) = ap (slice_get (slice_set reached f true)) (sym e) ∙ get_set_same reached f true within
        by_has (inr (inr k)) = was (inr k)

    from : (((f == g) ≡ true) × (f ≡ g)) ⊎ (((f == g) ≡ false) × (f ≢ g)) → slice_get (slice_set reached f true) g ≡ Some true → Contains (first ∷ f ∷ others) g
    from (inl y) h = Contains-from_Has (first ∷ f ∷ others) g (inr (inl y.1))
    from (inr n) h = Contains-from_Has (first ∷ f ∷ others) g
        (with_f (Has-from_Contains (first ∷ others) g ((holds g).1 (sym (get_set_other reached f g true n.1) ∙ h))))
      where
        with_f : Has (first ∷ others) g → Has (first ∷ f ∷ others) g
        with_f (inl e) = inl e
        with_f (inr k) = inr (inr k)

pub zeros : (ms : List ℕ) (n : ℕ) → ms ≡ replicate {A = ℕ} n 0 → (k : ℕ) → get_or ms k 0 ≡ 0
zeros ms n e k = ap (λ xs. get_or xs k 0) e ∙ by_place (cases_lt k n)
  where
    by_place : (k < n) ⊎ (n ≤ k) → get_or (replicate {A = ℕ} n 0) k 0 ≡ 0
    by_place (inl lt) = get_or-replicate n k 0 0 lt
    by_place (inr le) = let z : ℕ = 0 in get_or_past (replicate n z) k z (omega (arith, le, length-replicate n z))

pub length_zeros : (ms : List ℕ) (n : ℕ) → ms ≡ replicate {A = ℕ} n 0 → length ms ≡ n
length_zeros ms n e = let z : ℕ = 0 in ap (λ (xs : List ℕ). length xs) e ∙ length-replicate n z
