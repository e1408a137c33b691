-- Numbers by keys.
use Rattle.std.specs.Prelude.{◌≡◌, ◌⊎◌, ℕ, ◌<◌, ◌+◌, Bool, true, false, cond, List, [], ◌∷◌, Option, Some, None, is_some, if◌then◌else◌}
use Rattle.std.specs.BTreeMap.{btree_map_len}
use Rattle.std.specs.Cmp.Lexicographic.{slice_cmp}
use Rattle.std.specs.Map.{lookup}
use Rattle.std.specs.Ordering.{is_eq, nat_cmp}
use Rattle.std.specs.declared.vec.Vec.{Vec}
use Rattle.std.proofs.Common.{Ordering, Less, Equal, Greater, refl, sym, ◌∙◌, ap, subst, arith, inl, inr}
use Rattle.std.proofs.lemmas.Cmp.{nat_list_cmp_total, tied_itself}
use Rattle.std.proofs.lemmas.Map.Lookups.{exact_bytes}
use Rattle.std.proofs.lemmas.Option.{same_Some, none-some}
use Rattle.record_numbers.specs.Keys.{KeyMap, number_by, KeepsNumbers, AreNumbers}

abbrev pub same : List ℕ → List ℕ → Bool
same a b = is_eq (slice_cmp nat_cmp a b)

true_false : true ≡ false → ⊥
true_false e = cc

same_is : (a b : List ℕ) → same a b ≡ true → a ≡ b
same_is a b e = exact_bytes a b (equal (slice_cmp nat_cmp a b) e)
  where
    equal : (o : Ordering) → is_eq o ≡ true → o ≡ Equal
    equal Less e = absurd (true_false (sym e))
    equal Equal e = refl
    equal Greater e = absurd (true_false (sym e))

same_itself : (a : List ℕ) → same a a ≡ true
same_itself a = ap is_eq (tied_itself nat_list_cmp_total a)

-- a key that has a number stands in the map
stored : {Z : Type 0} (es : List (Vec ℕ Z × ℕ)) (p : List ℕ) (x : ℕ) → lookup (λ k. same p k.items) es ≡ Some x → (k : Vec ℕ Z) × (k.items ≡ p)
stored [] p x h = absurd (none-some x h)
stored {Z} (e ∷ es) p x h = by_test (same p e.0.items) refl h (λ g. stored es p x g)
  where
    by_test : (b : Bool) → same p e.0.items ≡ b → cond b (Some e.1) (lookup (λ k. same p k.items) es) ≡ Some x
        → (lookup (λ k. same p k.items) es ≡ Some x → (k : Vec ℕ Z) × (k.items ≡ p)) → (k : Vec ℕ Z) × (k.items ≡ p)
    by_test true t g later = (e.0, sym (same_is p e.0.items t))
    by_test false t g later = later g

-- ---- a key with a number is put

module _ {Z : Type 0} (m n : KeyMap Z) (key : List ℕ) (v : ℕ) where
  abbrev pub Puts : Type 0
  Puts = (q : Vec ℕ Z) → number_by n q.items ≡ cond (same key q.items) (Some v) (number_by m q.items)

  after_at : (p : List ℕ) (x : ℕ) (b : Bool) → same key p ≡ b → cond b (Some v) (number_by m p) ≡ Some x → ((p ≡ key) × (x ≡ v)) ⊎ (number_by m p ≡ Some x)
  after_at p x true t h = inl (sym (same_is key p t), sym (same_Some v x h))
  after_at p x false t h = inr h

  after : Puts → (p : List ℕ) (x : ℕ) → number_by n p ≡ Some x → ((p ≡ key) × (x ≡ v)) ⊎ (number_by m p ≡ Some x)
  after puts p x h =
      let k = stored n.entries p x h in
      subst (λ q. ((q ≡ key) × (x ≡ v)) ⊎ (number_by m q ≡ Some x)) k.1
      (after_at k.0.items x (same key k.0.items) refl (sym (puts k.0) ∙ (ap (number_by n) k.1 ∙ h)))

  kept_at : (p : List ℕ) (x : ℕ) (b : Bool) → same key p ≡ b → number_by m key ≡ None → number_by m p ≡ Some x → cond b (Some v) (number_by m p) ≡ Some x
  kept_at p x true t none h = absurd (none-some x (sym none ∙ (ap (number_by m) (same_is key p t) ∙ h)))
  kept_at p x false t none h = h

  pub puts_keeps : Puts → number_by m key ≡ None → KeepsNumbers m n
  puts_keeps puts none p x h =
      let k = stored m.entries p x h in
      ap (number_by n) (sym k.1) ∙ (puts k.0 ∙ kept_at k.0.items x (same key k.0.items) refl none (ap (number_by m) k.1 ∙ h))

  pub puts_numbers : Puts → (old : Option ℕ) → old ≡ None → btree_map_len n ≡ btree_map_len m + (if is_some old then 0 else 1) → v ≡ btree_map_len m
      → AreNumbers m → AreNumbers n
  puts_numbers puts old none len is h = record {
    one = λ p q x a b. both p q x (after puts p x a) (after puts q x b);
    below = λ p x a. within p x (after puts p x a);
  }
    where
      more : btree_map_len n ≡ btree_map_len m + 1
      more = len ∙ ap (λ (o : Option ℕ). btree_map_len m + (if is_some o then 0 else 1)) none

      both : (p q : List ℕ) (x : ℕ) → ((p ≡ key) × (x ≡ v)) ⊎ (number_by m p ≡ Some x) → ((q ≡ key) × (x ≡ v)) ⊎ (number_by m q ≡ Some x) → p ≡ q
      both p q x (inl a) (inl b) = a.0 ∙ sym b.0
      both p q x (inl a) (inr b) = absurd (let lt = h.below q x b in omega (arith, a.1, is, lt))
      both p q x (inr a) (inl b) = absurd (let lt = h.below p x a in omega (arith, b.1, is, lt))
      both p q x (inr a) (inr b) = h.one p q x a b

      within : (p : List ℕ) (x : ℕ) → ((p ≡ key) × (x ≡ v)) ⊎ (number_by m p ≡ Some x) → x < btree_map_len n
      within p x (inl a) = omega (arith, a.1, is, more)
      within p x (inr a) = let lt = h.below p x a in omega (arith, lt, more)

-- no key has a number yet
pub numbers_none : {Z : Type 0} (m : KeyMap Z) → m.entries ≡ [] → AreNumbers m
numbers_none {Z} m empty = record { one = λ p q x a b. absurd (none p x a); below = λ p x a. absurd (none p x a) }
  where
    none : (p : List ℕ) (x : ℕ) → number_by m p ≡ Some x → ⊥
    none p x a = none-some x (sym (ap (lookup (λ k. same p k.items)) empty) ∙ a)
