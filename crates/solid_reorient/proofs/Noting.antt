-- Lists that are noted by the places of entries.
use Rattle.std.specs.Prelude.{◌≡◌, ◌⊎◌, ℕ, zero, suc, ◌+◌, ◌*◌, ◌<◌, ◌≤◌, Bool, true, false, ℤ, pos, List, [], ◌∷◌, length, set, drop, replicate, slice_get}
use Rattle.std.specs.Prelude.{Option}
use Rattle.std.specs.Prelude.{Some, None, get_or, if◌then◌else◌}
use Rattle.std.specs.Ordering.{int_eq}
use Rattle.std.proofs.Common.{refl, sym, ◌∙◌, ap, subst, arith, inl, inr}
use Rattle.std.proofs.lemmas.Bool.{cond-true, cond-false, cases_order}
use Rattle.std.proofs.lemmas.Bool.Decides.{Decides-int_eq}
use Rattle.std.proofs.lemmas.List.{get_or-set_same, get_or-set_other, get_or-replicate}
use Rattle.std.proofs.lemmas.Option.{get_or_from_slice_get, none-some}
use Rattle.solid_reorient.specs.Reflagged.{flags_for}
use Rattle.solid_reorient.specs.Steps.{list_numbered, noted}
use Rattle.solid_reorient.proofs.FlagsFound.{not_equal, found_here, none_here, past_end, skip}

pos_same : (a b : ℕ) → pos a ≡ pos b → a ≡ b
pos_same a b e = cc

-- an entry that the number doesn't name
pub not_noted : (z : ℤ) (n p before : ℕ) → (z ≡ pos (2 * p + 1) → ⊥) → before ≡ noted z n p before
not_noted z n p before other = sym (cond-false (int_eq z (pos (2 * p + 1))) n before (not_equal z (pos (2 * p + 1)) other))

-- the entry that it names, and the others
pub one_set : (table : List ℕ) (z : ℤ) (m place n p : ℕ) → z ≡ pos m → m ≡ 2 * place + 1 → place < length table
    → get_or (set table place n) p 0 ≡ noted z n p (get_or table p 0)
one_set table z m place n p named odd lt = by_order (cases_order p place)
  where
    other : (p ≡ place → ⊥) → get_or (set table place n) p 0 ≡ noted z n p (get_or table p 0)
    other apart =
        get_or-set_other table place p n 0 apart
        ∙ not_noted z n p (get_or table p 0)
        (λ e. apart (let same : m ≡ 2 * p + 1 = pos_same m (2 * p + 1) (sym named ∙ e) in let half : p ≡ place = omega (arith, same, odd) in half))

    by_order : (p ≡ place) ⊎ ((p < place) ⊎ (place < p)) → get_or (set table place n) p 0 ≡ noted z n p (get_or table p 0)
    by_order (inl same) =
        ap (λ (i : ℕ). get_or (set table place n) i 0) same
        ∙ (get_or-set_same table place n 0 lt
        ∙ sym (cond-true (int_eq z (pos (2 * p + 1))) n (get_or table p 0)
        ((Decides-int_eq z (pos (2 * p + 1))).1 (named ∙ ap (λ (i : ℕ). pos i) (let e : m ≡ 2 * p + 1 = omega (arith, odd, same) in e)))))
    by_order (inr (inl below)) = other (λ e. absurd (omega (arith, e, below)))
    by_order (inr (inr above)) = other (λ e. absurd (omega (arith, e, above)))

-- ---- the lists for the shells from one on

past_get : (flags : List (List Bool)) (k : ℕ) → slice_get flags k ≡ None → (get_or flags k [] ≡ []) × (length flags ≤ k)
past_get [] k e = (refl, omega arith)
past_get (x ∷ flags) zero e = absurd (none-some x (sym e))
past_get (x ∷ flags) (suc k) e = let rest = past_get flags k e in (rest.0, omega (arith, rest.1))

next_numbered : (flags : List (List Bool)) (k : ℕ) → list_numbered flags (k + 1) ≡ get_or flags k []
next_numbered flags k = let next : k + 1 ≡ suc k = omega arith in ap (list_numbered flags) next

pub none_told : (flags : List (List Bool)) (zs : List ℤ) (count k p n : ℕ) → p < count → length zs ≤ k → n ≡ get_or (replicate count 0) p 0
    → list_numbered flags n ≡ flags_for (drop k flags) (drop k zs) (2 * p + 1)
none_told flags zs count k p n lt past is =
    ap (list_numbered flags) (is ∙ get_or-replicate count p 0 0 lt) ∙ sym (past_end flags zs k (2 * p + 1) past)

pub more_told : (flags : List (List Bool)) (zs : List ℤ) (k p : ℕ) (z : ℤ) (old new : ℕ) → k < length zs → slice_get zs k ≡ Some z
    → list_numbered flags old ≡ flags_for (drop (k + 1) flags) (drop (k + 1) zs) (2 * p + 1) → new ≡ noted z (k + 1) p old
    → list_numbered flags new ≡ flags_for (drop k flags) (drop k zs) (2 * p + 1)
more_told flags zs k p z old new lt at before is = ap (list_numbered flags) is ∙ by_test (int_eq z (pos (2 * p + 1))) refl
  where
    by_list : (o : Option (List Bool)) → slice_get flags k ≡ o → z ≡ pos (2 * p + 1) → get_or flags k [] ≡ flags_for (drop k flags) (drop k zs) (2 * p + 1)
    by_list (Some x) e named = get_or_from_slice_get flags k x [] e ∙ sym (found_here flags zs k (2 * p + 1) x z e at named)
    by_list None e named = let past = past_get flags k e in past.0 ∙ sym (none_here flags zs k (2 * p + 1) past.1)

    by_test : (b : Bool) → int_eq z (pos (2 * p + 1)) ≡ b → list_numbered flags (if b then k + 1 else old)
        ≡ flags_for (drop k flags) (drop k zs) (2 * p + 1)
    by_test true t = next_numbered flags k ∙ by_list (slice_get flags k) refl ((Decides-int_eq z (pos (2 * p + 1))).0 t)
    by_test false t =
        before ∙ sym (skip flags zs k (2 * p + 1) lt
        (λ y there. subst (λ (w : ℤ). int_eq w (pos (2 * p + 1)) ≡ false) (let same : z ≡ y = one_item z y (sym at ∙ there) in same) t))
      where
        one_item : (a b : ℤ) → Some a ≡ Some b → a ≡ b
        one_item a b e = cc

pub int_at : (xs : List ℤ) (i : ℕ) → i < length xs → slice_get xs i ≡ Some (get_or xs i (pos 0))
int_at [] i lt = absurd (omega (arith, lt))
int_at (x ∷ xs) zero lt = refl
int_at (x ∷ xs) (suc i) lt = int_at xs i (omega (arith, lt))

pub any_default : (xs : List ℕ) (i d e : ℕ) → i < length xs → get_or xs i d ≡ get_or xs i e
any_default [] i d e lt = absurd (omega (arith, lt))
any_default (x ∷ xs) zero d e lt = refl
any_default (x ∷ xs) (suc i) d e lt = any_default xs i d e (omega (arith, lt))
