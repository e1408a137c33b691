-- Items by number.
use Rattle.std.specs.Prelude.{◌≡◌, ◌≢◌, ℕ, zero, suc, ◌+◌, ◌-◌, ◌*◌, ◌<◌, Bool, ℤ, List, ◌∷◌, map, drop, Some, slice_get}
use Rattle.std.proofs.Common.{refl, sym, ◌∙◌, ap, arith, lit<}
use Rattle.iges_fields.specs.declared.value.Value.{Value}
use Rattle.brep_lists.specs.Record.{flag_of, int_at, flag_at, groups, pair_read}
use Rattle.brep_lists.proofs.Stride.{loop_read}
use Rattle.brep_lists.proofs.Views.{item_at, first_read_at, read_at}

same_pair : {A B : Type 0} {a a' : A} {b b' : B} → a ≡ a' → b ≡ b' → ◌≡◌ {A = A × B} (a, b) (a', b')
same_pair {A} {B} {a} {a'} {b} {b'} e f = let p : ◌≡◌ {A = A × B} (a, b) (a', b) = ap (λ x. (x, b)) e in p ∙ ap (λ y. (a', y)) f

pub pair_item : (n i base : ℕ) (vs : List Value) (z : ℤ) (b : Bool) → i < n → z ≡ int_at vs (base + i * 2) → b ≡ flag_at vs (base + i * 2 + 1)
    → Some (z, b) ≡ slice_get (map pair_read (groups 2 n (drop base vs))) i
pair_item n i base vs z b h e f =
    ap Some (same_pair (first_read_at 2 (base + i * 2) vs z (lit< tt) e) (f ∙ sym (ap flag_of (read_at 2 (base + i * 2) 1 vs (lit< tt)))))
    ∙ sym (item_at pair_read 2 n i base vs h)

pub loop_item : (n i : ℕ) (vs : List Value) (z : ℤ) → i < n → z ≡ int_at vs (3 + i) → Some z ≡ slice_get (map loop_read (groups 1 n (drop 3 vs))) i
loop_item n i vs z h e =
    let at : 3 + i ≡ 3 + i * 1 = omega arith in
    ap Some (first_read_at 1 (3 + i * 1) vs z (lit< tt) (e ∙ ap (int_at vs) at)) ∙ sym (item_at loop_read 1 n i 3 vs h)

pub later : {X : Type 0} (x : X) (xs : List X) (i : ℕ) → i ≢ 0 → slice_get (x ∷ xs) i ≡ slice_get xs (i - 1)
later {X} x xs zero h = absurd (h refl)
later {X} x xs (suc i) h = let e : i ≡ suc i - 1 = omega arith in ap (slice_get xs) e

pub one_more : (n m : ℕ) → n ≡ m → n + 1 ≡ suc m
one_more n m e = omega (arith, e)
