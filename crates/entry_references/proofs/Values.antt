-- Values in their places.
use Rattle.std.specs.List.{range_with_len}
use Rattle.std.specs.Prelude.{◌≡◌, zero, suc, ◌+◌, [], ◌∷◌, ◌++◌, IfSome, IfNone, option_copied, ℕ, ◌-◌, List, Option, Some, None, slice_get}
use Rattle.std.proofs.Common.{Bor, arith, sym, ◌∙◌, ap}
use Rattle.std.specs.Option.{unwrap_or}
use Rattle.std.proofs.lemmas.Option.{unwrap_or-slice_get}
use Rattle.iges_fields.specs.declared.value.Value.{Value}
use Rattle.iges_fields.specs.declared.value.Value.TheVariants as value
use Rattle.entry_references.specs.Layout.{value_at}

pub got : (vs : List Value) (k : ℕ) (v : Value) → Some v ≡ slice_get vs (k - 1) → v ≡ value_at vs k
got vs k v e = ap (λ (o : Option Value). unwrap_or o value.Default) e ∙ unwrap_or-slice_get vs (k - 1) value.Default

pub past : (vs : List Value) (k : ℕ) → None ≡ slice_get vs (k - 1) → value_at vs k ≡ value.Default
past vs k e = sym (unwrap_or-slice_get vs (k - 1) value.Default) ∙ sym (ap (λ (o : Option Value). unwrap_or o value.Default) e)

pub got_some : (vs : List Value) (i k : ℕ) (o : Option (Bor Value)) → i ≡ k - 1 → option_copied o ≡ slice_get vs i → IfSome o (λ v. v.now ≡ value_at vs k)
got_some vs i k None at e = tt
got_some vs i k (Some v) at e = got vs k v.now (e ∙ ap (slice_get vs) at)

pub got_none : (vs : List Value) (i k : ℕ) (o : Option (Bor Value)) → i ≡ k - 1 → option_copied o ≡ slice_get vs i → IfNone o (value_at vs k ≡ value.Default)
got_none vs i k None at e = past vs k (e ∙ ap (slice_get vs) at)
got_none vs i k (Some v) at e = tt

pub range_more : (a n : ℕ) → range_with_len a (n + 1) ≡ range_with_len a n ++ (a + n) ∷ []
range_more a zero = ap (λ (x : ℕ). x ∷ []) (let e : a ≡ a + 0 = omega arith in e)
range_more a (suc n) =
    let one : suc n + 1 ≡ suc (n + 1) = omega arith in
    let last : (a + 1) + n ≡ a + suc n = omega arith in
    ap (range_with_len a) one ∙ ap (λ (xs : List ℕ). a ∷ xs) (range_more (a + 1) n ∙ ap (λ (x : ℕ). range_with_len (a + 1) n ++ x ∷ []) last)
