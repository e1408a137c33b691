-- What a test of a record tells, and its items by number.
use Rattle.std.specs.Prelude.{◌≡◌, ℕ, zero, suc, ◌+◌, ◌*◌, ◌<◌, ◌≤◌, true, false, ℤ, List, [], ◌∷◌, length, map, take, drop, Option, Some, None, slice_get}
use Rattle.std.proofs.Common.{refl, sym, ◌∙◌, ap, subst, arith, suc-mul, option_map, lit<}
use Rattle.brep_lists.specs.declared.edge_list.EdgeTuple.{EdgeTuple}
use Rattle.std.proofs.lemmas.List.{length-map, drop-drop}
use Rattle.std.proofs.lemmas.Option.{slice_get-map, slice_get_past}
use Rattle.iges_fields.specs.declared.value.Value.{Value}
use Rattle.brep_lists.specs.Record.{Items, Fits, items_of, int_of, value_or_default, int_at, groups, edge_read, IsRecordOf}
use Rattle.brep_lists.specs.declared.entity_kind.EntityKind.{EntityKind}
use Rattle.brep_lists.specs.OwnValues.{is_record_of}
use Rattle.brep_lists.proofs.OnlyRead.{only_read}
use Rattle.brep_lists.proofs.Decided.{decided}
use Rattle.brep_lists.proofs.Stride.{length_groups}

pub fits : (kind : EntityKind) (vs : List Value) → is_record_of kind vs ≡ true → Fits kind vs (items_of kind vs)
fits kind vs e = (decided kind vs).0 e

no_items : (kind : EntityKind) (vs : List Value) → is_record_of kind vs ≡ false → IsRecordOf kind vs → ⊥
no_items kind vs e h = let t : is_record_of kind vs ≡ true = (decided kind vs).1 h in let g : false ≡ true = sym e ∙ t in absurd cc

pub fits_none : (kind : EntityKind) (vs : List Value) → is_record_of kind vs ≡ false → (items : Items kind) → Fits kind vs items → ⊥
fits_none kind vs e items h = no_items kind vs e (subst (λ (i : Items kind). Fits kind vs i) (only_read kind vs items h) h)

pub value_after : (n k : ℕ) (vs : List Value) → value_or_default (drop n vs) k ≡ value_or_default vs (n + k)
value_after zero k vs = let e : k ≡ 0 + k = omega arith in ap (value_or_default vs) e
value_after (suc n) k [] = refl
value_after (suc n) k (v ∷ vs) = value_after n k vs ∙ (let e : suc (n + k) ≡ suc n + k = omega arith in ap (value_or_default (v ∷ vs)) e)

pub value_among : (n k : ℕ) (vs : List Value) → k < n → value_or_default (take n vs) k ≡ value_or_default vs k
value_among zero k vs h = absurd (omega (arith, h))
value_among (suc n) k [] h = refl
value_among (suc n) zero (v ∷ vs) h = refl
value_among (suc n) (suc k) (v ∷ vs) h = value_among n k vs (omega (arith, h))

group_at : (size n i : ℕ) (vs : List Value) → i < n → slice_get (groups size n vs) i ≡ Some (take size (drop (i * size) vs))
group_at size zero i vs h = absurd (omega (arith, h))
group_at size (suc n) zero vs h = let e : 0 * size ≡ 0 = omega arith in ap (λ k. Some (take size (drop k vs))) (sym e)
group_at size (suc n) (suc i) vs h =
    group_at size n i (drop size vs) (omega (arith, h))
    ∙ ap (λ ws. Some (take size ws)) (drop-drop (i * size) size vs)
    ∙ (let e : size + i * size ≡ suc i * size = sym (suc-mul i size ∙ (let f : i * size + size ≡ size + i * size = omega arith in f)) in ap
    (λ k. Some (take size (drop k vs))) e)

-- the item of a number: what is read in its group
pub item_at : {X : Type 0} (read : List Value → X) (size n i base : ℕ) (vs : List Value) → i < n
    → slice_get (map read (groups size n (drop base vs))) i ≡ Some (read (take size (drop (base + i * size) vs)))
item_at {X} read size n i base vs h =
    slice_get-map read (groups size n (drop base vs)) i
    ∙ ap (λ (o : Option (List Value)). option_map read o) (group_at size n i (drop base vs) h)
    ∙ ap (λ ws. Some (read (take size ws))) (drop-drop (i * size) base vs)

pub items_past : {X : Type 0} (read : List Value → X) (size n i : ℕ) (vs : List Value) → n ≤ i → slice_get (map read (groups size n vs)) i ≡ None
items_past {X} read size n i vs h =
    let all : length (map read (groups size n vs)) ≡ n = length-map (groups size n vs) read ∙ length_groups size n vs in
    slice_get_past (map read (groups size n vs)) i (omega (arith, all))

-- the k-th value of a group
pub read_at : (size at k : ℕ) (vs : List Value) → k < size → value_or_default (take size (drop at vs)) k ≡ value_or_default vs (at + k)
read_at size at k vs h = value_among size k (drop at vs) h ∙ value_after at k vs

pub int_read_at : (size at k : ℕ) (vs : List Value) (z : ℤ) → k < size → z ≡ int_at vs (at + k) → z ≡ int_at (take size (drop at vs)) k
int_read_at size at k vs z h e = e ∙ sym (ap int_of (read_at size at k vs h))

pub first_read_at : (size at : ℕ) (vs : List Value) (z : ℤ) → 0 < size → z ≡ int_at vs at → z ≡ int_at (take size (drop at vs)) 0
first_read_at size at vs z h e = int_read_at size at 0 vs z h (e ∙ (let same : at ≡ at + 0 = omega arith in ap (int_at vs) same))

abbrev edge_of : ℤ → ℤ → ℤ → ℤ → ℤ → EdgeTuple
edge_of a b c d e = record { curve = a; start_list = b; start_index = c; end_list = d; end_index = e }

same_edge : {a b c d e a' b' c' d' e' : ℤ} → a ≡ a' → b ≡ b' → c ≡ c' → d ≡ d' → e ≡ e' → edge_of a b c d e ≡ edge_of a' b' c' d' e'
same_edge {a} {b} {c} {d} {e} {a'} {b'} {c'} {d'} {e'} p q r s t =
    ap (λ z. edge_of z b c d e) p ∙ (ap (λ z. edge_of a' z c d e) q ∙
    (ap (λ z. edge_of a' b' z d e) r ∙ (ap (λ z. edge_of a' b' c' z e) s ∙ ap (λ z. edge_of a' b' c' d' z) t)))

pub edge_item : (n i : ℕ) (vs : List Value) (a b c d e : ℤ) → i < n
    → a ≡ int_at vs (1 + i * 5) → b ≡ int_at vs (1 + i * 5 + 1) → c ≡ int_at vs (1 + i * 5 + 2) → d ≡ int_at vs (1 + i * 5 + 3) → e ≡ int_at vs (1 + i * 5 + 4)
    → Some (edge_of a b c d e) ≡ slice_get (map edge_read (groups 5 n (drop 1 vs))) i
edge_item n i vs a b c d e h p q r s t =
    ap Some (same_edge
    (first_read_at 5 (1 + i * 5) vs a (lit< tt) p) (int_read_at 5 (1 + i * 5) 1 vs b (lit< tt) q) (int_read_at 5 (1 + i * 5) 2 vs c (lit< tt) r)
    (int_read_at 5 (1 + i * 5) 3 vs d (lit< tt) s) (int_read_at 5 (1 + i * 5) 4 vs e (lit< tt) t))
    ∙ sym (item_at edge_read 5 n i 1 vs h)
