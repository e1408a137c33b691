-- Two lists place by place, and one of pairs.
use Rattle.std.proofs.Common.{◌≡◌, ◌⊎◌, inl, inr, ℕ, zero, suc, ◌<◌, ◌≤◌, List, [], ◌∷◌, ◌++◌, length, Some, None, Result, Ok, Err, refl, sym, ap, ◌∙◌, arith, get_or}
use Rattle.std.specs.Prelude.{if◌then◌else◌, is_ok, option_map, set, slice_get}
use Rattle.std.proofs.lemmas.Option.{same_Some, slice_get-get_or, slice_get_cases, slice_get_past}
use Rattle.iges_fields.specs.declared.value.Value.{Value}
use Rattle.iges_directory.specs.declared.entry.Entry.{Entry}
use Rattle.iges_directory.specs.declared.entry.Placed.{Placed}
use Rattle.iges_directory.specs.Paired.{Pairs, paired}

abbrev Lists : Type 0
Lists = List (List Value)

pub paired_none : (ps : List Placed) (vs : Lists) → ps ≡ [] → paired ps vs ≡ []
paired_none ps vs e = ap (λ (x : List Placed). paired x vs) e

pub paired_count : (ps : List Placed) (vs : Lists) → length ps ≡ length vs → length (paired ps vs) ≡ length ps
paired_count [] vs e = refl
paired_count (p ∷ ps) [] e = absurd (omega (arith, e))
paired_count (p ∷ ps) (v ∷ vs) e = omega (arith, paired_count ps vs (omega (arith, e)))

pub paired_more : (ps : List Placed) (vs : Lists) (p : Placed) (v : List Value) → length ps ≡ length vs →
    paired (ps ++ p ∷ []) (vs ++ v ∷ []) ≡ paired ps vs ++ (p.entry, v) ∷ []
paired_more [] [] p v e = refl
paired_more [] (w ∷ vs) p v e = absurd (omega (arith, e))
paired_more (q ∷ ps) [] p v e = absurd (omega (arith, e))
paired_more (q ∷ ps) (w ∷ vs) p v e = ap (λ (x : Pairs). (q.entry, w) ∷ x) (paired_more ps vs p v (omega (arith, e)))

paired_at : (ps : List Placed) (vs : Lists) (i : ℕ) (p : Placed) (v : List Value) → slice_get ps i ≡ Some p → slice_get vs i ≡ Some v →
    slice_get (paired ps vs) i ≡ Some (p.entry, v)
paired_at [] vs i p v a b = absurd cc
paired_at (q ∷ ps) [] i p v a b = absurd cc
paired_at (q ∷ ps) (w ∷ vs) zero p v a b =
    ap (λ (x : Placed). Some (x.entry, w)) (same_Some q p a) ∙ ap (λ (x : List Value). Some (p.entry, x)) (same_Some w v b)
paired_at (q ∷ ps) (w ∷ vs) (suc i) p v a b = paired_at ps vs i p v a b

module _ (ps : List Placed) (vs : Lists) (same : length ps ≡ length vs) (i : ℕ) where
  pub entry_within : (p : Placed) → slice_get ps i ≡ Some p → i < length ps → Some p.entry ≡ option_map (λ (e : Entry × List Value). e.0)
      (slice_get (paired ps vs) i)
  entry_within p a within =
      sym (ap (option_map (λ (e : Entry × List Value). e.0)) (paired_at ps vs i p (get_or vs i []) a (slice_get-get_or vs i [] (omega (arith, same, within)))))

  pub values_at : (v : List Value) → slice_get vs i ≡ Some v → i < length vs → option_map (λ (e : Entry × List Value). e.1) (slice_get (paired ps vs) i) ≡ Some v
  values_at v b within = by_place (slice_get_cases ps i).1
    where
      by_place : ((x : Placed) × (i < length ps) × (slice_get ps i ≡ Some x) × (get_or ps i x ≡ x)) ⊎ ((length ps ≤ i) × (slice_get ps i ≡ None)) →
          option_map (λ (e : Entry × List Value). e.1) (slice_get (paired ps vs) i) ≡ Some v
      by_place (inl a) = ap (option_map (λ (e : Entry × List Value). e.1)) (paired_at ps vs i a.0 v a.2 b)
      by_place (inr a) = absurd (omega (arith, same, within, a.0))

  pub values_within : (v : List Value) → slice_get vs i ≡ Some v → i < length vs → Some v ≡ option_map (λ (e : Entry × List Value). e.1)
      (slice_get (paired ps vs) i)
  values_within v b within = sym (values_at v b within)

  pub none_past : {Y : Type 0} (f : Entry × List Value → Y) → length ps ≤ i → None ≡ option_map f (slice_get (paired ps vs) i)
  none_past f past = sym (ap (option_map f) (slice_get_past (paired ps vs) i (omega (arith, paired_count ps vs same, past))))

pub paired_set : (ps : List Placed) (vs : Lists) (i : ℕ) (v : List Value) (entry : Entry) → option_map (λ (e : Entry × List Value). e.0)
    (slice_get (paired ps vs) i) ≡ Some entry → paired ps (set vs i v) ≡ set (paired ps vs) i (entry, v)
paired_set [] vs i v entry e = absurd cc
paired_set (p ∷ ps) [] i v entry e = absurd cc
paired_set (p ∷ ps) (w ∷ vs) zero v entry e = ap (λ (x : Entry). (x, v) ∷ paired ps vs) (same_Some p.entry entry e)
paired_set (p ∷ ps) (w ∷ vs) (suc i) v entry e = ap (λ (x : Pairs). (p.entry, w) ∷ x) (paired_set ps vs i v entry e)

pub where_ok : {X Y E : Type 0} (r : Result X E) (x y z : Y) → x ≡ (if is_ok r then y else z) → ((e : E) → r ≡ Err e → ⊥) → x ≡ y
where_ok (Ok u) x y z e h = e
where_ok (Err f) x y z e h = absurd (h f refl)
