-- The first place of each key of a list.
use Rattle.std.specs.Prelude.{◌≡◌, ◌<◌, ◌≤◌, ℕ, zero, suc, ◌+◌, nat_lt, Bool, true, false, cond, All, List, [], ◌∷◌, ◌++◌, length, map, drop}
use Rattle.std.specs.Prelude.{Option, Some, None, slice_get, option_map, if◌then◌else◌}
use Rattle.std.specs.BTreeMap.{BTreeMap}
use Rattle.std.specs.Cmp.Lexicographic.{slice_cmp}
use Rattle.std.specs.Ordering.{is_eq, nat_cmp}
use Rattle.std.specs.Map.{lookup}
use Rattle.std.specs.declared.vec.Vec.{Vec}
use Rattle.std.proofs.Common.{Ordering, Less, Equal, Greater, refl, sym, ◌∙◌, ap, subst, arith, append_assoc, inl, inr}
use Rattle.std.proofs.lemmas.Bool.Decides.{Decides-ltb}
use Rattle.std.proofs.lemmas.Cmp.{nat_list_cmp_total, tied_itself}
use Rattle.std.proofs.lemmas.List.{append-nil, drop_all, length-map}
use Rattle.std.proofs.lemmas.List.Elements.{All-from_recursion}
use Rattle.std.proofs.lemmas.Map.Lookups.{exact_bytes}
use Rattle.std.proofs.lemmas.Option.{same_Some, none-some, slice_get-map, slice_get_within, get_or_from_slice_get}
use Rattle.iges_params.specs.Contents.{Contents}
use Rattle.equal_values.proofs.Marks.{lists_decide}
use Rattle.solid_data.specs.Ring.{place_of}
use Rattle.solid_data.specs.declared.solid.VertexKey.{VertexKey}
use Rattle.solid_data.proofs.Keys.{place_below}
use Rattle.solid_data.proofs.Members.{Has, Has-from_place, All-from, has_map, split_at}
use Rattle.vertex_places.specs.Places.{ArePlaces, coordinates}
use Rattle.vertex_places.specs.Firsts.{same_key, firsts_of, first_below, place_key, place_keys, AreFirsts}

true_false : true ≡ false → ⊥
true_false e = cc

decided : (a b : List ℕ) → (same_key a b ≡ true → a ≡ b) × (a ≡ b → same_key a b ≡ true)
decided a b = (λ e. exact_bytes a b (equal (slice_cmp nat_cmp a b) e), λ e. subst (λ (x : List ℕ). same_key a x ≡ true) e (ap is_eq (tied_itself nat_list_cmp_total a)))
  where
    equal : (o : Ordering) → is_eq o ≡ true → o ≡ Equal
    equal Less e = absurd (true_false (sym e))
    equal Equal e = refl
    equal Greater e = absurd (true_false (sym e))

key_itself : (a : List ℕ) → same_key a a ≡ true
key_itself a = (decided a a).1 refl

-- ---- the place of a key

-- it's not past the key
place_low : (keys : List (List ℕ)) (v : ℕ) (key : List ℕ) → slice_get keys v ≡ Some key → place_of same_key keys key ≤ v
place_low [] v key at = absurd (none-some key at)
place_low (t ∷ ts) zero key at =
    let e : same_key key t ≡ true = (decided key t).1 (sym (same_Some t key at)) in
    subst (λ b. (if b then 0 else suc (place_of same_key ts key)) ≤ 0) (sym e) (omega arith)
place_low (t ∷ ts) (suc v) key at = by_test (same_key key t) (place_low ts v key at)
  where
    by_test : (b : Bool) → place_of same_key ts key ≤ v → (if b then 0 else suc (place_of same_key ts key)) ≤ suc v
    by_test true h = omega arith
    by_test false h = omega (arith, h)

-- what stands there is the same
place_there : (keys : List (List ℕ)) (q key : List ℕ) → slice_get keys (place_of same_key keys q) ≡ Some key → q ≡ key
place_there [] q key at = absurd (none-some key at)
place_there (t ∷ ts) q key at = by_test (same_key q t) refl at (λ later. place_there ts q key later)
  where
    by_test : (b : Bool) → same_key q t ≡ b → slice_get (t ∷ ts) (if b then 0 else suc (place_of same_key ts q)) ≡ Some key
        → (slice_get ts (place_of same_key ts q) ≡ Some key → q ≡ key) → q ≡ key
    by_test true e here on = (decided q t).0 e ∙ same_Some t key here
    by_test false e later on = on later

-- ---- a place among the first n

abbrev below : ℕ → ℕ → Option ℕ
below p n = if nat_lt p n then Some p else None

below_some : (p n i : ℕ) → Some i ≡ below p n → (p < n) × (i ≡ p)
below_some p n i h = by_test (nat_lt p n) refl h
  where
    by_test : (b : Bool) → nat_lt p n ≡ b → Some i ≡ (if b then Some p else None) → (p < n) × (i ≡ p)
    by_test true e is = ((Decides-ltb p n).0 e, same_Some i p is)
    by_test false e is = absurd (none-some i (sym is))

below_none : (p n : ℕ) → None ≡ below p n → n ≤ p
below_none p n h = by_test (nat_lt p n) refl h
  where
    by_test : (b : Bool) → nat_lt p n ≡ b → None ≡ (if b then Some p else None) → n ≤ p
    by_test true e is = absurd (none-some p is)
    by_test false e is = let off : p < n → ⊥ = λ lt. true_false (sym ((Decides-ltb p n).1 lt) ∙ e) in omega (arith, off)

below_at : (p n : ℕ) → p < n → below p n ≡ Some p
below_at p n lt = ap (λ b. if b then Some p else None) ((Decides-ltb p n).1 lt)

below_past : (p n : ℕ) → n ≤ p → below p n ≡ None
below_past p n le = by_test (nat_lt p n) refl
  where
    by_test : (b : Bool) → nat_lt p n ≡ b → (if b then Some p else None) ≡ None
    by_test true e = absurd (let lt = (Decides-ltb p n).0 e in omega (arith, lt, le))
    by_test false e = refl

-- one more is looked at, and isn't there
below_more : (p n : ℕ) → (p ≡ n → ⊥) → below p n ≡ below p (n + 1)
below_more p n off = by_test (nat_lt p n) refl
  where
    by_test : (b : Bool) → nat_lt p n ≡ b → below p n ≡ below p (n + 1)
    by_test true e = let lt = (Decides-ltb p n).0 e in below_at p n lt ∙ sym (below_at p (n + 1) (omega (arith, lt)))
    by_test false e =
        let le : n ≤ p = below_none p n (ap (λ b. if b then Some p else None) (sym e)) in
        below_past p n le ∙ sym (below_past p (n + 1) (omega (arith, le, off)))

-- ---- no key yet

pub firsts_none : {Z : Type 0} (keys : List (List ℕ)) (m : BTreeMap (Vec ℕ Z) ℕ) → m.entries ≡ [] → AreFirsts keys 0 m
firsts_none keys m empty q =
    ap (lookup (λ k. same_key q.items k.items)) empty ∙ sym (below_past (place_of same_key keys q.items) 0 (omega arith))

-- ---- one key more

-- a key that another one before is the same as
pub first_known : (keys : List (List ℕ)) (v i : ℕ) (key : List ℕ) → Some i ≡ first_below keys v key → i ≡ place_of same_key keys key
first_known keys v i key h = (below_some (place_of same_key keys key) v i h).1

pub firsts_kept : (keys : List (List ℕ)) (v i : ℕ) (key q : List ℕ) → slice_get keys v ≡ Some key → Some i ≡ first_below keys v key
    → first_below keys v q ≡ first_below keys (v + 1) q
firsts_kept keys v i key q at known = below_more (place_of same_key keys q) v (λ e. no e)
  where
    no : place_of same_key keys q ≡ v → ⊥
    no e =
        let one : q ≡ key = place_there keys q key (ap (slice_get keys) e ∙ at) in
        let lt = (below_some (place_of same_key keys key) v i known).0 in
        let same : place_of same_key keys q ≡ place_of same_key keys key = ap (place_of same_key keys) one in
        omega (arith, e, lt, same)

-- and one that none before is
pub first_new : (keys : List (List ℕ)) (v : ℕ) (key : List ℕ) → slice_get keys v ≡ Some key → None ≡ first_below keys v key
    → v ≡ place_of same_key keys key
first_new keys v key at none =
    let low = place_low keys v key at in
    let high = below_none (place_of same_key keys key) v none in
    omega (arith, low, high)

pub firsts_more : (keys : List (List ℕ)) (v : ℕ) (key q : List ℕ) (old : Option ℕ) → slice_get keys v ≡ Some key → None ≡ first_below keys v key
    → old ≡ first_below keys v q → cond (same_key key q) (Some v) old ≡ first_below keys (v + 1) q
firsts_more keys v key q old at none is = by_test (same_key key q) refl
  where
    here : v ≡ place_of same_key keys key
    here = first_new keys v key at none

    by_test : (b : Bool) → same_key key q ≡ b → cond b (Some v) old ≡ first_below keys (v + 1) q
    by_test true e =
        let one : place_of same_key keys key ≡ place_of same_key keys q = ap (place_of same_key keys) ((decided key q).0 e) in
        ap Some (here ∙ one) ∙ sym (below_at (place_of same_key keys q) (v + 1) (omega (arith, here, one)))
    by_test false e = is ∙ below_more (place_of same_key keys q) v (λ p. no p)
      where
        no : place_of same_key keys q ≡ v → ⊥
        no p = true_false (sym ((decided key q).1 (sym (place_there keys q key (ap (slice_get keys) p ∙ at)))) ∙ e)

-- ---- the list

pub key_at : (f : Contents) (vertices : List VertexKey) (i : ℕ) (vertex : VertexKey) (key : List ℕ) → slice_get vertices i ≡ Some vertex
    → key ≡ place_key f vertex → slice_get (place_keys f vertices) i ≡ Some key
key_at f vertices i vertex key at is = slice_get-map (place_key f) vertices i ∙ (ap (option_map (place_key f)) at ∙ ap Some (sym is))

pub one_more : (keys : List (List ℕ)) (i first : ℕ) (key : List ℕ) (old new all : List ℕ) → slice_get keys i ≡ Some key
    → first ≡ place_of same_key keys key → old ++ map (place_of same_key keys) (drop i keys) ≡ all → new ≡ old ++ first ∷ []
    → new ++ map (place_of same_key keys) (drop (i + 1) keys) ≡ all
one_more keys i first key old new all at is h e =
    ap (λ ys. ys ++ map (place_of same_key keys) (drop (i + 1) keys)) (e ∙ ap (λ z. old ++ z ∷ []) is)
    ∙ (append_assoc old (place_of same_key keys key ∷ []) (map (place_of same_key keys) (drop (i + 1) keys))
    ∙ (ap (λ ys. old ++ ys) (sym (ap (map (place_of same_key keys)) (split_at keys i key at))) ∙ h))

pub no_more : (f : Contents) (vertices : List VertexKey) (i : ℕ) (now all : List ℕ) → length vertices ≤ i
    → now ++ map (place_of same_key (place_keys f vertices)) (drop i (place_keys f vertices)) ≡ all → now ≡ all
no_more f vertices i now all past h =
    let many : length (place_keys f vertices) ≡ length vertices = length-map vertices (place_key f) in
    let none : drop i (place_keys f vertices) ≡ [] = drop_all i (place_keys f vertices) (omega (arith, many, past)) in
    sym (append-nil now) ∙ (ap (λ xs. now ++ map (place_of same_key (place_keys f vertices)) xs) (sym none) ∙ h)

pub places_many : (f : Contents) (vertices : List VertexKey) → length (firsts_of (place_keys f vertices)) ≡ length vertices
places_many f vertices = length-map (place_keys f vertices) (place_of same_key (place_keys f vertices)) ∙ length-map vertices (place_key f)

pub places_inside : (f : Contents) (vertices : List VertexKey) → All (λ v. v < length vertices) (firsts_of (place_keys f vertices))
places_inside f vertices =
    All-from_recursion (λ v. v < length vertices) (firsts_of (place_keys f vertices))
    (All-from (λ v. v < length vertices) (firsts_of (place_keys f vertices)) (λ v m. each v m))
  where
    each : (v : ℕ) → Has (firsts_of (place_keys f vertices)) v → v < length vertices
    each v m =
        let k = has_map (place_of same_key (place_keys f vertices)) (place_keys f vertices) v m in
        let lt = place_below same_key key_itself (place_keys f vertices) k.0 k.1 in
        let many : length (place_keys f vertices) ≡ length vertices = length-map vertices (place_key f) in
        omega (arith, lt, many, k.2)

-- ---- the same number, and the same key

-- what stands at the first place of a key is the key
there : (keys : List (List ℕ)) (key : List ℕ) → Has keys key → slice_get keys (place_of same_key keys key) ≡ Some key
there [] key h = absurd h
there (k ∷ keys) key h = by_test (same_key key k) refl h (λ m. there keys key m)
  where
    by_test : (b : Bool) → same_key key k ≡ b → Has (k ∷ keys) key → (Has keys key → slice_get keys (place_of same_key keys key) ≡ Some key)
        → slice_get (k ∷ keys) (if b then 0 else suc (place_of same_key keys key)) ≡ Some key
    by_test true e m later = ap Some (sym ((decided key k).0 e))
    by_test false e (inl is) later = absurd (true_false (sym ((decided key k).1 (sym is)) ∙ e))
    by_test false e (inr m) later = later m

one_place : (keys : List (List ℕ)) (a b : List ℕ) → Has keys a → Has keys b → place_of same_key keys a ≡ place_of same_key keys b → a ≡ b
one_place keys a b h k e = same_Some a b (sym (there keys a h) ∙ ap (slice_get keys) e ∙ there keys b k)

at_has : {A : Type 0} (xs : List A) (i : ℕ) (x : A) → slice_get xs i ≡ Some x → Has xs x
at_has xs i x at = Has-from_place xs x i (slice_get_within xs i x at) (get_or_from_slice_get xs i x x at)

module _ (f : Contents) (vertices : List VertexKey) (places : List ℕ) (is : places ≡ firsts_of (place_keys f vertices)) where
  abbrev keys : List (List ℕ)
  keys = place_keys f vertices

  has : (n : ℕ) (v : VertexKey) → slice_get vertices n ≡ Some v → Has keys (place_key f v)
  has n v h = at_has keys n (place_key f v) (key_at f vertices n v (place_key f v) h refl)

  number : (n : ℕ) (v : VertexKey) → slice_get vertices n ≡ Some v → slice_get places n ≡ Some (place_of same_key keys (place_key f v))
  number n v h =
      ap (λ (ps : List ℕ). slice_get ps n) is ∙ slice_get-map (place_of same_key keys) keys n
      ∙ ap (option_map (place_of same_key keys)) (key_at f vertices n v (place_key f v) h refl)

  pub places_are : ArePlaces f vertices places
  places_are i j a b at to = (
    λ e. (lists_decide (coordinates f a) (coordinates f b)).0 (one_place keys (place_key f a) (place_key f b) (has i a at) (has j b to)
        (same_Some _ _ (sym (number i a at) ∙ e ∙ number j b to))),
    λ same. number i a at ∙ ap (λ k. Some (place_of same_key keys k)) ((lists_decide (coordinates f a) (coordinates f b)).1 same) ∙ sym (number j b to),
  )
