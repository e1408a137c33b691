-- Keys that are found by their slots.
use Rattle.std.specs.Prelude.{◌≡◌, ◌<◌, ℕ, suc, Bool, true, false, ◌||◌, List, [], ◌∷◌, ◌++◌, length, slice_get, Some, None, nat_eq, if◌then◌else◌}
use Rattle.std.specs.List.{list_any}
use Rattle.std.specs.Map.{values_of}
use Rattle.std.specs.Option.{option_map}
use Rattle.std.proofs.Common.{refl, sym, ◌∙◌, ap, subst, arith, inl, inr, ⊎_elim}
use Rattle.std.proofs.lemmas.Bool.{eqb-true}
use Rattle.std.proofs.lemmas.List.{length-map, map-append}
use Rattle.std.proofs.lemmas.Option.{slice_get-map, slice_get_within, same_Some, none-some}
use Rattle.indexmap.specs.IndexMap.{insert_entry}
use Rattle.indexmap.specs.IndexSet.{insert_key}
use Rattle.indexmap.proofs.CallerLemmas.{Contains-list_any}
use Rattle.solid_data.specs.Ring.{place_of}
use Rattle.solid_data.specs.declared.solid.EdgeKey.{EdgeKey}
use Rattle.solid_data.specs.declared.solid.VertexKey.{VertexKey}
use Rattle.solid_data.proofs.Keys.{at_place}
use Rattle.solid_data.proofs.Members.{Has, Has-from_Contains, has_get, get_some}
use Rattle.brep_numbering.specs.Keyed.{AreKeyed}
use Rattle.brep_numbering.proofs.Pushed.{get_pushed}
use Rattle.brep_numbering.proofs.KeyPlaces.{inserted}

-- a key is what its parts are

pub edge_key_is : (a b : EdgeKey) → a.«list».0 ≡ b.«list».0 → a.index ≡ b.index → a ≡ b
edge_key_is a b list index = λ j. record { «list» = record { 0 = list j }; index = index j }

pub vertex_key_is : (a b : VertexKey) → a.«list».0 ≡ b.«list».0 → a.index ≡ b.index → a ≡ b
vertex_key_is a b list index = λ j. record { «list» = record { 0 = list j }; index = index j }

true_is_false : true ≡ false → ⊥
true_is_false w = cc

-- a new number goes last
inserted_last : {K : Type 0} (es : List (ℕ × K)) (n : ℕ) (k : K) → ((i : ℕ) (e : ℕ × K) → slice_get es i ≡ Some e → e.0 < n) →
    insert_entry nat_eq es n k ≡ es ++ (n, k) ∷ []
inserted_last [] n k less = refl
inserted_last {K} (e ∷ es) n k less = by_test (nat_eq n e.0) refl (inserted_last es n k (λ i x at. less (suc i) x at))
  where
    by_test : (b : Bool) → nat_eq n e.0 ≡ b → insert_entry nat_eq es n k ≡ es ++ (n, k) ∷ [] →
        (if b then (e.0, k) ∷ es else e ∷ insert_entry nat_eq es n k) ≡ e ∷ (es ++ (n, k) ∷ [])
    by_test true same rest = absurd (let at : n ≡ e.0 = eqb-true n e.0 same in omega (arith, at, less 0 e refl))
    by_test false other rest = ap (λ l. e ∷ l) rest

module _ {K : Type 0} (same : K → K → Bool) (sound : (a b : K) → same a b ≡ true → a ≡ b) (itself : (a : K) → same a a ≡ true) where
  has_any : (ks : List K) (k : K) → list_any (same k) ks ≡ true → Has ks k
  has_any ks k h = Has-from_Contains ks k (Contains-list_any same sound ks k h)

  any_has : (ks : List K) (k : K) → Has ks k → list_any (same k) ks ≡ true
  any_has [] k h = absurd h
  any_has (y ∷ ys) k (inl e) = ap (λ b. b || list_any (same k) ys) (subst (λ z. same k z ≡ true) (sym e) (itself k))
  any_has (y ∷ ys) k (inr h) = by_test (same k y) (any_has ys k h)
    where
      by_test : (b : Bool) → list_any (same k) ys ≡ true → (b || list_any (same k) ys) ≡ true
      by_test true e = refl
      by_test false e = e

  module _ (slot : K → ℕ) (es : List (ℕ × K)) (keyed : AreKeyed slot es) where
    -- the entry of a key
    entry_of : (i : ℕ) (k : K) → slice_get (values_of es) i ≡ Some k → (e : ℕ × K) × (slice_get es i ≡ Some e) × (e.1 ≡ k)
    entry_of i k at =
        let within : i < length es = subst (λ n. i < n) (length-map es (λ (e : ℕ × K). e.1)) (slice_get_within (values_of es) i k at) in
        let e = get_some es i within in
        let both : Some e.0.1 ≡ Some k = sym (ap (option_map (λ (x : ℕ × K). x.1)) e.1) ∙ (sym (slice_get-map (λ (x : ℕ × K). x.1) es i) ∙ at) in
        (e.0, e.1, (let g : e.0.1 ≡ k = cc in g))

    -- a key that is there stands where its slot says
    pub at_slot : (k : K) → Has (values_of es) k → slot k ≡ place_of same (values_of es) k
    at_slot k h =
        let e = entry_of (place_of same (values_of es) k) k (at_place same sound itself (values_of es) k h) in
        sym (ap slot e.2) ∙ (keyed (place_of same (values_of es) k) e.0 e.1).1

    in_slot : (k : K) (e : ℕ × K) → slice_get es (slot k) ≡ Some e → same e.1 k ≡ true → Has (values_of es) k
    in_slot k e at is = has_get (values_of es) (slot k) k (slice_get-map (λ (x : ℕ × K). x.1) es (slot k) ∙
        (ap (option_map (λ (x : ℕ × K). x.1)) at ∙ ap Some (sound e.1 k is)))

    -- a key that stands in its slot is known
    pub is_known : (k : K) (e : ℕ × K) → slice_get es (slot k) ≡ Some e → same e.1 k ≡ true → true ≡ list_any (same k) (values_of es)
    is_known k e at is = sym (any_has (values_of es) k (in_slot k e at is))

    -- by its place
    pub known_place : (k : K) (e : ℕ × K) → slice_get es (slot k) ≡ Some e → same e.1 k ≡ true → slot k ≡ place_of same (values_of es) k
    known_place k e at is = at_slot k (in_slot k e at is)

    -- and one that doesn't is new
    is_new : (k : K) → ((e : ℕ × K) → slice_get es (slot k) ≡ Some e → same e.1 k ≡ false) → false ≡ list_any (same k) (values_of es)
    is_new k none = by_test (list_any (same k) (values_of es)) refl
      where
        by_test : (b : Bool) → list_any (same k) (values_of es) ≡ b → false ≡ list_any (same k) (values_of es)
        by_test false e = sym e
        by_test true e =
            let there : Has (values_of es) k = has_any (values_of es) k e in
            let at = entry_of (place_of same (values_of es) k) k (at_place same sound itself (values_of es) k there) in
            absurd (true_is_false (sym (ap (λ x. same x k) at.2 ∙ itself k) ∙ none at.0 (ap (slice_get es) (at_slot k there) ∙ at.1)))

    pub other_key : (k : K) (e : ℕ × K) → slice_get es (slot k) ≡ Some e → same e.1 k ≡ false → false ≡ list_any (same k) (values_of es)
    other_key k e at differs = is_new k (λ x there. ap (λ (y : ℕ × K). same y.1 k) (same_Some x e (sym there ∙ at)) ∙ differs)

    pub no_key : (k : K) → slice_get es (slot k) ≡ None → false ≡ list_any (same k) (values_of es)
    no_key k none = is_new k (λ x there. absurd (none-some x (sym none ∙ there)))

    -- A new key. The slots of the others stay.
    module _ (k : K) (fresh : list_any (same k) (values_of es) ≡ false) (after : K → ℕ) (others : (x : K) → ¬ (x ≡ k) → after x ≡ slot x) where
      pub keyed_still : AreKeyed after es
      keyed_still i e at = ((keyed i e at).0, others e.1 (λ is. true_is_false (sym (any_has (values_of es) k (there is)) ∙ fresh)) ∙ (keyed i e at).1)
        where
          there : e.1 ≡ k → Has (values_of es) k
          there is = has_get (values_of es) i k (slice_get-map (λ (x : ℕ × K). x.1) es i ∙ (ap (option_map (λ (x : ℕ × K). x.1)) at ∙ ap Some is))

      module _ (n : ℕ) (last : n ≡ length es) (here : after k ≡ n) (new : List (ℕ × K)) (put : new ≡ insert_entry nat_eq es n k) where
        pushed : new ≡ es ++ (n, k) ∷ []
        pushed = put ∙ inserted_last es n k (λ i e at. let first : e.0 ≡ i = (keyed i e at).0 in omega (arith, first, last, slice_get_within es i e at))

        pub keyed_more : AreKeyed after new
        keyed_more i e at = ⊎_elim (λ old. keyed_still i e old) (λ end. (
          sym (ap (λ (x : ℕ × K). x.0) end.1) ∙ (last ∙ sym end.0),
          sym (ap (λ (x : ℕ × K). after x.1) end.1) ∙ (here ∙ (last ∙ sym end.0)),
        )) (get_pushed es (n, k) e i (ap (λ l. slice_get l i) (sym pushed) ∙ at))

        pub keys_pushed : values_of new ≡ values_of es ++ k ∷ []
        keys_pushed = ap values_of pushed ∙ map-append (λ (x : ℕ × K). x.1) es ((n, k) ∷ [])

        pub keys_more : values_of new ≡ insert_key same (values_of es) k
        keys_more = keys_pushed ∙ sym (ap (λ b. if b then values_of es else values_of es ++ k ∷ []) fresh)

-- a key that was put in has the place that its slot says
pub place_put : {K : Type 0} (same : K → K → Bool) (sound : (a b : K) → same a b ≡ true → a ≡ b) (itself : (a : K) → same a a ≡ true) (slot : K →
    ℕ) (new : List (ℕ × K)) → AreKeyed slot new
    → (old : List K) (k : K) (n : ℕ) → slot k ≡ n → values_of new ≡ insert_key same old k → n ≡ place_of same (values_of new) k
place_put same sound itself slot new keyed old k n here put =
    sym here ∙ at_slot same sound itself slot new keyed k (has_any same sound itself (values_of new) k
    (ap (list_any (same k)) put ∙ inserted same itself old k))
