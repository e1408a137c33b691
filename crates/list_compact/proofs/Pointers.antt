-- The pointers that are due in a record, and the numbers in their places.
use Rattle.std.specs.Prelude.{◌≡◌, ℕ, suc, ◌+◌, ◌-◌, ◌≤◌, Bool, true, false, ℤ, pos, List, [], ◌∷◌, flat_map, filter_map, Option, Some, None, slice_index_or}
use Rattle.std.specs.Prelude.{if◌then◌else◌}
use Rattle.std.specs.List.{AllByRecursion, AllZip, cons_option}
use Rattle.std.specs.Ordering.{int_eq}
use Rattle.std.proofs.Common.{refl, sym, ◌∙◌, ap, subst, arith, inl, inr}
use Rattle.std.proofs.lemmas.Bool.{cond-false}
use Rattle.std.proofs.lemmas.Option.{same_Some}
use Rattle.iges_fields.specs.declared.value.Value.{Value}
use Rattle.iges_fields.specs.declared.value.Value.TheVariants as value
use Rattle.iges_params.specs.Contents.{Contents}
use Rattle.brep_lists.specs.DueValues.{DueValue, pointer, number, flag, at_least_one, count, coordinate, MeetsAll}
use Rattle.brep_lists.specs.Record.{edge_due, vertex_due, due, items_of}
use Rattle.brep_lists.specs.declared.entity_kind.EntityKind.TheVariants.{EdgeList as edges, VertexList as vertices}
use Rattle.brep_lists.specs.declared.edge_list.EdgeTuple.{EdgeTuple}
use Rattle.solid_data.proofs.Members.{Has, has_map, has_flat_map, from_flat_map}
use Rattle.entry_references.specs.Layout.{value_at}
use Rattle.entry_references.specs.PlacesDue.{places_due}
use Rattle.entry_references.specs.Refs.{number_of}
use Rattle.list_compact.specs.Used.{is_used_edge, used_from}
use Rattle.list_compact.specs.Dropped.{reindexed_edge, kept_edges}
use Rattle.list_compact.proofs.Ranks.{from_used}
use Rattle.list_compact.proofs.Spelled.{IsAlike}

-- ---- values by their places

-- v gives these values from place k on
abbrev Agrees : (ℕ → Value) → ℕ → List Value → Type 0
Agrees v k [] = Unit {0}
Agrees v k (x ∷ xs) = (v k ≡ x) × Agrees v (k + 1) xs

pub agrees_later : (v w : ℕ → Value) (k : ℕ) (xs : List Value) → 1 ≤ k → ((i : ℕ) → 1 ≤ i → v (i + 1) ≡ w i) → Agrees w k xs → Agrees v (k + 1) xs
agrees_later v w k [] low same h = tt
agrees_later v w k (x ∷ xs) low same h = (same k low ∙ h.0, agrees_later v w (k + 1) xs (omega (arith, low)) same h.1)

pub agrees_itself : (xs : List Value) → Agrees (value_at xs) 1 xs
agrees_itself [] = tt
agrees_itself (x ∷ xs) = (refl, agrees_later (value_at (x ∷ xs)) (value_at xs) 1 xs (omega arith) next (agrees_itself xs))
  where
    next : (i : ℕ) → 1 ≤ i → value_at (x ∷ xs) (i + 1) ≡ value_at xs i
    next i low = let e : i + 1 - 1 ≡ suc (i - 1) = omega (arith, low) in ap (λ j. slice_index_or (x ∷ xs) j value.Default) e

-- ---- numbers in the places of pointers

-- a pointer other than 0 that is due
abbrev pub IsDue : List DueValue → ℤ → Type 0
IsDue ds z = Has ds (pointer z) × (int_eq z (pos 0) ≡ false)

module _ (v : ℕ → Value) where
  abbrev followed : ℕ → List DueValue → List ℤ
  followed k ds = filter_map (λ j. number_of (v j)) (places_due k ds)

  numbers_due : (k : ℕ) (ds all : List DueValue) (vs : List Value) → ((d : DueValue) → Has ds d → Has all d) → MeetsAll ds vs → Agrees v k vs
      → AllByRecursion (IsDue all) (followed k ds)
  numbers_due k [] all vs within m a = tt
  numbers_due k (pointer z ∷ ds) all [] within m a = absurd m
  numbers_due k (pointer z ∷ ds) all (x ∷ vs) within m a =
      let read : number_of (v k) ≡ (if int_eq z (pos 0) then None else Some z) = ap number_of (a.0 ∙ m.0) in
      subst (λ o. AllByRecursion (IsDue all) (cons_option o (followed (k + 1) ds))) (sym read)
      (by_test (int_eq z (pos 0)) refl (numbers_due (k + 1) ds all vs (λ d h. within d (inr h)) m.1 a.1))
    where
      by_test : (b : Bool) → int_eq z (pos 0) ≡ b → AllByRecursion (IsDue all) (followed (k + 1) ds)
          → AllByRecursion (IsDue all) (cons_option (if b then None else Some z) (followed (k + 1) ds))
      by_test true e h = h
      by_test false e h = ((within (pointer z) (inl refl), e), h)
  numbers_due k (number z ∷ ds) all [] within m a = absurd m
  numbers_due k (number z ∷ ds) all (x ∷ vs) within m a = numbers_due (k + 1) ds all vs (λ d h. within d (inr h)) m.1 a.1
  numbers_due k (flag b ∷ ds) all [] within m a = absurd m
  numbers_due k (flag b ∷ ds) all (x ∷ vs) within m a = numbers_due (k + 1) ds all vs (λ d h. within d (inr h)) m.1 a.1
  numbers_due k (at_least_one n ∷ ds) all [] within m a = absurd m
  numbers_due k (at_least_one n ∷ ds) all (x ∷ vs) within m a = numbers_due (k + 1) ds all vs (λ d h. within d (inr h)) m.1 a.1
  numbers_due k (count n ∷ []) all [] within m a = tt
  numbers_due k (count n ∷ d ∷ ds) all [] within m a = absurd m
  numbers_due k (count n ∷ ds) all (x ∷ vs) within m a = numbers_due (k + 1) ds all vs (λ d h. within d (inr h)) m.1 a.1
  numbers_due k (coordinate w ∷ ds) all [] within m a = absurd m
  numbers_due k (coordinate w ∷ ds) all (x ∷ vs) within m a = numbers_due (k + 1) ds all vs (λ d h. within d (inr h)) m.1 a.1

  option_first : (o : Option ℤ) (zs : List ℤ) (z : ℤ) → o ≡ Some z → Has (cons_option o zs) z
  option_first None zs z e = let no : None ≡ Some z = e in absurd cc
  option_first (Some y) zs z e = inl (same_Some y z e)

  option_later : (o : Option ℤ) (zs : List ℤ) (z : ℤ) → Has zs z → Has (cons_option o zs) z
  option_later None zs z h = h
  option_later (Some y) zs z h = inr h

  due_numbers : (k : ℕ) (ds : List DueValue) (vs : List Value) (z : ℤ) → Has ds (pointer z) → int_eq z (pos 0) ≡ false → MeetsAll ds vs → Agrees v k vs
      → Has (followed k ds) z
  due_numbers k [] vs z h some m a = absurd h
  due_numbers k (pointer y ∷ ds) [] z h some m a = absurd m
  due_numbers k (pointer y ∷ ds) (x ∷ vs) z (inl e) some m a =
      let same : y ≡ z = cc in
      let read : number_of (v k) ≡ (if int_eq z (pos 0) then None else Some z) = ap number_of (a.0 ∙ m.0) ∙ ap (λ w. if int_eq w (pos 0) then None else Some w)
      same in
      option_first (number_of (v k)) (followed (k + 1) ds) z (read ∙ cond-false (int_eq z (pos 0)) None (Some z) some)
  due_numbers k (pointer y ∷ ds) (x ∷ vs) z (inr h) some m a =
      option_later (number_of (v k)) (followed (k + 1) ds) z (due_numbers (k + 1) ds vs z h some m.1 a.1)
  due_numbers k (number y ∷ ds) [] z h some m a = absurd m
  due_numbers k (number y ∷ ds) (x ∷ vs) z (inl e) some m a = absurd cc
  due_numbers k (number y ∷ ds) (x ∷ vs) z (inr h) some m a = due_numbers (k + 1) ds vs z h some m.1 a.1
  due_numbers k (flag b ∷ ds) [] z h some m a = absurd m
  due_numbers k (flag b ∷ ds) (x ∷ vs) z (inl e) some m a = absurd cc
  due_numbers k (flag b ∷ ds) (x ∷ vs) z (inr h) some m a = due_numbers (k + 1) ds vs z h some m.1 a.1
  due_numbers k (at_least_one n ∷ ds) [] z h some m a = absurd m
  due_numbers k (at_least_one n ∷ ds) (x ∷ vs) z (inl e) some m a = absurd cc
  due_numbers k (at_least_one n ∷ ds) (x ∷ vs) z (inr h) some m a = due_numbers (k + 1) ds vs z h some m.1 a.1
  due_numbers k (count n ∷ []) vs z (inl e) some m a = absurd cc
  due_numbers k (count n ∷ []) vs z (inr h) some m a = absurd h
  due_numbers k (count n ∷ d ∷ ds) [] z h some m a = absurd m
  due_numbers k (count n ∷ d ∷ ds) (x ∷ vs) z (inl e) some m a = absurd cc
  due_numbers k (count n ∷ d ∷ ds) (x ∷ vs) z (inr h) some m a = due_numbers (k + 1) (d ∷ ds) vs z h some m.1 a.1
  due_numbers k (coordinate w ∷ ds) [] z h some m a = absurd m
  due_numbers k (coordinate w ∷ ds) (x ∷ vs) z (inl e) some m a = absurd cc
  due_numbers k (coordinate w ∷ ds) (x ∷ vs) z (inr h) some m a = due_numbers (k + 1) ds vs z h some m.1 a.1

-- Each number that a record's pointers give is due, and the other way round.
abbrev pub numbers_in : List DueValue → List Value → List ℤ
numbers_in ds vs = filter_map (λ j. number_of (value_at vs j)) (places_due 1 ds)

pub numbers_are_due : (ds : List DueValue) (vs : List Value) → MeetsAll ds vs → AllByRecursion (IsDue ds) (numbers_in ds vs)
numbers_are_due ds vs m = numbers_due (value_at vs) 1 ds ds vs (λ d h. h) m (agrees_itself vs)

pub due_are_numbers : (ds : List DueValue) (vs : List Value) (z : ℤ) → MeetsAll ds vs → IsDue ds z → Has (numbers_in ds vs) z
due_are_numbers ds vs z m h = due_numbers (value_at vs) 1 ds vs z h.0 h.1 m (agrees_itself vs)

-- ---- what is due of fewer or reindexed items

pointer_alike : (d e : DueValue) (z : ℤ) → IsAlike d e → e ≡ pointer z → d ≡ pointer z
pointer_alike (number y) e z a same = let no : number a.0 ≡ pointer z = sym a.1 ∙ same in absurd cc
pointer_alike (pointer y) e z a same = sym a ∙ same
pointer_alike (flag b) e z a same = let no : flag b ≡ pointer z = sym a ∙ same in absurd cc
pointer_alike (at_least_one n) e z a same = let no : at_least_one n ≡ pointer z = sym a ∙ same in absurd cc
pointer_alike (count n) e z a same = let no : count n ≡ pointer z = sym a ∙ same in absurd cc
pointer_alike (coordinate v) e z a same = let no : coordinate v ≡ pointer z = sym a ∙ same in absurd cc

pub alike_pointers : (ds es : List DueValue) → AllZip IsAlike ds es → (z : ℤ) → Has es (pointer z) → Has ds (pointer z)
alike_pointers [] [] h z m = m
alike_pointers [] (e ∷ es) h z m = absurd h
alike_pointers (d ∷ ds) [] h z m = absurd h
alike_pointers (d ∷ ds) (e ∷ es) h z (inl same) = inl (pointer_alike d e z h.0 same)
alike_pointers (d ∷ ds) (e ∷ es) h z (inr m) = inr (alike_pointers ds es h.1 z m)

edge_pointers : (g : Contents) (e : EdgeTuple) (z : ℤ) → Has (edge_due (reindexed_edge g e)) (pointer z) → Has (edge_due e) (pointer z)
edge_pointers g e z (inl same) = inl same
edge_pointers g e z (inr (inl same)) = inr (inl same)
edge_pointers g e z (inr (inr (inl same))) = absurd cc
edge_pointers g e z (inr (inr (inr (inl same)))) = inr (inr (inr (inl same)))
edge_pointers g e z (inr (inr (inr (inr (inl same))))) = absurd cc
edge_pointers g e z (inr (inr (inr (inr (inr m))))) = absurd m

pub kept_edge_pointers : (g : Contents) (e : ℕ) (vs : List Value) (z : ℤ) → Has (due edges (kept_edges g e vs)) (pointer z)
    → Has (due edges (items_of edges vs)) (pointer z)
kept_edge_pointers g e vs z (inl same) = absurd cc
kept_edge_pointers g e vs z (inr m) =
    let one = from_flat_map edge_due (kept_edges g e vs) (pointer z) m in
    let was = has_map (reindexed_edge g) (used_from (is_used_edge g e) 1 (items_of edges vs)) one.0 one.1 in
    let there : Has (items_of edges vs) was.0 = from_used (is_used_edge g e) 1 (items_of edges vs) was.0 was.1 in
    let names : Has (edge_due (reindexed_edge g was.0)) (pointer z) = subst (λ x. Has (edge_due x) (pointer z)) (sym was.2) one.2 in
    inr (has_flat_map edge_due (items_of edges vs) was.0 (pointer z) there (edge_pointers g was.0 z names))

no_vertex_pointer : (xs : List (Value × Value × Value)) (z : ℤ) → Has (flat_map vertex_due xs) (pointer z) → ⊥
no_vertex_pointer [] z h = h
no_vertex_pointer (x ∷ xs) z (inl same) = absurd cc
no_vertex_pointer (x ∷ xs) z (inr (inl same)) = absurd cc
no_vertex_pointer (x ∷ xs) z (inr (inr (inl same))) = absurd cc
no_vertex_pointer (x ∷ xs) z (inr (inr (inr m))) = no_vertex_pointer xs z m

pub vertex_pointers : (xs : List (Value × Value × Value)) (z : ℤ) → Has (due vertices xs) (pointer z) → ⊥
vertex_pointers xs z (inl same) = absurd cc
vertex_pointers xs z (inr m) = no_vertex_pointer xs z m
