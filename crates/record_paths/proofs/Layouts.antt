-- Records that numbers name, and how many values an edge list has.
use Rattle.std.specs.Prelude.{◌≡◌, ℕ, zero, suc, ◌+◌, ◌-◌, ◌*◌, ◌<◌, ◌≤◌, Bool, true, ℤ, pos, List, [], ◌∷◌, ◌↔◌, IsTrue, length, map, drop, slice_get, Option}
use Rattle.std.specs.Prelude.{Some, None, IsSomeAnd}
use Rattle.std.proofs.Common.{refl, sym, ◌∙◌, ap, subst, arith, suc-mul}
use Rattle.std.proofs.lemmas.Bool.{and_parts}
use Rattle.std.proofs.lemmas.List.{length-drop}
use Rattle.iges_fields.specs.declared.value.Value.{Value}
use Rattle.iges_directory.specs.declared.entry.Entry.{Entry}
use Rattle.iges_params.specs.Contents.{Contents}
use Rattle.iges_params.specs.Named.{named, record_values, values_of}
use Rattle.brep_lists.specs.Record.{Items, Fits, items_of, IsRecordOf, edge_read, groups, int_at, count_at}
use Rattle.brep_lists.specs.declared.entity_kind.EntityKind.{EntityKind}
use Rattle.brep_lists.specs.declared.entity_kind.EntityKind.TheVariants.{EdgeList as edges}
use Rattle.brep_lists.specs.declared.edge_list.EdgeTuple.{EdgeTuple}
use Rattle.brep_lists.proofs.Views.{edge_item}
use Rattle.solid_data.specs.declared.verdict.Failing.{Failing}
use Rattle.record_paths.specs.Searched.{Bears}
use Rattle.brep_lists.specs.Groups.{group_passes, groups_pass, is_counted}
use Rattle.brep_lists.specs.declared.groups.Slot.{Slot}
use Rattle.brep_lists.proofs.Decided.{decided}
use Rattle.brep_lists.proofs.Stride.{edge_shape, edges_counted, items_length}
use Rattle.brep_walk.specs.Places.{HasRecordOf, IsIndex, edge_at, edge_places}
use Rattle.solid_data.specs.Obligations.{entry_number}

no_record : (kind : EntityKind) (o : Option (Entry × List Value)) (vs : List Value) → vs ≡ record_values o → ((items : Items kind) → ¬ Fits kind vs items)
    → IsSomeAnd o (λ e. IsRecordOf kind e.1) → ⊥
no_record kind None vs same none h = h
no_record kind (Some e) vs same none h = none (items_of kind e.1) (subst (λ ws. Fits kind ws (items_of kind e.1)) (sym same) h)

-- y is the number as a call was given it
pub not_of_kind : (kind : EntityKind) (f : Contents) (z y : ℤ) → y ≡ z → (vs : List Value) → vs ≡ values_of f y → ((items : Items kind) → ¬ Fits kind vs items)
    → ¬ HasRecordOf kind f z
not_of_kind kind f z y is vs same none h = no_record kind (named f z) vs (same ∙ ap (values_of f) is) none h

is_record : (kind : EntityKind) (o : Option (Entry × List Value)) (vs : List Value) → vs ≡ record_values o → IsSomeAnd o (λ e. IsRecordOf kind e.1)
    → IsRecordOf kind vs
is_record kind None vs same h = absurd h
is_record kind (Some e) vs same h = subst (IsRecordOf kind) (sym same) h

pub of_kind : (kind : EntityKind) (f : Contents) (z y : ℤ) → y ≡ z → (vs : List Value) → vs ≡ values_of f y → HasRecordOf kind f z → IsRecordOf kind vs
of_kind kind f z y is vs same h = is_record kind (named f z) vs (same ∙ ap (values_of f) is) h

group_room : (ss : List Slot) (vs : List Value) → group_passes ss vs ≡ true → length ss ≤ length vs
group_room [] vs h = omega arith
group_room (s ∷ ss) [] h = absurd cc
group_room (s ∷ ss) (v ∷ vs) h = omega (arith, group_room ss vs (and_parts _ _ h).1)

groups_room : (ss : List Slot) (n : ℕ) (vs : List Value) → groups_pass ss n vs ≡ true → n * length ss ≤ length vs
groups_room ss zero vs h = omega arith
groups_room ss (suc n) vs h =
    let p = and_parts _ _ h in
    let rest : n * length ss ≤ length (drop (length ss) vs) = groups_room ss n (drop (length ss) vs) p.1 in
    let here : length ss ≤ length vs = group_room ss vs p.0 in
    omega (arith, suc-mul n (length ss), here, rest, length-drop (length ss) vs)

pub edges_room : (vs : List Value) → IsRecordOf edges vs → count_at vs 0 * 5 < length vs
edges_room [] h = let e : is_counted edge_shape [] ≡ true = sym (edges_counted []) ∙ (decided edges []).1 h in absurd cc
edges_room (v ∷ vs) h =
    let e : is_counted edge_shape (v ∷ vs) ≡ true = sym (edges_counted (v ∷ vs)) ∙ (decided edges (v ∷ vs)).1 h in
    let p = and_parts _ _ (and_parts _ _ e).1 in
    let room : count_at (v ∷ vs) 0 * length edge_shape ≤ length vs = groups_room edge_shape (count_at (v ∷ vs) 0) vs p.0 in
    omega (arith, room)

-- an index that reaches past the record's end is none of its list
pub past_edges : (vs : List Value) (index len : ℕ) → len ≡ length vs → len ≤ index * 5 → IsRecordOf edges vs → IsIndex (pos index) (length (items_of edges vs))
    → ⊥
past_edges vs index len is past fits (k, same, low, high) =
    let e : index ≡ k = ap entry_number same in
    let l : length (items_of edges vs) ≡ count_at vs 0 = items_length edge_read 5 (count_at vs 0) (drop 1 vs) in
    let room : count_at vs 0 * 5 < length vs = edges_room vs fits in
    absurd (omega (arith, room, e, l, high, is, past))

pub edge_read_at : (n index end : ℕ) (vs : List Value) (a b c d e : ℤ) → ¬ (index ≡ 0) → index ≤ n → end ≡ index * 5
    → a ≡ int_at vs (end - 4) → b ≡ int_at vs (end - 4 + 1) → c ≡ int_at vs (end - 4 + 2) → d ≡ int_at vs (end - 4 + 3) → e ≡ int_at vs (end - 4 + 4)
    → slice_get (map edge_read (groups 5 n (drop 1 vs))) (index - 1) ≡ Some (record { curve = a; start_list = b; start_index = c; end_list = d; end_index = e })
edge_read_at n zero end vs a b c d e some within is p q r s t = absurd (some refl)
edge_read_at n (suc i) end vs a b c d e some within is p q r s t =
    let at : end - 4 ≡ 1 + i * 5 = omega (arith, is, suc-mul i 5) in
    let one : suc i - 1 ≡ i = omega arith in
    ap (slice_get (map edge_read (groups 5 n (drop 1 vs)))) one
    ∙ sym (edge_item n i vs a b c d e (omega (arith, within)) (p ∙ ap (int_at vs) at) (q ∙ ap (λ k. int_at vs (k + 1)) at) (r ∙ ap (λ k. int_at vs (k + 2)) at)
    (s ∙ ap (λ k. int_at vs (k + 3)) at) (t ∙ ap (λ k. int_at vs (k + 4)) at))

-- y is the number as a call was given it
pub used_edge : (f : Contents) (z y : ℤ) → y ≡ z → (n : ℕ) → y ≡ pos n → (vs : List Value) → vs ≡ values_of f y → (index : ℤ) (j : ℕ) → index ≡ pos j
    → (e : EdgeTuple) → slice_get (items_of edges vs) (j - 1) ≡ Some e
    → (x : Failing) (b : Bool) → (IsTrue b ↔ Bears (edge_places f (pos n) j (Some e)) x)
    → IsTrue b ↔ Bears (edge_places f z (entry_number index) (edge_at f z (entry_number index))) x
used_edge f z y is n named vs same index j at e got x b both =
    let k : j ≡ entry_number index = sym (ap entry_number at) in
    let here : edge_at f z (entry_number index) ≡ Some e =
    ap (λ i. slice_get (items_of edges (values_of f z)) (i - 1)) (sym k) ∙ ap (λ ws. slice_get (items_of edges ws) (j - 1)) (sym (same ∙ ap (values_of f) is))
    ∙ got in
    subst (λ o. IsTrue b ↔ Bears (edge_places f z (entry_number index) o) x) (sym here)
    (subst (λ i. IsTrue b ↔ Bears (edge_places f z i (Some e)) x) k (subst (λ l. IsTrue b ↔ Bears (edge_places f l j (Some e)) x) (sym named ∙ is) both))
