-- Where the numbers stand in their records that a solid's obligations speak of.
use Rattle.std.specs.Prelude.{◌≡◌, ℕ, zero, suc, ◌+◌, ◌-◌, ◌*◌, ◌<◌, nat_lt, Bool, false, if◌then◌else◌, ℤ, List, ◌∷◌, map, take, drop, sum_by, Some, slice_get}
use Rattle.std.proofs.Common.{sym, ◌∙◌, ap, arith, lit<, inl, inr}
use Rattle.std.proofs.lemmas.Bool.{cases_Bool}
use Rattle.std.proofs.lemmas.Bool.Decides.{Decides-ltb}
use Rattle.std.proofs.lemmas.List.{drop-drop}
use Rattle.std.proofs.lemmas.List.Sums.{sum_by-cons}
use Rattle.std.proofs.lemmas.Option.{same_Some, slice_get_within}
use Rattle.iges_fields.specs.declared.value.Value.{Value}
use Rattle.brep_lists.specs.Record.{LoopTuple, SolidItems, FaceItems, items_of, int_of, int_at, count_at, groups, pair_read, curve_read, edge_read, tuple_read}
use Rattle.brep_lists.specs.Record.{tuples_read}
use Rattle.brep_lists.specs.declared.entity_kind.EntityKind.TheVariants.{Solid as solid, Shell as shell, Face as face, Loop as «loop», EdgeList as edges}
use Rattle.brep_lists.specs.declared.edge_list.EdgeTuple.{EdgeTuple}
use Rattle.brep_lists.proofs.Views.{item_at, read_at, value_after}
use Rattle.brep_lists.proofs.Stride.{items_length, loop_read}
use Rattle.record_values.specs.BadValue.{tuple_size, tuple_place}

-- an item of a record whose items have so many values each
item_read : {X : Type 0} (read : List Value → X) (size n i base : ℕ) (vs : List Value) (x : X) → slice_get (map read (groups size n (drop base vs))) i ≡ Some x
    → x ≡ read (take size (drop (base + i * size) vs))
item_read {X} read size n i base vs x e =
    let all = items_length read size n (drop base vs) in
    let within = slice_get_within (map read (groups size n (drop base vs))) i x e in
    same_Some x (read (take size (drop (base + i * size) vs))) (sym e ∙ item_at read size n i base vs (omega (arith, all, within)))

int_in_group : (size at k : ℕ) (vs : List Value) → k < size → int_at (take size (drop at vs)) k ≡ int_at vs (at + k)
int_in_group size at k vs h = ap int_of (read_at size at k vs h)

first_int : (size at : ℕ) (vs : List Value) → 0 < size → int_at (take size (drop at vs)) 0 ≡ int_at vs at
first_int size at vs h = int_in_group size at 0 vs h ∙ (let e : at + 0 ≡ at = omega arith in ap (int_at vs) e)

pub solid_item : (vs : List Value) (i : ℕ) (s : ℤ × Bool) → (let items : SolidItems = items_of solid vs in slice_get (items.outer ∷ items.voids) i ≡ Some s)
    → int_at vs (if nat_lt (suc i) 2 then 0 else 2 * suc i - 1) ≡ s.0
solid_item vs zero s e = ap (λ (p : ℤ × Bool). p.0) (same_Some (pair_read vs) s e)
solid_item vs (suc j) s e =
    let read = item_read pair_read 2 (count_at vs 2) j 3 vs s e in
    let past : nat_lt (suc (suc j)) 2 ≡ false
    = elim (cases_Bool (nat_lt (suc (suc j)) 2)) [ inl h ↦ (let less = (Decides-ltb (suc (suc j)) 2).0 h in absurd (omega (arith, less))) | inr h ↦ h ] in
    let place : 2 * suc (suc j) - 1 ≡ 3 + j * 2 = omega arith in
    ap (λ b. int_at vs (if b then 0 else 2 * suc (suc j) - 1)) past ∙ ap (int_at vs) place
    ∙ sym (first_int 2 (3 + j * 2) vs (lit< tt)) ∙ sym (ap (λ (p : ℤ × Bool). p.0) read)

pub shell_item : (vs : List Value) (i : ℕ) (c : ℤ × Bool) → slice_get (items_of shell vs) i ≡ Some c → int_at vs (2 * suc i - 1) ≡ c.0
shell_item vs i c e =
    let read = item_read pair_read 2 (count_at vs 0) i 1 vs c e in
    let place : 2 * suc i - 1 ≡ 1 + i * 2 = omega arith in
    ap (int_at vs) place ∙ sym (first_int 2 (1 + i * 2) vs (lit< tt)) ∙ sym (ap (λ (p : ℤ × Bool). p.0) read)

pub face_item : (vs : List Value) (i : ℕ) (l : ℤ) → (let items : FaceItems = items_of face vs in slice_get items.loops i ≡ Some l) → int_at vs (suc i + 2) ≡ l
face_item vs i l e =
    let read = item_read loop_read 1 (count_at vs 1) i 3 vs l e in
    let place : suc i + 2 ≡ 3 + i * 1 = omega arith in
    ap (int_at vs) place ∙ sym (first_int 1 (3 + i * 1) vs (lit< tt)) ∙ sym read

-- ---- tuples of a loop

tuple_from : (n i b : ℕ) (vs : List Value) (t : LoopTuple) → slice_get (tuples_read n (drop b vs)) i ≡ Some t
    → t ≡ tuple_read (drop (b + sum_by tuple_size (take i (tuples_read n (drop b vs)))) vs)
tuple_from zero i b vs t e = absurd cc
tuple_from (suc n) zero b vs t e =
    let none : b + sum_by tuple_size (take 0 (tuples_read (suc n) (drop b vs))) ≡ b = omega arith in
    sym (same_Some (tuple_read (drop b vs)) t e) ∙ ap (λ k. tuple_read (drop k vs)) (sym none)
tuple_from (suc n) (suc i) b vs t e =
    let ws = drop b vs in
    let c = count_at ws 4 in
    let on : drop (5 + 2 * c) ws ≡ drop (b + (5 + 2 * c)) vs = drop-drop (5 + 2 * c) b vs in
    let size : tuple_size (tuple_read ws) ≡ 5 + 2 * c = ap (λ k. 5 + 2 * k) (items_length curve_read 2 c (drop 5 ws)) in
    let sum = sum_by-cons tuple_size (tuple_read ws) (take i (tuples_read n (drop (5 + 2 * c) ws))) in
    let same = ap (λ us. sum_by tuple_size (take i (tuples_read n us))) on in
    let place : b + (5 + 2 * c) + sum_by tuple_size (take i (tuples_read n (drop (b + (5 + 2 * c)) vs))) ≡ b
    + sum_by tuple_size (take (suc i) (tuples_read (suc n) ws))
    = omega (arith, size, sum, same) in
    tuple_from n i (b + (5 + 2 * c)) vs t (ap (λ us. slice_get (tuples_read n us) i) (sym on) ∙ e) ∙ ap (λ k. tuple_read (drop k vs)) place

pub loop_tuple : (vs : List Value) (i : ℕ) (t : LoopTuple) → slice_get (items_of «loop» vs) i ≡ Some t
    → t ≡ tuple_read (drop (tuple_place (items_of «loop» vs) i) vs)
loop_tuple vs i t e = tuple_from (count_at vs 0) i 1 vs t e

pub tuple_list : (vs : List Value) (at : ℕ) (t : LoopTuple) → t ≡ tuple_read (drop at vs) → int_at vs (at + 1) ≡ t.«list»
tuple_list vs at t e = sym (ap int_of (value_after at 1 vs)) ∙ sym (ap (λ (u : LoopTuple). u.«list») e)

pub tuple_index : (vs : List Value) (at : ℕ) (t : LoopTuple) → t ≡ tuple_read (drop at vs) → int_at vs (at + 2) ≡ t.index
tuple_index vs at t e = sym (ap int_of (value_after at 2 vs)) ∙ sym (ap (λ (u : LoopTuple). u.index) e)

pub tuple_curve : (vs : List Value) (at j : ℕ) (t : LoopTuple) (c : Bool × ℤ) → t ≡ tuple_read (drop at vs) → slice_get t.curves j ≡ Some c
    → int_at vs (at + 6 + 2 * j) ≡ c.1
tuple_curve vs at j t c e h =
    let here = sym (ap (λ (u : LoopTuple). slice_get u.curves j) e) ∙ h in
    let read = item_read curve_read 2 (count_at (drop at vs) 4) j 5 (drop at vs) c here in
    let place : at + 6 + 2 * j ≡ at + (5 + j * 2 + 1) = omega arith in
    ap (int_at vs) place ∙ sym (ap int_of (value_after at (5 + j * 2 + 1) vs)) ∙ sym (int_in_group 2 (5 + j * 2) 1 (drop at vs) (lit< tt))
    ∙ sym (ap (λ (p : Bool × ℤ). p.1) read)

-- ---- edges

edge_from : (vs : List Value) (i : ℕ) (e : EdgeTuple) → slice_get (items_of edges vs) i ≡ Some e → e ≡ edge_read (take 5 (drop (1 + i * 5) vs))
edge_from vs i e h = item_read edge_read 5 (count_at vs 0) i 1 vs e h

turned : (i : ℕ) → 1 + 5 * i ≡ 1 + i * 5
turned i = omega arith

pub edge_curve : (vs : List Value) (i : ℕ) (e : EdgeTuple) → slice_get (items_of edges vs) i ≡ Some e → int_at vs (1 + 5 * i) ≡ e.curve
edge_curve vs i e h = ap (int_at vs) (turned i) ∙ sym (first_int 5 (1 + i * 5) vs (lit< tt)) ∙ sym (ap (λ (u : EdgeTuple). u.curve) (edge_from vs i e h))

pub edge_start : (vs : List Value) (i : ℕ) (e : EdgeTuple) → slice_get (items_of edges vs) i ≡ Some e → int_at vs (1 + 5 * i + 1) ≡ e.start_list
edge_start vs i e h = ap (λ k. int_at vs (k + 1)) (turned i) ∙ sym (int_in_group 5 (1 + i * 5) 1 vs (lit< tt))
    ∙ sym (ap (λ (u : EdgeTuple). u.start_list) (edge_from vs i e h))

pub edge_start_index : (vs : List Value) (i : ℕ) (e : EdgeTuple) → slice_get (items_of edges vs) i ≡ Some e → int_at vs (1 + 5 * i + 2) ≡ e.start_index
edge_start_index vs i e h = ap (λ k. int_at vs (k + 2)) (turned i) ∙ sym (int_in_group 5 (1 + i * 5) 2 vs (lit< tt))
    ∙ sym (ap (λ (u : EdgeTuple). u.start_index) (edge_from vs i e h))

pub edge_end : (vs : List Value) (i : ℕ) (e : EdgeTuple) → slice_get (items_of edges vs) i ≡ Some e → int_at vs (1 + 5 * i + 3) ≡ e.end_list
edge_end vs i e h = ap (λ k. int_at vs (k + 3)) (turned i) ∙ sym (int_in_group 5 (1 + i * 5) 3 vs (lit< tt))
    ∙ sym (ap (λ (u : EdgeTuple). u.end_list) (edge_from vs i e h))

pub edge_end_index : (vs : List Value) (i : ℕ) (e : EdgeTuple) → slice_get (items_of edges vs) i ≡ Some e → int_at vs (1 + 5 * i + 4) ≡ e.end_index
edge_end_index vs i e h = ap (λ k. int_at vs (k + 4)) (turned i) ∙ sym (int_in_group 5 (1 + i * 5) 4 vs (lit< tt))
    ∙ sym (ap (λ (u : EdgeTuple). u.end_index) (edge_from vs i e h))
