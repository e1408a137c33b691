-- Records whose items have so many values each.
use Rattle.std.specs.Prelude.{◌≡◌, ℕ, zero, suc, ◌+◌, ◌*◌, ◌&&◌, Bool, true, false, ℤ, List, [], ◌∷◌, ◌++◌, length, map, flat_map, drop}
use Rattle.std.proofs.Common.{refl, sym, ◌∙◌, ap, arith, append-nil}
use Rattle.std.proofs.Math.Bool.{and-false}
use Rattle.std.proofs.lemmas.List.{length-map}
use Rattle.iges_fields.specs.declared.value.Value.{Value}
use Rattle.brep_lists.specs.DueValues.{DueValue, pointer, at_least_one, count}
use Rattle.brep_lists.specs.Record.{pair_due, edge_due, vertex_due, count_of, value_or_default, int_at, groups, pair_read, edge_read}
use Rattle.brep_lists.specs.declared.entity_kind.EntityKind.TheVariants.{Solid as solid, Shell as shell, Face as face, EdgeList as edges}
use Rattle.brep_lists.specs.declared.entity_kind.EntityKind.TheVariants.{VertexList as vertices}
use Rattle.brep_lists.specs.OwnValues.{meets, meets_all, is_record_of}
use Rattle.brep_lists.specs.Groups.{passes, groups_pass, is_counted, is_solid, is_face}
use Rattle.brep_lists.specs.declared.groups.Slot.{Slot}
use Rattle.brep_lists.specs.declared.groups.Slot.TheVariants.{Whole, Flag, Coordinate}

pub front : (a p q g s : Bool) → p ≡ ((q && g) && s) → (a && p) ≡ (((a && q) && g) && s)
front true p q g s e = e
front false p q g s e = refl

past : (n k : ℕ) (v : Value) (vs : List Value) → n ≡ suc k → drop n (v ∷ vs) ≡ drop k vs
past n k v vs e = ap (λ m. drop m (v ∷ vs)) e

abbrev pub pair_shape : List Slot
pair_shape = Whole ∷ Flag ∷ []

abbrev pub edge_shape : List Slot
edge_shape = Whole ∷ Whole ∷ Whole ∷ Whole ∷ Whole ∷ []

abbrev pub vertex_shape : List Slot
vertex_shape = Coordinate ∷ Coordinate ∷ Coordinate ∷ []

abbrev pub vertex_read : List Value → Value × Value × Value
vertex_read g = (value_or_default g 0, value_or_default g 1, value_or_default g 2)

pub pairs_meet : (n : ℕ) (ds : List DueValue) (vs : List Value) →
    meets_all (flat_map pair_due (map pair_read (groups 2 n vs)) ++ ds) vs ≡ (groups_pass pair_shape n vs && meets_all ds (drop (n * 2) vs))
pairs_meet zero ds vs = refl
pairs_meet (suc n) ds [] = refl
pairs_meet (suc n) ds (v ∷ []) = front (passes Whole v) false false (groups_pass pair_shape n []) _ refl
pairs_meet (suc n) ds (v ∷ w ∷ vs) =
    let two : suc n * 2 ≡ suc (suc (n * 2)) = omega arith in
    let on : drop (n * 2) vs ≡ drop (suc n * 2) (v ∷ w ∷ vs) = sym (ap (λ m. drop m (v ∷ w ∷ vs)) two) in
    front (passes Whole v) _ _ _ _ (front (passes Flag w) _ true _ _ (pairs_meet n ds vs ∙ ap (λ ws. groups_pass pair_shape n vs && meets_all ds ws) on))

pub edges_meet : (n : ℕ) (ds : List DueValue) (vs : List Value) →
    meets_all (flat_map edge_due (map edge_read (groups 5 n vs)) ++ ds) vs ≡ (groups_pass edge_shape n vs && meets_all ds (drop (n * 5) vs))
edges_meet zero ds vs = refl
edges_meet (suc n) ds [] = refl
edges_meet (suc n) ds (a ∷ []) = front (passes Whole a) _ false _ _ refl
edges_meet (suc n) ds (a ∷ b ∷ []) = front (passes Whole a) _ _ _ _ (front (passes Whole b) _ false _ _ refl)
edges_meet (suc n) ds (a ∷ b ∷ c ∷ []) = front (passes Whole a) _ _ _ _ (front (passes Whole b) _ _ _ _ (front (passes Whole c) _ false _ _ refl))
edges_meet (suc n) ds (a ∷ b ∷ c ∷ d ∷ []) = front (passes Whole a) _ _ _ _
    (front (passes Whole b) _ _ _ _ (front (passes Whole c) _ _ _ _ (front (passes Whole d) _ false _ _ refl)))
edges_meet (suc n) ds (a ∷ b ∷ c ∷ d ∷ x ∷ vs) =
    let five : suc n * 5 ≡ suc (suc (suc (suc (suc (n * 5))))) = omega arith in
    let on : drop (n * 5) vs ≡ drop (suc n * 5) (a ∷ b ∷ c ∷ d ∷ x ∷ vs) = sym (ap (λ m. drop m (a ∷ b ∷ c ∷ d ∷ x ∷ vs)) five) in
    front (passes Whole a) _ _ _ _ (front (passes Whole b) _ _ _ _
    (front (passes Whole c) _ _ _ _ (front (passes Whole d) _ _ _ _ (front (passes Whole x) _ true _ _
    (edges_meet n ds vs ∙ ap (λ ws. groups_pass edge_shape n vs && meets_all ds ws) on)))))

pub vertices_meet : (n : ℕ) (ds : List DueValue) (vs : List Value) →
    meets_all (flat_map vertex_due (map vertex_read (groups 3 n vs)) ++ ds) vs ≡ (groups_pass vertex_shape n vs && meets_all ds (drop (n * 3) vs))
vertices_meet zero ds vs = refl
vertices_meet (suc n) ds [] = refl
vertices_meet (suc n) ds (a ∷ []) = front (passes Coordinate a) _ false _ _ refl
vertices_meet (suc n) ds (a ∷ b ∷ []) = front (passes Coordinate a) _ _ _ _ (front (passes Coordinate b) _ false _ _ refl)
vertices_meet (suc n) ds (a ∷ b ∷ c ∷ vs) =
    let three : suc n * 3 ≡ suc (suc (suc (n * 3))) = omega arith in
    let on : drop (n * 3) vs ≡ drop (suc n * 3) (a ∷ b ∷ c ∷ vs) = sym (ap (λ m. drop m (a ∷ b ∷ c ∷ vs)) three) in
    front (passes Coordinate a) _ _ _ _ (front (passes Coordinate b) _ _ _ _ (front (passes Coordinate c) _ true _ _
    (vertices_meet n ds vs ∙ ap (λ ws. groups_pass vertex_shape n vs && meets_all ds ws) on)))

-- ---- a count, and the items that it counts

pub length_groups : (size n : ℕ) (vs : List Value) → length (groups size n vs) ≡ n
length_groups size zero vs = refl
length_groups size (suc n) vs = ap suc (length_groups size n (drop size vs))

counted_is : (shape : List Slot) (v : Value) (vs : List Value) (m : ℕ) (ds : List DueValue) → m ≡ count_of v
    → meets_all (ds ++ []) vs ≡ (groups_pass shape (count_of v) vs && meets_all [] (drop (count_of v * length shape) vs))
    → meets_all (at_least_one m ∷ ds) (v ∷ vs) ≡ is_counted shape (v ∷ vs)
counted_is shape v vs m ds e f =
    let one : 1 + count_of v * length shape ≡ suc (count_of v * length shape) = omega arith in
    ap (λ k. meets (at_least_one k) v && meets_all ds vs) e
    ∙ ap (λ b. meets (at_least_one (count_of v)) v && b) (ap (λ es. meets_all es vs) (sym (append-nil ds)) ∙ f)
    ∙ ap (λ ws. meets (at_least_one (count_of v)) v && (groups_pass shape (count_of v) vs && meets_all [] ws)) (sym (ap (λ k. drop k (v ∷ vs)) one))

pub items_length : {X : Type 0} (read : List Value → X) (size n : ℕ) (vs : List Value) → length (map read (groups size n vs)) ≡ n
items_length {X} read size n vs = length-map (groups size n vs) read ∙ length_groups size n vs

pub shell_counted : (vs : List Value) → is_record_of shell vs ≡ is_counted pair_shape vs
shell_counted [] = refl
shell_counted (v ∷ vs) = counted_is pair_shape v vs _ _ (items_length pair_read 2 (count_of v) vs) (pairs_meet (count_of v) [] vs)

pub edges_counted : (vs : List Value) → is_record_of edges vs ≡ is_counted edge_shape vs
edges_counted [] = refl
edges_counted (v ∷ vs) = counted_is edge_shape v vs _ _ (items_length edge_read 5 (count_of v) vs) (edges_meet (count_of v) [] vs)

pub vertices_counted : (vs : List Value) → is_record_of vertices vs ≡ is_counted vertex_shape vs
vertices_counted [] = refl
vertices_counted (v ∷ vs) = counted_is vertex_shape v vs _ _ (items_length vertex_read 3 (count_of v) vs) (vertices_meet (count_of v) [] vs)

abbrev pub pointer_shape : List Slot
pointer_shape = Whole ∷ []

abbrev pub loop_read : List Value → ℤ
loop_read g = int_at g 0

pub pointers_meet : (n : ℕ) (ds : List DueValue) (vs : List Value) →
    meets_all (map pointer (map loop_read (groups 1 n vs)) ++ ds) vs ≡ (groups_pass pointer_shape n vs && meets_all ds (drop (n * 1) vs))
pointers_meet zero ds vs = refl
pointers_meet (suc n) ds [] = refl
pointers_meet (suc n) ds (v ∷ vs) =
    let one : suc n * 1 ≡ suc (n * 1) = omega arith in
    let on : drop (n * 1) vs ≡ drop (suc n * 1) (v ∷ vs) = sym (ap (λ m. drop m (v ∷ vs)) one) in
    front (passes Whole v) _ true _ _ (pointers_meet n ds vs ∙ ap (λ ws. groups_pass pointer_shape n vs && meets_all ds ws) on)

-- ---- a solid

one_then : (a r : Bool) → (a && false) ≡ ((a && false) && r)
one_then true r = refl
one_then false r = refl

two_then : (a b : Bool) → (a && (b && true)) ≡ ((a && (b && true)) && true)
two_then true true = refl
two_then true false = refl
two_then false b = refl

both_then : (a b r s : Bool) → r ≡ s → (a && (b && r)) ≡ ((a && (b && true)) && s)
both_then true true r s e = e
both_then true false r s e = refl
both_then false b r s e = refl

pub solid_tested : (vs : List Value) → is_record_of solid vs ≡ is_solid vs
solid_tested [] = refl
solid_tested (a ∷ []) = one_then (passes Whole a) _
solid_tested (a ∷ b ∷ []) = two_then (passes Whole a) (passes Flag b)
solid_tested (a ∷ b ∷ k ∷ vs) =
    let n : ℕ = count_of k in
    let three : 3 + n * 2 ≡ suc (suc (suc (n * 2))) = omega arith in
    both_then (passes Whole a) (passes Flag b) _ _
    (ap (λ m. meets (count m) k && meets_all (flat_map pair_due (map pair_read (groups 2 n vs))) vs) (items_length pair_read 2 n vs)
    ∙ ap (λ b. meets (count n) k && b) (ap (λ es. meets_all es vs) (sym (append-nil (flat_map pair_due (map pair_read (groups 2 n vs))))) ∙ pairs_meet n [] vs)
    ∙ ap (λ ws. meets (count n) k && (groups_pass pair_shape n vs && meets_all [] ws)) (sym (ap (λ m. drop m (a ∷ b ∷ k ∷ vs)) three)))

-- ---- a face

middle_last : (a m r : Bool) → (a && (m && false)) ≡ (m && ((a && true) && false))
middle_last true true r = refl
middle_last true false r = refl
middle_last false true r = refl
middle_last false false r = refl

pub middle_first : (a m f r s : Bool) → r ≡ s → (a && (m && (f && r))) ≡ (m && ((a && true) && ((f && true) && s)))
middle_first true true true r s e = e
middle_first true true false r s e = refl
middle_first true false f r s e = refl
middle_first false true f r s e = refl
middle_first false false f r s e = refl

pub face_tested : (vs : List Value) → is_record_of face vs ≡ is_face vs
face_tested [] = refl
face_tested (a ∷ []) = and-false (passes Whole a)
face_tested (a ∷ k ∷ []) =
    ap (λ m. passes Whole a && (meets (at_least_one m) k && false)) (items_length loop_read 1 (count_of k) [])
    ∙ middle_last (passes Whole a) (meets (at_least_one (count_of k)) k) true
face_tested (a ∷ k ∷ f ∷ vs) =
    let n : ℕ = count_of k in
    let three : 3 + n * 1 ≡ suc (suc (suc (n * 1))) = omega arith in
    let loops : List DueValue = map pointer (map loop_read (groups 1 n vs)) in
    ap (λ m. passes Whole a && (meets (at_least_one m) k && (passes Flag f && meets_all loops vs))) (items_length loop_read 1 n vs)
    ∙ middle_first (passes Whole a) (meets (at_least_one n) k) (passes Flag f) _ _
    (ap (λ es. meets_all es vs) (sym (append-nil loops)) ∙ pointers_meet n [] vs
    ∙ ap (λ ws. groups_pass pointer_shape n vs && meets_all [] ws) (sym (ap (λ m. drop m (a ∷ k ∷ f ∷ vs)) three)))
