-- What is due value by value accepts exactly the records of the kind.
use Rattle.std.specs.Prelude.{◌≡◌, ℕ, zero, suc, ◌+◌, ◌*◌, ◌&&◌, Bool, true, false, List, [], ◌∷◌, ◌++◌, length, map, drop}
use Rattle.std.proofs.Common.{refl, sym, ◌∙◌, ap, arith, append_assoc, append-nil}
use Rattle.std.proofs.lemmas.List.{drop-drop}
use Rattle.iges_fields.specs.declared.value.Value.{Value}
use Rattle.brep_lists.specs.DueValues.{at_least_one, count}
use Rattle.brep_lists.specs.Record.{count_of}
use Rattle.brep_lists.specs.declared.entity_kind.EntityKind.{EntityKind}
use Rattle.brep_lists.specs.declared.entity_kind.EntityKind.TheVariants.{Solid as solid, Shell as shell, Face as face, Loop as «loop», EdgeList as edges}
use Rattle.brep_lists.specs.declared.entity_kind.EntityKind.TheVariants.{VertexList as vertices}
use Rattle.brep_lists.specs.OwnValues.{meets, meets_all, is_record_of}
use Rattle.brep_lists.specs.Groups.{passes, group_passes, groups_pass, is_counted, is_solid, is_face, is_loop, tuples_pass}
use Rattle.brep_lists.specs.declared.groups.Slot.{Slot as Standing}
use Rattle.brep_lists.specs.declared.groups.Slot.TheVariants as stand
use Rattle.brep_lists.proofs.Stride.{shell_counted, edges_counted, vertices_counted, solid_tested, face_tested, middle_first}
use Rattle.brep_lists.proofs.Tuples.{loop_tested}
use Rattle.record_values.specs.declared.due.ValueKind.{ValueKind}
use Rattle.record_values.specs.declared.due.ValueKind.TheVariants as slot
use Rattle.record_values.specs.declared.due.Counted.{Counted}
use Rattle.record_values.specs.declared.due.Counted.TheVariants as counted
use Rattle.record_values.specs.Expected.{Expected, single, count_of_items, layout, item_layout, times, counted_layout, fills, counts, may_come, after}

-- whether a record may end where these are due
abbrev pub may_end : List Expected → Bool
may_end [] = true
may_end (count_of_items counted.Voids ∷ []) = true
may_end (count_of_items counted.Curves ∷ []) = true
may_end _ = false

abbrev pub accepts : List Expected → List Value → Bool
accepts es [] = may_end es
accepts es (v ∷ vs) = may_come es v && accepts (after es v) vs

-- ---- groups of values

abbrev stands : ValueKind → Standing
stands slot.Pointer = stand.Whole
stands slot.Index = stand.Whole
stands slot.Flag = stand.Flag
stands slot.Type = stand.Flag
stands slot.Coordinate = stand.Coordinate

abbrev shape_of : List ValueKind → List Standing
shape_of ss = map stands ss

fills_is : (s : ValueKind) (v : Value) → fills s v ≡ passes (stands s) v
fills_is slot.Pointer v = refl
fills_is slot.Index v = refl
fills_is slot.Flag v = refl
fills_is slot.Type v = refl
fills_is slot.Coordinate v = refl

and3 : (a b c : Bool) → (a && (b && c)) ≡ ((a && b) && c)
and3 true b c = refl
and3 false b c = refl

group_accepts : (ss : List ValueKind) (es : List Expected) (vs : List Value)
    → accepts (map single ss ++ es) vs ≡ (group_passes (shape_of ss) vs && accepts es (drop (length (shape_of ss)) vs))
group_accepts [] es vs = refl
group_accepts (s ∷ ss) es [] = refl
group_accepts (s ∷ ss) es (v ∷ vs) =
    ap (λ b. b && accepts (map single ss ++ es) vs) (fills_is s v)
    ∙ ap (λ b. passes (stands s) v && b) (group_accepts ss es vs)
    ∙ and3 (passes (stands s) v) (group_passes (shape_of ss) vs) (accepts es (drop (length (shape_of ss)) vs))

items_accept : (ss : List ValueKind) (n : ℕ) (es : List Expected) (vs : List Value) → accepts (times n (map single ss) ++ es) vs
    ≡ (groups_pass (shape_of ss) n vs && accepts es (drop (n * length (shape_of ss)) vs))
items_accept ss zero es vs = let none : 0 ≡ 0 * length (shape_of ss) = omega arith in ap (λ k. accepts es (drop k vs)) none
items_accept ss (suc n) es vs =
    let size : ℕ = length (shape_of ss) in
    let first : Bool = group_passes (shape_of ss) vs in
    let more : size + n * size ≡ suc n * size = omega arith in
    ap (λ xs. accepts xs vs) (append_assoc (map single ss) (times n (map single ss)) es)
    ∙ group_accepts ss (times n (map single ss) ++ es) vs
    ∙ ap (λ b. first && b) (items_accept ss n es (drop size vs))
    ∙ ap (λ ws. first && (groups_pass (shape_of ss) n (drop size vs) && accepts es ws)) (drop-drop (n * size) size vs ∙ ap (λ k. drop k vs) more)
    ∙ and3 first (groups_pass (shape_of ss) n (drop size vs)) (accepts es (drop (suc n * size) vs))

rest_accepts : (vs : List Value) → accepts [] vs ≡ meets_all [] vs
rest_accepts [] = refl
rest_accepts (v ∷ vs) = ap (λ b. may_come [] v && b) (rest_accepts vs)

-- so many items, and then the rest of the record
last_items : (ss : List ValueKind) (n k : ℕ) (all vs : List Value) → drop (n * length (shape_of ss)) vs ≡ drop k all → accepts (times n (map single ss) ++ []) vs
    ≡ (groups_pass (shape_of ss) n vs && meets_all [] (drop k all))
last_items ss n k all vs e =
    items_accept ss n [] vs ∙ ap (λ b. groups_pass (shape_of ss) n vs && b) (rest_accepts (drop (n * length (shape_of ss)) vs))
    ∙ ap (λ ws. groups_pass (shape_of ss) n vs && meets_all [] ws) e

-- ---- a count and its items

abbrev starts : Value → Bool
starts v = meets (at_least_one (count_of v)) v

counted_accepts : (c : Counted) (ss : List ValueKind) (v : Value) (vs : List Value) → counts c v ≡ starts v
    → counted_layout c (count_of v) ≡ times (count_of v) (map single ss)
    → (counts c v && accepts (counted_layout c (count_of v) ++ []) vs) ≡ is_counted (shape_of ss) (v ∷ vs)
counted_accepts c ss v vs k e =
    let n : ℕ = count_of v in
    let size : ℕ = length (shape_of ss) in
    let one : suc (n * size) ≡ 1 + n * size = omega arith in
    ap (λ b. b && accepts (counted_layout c n ++ []) vs) k ∙ ap (λ es. starts v && accepts (es ++ []) vs) e
    ∙ ap (λ b. starts v && b) (last_items ss n (1 + n * size) (v ∷ vs) vs (ap (λ m. drop m (v ∷ vs)) one))

shell_accepts : (vs : List Value) → accepts (layout shell) vs ≡ is_record_of shell vs
shell_accepts [] = refl
shell_accepts (v ∷ vs) = counted_accepts counted.Faces (slot.Pointer ∷ slot.Flag ∷ []) v vs refl refl ∙ sym (shell_counted (v ∷ vs))

edges_accepts : (vs : List Value) → accepts (layout edges) vs ≡ is_record_of edges vs
edges_accepts [] = refl
edges_accepts (v ∷ vs) = counted_accepts counted.Edges (slot.Pointer ∷ slot.Pointer ∷ slot.Index ∷ slot.Pointer ∷ slot.Index ∷ []) v vs refl refl
    ∙ sym (edges_counted (v ∷ vs))

vertices_accepts : (vs : List Value) → accepts (layout vertices) vs ≡ is_record_of vertices vs
vertices_accepts [] = refl
vertices_accepts (v ∷ vs) = counted_accepts counted.Vertices (slot.Coordinate ∷ slot.Coordinate ∷ slot.Coordinate ∷ []) v vs refl refl
    ∙ sym (vertices_counted (v ∷ vs))

-- ---- a solid

one_short : (a r : Bool) → (a && false) ≡ ((a && false) && r)
one_short true r = refl
one_short false r = refl

two_there : (a b : Bool) → (a && (b && true)) ≡ ((a && (b && true)) && true)
two_there true true = refl
two_there true false = refl
two_there false b = refl

both_first : (a b r s : Bool) → r ≡ s → (a && (b && r)) ≡ ((a && (b && true)) && s)
both_first true true r s e = e
both_first true false r s e = refl
both_first false b r s e = refl

solid_accepts : (vs : List Value) → accepts (layout solid) vs ≡ is_solid vs
solid_accepts [] = refl
solid_accepts (a ∷ []) = one_short (passes stand.Whole a) _
solid_accepts (a ∷ b ∷ []) = two_there (passes stand.Whole a) (passes stand.Flag b)
solid_accepts (a ∷ b ∷ k ∷ vs) =
    let n : ℕ = count_of k in
    let three : suc (suc (suc (n * 2))) ≡ 3 + n * 2 = omega arith in
    both_first (passes stand.Whole a) (passes stand.Flag b) _ _
    (ap (λ r. meets (count n) k && r) (last_items (slot.Pointer ∷ slot.Flag ∷ []) n (3 + n * 2) (a ∷ b ∷ k ∷ vs) vs (ap (λ m. drop m (a ∷ b ∷ k ∷ vs)) three)))

-- ---- a face

none_there : (a : Bool) → (a && false) ≡ false
none_there true = refl
none_there false = refl

middle_short : (a m r : Bool) → (a && (m && false)) ≡ (m && ((a && true) && (false && r)))
middle_short true true r = refl
middle_short true false r = refl
middle_short false true r = refl
middle_short false false r = refl

face_accepts : (vs : List Value) → accepts (layout face) vs ≡ is_face vs
face_accepts [] = refl
face_accepts (a ∷ []) = none_there (passes stand.Whole a)
face_accepts (a ∷ k ∷ []) = middle_short (passes stand.Whole a) (starts k) true
face_accepts (a ∷ k ∷ f ∷ vs) =
    let n : ℕ = count_of k in
    let three : suc (suc (suc (n * 1))) ≡ 3 + n * 1 = omega arith in
    middle_first (passes stand.Whole a) (starts k) (passes stand.Flag f) _ _
    (last_items (slot.Pointer ∷ []) n (3 + n * 1) (a ∷ k ∷ f ∷ vs) vs (ap (λ m. drop m (a ∷ k ∷ f ∷ vs)) three))

-- ---- a loop

abbrev tuples : ℕ → List Expected
tuples n = times n (item_layout counted.Tuples)

cut_short : (g x y : Bool) → g ≡ false → g ≡ ((g && x) && y)
cut_short true x y e = absurd cc
cut_short false x y e = refl

first4 : (a b c d x y : Bool) → x ≡ y → (a && (b && (c && (d && x)))) ≡ (((a && (b && (c && (d && true)))) && true) && y)
first4 true true true true x y e = e
first4 true true true false x y e = refl
first4 true true false d x y e = refl
first4 true false c d x y e = refl
first4 false b c d x y e = refl

first5 : (a b c d m g t x : Bool) → x ≡ (g && t) → (a && (b && (c && (d && (m && x))))) ≡ (((a && (b && (c && (d && true)))) && (m && g)) && t)
first5 true true true true true g t x e = e
first5 true true true true false g t x e = refl
first5 true true true false m g t x e = refl
first5 true true false d m g t x e = refl
first5 true false c d m g t x e = refl
first5 false b c d m g t x e = refl

-- where the record ends before a count of curves, no tuple may follow
ends_last : (n : ℕ) → may_end (count_of_items counted.Curves ∷ tuples n) ≡ tuples_pass n []
ends_last zero = refl
ends_last (suc n) = refl

tuples_accept : (n : ℕ) (vs : List Value) → accepts (tuples n) vs ≡ tuples_pass n vs
tuples_accept zero vs = rest_accepts vs
tuples_accept (suc n) [] = refl
tuples_accept (suc n) (a ∷ []) = cut_short (passes stand.Flag a && false) _ _ (none_there (passes stand.Flag a))
tuples_accept (suc n) (a ∷ b ∷ []) =
    let pa : Bool = passes stand.Flag a in
    let pb : Bool = passes stand.Whole b in
    cut_short (pa && (pb && false)) _ _ (ap (λ r. pa && r) (none_there pb) ∙ none_there pa)
tuples_accept (suc n) (a ∷ b ∷ c ∷ []) =
    let pa : Bool = passes stand.Flag a in
    let pb : Bool = passes stand.Whole b in
    let pc : Bool = passes stand.Whole c in
    cut_short (pa && (pb && (pc && false))) _ _ (ap (λ r. pa && (pb && r)) (none_there pc) ∙ ap (λ r. pa && r) (none_there pb) ∙ none_there pa)
tuples_accept (suc n) (a ∷ b ∷ c ∷ d ∷ []) =
    first4 (passes stand.Flag a) (passes stand.Whole b) (passes stand.Whole c) (passes stand.Flag d) _ _ (ends_last n)
tuples_accept (suc n) (a ∷ b ∷ c ∷ d ∷ k ∷ vs) =
    let m : ℕ = count_of k in
    let five : suc (suc (suc (suc (suc (m * 2))))) ≡ 5 + m * 2 = omega arith in
    first5 (passes stand.Flag a) (passes stand.Whole b) (passes stand.Whole c) (passes stand.Flag d) (meets (count m) k)
    (groups_pass (stand.Flag ∷ stand.Whole ∷ []) m vs) _ _
    (items_accept (slot.Flag ∷ slot.Pointer ∷ []) m (tuples n) vs
    ∙ ap (λ b. groups_pass (stand.Flag ∷ stand.Whole ∷ []) m vs && b)
    (tuples_accept n (drop (m * 2) vs) ∙ ap (λ j. tuples_pass n (drop j (a ∷ b ∷ c ∷ d ∷ k ∷ vs))) five))

loop_accepts : (vs : List Value) → accepts (layout «loop») vs ≡ is_loop vs
loop_accepts [] = refl
loop_accepts (v ∷ vs) =
    ap (λ es. starts v && accepts es vs) (append-nil (tuples (count_of v)))
    ∙ ap (λ b. starts v && b) (tuples_accept (count_of v) vs)

pub accepts_is : (kind : EntityKind) (vs : List Value) → accepts (layout kind) vs ≡ is_record_of kind vs
accepts_is solid vs = solid_accepts vs ∙ sym (solid_tested vs)
accepts_is shell vs = shell_accepts vs
accepts_is face vs = face_accepts vs ∙ sym (face_tested vs)
accepts_is «loop» vs = loop_accepts vs ∙ sym (loop_tested vs)
accepts_is edges vs = edges_accepts vs
accepts_is vertices vs = vertices_accepts vs
