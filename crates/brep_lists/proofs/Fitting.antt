-- A record that fits has all the values that its count asks for.
use Rattle.std.specs.Prelude.{◌≡◌, ℕ, zero, suc, ◌+◌, ◌-◌, ◌*◌, ◌^◌, ◌<◌, ◌≤◌, ◌&&◌, Bool, true, false, List, [], ◌∷◌, length, drop}
use Rattle.std.proofs.Common.{refl, sym, ◌∙◌, subst, arith, suc-mul}
use Rattle.std.proofs.lemmas.List.{length-drop}
use Rattle.iges_fields.specs.declared.value.Value.{Value}
use Rattle.brep_lists.specs.DueValues.{at_least_one}
use Rattle.brep_lists.specs.Record.{IsRecordOf, value_or_default, count_at}
use Rattle.brep_lists.specs.declared.entity_kind.EntityKind.{EntityKind}
use Rattle.brep_lists.specs.declared.entity_kind.EntityKind.TheVariants.{Solid as solid, Shell as shell, Face as face, Loop as «loop», EdgeList as edges}
use Rattle.brep_lists.specs.declared.entity_kind.EntityKind.TheVariants.{VertexList as vertices}
use Rattle.brep_lists.specs.OwnValues.{meets, meets_all, is_record_of}
use Rattle.brep_lists.specs.Groups.{passes, group_passes, groups_pass, tuples_pass, is_counted, is_face}
use Rattle.brep_lists.specs.Views.{AreCounted, IsLoop}
use Rattle.brep_lists.specs.declared.groups.Slot.{Slot}
use Rattle.brep_lists.specs.declared.groups.Slot.TheVariants.{Flag}
use Rattle.brep_lists.proofs.Decided.{decided}
use Rattle.brep_lists.proofs.Stride.{pair_shape, edge_shape, vertex_shape, pointer_shape, shell_counted, edges_counted, vertices_counted, solid_tested}
use Rattle.brep_lists.proofs.Stride.{face_tested}
use Rattle.brep_lists.proofs.Tuples.{loop_tested}

pub and_left : (a b : Bool) → (a && b) ≡ true → a ≡ true
and_left true b e = refl
and_left false b e = e

pub and_right : (a b : Bool) → (a && b) ≡ true → b ≡ true
and_right true b e = e
and_right false b e = absurd cc

tested : (kind : EntityKind) (vs : List Value) → IsRecordOf kind vs → is_record_of kind vs ≡ true
tested kind vs h = (decided kind vs).1 h

group_fits : (shape : List Slot) (vs : List Value) → group_passes shape vs ≡ true → length shape ≤ length vs
group_fits [] vs e = omega arith
group_fits (s ∷ ss) [] e = absurd cc
group_fits (s ∷ ss) (v ∷ vs) e = omega (arith, group_fits ss vs (and_right (passes s v) (group_passes ss vs) e))

groups_fit : (shape : List Slot) (n : ℕ) (vs : List Value) → groups_pass shape n vs ≡ true → n * length shape ≤ length vs
groups_fit shape zero vs e = omega arith
groups_fit shape (suc n) vs e =
    let here = group_fits shape vs (and_left (group_passes shape vs) (groups_pass shape n (drop (length shape) vs)) e) in
    let more = groups_fit shape n (drop (length shape) vs) (and_right (group_passes shape vs) (groups_pass shape n (drop (length shape) vs)) e) in
    omega (arith, here, more, length-drop (length shape) vs, suc-mul n (length shape))

groups_small : (shape : List Slot) (base n : ℕ) (vs : List Value) → base < 2 ^ 32 → length vs < 2 ^ 64 → groups_pass shape n (drop base vs) ≡ true →
    base + n * length shape < 2 ^ 64
groups_small shape base n vs low small e = omega (arith, low, small, groups_fit shape n (drop base vs) e, length-drop base vs)

counted : (shape : List Slot) (n : ℕ) (vs : List Value) → is_counted shape vs ≡ true → n ≡ count_at vs 0 → length vs < 2 ^ 64 →
    AreCounted 0 1 (length shape) n vs
counted shape n vs e is small = record {
  counted = is;
  small = subst (λ m. 1 + m * length shape < 2 ^ 64) (sym is) (groups_small shape 1 (count_at vs 0) vs (omega arith) small (and_left _ _ (and_right _ _ e)));
}

pub edges_fit : (n : ℕ) (vs : List Value) → IsRecordOf edges vs → n ≡ count_at vs 0 → length vs < 2 ^ 64 → AreCounted 0 1 5 n vs
edges_fit n vs h = counted edge_shape n vs (sym (edges_counted vs) ∙ tested edges vs h)

pub vertices_fit : (n : ℕ) (vs : List Value) → IsRecordOf vertices vs → n ≡ count_at vs 0 → length vs < 2 ^ 64 → AreCounted 0 1 3 n vs
vertices_fit n vs h = counted vertex_shape n vs (sym (vertices_counted vs) ∙ tested vertices vs h)

pub shell_fits : (n : ℕ) (vs : List Value) → IsRecordOf shell vs → n ≡ count_at vs 0 → length vs < 2 ^ 64 → AreCounted 0 1 2 n vs
shell_fits n vs h = counted pair_shape n vs (sym (shell_counted vs) ∙ tested shell vs h)

pub solid_fits : (n : ℕ) (vs : List Value) → IsRecordOf solid vs → n ≡ count_at vs 2 → length vs < 2 ^ 64 → AreCounted 2 3 2 n vs
solid_fits n vs h is small = record {
  counted = is;
  small = subst (λ m. 3 + m * 2 < 2 ^ 64) (sym is)
      (groups_small pair_shape 3 (count_at vs 2) vs (omega arith) small
      (and_left _ _ (and_right _ _ (and_right _ _ (sym (solid_tested vs) ∙ tested solid vs h)))));
}

face_passes : (vs : List Value) → is_face vs ≡ true → groups_pass pointer_shape (count_at vs 1) (drop 3 vs) ≡ true
face_passes vs e =
    let after : Bool = meets_all [] (drop (3 + count_at vs 1 * 1) vs) in
    let loops : Bool = groups_pass pointer_shape (count_at vs 1) (drop 3 vs) in
    let outer : Bool = group_passes (Flag ∷ []) (drop 2 vs) in
    let surface : Bool = group_passes pointer_shape vs in
    and_left loops after
    (and_right outer (loops && after)
    (and_right surface (outer && (loops && after))
    (and_right (meets (at_least_one (count_at vs 1)) (value_or_default vs 1)) (surface && (outer && (loops && after))) e)))

pub face_fits : (n : ℕ) (vs : List Value) → IsRecordOf face vs → n ≡ count_at vs 1 → length vs < 2 ^ 64 → AreCounted 1 3 1 n vs
face_fits n vs h is small = record {
  counted = is;
  small = subst (λ m. 3 + m * 1 < 2 ^ 64) (sym is)
      (groups_small pointer_shape 3 (count_at vs 1) vs (omega arith) small (face_passes vs (sym (face_tested vs) ∙ tested face vs h)));
}

pub loop_fits : (n : ℕ) (vs : List Value) → IsRecordOf «loop» vs → n ≡ count_at vs 0 → IsLoop vs n
loop_fits n vs h is = record {
  counted = is;
  pass = subst (λ m. tuples_pass m (drop 1 vs) ≡ true) (sym is) (and_right _ _ (sym (loop_tested vs) ∙ tested «loop» vs h));
}
