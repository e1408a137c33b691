-- The records of loops.
use Rattle.std.specs.Prelude.{◌≡◌, ℕ, zero, suc, ◌+◌, ◌*◌, ◌&&◌, Bool, true, false, List, [], ◌∷◌, ◌++◌, length, map, flat_map, drop}
use Rattle.std.proofs.Common.{refl, sym, ◌∙◌, ap, arith}
use Rattle.iges_fields.specs.declared.value.Value.{Value}
use Rattle.brep_lists.specs.DueValues.{DueValue, at_least_one, count}
use Rattle.brep_lists.specs.Record.{curve_due, tuple_due, count_of, count_at, groups, curve_read, tuples_read}
use Rattle.brep_lists.specs.declared.entity_kind.EntityKind.TheVariants.{Loop as «loop»}
use Rattle.brep_lists.specs.OwnValues.{meets, may_be_missing, meets_all, is_record_of}
use Rattle.brep_lists.specs.Groups.{passes, groups_pass, tuples_pass, is_loop}
use Rattle.brep_lists.specs.declared.groups.Slot.{Slot}
use Rattle.brep_lists.specs.declared.groups.Slot.TheVariants.{Whole, Flag}
use Rattle.brep_lists.proofs.Stride.{front, items_length}

abbrev pub curve_shape : List Slot
curve_shape = Flag ∷ Whole ∷ []

pub curves_meet : (n : ℕ) (ds : List DueValue) (vs : List Value) →
    meets_all (flat_map curve_due (map curve_read (groups 2 n vs)) ++ ds) vs ≡ (groups_pass curve_shape n vs && meets_all ds (drop (n * 2) vs))
curves_meet zero ds vs = refl
curves_meet (suc n) ds [] = refl
curves_meet (suc n) ds (v ∷ []) = front (passes Flag v) false false (groups_pass curve_shape n []) _ refl
curves_meet (suc n) ds (v ∷ w ∷ vs) =
    let two : suc n * 2 ≡ suc (suc (n * 2)) = omega arith in
    let on : drop (n * 2) vs ≡ drop (suc n * 2) (v ∷ w ∷ vs) = sym (ap (λ m. drop m (v ∷ w ∷ vs)) two) in
    front (passes Flag v) _ _ _ _ (front (passes Whole w) _ true _ _ (curves_meet n ds vs ∙ ap (λ ws. groups_pass curve_shape n vs && meets_all ds ws) on))

apart : (m x g t : Bool) → x ≡ (g && t) → (m && x) ≡ ((m && g) && t)
apart true x g t e = e
apart false x g t e = refl

-- where the record ends before a count of curves, no tuple may follow
at_end : (n : ℕ) → may_be_missing (count 0 ∷ flat_map tuple_due (tuples_read n [])) ≡ tuples_pass n []
at_end zero = refl
at_end (suc n) = refl

five_on : (n : ℕ) (a b c d k : Value) (vs : List Value) → drop (5 + n) (a ∷ b ∷ c ∷ d ∷ k ∷ vs) ≡ drop n vs
five_on n a b c d k vs = let e : 5 + n ≡ suc (suc (suc (suc (suc n)))) = omega arith in ap (λ m. drop m (a ∷ b ∷ c ∷ d ∷ k ∷ vs)) e

pub tuples_meet : (n : ℕ) (vs : List Value) → meets_all (flat_map tuple_due (tuples_read n vs)) vs ≡ tuples_pass n vs
tuples_meet zero vs = refl
tuples_meet (suc n) [] = refl
tuples_meet (suc n) (a ∷ []) = front (passes Flag a) _ false _ _ refl
tuples_meet (suc n) (a ∷ b ∷ []) = front (passes Flag a) _ _ _ _ (front (passes Whole b) _ false _ _ refl)
tuples_meet (suc n) (a ∷ b ∷ c ∷ []) = front (passes Flag a) _ _ _ _ (front (passes Whole b) _ _ _ _ (front (passes Whole c) _ false _ _ refl))
tuples_meet (suc n) (a ∷ b ∷ c ∷ d ∷ []) =
    front (passes Flag a) _ _ _ _ (front (passes Whole b) _ _ _ _ (front (passes Whole c) _ _ _ _ (front (passes Flag d) _ true true _ (at_end n))))
tuples_meet (suc n) (a ∷ b ∷ c ∷ d ∷ k ∷ vs) =
    let m : ℕ = count_of k in
    let after : List Value = drop (m * 2) vs in
    let ds : List DueValue = flat_map tuple_due (tuples_read n (drop (5 + 2 * m) (a ∷ b ∷ c ∷ d ∷ k ∷ vs))) in
    let turned : 2 * m ≡ m * 2 = omega arith in
    let read : drop (5 + 2 * m) (a ∷ b ∷ c ∷ d ∷ k ∷ vs) ≡ after = five_on (2 * m) a b c d k vs ∙ ap (λ j. drop j vs) turned in
    let rest : meets_all ds after ≡ tuples_pass n (drop (5 + m * 2) (a ∷ b ∷ c ∷ d ∷ k ∷ vs))
    = ap (λ ws. meets_all (flat_map tuple_due (tuples_read n ws)) after) read ∙ tuples_meet n after ∙ ap (tuples_pass n) (sym (five_on (m * 2) a b c d k vs)) in
    front (passes Flag a) _ _ _ _ (front (passes Whole b) _ _ _ _ (front (passes Whole c) _ _ _ _ (front (passes Flag d) _ true _ _
    (ap (λ j. meets (count j) k && meets_all (flat_map curve_due (map curve_read (groups 2 m vs)) ++ ds) vs) (items_length curve_read 2 m vs)
    ∙ apart (meets (count m) k) _ _ _ (curves_meet m ds vs ∙ ap (λ x. groups_pass curve_shape m vs && x) rest)))))

pub length_tuples : (n : ℕ) (vs : List Value) → length (tuples_read n vs) ≡ n
length_tuples zero vs = refl
length_tuples (suc n) vs = ap suc (length_tuples n (drop (5 + 2 * count_at vs 4) vs))

pub loop_tested : (vs : List Value) → is_record_of «loop» vs ≡ is_loop vs
loop_tested [] = refl
loop_tested (v ∷ vs) =
    ap (λ m. meets (at_least_one m) v && meets_all (flat_map tuple_due (tuples_read (count_of v) vs)) vs) (length_tuples (count_of v) vs)
    ∙ ap (λ b. meets (at_least_one (count_of v)) v && b) (tuples_meet (count_of v) vs)
