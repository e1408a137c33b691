-- Values by their places.
use Rattle.std.specs.Prelude.{◌≡◌, ℕ, zero, suc, ◌+◌, ◌-◌, ◌*◌, ◌<◌, ◌≤◌, ◌&&◌, Bool, true, false, List, [], ◌∷◌, length, drop, Option, Some, None, slice_get}
use Rattle.std.specs.Prelude.{MatchOption}
use Rattle.std.proofs.Common.{refl, sym, ◌∙◌, ap, arith, suc-mul}
use Rattle.std.proofs.lemmas.Option.{slice_get_within}
use Rattle.std.proofs.lemmas.List.{drop-drop}
use Rattle.brep_lists.specs.DueValues.{at_least_one, count}
pub use Rattle.iges_base.proofs.Lists.{open_at}
use Rattle.iges_fields.specs.declared.value.Value.{Value}
use Rattle.iges_fields.specs.declared.value.Value.TheVariants.{Default}
use Rattle.brep_lists.specs.Record.{count_of, value_or_default, count_at}
use Rattle.brep_lists.specs.OwnValues.{is_filler, meets, meets_all}
use Rattle.brep_lists.specs.Groups.{passes, group_passes, groups_pass}
use Rattle.brep_lists.specs.declared.groups.Slot.{Slot}

abbrev pub value_or : Option Value → Value
value_or None = Default
value_or (Some v) = v

pub value_got : (vs : List Value) (i : ℕ) → value_or_default vs i ≡ value_or (slice_get vs i)
value_got [] i = refl
value_got (v ∷ vs) zero = refl
value_got (v ∷ vs) (suc i) = value_got vs i

pub none_at : {A : Type 0} (xs : List A) (i : ℕ) → slice_get xs i ≡ None → drop i xs ≡ []
none_at {A} [] zero e = refl
none_at {A} [] (suc i) e = refl
none_at {A} (y ∷ ys) zero e = absurd cc
none_at {A} (y ∷ ys) (suc i) e = none_at ys i e

pub got : (vs : List Value) (i : ℕ) (o : Option Value) → o ≡ slice_get vs i → value_or_default vs i ≡ value_or o
got vs i o e = value_got vs i ∙ ap value_or (sym e)

pub slot_failed : (ss : List Slot) (vs : List Value) (k i : ℕ) (s : Slot) (v : Value) → drop k ss ≡ s ∷ drop (k + 1) ss → slice_get vs i ≡ Some v →
    passes s v ≡ false → group_passes (drop k ss) (drop i vs) ≡ false
slot_failed ss vs k i s v es ev f =
    ap (λ xs. group_passes xs (drop i vs)) es ∙ ap (λ ys. group_passes (s ∷ drop (k + 1) ss) ys) (open_at vs i v ev)
    ∙ ap (λ b. b && group_passes (drop (k + 1) ss) (drop (i + 1) vs)) f

pub slot_passed : (ss : List Slot) (vs : List Value) (k i : ℕ) (s : Slot) (v : Value) → drop k ss ≡ s ∷ drop (k + 1) ss → slice_get vs i ≡ Some v →
    passes s v ≡ true → group_passes (drop k ss) (drop i vs) ≡ group_passes (drop (k + 1) ss) (drop (i + 1) vs)
slot_passed ss vs k i s v es ev f =
    ap (λ xs. group_passes xs (drop i vs)) es ∙ ap (λ ys. group_passes (s ∷ drop (k + 1) ss) ys) (open_at vs i v ev)
    ∙ ap (λ b. b && group_passes (drop (k + 1) ss) (drop (i + 1) vs)) f

pub slot_missing : (ss : List Slot) (vs : List Value) (k i : ℕ) (s : Slot) → drop k ss ≡ s ∷ drop (k + 1) ss → slice_get vs i ≡ None →
    group_passes (drop k ss) (drop i vs) ≡ false
slot_missing ss vs k i s es ev =
    ap (λ xs. group_passes xs (drop i vs)) es ∙ ap (λ ys. group_passes (s ∷ drop (k + 1) ss) ys) (none_at vs i ev)

pub filler_failed : (vs : List Value) (i : ℕ) (v : Value) → slice_get vs i ≡ Some v → is_filler v ≡ false → meets_all [] (drop i vs) ≡ false
filler_failed vs i v e f = ap (meets_all []) (open_at vs i v e) ∙ ap (λ b. b && meets_all [] (drop (i + 1) vs)) f

pub filler_passed : (vs : List Value) (i : ℕ) (v : Value) → slice_get vs i ≡ Some v → is_filler v ≡ true →
    meets_all [] (drop i vs) ≡ meets_all [] (drop (i + 1) vs)
filler_passed vs i v e f = ap (meets_all []) (open_at vs i v e) ∙ ap (λ b. b && meets_all [] (drop (i + 1) vs)) f

pub fillers_end : (vs : List Value) (i : ℕ) → slice_get vs i ≡ None → meets_all [] (drop i vs) ≡ true
fillers_end vs i e = ap (meets_all []) (none_at vs i e)

-- a count that may start so many items
abbrev pub starts : Value → Bool
starts v = meets (at_least_one (count_of v)) v

pub item_counted : (vs : List Value) (i : ℕ) (v : Value) (r : Option ℕ) → Some v ≡ slice_get vs i
    → MatchOption r (starts v ≡ false) (λ n. (starts v ≡ true) × (n ≡ count_of v))
    → MatchOption r (starts (value_or_default vs i) ≡ false) (λ n. (starts (value_or_default vs i) ≡ true) × (n ≡ count_at vs i) × (i < length vs))
item_counted vs i v None e h = ap starts (got vs i (Some v) e) ∙ h
item_counted vs i v (Some n) e h = (ap starts (got vs i (Some v) e) ∙ h.0, h.1 ∙ sym (ap count_of (got vs i (Some v) e)), slice_get_within vs i v (sym e))

pub groups_passed : (shape : List Slot) (vs : List Value) (left at end : ℕ) → 0 < left → group_passes shape (drop at vs) ≡ true → end ≡ at + length shape →
    groups_pass shape left (drop at vs) ≡ groups_pass shape (left - 1) (drop end vs)
groups_passed shape vs zero at end some h e = absurd (omega (arith, some))
groups_passed shape vs (suc n) at end some h e =
    let less : n ≡ suc n - 1 = omega arith in
    let on : drop (length shape) (drop at vs) ≡ drop end vs = drop-drop (length shape) at vs ∙ ap (λ k. drop k vs) (sym e) in
    ap (λ b. b && groups_pass shape n (drop (length shape) (drop at vs))) h
    ∙ ap (groups_pass shape n) on ∙ ap (λ k. groups_pass shape k (drop end vs)) less

pub groups_failed : (shape : List Slot) (vs : List Value) (left at : ℕ) → 0 < left → group_passes shape (drop at vs) ≡ false →
    groups_pass shape left (drop at vs) ≡ false
groups_failed shape vs zero at some h = absurd (omega (arith, some))
groups_failed shape vs (suc n) at some h = ap (λ b. b && groups_pass shape n (drop (length shape) (drop at vs))) h

pub one_less : (left size end next total : ℕ) → 0 < left → next ≡ end + size → end + left * size ≡ total → next + (left - 1) * size ≡ total
one_less zero size end next total some e f = absurd (omega (arith, some))
one_less (suc n) size end next total some e f =
    let less : suc n - 1 ≡ n = omega arith in
    let one : suc n * size ≡ n * size + size = suc-mul n size in
    ap (λ k. next + k * size) less ∙ (omega (arith, e, f, one))

pub slice_get_end : (vs : List Value) (i : ℕ) (v : Value) → Some v ≡ slice_get vs i → i + 1 ≤ length vs
slice_get_end vs i v e = let within : i < length vs = slice_get_within vs i v (sym e) in omega arith

-- a count that may be left out
abbrev pub may_count : Value → Bool
may_count v = meets (count (count_of v)) v

pub optional_counted : (vs : List Value) (i : ℕ) (v : Value) (r : Option ℕ) → Some v ≡ slice_get vs i
    → MatchOption r (may_count v ≡ false) (λ n. (may_count v ≡ true) × (n ≡ count_of v))
    → MatchOption r (may_count (value_or_default vs i) ≡ false) (λ n. (may_count (value_or_default vs i) ≡ true) × (n ≡ count_at vs i))
optional_counted vs i v None e h = ap may_count (got vs i (Some v) e) ∙ h
optional_counted vs i v (Some n) e h = (ap may_count (got vs i (Some v) e) ∙ h.0, h.1 ∙ sym (ap count_of (got vs i (Some v) e)))
