-- The marks of the entries that a record names.
use Rattle.std.specs.Prelude.{◌≡◌, ℕ, suc, ◌+◌, Bool, true, false, ◌||◌, ℤ, List, ◌∷◌, Option, Some, None, IfSome, IfNone, MatchOption, slice_get}
use Rattle.std.specs.List.{list_any}
use Rattle.std.proofs.Common.{sym, subst, ap, ◌∙◌, arith, get_or, drop, inl, inr}
use Rattle.std.proofs.Math.Bool.{or_assoc}
use Rattle.std.proofs.Math.Seq.{drop-cons}
use Rattle.std.proofs.lemmas.Bool.{cases_Bool}
use Rattle.std.proofs.lemmas.Option.{slice_get_within, get_or_from_slice_get}
use Rattle.iges_fields.specs.declared.value.Value.{Value}
use Rattle.brep_lists.specs.OwnValues.{is_record_of}
use Rattle.brep_lists.specs.Record.{Fits, Items, items_of}
use Rattle.brep_lists.specs.declared.entity_kind.EntityKind.{EntityKind}
use Rattle.brep_lists.proofs.Decided.{decided}
use Rattle.where_unjudged.specs.Named.{is_at}

-- the items that are left, with the next one apart
pub next_left : {A : Type 0} (items : List A) (m : A) (i : ℕ) → slice_get items i ≡ Some m → drop i items ≡ m ∷ drop (i + 1) items
next_left items m i is =
    let more : suc i ≡ i + 1 = omega arith in
    drop-cons items i m (slice_get_within items i m is)
    ∙ (ap (λ n. get_or items i m ∷ drop n items) more ∙ ap (λ x. x ∷ drop (i + 1) items) (get_or_from_slice_get items i m m is))

-- one member more is marked
pub marked_more : (items : List (ℤ × Bool)) (m : ℤ × Bool) (i k : ℕ) (old new all : Bool) → slice_get items i ≡ Some m → new ≡ (old || is_at k m)
    → (old || list_any (is_at k) (drop i items)) ≡ all → (new || list_any (is_at k) (drop (i + 1) items)) ≡ all
marked_more items m i k old new all is put h =
    let rest : Bool = list_any (is_at k) (drop (i + 1) items) in
    ap (λ b. b || rest) put ∙ (or_assoc old (is_at k m) rest ∙ (ap (λ xs. old || list_any (is_at k) xs) (sym (next_left items m i is)) ∙ h))

-- a record that fits its type, or one that doesn't
pub fitting : (kind : EntityKind) (vs : List Value) (r : Option (Items kind)) → IfSome r (λ items. Fits kind vs items)
    → IfSome r (λ items. items ≡ items_of kind vs) → IfNone r ((items : Items kind) → ¬ Fits kind vs items)
    → MatchOption r (is_record_of kind vs ≡ false) (λ items. (is_record_of kind vs ≡ true) × (items ≡ items_of kind vs))
fitting kind vs None fit is none =
    elim (cases_Bool (is_record_of kind vs)) [
      | inl e ↦ absurd (none (items_of kind vs) ((decided kind vs).0 e))
      | inr e ↦ e
    ]
fitting kind vs (Some items) fit is none = ((decided kind vs).1 (subst (λ (i : Items kind). Fits kind vs i) is fit), is)
