-- The only shell of a solid, read off its record.
use Rattle.std.specs.Prelude.{◌≡◌, ℕ, ℤ, pos, Bool, List, [], ◌∷◌, length, Option, Some, None, IfSome, IsSome, IsSomeAnd, option_map, slice_get}
use Rattle.std.proofs.Common.{refl, sym, ◌∙◌, ap, subst, arith}
use Rattle.std.proofs.lemmas.Option.{same_Some, none-some}
use Rattle.iges_fields.specs.declared.value.Value.{Value}
use Rattle.iges_directory.specs.declared.entry.Entry.{Entry}
use Rattle.iges_params.specs.Contents.{Contents}
use Rattle.iges_params.specs.Named.{named, record_values}
use Rattle.brep_lists.specs.Record.{Fits, HasForm, IsRecordOf, SolidItems, items_of, type_number}
use Rattle.brep_lists.specs.declared.entity_kind.EntityKind.TheVariants.{Solid as solid}
use Rattle.where_overview.specs.Recalled.{IsSolidOf}

-- a list of one item
one_item : {A : Type 0} (x y : A) (ys : List A) → length (y ∷ ys) ≡ 1 → slice_get (y ∷ ys) 0 ≡ Some x → y ∷ ys ≡ x ∷ []
one_item x y [] one here = ap (λ z. z ∷ []) (same_Some y x here)
one_item x y (z ∷ zs) one here = absurd (omega (arith, one))

-- what the record says of the shells
abbrev said : List Value → List (ℤ × Bool)
said vs = let items = items_of solid vs in items.outer ∷ items.voids

-- an entry of that type and form with a record that fits
fits_record : (r : Option (Entry × List Value)) (e : Entry) (vs : List Value) → Some e ≡ option_map (λ (x : Entry × List Value). x.0) r
    → Some vs ≡ option_map (λ (x : Entry × List Value). x.1) r → e.kind ≡ pos 186 → e.form ≡ pos 0 → IsRecordOf solid vs → (shell : ℤ × Bool)
    → said vs ≡ shell ∷ []
    → (IsSome r × (IsSomeAnd r (λ x. (x.0.kind ≡ type_number solid) × HasForm solid x.0.form) × (IsSomeAnd r (λ x. IsRecordOf solid x.1) × Unit {0})))
    × (said (record_values r) ≡ shell ∷ [])
fits_record None e vs a b kind form fits shell is = absurd (none-some e (sym a))
fits_record (Some x) e vs a b kind form fits shell is =
    let entry : e ≡ x.0 = same_Some e x.0 a in
    let values : vs ≡ x.1 = same_Some vs x.1 b in (
      (refl, ((ap (λ (y : Entry). y.kind) (sym entry) ∙ kind, ap (λ (y : Entry). y.form) (sym entry) ∙ form), (subst (IsRecordOf solid) values fits, tt))),
      subst (λ ws. said ws ≡ shell ∷ []) values is,
    )

pub lone_solid : (f : Contents) (n : ℕ) (e : Entry) (vs : List Value) (items : SolidItems) (shell : ℤ × Bool)
    → Some e ≡ option_map (λ (x : Entry × List Value). x.0) (named f (pos n)) → Some vs ≡ option_map (λ (x : Entry × List Value). x.1) (named f (pos n))
    → e.kind ≡ pos 186 → e.form ≡ pos 0 → Fits solid vs items → items ≡ items_of solid vs → length (items.outer ∷ items.voids) ≡ 1
    → slice_get (items.outer ∷ items.voids) 0 ≡ Some shell → IsSolidOf f n (shell ∷ [])
lone_solid f n e vs items shell a b kind form fits read one first =
    let here = fits_record (named f (pos n)) e vs a b kind form (subst (Fits solid vs) read fits) shell
    (ap (λ (x : SolidItems). x.outer ∷ x.voids) (sym read) ∙ one_item shell items.outer items.voids one first) in
    record { fits = here.0; shells_are = here.1 }

-- where a record of one shell is looked at for its first one
pub lone_found : (f : Contents) (n : ℕ) (e : Entry) (vs : List Value) (items : SolidItems) (first : Option (ℤ × Bool))
    → Some e ≡ option_map (λ (x : Entry × List Value). x.0) (named f (pos n)) → Some vs ≡ option_map (λ (x : Entry × List Value). x.1) (named f (pos n))
    → e.kind ≡ pos 186 → e.form ≡ pos 0 → Fits solid vs items → items ≡ items_of solid vs → length (items.outer ∷ items.voids) ≡ 1
    → first ≡ slice_get (items.outer ∷ items.voids) 0 → IfSome first (λ shell. IsSolidOf f n (shell ∷ []))
lone_found f n e vs items None a b kind form fits read one is = tt
lone_found f n e vs items (Some shell) a b kind form fits read one is = lone_solid f n e vs items shell a b kind form fits read one (sym is)
