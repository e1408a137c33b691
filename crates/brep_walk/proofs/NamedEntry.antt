-- What numbers name.
use Rattle.std.specs.Prelude.{◌≡◌, ◌↔◌, IsTrue, IsSomeAnd, ℕ, Bool, ℤ, pos, List, Option, Some, None}
use Rattle.std.specs.Option.{option_map}
use Rattle.std.proofs.Common.{sym, subst}
use Rattle.std.proofs.lemmas.Option.{same_Some, none-some}
use Rattle.iges_fields.specs.declared.value.Value.{Value}
use Rattle.iges_directory.specs.declared.entry.Entry.{Entry}
use Rattle.iges_params.specs.Contents.{Contents}
use Rattle.iges_params.specs.Named.{named}
use Rattle.brep_lists.specs.Record.{type_number}
use Rattle.brep_lists.specs.declared.entity_kind.EntityKind.{EntityKind}
use Rattle.brep_walk.specs.Places.{NamesGeometry}

abbrev IsGeometry : Entry → Type 0
IsGeometry e = (kind : EntityKind) → ¬ (e.kind ≡ type_number kind)

of_entry : (o : Option (Entry × List Value)) (e : Entry) (b : Bool) → Some e ≡ option_map (λ (x : Entry × List Value). x.0) o
    → (IsTrue b → IsGeometry e) → (IsGeometry e → IsTrue b) → IsTrue b ↔ IsSomeAnd o (λ x. IsGeometry x.0)
of_entry None e b is there back = absurd (none-some e (sym is))
of_entry (Some x) e b is there back =
    let same : e ≡ x.0 = same_Some e x.0 is in
    ((λ t. subst IsGeometry same (there t)), (λ g. back (subst IsGeometry (sym same) g)))

pub geometry_of : (f : Contents) (z : ℤ) (n : ℕ) → z ≡ pos n → (e : Entry) → Some e ≡ option_map (λ (x : Entry × List Value). x.0) (named f (pos n))
    → {b : Bool} → (IsTrue b → IsGeometry e) × (IsGeometry e → IsTrue b) → IsTrue b ↔ NamesGeometry f z
geometry_of f z n at e is {b} both = subst (λ y. IsTrue b ↔ NamesGeometry f y) (sym at) (of_entry (named f (pos n)) e b is both.0 both.1)
