-- The values of a record at a place.
use Rattle.std.specs.Prelude.{◌≡◌, ℕ, zero, suc, ◌+◌, ◌-◌, ◌*◌, pos, List, [], ◌∷◌, Option, Some, None, option_map, slice_get, unwrap_or}
use Rattle.std.proofs.Common.{refl, ap, ◌∙◌}
use Rattle.std.proofs.lemmas.Option.{same_Some}
use Rattle.iges_fields.specs.declared.value.Value.{Value}
use Rattle.iges_fields.specs.declared.value.Value.TheVariants.{Default}
use Rattle.iges_directory.specs.declared.entry.Entry.{Entry}
use Rattle.iges_params.specs.Contents.{Contents}
use Rattle.iges_params.specs.Named.{named, record_values, values_of}
use Rattle.brep_lists.specs.Record.{value_or_default}
use Rattle.equal_values.specs.Keys.{key_of}
use Rattle.solid_data.specs.declared.solid.VertexKey.{VertexKey}
use Rattle.vertex_places.specs.Places.{coordinate}

pub or_default : (vs : List Value) (i : ℕ) → unwrap_or (slice_get vs i) Default ≡ value_or_default vs i
or_default [] i = refl
or_default (v ∷ vs) zero = refl
or_default (v ∷ vs) (suc i) = or_default vs i

pub values_there : (o : Option (Entry × List Value)) (vs : List Value) → Some vs ≡ option_map (λ (r : Entry × List Value). r.1) o → vs ≡ record_values o
values_there None vs h = absurd (let none : Some vs ≡ None = h in cc)
values_there (Some r) vs h = same_Some vs r.1 h

pub coordinate_is : (f : Contents) (key : VertexKey) (axis place : ℕ) (vs : List Value) (v : Option Value)
    → Some vs ≡ option_map (λ (r : Entry × List Value). r.1) (named f (pos key.«list».0))
    → place ≡ 3 * key.index + axis - 2 → v ≡ slice_get vs place → key_of (unwrap_or v Default) ≡ key_of (coordinate f key axis)
unfolding coordinate
coordinate_is f key axis place vs v at is there =
    ap (λ o. key_of (unwrap_or o Default)) there ∙ ap key_of (or_default vs place)
    ∙ ap (λ xs. key_of (value_or_default xs place)) (values_there (named f (pos key.«list».0)) vs at)
    ∙ ap (λ i. key_of (value_or_default (values_of f (pos key.«list».0)) i)) is
