-- The values of a record at a place.
use Rattle.std.specs.Prelude.{◌≡◌, ℕ, zero, suc, ◌-◌, ◌*◌, ℤ, pos, List, [], ◌∷◌, Option, Some, None, option_map, slice_get, unwrap_or}
use Rattle.std.proofs.Common.{refl, sym, ap, ◌∙◌}
use Rattle.std.proofs.lemmas.Option.{same_Some}
use Rattle.iges_fields.specs.declared.value.Value.{Value}
use Rattle.iges_fields.specs.declared.value.Value.TheVariants.{Default}
use Rattle.iges_directory.specs.declared.entry.Entry.{Entry}
use Rattle.iges_params.specs.Contents.{Contents}
use Rattle.iges_params.specs.Named.{named, record_values, values_of}
use Rattle.brep_lists.specs.Record.{int_of, value_or_default}
use Rattle.equal_values.specs.Keys.{key_of}
use Rattle.solid_data.specs.declared.solid.Edge.{Edge}
use Rattle.solid_geometry.specs.Curves.{curve_of}
use Rattle.vertex_places.proofs.Coordinates.{or_default, values_there}

no_values : (o : Option (Entry × List Value)) → None ≡ option_map (λ (r : Entry × List Value). r.1) o → record_values o ≡ []
no_values None h = refl
no_values (Some r) h = absurd (let some : None ≡ Some r.1 = h in cc)

-- the value of an entry that is looked up
value_there : (f : Contents) (z : ℤ) (place : ℕ) (vs : List Value) (v : Option Value) → Some vs ≡ option_map (λ (r : Entry × List Value). r.1) (named f z)
    → v ≡ slice_get vs place → unwrap_or v Default ≡ value_or_default (values_of f z) place
value_there f z place vs v at there =
    ap (λ o. unwrap_or o Default) there ∙ (or_default vs place ∙ ap (λ xs. value_or_default xs place) (values_there (named f z) vs at))

no_value : (f : Contents) (z : ℤ) (place : ℕ) → None ≡ option_map (λ (r : Entry × List Value). r.1) (named f z) → Default ≡ value_or_default (values_of f z) place
no_value f z place at = let e : record_values (named f z) ≡ [] = no_values (named f z) at in ap (λ xs. value_or_default xs place) (sym e)

pub key_there : (f : Contents) (z : ℤ) (place : ℕ) (vs : List Value) (v : Option Value) → Some vs ≡ option_map (λ (r : Entry × List Value). r.1) (named f z)
    → v ≡ slice_get vs place → key_of (unwrap_or v Default) ≡ key_of (value_or_default (values_of f z) place)
key_there f z place vs v at there = ap key_of (value_there f z place vs v at there)

pub no_key : (f : Contents) (z : ℤ) (place : ℕ) → None ≡ option_map (λ (r : Entry × List Value). r.1) (named f z)
    → key_of Default ≡ key_of (value_or_default (values_of f z) place)
no_key f z place at = ap key_of (no_value f z place at)

pub curve_there : (f : Contents) (e : Edge) (place : ℕ) (vs : List Value) (v : Option Value)
    → Some vs ≡ option_map (λ (r : Entry × List Value). r.1) (named f (pos e.key.«list».0))
    → place ≡ 5 * e.key.index - 4 → v ≡ slice_get vs place → int_of (unwrap_or v Default) ≡ curve_of f e
unfolding curve_of
curve_there f e place vs v at is there =
    ap int_of (value_there f (pos e.key.«list».0) place vs v at there)
    ∙ ap (λ i. int_of (value_or_default (values_of f (pos e.key.«list».0)) i)) is

pub no_curve : (f : Contents) (e : Edge) → None ≡ option_map (λ (r : Entry × List Value). r.1) (named f (pos e.key.«list».0)) → int_of Default ≡ curve_of f e
unfolding curve_of
no_curve f e at = ap int_of (no_value f (pos e.key.«list».0) (5 * e.key.index - 4) at)
