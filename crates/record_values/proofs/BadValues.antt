-- The two cases of a bad value.
use Rattle.std.specs.Prelude.{◌≡◌, true, false, if◌then◌else◌, ℤ, pos, List, option_map, Option, Some, None}
use Rattle.std.proofs.Common.{refl, sym, ◌∙◌, ap}
use Rattle.iges_fields.specs.declared.value.Value.{Value}
use Rattle.iges_directory.specs.declared.entry.Entry.{Entry}
use Rattle.iges_params.specs.Contents.{Contents}
use Rattle.brep_lists.specs.Record.{kind_of_type}
use Rattle.brep_lists.specs.declared.entity_kind.EntityKind.{EntityKind}
use Rattle.brep_lists.specs.declared.entity_kind.EntityKind.TheVariants.{Solid as solid}
use Rattle.solid_data.specs.declared.verdict.Failing.{Failing}
use Rattle.record_values.specs.declared.due.Due.TheVariants as due
use Rattle.iges_params.specs.Named.{named, values_of}
use Rattle.record_values.proofs.EntryValues.{the_values}
use Rattle.record_values.specs.BadValue.{bad_value, by_rule, entry_at, in_entity, is_of_number, kind_in, no_value}

pub by_number : (f : Contents) (x : Failing) → is_of_number x ≡ true → bad_value f x ≡ no_value (Some (due.Record solid))
unfolding bad_value
by_number f x e = ap (λ b. if b then no_value (Some (due.Record solid)) else in_entity f x (kind_in (entry_at f (pos x.entity.0)))) e

pub by_entity : (f : Contents) (x : Failing) → is_of_number x ≡ false → bad_value f x ≡ in_entity f x (kind_in (entry_at f (pos x.entity.0)))
unfolding bad_value
by_entity f x e = ap (λ b. if b then no_value (Some (due.Record solid)) else in_entity f x (kind_in (entry_at f (pos x.entity.0)))) e

-- where the values aren't there, the entry isn't
pub no_entry : (o : Option (Entry × List Value)) → None ≡ option_map (λ (e : Entry × List Value). e.1) o → option_map (λ (e : Entry × List Value). e.0) o ≡ None
no_entry None e = refl
no_entry (Some x) e = absurd cc

-- what is found by the entry and its values

pub of_no_entry : (f : Contents) (x : Failing) (z : ℤ) → z ≡ pos x.entity.0 → is_of_number x ≡ false → None ≡ entry_at f z → no_value None ≡ bad_value f x
of_no_entry f x z same e is = ap (λ (o : Option Entry). in_entity f x (kind_in o)) (is ∙ ap (entry_at f) same) ∙ sym (by_entity f x e)

pub of_no_values : (f : Contents) (x : Failing) (z : ℤ) → z ≡ pos x.entity.0 → is_of_number x ≡ false
    → None ≡ option_map (λ (e : Entry × List Value). e.1) (named f z) → no_value None ≡ bad_value f x
of_no_values f x z same e is = of_no_entry f x z same e (sym (no_entry (named f z) is))

pub of_no_kind : (f : Contents) (x : Failing) (z : ℤ) (entry : Entry) → z ≡ pos x.entity.0 → is_of_number x ≡ false → Some entry ≡ entry_at f z
    → kind_of_type entry.kind ≡ None → no_value None ≡ bad_value f x
of_no_kind f x z entry same e is none = ap (in_entity f x) (sym none ∙ ap kind_in (is ∙ ap (entry_at f) same)) ∙ sym (by_entity f x e)

pub of_kind : (f : Contents) (x : Failing) (z : ℤ) (entry : Entry) (vs : List Value) (k : EntityKind) → z ≡ pos x.entity.0 → is_of_number x ≡ false
    → Some entry ≡ entry_at f z
    → Some vs ≡ option_map (λ (e : Entry × List Value). e.1) (named f z) → kind_of_type entry.kind ≡ Some k → by_rule f x.rule x.place vs k ≡ bad_value f x
of_kind f x z entry vs k same e is values some =
    ap (λ ws. by_rule f x.rule x.place ws k) (sym (the_values (named f z) vs values) ∙ ap (values_of f) same)
    ∙ ap (in_entity f x) (sym some ∙ ap kind_in (is ∙ ap (entry_at f) same)) ∙ sym (by_entity f x e)
