-- What a record that was opened shows of its place.
use Rattle.std.specs.Prelude.{◌≡◌, ℕ, zero, suc, ◌+◌, ◌<◌, ◌≤◌, ◌^◌, ◌/◌, IsSome, IsSomeAnd, IsErrAnd, IfErr, Result, Ok, Err, true, false, ℤ, pos, List, []}
use Rattle.std.specs.Prelude.{◌∷◌, length, map, Option, Some, None, slice_get, sum_by}
use Rattle.std.proofs.Common.{refl, sym, ◌∙◌, ap, subst, arith, inl, inr}
use Rattle.std.proofs.lemmas.List.{length-map}
use Rattle.std.proofs.lemmas.Option.{same_Some, none-some}
use Rattle.iges_fields.specs.declared.value.Value.{Value}
use Rattle.iges_directory.specs.declared.entry.Entry.{Entry}
use Rattle.iges_params.specs.Contents.{Contents}
use Rattle.iges_params.specs.Limits.{FitsLimits}
use Rattle.iges_params.specs.Named.{named, record_values, values_of}
use Rattle.brep_lists.specs.DueValues.{DueValue, pointer, number, flag, at_least_one, count, coordinate, MayBeMissing, MeetsAll}
use Rattle.brep_lists.specs.Record.{Items, items_of, due, pair_due, tuple_due, edge_due, vertex_due, Fits, IsRecordOf}
use Rattle.brep_lists.specs.declared.entity_kind.EntityKind.{EntityKind}
use Rattle.brep_lists.specs.declared.entity_kind.EntityKind.TheVariants.{Solid as solid, Shell as shell, Face as face, Loop as «loop», EdgeList as edges}
use Rattle.brep_lists.specs.declared.entity_kind.EntityKind.TheVariants.{VertexList as vertices}
use Rattle.solid_data.specs.Obligations.{AllHold, FirstFalse, obligation, entry_number}
use Rattle.solid_data.proofs.ObligationLemmas.{FirstFalse-append_front}
use Rattle.solid_data.specs.declared.verdict.Failing.{Failing}
use Rattle.solid_data.specs.declared.verdict.Rule.TheVariants.{BadLayout}
use Rattle.solid_data.proofs.Members.{total, fold-total}
use Rattle.brep_walk.specs.Counts.{item_count}
use Rattle.brep_walk.specs.Places.{told, Names, HasRecordOf, entry_places, record_places}
use Rattle.brep_walk.proofs.Few.{name_parts, each_some}

-- Whether the record is of the kind.

pub record_of : (kind : EntityKind) (o : Option (Entry × List Value)) → IsSome o → (items : Items kind) → Fits kind (record_values o) items
    → items ≡ items_of kind (record_values o)
    → IsSomeAnd o (λ e. IsRecordOf kind e.1)
record_of kind None some items fits read = absurd (let g : false ≡ true = some in cc)
record_of kind (Some e) some items fits read = subst (Fits kind e.1) read fits

pub no_record : (kind : EntityKind) (o : Option (Entry × List Value)) → ((items : Items kind) → ¬ Fits kind (record_values o) items)
    → ¬ IsSomeAnd o (λ e. IsRecordOf kind e.1)
no_record kind None none h = h
no_record kind (Some e) none h = none (items_of kind e.1) h

-- y is the number as a callee was given it
module _ (kind : EntityKind) (f : Contents) (entity : ℤ) (place : ℕ) (z y : ℤ) (same : y ≡ z) where
  pub opened : (vs : List Value) (items : Items kind) → AllHold (entry_places f entity place kind y) → vs ≡ values_of f y → Fits kind vs items
      → items ≡ items_of kind vs
      → AllHold (record_places f entity place kind z)
  opened vs items all at fits read = subst (λ x. AllHold (record_places f entity place kind x)) same
      (all.0, (all.1.0, (record_of kind (named f y) all.0 items (subst (λ ws. Fits kind ws items) at fits) (read ∙ ap (items_of kind) at), tt)))

  pub told_so : (n : ℕ) (vs : List Value) (items : Items kind) → y ≡ pos n → vs ≡ values_of f y → items ≡ items_of kind vs
      → (z ≡ pos n) × (items ≡ told kind f z)
  told_so n vs items is at read = (sym same ∙ is, read ∙ (ap (items_of kind) at ∙ ap (told kind f) same))

  pub not_opened : (n : ℕ) (vs : List Value) (x : Failing) → AllHold (entry_places f entity place kind y) → y ≡ pos n → vs ≡ values_of f y
      → ((items : Items kind) → ¬ Fits kind vs items) → x ≡ record { rule = BadLayout; entity = record { 0 = n }; place = 0 }
      → FirstFalse (record_places f entity place kind z) x
  not_opened n vs x all is at none made = subst (λ w. FirstFalse (record_places f entity place kind w) x) same
      (inr (
        all.0,
        inr (
          all.1.0,
          inl (
            no_record kind (named f y) (λ items fits. none items (subst (λ ws. Fits kind ws items) (sym at) fits)),
            made ∙ ap (λ w. record { rule = BadLayout; entity = record { 0 = entry_number w }; place = 0 }) (sym is),
          ),
        ),
      ))

  front_false : (x : Failing) → FirstFalse (entry_places f entity place kind y) x → FirstFalse (record_places f entity place kind z) x
  front_false x h = subst (λ w. FirstFalse (record_places f entity place kind w) x) same
      (FirstFalse-append_front (entry_places f entity place kind y) (obligation BadLayout (entry_number y) 0 (HasRecordOf kind f y) ∷ []) x h)

  pub not_named : {T : Type 0} (r : Result T Failing) (x : Failing) → FirstFalse (entry_places f entity place kind y) x → IsErrAnd r (λ e. e ≡ x)
      → IfErr r (FirstFalse (record_places f entity place kind z))
  not_named (Ok v) x h e = tt
  not_named (Err w) x h e = subst (FirstFalse (record_places f entity place kind z)) (sym e) (front_false x h)

-- A record has few items.

missing_last : (d : DueValue) (ds : List DueValue) → MayBeMissing (d ∷ ds) → length ds ≡ 0
missing_last (count n) [] h = refl
missing_last (count n) (d ∷ ds) h = absurd h
missing_last (pointer z) ds h = absurd h
missing_last (number z) ds h = absurd h
missing_last (flag b) ds h = absurd h
missing_last (at_least_one n) ds h = absurd h
missing_last (coordinate v) ds h = absurd h

met_length : (ds : List DueValue) (vs : List Value) → MeetsAll ds vs → length ds ≤ length vs + 1
met_length [] vs h = omega arith
met_length (d ∷ ds) [] h = omega (arith, missing_last d ds h)
met_length (d ∷ ds) (v ∷ vs) h = omega (arith, met_length ds vs h.1)

due_length : (kind : EntityKind) (items : Items kind) → item_count kind items ≤ length (due kind items)
due_length solid s = omega (arith, each_some pair_due s.voids (λ x h. omega arith))
due_length shell faces = omega (arith, each_some pair_due faces (λ x h. omega arith))
due_length face f = let e : length (map pointer f.loops) ≡ length f.loops = length-map f.loops pointer in omega (arith, e)
due_length «loop» tuples = omega (arith, each_some tuple_due tuples (λ x h. omega arith))
due_length edges tuples = omega (arith, each_some edge_due tuples (λ x h. omega arith))
due_length vertices triples = omega (arith, each_some vertex_due triples (λ x h. omega arith))

entry_total : (es : List (Entry × List Value)) (k : ℕ) (e : Entry × List Value) → slice_get es k ≡ Some e
    → length e.1 ≤ total (λ (x : Entry × List Value). length x.1) es
entry_total [] k e h = absurd (none-some e h)
entry_total (x ∷ es) zero e h = let same : length x.1 ≡ length e.1 = ap (λ (y : Entry × List Value). length y.1) (same_Some x e h) in omega (arith, same)
entry_total (x ∷ es) (suc k) e h = omega (arith, entry_total es k e h)

-- the values of one record are no more than those of all
pub values_few : (f : Contents) (z : ℤ) → FitsLimits f → Names f z → length (values_of f z) ≤ 164_000_000
values_few f z limits here =
    let p = name_parts f z here in
    let most : sum_by (λ (e : Entry × List Value). length e.1) f.entries ≤ 164_000_000 = limits.values in
    omega (arith, entry_total f.entries (p.number / 2) p.entry p.there, p.size, most, fold-total (λ (e : Entry × List Value). length e.1) 0 f.entries)

-- an entry that a number names, whose values tell these items
pub named_few : (kind : EntityKind) (f : Contents) (z : ℤ) → FitsLimits f → Names f z → (vs : List Value) (items : Items kind) → vs ≡ values_of f z
    → Fits kind vs items → item_count kind items < 2 ^ 31
named_few kind f z limits here vs items at fits =
    omega (arith, due_length kind items, met_length (due kind items) vs fits, values_few f z limits here, ap (λ (ws : List Value). length ws) at)

pub items_few : (kind : EntityKind) (f : Contents) (entity : ℤ) (place : ℕ) (z y : ℤ) → y ≡ z → FitsLimits f → AllHold (entry_places f entity place kind y)
    → (vs : List Value) (items : Items kind) → vs ≡ values_of f y → Fits kind vs items → item_count kind items < 2 ^ 31
items_few kind f entity place z y same limits all vs items at fits = named_few kind f y limits all.0 vs items at fits
