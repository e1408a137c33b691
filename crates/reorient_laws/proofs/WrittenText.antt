-- The text that is written of a reoriented solid reads back.
use Rattle.std.specs.Prelude.{◌≡◌, ℕ, ◌+◌, ◌*◌, Bool, true, false, ℤ, pos, List, [], ◌∷◌, map, if◌then◌else◌}
use Rattle.std.specs.List.{AllByRecursion, enumerate_from, list_all}
use Rattle.std.specs.Ordering.{int_eq}
use Rattle.std.proofs.Common.{refl, sym, subst}
use Rattle.std.proofs.lemmas.Bool.{and_parts, and_from}
use Rattle.iges_fields.specs.InLine.{is_value}
use Rattle.iges_fields.specs.declared.value.Value.{Value}
use Rattle.iges_params.specs.Contents.{Contents}
use Rattle.iges_write.specs.Writable.{IsHeld, IsWritable}
use Rattle.iges_write.proofs.FileBack.{reads_back}
use Rattle.iges_write.proofs.Made.{can_be_made}
use Rattle.brep_lists.specs.Record.{type_number}
use Rattle.brep_lists.specs.declared.entity_kind.EntityKind.TheVariants.{Shell as shell}
use Rattle.brep_walk.specs.Places.{shells, numbers}
use Rattle.entry_references.specs.Refs.{Record}
use Rattle.solid_extract.specs.Extracted.{new_number}
use Rattle.extraction_laws.proofs.WrittenText.{extracted_is_writable, only_file}
use Rattle.solid_reorient.specs.Reflagged.{flag_value, pairs_with, values_with, flags_for, reflagged_values, reflagged_record, reflagged}
use Rattle.solid_reorient.proofs.Kept.{made_with}
use Rattle.reorient_laws.specs.Written.{ReorientedIsWritable, WrittenIsReoriented}

flag_held : (b : Bool) → is_value (flag_value b) ≡ true
flag_held true = refl
flag_held false = refl

pairs_held : (bs : List Bool) (vs : List Value) → list_all is_value vs ≡ true → list_all is_value (pairs_with bs vs) ≡ true
pairs_held [] vs h = h
pairs_held (b ∷ bs) [] h = h
pairs_held (b ∷ bs) (p ∷ []) h = h
pairs_held (b ∷ bs) (p ∷ v ∷ vs) h =
    let parts = and_parts (is_value p) (list_all is_value (v ∷ vs)) h in
    let rest = and_parts (is_value v) (list_all is_value vs) parts.1 in
    and_from (is_value p) (list_all is_value (flag_value b ∷ pairs_with bs vs)) parts.0
    (and_from (is_value (flag_value b)) (list_all is_value (pairs_with bs vs)) (flag_held b) (pairs_held bs vs rest.1))

values_held : (bs : List Bool) (vs : List Value) → list_all is_value vs ≡ true → list_all is_value (values_with bs vs) ≡ true
values_held bs [] h = h
values_held bs (n ∷ vs) h = let parts = and_parts (is_value n) (list_all is_value vs) h in and_from (is_value n) (list_all is_value (pairs_with bs vs)) parts.0
    (pairs_held bs vs parts.1)

record_held : (bs : List Bool) (r : Record) → list_all is_value r.1 ≡ true → list_all is_value (reflagged_values bs r) ≡ true
record_held bs r h = by_test (int_eq r.0.kind (type_number shell))
  where
    by_test : (b : Bool) → list_all is_value (if b then values_with bs r.1 else r.1) ≡ true
    by_test true = values_held bs r.1 h
    by_test false = h

entries_held : (flags : List (List Bool)) (zs : List ℤ) (k : ℕ) (rs : List Record) → AllByRecursion IsHeld rs
    → AllByRecursion IsHeld (map (reflagged_record flags zs) (enumerate_from k rs))
entries_held flags zs k [] all = tt
entries_held flags zs k (r ∷ rs) all =
    let held : IsHeld r = all.0 in (
      record { status = held.status; label = held.label; values = record_held (flags_for flags zs (2 * k + 1)) r held.values },
      entries_held flags zs (k + 1) rs all.1,
    )

writable_with : (g : Contents) (n : ℕ) (flags : List (List Bool)) → IsWritable g → IsWritable (reflagged g n flags)
unfolding reflagged
writable_with g n flags w = record {
  made = made_with g n flags w.made;
  delims = w.delims;
  global_values = w.global_values;
  held = entries_held flags (numbers (shells g (pos n))) 0 g.entries w.held;
}

pub reoriented_writable : ReorientedIsWritable
reoriented_writable f new n w r =
    subst IsWritable (sym r.is) (writable_with r.«between» (new_number r.extracted.kept n) r.flags (extracted_is_writable f r.«between» n w r.extracted))

pub written_reoriented : WrittenIsReoriented
written_reoriented bytes text f new n w =
    let old : IsWritable f = can_be_made bytes f w.within w.file in
    only_file text new (reads_back new text (reoriented_writable f new n old w.reoriented) w.written w.text_within)
