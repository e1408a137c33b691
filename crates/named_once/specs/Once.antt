-- The file in which a solid names each shell, each face and each loop once.
use Rattle.std.specs.Prelude.{ℕ, ◌+◌, ◌==◌, ◌&&◌, not, ℤ, pos, Bool, true, false, List, [], ◌∷◌, ◌++◌, length, take, drop, replicate, Option, Some, None, if◌then◌else◌}
use Rattle.std.specs.List.{list_any}
use Rattle.iges_fields.specs.declared.value.Value.{Value}
use Rattle.iges_params.specs.Contents.{Contents}
use Rattle.iges_params.specs.Named.{named}
use Rattle.brep_lists.specs.Record.{int_at}
use Rattle.entry_references.specs.Refs.{Record}
use Rattle.solid_data.specs.Obligations.{entry_number}
use Rattle.changed_records.specs.Values.{number_value}
use Rattle.changed_file.specs.Folds.{fold_items, fold_pairs}
use Rattle.changed_file.specs.Draft.{with_values}
use Rattle.changed_file.specs.Changed.{with_slots}
use Rattle.named_once.specs.Marks.{was_named, with_mark}
use Rattle.named_once.specs.Told.{loops_named, numbers_told}
use Rattle.named_once.specs.declared.places.Dropped.{Dropped}
use Rattle.named_once.specs.declared.places.Seen.{Seen}
use Rattle.named_once.specs.declared.places.Listed.{Listed}
use Rattle.named_once.specs.declared.copying.Copying.{Copying}
use Rattle.named_once.specs.declared.leaving.Draft.{Draft}

-- ---- places of a record, in order

-- A place stays if what it names wasn't named before, and, if it is a face, none of its loops was.
abbrev pub stays : Contents → List Bool → ℤ → Bool
stays f marks z = not (was_named f marks z) && not (list_any (was_named f marks) (loops_named f z))

-- then it and its loops are named
abbrev pub with_kept : Contents → Seen → ℤ → List ℤ → Seen
with_kept f s z loops = record s { marks = fold_items (with_mark f) (with_mark f s.marks z) loops; stay = s.stay ++ true ∷ [] }

abbrev pub with_dropped : Contents → Listed → Seen → ℤ → Seen
with_dropped f at s z = record {
  marks = with_mark f s.marks z;
  stay = s.stay ++ false ∷ [];
  dropped = s.dropped ++ record { entity = at.entity; item = at.first + length s.stay } ∷ [];
}

abbrev pub with_place : Contents → Listed → Seen → ℤ → Seen
with_place f at s z = if stays f s.marks z then with_kept f s z (loops_named f z) else with_dropped f at s z

-- ---- the values of a record: of each place that stays its pair, behind the count of these

abbrev pub with_one : ℕ → Bool → ℕ
with_one n stays = if stays then n + 1 else n

abbrev pub kept_count : List Bool → ℕ
kept_count stay = fold_items with_one 0 stay

abbrev pub with_pair : List Value → Copying → Bool → Copying
with_pair vs c stays = record { at = c.at + 2; «list» = if stays then c.list ++ take 2 (drop c.at vs) else c.list }

abbrev pub copied : List Value → Copying → List Value
copied vs c = c.list ++ drop c.at vs

abbrev pub once_values : List Value → ℕ → List Bool → List Value
once_values vs place stay = copied vs (fold_items (with_pair vs) (record { at = place + 1; «list» = take place vs ++ number_value (kept_count stay) ∷ [] }) stay)

abbrev pub with_kept_number : List ℤ → ℤ → Bool → List ℤ
with_kept_number ns z stays = if stays then ns ++ z ∷ [] else ns

abbrev pub kept_numbers : List ℤ → List Bool → List ℤ
kept_numbers zs stay = fold_pairs with_kept_number [] zs stay

-- ---- a solid: its voids, and then the faces of each shell that stays. A record changes if one of its places is left out.

abbrev pub with_record : Listed → List Value → ℕ → Draft → Seen → Draft
with_record at vs place d s = record {
  seen = s;
  slots = if kept_count s.stay == length s.stay then d.slots else with_values d.slots at.entity.0 (once_values vs place s.stay);
}

-- the places behind the count at this one
unfoldable pub with_places : Contents → Listed → List Value → ℕ → Draft → Draft
with_places f at vs place d =
    with_record at vs place d (fold_items (with_place f at) (record { marks = d.seen.marks; stay = []; dropped = d.seen.dropped }) (numbers_told vs place))

abbrev pub with_told_shell : Contents → ℤ → Draft → Option Record → Draft
with_told_shell f z d None = d
with_told_shell f z d (Some r) = with_places f (record { entity = record { 0 = entry_number z }; first = 1 }) r.1 0 d

abbrev pub with_shell : Contents → Draft → ℤ → Draft
with_shell f d z = with_told_shell f z d (named f z)

abbrev pub blank_draft : Contents → Draft
blank_draft f = record {
  seen = record { marks = replicate (length f.entries) false; stay = []; dropped = [] };
  slots = replicate (length f.entries) None;
}

abbrev pub with_outer : Contents → ℤ → Draft → Draft
with_outer f z d = record d { seen = record { marks = with_mark f d.seen.marks z; stay = d.seen.stay; dropped = d.seen.dropped } }

unfoldable pub with_shells : Contents → List Value → Draft → Draft
with_shells f vs d = fold_items (with_shell f) d (int_at vs 0 ∷ kept_numbers (numbers_told vs 2) d.seen.stay)

abbrev pub with_solid : Contents → ℕ → List Value → Draft → Draft
with_solid f n vs d = with_shells f vs (with_places f (record { entity = record { 0 = n }; first = 2 }) vs 2 (with_outer f (int_at vs 0) d))

abbrev pub draft_of : Contents → ℕ → Option Record → Draft
draft_of f n None = blank_draft f
draft_of f n (Some r) = with_solid f n r.1 (blank_draft f)

unfoldable pub once_draft : Contents → ℕ → Draft
once_draft f n = draft_of f n (named f (pos n))

-- The file in which solid n names each shell, face and loop once: each later naming of a shell by the solid, or of a face by a shell, is left out, and each
-- face of which a face before it has a loop.
unfoldable pub once : Contents → ℕ → Contents
once f n = let d = once_draft f n in with_slots f d.slots

-- the places that are left out
unfoldable pub dropped : Contents → ℕ → List Dropped
dropped f n = let d = once_draft f n in d.seen.dropped
