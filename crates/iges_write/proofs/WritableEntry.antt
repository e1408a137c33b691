-- What holds of each entry of a file that can be made.
use Rattle.std.proofs.Common.{◌≡◌, List, [], ◌∷◌, length}
use Rattle.std.specs.Prelude.{IsTrue}
use Rattle.std.specs.List.{AllByRecursion, list_all}
use Rattle.iges_fields.specs.declared.value.Value.{Value}
use Rattle.iges_fields.specs.InLine.{is_value}
use Rattle.iges_directory.specs.declared.entry.Entry.{Entry}
use Rattle.iges_directory.specs.Bounds.{IsBounded}
use Rattle.iges_params.specs.Made.{IsMadeEntry}
use Rattle.iges_write.specs.Text.{has_no_record}
use Rattle.iges_write.specs.Writable.{IsHeld}

pub record IsWritableEntry (e : Entry × List Value) : Type 0 where
  pub bounded : IsBounded e.0
  pub status : length e.0.status ≡ 8
  pub label : length e.0.label ≡ 8
  pub values : IsTrue (list_all is_value e.1)
  pub unused : IsTrue (has_no_record e.0) → e.1 ≡ []

pub writable_entries : (es : List (Entry × List Value)) → AllByRecursion IsMadeEntry es → AllByRecursion IsHeld es → AllByRecursion IsWritableEntry es
writable_entries [] m h = tt
writable_entries (e ∷ es) m h =
    (record { bounded = m.0.bounded; status = h.0.status; label = h.0.label; values = h.0.values; unused = m.0.unused }, writable_entries es m.1 h.1)
