-- The files that can be made, and that their texts read back.
use Rattle.std.specs.Prelude.{◌≡◌, ℕ, ◌≤◌, List, length, IsTrue}
use Rattle.std.specs.List.{AllByRecursion, list_all}
use Rattle.iges_base.specs.declared.TheConstants.{FILE_LIMIT}
use Rattle.iges_fields.specs.declared.value.Value.{Value}
use Rattle.iges_fields.specs.Delims.{are_permitted}
use Rattle.iges_fields.specs.InLine.{is_value}
use Rattle.iges_directory.specs.declared.entry.Entry.{Entry}
use Rattle.iges_params.specs.Contents.{Contents}
use Rattle.iges_params.specs.IsFile.{IsFile}
use Rattle.iges_params.specs.Made.{IsMade}
use Rattle.iges_write.specs.Text.{IsText}

-- an entry with its values as their types hold them: eight bytes each of status and label, and values that can be written
pub record IsHeld (e : Entry × List Value) : Type 0 where
  pub status : length e.0.status ≡ 8
  pub label : length e.0.label ≡ 8
  pub values : IsTrue (list_all is_value e.1)

-- what holds of each file that the calls make
pub record IsWritable (f : Contents) : Type 0 where
  pub made : IsMade f
  pub delims : IsTrue (are_permitted f.global.delims)
  pub global_values : IsTrue (list_all is_value f.global.values)
  pub held : AllByRecursion IsHeld f.entries

-- a text of a file that can be made, within the limit, is that file
abbrev pub ReadsBack : Type 0
ReadsBack = (f : Contents) (bytes : List ℕ) → IsWritable f → IsText f bytes → length bytes ≤ FILE_LIMIT → IsFile bytes f

-- what is read from a text within the limit can be made
abbrev pub CanBeMade : Type 0
CanBeMade = (bytes : List ℕ) (f : Contents) → length bytes ≤ FILE_LIMIT → IsFile bytes f → IsWritable f

-- each file has one text
abbrev pub OneText : Type 0
OneText = (f : Contents) → (bytes : List ℕ) × IsText f bytes × ((other : List ℕ) → IsText f other → other ≡ bytes)
