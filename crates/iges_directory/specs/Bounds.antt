-- What the fields of an entry can hold.
use Rattle.std.specs.Prelude.{◌≡◌, ℕ, ◌*◌, ◌≤◌, Bool, ◌&&◌, List, length, ℤ, pos, negsuc, int_le, Some, IsTrue, slice_get}
use Rattle.std.specs.Char.{is_ascii_digit}
use Rattle.std.specs.List.{list_all}
use Rattle.iges_base.specs.InLine.{is_in_line}
use Rattle.iges_base.specs.declared.TheConstants.{FILE_LIMIT}
use Rattle.iges_directory.specs.declared.entry.Entry.{Entry}
use Rattle.iges_directory.specs.declared.entry.Placed.{Placed}

-- a number that eight columns hold
abbrev pub fits_columns : ℤ → Bool
fits_columns n = int_le (negsuc 9999998) n && int_le n (pos 99999999)

-- an entry that its two lines can hold
pub record IsBounded (e : Entry) : Type 0 where
  pub kind : IsTrue (fits_columns e.kind)
  pub structure : IsTrue (fits_columns e.structure)
  pub font : IsTrue (fits_columns e.font)
  pub level : IsTrue (fits_columns e.level)
  pub view : IsTrue (fits_columns e.view)
  pub matrix : IsTrue (fits_columns e.matrix)
  pub display : IsTrue (fits_columns e.display)
  pub weight : IsTrue (fits_columns e.weight)
  pub colour : IsTrue (fits_columns e.colour)
  pub form : IsTrue (fits_columns e.form)
  pub subscript : IsTrue (fits_columns e.subscript)
  pub status : IsTrue (list_all is_ascii_digit e.status)
  pub label : IsTrue (is_in_line e.label)

-- the entries of a directory: each is bounded, and its two lines are lines of a file
pub record AreBounded (ps : List Placed) : Type 0 where
  pub each : (i : ℕ) (p : Placed) → slice_get ps i ≡ Some p → IsBounded p.entry
  pub few : 160 * length ps ≤ FILE_LIMIT
