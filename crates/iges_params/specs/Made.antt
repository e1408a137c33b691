-- What holds of each file that the calls make.
use Rattle.std.specs.Prelude.{◌≡◌, ℕ, ◌<◌, Bool, ◌&&◌, ◌==◌, List, [], length, pos, IsTrue}
use Rattle.std.specs.List.{AllByRecursion, list_all}
use Rattle.std.specs.Ordering.{int_eq}
use Rattle.iges_fields.specs.declared.value.Value.{Value}
use Rattle.iges_base.specs.InLine.{is_in_line}
use Rattle.iges_directory.specs.declared.entry.Entry.{Entry}
use Rattle.iges_directory.specs.Bounds.{IsBounded}
use Rattle.iges_params.specs.Contents.{Contents}
use Rattle.iges_params.specs.Limits.{FitsLimits}
use Rattle.iges_params.specs.Global.{have_kinds}

-- 72 bytes without LF
abbrev pub is_start_line : List ℕ → Bool
is_start_line line = length line == 72 && is_in_line line

-- an entry within the bounds of its fields; one of type 0 has no values
pub record IsMadeEntry (e : Entry × List Value) : Type 0 where
  pub bounded : IsBounded e.0
  pub unused : IsTrue (int_eq e.0.kind (pos 0)) → e.1 ≡ []

pub record IsMade (f : Contents) : Type 0 where
  pub some_start : 0 < length f.start
  pub start : IsTrue (list_all is_start_line f.start)
  pub kinds : IsTrue (have_kinds f.global.values)
  pub entries : AllByRecursion IsMadeEntry f.entries
  pub limits : FitsLimits f
