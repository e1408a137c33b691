-- How large a file may be.
use Rattle.std.specs.Prelude.{◌≤◌, length}
use Rattle.iges_base.specs.declared.TheConstants.{ENTRY_LIMIT, FILE_LIMIT}
use Rattle.iges_params.specs.Contents.{Contents, value_count}

-- What a file may hold: so many entries, and so many values in all records together.
pub record FitsLimits (f : Contents) : Type 0 where
  pub entries : length f.entries ≤ ENTRY_LIMIT
  pub values : value_count f.entries ≤ FILE_LIMIT
