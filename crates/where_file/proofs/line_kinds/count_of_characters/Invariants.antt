use Rattle.std.proofs.Common.{◌≡◌, ◌≤◌, take}
use Rattle.std.specs.Prelude.{count_by}
use Rattle.where_file.specs.Looks.{begins_character}
use Rattle.where_file.proofs.line_kinds.count_of_characters.Given as goal

abbrev pub invariant-bytes : goal.invariant-bytes
invariant-bytes l = record { count : l.count ≡ count_by begins_character (take l.i l.line); few : l.count ≤ l.i }
