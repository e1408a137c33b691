use Rattle.std.specs.Prelude.{◌-◌, length}
use Rattle.shell_tables.proofs.FaceHeads.{HeadsFrom}
use Rattle.shell_tables.proofs.faces.face_rows.Given as goal

abbrev pub invariant-rows : goal.invariant-rows
invariant-rows l = HeadsFrom l.fn.rows (length l.fn.rows.rows - l.k) l.first.items l.next.items
