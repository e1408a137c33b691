use Rattle.std.proofs.Common.{◌≡◌, drop, ◌++◌, map}
use Rattle.cert_text.specs.Text.{spaced}
use Rattle.cert_lines.specs.Written.{row_number}
use Rattle.cert_lines.proofs.writing.put_rows.Given as goal

abbrev pub invariant-rows : goal.invariant-rows
invariant-rows l = l.out ++ spaced (map row_number (drop l.i l.rows)) ≡ l.fn.out ++ spaced (map row_number l.rows)
