use Rattle.std.proofs.Common.{◌≡◌, find, drop}
use Rattle.std.specs.Ordering.{int_eq}
use Rattle.where_text.proofs.type_names.name_in.Given as goal

abbrev pub invariant-rows : goal.invariant-rows
invariant-rows l = find (λ r. int_eq l.kind r.0) (drop l.row-index l.rows) ≡ find (λ r. int_eq l.kind r.0) l.rows
