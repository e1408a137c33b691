use Rattle.std.proofs.Common.{sym, ap, ◌∙◌}
use Rattle.iges_directory.specs.Entries.{status_of}
use Rattle.iges_directory.proofs.Statuses.{digits_stay}
use Rattle.iges_directory.proofs.field.status_in.Goals as goal

pub returns-then-are_digits-clause-some : goal.returns-then-are_digits-clause-some
returns-then-are_digits-clause-some c =
    sym (digits_stay c.bytes_in-bytes.result (sym c.are_digits.ensures ∙ c.if-are_digits.true)) ∙ ap status_of c.bytes_in-bytes.ensures
