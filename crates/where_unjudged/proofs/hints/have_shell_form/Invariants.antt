use Rattle.std.proofs.Common.{◌≡◌, drop}
use Rattle.std.specs.List.{list_any}
use Rattle.where_unjudged.specs.Hints.{has_shell_form}
use Rattle.where_unjudged.proofs.hints.have_shell_form.Given as goal

abbrev pub invariant-shells : goal.invariant-shells
invariant-shells l = list_any (has_shell_form l.file) (drop l.no-index l.list) ≡ list_any (has_shell_form l.file) l.list
