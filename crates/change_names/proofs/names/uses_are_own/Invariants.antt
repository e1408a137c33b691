use Rattle.change_names.specs.Names.{UseIsOwn}
use Rattle.shell_change.proofs.Matching.{EachBelow}
use Rattle.change_names.proofs.names.uses_are_own.Given as goal

abbrev pub invariant-uses : goal.invariant-uses
invariant-uses l = EachBelow (λ _ u. UseIsOwn l.rows u) l.uses l.i
