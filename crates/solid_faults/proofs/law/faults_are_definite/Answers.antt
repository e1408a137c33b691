use Rattle.solid_faults.proofs.Definite.{are_named, first_named, faultless_holds, holds_faultless}
use Rattle.solid_faults.proofs.law.faults_are_definite.Goals as goal

pub returns-clause-named : goal.returns-clause-named
returns-clause-named c = are_named

pub returns-clause-first : goal.returns-clause-first
returns-clause-first c = first_named

pub returns-clause-closed : goal.returns-clause-closed
returns-clause-closed c s k h x numbered has faults =
    (λ all. holds_faultless s k h x numbered has faults all, λ none. faultless_holds s k h x numbered has faults none)
