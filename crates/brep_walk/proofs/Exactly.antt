-- A walk answers exactly the solid, or exactly the first false obligation.
use Rattle.std.specs.Prelude.{◌≡◌, List, Result, Ok, Err, IfOk, IfErr, OnOk}
use Rattle.std.proofs.Common.{sym, ap}
use Rattle.solid_data.specs.Obligations.{Obligation, AllHold, FirstFalse}
use Rattle.solid_data.specs.SolidData.{SolidData}
use Rattle.solid_data.specs.declared.verdict.Failing.{Failing}
use Rattle.solid_data.proofs.ObligationLemmas.{FirstFalse-one, FirstFalse-not_all}
use Rattle.brep_walk.specs.declared.fault.WalkFault.{WalkFault}
use Rattle.brep_walk.specs.declared.fault.WalkFault.TheVariants.{Fails, NoMemory}
use Rattle.brep_walk.specs.Walked.{IsFault, Gives}

module _ (os : List Obligation) (s : SolidData) where
  pub only_solid : (r : Result SolidData WalkFault) → IfOk r (λ t. t ≡ s) → IfErr r (IsFault os) → AllHold os → Gives r (Ok s)
  only_solid (Ok t) is fault all = ap Ok (sym is)
  only_solid (Err (Fails x)) is fault all = absurd (FirstFalse-not_all os x fault all)
  only_solid (Err NoMemory) is fault all = tt

  pub only_fault : (r : Result SolidData WalkFault) → OnOk r (AllHold os) → IfErr r (IsFault os) → (x : Failing) → FirstFalse os x → Gives r (Err x)
  only_fault (Ok t) all fault x h = absurd (FirstFalse-not_all os x h all)
  only_fault (Err (Fails y)) all fault x h = ap Err (FirstFalse-one os x y h fault)
  only_fault (Err NoMemory) all fault x h = tt
