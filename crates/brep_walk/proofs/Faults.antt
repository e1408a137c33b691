-- The fault of a part of the obligations is that of all.
use Rattle.std.specs.Prelude.{◌≡◌, List, ◌++◌, Result, Ok, Err, IsErrAnd, IfErr}
use Rattle.std.proofs.Common.{sym, subst}
use Rattle.solid_data.specs.Obligations.{Obligation, AllHold, FirstFalse}
use Rattle.solid_data.specs.declared.verdict.Failing.{Failing}
use Rattle.solid_data.proofs.ObligationLemmas.{FirstFalse-append_front, FirstFalse-append_rest, Remains}
use Rattle.brep_walk.specs.declared.fault.WalkFault.{WalkFault}
use Rattle.brep_walk.specs.declared.fault.WalkFault.TheVariants.{Fails, NoMemory}
use Rattle.brep_walk.specs.Walked.{IsFault}

pub fault_front : (os ps : List Obligation) (w : WalkFault) → IsFault os w → IsFault (os ++ ps) w
fault_front os ps (Fails x) h = FirstFalse-append_front os ps x h
fault_front os ps NoMemory h = tt

pub fault_rest : (os ps : List Obligation) (w : WalkFault) → AllHold os → IsFault ps w → IsFault (os ++ ps) w
fault_rest os ps (Fails x) all h = FirstFalse-append_rest os ps x all h
fault_rest os ps NoMemory all h = tt

pub fault_of : (rest all : List Obligation) (w : WalkFault) → Remains rest all → IsFault rest w → IsFault all w
fault_of rest all (Fails x) r h = r.fails x h
fault_of rest all NoMemory r h = tt

-- a fault that `?` hands on
pub handed : (os : List Obligation) {T : Type 0} (r : Result T WalkFault) (w : WalkFault) → IsFault os w → IsErrAnd r (λ e. e ≡ w) → IfErr r (IsFault os)
handed os (Ok t) w h e = tt
handed os (Err v) w h e = subst (IsFault os) (sym e) h

-- and one that `?` makes of what fails
pub handed_failing : (os : List Obligation) {T : Type 0} (r : Result T WalkFault) (x : Failing) → FirstFalse os x → IsErrAnd r (λ e. e ≡ Fails x)
    → IfErr r (IsFault os)
handed_failing os (Ok t) x h e = tt
handed_failing os (Err v) x h e = subst (IsFault os) (sym e) h
