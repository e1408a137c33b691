-- What a pass answers after another: the fault passes, and what was read goes on.
use Rattle.std.proofs.Common.{◌≡◌, Result, Ok, ap, subst, sym}
use Rattle.iges_fields.specs.Reading.{◌>>=◌}
use Rattle.iges_lines.specs.declared.fault.LineFault.{LineFault}
use Rattle.iges_lines.specs.declared.fault.PassFault.{PassFault}
use Rattle.iges_lines.specs.declared.fault.PassFault.TheVariants as faults
use Rattle.iges_lines.specs.Gives.{Fails, Gives}

pub fault_passes : {A B : Type 0} (e : PassFault) (read : Result A LineFault) (more : A → Result B LineFault) → Fails e read → Fails e (read >>= more)
fault_passes faults.NoMemory read more h = tt
fault_passes (faults.Bad fault) read more h = ap (λ r. r >>= more) h

pub goes_on : {A B : Type 0} (x : A) (read : Result A LineFault) (more : A → Result B LineFault) (answer : Result B PassFault) → read ≡ Ok x →
    Gives answer (more x) → Gives answer (read >>= more)
goes_on x read more answer is h = subst (λ r. Gives answer (r >>= more)) (sym is) h
