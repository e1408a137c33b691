use Rattle.std.proofs.Common.{rules, sym, ap, Ok, Err, [], length, ◌≤◌, ◌<◌}
use Rattle.cert_text.specs.declared.fault.Illegal.TheVariants.{Misspelt}
use Rattle.cert_state.specs.Progress.{FitsLine}
use Rattle.topo_certificate.specs.Legal.{FitsPart}
use Rattle.topo_certificate.proofs.FedLines.{end_failed, end_rest, end_stands, end_done}
use Rattle.topo_certificate.proofs.checker.Checker.finish.Goals as goal

pub returns-in-Some-clause-fed : goal.returns-in-Some-clause-fed
returns-in-Some-clause-fed c = rw (sym c.self.view_is) (λ v s first text fed. end_failed v s FitsLine first _ text c.in-Some.bad c.in-Some.is fed)

pub returns-then-not-is_empty-clause-fed : goal.returns-then-not-is_empty-clause-fed
returns-then-not-is_empty-clause-fed c =
    let some : 0 < length c.self.inside.kept.items = search rules in
    rw (c.fail.ensures.fault, sym c.self.view_is)
    (λ v s first text fed. end_rest v s FitsLine first _ text _ c.in_default.is some (ap Misspelt c.next_number-line.ensures) fed)

pub returns-in-Ok-clause-fed : goal.returns-in-Ok-clause-fed
returns-in-Ok-clause-fed c =
    let empty : length c.self.inside.kept.items ≤ 0 = search rules in
    rw (sym c.self.view_is)
    (λ v s first text fed. end_done v s FitsLine first _ text (Ok c.in-Ok.field-0) c.in_default.is empty (c.in-Ok.ensures {u = tt}).ended fed)

pub returns-in-Ok-clause-ended : goal.returns-in-Ok-clause-ended
returns-in-Ok-clause-ended c =
    rw (sym c.self.view_is) (λ v s first read stands. end_stands v s FitsLine first _ read [] (Ok c.in-Ok.field-0) (c.in-Ok.ensures {u = tt}).ended stands)

pub returns-in-Err-clause-fed : goal.returns-in-Err-clause-fed
returns-in-Err-clause-fed c =
    let empty : length c.self.inside.kept.items ≤ 0 = search rules in
    rw (c.fail-in-Err.ensures.fault, sym c.self.view_is)
    (λ v s first text fed. end_done v s FitsLine first _ text (Err c.in-Err.bad) c.in_default.is empty (c.in-Err.ensures {u = tt}).ended fed)

pub returns-in-Some-clause-part : goal.returns-in-Some-clause-part
returns-in-Some-clause-part c = rw (sym c.self.view_is) (λ v s first text fed. end_failed v s FitsPart first _ text c.in-Some.bad c.in-Some.is fed)

pub returns-then-not-is_empty-clause-part : goal.returns-then-not-is_empty-clause-part
returns-then-not-is_empty-clause-part c =
    let some : 0 < length c.self.inside.kept.items = search rules in
    rw (c.fail.ensures.fault, sym c.self.view_is)
    (λ v s first text fed. end_rest v s FitsPart first _ text _ c.in_default.is some (ap Misspelt c.next_number-line.ensures) fed)

pub returns-in-Ok-clause-part : goal.returns-in-Ok-clause-part
returns-in-Ok-clause-part c =
    let empty : length c.self.inside.kept.items ≤ 0 = search rules in
    rw (sym c.self.view_is)
    (λ v s first text fed. end_done v s FitsPart first _ text (Ok c.in-Ok.field-0) c.in_default.is empty (c.in-Ok.ensures {u = tt}).ended fed)

pub returns-in-Err-clause-part : goal.returns-in-Err-clause-part
returns-in-Err-clause-part c =
    let empty : length c.self.inside.kept.items ≤ 0 = search rules in
    rw (c.fail-in-Err.ensures.fault, sym c.self.view_is)
    (λ v s first text fed. end_done v s FitsPart first _ text (Err c.in-Err.bad) c.in_default.is empty (c.in-Err.ensures {u = tt}).ended fed)
