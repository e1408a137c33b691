use Rattle.std.specs.List.{AllZip}
use Rattle.std.proofs.Common.{List, subst}
use Rattle.solid_mend.specs.declared.shells.ShellRemedies.{ShellRemedies}
use Rattle.solid_mend.specs.Mended.{IsTakenOf}
use Rattle.solid_mend.proofs.TakenLemmas.{mended_if}
use Rattle.solid_mend.proofs.mending.made.Goals as goal

pub returns-in_ok-made_with-in-Some : goal.returns-in_ok-made_with-in-Some
returns-in_ok-made_with-in-Some c =
    let cs = c.in-Some.taken.changes in
    let taken : AllZip IsTakenOf c.as_slice.result.now cs = rw c.in-Some.is at c.in_ok-taken.ensures in
    c.mending_by.ensures c.args.file.now c.args.no.0
    (mended_if c.args.file.now c.args.no.0 c.args.solid c.args.found.items cs c.requires.solid c.requires.remedies
    (subst (λ (xs : List ShellRemedies). AllZip IsTakenOf xs cs) c.as_slice.ensures.value taken) c.in_ok-made_with-in-Some.field-0
    (c.in_ok-made_with-in-Some.ensures {u = tt}))
