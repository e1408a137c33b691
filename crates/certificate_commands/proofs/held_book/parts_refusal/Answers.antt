use Rattle.std.proofs.Common.{◌∙◌, refl}
use Rattle.certificate_commands.proofs.BookSteps.{book_opens, rest_behind}
use Rattle.certificate_commands.proofs.held_book.parts_refusal.Goals as goal

pub parts-init : goal.parts-init
parts-init c =
    let opened = book_opens c.args.walker.now c.args.certificate.now c.args.no.0 c.args.rest.now c.requires.few c.requires.opens in
    record { file = refl; few = opened.0; begins = opened.1 }

pub returns-in-Last : goal.returns-in-Last
returns-in-Last c =
    let at = c.parts.invariant.begins in
    rw c.in-Last.is at ((rw c.parts.invariant.file at (c.in_ok-next.ensures {u = tt}).found) c.args.certificate.now at.0 at.1 at.2 c.requires.few at.3)

pub returns-in-Decided : goal.returns-in-Decided
returns-in-Decided c =
    let at = c.parts.invariant.begins in
    rw c.in-Decided.is at ((rw c.parts.invariant.file at (c.in_ok-next.ensures {u = tt}).found) c.args.certificate.now at.0 at.1 at.2 c.requires.few at.3)

pub parts-preserved : goal.parts-preserved
parts-preserved c =
    let at = c.parts.invariant.begins in
    let next = rw c.in-Next.is at
    ((rw c.parts.invariant.file at (c.in_ok-next.ensures {u = tt}).found) c.args.certificate.now at.0 at.1 at.2 c.requires.few at.3) in
    let steps = rw c.in-Next.is at (c.in_ok-next.ensures {u = tt}).further in
    let behind = rest_behind c.args.walker.now c.args.certificate.now at.0 c.parts.no.0 c.parts.line c.parts.rest.now c.in-Next.next c.parts.invariant.few next
    steps in
    record { file = c.judge_held.ensures.file ∙ c.parts.invariant.file; few = behind.0; begins = behind.1 }
