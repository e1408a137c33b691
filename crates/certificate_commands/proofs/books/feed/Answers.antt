use Rattle.certificate_commands.proofs.books.feed.Goals as goal

pub returns-in-Ok-Next-clause-fed : goal.returns-in-Ok-Next-clause-fed
returns-in-Ok-Next-clause-fed c = λ v s first text fed. rw c.in-Ok-Next.field-0-is at ((c.in-Ok-Next.ensures {u = tt}).step v s first text fed)

pub returns-in-Ok-Next-clause-within : goal.returns-in-Ok-Next-clause-within
returns-in-Ok-Next-clause-within c =
    let begun = c.requires in (rw c.in-Ok-Next.field-0-is at ((c.in-Ok-Next.ensures {u = tt}).step begun.0 begun.1 begun.2 begun.3 begun.4)).0
