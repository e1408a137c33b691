use Rattle.std.proofs.Common.{[]}
use Rattle.certificate_commands.proofs.BookSteps.{held_next, held_steps, held_bad, held_last}
use Rattle.certificate_commands.proofs.held_book.held_outcome.Goals as goal

pub returns-in-Some-clause-found : goal.returns-in-Some-clause-found
returns-in-Some-clause-found c = λ f s certificate ns front n line whole few begins checked starts.
    let fed = rw c.in-Some.is at (c.feed.ensures.fed _ s line [] starts) in
    held_next f certificate ns front n line c.args.rest.now s c.in-Some.next _ whole begins checked fed

pub returns-in-Some-clause-further : goal.returns-in-Some-clause-further
returns-in-Some-clause-further c = λ s line starts.
    let fed = rw c.in-Some.is at (c.feed.ensures.fed _ s line [] starts) in
    held_steps s line c.args.rest.now c.in-Some.next _ fed

pub returns-in-Ok-clause-found : goal.returns-in-Ok-clause-found
returns-in-Ok-clause-found c = λ f s certificate ns front n line whole few begins checked starts.
    let fed = rw c.in_default.is at (c.feed.ensures.fed _ s line [] starts) in
    let legal = (c.in-Ok.ensures {u = tt}).part _ s line _ fed in
    held_last f certificate ns front n line c.args.rest.now s whole few begins checked legal

pub returns-in_ok-illegal-in-Err-clause-found : goal.returns-in_ok-illegal-in-Err-clause-found
returns-in_ok-illegal-in-Err-clause-found c = λ f s certificate ns front n line whole few begins checked starts.
    let fed = rw c.in_default.is at (c.feed.ensures.fed _ s line [] starts) in
    let wrong = (c.in-Err.ensures {u = tt}).part _ s line _ fed in
    held_bad f certificate ns front n line c.args.rest.now s c.in-Err.bad c.in_ok-illegal-in-Err.field-0 whole few begins checked wrong
    (c.in_ok-illegal-in-Err.ensures {u = tt})

pub feed-requires : goal.feed-requires
feed-requires c = (_, c.requires.0, c.requires.1, [], c.requires.2)
