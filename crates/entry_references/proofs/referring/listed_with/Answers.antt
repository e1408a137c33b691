use Rattle.std.proofs.Common.{subst, IfOk}
use Rattle.entry_references.specs.EntrySets.{AreRising, Entries}
use Rattle.entry_references.proofs.referring.listed_with.Goals as goal

pub returns : goal.returns
returns c = subst (λ (s : Entries). IfOk c.rising.result (λ list. AreRising list s.numbers)) c.in_ok-add_numbers.ensures.ok c.rising.ensures.rising
