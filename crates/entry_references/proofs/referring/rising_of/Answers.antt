use Rattle.std.proofs.Common.{subst, IfOk}
use Rattle.entry_references.specs.EntrySets.{AreRising, Entries, with_numbers}
use Rattle.entry_references.proofs.referring.rising_of.Goals as goal

pub returns : goal.returns
returns c =
    subst (λ (s : Entries). IfOk c.listed_with-list.result (λ list. AreRising list (with_numbers s.numbers c.args.numbers.now))) c.in_ok-set.ensures
    c.listed_with-list.ensures
