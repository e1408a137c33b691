use Rattle.brep_numbering.proofs.PlacedNumbers.{has_at, none_at}
use Rattle.brep_numbering.proofs.number_set.NumberSet.has.Goals as goal

pub returns-in-Some : goal.returns-in-Some
returns-in-Some c =
    has_at c.self.inside.positions c.self.inside.numbers.items c.args.self.now c.self.view_is c.self.invariant c.args.no.0 c.get.result c.get.ensures
    c.deref.result.now c.deref.ensures.value c.in-Some.number.now
    c.in-Some.ensures.lookup.3.0 c.in-Some.ensures.lookup.3.1

pub returns-in-None : goal.returns-in-None
returns-in-None c =
    none_at c.self.inside.positions c.self.inside.numbers.items c.args.self.now c.self.view_is c.self.invariant c.args.no.0 c.get.result c.get.ensures
    c.deref.result.now c.deref.ensures.value c.in-None.ensures.lookup.3
