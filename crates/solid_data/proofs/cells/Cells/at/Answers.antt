use Rattle.std.proofs.Common.{sym}
use Rattle.solid_data.proofs.CellSteps.{at_found, at_none}
use Rattle.solid_data.proofs.cells.Cells.at.Goals as goal

pub returns-in-Some : goal.returns-in-Some
returns-in-Some g c =
    at_found c.args.self.now c.self.inside.far c.self.inside.numbers.now c.self.inside.span c.self.inside.blank _ c.self.inside.values.items c.in-Some.i
    c.args.n c.index-in-Some.result.now (sym c.self.view_is) c.if-not-self.false c.self.invariant c.requires c.in-Some.ensures c.index-in-Some.ensures

pub returns-in-None : goal.returns-in-None
returns-in-None g c = at_none c.args.self.now c.self.inside.far c.self.inside.numbers.now c.self.inside.span c.self.inside.blank c.self.inside.values.items
    c.args.n (sym c.self.view_is) c.if-not-self.false c.requires c.in-None.ensures
