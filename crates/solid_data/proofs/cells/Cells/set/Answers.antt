use Rattle.std.proofs.Common.{sym}
use Rattle.solid_data.proofs.CellSteps.{set_found}
use Rattle.solid_data.proofs.cells.Cells.set.Goals as goal

pub returns-in-Some : goal.returns-in-Some
returns-in-Some g c =
    set_found c.args.self.now c.self.inside.far c.self.inside.numbers.now c.self.inside.span c.self.inside.blank c.args.value c.self.inside.values.items
    c.in-Some.i c.args.n (sym c.self.view_is) c.if-not-self.false c.self.invariant c.in-Some.ensures
