use Rattle.std.proofs.Common.{arith, refl}
use Rattle.iges_lines.proofs.RowLists.{row_from, row_past, rows-count}
use Rattle.iges_lines.proofs.line_list.LineList.get.Goals as goal

pub returns-then-i-self-clause-line : goal.returns-then-i-self-clause-line
returns-then-i-self-clause-line c = rw c.deref.ensures.value (row_from 80 c.self.inside.count c.args.i c.self.inside.text.items _ c.self.view_is
    c.if-i-self.true _ _ (omega arith) (omega arith))

pub returns-then-i-self-clause-within : goal.returns-then-i-self-clause-within
returns-then-i-self-clause-within c = (λ _. omega (arith, rows-count 80 c.self.inside.count c.self.inside.text.items _ c.self.view_is), λ _. refl)

pub returns-else-i-self-clause-line : goal.returns-else-i-self-clause-line
returns-else-i-self-clause-line c = row_past 80 c.self.inside.count c.args.i c.self.inside.text.items _ c.self.view_is c.if-i-self.false

pub returns-else-i-self-clause-within : goal.returns-else-i-self-clause-within
returns-else-i-self-clause-within c = (λ e. cc, λ h. absurd (omega (arith, rows-count 80 c.self.inside.count c.self.inside.text.items _ c.self.view_is)))
