use Rattle.std.proofs.Common.{ap, sym, subst, arith}
use Rattle.edge_uses.specs.ShellRows.{ShellRows}
use Rattle.shell_reach.specs.Reaching.{row_numbers, IsBreadthFirst}
use Rattle.shell_reach.specs.Flood.{face_numbers}
use Rattle.shell_reach.proofs.Floods.{flood_reaches}
use Rattle.shell_reach.proofs.Crossings.{breadth_first, none_breadth_first}
use Rattle.shell_reach.proofs.reaching.reach_faces.Goals as goal
use Rattle.edge_uses.proofs.Steps.{none_of}

pub returns-clause-rows : goal.returns-clause-rows
returns-clause-rows g c =
    flood_reaches (g.M.Mates.shell c.args.mates.now) c.run.new.self.marks.items (face_numbers c.run.new.self.order.items) (row_numbers c.run.new.self.rows) c.in_ok-run.ensures.flood
    c.in_ok-run.ensures.done
    (none_of c.first_unreached.result _ _ c.in_default.not-Some c.first_unreached.ensures)

pub returns-then-count-eq0-clause-order : goal.returns-then-count-eq0-clause-order
returns-then-count-eq0-clause-order g c =
    λ whole. subst (λ rows. IsBreadthFirst (g.M.Mates.shell c.args.mates.now) (row_numbers rows)) (sym c.new.ensures)
    (none_breadth_first (g.M.Mates.shell c.args.mates.now) whole
    (omega (arith, c.if-count-eq0.true, c.face_count-count.ensures, ap (λ (d : ShellRows). d.face_count) c.table-rows.ensures.rows)))

pub returns-clause-order : goal.returns-clause-order
returns-clause-order g c =
    λ whole. breadth_first (g.M.Mates.shell c.args.mates.now) _ _ (face_numbers c.run.new.self.order.items) (row_numbers c.run.new.self.rows) whole c.in_ok-flood.ensures.crossed
    c.in_ok-run.ensures.crossed
