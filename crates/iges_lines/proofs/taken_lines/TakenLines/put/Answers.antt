use Rattle.std.proofs.Common.{refl, sym, subst, ◌+◌, false}
use Rattle.iges_lines.specs.Kinds.{IsKind, is_last}
use Rattle.iges_lines.proofs.Growing.{extends_same, extends_added}
use Rattle.iges_lines.proofs.Putting.{added_open, put_foretold, put_ok}
use Rattle.iges_lines.proofs.taken_lines.TakenLines.put.Goals as goal

pub returns-in_err-add-clause-extends : goal.returns-in_err-add-clause-extends
returns-in_err-add-clause-extends c = rw (sym c.self.view_is) (extends_same _ _ (c.in_err-add.ensures {u = tt}).err)

pub invariant_of-self-2 : goal.invariant_of-self-2
invariant_of-self-2 c =
    let going = rw (sym c.self.view_is) at c.requires.going in
    let passes = rw (sym c.self.view_is) at c.requires.passes in
    let is = subst (IsKind c.kind_of-kind.result) c.letter_of.ensures c.kind_of-kind.ensures in
    put_foretold (record { sections = c.self.inside.table; terminated = c.self.inside.terminated; number = c.self.inside.number; fault = c.self.inside.fault })
    c.add.new.self c.kind_of-kind.result c.args.line.now c.due_after-self-inside.result c.is_last_kind-self-inside.result
    (c.self.inside.number + 1) going.1 passes is (c.in_ok-add.ensures {u = tt}).ok c.is_last_kind-self-inside.ensures c.due_after-self-inside.ensures

pub returns-clause-ok : goal.returns-clause-ok
returns-clause-ok c =
    let going = rw (sym c.self.view_is) at c.requires.going in
    let passes = rw (sym c.self.view_is) at c.requires.passes in
    let is = subst (IsKind c.kind_of-kind.result) c.letter_of.ensures c.kind_of-kind.ensures in
    rw (sym c.self.view_is) (put_ok _ _ c.kind_of-kind.result c.args.line.now going.1 going.0 passes is
    (c.in_ok-add.ensures {u = tt}).ok c.is_last_kind-self-inside.ensures refl going.1)

pub returns-clause-extends : goal.returns-clause-extends
returns-clause-extends c =
    let is = subst (IsKind c.kind_of-kind.result) c.letter_of.ensures c.kind_of-kind.ensures in
    rw (sym c.self.view_is) (extends_added c.self.inside.table c.add.new.self false (is_last c.kind_of-kind.result) c.args.line.now
    (added_open c.self.inside.table c.add.new.self false (is_last c.kind_of-kind.result) c.kind_of-kind.result c.args.line.now refl is
    (c.in_ok-add.ensures {u = tt}).ok refl))
