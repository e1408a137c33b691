use Rattle.std.proofs.Common.{refl, sym, ap, ◌∙◌, [], ◌∷◌, Bool}
use Rattle.iges_base.specs.First.{first_failing}
use Rattle.iges_lines.specs.Judged.{tests_behind}
use Rattle.iges_lines.proofs.Going.{none_from, some_from, fault_taken, taken_behind, taken_next, line_whole}
use Rattle.iges_lines.proofs.Growing.{extends_same}
use Rattle.iges_lines.proofs.Putting.{added_blank}
use Rattle.iges_lines.proofs.taken_lines.TakenLines.take_judged.Goals as goal

pub returns-then-is_some-clause-ok : goal.returns-then-is_some-clause-ok
returns-then-is_some-clause-ok c =
    let f = some_from c.self.inside.fault c.is_some.result c.is_some.ensures c.if-is_some.true in
    rw (sym c.self.view_is) (λ ls h. taken_behind ls (c.args.line.now ∷ []) _ f.0 f.1 h)

pub returns-then-is_some-clause-extends : goal.returns-then-is_some-clause-extends
returns-then-is_some-clause-extends c = extends_same _ _ refl

pub returns-in-Some-clause-ok : goal.returns-in-Some-clause-ok
returns-in-Some-clause-ok c =
    rw (sym c.self.view_is) (λ ls h. fault_taken ls _ c.args.line.now c.in-Some.reason
    (none_from c.self.inside.fault c.is_some.result c.is_some.ensures c.if-is_some.false) (c.in-Some.ensures {u = tt}) h)

pub returns-in-Some-clause-extends : goal.returns-in-Some-clause-extends
returns-in-Some-clause-extends c = rw (sym c.self.view_is) (extends_same _ _ refl)

pub returns-then-self-clause-ok : goal.returns-then-self-clause-ok
returns-then-self-clause-ok c =
    let none = none_from c.self.inside.fault c.is_some.result c.is_some.ensures c.if-is_some.false in
    rw (sym c.self.view_is) (λ ls h. taken_next ls _ _ c.args.line.now none (c.in_default.ensures {u = tt})
    (added_blank c.self.inside.table c.self.inside.terminated c.args.line.now c.if-self.true) refl none h)

pub returns-then-self-clause-extends : goal.returns-then-self-clause-extends
returns-then-self-clause-extends c = rw (sym c.self.view_is) (extends_same _ _ refl)

pub put-requires-clause-long : goal.put-requires-clause-long
put-requires-clause-long c = line_whole c.self.inside.table c.self.inside.terminated c.args.line.now (c.in_default.ensures {u = tt}) c.if-self.false

pub put-requires-clause-going : goal.put-requires-clause-going
put-requires-clause-going c =
    let none = none_from c.self.inside.fault c.is_some.result c.is_some.ensures c.if-is_some.false in
    rw (sym c.self.view_is) (c.if-self.false, none)

pub put-requires-clause-passes : goal.put-requires-clause-passes
put-requires-clause-passes c = rw (sym c.self.view_is) ((c.in_default.ensures {u = tt}) ∙ ap
    (λ (u : Bool). first_failing (tests_behind u c.self.inside.table c.args.line.now)) c.if-self.false)
