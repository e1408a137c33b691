use Rattle.std.proofs.Common.{◌∙◌, ap, subst, rules, slice_get, option_map, ◌≤◌, ◌<◌}
use Rattle.std.proofs.lemmas.Int.{to_z-of_z}
use mir.Val.{SFits}
use mir.Syntax.{w64}
use Rattle.brep_lists.specs.Record.{LoopTuple}
use Rattle.brep_loops.proofs.Curves.{curve_item, curve_past, curve_of}
use Rattle.brep_loops.proofs.loop_tuple.LoopTuple.curve.Goals as goal

pub returns : goal.returns
returns c =
    let within = subst (λ n. c.args.i < n) c.self.invariant.counted c.if-i-self.false in
    let fits : SFits w64 c.int_at.result = search rules in
    curve_item c.self.inside.values.now c.self.inside.at _ c.args.i _ within (to_z-of_z w64 c.int_at.result fits ∙ c.int_at.ensures)
    ∙ ap (λ (t : LoopTuple). option_map curve_of (slice_get t.curves c.args.i)) c.self.view_is

pub returns-then-i-self : goal.returns-then-i-self
returns-then-i-self c =
    let past = subst (λ n. n ≤ c.args.i) c.self.invariant.counted c.if-i-self.true in
    curve_past c.self.inside.values.now c.self.inside.at _ c.args.i past
    ∙ ap (λ (t : LoopTuple). option_map curve_of (slice_get t.curves c.args.i)) c.self.view_is
