use Rattle.std.proofs.Common.{sym, ◌∙◌, ap, subst, rules, List, drop, slice_get, ◌≤◌, ◌<◌}
use Rattle.std.proofs.lemmas.Int.{to_z-of_z}
use mir.Val.{SFits}
use mir.Syntax.{w64}
use Rattle.brep_lists.specs.Record.{edge_read}
use Rattle.brep_lists.specs.declared.edge_list.EdgeTuple.{EdgeTuple}
use Rattle.brep_lists.proofs.Views.{items_past, edge_item}
use Rattle.brep_lists.proofs.edge_list.EdgeList.tuple.Goals as goal

pub returns-then-i-self : goal.returns-then-i-self
returns-then-i-self c =
    let past = subst (λ n. n ≤ c.args.i) c.self.invariant.counted c.if-i-self.true in
    sym (items_past edge_read 5 _ c.args.i (drop 1 c.self.inside.values.now) past)
    ∙ ap (λ (l : List EdgeTuple). slice_get l c.args.i) c.self.view_is

pub returns : goal.returns
returns c =
    let within = subst (λ n. c.args.i < n) c.self.invariant.counted c.if-i-self.false in
    let fits1 : SFits w64 c.int_at.result = search rules in
    let fits2 : SFits w64 c.int_at-2.result = search rules in
    let fits3 : SFits w64 c.int_at-3.result = search rules in
    let fits4 : SFits w64 c.int_at-4.result = search rules in
    let fits5 : SFits w64 c.int_at-5.result = search rules in
    edge_item _ c.args.i c.self.inside.values.now _ _ _ _ _ within
    (to_z-of_z w64 c.int_at.result fits1 ∙ c.int_at.ensures) (to_z-of_z w64 c.int_at-2.result fits2 ∙ c.int_at-2.ensures)
    (to_z-of_z w64 c.int_at-3.result fits3 ∙ c.int_at-3.ensures) (to_z-of_z w64 c.int_at-4.result fits4 ∙ c.int_at-4.ensures)
    (to_z-of_z w64 c.int_at-5.result fits5 ∙ c.int_at-5.ensures)
    ∙ ap (λ (l : List EdgeTuple). slice_get l c.args.i) c.self.view_is
