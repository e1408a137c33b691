use Rattle.std.proofs.Common.{◌∙◌, ◌<◌, ◌≤◌, ◌+◌, ◌*◌, ◌∷◌, ◌++◌, [], pos, List, sym, ap, take, drop, length, arith}
use Rattle.std.proofs.lemmas.List.{take_all}
use Rattle.brep_lists.specs.declared.edge_list.EdgeTuple.{EdgeTuple}
use Rattle.list_compact.specs.Dropped.{reindexed_edge}
use Rattle.list_compact.specs.Marking.{edge_spelled, int_value}
use Rattle.list_compact.specs.Used.{is_used_edge, used_from}
use Rattle.list_compact.proofs.ListSteps.{items_more, edges_spelled, edges_used, edge_room}
use Rattle.list_compact.proofs.values.used_edges.Goals as goal

pub edges-preserved : goal.edges-preserved
edges-preserved c g e t m =
    let lt : c.edges.i < length c.args.row.now = omega (arith, c.edges-test.true, c.len-count.ensures, c.requires.size) in
    items_more (λ (x : EdgeTuple). edge_spelled (reindexed_edge g x)) (is_used_edge g e) c.args.row.now c.edges.i c.mark_at.result c.args.listed.now
    c.unwrap-edge.result (int_value (pos c.args.used) ∷ []) c.edges.list c.push_used_edge.new.list m lt c.mark_at.ensures
    (sym c.tuple.ensures ∙ c.unwrap-edge.ensures) (c.edges.invariant g e t m) (c.in_ok-push_used_edge.ensures g t)

pub overflow_mul-count : goal.overflow_mul-count
overflow_mul-count c = omega (arith, c.len-count.ensures, edge_room c.args.values.now c.args.listed.now c.requires.is c.requires.read c.requires.short)

pub overflow_add-count : goal.overflow_add-count
overflow_add-count c = omega (arith, c.len-count.ensures, edge_room c.args.values.now c.args.listed.now c.requires.is c.requires.read c.requires.short)

pub returns : goal.returns
returns c g e t m =
    let vs = c.args.values.now in
    let past : length c.args.listed.now ≤ c.edges.i = omega (arith, c.edges-test.false, c.len-count.ensures) in
    edges_used g e c.args.values.now c.args.row.now c.args.listed.now c.args.used c.edges.list c.push_copies.new.list c.requires.read c.requires.size m
    c.requires.used (λ z. omega (arith, z, c.requires.some))
    (c.edges.invariant g e t m ∙ ap (λ (xs : List EdgeTuple). (int_value (pos c.args.used) ∷ []) ++ edges_spelled g (used_from (is_used_edge g e) 1 xs))
    (take_all c.edges.i c.args.listed.now past))
    (c.in_ok-push_copies.ensures
    ∙ (ap (λ n. c.edges.list ++ take n (drop (1 + 5 * c.len-count.result) c.args.values.now)) c.len.ensures.is
    ∙ ap (λ n. c.edges.list ++ take (length c.args.values.now) (drop (1 + 5 * n) c.args.values.now)) c.len-count.ensures))
