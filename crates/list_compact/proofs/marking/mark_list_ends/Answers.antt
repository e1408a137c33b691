use Rattle.std.proofs.Common.{◌∙◌, ◌≤◌, ◌<◌, ◌+◌, ◌||◌, ◌∷◌, [], sym, ap, take, length, arith}
use Rattle.std.specs.Prelude.{if◌then◌else◌}
use Rattle.std.specs.List.{list_any}
use Rattle.std.proofs.lemmas.List.{take_all}
use Rattle.list_compact.specs.Used.{has_end, used_from}
use Rattle.list_compact.proofs.MarkSteps.{used_next, more_named, named_as}
use Rattle.list_compact.proofs.marking.mark_list_ends.Goals as goal

pub edges-preserved : goal.edges-preserved
edges-preserved c =
    let inv = c.edges.invariant in
    let m = c.mark_used_ends.ensures in
    let lt : c.edges.i < length c.args.row.now = omega (arith, c.edges-test.true, c.len-count.ensures, c.requires) in
    record {
      marked = λ edge_used by_row used h. more_named has_end used c.mark_used_ends.new.vertices (used_from edge_used 1 (take c.edges.i c.args.listed.now))
          (if c.mark_at.result then c.unwrap-edge.result ∷ [] else []) (used_from edge_used 1 (take (c.edges.i + 1) c.args.listed.now))
          (used_next edge_used c.args.row.now c.edges.i c.mark_at.result c.args.listed.now c.unwrap-edge.result by_row lt c.mark_at.ensures
          (sym c.tuple.ensures ∙ c.unwrap-edge.ensures))
          (m.marked (λ v j. used v j || list_any (has_end v j) (used_from edge_used 1 (take c.edges.i c.args.listed.now)))
          (inv.marked edge_used by_row used h));
      sizes = m.sizes ∙ inv.sizes;
    }

pub returns-clause-marked : goal.returns-clause-marked
returns-clause-marked c edge_used by_row used h =
    let inv = c.edges.invariant in
    let past : length c.args.listed.now ≤ c.edges.i = omega (arith, c.edges-test.false, c.len-count.ensures) in
    named_as has_end used c.edges.vertices (used_from edge_used 1 (take c.edges.i c.args.listed.now)) (used_from edge_used 1 c.args.listed.now)
    (ap (used_from edge_used 1) (take_all c.edges.i c.args.listed.now past)) (inv.marked edge_used by_row used h)
