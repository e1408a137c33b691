use Rattle.std.proofs.Common.{◌≡◌, pos, rules}
use Rattle.std.proofs.lemmas.Int.{to_z-of_z}
use mir.Syntax.{w64}
use Rattle.record_paths.proofs.Layouts.{used_edge}
use Rattle.record_paths.proofs.edges.names_used_edge.Goals as goal

pub returns-clause-some : goal.returns-clause-some
returns-clause-some c =
    let at : c.args.index ≡ pos c.in-Ok.index = search rules in
    used_edge c.args.file.now c.args.list _ (to_z-of_z w64 c.args.list c.ranges.list) c.in-Some.no.0 c.in-Some.ensures.some.0 c.in-Some.values.now
    c.in-Some.ensures.some.1 c.args.index c.in-Ok.index at _ c.in-Some-edge_of.ensures.some
    c.args.name c.names_edge.result (c.names_edge.ensures c.args.file.now)
