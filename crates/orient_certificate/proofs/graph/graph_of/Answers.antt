use Rattle.std.proofs.Common.{rules, ◌≡◌, Some, slice_get}
use Rattle.orient_certificate.proofs.Answered.{graph_is, some_faces}
use Rattle.orient_certificate.proofs.graph.graph_of.Goals as goal

pub first_flag-requires : goal.first_flag-requires
first_flag-requires c =
    let at : slice_get c.args.solid.now.shells c.args.at.0 ≡ Some c.unwrap-shell.result.now = search rules in
    some_faces c.args.solid.now c.args.at.0 c.unwrap-shell.result.now c.recall_numbering.ensures.numbered at

pub returns-clause-graph : goal.returns-clause-graph
returns-clause-graph c =
    let at : slice_get c.args.solid.now.shells c.args.at.0 ≡ Some c.unwrap-shell.result.now = search rules in
    graph_is c.args.solid.now c.args.at.0 c.unwrap-shell.result.now c.in_ok-rows.rows c.in_ok-crossings.crossings.items c.face_count.result
    c.first_flag.result c.recall_numbering.ensures.numbered at c.in_ok-rows.ensures c.in_ok-crossings.ensures.kept c.in_ok-crossings.ensures.steps
    c.face_count.ensures c.first_flag.ensures
