use Rattle.std.proofs.Common.{rules, SFits, w64, to_z, of_z}
use Rattle.std.proofs.lemmas.Int.{to_z-of_z}
use Rattle.list_compact.proofs.ValueSteps.{pushed_edge}
use Rattle.list_compact.proofs.values.push_edge.Goals as goal

pub returns : goal.returns
returns c =
    let f1 : SFits w64 c.args.edge.now.curve = search rules in
    let f2 : SFits w64 c.args.edge.now.start_list = search rules in
    let f3 : SFits w64 c.args.edge.now.start_index = search rules in
    let f4 : SFits w64 c.args.edge.now.end_list = search rules in
    let f5 : SFits w64 c.args.edge.now.end_index = search rules in
    pushed_edge c.args.edge.now c.args.list.now c.push_int.new.list c.push_int-2.new.list c.push_int-3.new.list c.push_int-4.new.list c.push_int-5.new.list
    (to_z w64 (of_z w64 c.args.edge.now.curve)) (to_z w64 (of_z w64 c.args.edge.now.start_list)) (to_z w64 (of_z w64 c.args.edge.now.start_index))
    (to_z w64 (of_z w64 c.args.edge.now.end_list)) (to_z w64 (of_z w64 c.args.edge.now.end_index))
    (to_z-of_z w64 c.args.edge.now.curve f1) (to_z-of_z w64 c.args.edge.now.start_list f2) (to_z-of_z w64 c.args.edge.now.start_index f3)
    (to_z-of_z w64 c.args.edge.now.end_list f4) (to_z-of_z w64 c.args.edge.now.end_index f5)
    c.in_ok-push_int.ensures c.in_ok-push_int-2.ensures c.in_ok-push_int-3.ensures c.in_ok-push_int-4.ensures c.in_ok-push_int-5.ensures
