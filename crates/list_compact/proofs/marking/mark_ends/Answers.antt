use Rattle.std.proofs.Common.{◌||◌, rules, SFits, w64, to_z, of_z}
use Rattle.std.proofs.lemmas.Int.{to_z-of_z}
use Rattle.list_compact.specs.Marking.{is_at}
use Rattle.list_compact.proofs.MarkSteps.{end_marks}
use Rattle.list_compact.proofs.marking.mark_ends.Goals as goal

pub returns-clause-marked : goal.returns-clause-marked
returns-clause-marked c used h =
    let x = c.args.edge.now in
    let f1 : SFits w64 c.args.edge.now.start_list = search rules in
    let f2 : SFits w64 c.args.edge.now.start_index = search rules in
    let f3 : SFits w64 c.args.edge.now.end_list = search rules in
    let f4 : SFits w64 c.args.edge.now.end_index = search rules in
    end_marks c.mark-2.new.self used c.args.edge.now (to_z w64 (of_z w64 c.args.edge.now.start_list)) (to_z w64 (of_z w64 c.args.edge.now.start_index))
    (to_z w64 (of_z w64 c.args.edge.now.end_list)) (to_z w64 (of_z w64 c.args.edge.now.end_index))
    (to_z-of_z w64 c.args.edge.now.start_list f1) (to_z-of_z w64 c.args.edge.now.start_index f2) (to_z-of_z w64 c.args.edge.now.end_list f3)
    (to_z-of_z w64 c.args.edge.now.end_index f4)
    (c.mark-2.ensures.marked (λ e j. used e j || is_at (to_z w64 (of_z w64 c.args.edge.now.start_list)) (to_z w64 (of_z w64 c.args.edge.now.start_index)) e j)
    (c.mark.ensures.marked used h))
