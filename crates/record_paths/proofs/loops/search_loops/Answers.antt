use Rattle.std.proofs.Common.{◌≡◌, ◌∙◌, ◌≤◌, [], sym, subst, rules, pos, slice_get, Some}
use mir.Syntax.{w64}
use mir.Val.{to_z, of_z}
use Rattle.record_paths.specs.Paths.{sited_after, loops_sited}
use Rattle.record_paths.proofs.PlaceSteps.{loop_none, loop_ends}
use Rattle.record_paths.proofs.SearchSteps.{handed_on, serves_next, serves_end, serves_done}
use Rattle.record_paths.proofs.loops.search_loops.Goals as goal

pub returns-in_err-search_loop : goal.returns-in_err-search_loop
returns-in_err-search_loop c used =
    let f = c.args.file.now in
    let g = loops_sited f c.args.path (pos c.args.face.0) used in
    let xs = c.args.listed.now.loops in
    let all = sited_after g [] xs in
    let z = c.unwrap-number.result in
    let at : slice_get xs c.loops.i ≡ Some z = sym c.item.ensures ∙ c.unwrap-number.ensures in
    let is : to_z w64 (of_z w64 z) ≡ z = search rules in
    let e = c.in_err-search_loop.field-0.0 in
    handed_on all c.args.name c.from_residual.result e
    (serves_end g xs c.loops.i z all c.args.name e at (c.loops.invariant used)
    (loop_ends f c.args.path (pos c.args.face.0) used xs c.loops.i z _ at is c.args.name e c.in_err-search_loop.ensures))
    c.from_residual.ensures.1

pub loops-preserved : goal.loops-preserved
loops-preserved c used =
    let f = c.args.file.now in
    let g = loops_sited f c.args.path (pos c.args.face.0) used in
    let xs = c.args.listed.now.loops in
    let z = c.unwrap-number.result in
    let at : slice_get xs c.loops.i ≡ Some z = sym c.item.ensures ∙ c.unwrap-number.ensures in
    let is : to_z w64 (of_z w64 z) ≡ z = search rules in
    serves_next g xs c.loops.i z (sited_after g [] xs) c.args.name at (c.loops.invariant used)
    (loop_none f c.args.path (pos c.args.face.0) used xs c.loops.i z _ at is c.args.name c.in_ok-search_loop.ensures)

pub returns : goal.returns
returns c used =
    let g = loops_sited c.args.file.now c.args.path (pos c.args.face.0) used in
    let xs = c.args.listed.now.loops in
    serves_done g xs c.loops.i (sited_after g [] xs) c.args.name (subst (λ n. n ≤ c.loops.i) c.len-i-end.ensures c.loops-test.false) (c.loops.invariant used)
