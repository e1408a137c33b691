use Rattle.std.proofs.Common.{◌≡◌, ◌∙◌, ◌≤◌, [], sym, subst, rules, pos, slice_get, Some}
use mir.Syntax.{w64}
use mir.Val.{to_z, of_z}
use Rattle.record_paths.specs.Paths.{sited_after, faces_sited}
use Rattle.record_paths.proofs.PlaceSteps.{face_not, face_ends}
use Rattle.record_paths.proofs.SearchSteps.{handed_on, serves_next, serves_end, serves_done}
use Rattle.record_paths.proofs.faces.search_faces.Goals as goal

pub returns-in_err-search_face : goal.returns-in_err-search_face
returns-in_err-search_face c used =
    let f = c.args.file.now in
    let g = faces_sited f c.args.path (pos c.args.shell.0) used in
    let xs = c.args.listed.now in
    let all = sited_after g [] xs in
    let z = c.unwrap-number.result in
    let at : slice_get xs c.faces.i ≡ Some z = sym c.item.ensures ∙ c.unwrap-number.ensures in
    let is : to_z w64 (of_z w64 z.0) ≡ z.0 = search rules in
    let e = c.in_err-search_face.field-0.0 in
    handed_on all c.args.name c.from_residual.result e
    (serves_end g xs c.faces.i z all c.args.name e at (c.faces.invariant used)
    (face_ends f c.args.path (pos c.args.shell.0) used xs c.faces.i z _ at is c.args.name e c.in_err-search_face.ensures))
    c.from_residual.ensures.1

pub faces-preserved : goal.faces-preserved
faces-preserved c used =
    let f = c.args.file.now in
    let g = faces_sited f c.args.path (pos c.args.shell.0) used in
    let xs = c.args.listed.now in
    let z = c.unwrap-number.result in
    let at : slice_get xs c.faces.i ≡ Some z = sym c.item.ensures ∙ c.unwrap-number.ensures in
    let is : to_z w64 (of_z w64 z.0) ≡ z.0 = search rules in
    serves_next g xs c.faces.i z (sited_after g [] xs) c.args.name at (c.faces.invariant used)
    (face_not f c.args.path (pos c.args.shell.0) used xs c.faces.i z _ at is c.args.name c.in_ok-search_face.ensures)

pub returns : goal.returns
returns c used =
    let g = faces_sited c.args.file.now c.args.path (pos c.args.shell.0) used in
    let xs = c.args.listed.now in
    serves_done g xs c.faces.i (sited_after g [] xs) c.args.name (subst (λ n. n ≤ c.faces.i) c.len-i-end.ensures c.faces-test.false) (c.faces.invariant used)
