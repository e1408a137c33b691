use Rattle.std.proofs.Common.{◌≡◌, ◌∷◌, ◌∙◌, ◌≤◌, [], sym, subst, rules, pos, slice_get, Some}
use mir.Syntax.{w64}
use mir.Val.{to_z, of_z}
use Rattle.record_paths.specs.Paths.{sited_after, shells_sited}
use Rattle.record_paths.proofs.PlaceSteps.{shell_not, shell_ends}
use Rattle.record_paths.proofs.SearchSteps.{handed_on, serves_next, serves_end, serves_done}
use Rattle.record_paths.proofs.shells.search_shells.Goals as goal

pub returns-in_err-search_shell : goal.returns-in_err-search_shell
returns-in_err-search_shell c =
    let f = c.args.file.now in
    let g = shells_sited f c.args.path (pos c.args.solid.0) in
    let xs = (c.args.listed.now.outer ∷ c.args.listed.now.voids) in
    let all = sited_after g [] xs in
    let z = c.unwrap-number.result in
    let at : slice_get xs c.shells.i ≡ Some z = sym c.item.ensures ∙ c.unwrap-number.ensures in
    let is : to_z w64 (of_z w64 z.0) ≡ z.0 = search rules in
    let e = c.in_err-search_shell.field-0.0 in
    handed_on all c.args.name c.from_residual.result e
    (serves_end g xs c.shells.i z all c.args.name e at c.shells.invariant
    (shell_ends f c.args.path (pos c.args.solid.0) [] xs c.shells.i z _ at is c.args.name e c.in_err-search_shell.ensures))
    c.from_residual.ensures.1

pub shells-preserved : goal.shells-preserved
shells-preserved c =
    let f = c.args.file.now in
    let g = shells_sited f c.args.path (pos c.args.solid.0) in
    let xs = (c.args.listed.now.outer ∷ c.args.listed.now.voids) in
    let z = c.unwrap-number.result in
    let at : slice_get xs c.shells.i ≡ Some z = sym c.item.ensures ∙ c.unwrap-number.ensures in
    let is : to_z w64 (of_z w64 z.0) ≡ z.0 = search rules in
    serves_next g xs c.shells.i z (sited_after g [] xs) c.args.name at c.shells.invariant
    (shell_not f c.args.path (pos c.args.solid.0) [] xs c.shells.i z _ at is c.args.name c.in_ok-search_shell.ensures)

pub returns : goal.returns
returns c =
    let g = shells_sited c.args.file.now c.args.path (pos c.args.solid.0) in
    let xs = (c.args.listed.now.outer ∷ c.args.listed.now.voids) in
    serves_done g xs c.shells.i (sited_after g [] xs) c.args.name (subst (λ n. n ≤ c.shells.i) c.len-i-end.ensures c.shells-test.false) c.shells.invariant
