use Rattle.std.proofs.Common.{◌≡◌, refl, sym, subst, IfErr}
use Rattle.solid_data.specs.Obligations.{AllHold}
use Rattle.brep_walk.specs.OneShell.{shell_faces, shell_keys, shell_edges}
use Rattle.brep_walk.specs.OpenPlaces.{open_places}
use Rattle.brep_walk.specs.Walked.{IsFault}
use Rattle.brep_walk.proofs.ShellSolids.{no_shell_record, faces_fault, faces_hold_all, keys_whole, faces_whole, edges_whole}
use Rattle.brep_walk.proofs.shell_walking.numbered_faces.Goals as goal

pub returns-in_err-listed-clause-fault : goal.returns-in_err-listed-clause-fault
returns-in_err-listed-clause-fault c =
    subst (λ f. IfErr c.from_residual.result (IsFault (open_places f c.args.no.0))) c.file.ensures
    (no_shell_record c.file.result.now c.args.no.0 c.from_residual.result _ c.in_err-listed.ensures.fails c.from_residual.ensures.1)

pub returns-in_err-faces-clause-fault : goal.returns-in_err-faces-clause-fault
returns-in_err-faces-clause-fault c =
    subst (λ f. IfErr c.from_residual-in_err-faces.result (IsFault (open_places f c.args.no.0))) c.file.ensures
    (faces_fault c.file.result.now c.args.no.0 _ c.in_ok-listed.ensures.listed c.args.walk.now.lists (sym c.file.ensures) _ c.requires.faces
    c.from_residual-in_err-faces.result _ c.in_ok-listed.ensures.holds c.in_err-faces.ensures.fault c.from_residual-in_err-faces.ensures.1)

pub returns-clause-holds : goal.returns-clause-holds
returns-clause-holds c =
    subst (λ f. AllHold (open_places f c.args.no.0)) c.file.ensures
    (faces_hold_all c.file.result.now c.args.no.0 _ c.in_ok-listed.ensures.listed c.args.walk.now.lists (sym c.file.ensures) _ c.requires.faces
    c.in_ok-listed.ensures.holds c.in_ok-faces.ensures.holds)

pub returns-clause-keys : goal.returns-clause-keys
returns-clause-keys c =
    subst (λ f. c.walk_faces.new.self.numbering.keys ≡ shell_keys f c.args.no.0) c.file.ensures
    (keys_whole c.file.result.now c.args.no.0 _ c.in_ok-listed.ensures.listed c.args.walk.now.lists (sym c.file.ensures) _ _ c.requires.keys
    c.in_ok-faces.ensures.walks.keys)

pub returns-clause-faces : goal.returns-clause-faces
returns-clause-faces c =
    subst (λ f. c.in_ok-faces.faces ≡ shell_faces f c.args.no.0) c.file.ensures
    (faces_whole c.file.result.now c.args.no.0 _ c.in_ok-listed.ensures.listed c.args.walk.now.lists (sym c.file.ensures) _ _ c.requires.keys
    c.in_ok-faces.ensures.walks.keys _ c.in_ok-faces.ensures.made)

pub returns-clause-edges : goal.returns-clause-edges
returns-clause-edges c =
    subst (λ f. c.walk_faces.new.self.numbering.edges ≡ shell_edges f c.args.no.0) c.file.ensures
    (edges_whole c.file.result.now c.args.no.0 _ c.in_ok-listed.ensures.listed c.args.walk.now.lists (sym c.file.ensures) _ _ c.requires.keys
    c.in_ok-faces.ensures.walks.keys _ refl c.in_ok-faces.ensures.walks.stands.edges)
