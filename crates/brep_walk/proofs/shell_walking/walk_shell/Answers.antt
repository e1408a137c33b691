use Rattle.std.proofs.Common.{◌≡◌, subst, Ok, Err, IfOk, IfErr, OnOk}
use Rattle.solid_data.specs.Obligations.{AllHold, FirstFalse}
use Rattle.brep_walk.specs.OpenPlaces.{open_places, shell_solid_of}
use Rattle.brep_walk.specs.Walked.{IsFault, Gives}
use Rattle.brep_walk.proofs.Exactly.{only_solid, only_fault}
use Rattle.brep_walk.proofs.ShellSolids.{begins_itself}
use Rattle.brep_walk.proofs.shell_walking.walk_shell.Goals as goal

pub shell_solid-solid-requires : goal.shell_solid-solid-requires
shell_solid-solid-requires c = begins_itself c.args.file.now c.new-walk.result c.new-walk.ensures.begins

pub returns-clause-solid : goal.returns-clause-solid
returns-clause-solid c =
    subst (λ f. IfOk c.shell_solid-solid.result (λ s. s ≡ shell_solid_of f c.args.no.0)) c.new-walk.ensures.begins.stands.file c.shell_solid-solid.ensures.solid

pub returns-clause-holds : goal.returns-clause-holds
returns-clause-holds c =
    subst (λ f. OnOk c.shell_solid-solid.result (AllHold (open_places f c.args.no.0))) c.new-walk.ensures.begins.stands.file c.shell_solid-solid.ensures.holds

pub returns-clause-fault : goal.returns-clause-fault
returns-clause-fault c =
    subst (λ f. IfErr c.shell_solid-solid.result (IsFault (open_places f c.args.no.0))) c.new-walk.ensures.begins.stands.file c.shell_solid-solid.ensures.fault

pub returns-clause-only : goal.returns-clause-only
returns-clause-only c =
    subst (λ f. AllHold (open_places f c.args.no.0) → Gives c.shell_solid-solid.result (Ok (shell_solid_of f c.args.no.0))) c.new-walk.ensures.begins.stands.file
    (only_solid (open_places c.new-walk.result.lists c.args.no.0) (shell_solid_of c.new-walk.result.lists c.args.no.0) c.shell_solid-solid.result
    c.shell_solid-solid.ensures.solid c.shell_solid-solid.ensures.fault)

pub returns-clause-only_fault : goal.returns-clause-only_fault
returns-clause-only_fault c x =
    subst (λ f. FirstFalse (open_places f c.args.no.0) x → Gives c.shell_solid-solid.result (Err x)) c.new-walk.ensures.begins.stands.file
    (only_fault (open_places c.new-walk.result.lists c.args.no.0) (shell_solid_of c.new-walk.result.lists c.args.no.0) c.shell_solid-solid.result
    c.shell_solid-solid.ensures.holds c.shell_solid-solid.ensures.fault x)
