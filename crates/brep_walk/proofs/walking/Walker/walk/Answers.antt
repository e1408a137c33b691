use Rattle.std.proofs.Common.{◌≡◌, ◌∙◌, subst, Ok, Err, IfOk, IfErr, OnOk}
use Rattle.solid_data.specs.Obligations.{AllHold, FirstFalse}
use Rattle.brep_walk.specs.Places.{places}
use Rattle.brep_walk.specs.SolidOf.{solid_of}
use Rattle.brep_walk.specs.Walked.{IsFault, Gives}
use Rattle.brep_walk.proofs.Exactly.{only_solid, only_fault}
use Rattle.brep_walk.proofs.walking.Walker.walk.Goals as goal

pub returns-clause-file : goal.returns-clause-file
returns-clause-file c = c.walk_solid.ensures.file ∙ c.self.view_is

pub returns-clause-solid : goal.returns-clause-solid
returns-clause-solid c = subst (λ f. IfOk c.walk_solid.result (λ s. s ≡ solid_of f c.args.no.0)) c.self.view_is c.walk_solid.ensures.solid

pub returns-clause-holds : goal.returns-clause-holds
returns-clause-holds c = subst (λ f. OnOk c.walk_solid.result (AllHold (places f c.args.no.0))) c.self.view_is c.walk_solid.ensures.holds

pub returns-clause-fault : goal.returns-clause-fault
returns-clause-fault c = subst (λ f. IfErr c.walk_solid.result (IsFault (places f c.args.no.0))) c.self.view_is c.walk_solid.ensures.fault

pub returns-clause-only : goal.returns-clause-only
returns-clause-only c =
    let f = c.self.inside.walk.lists in
    subst (λ g. AllHold (places g c.args.no.0) → Gives c.walk_solid.result (Ok (solid_of g c.args.no.0))) c.self.view_is
    (λ all. only_solid (places f c.args.no.0) (solid_of f c.args.no.0) c.walk_solid.result c.walk_solid.ensures.solid c.walk_solid.ensures.fault all)

pub returns-clause-only_fault : goal.returns-clause-only_fault
returns-clause-only_fault c x h =
    let f = c.self.inside.walk.lists in
    subst (λ g. FirstFalse (places g c.args.no.0) x → Gives c.walk_solid.result (Err x)) c.self.view_is
    (λ first. only_fault (places f c.args.no.0) (solid_of f c.args.no.0) c.walk_solid.result c.walk_solid.ensures.holds c.walk_solid.ensures.fault x first) h
