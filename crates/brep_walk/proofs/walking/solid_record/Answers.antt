use Rattle.std.proofs.Common.{◌≡◌, IfOk, IfErr, OnOk, rules, pos, subst}
use mir.Syntax.{w64}
use mir.Val.{to_z, of_z}
use Rattle.brep_lists.specs.declared.entity_kind.EntityKind.TheVariants.{Solid as solid}
use Rattle.solid_data.specs.Obligations.{AllHold}
use Rattle.brep_walk.specs.Places.{told, record_places}
use Rattle.brep_walk.specs.Walked.{IsFault}
use Rattle.brep_walk.proofs.walking.solid_record.Goals as goal

pub returns-clause-holds : goal.returns-clause-holds
returns-clause-holds c =
    let is : to_z w64 (of_z w64 c.from.result) ≡ pos c.args.entity.0 = search rules in
    subst (λ z. OnOk c.record.result (AllHold (record_places c.args.lists.now (pos c.args.entity.0) 0 solid z))) is c.record.ensures.holds

pub returns-clause-named : goal.returns-clause-named
returns-clause-named c =
    let is : to_z w64 (of_z w64 c.from.result) ≡ pos c.args.entity.0 = search rules in
    subst (λ z. IfOk c.record.result (λ r. (z ≡ pos r.0.0) × (r.1 ≡ told solid c.args.lists.now z))) is c.record.ensures.named

pub returns-clause-fault : goal.returns-clause-fault
returns-clause-fault c =
    let is : to_z w64 (of_z w64 c.from.result) ≡ pos c.args.entity.0 = search rules in
    subst (λ z. IfErr c.record.result (IsFault (record_places c.args.lists.now (pos c.args.entity.0) 0 solid z))) is c.record.ensures.fault
