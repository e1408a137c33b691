use Rattle.std.proofs.Common.{pos, subst}
use Rattle.std.proofs.lemmas.Int.{to_z-of_z}
use mir.Syntax.{w64}
use mir.Val.{to_z, of_z}
use Rattle.iges_params.specs.Limits.{FitsLimits}
use Rattle.solid_data.specs.Obligations.{AllHold, FirstFalse}
use Rattle.brep_walk.specs.Places.{entry_places}
use Rattle.brep_walk.proofs.Knowing.{entry_fails, of_kind, record_named, record_told, record_fails, record_few}
use Rattle.brep_walk.proofs.lists.Lists.record.Goals as goal

pub returns-in_err-named-clause-fault : goal.returns-in_err-named-clause-fault
returns-in_err-named-clause-fault g c =
    entry_fails g.R.Record.kind c.args.self.now (pos c.args.at.entity.0) c.args.at.item c.args.number _ (to_z-of_z w64 c.args.number c.ranges.number)
    c.from_residual.result _
    (subst (λ f. FirstFalse (entry_places f (pos c.args.at.entity.0) c.args.at.item g.R.Record.kind (to_z w64 (of_z w64 c.args.number)))
    c.in_err-named.field-0.0) c.self.view_is
    (subst (λ k. FirstFalse (entry_places c.self.inside.file.now (pos c.args.at.entity.0) c.args.at.item k (to_z w64 (of_z w64 c.args.number)))
    c.in_err-named.field-0.0) c.kind.ensures c.in_err-named.ensures.fails))
    c.from_residual.ensures.1

pub returns-in_err-record-clause-fault : goal.returns-in_err-record-clause-fault
returns-in_err-record-clause-fault g c =
    record_fails g.R.Record.kind c.args.self.now (pos c.args.at.entity.0) c.args.at.item c.args.number _ (to_z-of_z w64 c.args.number c.ranges.number)
    c.in_ok-named.named.no.0 c.in_ok-named.ensures.named.0
    (subst (λ f. AllHold (entry_places f (pos c.args.at.entity.0) c.args.at.item g.R.Record.kind (to_z w64 (of_z w64 c.args.number)))) c.self.view_is
    (subst (λ k. AllHold (entry_places c.self.inside.file.now (pos c.args.at.entity.0) c.args.at.item k (to_z w64 (of_z w64 c.args.number)))) c.kind.ensures
    c.in_ok-named.ensures.holds))
    c.from_residual-in_err-record.result _ c.in_err-record.ensures.fault c.from_residual-in_err-record.ensures.1

pub returns-clause-holds : goal.returns-clause-holds
returns-clause-holds g c =
    record_named g.R.Record.kind c.args.self.now (pos c.args.at.entity.0) c.args.at.item c.args.number _ (to_z-of_z w64 c.args.number c.ranges.number)
    c.in_ok-named.named.no.0 c.in_ok-named.ensures.named.0
    (subst (λ f. AllHold (entry_places f (pos c.args.at.entity.0) c.args.at.item g.R.Record.kind (to_z w64 (of_z w64 c.args.number)))) c.self.view_is
    (subst (λ k. AllHold (entry_places c.self.inside.file.now (pos c.args.at.entity.0) c.args.at.item k (to_z w64 (of_z w64 c.args.number)))) c.kind.ensures
    c.in_ok-named.ensures.holds))
    c.in_ok-record.ensures.holds

pub returns-clause-named : goal.returns-clause-named
returns-clause-named g c =
    record_told g.R.Record.kind c.args.self.now (pos c.args.at.entity.0) c.args.at.item c.args.number _ (to_z-of_z w64 c.args.number c.ranges.number)
    c.in_ok-named.named.no.0 c.in_ok-named.ensures.named.0
    (subst (λ f. AllHold (entry_places f (pos c.args.at.entity.0) c.args.at.item g.R.Record.kind (to_z w64 (of_z w64 c.args.number)))) c.self.view_is
    (subst (λ k. AllHold (entry_places c.self.inside.file.now (pos c.args.at.entity.0) c.args.at.item k (to_z w64 (of_z w64 c.args.number)))) c.kind.ensures
    c.in_ok-named.ensures.holds))
    (g.R.Record.items c.in_ok-record.record) c.in_ok-record.ensures.read

pub returns-clause-few : goal.returns-clause-few
returns-clause-few g c =
    record_few g.R.Record.kind c.args.self.now c.in_ok-named.named.no.0 (g.R.Record.items c.in_ok-record.record)
    (subst FitsLimits c.self.view_is c.in_ok-named.ensures.limits)
    (of_kind g.R.Record.kind c.args.self.now (pos c.args.at.entity.0) c.args.at.item c.args.number _ (to_z-of_z w64 c.args.number c.ranges.number)
    c.in_ok-named.named.no.0 c.in_ok-named.ensures.named.0
    (subst (λ f. AllHold (entry_places f (pos c.args.at.entity.0) c.args.at.item g.R.Record.kind (to_z w64 (of_z w64 c.args.number)))) c.self.view_is
    (subst (λ k. AllHold (entry_places c.self.inside.file.now (pos c.args.at.entity.0) c.args.at.item k (to_z w64 (of_z w64 c.args.number)))) c.kind.ensures
    c.in_ok-named.ensures.holds)))
    c.in_ok-record.ensures.holds c.in_ok-record.ensures.read
