use Rattle.std.proofs.Common.{refl, ◌∙◌}
use Rattle.brep_walk.proofs.WholeSolid.{no_solid, shells_fault, shells_hold, keys_whole, shells_whole, edges_whole}
use Rattle.brep_walk.proofs.walking.numbered_shells.Goals as goal

pub returns-in_err-entity-clause-fault : goal.returns-in_err-entity-clause-fault
returns-in_err-entity-clause-fault c =
    no_solid c.args.walk.now.lists c.args.no.0 _ refl c.from_residual.result _ c.in_err-entity.ensures.fault c.from_residual.ensures.1

pub returns-in_err-shells-clause-fault : goal.returns-in_err-shells-clause-fault
returns-in_err-shells-clause-fault c =
    shells_fault c.args.walk.now.lists c.args.no.0 _ refl c.in_ok-entity.listed c.in_ok-entity.ensures.named.1 _
    (c.restart.ensures.begins.stands.file ∙ c.in_ok-entity.ensures.file) c.in_ok-entity.entity.0 c.in_ok-entity.ensures.named.0
    c.from_residual-in_err-shells.result _ c.in_ok-entity.ensures.holds c.in_err-shells.ensures.fault c.from_residual-in_err-shells.ensures.1

pub returns-clause-holds : goal.returns-clause-holds
returns-clause-holds c =
    shells_hold c.args.walk.now.lists c.args.no.0 _ refl c.in_ok-entity.listed c.in_ok-entity.ensures.named.1 _
    (c.restart.ensures.begins.stands.file ∙ c.in_ok-entity.ensures.file) c.in_ok-entity.entity.0 c.in_ok-entity.ensures.named.0
    c.in_ok-entity.ensures.holds c.in_ok-shells.ensures.holds

pub returns-clause-keys : goal.returns-clause-keys
returns-clause-keys c =
    keys_whole c.args.walk.now.lists c.args.no.0 _ refl c.in_ok-entity.listed c.in_ok-entity.ensures.named.1 _
    (c.restart.ensures.begins.stands.file ∙ c.in_ok-entity.ensures.file) c.in_ok-entity.entity.0 c.in_ok-entity.ensures.named.0
    _ _ c.restart.ensures.begins.keys c.in_ok-shells.ensures.walks.keys

pub returns-clause-shells : goal.returns-clause-shells
returns-clause-shells c =
    shells_whole c.args.walk.now.lists c.args.no.0 _ refl c.in_ok-entity.listed c.in_ok-entity.ensures.named.1 _
    (c.restart.ensures.begins.stands.file ∙ c.in_ok-entity.ensures.file) c.in_ok-entity.entity.0 c.in_ok-entity.ensures.named.0
    _ _ c.restart.ensures.begins.keys c.in_ok-shells.ensures.walks.keys c.in_ok-shells.shells c.in_ok-shells.ensures.made

pub returns-clause-edges : goal.returns-clause-edges
returns-clause-edges c =
    edges_whole c.args.walk.now.lists c.args.no.0 _ refl c.in_ok-entity.listed c.in_ok-entity.ensures.named.1 _
    (c.restart.ensures.begins.stands.file ∙ c.in_ok-entity.ensures.file) c.in_ok-entity.entity.0 c.in_ok-entity.ensures.named.0
    _ _ c.restart.ensures.begins.keys c.in_ok-shells.ensures.walks.keys _ refl c.in_ok-shells.ensures.walks.stands.edges
