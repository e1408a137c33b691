use Rattle.std.proofs.Common.{◌≡◌, ap, pos, subst, rules}
use mir.Syntax.{w64}
use mir.Val.{to_z, of_z}
use Rattle.brep_numbering.specs.Keys.{Keys}
use Rattle.solid_data.specs.Obligations.{entry_number}
use Rattle.brep_walk.specs.NamedEdges.{IsNamedEdge}
use Rattle.brep_walk.specs.Places.{edge_at}
use Rattle.brep_walk.specs.SolidOf.{edge_key}
use Rattle.brep_walk.proofs.KnownEdges.{known_made, named_so}
use Rattle.brep_walk.proofs.Used.{edge_made, ends_fault}
use Rattle.brep_walk.proofs.state.WalkState.edge_use.Goals as goal

pub returns-in-Known-clause-made : goal.returns-in-Known-clause-made
returns-in-Known-clause-made c later more =
    let t = c.args.tuple.now in
    let keys = c.args.self.now.numbering.keys in
    let a : to_z w64 (of_z w64 c.list.result) ≡ c.args.tuple.now.list = search rules in
    let b : to_z w64 (of_z w64 c.index.result) ≡ c.args.tuple.now.index = search rules in
    known_made t c.requires.edge keys later c.in-Known.edge c.flag-along.result
    (subst (IsNamedEdge keys (edge_key t.«list» t.index) (edge_at c.args.self.now.lists t.«list» (entry_number t.index))) c.in-Known.is
    (named_so keys c.args.self.now.lists _ _ t.«list» t.index a b c.in_ok-edge.field-0 c.in_ok-edge.ensures.edge))
    c.flag-along.ensures more

pub returns-in_ok-edge-in-New-clause-made : goal.returns-in_ok-edge-in-New-clause-made
returns-in_ok-edge-in-New-clause-made c later more =
    let t = c.args.tuple.now in
    let keys = c.args.self.now.numbering.keys in
    let a : to_z w64 (of_z w64 c.list.result) ≡ c.args.tuple.now.list = search rules in
    let b : to_z w64 (of_z w64 c.index.result) ≡ c.args.tuple.now.index = search rules in
    let h = subst (IsNamedEdge keys (edge_key t.«list» t.index) (edge_at c.args.self.now.lists t.«list» (entry_number t.index))) c.in-New.is
    (named_so keys c.args.self.now.lists _ _ t.«list» t.index a b c.in_ok-edge.field-0 c.in_ok-edge.ensures.edge) in
    edge_made t c.requires.edge _ c.new_edge.new.self.numbering.keys later c.in-New.key c.in_ok-edge-in-New.edge c.flag-along.result
    h.1 (ap (λ (k : Keys). k.edges) c.in_ok-edge-in-New.ensures.keys) c.in_ok-edge-in-New.ensures.id c.flag-along.ensures more

pub returns-in_err-edge-in-New-clause-fault : goal.returns-in_err-edge-in-New-clause-fault
returns-in_err-edge-in-New-clause-fault c =
    let keys = c.args.self.now.numbering.keys in
    let a : to_z w64 (of_z w64 c.list.result) ≡ c.args.tuple.now.list = search rules in
    let b : to_z w64 (of_z w64 c.index.result) ≡ c.args.tuple.now.index = search rules in
    let h = subst (IsNamedEdge keys _ _) c.in-New.is c.in_ok-edge.ensures.edge in
    ends_fault c.from_residual-in_err-edge-in-New.result _ c.args.self.now.lists _ c.in_ok-edge.ensures.file (pos c.args.at.entity.0) c.args.at.item
    c.args.tuple.now.list c.args.tuple.now.index _ _ a b
    c.in-New.key c.in-New.ends h.1 h.2 c.in_ok-edge.ensures.holds c.in_err-edge-in-New.ensures.fault
    c.from_residual-in_err-edge-in-New.ensures.1
