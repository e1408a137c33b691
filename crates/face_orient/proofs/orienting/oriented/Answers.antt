use Rattle.std.proofs.Common.{rules, ◌≡◌, List, Some, subst, slice_get}
use Rattle.std.specs.List.{AllByRecursion}
use Rattle.solid_data.specs.Chain.{LeadsTo}
use Rattle.solid_data.specs.Obligations.{FirstNot}
use Rattle.solid_data.specs.Ring.{numbers_from}
use Rattle.edge_uses.proofs.Steps.{none_of}
use Rattle.orient_certificate.specs.declared.crossing.Crossing.{Crossing}
use Rattle.orient_certificate.specs.Crossings.{Meets}
use Rattle.orient_certificate.specs.Graph.{IsFound}
use Rattle.face_orient.proofs.Climbs.{all_known}
use Rattle.orient_certificate.proofs.Answered.{found_is, missed_face, reach_fails, reached_all}
use Rattle.face_orient.proofs.orienting.oriented.Goals as goal

pub unreached-requires : goal.unreached-requires
unreached-requires c =
    let at : slice_get c.args.solid.now.shells c.args.shell.0 ≡ Some c.unwrap-shell.result.now = search rules in
    let same : c.as_slice-crossings.result.now ≡ c.in_ok-graph.graph.crossings.items = c.as_slice-crossings.ensures.value in
    missed_face c.args.solid.now c.args.shell.0 c.unwrap-shell.result.now c.in_ok-graph.graph.crossings.items c.in_ok-graph.graph.faces
    c.in_ok-graph.graph.first c.in-Some.face.0 c.in_ok-graph.ensures.graph at
    (subst (λ (cs : List Crossing). FirstNot (LeadsTo (Meets cs) 0) (numbers_from 0 c.in_ok-graph.graph.faces) c.in-Some.face.0) same c.in-Some.ensures)

pub returns-in-Some-clause-fault : goal.returns-in-Some-clause-fault
returns-in-Some-clause-fault c =
    let at : slice_get c.args.solid.now.shells c.args.shell.0 ≡ Some c.unwrap-shell.result.now = search rules in
    let same : c.as_slice-crossings.result.now ≡ c.in_ok-graph.graph.crossings.items = c.as_slice-crossings.ensures.value in
    let miss : FirstNot (LeadsTo (Meets c.in_ok-graph.graph.crossings.items) 0) (numbers_from 0 c.in_ok-graph.graph.faces) c.in-Some.face.0 =
    subst (λ (cs : List Crossing). FirstNot (LeadsTo (Meets cs) 0) (numbers_from 0 c.in_ok-graph.graph.faces) c.in-Some.face.0) same c.in-Some.ensures in
    let f = missed_face c.args.solid.now c.args.shell.0 c.unwrap-shell.result.now c.in_ok-graph.graph.crossings.items c.in_ok-graph.graph.faces
    c.in_ok-graph.graph.first c.in-Some.face.0 c.in_ok-graph.ensures.graph at miss in
    reach_fails c.args.solid.now c.args.shell.0 c.unwrap-shell.result.now c.in_ok-graph.graph.crossings.items c.in_ok-graph.graph.faces
    c.in_ok-graph.graph.first c.in-Some.face.0 f.0 c.unreached.result c.in_ok-graph.ensures.graph at miss f.1 (c.unreached.ensures f.0 f.1)

pub found-requires-clause-all : goal.found-requires-clause-all
found-requires-clause-all c =
    all_known c.in_ok-graph.graph.faces c.as_slice-crossings.result.now c.in_ok-graph.graph.first c.in_ok-walk.walk.places.items
    c.in_ok-walk.walk.order.items c.in_ok-walk.ensures.walk c.in_ok-walk.ensures.done
    (none_of c.first_unreached.result _ _ c.in_default.not-Some c.first_unreached.ensures)

pub returns-clause-found : goal.returns-clause-found
returns-clause-found c =
    let same : c.as_slice-crossings.result.now ≡ c.in_ok-graph.graph.crossings.items = c.as_slice-crossings.ensures.value in
    found_is c.args.solid.now c.args.shell.0 c.in_ok-graph.graph.crossings.items c.in_ok-graph.graph.faces c.in_ok-graph.graph.first c.in_ok-found.field-0
    c.in_ok-graph.ensures.graph
    (subst (λ (cs : List Crossing). IsFound cs c.in_ok-graph.graph.faces c.in_ok-graph.graph.first c.in_ok-found.field-0) same c.in_ok-found.ensures)

pub returns-clause-reached : goal.returns-clause-reached
returns-clause-reached c =
    let same : c.as_slice-crossings.result.now ≡ c.in_ok-graph.graph.crossings.items = c.as_slice-crossings.ensures.value in
    let all : AllByRecursion (LeadsTo (Meets c.as_slice-crossings.result.now) 0) (numbers_from 0 c.in_ok-graph.graph.faces) =
    none_of c.first_unreached.result _ _ c.in_default.not-Some c.first_unreached.ensures in
    reached_all c.args.solid.now c.args.shell.0 c.in_ok-graph.graph.crossings.items c.in_ok-graph.graph.faces c.in_ok-graph.graph.first
    c.in_ok-graph.ensures.graph
    (subst (λ (cs : List Crossing). AllByRecursion (LeadsTo (Meets cs) 0) (numbers_from 0 c.in_ok-graph.graph.faces)) same all)
