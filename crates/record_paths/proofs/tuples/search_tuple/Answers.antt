use Rattle.std.proofs.Common.{◌≡◌, ◌∙◌, rules, sym, Some, pos, length}
use mir.Syntax.{w64}
use mir.Val.{to_z, of_z}
use Rattle.brep_lists.specs.declared.entity_kind.EntityKind.TheVariants.{EdgeList as edges}
use Rattle.brep_walk.specs.Places.{HasRecordOf, IsIndex, told, tuple_at}
use Rattle.record_paths.specs.Searched.{Bears}
use Rattle.record_paths.proofs.Bearing.{path_on, none_on, on_hold, on_false}
use Rattle.record_paths.proofs.TupleNames.{not_true, moved, edge_owed, tuple_found, vertex_none, edge_none, edge_bad, edge_lost}
use Rattle.record_paths.proofs.tuples.search_tuple.Goals as goal

pub returns-then-names_tuple : goal.returns-then-names_tuple
returns-then-names_tuple c =
    let f = c.args.file.now in
    let t = c.args.tuple.now in
    let is : to_z w64 (of_z w64 c.list.result) ≡ t.list = search rules in
    path_on c.args.name (Some c.args.path) (tuple_at f (pos c.args.the_loop.0) c.args.item t)
    (tuple_found f c.args.the_loop.0 c.args.item c.args.name t _ is
    (λ kind index count curves. (c.names_tuple.ensures f kind index count curves).0 c.if-names_tuple.true))

pub returns-then-is_vertex : goal.returns-then-is_vertex
returns-then-is_vertex c =
    let f = c.args.file.now in
    let t = c.args.tuple.now in
    let is : to_z w64 (of_z w64 c.list.result) ≡ t.list = search rules in
    none_on c.args.name (Some c.args.path) (tuple_at f (pos c.args.the_loop.0) c.args.item t)
    (vertex_none f c.args.the_loop.0 c.args.item c.args.name t _ is (sym c.is_vertex.ensures ∙ c.if-is_vertex.true)
    (λ kind index count curves. not_true c.names_tuple.result (c.names_tuple.ensures f kind index count curves) c.if-names_tuple.false))

pub returns-in-Some-false : goal.returns-in-Some-false
returns-in-Some-false c =
    let f = c.args.file.now in
    let t = c.args.tuple.now in
    let l = c.args.the_loop.0 in
    let x = c.args.name in
    let is : to_z w64 (of_z w64 c.list.result) ≡ t.list = search rules in
    let is2 : to_z w64 (of_z w64 c.list-2.result) ≡ t.list = search rules in
    let at : to_z w64 (of_z w64 c.index.result) ≡ t.index = search rules in
    none_on x (Some c.args.path) (tuple_at f (pos l) c.args.item t)
    (edge_none f l c.args.item x t _ is (sym c.is_vertex.ensures ∙ c.if-is_vertex.false)
    (λ kind index count curves. not_true c.names_tuple.result (c.names_tuple.ensures f kind index count curves) c.if-names_tuple.false)
    (moved (λ list index. ¬ Bears (edge_owed f l c.args.item x list index) x) is2 at
    (not_true c.in-Some-false.field-0 c.in-Some-false.ensures.some c.in-Some-false.field-0-test)))

pub returns-in-None : goal.returns-in-None
returns-in-None c =
    let f = c.args.file.now in
    let t = c.args.tuple.now in
    let l = c.args.the_loop.0 in
    let x = c.args.name in
    let is : to_z w64 (of_z w64 c.list.result) ≡ t.list = search rules in
    let is2 : to_z w64 (of_z w64 c.list-2.result) ≡ t.list = search rules in
    let at : to_z w64 (of_z w64 c.index.result) ≡ t.index = search rules in
    let edge = sym c.is_vertex.ensures ∙ c.if-is_vertex.false in
    let bad = moved (λ list index. HasRecordOf edges f list → ¬ IsIndex index (length (told edges f list))) is2 at c.in-None.ensures.none in
    let owed = tuple_at f (pos l) c.args.item t in (
      (λ all. edge_bad f l c.args.item x t _ is edge bad (on_hold (Some c.args.path) owed all)),
      (λ first. edge_lost f l c.args.item x t _ is edge
          (λ kind index count curves. not_true c.names_tuple.result (c.names_tuple.ensures f kind index count curves) c.if-names_tuple.false) bad
          (on_false (Some c.args.path) owed x first)),
    )
