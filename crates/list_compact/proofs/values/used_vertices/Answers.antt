use Rattle.std.proofs.Common.{◌∙◌, ◌<◌, ◌≤◌, ◌+◌, ◌*◌, ◌∷◌, ◌++◌, [], pos, List, ap, take, drop, length, flat_map, arith}
use Rattle.std.proofs.lemmas.List.{take_all}
use Rattle.iges_fields.specs.declared.value.Value.{Value}
use Rattle.solid_data.proofs.Members.{get_some}
use Rattle.list_compact.specs.Marking.{vertex_spelled, int_value}
use Rattle.list_compact.specs.Used.{is_used_vertex, used_from}
use Rattle.list_compact.proofs.ListSteps.{items_more, vertices_used, vertex_room, vertex_or_none}
use Rattle.list_compact.proofs.values.used_vertices.Goals as goal

pub overflow_mul-i : goal.overflow_mul-i
overflow_mul-i c = omega
    (arith, c.vertices-test.true, c.len-count.ensures, vertex_room c.args.values.now c.args.listed.now c.requires.is c.requires.read c.requires.short)

pub overflow_add-i : goal.overflow_add-i
overflow_add-i c = omega
    (arith, c.vertices-test.true, c.len-count.ensures, vertex_room c.args.values.now c.args.listed.now c.requires.is c.requires.read c.requires.short)

pub vertices-preserved : goal.vertices-preserved
vertices-preserved c g e m =
    let lt : c.vertices.i < length c.args.row.now = omega (arith, c.vertices-test.true, c.len-count.ensures, c.requires.size) in
    let x = get_some c.args.listed.now c.vertices.i (omega (arith, c.vertices-test.true, c.len-count.ensures)) in
    items_more vertex_spelled (is_used_vertex g e) c.args.row.now c.vertices.i c.mark_at.result c.args.listed.now x.0 (int_value (pos c.args.used) ∷ [])
    c.vertices.list c.push_used_vertex.new.list m lt c.mark_at.ensures x.1 (c.vertices.invariant g e m)
    (c.in_ok-push_used_vertex.ensures ∙ ap (λ (xs : List Value). c.vertices.list ++ xs)
    (vertex_or_none c.args.values.now c.args.listed.now c.vertices.i c.mark_at.result x.0 c.requires.is c.requires.read x.1))

pub overflow_mul-count : goal.overflow_mul-count
overflow_mul-count c = omega (arith, c.len-count.ensures, vertex_room c.args.values.now c.args.listed.now c.requires.is c.requires.read c.requires.short)

pub overflow_add-count : goal.overflow_add-count
overflow_add-count c = omega (arith, c.len-count.ensures, vertex_room c.args.values.now c.args.listed.now c.requires.is c.requires.read c.requires.short)

pub returns : goal.returns
returns c g e m =
    let past : length c.args.listed.now ≤ c.vertices.i = omega (arith, c.vertices-test.false, c.len-count.ensures) in
    vertices_used g e c.args.values.now c.args.row.now c.args.listed.now c.args.used c.vertices.list c.push_copies.new.list c.requires.read c.requires.size m
    c.requires.used (λ z. omega (arith, z, c.requires.some))
    (c.vertices.invariant g e m
    ∙ ap (λ (xs : List (Value × Value × Value)). (int_value (pos c.args.used) ∷ []) ++ flat_map vertex_spelled (used_from (is_used_vertex g e) 1 xs))
    (take_all c.vertices.i c.args.listed.now past))
    (c.in_ok-push_copies.ensures
    ∙ (ap (λ n. c.vertices.list ++ take n (drop (1 + 3 * c.len-count.result) c.args.values.now)) c.len.ensures.is
    ∙ ap (λ n. c.vertices.list ++ take (length c.args.values.now) (drop (1 + 3 * n) c.args.values.now)) c.len-count.ensures))
