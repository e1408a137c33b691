use Rattle.std.proofs.Common.{None, Some, ◌+◌, ◌*◌, ap, sym, ◌∙◌}
use Rattle.brep_lists.specs.declared.entity_kind.EntityKind.TheVariants.{EdgeList as edges}
use Rattle.record_values.specs.BadValue.{in_edge, in_edges}
use Rattle.record_values.proofs.Names.{told}
use Rattle.record_values.proofs.bad_values.in_edges.Goals as goal

pub returns-in_default-clause-is : goal.returns-in_default-clause-is
returns-in_default-clause-is c =
    c.no_value.ensures ∙ ap (in_edges c.args.file.now c.args.rule c.args.i)
    (told edges c.args.values.now None c.in_default.ensures.some c.in_default.ensures.read c.in_default.ensures.none)

pub returns-in-Some-tuple-clause-is : goal.returns-in-Some-tuple-clause-is
returns-in-Some-tuple-clause-is c =
    let f = c.args.file.now in
    let i = c.args.i in
    c.in_edge.ensures.is ∙ ap (in_edge f c.args.rule (1 + 5 * i)) (sym c.in-Some-tuple.is ∙ c.tuple.ensures)
    ∙ ap (in_edges f c.args.rule i) (told edges c.args.values.now (Some c.in-Some.list) c.in-Some.ensures.some c.in-Some.ensures.read c.in-Some.ensures.none)
