use Rattle.std.proofs.Common.{None, Some, ◌≡◌, ◌+◌, ◌-◌, ◌*◌, ◌<◌, ap, sym, ◌∙◌, arith}
use Rattle.std.specs.Prelude.{sum_by}
use Rattle.std.proofs.lemmas.List.Sums.{sum_by-cons}
use Rattle.brep_lists.specs.declared.entity_kind.EntityKind.TheVariants.{Loop as «loop»}
use Rattle.record_values.specs.BadValue.{in_tuples, tuple_size}
use Rattle.record_values.proofs.Curves.{at_tuple, later_tuple, loop_room}
use Rattle.record_values.proofs.Names.{told}
use Rattle.record_values.proofs.bad_values.in_loop.Goals as goal

pub returns-in_default-clause-is : goal.returns-in_default-clause-is
returns-in_default-clause-is c =
    c.no_value.ensures ∙ ap (in_tuples c.args.file.now c.args.rule c.args.i)
    (told «loop» c.args.values.now None c.in_default.ensures.some c.in_default.ensures.read c.in_default.ensures.none)

pub tuples-init : goal.tuples-init
tuples-init c =
    let f = c.args.file.now in
    let vs = c.args.values.now in
    let ts = c.in-Some.record in
    let all : c.into_iter-tuple-iterator.result ≡ ts = cc (c.into_iter-tuple-iterator.ensures.into_iter_gives, c.tuples-tuple-items.ensures.is) in
    let sum = ap (sum_by tuple_size) all in
    let room = loop_room ts vs c.in-Some.ensures.some in
    let few = c.requires in
    record {
      same = ap (at_tuple f c.args.rule 1 c.args.i) all
          ∙ ap (in_tuples f c.args.rule c.args.i) (told «loop» vs (Some ts) c.in-Some.ensures.some c.in-Some.ensures.read c.in-Some.ensures.none);
      room = omega (arith, sum, room, few);
    }

pub tuples-preserved : goal.tuples-preserved
tuples-preserved c =
    let f = c.args.file.now in
    let r = c.args.rule in
    let at = c.tuples.at in
    let rest = c.next.new.self in
    let t = c.in-Some-tuple.tuple in
    let steps = c.in-Some-tuple.ensures.steps in
    let some : 0 < c.tuples.left = omega arith in
    let sum = ap (sum_by tuple_size) steps ∙ sum_by-cons tuple_size t rest in
    let curves = c.curve_count.ensures in
    let room = c.tuples.invariant.room in
    record {
      same =
          ap (λ n. at_tuple f r (at + (5 + 2 * n)) (c.tuples.left - 1) rest) curves
          ∙ sym (later_tuple f r at c.tuples.left c.tuples.tuple-iterator rest t steps some) ∙ c.tuples.invariant.same;
      room = omega (arith, sum, curves, room);
    }
