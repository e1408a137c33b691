use Rattle.std.proofs.Common.{◌∙◌, rules, SFits, w64, to_z, of_z}
use Rattle.std.proofs.lemmas.Int.{to_z-of_z}
use Rattle.entry_references.proofs.KindPlaces.{next_end, tuple_room}
use Rattle.list_compact.proofs.ValueSteps.{next_meets, next_tuple_values, loop_room}
use Rattle.list_compact.proofs.values.loop_values.Goals as goal

pub push_tuple-requires : goal.push_tuple-requires
push_tuple-requires c =
    tuple_room c.tuples.at _ c.in-Some.tuple c.tuples.tuple-iterator c.next.new.self c.in-Some.ensures.steps c.tuples.invariant.end
    (loop_room c.args.values.now c.args.listed.now c.requires.is c.requires.read c.requires.short)

pub tuples-preserved : goal.tuples-preserved
tuples-preserved c =
    let inv = c.tuples.invariant in
    let fits : SFits w64 c.tuple_index-index.result = search rules in
    record {
      list = λ g t. next_tuple_values g c.in-Some.tuple c.next.new.self c.tuples.tuple-iterator c.args.values.now c.tuples.at c.in_ok-at.at
          c.in-Some.ensures.steps c.in_ok-at.ensures.end inv.meets (to_z w64 (of_z w64 c.tuple_index-index.result)) c.tuples.list c.push_tuple.new.list _
          (to_z-of_z w64 c.tuple_index-index.result fits ∙ c.tuple_index-index.ensures g t) c.in_ok-at.ensures.list (inv.list g t);
      meets = next_meets c.in-Some.tuple c.next.new.self c.tuples.tuple-iterator c.args.values.now c.tuples.at c.in_ok-at.at c.in-Some.ensures.steps
          c.in_ok-at.ensures.end inv.meets;
      end = next_end c.tuples.at c.in_ok-at.at _ c.in-Some.tuple c.tuples.tuple-iterator c.next.new.self c.in-Some.ensures.steps c.in_ok-at.ensures.end inv.end;
    }
