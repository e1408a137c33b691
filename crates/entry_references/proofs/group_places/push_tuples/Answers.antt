use Rattle.entry_references.proofs.KindPlaces.{next_tuple, next_end, tuple_room}
use Rattle.entry_references.proofs.group_places.push_tuples.Goals as goal

pub push_tuple-requires : goal.push_tuple-requires
push_tuple-requires c = tuple_room c.tuples.at _ c.in-Some.tuple c.tuples.tuple-iterator c.next.new.self c.in-Some.ensures.steps c.tuples.invariant.end
    c.requires

pub tuples-preserved : goal.tuples-preserved
tuples-preserved c = record {
  places = next_tuple c.tuples.places c.push_tuple.new.places _ c.tuples.at c.in_ok-at.at c.in-Some.tuple c.tuples.tuple-iterator c.next.new.self
      c.in-Some.ensures.steps c.in_ok-at.ensures.places c.in_ok-at.ensures.end
      c.tuples.invariant.places;
  end = next_end c.tuples.at c.in_ok-at.at _ c.in-Some.tuple c.tuples.tuple-iterator c.next.new.self c.in-Some.ensures.steps c.in_ok-at.ensures.end
      c.tuples.invariant.end;
}
