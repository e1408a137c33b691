use Rattle.std.proofs.Common.{◌≡◌, ◌+◌, ◌*◌, ◌++◌}
use Rattle.entry_references.specs.PlacesDue.{group_places}
use Rattle.entry_references.proofs.group_places.push_groups.Given as goal

abbrev pub invariant-groups : goal.invariant-groups
invariant-groups l = record {
  places : l.places ++ group_places l.at l.left l.size l.pointers ≡ l.fn.places ++ group_places l.first l.groups l.size l.pointers;
  end : l.at + l.left * l.size ≡ l.first + l.groups * l.size;
}

abbrev pub decreases-groups : goal.decreases-groups
decreases-groups l = l.left
