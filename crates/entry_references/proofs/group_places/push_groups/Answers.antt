use Rattle.std.proofs.Common.{◌<◌, ◌+◌, ◌^◌, []}
use Rattle.brep_lists.proofs.Places.{one_less}
use Rattle.std.proofs.Common.{refl}
use Rattle.entry_references.proofs.KindPlaces.{next_group, group_room, all_fit}
use Rattle.entry_references.proofs.group_places.push_groups.Goals as goal

pub push_group-requires : goal.push_group-requires
push_group-requires c =
    let a = c.args in
    let room : c.groups.at + a.size < 2 ^ 64 = group_room c.groups.at c.groups.left a.size a.first a.groups c.groups-test.true c.groups.invariant.end
    c.requires.few in
    all_fit c.groups.at a.size a.pointers.now room c.requires.within

pub groups-preserved : goal.groups-preserved
groups-preserved c =
    let a = c.args in
    record {
      places = next_group c.groups.places c.push_group.new.places [] _ c.groups.at c.groups.left a.size a.pointers.now c.groups-test.true
          c.in_ok-push_group.ensures c.groups.invariant.places;
      end = one_less c.groups.left a.size c.groups.at (c.groups.at + a.size) _ c.groups-test.true refl c.groups.invariant.end;
    }
