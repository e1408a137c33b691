use Rattle.std.proofs.Common.{◌≡◌, ◌++◌, [], map, flat_map, take, drop, pos}
use Rattle.solid_data.specs.Obligations.{after_each}
use Rattle.solid_data.proofs.ObligationLemmas.{Remains}
use Rattle.brep_walk.specs.Numbered.{IsMadeBy, keys_after}
use Rattle.brep_walk.specs.Places.{tuples, loop_places}
use Rattle.brep_walk.specs.SolidOf.{loop_by}
use Rattle.brep_walk.specs.Stands.{Stands}
use Rattle.brep_walk.proofs.state.WalkState.walk_loops.Given as goal

abbrev pub invariant-loops : goal.invariant-loops
invariant-loops l =
    let f = l.fn.self.lists in
    record {
      stands : Stands f l.self.lists l.self.numbering;
      keys : keys_after f l.self.numbering.keys (flat_map (tuples f) (drop l.i l.listed.loops))
          ≡ keys_after f l.fn.self.numbering.keys (flat_map (tuples f) l.listed.loops);
      named : l.self.loops ≡ l.fn.self.loops ++ take l.i l.listed.loops;
      others : (l.self.faces ≡ l.fn.self.faces) × (l.self.shells ≡ l.fn.self.shells);
      made : IsMadeBy l.self.numbering.keys (λ keys. map (loop_by f keys) (take l.i l.listed.loops)) l.loops;
      remains : Remains (after_each (loop_places f (pos l.no.0) l.fn.self.loops) (take l.i l.listed.loops) (drop l.i l.listed.loops))
          (after_each (loop_places f (pos l.no.0) l.fn.self.loops) [] l.listed.loops);
    }
