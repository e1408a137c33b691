use Rattle.std.proofs.Common.{◌≡◌, ◌++◌, [], map, flat_map, take, drop, pos}
use Rattle.solid_data.specs.Obligations.{after_each}
use Rattle.solid_data.proofs.ObligationLemmas.{Remains}
use Rattle.brep_walk.specs.Numbered.{IsMadeBy, face_tuples, keys_after}
use Rattle.brep_walk.specs.Places.{loops, numbers, face_places}
use Rattle.brep_walk.specs.SolidOf.{face_by}
use Rattle.brep_walk.specs.Stands.{Stands}
use Rattle.brep_walk.proofs.state.WalkState.walk_faces.Given as goal

abbrev pub invariant-faces : goal.invariant-faces
invariant-faces l =
    let f = l.fn.self.lists in
    record {
      stands : Stands f l.self.lists l.self.numbering;
      keys : keys_after f l.self.numbering.keys (flat_map (face_tuples f) (drop l.i l.listed))
          ≡ keys_after f l.fn.self.numbering.keys (flat_map (face_tuples f) l.listed);
      named : l.self.faces ≡ l.fn.self.faces ++ numbers (take l.i l.listed);
      loops : l.self.loops ≡ flat_map (loops f) l.self.faces;
      others : l.self.shells ≡ l.fn.self.shells;
      made : IsMadeBy l.self.numbering.keys (λ keys. map (face_by f keys) (take l.i l.listed)) l.faces;
      remains : Remains (after_each (face_places f (pos l.no.0) l.fn.self.faces) (take l.i l.listed) (drop l.i l.listed))
          (after_each (face_places f (pos l.no.0) l.fn.self.faces) [] l.listed);
    }
