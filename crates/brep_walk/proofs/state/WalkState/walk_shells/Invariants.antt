use Rattle.std.proofs.Common.{◌≡◌, ◌∷◌, [], map, flat_map, take, drop, pos}
use Rattle.solid_data.specs.Obligations.{after_each}
use Rattle.solid_data.proofs.ObligationLemmas.{Remains}
use Rattle.brep_walk.specs.Numbered.{IsMadeBy, shell_tuples, keys_after}
use Rattle.brep_walk.specs.Places.{faces, loops, numbers, shell_places}
use Rattle.brep_walk.specs.SolidOf.{shell_by}
use Rattle.brep_walk.specs.Stands.{Stands}
use Rattle.brep_walk.proofs.state.WalkState.walk_shells.Given as goal

abbrev pub invariant-shells : goal.invariant-shells
invariant-shells l =
    let f = l.fn.self.lists in
    let all = l.listed.outer ∷ l.listed.voids in
    record {
      stands : Stands f l.self.lists l.self.numbering;
      keys : keys_after f l.self.numbering.keys (flat_map (shell_tuples f) (drop l.i all))
          ≡ keys_after f l.fn.self.numbering.keys (flat_map (shell_tuples f) all);
      named : l.self.shells ≡ numbers (take l.i all);
      faces : l.self.faces ≡ flat_map (λ shell. numbers (faces f shell)) l.self.shells;
      loops : l.self.loops ≡ flat_map (loops f) l.self.faces;
      made : IsMadeBy l.self.numbering.keys (λ keys. map (shell_by f keys) (take l.i all)) l.shells;
      remains : Remains (after_each (shell_places f (pos l.no.0)) (take l.i all) (drop l.i all)) (after_each (shell_places f (pos l.no.0)) [] all);
    }
