use Rattle.std.proofs.Common.{◌≡◌, ◌++◌, [], length, map, pos}
use Rattle.solid_data.specs.Obligations.{after_each}
use Rattle.solid_data.proofs.ObligationLemmas.{Remains}
use Rattle.brep_walk.specs.Numbered.{IsMadeBy, keys_after}
use Rattle.brep_walk.specs.Places.{tuple_places}
use Rattle.brep_walk.specs.SolidOf.{use_by}
use Rattle.brep_walk.specs.Stands.{Stands}
use Rattle.brep_walk.proofs.state.WalkState.walk_tuples.Given as goal

abbrev pub invariant-tuples : goal.invariant-tuples
invariant-tuples l = record {
  count : l.item ≡ length l.yielded;
  left : l.yielded ++ l.tuple-iterator ≡ l.listed;
  stands : Stands l.fn.self.lists l.self.lists l.self.numbering;
  keys : keys_after l.fn.self.lists l.self.numbering.keys l.tuple-iterator ≡ keys_after l.fn.self.lists l.fn.self.numbering.keys l.listed;
  others : (l.self.loops ≡ l.fn.self.loops) × (l.self.faces ≡ l.fn.self.faces) × (l.self.shells ≡ l.fn.self.shells);
  made : IsMadeBy l.self.numbering.keys (λ keys. map (use_by keys) l.yielded) l.uses;
  remains : Remains (after_each (tuple_places l.fn.self.lists (pos l.no.0)) l.yielded l.tuple-iterator)
      (after_each (tuple_places l.fn.self.lists (pos l.no.0)) [] l.listed);
}
