use Rattle.std.proofs.Common.{◌≡◌, ◌++◌, drop, map}
use Rattle.solid_data.specs.Ring.{place_of}
use Rattle.vertex_places.specs.Firsts.{AreFirsts, firsts_of, place_keys, same_key}
use Rattle.vertex_places.proofs.finding.vertex_places.Given as goal

abbrev pub invariant-vertices : goal.invariant-vertices
invariant-vertices l = record {
  firsts : AreFirsts (place_keys l.file l.vertices) l.i l.firsts;
  places : l.places.items ++ map (place_of same_key (place_keys l.file l.vertices)) (drop l.i (place_keys l.file l.vertices)) ≡ firsts_of (place_keys l.file l.vertices);
}
