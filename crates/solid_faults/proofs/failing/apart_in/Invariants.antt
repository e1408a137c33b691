use Rattle.std.proofs.Common.{◌≡◌, ◌≤◌, ◌+◌, drop, length}
use Rattle.solid_faults.specs.Parts.{apart_from, faces_apart}
use Rattle.solid_faults.proofs.failing.apart_in.Given as goal

abbrev pub invariant-faces : goal.invariant-faces
invariant-faces l = record {
  few : l.count ≤ l.i;
  counted : l.count + length (apart_from l.i (drop l.i l.firsts)) ≡ length (faces_apart l.firsts);
}
