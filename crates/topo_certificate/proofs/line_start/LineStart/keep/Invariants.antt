use Rattle.std.proofs.Common.{◌≡◌, ◌≤◌, ◌++◌, ◌-◌, length, take}
use Rattle.topo_certificate.proofs.line_start.LineStart.keep.Given as goal

abbrev pub invariant-bytes : goal.invariant-bytes
invariant-bytes l = record {
  within : l.i ≤ length l.bytes;
  kept : l.self ≡ l.fn.self ++ take l.i l.bytes;
  few : length l.self ≤ 64;
}

abbrev pub decreases-bytes : goal.decreases-bytes
decreases-bytes l = length l.bytes - l.i
