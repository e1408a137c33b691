-- Samples are closed.
use Rattle.std.specs.Prelude.{ℕ, ◌<◌}
use Rattle.std.proofs.Common.{arith}
use Rattle.solid_verdict.specs.Closed.{IsClosed}
use Rattle.cert_accept.proofs.Complete.{closed_is_accepted}
use Rattle.brep_walk.proofs.Few.{has_few_parts}
use Rattle.sample_solids.specs.Sample.{sample}
use Rattle.sample_solids.specs.Laws.{SamplesAreClosed, SamplesAreAccepted}
use Rattle.sample_solids.proofs.Sizes.{fits}
use Rattle.sample_solids.proofs.Made.{made}
use Rattle.sample_solids.proofs.Placed.{places_hold}
use Rattle.sample_solids.proofs.Rows.{solid_closed}
use Rattle.sample_solids.proofs.Counts.{face_number, edge_number, vertex_number}

is_closed : (n : ℕ) → 0 < n → IsClosed (sample n) 1
is_closed n some = record { placed = places_hold n some; closed = solid_closed n some }

pub closed : SamplesAreClosed
closed n low high =
    let some : 0 < n = omega (arith, low) in
    record { made = made n high; closed = is_closed n some; faces = face_number n; edges = edge_number n some; vertices = vertex_number n some }

pub accepted : SamplesAreAccepted
accepted n low high =
    let closed : IsClosed (sample n) 1 = is_closed n (omega (arith, low)) in
    closed_is_accepted (sample n) 1 (has_few_parts (sample n) 1 (fits n high) closed.placed) closed.placed closed.closed
