use Rattle.std.proofs.Common.{◌≡◌, drop, ◌++◌}
use Rattle.std.specs.Prelude.{flat_map}
use Rattle.open_certificate.specs.Line.{spelling}
use Rattle.open_certificate.specs.Written.{edge_line}
use Rattle.open_certificate.proofs.writing.put_edges.Given as goal

abbrev pub invariant-edges : goal.invariant-edges
invariant-edges l = l.out ++ flat_map (λ e. spelling (edge_line e)) (drop l.i l.edges) ≡ l.fn.out ++ flat_map (λ e. spelling (edge_line e)) l.edges
