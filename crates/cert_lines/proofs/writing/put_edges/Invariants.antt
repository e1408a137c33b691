use Rattle.std.proofs.Common.{◌≡◌, drop, ◌++◌}
use Rattle.std.specs.Prelude.{flat_map}
use Rattle.cert_lines.specs.Line.{spelling}
use Rattle.cert_lines.specs.Written.{edge_line}
use Rattle.cert_lines.proofs.writing.put_edges.Given as goal

abbrev pub invariant-edges : goal.invariant-edges
invariant-edges l = l.out ++ flat_map (λ p. spelling (edge_line p)) (drop l.i l.edges) ≡ l.fn.out ++ flat_map (λ p. spelling (edge_line p)) l.edges
