use Rattle.std.proofs.Common.{◌≡◌, drop, ◌++◌}
use Rattle.std.specs.Prelude.{flat_map}
use Rattle.cert_lines.specs.Written.{solid_lines, text_of}
use Rattle.cert_lines.proofs.writing.put_solids.Given as goal

abbrev pub invariant-parts : goal.invariant-parts
invariant-parts l = l.out ++ flat_map (λ c. text_of (solid_lines c)) (drop l.i l.parts) ≡ l.fn.out ++ flat_map (λ c. text_of (solid_lines c)) l.parts
