use Rattle.std.proofs.Common.{◌≡◌, ◌++◌, drop, map, pos}
use Rattle.iges_base.specs.declared.entry_no.EntryNo.{EntryNo}
use Rattle.named_sizes.specs.Sizes.{capped, solid_size}
use Rattle.named_sizes.proofs.sizes.each_size.Given as goal

abbrev pub invariant-solids : goal.invariant-solids
invariant-solids l =
    l.sizes ++ map (λ (n : EntryNo). capped (solid_size l.file (pos n.0))) (drop l.i l.solids) ≡ map (λ (n : EntryNo). capped (solid_size l.file (pos n.0))) l.solids
