use Rattle.std.proofs.Common.{◌≡◌, ◌++◌, decimal, drop, flat_map}
use Rattle.iges_base.specs.declared.entry_no.EntryNo.{EntryNo}
use Rattle.where_text.specs.Spelled.{space_word}
use Rattle.where_solids.proofs.hints.put_numbers.Given as goal

abbrev pub invariant-numbers : goal.invariant-numbers
invariant-numbers l = l.out ++ flat_map (λ (n : EntryNo). space_word (decimal n.0)) (drop l.i l.numbers) ≡ l.fn.out
    ++ flat_map (λ (n : EntryNo). space_word (decimal n.0)) l.numbers
