use Rattle.std.proofs.Common.{ap, ◌∙◌, rules, ℤ, pos, get_or}
use Rattle.std.proofs.lemmas.Int.{to_z-of_z}
use mir.Val.{SFits}
use mir.Syntax.{w64}
use Rattle.entry_references.specs.EntrySets.{Entries}
use Rattle.entry_references.proofs.FirstNumbers.{entry_more}
use Rattle.entry_references.proofs.adding.add_numbers.Goals as goal

pub numbers-preserved : goal.numbers-preserved
numbers-preserved c =
    let i = c.numbers.number-index in
    let z : ℤ = get_or c.as_slice-number-items.result.now i (pos 0) in
    let fits : SFits w64 z = search rules in
    record {
      size = ap (λ (s : Entries). s.size) c.in_ok-add_number.ensures.ok ∙ c.numbers.invariant.size;
      first =
          entry_more c.args.set.now c.numbers.set c.add_number.new.set c.as_slice-number-items.result.now c.args.numbers.now i _
          c.as_slice-number-items.ensures c.numbers-test.true (to_z-of_z w64 z fits) c.in_ok-add_number.ensures.ok
          c.numbers.invariant.first;
    }
