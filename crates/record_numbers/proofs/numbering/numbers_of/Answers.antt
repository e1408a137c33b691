use Rattle.std.proofs.Common.{refl, subst, arith, rules, get_or, pos, w64, ℤ}
use mir.Val.{SFits}
use Rattle.std.proofs.lemmas.Int.{to_z-of_z}
use Rattle.std.specs.List.{AllZip}
use Rattle.std.proofs.lemmas.List.{take_all}
use Rattle.record_numbers.specs.Marked.{IsNumberOf}
use Rattle.record_numbers.proofs.Fairness.{are_fair, each_next, numbering_kept}
use Rattle.record_numbers.proofs.numbering.numbers_of.Goals as goal

pub entries-preserved : goal.entries-preserved
entries-preserved c =
    let old = c.entries.invariant.numbering.numbers in
    let fits : SFits w64 (get_or c.args.entries.now c.entries.number-index (pos 0)) = search rules in
    let keeps = c.in_ok-number_of.ensures.kept old in
    record {
      numbering = numbering_kept c.args.file.now c.args.marks.now c.entries.keys c.number_of.new.keys keeps (c.in_ok-number_of.ensures.numbers old)
          c.entries.invariant.numbering;
      each = each_next c.args.file.now c.args.marks.now c.entries.keys c.number_of.new.keys keeps c.args.entries.now c.entries.numbers.items c.push.new.self.items
          c.entries.number-index _ (get_or c.args.entries.now c.entries.number-index (pos 0)) c.entries-test.true refl c.entries.invariant.each
          (subst (λ (z : ℤ). IsNumberOf c.args.file.now c.args.marks.now c.number_of.new.keys z c.in_ok-number_of.field-0)
          (to_z-of_z w64 (get_or c.args.entries.now c.entries.number-index (pos 0)) fits) c.in_ok-number_of.ensures.number) c.in_ok-push.ensures.items;
    }

pub returns : goal.returns
returns c =
    are_fair c.args.file.now c.args.marks.now c.entries.keys c.entries.invariant.numbering c.requires.endless c.args.entries.now c.entries.numbers.items
    (subst (λ zs. AllZip (IsNumberOf c.args.file.now c.args.marks.now c.entries.keys) zs c.entries.numbers.items)
    (take_all c.entries.number-index c.args.entries.now (omega arith)) c.entries.invariant.each)
