use Rattle.std.proofs.Common.{ap, ◌∙◌, get_or, List}
use Rattle.record_numbers.specs.declared.marks.Mark.{Mark}
use Rattle.record_numbers.specs.declared.marks.Mark.TheVariants.{Unknown}
use Rattle.record_numbers.proofs.KeyMaps.{numbers_none}
use Rattle.record_numbers.proofs.MarkLemmas.{all_unknown, numbering_none}
use Rattle.record_numbers.proofs.numbering.numbering_of.Goals as goal

pub returns-clause-numbering : goal.returns-clause-numbering
returns-clause-numbering c =
    c.in_ok-number_all.ensures
    (numbering_none c.args.file.now c.in_ok-marks.marks.items c.new-keys.result
    (λ i. ap (λ (ms : List Mark). get_or ms i Unknown) (c.in_ok-marks.ensures.items_if_clones_equal (λ y h. h)) ∙ all_unknown _ i)
    (numbers_none c.new-keys.result c.new-keys.ensures.empty))
