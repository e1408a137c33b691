use Rattle.std.proofs.Common.{◌∙◌, List, Option, ℕ, ap, length, sym}
use Rattle.solid_geometry.specs.Lines.{IsLineOf}
use Rattle.solid_geometry.proofs.CurveLemmas.{curves_are, zip_length}
use Rattle.solid_geometry.proofs.known.curves_known.Goals as goal

pub join-requires : goal.join-requires
join-requires c =
    ap (λ (xs : List ℕ). length xs) c.as_slice.ensures.value
    ∙ (c.in_ok-records.ensures.each
    ∙ (sym (zip_length (IsLineOf c.args.file.now c.lines_of.new.numbers.points c.lines_of.new.numbers.pairs) c.args.curves.now c.in_ok-lines.lines.items
    c.in_ok-lines.ensures.lines)
    ∙ sym (ap (λ (xs : List (Option ℕ)). length xs) c.as_slice-2.ensures.value)))

pub returns : goal.returns
returns c =
    curves_are c.args.file.now c.lines_of.new.numbers.points c.lines_of.new.numbers.pairs c.in_ok-lines.ensures.points c.in_ok-lines.ensures.pairs c.args.curves.now
    c.in_ok-records.records.items c.in_ok-lines.lines.items c.in_ok-known.known c.in_ok-records.ensures c.in_ok-lines.ensures.lines
    (c.in_ok-known.ensures.records ∙ c.as_slice.ensures.value) (c.in_ok-known.ensures.lines ∙ c.as_slice-2.ensures.value)
