use Rattle.std.proofs.Common.{◌∙◌, ap}
use Rattle.std.specs.Prelude.{replicate}
use Rattle.solid_data.proofs.CellSteps.{blank_cells}
use Rattle.solid_data.proofs.cells.Cells.new.Goals as goal

pub returns-clause-cells : goal.returns-clause-cells
returns-clause-cells g c =
    blank_cells c.is_far-far.result c.args.numbers.now c.span_of-span.result c.args.blank c.in_ok-values.values.items
    (c.in_ok-values.ensures.items_if_clones_equal c.requires.clones ∙ ap (λ n. replicate n c.args.blank) c.value_count.ensures)
