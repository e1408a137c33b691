use Rattle.std.proofs.Common.{refl, ap, ◌∙◌, ◌++◌, get_or}
use Rattle.where_text.proofs.Steps.{flat_more}
use Rattle.where_unjudged.specs.Lines.{line_of_count, type_line}
use Rattle.where_unjudged.proofs.lines.put_types.Goals as goal

pub types-preserved : goal.types-preserved
types-preserved c = λ f are. flat_more (type_line f) c.args.types.now c.args.types.now c.types.i 0 (get_or c.args.types.now c.types.i 0) c.types.out
    c.put_count.new.out _ refl c.types-test.true refl (c.types.invariant f are)
    (c.in_ok-put_count.ensures ∙ ap (λ n. c.types.out ++ line_of_count n (get_or c.args.types.now c.types.i 0)) (c.count_of.ensures f are))
