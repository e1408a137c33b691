use Rattle.std.specs.Prelude.{ℤ, List}
use Rattle.std.proofs.Common.{◌∙◌, sym, ap}
use Rattle.changed_file.specs.Emptied.{emptied}
use Rattle.changed_file.proofs.EntrySteps.{emptied_none, none_of}
use Rattle.changed_file.proofs.emptying.emptied.Goals as goal

pub returns-then-is_empty : goal.returns-then-is_empty
returns-then-is_empty c =
    emptied_none c.args.file ∙ ap (λ (ns : List ℤ). emptied ns c.args.file) (sym (none_of c.args.numbers.now c.is_empty.result c.is_empty.ensures c.if-is_empty.true))
