use Rattle.std.proofs.Common.{ap}
use Rattle.std.specs.Prelude.{option_copied}
use Rattle.iges_params.proofs.Behind.{head_after, behind_in_line, behind_length}
use Rattle.iges_params.proofs.GlobalExact.{permitted}
use Rattle.iges_params.proofs.global_pass.head_values.Goals as goal

pub passage_values-requires-clause-permitted : goal.passage_values-requires-clause-permitted
passage_values-requires-clause-permitted c = permitted c.args.text.now _ c.requires.front

pub passage_values-requires-clause-in_line : goal.passage_values-requires-clause-in_line
passage_values-requires-clause-in_line c = behind_in_line _ _
    (head_after c.args.text.now _ _ c.requires.front (ap (λ o. option_copied o) c.in-Some.is)) c.requires.in_line

pub passage_values-requires-clause-end : goal.passage_values-requires-clause-end
passage_values-requires-clause-end c = behind_length _ _ (head_after c.args.text.now _ _ c.requires.front (ap (λ o. option_copied o) c.in-Some.is))
