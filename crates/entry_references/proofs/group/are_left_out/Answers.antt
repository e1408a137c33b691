use Rattle.std.proofs.Common.{sym, ◌∙◌}
use Rattle.entry_references.specs.Refs.{is_left_out}
use Rattle.entry_references.proofs.Groups.{rest_failed, rest_passed}
use Rattle.entry_references.proofs.group.are_left_out.Goals as goal

pub returns-then-not-is_left_out : goal.returns-then-not-is_left_out
returns-then-not-is_left_out c = rest_failed is_left_out c.args.values.now c.values.i c.in-Some.value.now _ c.in-Some.ensures.value
    (sym c.is_left_out.ensures ∙ c.if-not-is_left_out.true) c.values.invariant

pub values-preserved : goal.values-preserved
values-preserved c = rest_passed is_left_out c.args.values.now c.values.i c.in-Some.value.now _ c.in-Some.ensures.value
    (sym c.is_left_out.ensures ∙ c.if-not-is_left_out.false) c.values.invariant
