use Rattle.std.proofs.Common.{sym, ◌∙◌}
use Rattle.entry_references.specs.Layout.{is_pointer}
use Rattle.entry_references.proofs.Groups.{at_failed, at_passed}
use Rattle.entry_references.proofs.group.are_pointers.Goals as goal

pub returns-then-not-is_pointer : goal.returns-then-not-is_pointer
returns-then-not-is_pointer c =
    at_failed is_pointer c.args.values.now c.args.before c.args.count c.values.i c.in-Some.value.now _ c.values-test.true c.in-Some.ensures.value
    (sym c.is_pointer.ensures ∙ c.if-not-is_pointer.true) c.values.invariant

pub values-preserved : goal.values-preserved
values-preserved c =
    at_passed is_pointer c.args.values.now c.args.before c.args.count c.values.i c.in-Some.value.now _ c.values-test.true c.in-Some.ensures.value
    (sym c.is_pointer.ensures ∙ c.if-not-is_pointer.false) c.values.invariant
