use Rattle.std.proofs.Common.{◌∙◌, ap}
use Rattle.std.specs.List.{list_any}
use Rattle.line_layout.proofs.Shuffled.{is_held_so, one_missing, one_more}
use Rattle.line_layout.proofs.strays.are_shuffled.Goals as goal

pub returns-then-not-is_among : goal.returns-then-not-is_among
returns-then-not-is_among c =
    one_missing c.args.strays.now c.strays.i _ c.strays-test.true c.strays.invariant c.is_among.result
    (c.is_among.ensures ∙ ap (list_any _) c.as_slice.ensures.value
    ∙ is_held_so c.args.strays.now c.in_ok-numbers.numbers.items c.sort_unstable.new.self.items _ c.in_ok-numbers.ensures c.sort_unstable.ensures.permutation)
    c.if-not-is_among.true

pub strays-preserved : goal.strays-preserved
strays-preserved c =
    one_more c.args.strays.now c.strays.i _ c.strays-test.true c.strays.invariant c.is_among.result
    (c.is_among.ensures ∙ ap (list_any _) c.as_slice.ensures.value
    ∙ is_held_so c.args.strays.now c.in_ok-numbers.numbers.items c.sort_unstable.new.self.items _ c.in_ok-numbers.ensures c.sort_unstable.ensures.permutation)
    c.if-not-is_among.false
