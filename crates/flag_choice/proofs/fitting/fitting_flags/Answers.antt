use Rattle.std.proofs.lemmas.List.{length-append}
use Rattle.std.proofs.Common.{◌<◌, ◌∷◌, [], ap, length, arith}
use Rattle.flag_choice.specs.Suiting.{FlagsSuit}
use Rattle.flag_choice.proofs.FewShells.{few_shells}
use Rattle.flag_choice.proofs.Suiting.{more_suit, none_suit}
use Rattle.flag_choice.proofs.fitting.fitting_flags.Goals as goal

pub overflow_cast-k : goal.overflow_cast-k
overflow_cast-k c =
    let few : length c.args.solid.now.shells < 536870912 = few_shells c.args.solid.now c.shell_count-k-end.ensures.numbered in
    omega (arith, few, c.shell_count-k-end.ensures.count, c.shells-test.true)

pub returns-in_default-clause-none : goal.returns-in_default-clause-none
returns-in_default-clause-none c lists =
    let lt : c.shells.k < length c.args.solid.now.shells = omega (arith, c.shell_count-k-end.ensures.count, c.shells-test.true) in
    none_suit c.args.solid.now c.shells.k lt (rw c.in_default.is at c.in_ok-flags.ensures.none) lists

pub shells-preserved : goal.shells-preserved
shells-preserved c =
    let suit : FlagsSuit c.args.solid.now c.shells.k c.in-Some.flags = rw c.in-Some.is at c.in_ok-flags.ensures.found in
    let put = c.in_ok-push.ensures.ok in
    record {
      each = omega (arith, ap length put, length-append c.shells.lists (c.in-Some.flags ∷ []), c.shells.invariant.each);
      suit = more_suit c.args.solid.now c.shells.lists c.push.new.self c.in-Some.flags c.shells.k c.shells.invariant.each c.shells.invariant.suit suit put;
    }
