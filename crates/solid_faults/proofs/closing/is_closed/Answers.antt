use Rattle.std.proofs.Common.{rules, ◌<◌, ◌^◌, refl, arith, length}
use Rattle.solid_data.proofs.Members.{get_some, has_get}
use Rattle.solid_faults.proofs.Definite.{shell_holds, shell_fails, shells_done, faultless_holds, holds_faultless, few_shells}
use Rattle.solid_faults.proofs.SharedSteps.{none_below}
use Rattle.solid_faults.proofs.closing.is_closed.Goals as goal

pub shells-init : goal.shells-init
shells-init c = record { below = none_below c.args.solid.now; left = ((λ h. h), (λ h. h)) }

pub overflow_cast-at : goal.overflow_cast-at
overflow_cast-at c =
    let few = few_shells c.args.solid.now c.shell_count-k-end.ensures.numbered in
    let small : c.shells.k < 2 ^ 32 = omega (arith, few, c.shells-test.true, c.shell_count-k-end.ensures.count) in
    search (rules, small)

pub returns-then-not-is_empty : goal.returns-then-not-is_empty
returns-then-not-is_empty c =
    let h = get_some c.args.solid.now.shells c.shells.k (omega (arith, c.shells-test.true, c.shell_count-k-end.ensures.count)) in (
      (λ e. absurd cc),
      (λ closed. absurd (shell_fails c.args.solid.now c.shells.k h.0 h.1 c.shells.invariant.left
          (λ holds. let yes_empty =
          c.is_empty.ensures.1 (holds_faultless c.args.solid.now c.shells.k h.0 c.in_ok-faults.faults c.shell_count-k-end.ensures.numbered
          (has_get c.args.solid.now.shells c.shells.k h.0 h.1) (c.in_ok-faults.ensures h.0 h.1) holds) in
          let not_empty = c.if-not-is_empty.true in absurd cc) closed)),
    )

pub shells-preserved : goal.shells-preserved
shells-preserved c =
    let lt : c.shells.k < length c.args.solid.now.shells = omega (arith, c.shells-test.true, c.shell_count-k-end.ensures.count) in
    let h = get_some c.args.solid.now.shells c.shells.k lt in
    record {
      below = c.below_next-below.ensures c.args.solid.now c.shells.k c.shell_count-k-end.ensures.numbered lt c.shells.invariant.below c.in_ok-rows.ensures;
      left = shell_holds c.args.solid.now c.shells.k h.0 h.1 c.shells.invariant.left
          (faultless_holds c.args.solid.now c.shells.k h.0 c.in_ok-faults.faults c.shell_count-k-end.ensures.numbered
          (has_get c.args.solid.now.shells c.shells.k h.0 h.1) (c.in_ok-faults.ensures h.0 h.1) (c.is_empty.ensures.0 c.if-not-is_empty.false));
    }

pub returns : goal.returns
returns c = (
  (λ e. shells_done c.args.solid.now c.shells.k (omega (arith, c.shells-test.false, c.shell_count-k-end.ensures.count)) c.shells.invariant.left),
  (λ closed. refl),
)
