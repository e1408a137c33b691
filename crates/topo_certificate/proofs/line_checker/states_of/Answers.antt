use Rattle.std.proofs.Common.{arith, ap, ◌-◌}
use Rattle.cert_state.proofs.UseSizes.{few_shells}
use Rattle.topo_certificate.proofs.Checking.{waits_none, waits_more, waits_all}
use Rattle.topo_certificate.proofs.line_checker.states_of.Goals as goal

pub overflow_cast-count : goal.overflow_cast-count
overflow_cast-count c = omega (arith, few_shells c.args.solid.now c.shell_count-count.ensures.numbered, c.shell_count-count.ensures)

pub shells-init : goal.shells-init
shells-init c = waits_none c.args.version c.args.solid.now c.in_ok-waiting.waiting.items c.in_ok-waiting.ensures.items

pub shells-preserved : goal.shells-preserved
shells-preserved c =
    waits_more c.args.version c.args.solid.now c.shells.k (c.shell_count-count.result - 1 - c.shells.k) c.shells.waiting.items c.push.new.self.items
    c.in_ok-state_of.field-0 c.shells.invariant (omega (arith, c.shells-test.true, c.shell_count-count.ensures))
    (ap (λ n. n - 1 - c.shells.k) c.shell_count-count.ensures.count) c.in_ok-state_of.ensures c.in_ok-push.ensures.items

pub returns : goal.returns
returns c = waits_all c.args.version c.args.solid.now c.shells.k c.shells.waiting.items c.shells.invariant
    (omega (arith, c.shells-test.false, c.shells.auto.k-end, c.shell_count-count.ensures))
