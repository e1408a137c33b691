use Rattle.std.proofs.Common.{◌<◌, arith, length}
use Rattle.shell_components.proofs.Joined.{rehung_here, rehung_on, settled_more}
use Rattle.shell_components.proofs.joining.settle.Goals as goal

pub nodes-init : goal.nodes-init
nodes-init c = record { rehung = rehung_here c.args.labels.now.items c.requires.trees; settled = λ x lt. absurd (omega (arith, lt)) }

pub nodes-preserved : goal.nodes-preserved
nodes-preserved c =
    let inside : c.nodes.x < length c.nodes.labels.items = omega (arith, c.nodes-test.true, c.len-x-end.ensures, c.nodes.invariant.rehung.each) in
    record {
      rehung = rehung_on c.args.labels.now.items c.nodes.labels.items c.climb.new.labels.items c.nodes.invariant.rehung c.climb.ensures.rehung;
      settled = settled_more c.nodes.labels.items c.climb.new.labels.items c.nodes.x c.climb.result c.nodes.invariant.rehung.low inside
          c.nodes.invariant.settled c.climb.ensures.label c.climb.ensures.set;
    }
