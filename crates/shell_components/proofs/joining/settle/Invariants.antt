use Rattle.shell_components.specs.Trees.{AreRehung, AreSettled}
use Rattle.shell_components.proofs.joining.settle.Given as goal

abbrev pub invariant-nodes : goal.invariant-nodes
invariant-nodes l = record {
  rehung : AreRehung l.fn.labels.items l.labels.items;
  settled : AreSettled l.labels.items l.x;
}
