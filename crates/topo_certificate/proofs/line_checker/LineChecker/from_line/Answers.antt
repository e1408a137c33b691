use Rattle.std.proofs.Common.{refl}
use Rattle.topo_certificate.proofs.Checking.{begins, room_at_first}
use Rattle.topo_certificate.proofs.line_checker.LineChecker.from_line.Goals as goal

pub invariant_of-result : goal.invariant_of-result
invariant_of-result c = room_at_first c.args.version c.args.solid.now c.args.limit c.args.first c.in_ok-waiting.waiting.items
    c.recall_numbering.ensures.numbered c.requires.limit c.requires.few c.in_ok-waiting.ensures

pub returns-clause-begun : goal.returns-clause-begun
returns-clause-begun c = begins c.args.first _ refl refl refl refl refl c.in_ok-waiting.ensures
