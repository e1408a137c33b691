use Rattle.std.proofs.Common.{refl}
use Rattle.cert_state.specs.Progress.{FitsLine}
use Rattle.topo_certificate.specs.Legal.{FitsPart}
use Rattle.topo_certificate.proofs.FedLines.{stands_first, fed_first}
use Rattle.topo_certificate.proofs.checker.Checker.from_line.Goals as goal

pub returns-clause-fed : goal.returns-clause-fed
returns-clause-fed c =
    fed_first c.args.version c.args.solid.now FitsLine c.args.first _
    (stands_first c.args.version c.args.solid.now FitsLine c.args.first _ c.in_ok-checker.ensures.version c.in_ok-checker.ensures.solid refl
    c.in_ok-kept.ensures.items c.in_ok-checker.ensures.begun)

pub returns-clause-fed_part : goal.returns-clause-fed_part
returns-clause-fed_part c =
    fed_first c.args.version c.args.solid.now FitsPart c.args.first _
    (stands_first c.args.version c.args.solid.now FitsPart c.args.first _ c.in_ok-checker.ensures.version c.in_ok-checker.ensures.solid refl
    c.in_ok-kept.ensures.items c.in_ok-checker.ensures.begun)
