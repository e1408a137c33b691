use Rattle.std.proofs.Common.{arith, ap, length}
use Rattle.solid_data.proofs.Members.{get_some}
use Rattle.edge_uses.specs.ShellRows.{ShellRows}
use Rattle.cert_maker.specs.Certified.{AreItsRows}
use Rattle.cert_maker.proofs.Zipping.{agree_more, agree_done}
use Rattle.cert_maker.proofs.pairs.edge_pairs.Goals as goal

pub edges-preserved : goal.edges-preserved
edges-preserved c =
    let e = get_some c.args.paired.now.edges c.edges.i
    (omega (arith, c.edge_count-i-end.ensures, ap (λ (d : ShellRows). length d.edges) c.rows-rows.ensures.rows)) in
    agree_more (AreItsRows c.args.paired.now) c.args.paired.now.edges c.edges.i e.0 c.pair_of.result c.edges.pairs c.push.new.self e.1
    (c.pair_of.ensures e.0 e.1) c.in_ok-push.ensures.ok c.edges.invariant

pub returns : goal.returns
returns c =
    agree_done (AreItsRows c.args.paired.now) c.args.paired.now.edges c.edges.i c.edges.pairs
    (omega (arith, c.edge_count-i-end.ensures, ap (λ (d : ShellRows). length d.edges) c.rows-rows.ensures.rows)) c.edges.invariant
