use Rattle.std.proofs.Common.{◌*◌}
use Rattle.sample_solids.specs.Sample.{edges_listed}
use Rattle.sample_solids.proofs.Squares.{values_more, values_all}
use Rattle.sample_solids.proofs.values.edge_values.Goals as goal

pub squares-preserved : goal.squares-preserved
squares-preserved c =
    values_more (edges_listed c.args.n) c.args.n c.squares.k (2 * c.args.n * c.args.n) c.squares.values c.put_edges.new.values c.requires.some
    c.squares-test.true c.squares.invariant c.in_ok-put_edges.ensures

pub returns : goal.returns
returns c = values_all (edges_listed c.args.n) c.args.n c.squares.k (2 * c.args.n * c.args.n) c.squares.values c.squares-test.false c.squares.invariant
