use Rattle.std.proofs.Common.{◌*◌}
use Rattle.sample_solids.specs.Sample.{vertex_listed}
use Rattle.sample_solids.proofs.Squares.{values_more, values_all}
use Rattle.sample_solids.proofs.values.vertex_values.Goals as goal

pub squares-preserved : goal.squares-preserved
squares-preserved c =
    values_more vertex_listed c.args.n c.squares.k (c.args.n * c.args.n) c.squares.values c.put.new.values c.requires.some c.squares-test.true
    c.squares.invariant c.in_ok-put.ensures

pub returns : goal.returns
returns c = values_all vertex_listed c.args.n c.squares.k (c.args.n * c.args.n) c.squares.values c.squares-test.false c.squares.invariant
