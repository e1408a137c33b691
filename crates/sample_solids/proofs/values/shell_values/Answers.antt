use Rattle.std.proofs.Common.{◌∙◌, ◌∷◌, ◌++◌, [], ◌*◌, ap}
use Rattle.sample_solids.specs.Sample.{whole, face_listed}
use Rattle.sample_solids.proofs.Squares.{values_more, values_all}
use Rattle.sample_solids.proofs.values.shell_values.Goals as goal

pub squares-preserved : goal.squares-preserved
squares-preserved c =
    values_more (face_listed c.args.n) c.args.n c.squares.k (c.args.n * c.args.n) c.squares.values c.put.new.values c.requires.some c.squares-test.true
    c.squares.invariant
    (c.in_ok-put.ensures ∙ ap (λ m. c.squares.values ++ whole m ∷ whole 1 ∷ []) c.face_number.ensures.is)

pub returns : goal.returns
returns c = values_all (face_listed c.args.n) c.args.n c.squares.k (c.args.n * c.args.n) c.squares.values c.squares-test.false c.squares.invariant
