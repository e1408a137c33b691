use Rattle.std.proofs.Common.{arith}
use Rattle.shell_components.proofs.Joined.{rehung_on, labels_on, hung, hung_back}
use Rattle.shell_components.proofs.joining.join.Goals as goal

pub returns-then-top_a-top_b : goal.returns-then-top_a-top_b
returns-then-top_a-top_b c =
    hung_back c.args.labels.now.items c.hang.new.labels.items c.args.a c.args.b
    (hung c.args.labels.now.items c.top_of-top_b.new.labels.items c.hang.new.labels.items c.args.b c.args.a c.top_of-top_b.result c.top_of-top_a.result
    (rehung_on c.args.labels.now.items c.top_of-top_a.new.labels.items c.top_of-top_b.new.labels.items c.top_of-top_a.ensures.rehung
    c.top_of-top_b.ensures.rehung)
    c.top_of-top_b.ensures.top (omega (arith, c.top_of-top_b.ensures.low, c.requires.b_inside)) (omega (arith, c.if-top_a-top_b.true))
    c.top_of-top_b.ensures.one_tree
    (λ f even. c.top_of-top_a.ensures.one_tree f (c.top_of-top_b.ensures.rehung.kept f even))
    (λ pairs m. c.top_of-top_b.ensures.joined pairs (labels_on c.args.labels.now.items c.top_of-top_a.new.labels.items pairs c.top_of-top_a.ensures.rehung m))
    (λ pairs m. c.top_of-top_a.ensures.joined pairs m) c.hang.ensures)

pub returns-else-top_a-top_b : goal.returns-else-top_a-top_b
returns-else-top_a-top_b c =
    hung c.args.labels.now.items c.top_of-top_b.new.labels.items c.hang-else-top_a-top_b.new.labels.items c.args.a c.args.b c.top_of-top_a.result
    c.top_of-top_b.result
    (rehung_on c.args.labels.now.items c.top_of-top_a.new.labels.items c.top_of-top_b.new.labels.items c.top_of-top_a.ensures.rehung
    c.top_of-top_b.ensures.rehung)
    (c.top_of-top_b.ensures.tops c.top_of-top_a.result c.top_of-top_a.ensures.top) (omega (arith, c.top_of-top_a.ensures.low, c.requires.a_inside))
    (omega (arith, c.if-top_a-top_b.false))
    (λ f even. c.top_of-top_a.ensures.one_tree f (c.top_of-top_b.ensures.rehung.kept f even)) c.top_of-top_b.ensures.one_tree
    (λ pairs m. c.top_of-top_a.ensures.joined pairs m)
    (λ pairs m. c.top_of-top_b.ensures.joined pairs (labels_on c.args.labels.now.items c.top_of-top_a.new.labels.items pairs c.top_of-top_a.ensures.rehung m))
    c.hang-else-top_a-top_b.ensures
