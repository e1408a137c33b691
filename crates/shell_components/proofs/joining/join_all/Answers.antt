use Rattle.std.proofs.Common.{ℕ, ◌<◌, arith, inl, length, subst, sym}
use Rattle.solid_data.proofs.Members.{has_get, All-at}
use Rattle.shell_components.specs.Components.{AreLabels}
use Rattle.shell_components.proofs.Joined.{all_joined, pair_joined}
use Rattle.shell_components.proofs.joining.join_all.Goals as goal

pub join-requires-clause-a_inside : goal.join-requires-clause-a_inside
join-requires-clause-a_inside c =
    let h = (All-at (λ (p : ℕ × ℕ). (p.0 < length c.args.labels.now.items) × (p.1 < length c.args.labels.now.items)) c.args.pairs.now c.requires.inside
    c.pair_at-pair.result (has_get c.args.pairs.now c.pairs.i c.pair_at-pair.result c.pair_at-pair.ensures)).0 in
    omega (arith, h, c.pairs.invariant.kept.each)

pub join-requires-clause-b_inside : goal.join-requires-clause-b_inside
join-requires-clause-b_inside c =
    let h = (All-at (λ (p : ℕ × ℕ). (p.0 < length c.args.labels.now.items) × (p.1 < length c.args.labels.now.items)) c.args.pairs.now c.requires.inside
    c.pair_at-pair.result (has_get c.args.pairs.now c.pairs.i c.pair_at-pair.result c.pair_at-pair.ensures)).1 in
    omega (arith, h, c.pairs.invariant.kept.each)

pub pairs-preserved : goal.pairs-preserved
pairs-preserved c = record {
  kept = subst (λ n. AreLabels c.args.pairs.now n c.join.new.labels.items) c.pairs.invariant.kept.each
      (c.join.ensures.labels c.args.pairs.now (inl (has_get c.args.pairs.now c.pairs.i c.pair_at-pair.result c.pair_at-pair.ensures))
      (subst (λ n. AreLabels c.args.pairs.now n c.pairs.labels.items) (sym c.pairs.invariant.kept.each) c.pairs.invariant.kept));
  one_tree = pair_joined c.args.pairs.now c.pairs.labels.items c.join.new.labels.items c.pairs.i c.pair_at-pair.result c.pair_at-pair.ensures
      c.join.ensures.one_tree c.join.ensures.kept c.pairs.invariant.one_tree;
}

pub returns-clause-one_tree : goal.returns-clause-one_tree
returns-clause-one_tree c = all_joined c.args.pairs.now c.pairs.labels.items c.pairs.i (omega (arith, c.pairs-test.false)) c.pairs.invariant.one_tree
