use Rattle.std.proofs.Common.{leb, leb-true, rules}
use Rattle.std.proofs.lemmas.Bool.{leb-false}
use Rattle.std.proofs.lemmas.List.Sorted.{IsPartitionPoint-from_clause, IsPartitionedBy-leb}
use Rattle.shell_facts.specs.FaceTable.{shell_there}
use Rattle.shell_facts.proofs.faces.count_up_to.Goals as goal

pub returns-clause-point : goal.returns-clause-point
returns-clause-point c rise =
    let parted = IsPartitionedBy-leb (shell_there c.args.touches.now) c.args.places.now c.args.last rise in
    let point = IsPartitionPoint-from_clause (λ n. leb (shell_there c.args.touches.now n) c.args.last) _ _ c.partition_point.ensures.partitioned parted
    (λ a r q k. search rules) in
    (λ k d low high. leb-true _ _ (point.0 k d low high), λ k d low high. leb-false _ _ (point.1 k d low high))
