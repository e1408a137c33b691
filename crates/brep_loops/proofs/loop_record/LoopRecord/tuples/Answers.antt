use Rattle.std.proofs.Common.{◌<◌, ◌^◌, subst, sym, rules, drop}
use Rattle.brep_lists.proofs.Tuples.{length_tuples}
use Rattle.brep_loops.proofs.loop_record.LoopRecord.tuples.Goals as goal

pub returns-clause-few : goal.returns-clause-few
returns-clause-few c =
    let small : c.self.inside.count < 2 ^ 64 = search rules in
    subst (λ n. n < 2 ^ 64) (sym (length_tuples c.self.inside.count (drop 1 c.self.inside.values.now))) small
