use Rattle.std.proofs.Common.{sym, ap, arith, length, ◌≤◌, ◌<◌}
use Rattle.std.proofs.lemmas.Bool.{eqb-true, eqb-false}
use Rattle.iges_lines.proofs.Fed.{failed_taken, all_taken, rest_taken, few_lines}
use Rattle.iges_lines.proofs.Going.{none_from, some_from}
use Rattle.iges_lines.proofs.feeding.LineFeed.end.Goals as goal
use Rattle.iges_lines.proofs.feeding.LineFeed.end.Goals.{then-has_failed-via-then-has_failed, then-has_failed-via-else-has_failed+then-is_empty}

pub returns-then-has_failed : goal.returns-then-has_failed
returns-then-has_failed c =
    let rest = c.self.inside.rest.items in
    rw (sym c.self.view_is) (λ bytes fed. c.finish.ensures bytes (elim c.then-has_failed.branch [
      | then-has_failed-via-then-has_failed w ↦
          let f = some_from c.self.inside.taken.fault c.has_failed.result c.has_failed.ensures w.if-has_failed.true in failed_taken c.self.inside.taken f.0 rest
          bytes f.1 fed.stands
      | then-has_failed-via-else-has_failed+then-is_empty w ↦
          let none : length c.as_slice-last.result.now ≤ 0 = omega
          (arith, eqb-true (length c.as_slice-last.result.now) 0 (sym (w.if-is_empty.ensures {u = tt}))) in
          all_taken c.self.inside.taken rest bytes (none_from c.self.inside.taken.fault c.has_failed.result c.has_failed.ensures w.if-has_failed.false)
          (let e : length rest ≤ 0 = omega (arith, none, ap length c.as_slice-last.ensures.value) in e)
          fed.stands
    ]))

pub take-requires : goal.take-requires
take-requires c =
    let old = c.self.invariant.0 in
    let within = c.self.invariant.1 in
    let few = few_lines _ old.0 (none_from c.self.inside.taken.fault c.has_failed.result c.has_failed.ensures c.if-has_failed.false) old.1 in
    omega (arith, within, few)

pub returns : goal.returns
returns c =
    let none = none_from c.self.inside.taken.fault c.has_failed.result c.has_failed.ensures c.if-has_failed.false in
    let taken = c.in_ok-take.ensures {u = tt} in
    let some : 0 < length c.self.inside.rest.items = omega (
      arith,
      ap length c.as_slice-last.ensures.value,
      eqb-false (length c.as_slice-last.result.now) 0 (sym (c.if-is_empty.ensures {u = tt})),
    ) in
    rw (sym c.self.view_is) (λ bytes fed. c.finish-2.ensures bytes
    (rest_taken c.self.inside.taken _ c.self.inside.rest.items bytes none some
    (rw (c.stripped.ensures, c.as_slice-last.ensures.value) at taken.ok) fed.stands))
