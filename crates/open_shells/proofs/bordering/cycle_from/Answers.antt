use Rattle.std.proofs.Common.{arith, sym, ap, subst, ◌≡◌, ◌++◌, ◌∷◌, [], ℕ, length, length-append}
use Rattle.edge_uses.specs.ShellRows.{ShellRows}
use Rattle.edge_uses.proofs.RowNumbers.{numbers_pushed}
use Rattle.shell_reach.specs.Reaching.{row_numbers}
use Rattle.open_shells.proofs.BorderRows.{Passed, passed_more, loop_closed, never_back}
use Rattle.open_shells.proofs.bordering.cycle_from.Goals as goal

pub returns-then-at-first : goal.returns-then-at-first
returns-then-at-first c =
    let e : row_numbers c.push.new.self ≡ row_numbers c.cycle.rows ++ c.cycle.at ∷ [] =
    numbers_pushed c.cycle.rows c.push.new.self c.cycle.at c.in_ok-push.ensures.ok in
    loop_closed c.args.mated.now c.args.first (row_numbers c.cycle.rows) (row_numbers c.push.new.self) c.cycle.at c.next_border-at.result
    c.cycle.invariant.passed c.cycle.invariant.away c.next_border-at.ensures c.if-at-first.true e

pub cycle-preserved : goal.cycle-preserved
cycle-preserved c =
    let e : row_numbers c.push.new.self ≡ row_numbers c.cycle.rows ++ c.cycle.at ∷ [] =
    numbers_pushed c.cycle.rows c.push.new.self c.cycle.at c.in_ok-push.ensures.ok in
    record {
      len = omega (arith, ap (length {A = ℕ}) e, length-append (row_numbers c.cycle.rows) (c.cycle.at ∷ []), c.cycle.invariant.len);
      border = c.next_border-at.ensures.1;
      away = λ some same. c.if-at-first.false same;
      passed = subst (λ rs. Passed c.args.mated.now c.args.first rs c.next_border-at.result) (sym e)
          (passed_more c.args.mated.now c.args.first (row_numbers c.cycle.rows) c.cycle.at c.next_border-at.result c.cycle.invariant.passed
          c.cycle.invariant.away c.next_border-at.ensures);
    }

pub returns : goal.returns
returns c =
    absurd (never_back c.args.mated.now c.args.first (row_numbers c.cycle.rows) c.cycle.at c.requires.whole c.requires.fanned c.requires.border
    c.cycle.invariant.border
    (omega (
      arith,
      c.cycle-test.false,
      c.cycle.auto._i-end,
      c.cycle.invariant.len,
      c.len-i-end.ensures.count,
      ap (λ (d : ShellRows). length d.rows)
          c.rows.ensures.rows,
    )) c.cycle.invariant.away c.cycle.invariant.passed)
