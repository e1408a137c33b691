use Rattle.std.proofs.Common.{◌≡◌, ◌++◌, ◌∷◌, [], sym, ap, subst, arith, length, length-append, ℕ}
use Rattle.std.proofs.lemmas.Option.{slice_get_within}
use Rattle.shell_reach.specs.Reaching.{row_numbers}
use Rattle.edge_uses.proofs.RowNumbers.{numbers_pushed}
use Rattle.open_shells.proofs.FanWalks.{Walked, turn_same, walked_more, back_early, back_in_time, back_least, not_back, path_whole, path_short, begin_starts}
use Rattle.open_shells.proofs.FanWalks.{not_both}
use Rattle.open_shells.proofs.fanning.walk.Goals as goal

pub returns-then-is_back : goal.returns-then-is_back
returns-then-is_back c =
    let b = c.is_back.ensures.0 c.if-is_back.true in
    let start = begin_starts c.args.mated.now c.args.vertex c.args.starts c.args.head c.first_row-first.result c.requires.starts c.requires.some
    c.requires.head c.first_row-first.ensures.none c.first_row-first.ensures.some in
    back_early c.args.mated.now c.args.vertex c.first_row-first.result c.args.starts.count (row_numbers c.walk.rows) c.walk.at c.requires.whole start.0
    c.requires.starts.count (omega (arith, b.0, c.walk.invariant.len)) (omega (arith, c.walk.invariant.len)) b.1
    c.walk.invariant.walked

pub turn-requires : goal.turn-requires
turn-requires c = slice_get_within c.args.mated.now.rows c.walk.at c.walk.invariant.at.0 c.walk.invariant.at.1

pub returns-then-i-starts : goal.returns-then-i-starts
returns-then-i-starts c =
    let e : row_numbers c.push.new.self ≡ row_numbers c.walk.rows ++ c.walk.at ∷ [] =
    numbers_pushed c.walk.rows c.push.new.self c.walk.at c.in_ok-push.ensures.ok in
    let start = begin_starts c.args.mated.now c.args.vertex c.args.starts c.args.head c.first_row-first.result c.requires.starts c.requires.some
    c.requires.head c.first_row-first.ensures.none c.first_row-first.ensures.some in
    path_whole c.args.mated.now c.args.vertex c.first_row-first.result c.args.starts.count (row_numbers c.walk.rows) (row_numbers c.push.new.self) c.walk.at
    c.requires.whole start.0 c.requires.starts.count
    (omega (arith, c.walk.invariant.len, c.if-i-starts.true)) c.in-None.ensures c.walk.invariant.walked e c.requires.no_point

pub returns-in-None : goal.returns-in-None
returns-in-None c =
    let start = begin_starts c.args.mated.now c.args.vertex c.args.starts c.args.head c.first_row-first.result c.requires.starts c.requires.some
    c.requires.head c.first_row-first.ensures.none c.first_row-first.ensures.some in
    path_short c.args.mated.now c.args.vertex c.first_row-first.result c.args.starts.count c.args.head (row_numbers c.walk.rows) c.walk.at c.requires.whole
    start.0 c.requires.head start.1 c.requires.starts.count
    (omega (arith, c.walk.invariant.len, c.if-i-starts.false, c.walk-test.true)) c.in-None.ensures c.walk.invariant.at c.walk.invariant.walked

pub walk-preserved : goal.walk-preserved
walk-preserved c =
    let e : row_numbers c.push.new.self ≡ row_numbers c.walk.rows ++ c.walk.at ∷ [] =
    numbers_pushed c.walk.rows c.push.new.self c.walk.at c.in_ok-push.ensures.ok in
    record {
      len = omega (arith, ap (length {A = ℕ}) e, length-append (row_numbers c.walk.rows) (c.walk.at ∷ []), c.walk.invariant.len);
      at = turn_same c.args.mated.now c.requires.whole c.args.vertex c.walk.at c.in-Some.next c.in-Some.ensures c.walk.invariant.at;
      walked = subst (λ rs. Walked c.args.mated.now c.first_row-first.result rs c.in-Some.next) (sym e)
          (walked_more c.args.mated.now c.first_row-first.result (row_numbers c.walk.rows) c.walk.at c.in-Some.next c.walk.invariant.walked
          (λ some back. not_both c.is_back.result c.if-is_back.false (c.is_back.ensures.1 (omega (arith, some, c.walk.invariant.len), back)))
          c.in-Some.ensures);
    }

pub returns-then-at-first : goal.returns-then-at-first
returns-then-at-first c =
    let start = begin_starts c.args.mated.now c.args.vertex c.args.starts c.args.head c.first_row-first.result c.requires.starts c.requires.some
    c.requires.head c.first_row-first.ensures.none c.first_row-first.ensures.some in
    absurd (not_back c.args.mated.now c.args.vertex c.first_row-first.result c.args.starts.count (row_numbers c.walk.rows) c.walk.at c.requires.whole start.0
    c.requires.starts.count c.requires.some (omega (arith, c.walk.invariant.len)) c.if-at-first.true
    c.walk.invariant.at c.walk.invariant.walked)

pub returns : goal.returns
returns c =
    let start = begin_starts c.args.mated.now c.args.vertex c.args.starts c.args.head c.first_row-first.result c.requires.starts c.requires.some
    c.requires.head c.first_row-first.ensures.none c.first_row-first.ensures.some in
    let least = back_least c.args.mated.now c.args.vertex c.first_row-first.result c.args.head (row_numbers c.walk.rows) c.walk.at c.requires.head start.1
    (omega (arith, c.requires.some, c.walk.invariant.len)) c.if-at-first.false c.walk.invariant.walked in
    back_in_time c.args.mated.now c.args.vertex c.first_row-first.result c.args.starts.count (row_numbers c.walk.rows) c.walk.at c.requires.whole start.0 least
    c.requires.starts.count c.requires.some (omega (arith, c.walk.invariant.len)) c.if-at-first.false
    c.walk.invariant.walked c.requires.no_point
