use Rattle.std.proofs.Common.{◌≡◌, ◌++◌, ◌∷◌, [], sym, ap, subst, arith, length, length-append, ℕ}
use Rattle.std.proofs.lemmas.Option.{slice_get_within}
use Rattle.vertex_link.specs.Corners.{row_numbers}
use Rattle.edge_uses.proofs.Turn.{turning}
use Rattle.edge_uses.proofs.RowNumbers.{numbers_pushed}
use Rattle.vertex_link.proofs.Walks.{Walked, walked_more, back_early, back_in_time, not_back, not_both}
use Rattle.vertex_link.proofs.walking.walk.Goals as goal

pub returns-then-is_back : goal.returns-then-is_back
returns-then-is_back c =
    let b = c.is_back.ensures.0 c.if-is_back.true in
    back_early c.args.paired.now c.args.vertex c.args.starts (row_numbers c.walk.rows) c.walk.at c.requires.whole c.requires.starts
    (omega (arith, b.0, c.walk.invariant.len)) (omega (arith, c.walk.invariant.len)) b.1 c.walk.invariant.walked

pub turned-at-requires : goal.turned-at-requires
turned-at-requires c = slice_get_within c.args.paired.now.rows c.walk.at c.walk.invariant.at.0 c.walk.invariant.at.1

pub walk-preserved : goal.walk-preserved
walk-preserved c =
    let e : row_numbers c.push.new.self ≡ row_numbers c.walk.rows ++ c.walk.at ∷ [] =
    numbers_pushed c.walk.rows c.push.new.self c.walk.at c.in_ok-push.ensures.ok in
    record {
      len = omega (arith, ap (length {A = ℕ}) e, length-append (row_numbers c.walk.rows) (c.walk.at ∷ []), c.walk.invariant.len);
      at = (turning c.args.paired.now c.requires.whole).same c.args.vertex c.walk.at c.turned-at.result c.turned-at.ensures c.walk.invariant.at;
      walked = subst (λ rs. Walked c.args.paired.now c.args.starts.first rs c.turned-at.result) (sym e)
          (walked_more c.args.paired.now c.args.starts.first (row_numbers c.walk.rows) c.walk.at c.turned-at.result c.walk.invariant.walked
          (λ some back. not_both c.is_back.result c.if-is_back.false (c.is_back.ensures.1 (omega (arith, some, c.walk.invariant.len), back)))
          c.turned-at.ensures);
    }

pub returns-then-at-starts : goal.returns-then-at-starts
returns-then-at-starts c =
    not_back c.args.paired.now c.args.vertex c.args.starts (row_numbers c.walk.rows) c.walk.at c.requires.whole c.requires.starts c.requires.some
    (omega (arith, c.walk.invariant.len)) c.if-at-starts.true c.walk.invariant.walked

pub returns : goal.returns
returns c =
    back_in_time c.args.paired.now c.args.vertex c.args.starts (row_numbers c.walk.rows) c.walk.at c.requires.whole c.requires.starts c.requires.some
    (omega (arith, c.walk.invariant.len)) c.if-at-starts.false c.walk.invariant.walked
    c.requires.no_point
