use Rattle.std.proofs.Common.{sym, ap, arith, ◌++◌, ◌∷◌, length, length-append}
use Rattle.iges_lines.proofs.Fed.{fed_behind, fed_more, fed_next, few_lines}
use Rattle.iges_lines.proofs.Going.{none_from, some_from}
use Rattle.iges_lines.proofs.feeding.LineFeed.feed.Goals as goal

pub invariant_of-self : goal.invariant_of-self
invariant_of-self c =
    let old = c.self.invariant.0 in
    let f = some_from c.self.inside.taken.fault c.has_failed.result c.has_failed.ensures c.if-has_failed.true in
    let limit = rw (sym c.self.view_is) at c.requires in
    ((old.0 ++ c.args.piece.now, fed_behind _ f.0 old.0 c.args.piece.now f.1 old.1), limit)

pub invariant_of-self-in_default : goal.invariant_of-self-in_default
invariant_of-self-in_default c =
    let old = c.self.invariant.0 in
    let limit = rw (sym c.self.view_is) at c.requires in (
      (old.0 ++ c.args.piece.now, fed_more _ old.0 c.args.piece.now _ (c.in_default.ensures {u = tt}) (c.in_ok-extend_from_slice.ensures {u = tt}).items old.1),
      limit,
    )

pub take_piece-requires-clause-few : goal.take_piece-requires-clause-few
take_piece-requires-clause-few c =
    let old = c.self.invariant.0 in
    let within = c.self.invariant.1 in
    let limit = rw (sym c.self.view_is) at c.requires in
    let cut = (c.in-Some.ensures {u = tt}).0 in
    let few = few_lines _ old.0 (none_from c.self.inside.taken.fault c.has_failed.result c.has_failed.ensures c.if-has_failed.false) old.1 in
    omega (arith, within, limit, few, ap length cut, length-append c.in-Some.head.now (10 ∷ c.in-Some.tail.now))

pub invariant_of-self-in-Ok : goal.invariant_of-self-in-Ok
invariant_of-self-in-Ok c =
    let old = c.self.invariant.0 in
    let limit = rw (sym c.self.view_is) at c.requires in (
      (
        old.0 ++ c.args.piece.now,
        fed_next _ c.take_piece.new.taken old.0 c.args.piece.now c.in-Ok.rest.items
            (rw (c.as_slice.ensures.value, sym (c.in-Some.ensures {u = tt}).0) at ((c.in-Ok.ensures {u = tt}).ok old.0)) old.1,
      ),
      limit,
    )
