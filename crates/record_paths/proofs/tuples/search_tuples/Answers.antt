use Rattle.std.proofs.Common.{◌≡◌, ◌+◌, ◌∷◌, [], ap, pos, arith, length, length-append}
use Rattle.record_paths.specs.Paths.{sited_after, tuples_sited}
use Rattle.record_paths.proofs.PlaceSteps.{tuple_none, tuple_ends}
use Rattle.record_paths.proofs.SearchSteps.{handed_on, left_step, serves_more, serves_stop, serves_empty}
use Rattle.record_paths.proofs.tuples.search_tuples.Goals as goal

pub tuples-preserved : goal.tuples-preserved
tuples-preserved c =
    let g = tuples_sited c.args.file.now c.args.path (pos c.args.the_loop.0) in
    let i = c.tuples.invariant in
    let place : c.tuples.item + 1 ≡ length c.tuples.yielded + 1 = ap (λ n. n + 1) i.count in
    record {
      count = omega (arith, i.count, length-append c.tuples.yielded (c.in-Some.tuple ∷ []));
      left = left_step c.tuples.yielded c.tuples.tuple-iterator c.next.new.self c.args.listed.now c.in-Some.tuple i.left c.in-Some.ensures.steps;
      serves = serves_more g c.tuples.yielded c.tuples.tuple-iterator c.next.new.self c.in-Some.tuple (sited_after g [] c.args.listed.now) c.args.name
          c.in-Some.ensures.steps i.serves
          (tuple_none c.args.file.now c.args.path (pos c.args.the_loop.0) c.tuples.yielded c.in-Some.tuple (c.tuples.item + 1) c.args.name place
          c.in_ok-search_tuple.ensures);
    }

pub returns-in_err-search_tuple : goal.returns-in_err-search_tuple
returns-in_err-search_tuple c =
    let g = tuples_sited c.args.file.now c.args.path (pos c.args.the_loop.0) in
    let i = c.tuples.invariant in
    let all = sited_after g [] c.args.listed.now in
    let e = c.in_err-search_tuple.field-0.0 in
    let place : c.tuples.item + 1 ≡ length c.tuples.yielded + 1 = ap (λ n. n + 1) i.count in
    handed_on all c.args.name c.from_residual.result e
    (serves_stop g c.tuples.yielded c.tuples.tuple-iterator c.next.new.self c.in-Some.tuple all c.args.name e c.in-Some.ensures.steps i.serves
    (tuple_ends c.args.file.now c.args.path (pos c.args.the_loop.0) c.tuples.yielded c.in-Some.tuple (c.tuples.item + 1) c.args.name e place
    c.in_err-search_tuple.ensures))
    c.from_residual.ensures.1

pub returns : goal.returns
returns c =
    let g = tuples_sited c.args.file.now c.args.path (pos c.args.the_loop.0) in
    serves_empty g c.tuples.yielded c.tuples.tuple-iterator (sited_after g [] c.args.listed.now) c.args.name c.in-None.ensures.steps.0 c.tuples.invariant.serves
