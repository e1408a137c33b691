use Rattle.entry_references.specs.Refs.{is_name, number_of}
use Rattle.entry_references.proofs.FirstNumbers.{put_more, names_put}
use Rattle.entry_references.proofs.NumberLists.{next_name}
use Rattle.entry_references.proofs.numbers.push_names.Goals as goal

pub pointers-preserved : goal.pointers-preserved
pointers-preserved c = record {
  names =
      next_name (is_name c.args.file.now) number_of c.args.values.now c.args.group.before c.args.group.count c.pointers.i c.in-Some.value.now
      c.pointers.numbers c.push_some.new.numbers _ c.number_of.result c.if_name.result
      c.pointers-test.true c.in-Some.ensures.value c.number_of.ensures c.if_name.ensures c.in_ok-push_some.ensures.ok c.pointers.invariant.names;
  more = put_more _ c.pointers.numbers c.push_some.new.numbers _ c.pointers.invariant.more c.in_ok-push_some.ensures.ok;
}

pub returns-in_err-push_some-clause-err : goal.returns-in_err-push_some-clause-err
returns-in_err-push_some-clause-err c =
    names_put c.from_residual.result _ c.pointers.numbers _ _ c.push_some.new.numbers c.pointers.invariant.more c.pointers.invariant.names
    c.in_err-push_some.ensures.err
