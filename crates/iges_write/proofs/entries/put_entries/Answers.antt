use Rattle.std.proofs.Common.{◌≤◌, length, arith}
use Rattle.std.proofs.Math.ListN.{drop_of_length-le}
use Rattle.iges_write.proofs.BothPages.{both_failed, put_fails, put_more, put_all, all_held}
use Rattle.iges_base.proofs.Lists.{some_at}
use Rattle.iges_write.proofs.entries.put_entries.Goals as goal

pub returns-in_err-put_at-clause-steps : goal.returns-in_err-put_at-clause-steps
returns-in_err-put_at-clause-steps c =
    let f = c.args.file.now in
    let at = some_at f.entries c.entries.i (omega (arith, c.entry_count-i-end.ensures.is, c.entries-test.true)) in
    both_failed c.from_residual.result _ _ _ _ _
    (put_fails f.global.delims f.entries c.entries.page c.entries.params c.args.page.now c.args.params.now c.entries.i c.entries.invariant at.0 at.1 _
    (let h = c.in_err-put_at.ensures {u = tt} in h.steps at.0 at.1))
    c.from_residual.ensures.1

pub entries-preserved : goal.entries-preserved
entries-preserved c =
    let f = c.args.file.now in
    let at = some_at f.entries c.entries.i (omega (arith, c.entry_count-i-end.ensures.is, c.entries-test.true)) in
    let put = c.in_ok-put_at.ensures {u = tt} in
    let is = put.steps at.0 at.1 in
    put_more f.global.delims f.entries c.entries.page c.entries.params c.args.page.now c.args.params.now c.entries.i c.entries.invariant at.0 at.1
    c.put_at.new.page c.put_at.new.params is.0 is.1 (put.held at.0 at.1)

pub returns-clause-steps : goal.returns-clause-steps
returns-clause-steps c =
    let f = c.args.file.now in
    let past : length f.entries ≤ c.entries.i = omega (arith, c.entry_count-i-end.ensures.is, c.entries-test.false) in
    put_all f.global.delims f.entries c.entries.page c.entries.params c.args.page.now c.args.params.now c.entries.i c.entries.invariant
    (drop_of_length-le f.entries past)

pub returns-clause-held : goal.returns-clause-held
returns-clause-held c =
    let f = c.args.file.now in
    let past : length f.entries ≤ c.entries.i = omega (arith, c.entry_count-i-end.ensures.is, c.entries-test.false) in
    all_held f.global.delims f.entries c.entries.page c.entries.params c.args.page.now c.args.params.now c.entries.i c.entries.invariant past
