use Rattle.std.proofs.Common.{◌∙◌, sym, rules}
use mir.Val.{SFits}
use mir.Syntax.{w64}
use Rattle.iges_directory.proofs.InColumns.{read_fits, read_holds}
use Rattle.iges_directory.proofs.Pairs.{second_fails, types_differ, out_of_range, in_range, lies_read}
use Rattle.iges_directory.proofs.pair.entry_of.Goals as goal

pub second_half-requires-clause-held : goal.second_half-requires-clause-held
second_half-requires-clause-held c =
    let fits : SFits w64 c.in-Some.one.kind = search rules in read_holds 1 c.args.first.now _ fits c.in-Some.ensures.some.kind

pub returns-in_default-second_half : goal.returns-in_default-second_half
returns-in_default-second_half c = second_fails c.args.params c.args.first.now c.args.second.now c.in-Some.one c.in-Some.ensures.some
    c.in_default-second_half.ensures.none

pub returns-then-not-have_one_type : goal.returns-then-not-have_one_type
returns-then-not-have_one_type c =
    types_differ c.args.params c.args.first.now c.args.second.now c.in-Some.one c.in-Some.ensures.some c.in-Some-second_half.two
    c.in-Some-second_half.ensures.some
    (sym c.have_one_type.ensures ∙ c.if-not-have_one_type.true)

pub lies_within-requires-clause-first : goal.lies_within-requires-clause-first
lies_within-requires-clause-first c =
    let fits : SFits w64 c.in-Some.one.record_first = search rules in read_fits 2 c.args.first.now _ fits c.in-Some.ensures.some.record_first

pub lies_within-requires-clause-count : goal.lies_within-requires-clause-count
lies_within-requires-clause-count c =
    let fits : SFits w64 c.in-Some-second_half.two.record_count =
    search rules in read_fits 4 c.args.second.now _ fits c.in-Some-second_half.ensures.some.record_count

pub returns-then-not-lies_within : goal.returns-then-not-lies_within
returns-then-not-lies_within c =
    let kind : SFits w64 c.in-Some.one.kind = search rules in
    let first : SFits w64 c.in-Some.one.record_first = search rules in
    let count : SFits w64 c.in-Some-second_half.two.record_count = search rules in
    out_of_range c.args.params c.args.first.now c.args.second.now c.in-Some.one c.in-Some.ensures.some c.in-Some-second_half.two
    c.in-Some-second_half.ensures.some
    (sym c.have_one_type.ensures ∙ c.if-not-have_one_type.false) (lies_read _ _ _ _ _ _ kind first count c.lies_within.ensures c.if-not-lies_within.true)

pub returns : goal.returns
returns c =
    let kind : SFits w64 c.in-Some.one.kind = search rules in
    let first : SFits w64 c.in-Some.one.record_first = search rules in
    let count : SFits w64 c.in-Some-second_half.two.record_count = search rules in
    rw c.placed_of.ensures (
    in_range c.args.params c.args.first.now c.args.second.now c.in-Some.one c.in-Some.ensures.some c.in-Some-second_half.two c.in-Some-second_half.ensures.some
    (sym c.have_one_type.ensures ∙ c.if-not-have_one_type.false) (lies_read _ _ _ _ _ _ kind first count c.lies_within.ensures c.if-not-lies_within.false)
    )
