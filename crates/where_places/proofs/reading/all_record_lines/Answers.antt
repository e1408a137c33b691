use Rattle.std.proofs.Common.{sym, ap, ◌∙◌, arith, length, option_copied}
use Rattle.where_places.proofs.Pairs.{entry_count, records_all, records_more}
use Rattle.where_places.proofs.reading.all_record_lines.Goals as goal

pub entries-preserved : goal.entries-preserved
entries-preserved c = λ ps are. records_more (length c.args.lines.now.param) c.args.lines.now.directory ps c.entries.i c.unwrap-first.result.now
    c.unwrap-second.result.now c.record_lines.result c.entries.records.items c.push.new.self.items _ are
    (sym c.directory.ensures.line ∙ ap option_copied c.unwrap-first.ensures)
    (sym c.directory-in-entries.ensures.line ∙ ap option_copied c.unwrap-second.ensures)
    c.record_lines.ensures c.in_ok-push.ensures.items (c.entries.invariant ps are)

pub returns : goal.returns
returns c = λ ps are. records_all (length c.args.lines.now.param) c.args.lines.now.directory ps c.entries.i c.entries.records.items are
    (let count = entry_count (length c.args.lines.now.param) c.args.lines.now.directory ps are in
    omega (arith, count, c.entries-test.false, c.directory_count-entries.ensures.count)) (c.entries.invariant ps are)
