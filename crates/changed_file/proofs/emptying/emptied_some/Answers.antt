use Rattle.std.proofs.Common.{◌∙◌}
use Rattle.changed_file.proofs.EntrySteps.{emptied_so}
use Rattle.changed_file.proofs.emptying.emptied_some.Goals as goal

pub returns : goal.returns
returns c =
    emptied_so c.args.file.now c.in_ok-new.new c.put_entries.new.new c.args.numbers.now c.as_slice.result.now c.in_ok-gone.gone.items c.as_slice-2.result.now
    c.in_ok-used.used.items c.as_slice-3.result.now c.entry_count-count.result c.entry_count-count.ensures.is c.as_slice-2.ensures.value
    c.as_slice-3.ensures.value (c.as_slice.ensures.value ∙ c.in_ok-refs.ensures) c.in_ok-gone.ensures.marks c.in_ok-used.ensures.marks c.in_ok-new.ensures
    c.in_ok-put_entries.ensures
