use Rattle.std.proofs.Common.{arith}
use Rattle.std.proofs.lemmas.Option.{slice_get_read}
use Rattle.iges_directory.proofs.PairedLists.{values_within, none_past}
use Rattle.iges_directory.proofs.entry_records.EntryRecords.values.Goals as goal

pub returns-then-i-len : goal.returns-then-i-len
returns-then-i-len c = rw (← c.self.view_is) (none_past c.self.inside.placed.items c.self.inside.values.items c.self.invariant c.args.i (λ e. e.1)
    (omega (arith, c.len.ensures, c.if-i-len.true, c.self.invariant)))

pub returns : goal.returns
returns c =
    let at = slice_get_read c.self.inside.values.items c.len.result c.args.i _ (omega (arith, c.len.ensures, c.self.inside.values.ok.0)) c.if-i-len.false c.index.ensures in
    rw (← c.self.view_is) (values_within c.self.inside.placed.items c.self.inside.values.items c.self.invariant c.args.i _ at
    (omega (arith, c.len.ensures, c.if-i-len.false)))
