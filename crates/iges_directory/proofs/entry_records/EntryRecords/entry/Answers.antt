use Rattle.std.proofs.Common.{length, ap, arith, refl}
use Rattle.std.proofs.lemmas.Option.{slice_get_read}
use Rattle.iges_directory.specs.Paired.{Pairs}
use Rattle.iges_directory.proofs.PairedLists.{paired_count, entry_within, none_past}
use Rattle.iges_directory.proofs.entry_records.EntryRecords.entry.Goals as goal

pub returns-then-i-len-clause-entry : goal.returns-then-i-len-clause-entry
returns-then-i-len-clause-entry c = rw (← c.self.view_is) (none_past c.self.inside.placed.items c.self.inside.values.items c.self.invariant c.args.i (λ e. e.0)
    (omega (arith, c.len.ensures, c.if-i-len.true)))

pub returns-then-i-len-clause-within : goal.returns-then-i-len-clause-within
returns-then-i-len-clause-within c =
    let all = paired_count c.self.inside.placed.items c.self.inside.values.items c.self.invariant in
    (λ e. cc, λ h. absurd (omega (arith, c.len.ensures, c.if-i-len.true, all, ap (λ (es : Pairs). length es) c.self.view_is, h)))

pub returns-clause-entry : goal.returns-clause-entry
returns-clause-entry c =
    let at = slice_get_read c.self.inside.placed.items c.len.result c.args.i _ (omega (arith, c.len.ensures, c.self.inside.placed.ok.0)) c.if-i-len.false c.index.ensures in
    rw (← c.self.view_is) (entry_within c.self.inside.placed.items c.self.inside.values.items c.self.invariant c.args.i _ at
    (omega (arith, c.len.ensures, c.if-i-len.false)))

pub returns-clause-within : goal.returns-clause-within
returns-clause-within c =
    let all = paired_count c.self.inside.placed.items c.self.inside.values.items c.self.invariant in
    (λ _. omega (arith, c.len.ensures, c.if-i-len.false, all, ap (λ (es : Pairs). length es) c.self.view_is), λ _. refl)
