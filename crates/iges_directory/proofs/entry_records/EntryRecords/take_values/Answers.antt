use Rattle.std.proofs.Common.{◌≡◌, ◌∙◌, ◌<◌, ap, sym, arith, List, Some, length, []}
use Rattle.std.specs.Prelude.{set, slice_get}
use Rattle.std.proofs.lemmas.Option.{slice_get-get_or}
use Rattle.iges_fields.specs.declared.value.Value.{Value}
use Rattle.iges_directory.specs.Paired.{Pairs, paired}
use Rattle.iges_directory.proofs.PairedLists.{paired_count, paired_set, values_at}
use Rattle.iges_directory.proofs.entry_records.EntryRecords.take_values.Goals as goal

pub index_mut-requires : goal.index_mut-requires
index_mut-requires c =
    let all = paired_count c.self.inside.placed.items c.self.inside.values.items c.self.invariant in
    omega (arith, c.requires, c.self.invariant, c.self.inside.values.ok.0, all, ap (λ (es : Pairs). length es) c.self.view_is)

pub returns-clause-taken : goal.returns-clause-taken
returns-clause-taken c =
    let items = c.self.inside.values.items in
    let all = paired_count c.self.inside.placed.items items c.self.invariant in
    let within : c.args.i < length items = omega (arith, c.requires, c.self.invariant, all, ap (λ (es : Pairs). length es) c.self.view_is) in
    let at : slice_get items c.args.i ≡ Some c.index_mut.result.now =
    slice_get-get_or items c.args.i c.index_mut.result.now within ∙ ap (λ (v : List Value). Some v) (sym c.index_mut.ensures.value) in
    rw (← c.self.view_is) (values_at c.self.inside.placed.items items c.self.invariant c.args.i c.index_mut.result.now at within
    ∙ ap (λ (v : List Value). Some v) (sym c.replace.ensures.value))

pub returns-clause-left : goal.returns-clause-left
returns-clause-left c entry e =
    let none : c.replace.new.dest ≡ [] = c.replace.ensures.after ∙ c.new.ensures in
    let found = rw (← c.self.view_is) at e in
    ap (λ (v : List Value). paired c.self.inside.placed.items (set c.self.inside.values.items c.args.i v)) none
    ∙ paired_set c.self.inside.placed.items c.self.inside.values.items c.args.i [] entry found
    ∙ ap (λ (es : Pairs). set es c.args.i (entry, [])) c.self.view_is
