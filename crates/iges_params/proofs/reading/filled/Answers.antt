use Rattle.std.proofs.Common.{List, sym, ap, subst, ◌∙◌, refl}
use Rattle.std.specs.List.{AllByRecursion}
use Rattle.iges_directory.specs.declared.entry.Placed.{Placed}
use Rattle.iges_params.specs.Contents.{Contents}
use Rattle.iges_params.specs.Made.{IsMadeEntry}
use Rattle.iges_directory.specs.Paired.{Pairs, paired}
use Rattle.iges_params.proofs.Answers.{done}
use Rattle.iges_params.proofs.EntryPass.{each_made, within_limits, file_read}
use Rattle.iges_params.proofs.reading.filled.Goals as goal

pub fill-requires-clause-each : goal.fill-requires-clause-each
fill-requires-clause-each c =
    let r = c.requires.read in
    let read = rw c.in_default.is at r.3 in
    let list_is = c.of.ensures ∙ ap (λ (l : List Placed). paired l c.reverse.new.self.items) c.into_placed.ensures.placed ∙ ap (paired c.args.entries)
    c.reverse.ensures.items in
    subst (AllByRecursion IsMadeEntry) (sym list_is)
    (each_made r.0 r.1 c.args.file.global.delims c.requires.permitted c.args.entries c.into_placed.ensures.bounded c.args.records.left c.requires.left
    c.args.records.values.items read)

pub fill-requires-clause-limits : goal.fill-requires-clause-limits
fill-requires-clause-limits c =
    let r = c.requires.read in
    let read = rw c.in_default.is at r.3 in
    let list_is = c.of.ensures ∙ ap (λ (l : List Placed). paired l c.reverse.new.self.items) c.into_placed.ensures.placed ∙ ap (paired c.args.entries)
    c.reverse.ensures.items in
    within_limits r.0 r.1 c.args.file.global.delims c.requires.permitted c.args.entries c.into_placed.ensures.bounded c.args.records.left c.requires.left
    c.args.records.values.items read r.2 _ list_is

pub returns : goal.returns
returns c = λ above params are.
    let read = rw c.in_default.is at are in
    let list_is = c.of.ensures ∙ ap (λ (l : List Placed). paired l c.reverse.new.self.items) c.into_placed.ensures.placed ∙ ap (paired c.args.entries)
    c.reverse.ensures.items in
    file_read above params c.args.file.global.delims c.args.entries c.args.records.left c.requires.left c.args.records.values.items c.args.file refl read
    ∙ ap (λ (es : Pairs). done {X = Contents} (record { start = c.args.file.start; global = c.args.file.global; entries = es })) (sym list_is)
    ∙ ap (λ (f : Contents). done f) (sym c.fill.ensures)
