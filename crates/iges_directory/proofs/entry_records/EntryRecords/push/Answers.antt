use Rattle.std.proofs.Common.{ap, ◌∙◌, pos, ◌++◌, ◌∷◌, [], List}
use Rattle.iges_fields.specs.declared.value.Value.{Value}
use Rattle.iges_directory.specs.declared.entry.Placed.{Placed}
use Rattle.iges_directory.specs.Paired.{Pairs, paired}
use Rattle.iges_directory.proofs.PairedLists.{paired_more, where_ok}
use Rattle.iges_directory.proofs.entry_records.EntryRecords.push.Goals as goal

pub returns-in_default-clause-ok : goal.returns-in_default-clause-ok
returns-in_default-clause-ok c =
    let ps = c.self.inside.placed.items in
    let vs = c.self.inside.values.items in
    let p : Placed = record { entry = c.args.entry; first = pos 0; count = pos 0 } in
    ap (λ (l : List Placed). paired l c.push-2.new.self.items) (c.in_ok-push.ensures {u = tt}).items
    ∙ ap (λ (l : List (List Value)). paired (ps ++ p ∷ []) l) (where_ok c.push-2.result _ _ _ c.push-2.ensures.items c.in_default.not-Err)
    ∙ paired_more ps vs p c.args.values c.self.invariant
    ∙ ap (λ (es : Pairs). es ++ (c.args.entry, c.args.values) ∷ []) c.self.view_is
