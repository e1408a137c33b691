use Rattle.std.proofs.Common.{◌≡◌, ◌++◌, ◌∙◌, ap, sym, subst, List}
use Rattle.std.specs.Prelude.{OnOk}
use Rattle.entry_references.specs.Refs.{Record, is_name}
use Rattle.entry_references.proofs.RefLists.{found_record}
use Rattle.solid_extract.proofs.KeptFile.{push_room}
use Rattle.solid_extract.proofs.KeptValues.{values_are}
use Rattle.solid_extract.proofs.Taken.{put_is, values_by}
use Rattle.solid_extract.proofs.extraction.push_kept.Goals as goal

pub push-requires-clause-few : goal.push-requires-clause-few
push-requires-clause-few c =
    let f = c.args.file.now in
    let kept = c.args.renaming.now in
    let own = c.in-Ok.shape.own in
    let names = c.in-Ok.shape.names in
    let r : Record = (c.unwrap-record.result.entry.now, c.unwrap-record.result.values.now) in
    push_room f kept c.args.no.0 r c.args.new.now.entries c.in_ok-values.values
    (found_record f c.args.no.0 c.record_of.result c.unwrap-record.result c.record_of.ensures c.unwrap-record.ensures)
    (c.in_ok-values.ensures ∙ (ap (values_by (is_name f) kept own names) c.in_ok-copies.ensures ∙ values_are f kept r own names (c.in-Ok.ensures {u = tt}).ok))
    c.requires.values

pub returns : goal.returns
returns c =
    let f = c.args.file.now in
    let kept = c.args.renaming.now in
    let own = c.in-Ok.shape.own in
    let names = c.in-Ok.shape.names in
    let r : Record = (c.unwrap-record.result.entry.now, c.unwrap-record.result.values.now) in
    let put =
    put_is f kept c.args.no.0 r c.entry.result c.in_ok-values.values
    (found_record f c.args.no.0 c.record_of.result c.unwrap-record.result c.record_of.ensures c.unwrap-record.ensures) c.entry.ensures.is
    (c.in_ok-values.ensures ∙ (ap (values_by (is_name f) kept own names) c.in_ok-copies.ensures ∙ values_are f kept r own names (c.in-Ok.ensures {u = tt}).ok))
    in
    subst (λ (rs : List Record). OnOk c.push.result (c.push.new.self ≡ record c.args.new.now { entries = c.args.new.now.entries ++ rs })) (sym put)
    c.push.ensures.ok
