use Rattle.std.proofs.Common.{◌≡◌, ◌++◌, ◌∙◌, ap, sym, subst, List}
use Rattle.std.specs.Prelude.{OnOk, option_map}
use Rattle.std.proofs.lemmas.Option.{same_Some}
use Rattle.entry_references.specs.Refs.{Record}
use Rattle.entry_references.proofs.NamedRecords.{named_place}
use Rattle.entry_references.proofs.RefLists.{found_record}
use Rattle.solid_extract.specs.Taking.{IsWithout}
use Rattle.solid_extract.proofs.KeptFile.{push_room}
use Rattle.solid_extract.proofs.Taken.{head, on_ok, put_is, taken_values}
use Rattle.solid_extract.proofs.extraction.push_taken.Goals as goal

pub push-requires-clause-few : goal.push-requires-clause-few
push-requires-clause-few c =
    let f = c.args.file.now in
    let g = c.take_values-taken.new.self in
    let m = c.args.no.0 in
    let r : Record = (c.unwrap-record.result.entry.now, c.unwrap-record.result.values.now) in
    let at = found_record f m c.record_of.result c.unwrap-record.result c.record_of.ensures c.unwrap-record.ensures in
    let without : IsWithout c.args.file.now c.args.no.0 c.take_values-taken.new.self =
    λ q e. c.take_values-taken.ensures.left q.0 (ap (option_map head) (named_place f m q e).1) in
    let moved = same_Some r.1 c.take_values-taken.result
    (sym (ap (option_map (λ (q : Record). q.1)) (named_place f m r at).1) ∙ c.take_values-taken.ensures.taken) in
    push_room f c.args.renaming.now m r c.args.new.now.entries c.in_ok-values.values at
    (taken_values f g m r at without c.args.renaming.now c.in-Ok.shape.own c.in-Ok.shape.names c.take_values-taken.result c.in_ok-values.values moved
    (c.in-Ok.ensures {u = tt}).ok c.in_ok-values.ensures) c.requires.values

pub returns-clause-put : goal.returns-clause-put
returns-clause-put c =
    let f = c.args.file.now in
    let g = c.take_values-taken.new.self in
    let m = c.args.no.0 in
    let r : Record = (c.unwrap-record.result.entry.now, c.unwrap-record.result.values.now) in
    let at = found_record f m c.record_of.result c.unwrap-record.result c.record_of.ensures c.unwrap-record.ensures in
    let without : IsWithout c.args.file.now c.args.no.0 c.take_values-taken.new.self =
    λ q e. c.take_values-taken.ensures.left q.0 (ap (option_map head) (named_place f m q e).1) in
    let moved = same_Some r.1 c.take_values-taken.result
    (sym (ap (option_map (λ (q : Record). q.1)) (named_place f m r at).1) ∙ c.take_values-taken.ensures.taken) in
    let put =
    put_is f c.args.renaming.now m r c.entry-entry.result c.in_ok-values.values at c.entry-entry.ensures.is
    (taken_values f g m r at without c.args.renaming.now c.in-Ok.shape.own c.in-Ok.shape.names c.take_values-taken.result c.in_ok-values.values moved
    (c.in-Ok.ensures {u = tt}).ok c.in_ok-values.ensures) in
    subst (λ (rs : List Record). OnOk c.push.result (c.push.new.self ≡ record c.args.new.now { entries = c.args.new.now.entries ++ rs })) (sym put)
    c.push.ensures.ok

pub returns-clause-taken : goal.returns-clause-taken
returns-clause-taken c =
    let f = c.args.file.now in
    let without : IsWithout c.args.file.now c.args.no.0 c.take_values-taken.new.self =
    λ q e. c.take_values-taken.ensures.left q.0 (ap (option_map head) (named_place f c.args.no.0 q e).1) in
    on_ok c.push.result without
