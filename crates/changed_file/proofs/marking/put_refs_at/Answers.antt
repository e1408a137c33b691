use Rattle.std.specs.Prelude.{option_copied}
use Rattle.std.proofs.Common.{◌∙◌, sym, ap}
use Rattle.std.proofs.lemmas.Result.{on_ok_weaker}
use Rattle.changed_file.proofs.EntrySteps.{refs_named, refs_unnamed}
use Rattle.changed_file.proofs.marking.put_refs_at.Goals as goal

pub returns-in-Some : goal.returns-in-Some
returns-in-Some c =
    on_ok_weaker c.put_refs.result (λ d r at. refs_named c.args.file.now c.args.i _ _ r c.args.out.now.items c.put_refs.new.out.items c.entry_no.ensures
    c.in-Some.ensures.0 at d) c.put_refs.ensures

pub returns-in-None : goal.returns-in-None
returns-in-None c =
    on_ok_weaker c.put_refs-in-None.result (λ d r at. refs_unnamed c.args.file.now c.args.i _ c.unwrap-entry.result.now _ r c.args.out.now.items
    c.put_refs-in-None.new.out.items c.entry_count-count.ensures.made c.entry_no.ensures c.in-None.ensures at
    (sym (sym c.entry_at.ensures.entry ∙ ap option_copied c.unwrap-entry.ensures)) c.new-none.ensures d) c.put_refs-in-None.ensures
