use Rattle.std.proofs.Common.{◌∙◌, sym, ap, subst, List, ℕ, length, arith}
use Rattle.std.specs.List.{AllByRecursion}
use Rattle.std.specs.Prelude.{option_copied}
use Rattle.std.proofs.lemmas.List.{length-map}
use Rattle.iges_base.specs.declared.entry_no.EntryNo.{EntryNo}
use Rattle.iges_params.specs.Contents.{Contents, value_count}
use Rattle.entry_references.specs.EntrySets.{numbers_of}
use Rattle.solid_extract.specs.Making.{IsFaultless, records_of}
use Rattle.solid_extract.proofs.KeptFile.{next_room, next_few, next_entries}
use Rattle.solid_extract.proofs.Places.{within_at, number_at}
use Rattle.solid_extract.proofs.extraction.put_kept.Goals as goal

pub push_kept-requires-clause-faultless : goal.push_kept-requires-clause-faultless
push_kept-requires-clause-faultless c =
    let f = c.args.file.now in
    let kept = c.kept-kept.result.now in
    within_at (IsFaultless f) kept c.entries.i c.unwrap-no.result.now
    (subst (AllByRecursion (IsFaultless f)) (sym c.kept-kept.ensures.is) c.requires.faultless)
    (sym c.get.ensures.item ∙ ap option_copied c.unwrap-no.ensures)

pub push_kept-requires-clause-entries : goal.push_kept-requires-clause-entries
push_kept-requires-clause-entries c =
    let kept = c.kept-kept.result.now in
    let long = length-map kept (λ (no : EntryNo). no.0) in
    next_few c.args.file.now c.args.renaming.now (numbers_of c.kept-kept.result.now) c.entries.i c.entries.new.entries c.entries.invariant.entries
    (omega (arith, c.entries-test.true, c.len-i-end.ensures, long))
    (omega (arith, ap length c.kept-kept.ensures.is, c.kept-kept.ensures.few))

pub push_kept-requires-clause-values : goal.push_kept-requires-clause-values
push_kept-requires-clause-values c =
    let f = c.args.file.now in
    let kept = c.kept-kept.result.now in
    next_room f c.args.renaming.now (numbers_of c.kept-kept.result.now) c.entries.i c.unwrap-no.result.now.0 c.entries.new.entries
    (number_at kept c.entries.i c.unwrap-no.result.now (sym c.get.ensures.item ∙ ap option_copied c.unwrap-no.ensures)) c.entries.invariant.entries
    (omega (arith, ap (λ (ms : List ℕ). value_count (records_of c.args.file.now ms)) c.kept-kept.ensures.is, c.requires.values))

pub entries-init : goal.entries-init
entries-init c = record {
  start = ap (λ (x : Contents). x.start) c.reserve.ensures;
  global = ap (λ (x : Contents). x.global) c.reserve.ensures;
  entries = ap (λ (x : Contents). x.entries) c.reserve.ensures ∙ c.requires.blank;
}

pub entries-preserved : goal.entries-preserved
entries-preserved c =
    let f = c.args.file.now in
    let kept = c.kept-kept.result.now in
    let put = c.in_ok-push_kept.ensures in
    record {
      start = ap (λ (x : Contents). x.start) put ∙ c.entries.invariant.start;
      global = ap (λ (x : Contents). x.global) put ∙ c.entries.invariant.global;
      entries = next_entries f c.args.renaming.now (numbers_of c.kept-kept.result.now) c.entries.i c.unwrap-no.result.now.0 c.entries.new.entries
          c.push_kept.new.new.entries (number_at kept c.entries.i c.unwrap-no.result.now (sym c.get.ensures.item ∙ ap option_copied c.unwrap-no.ensures))
          c.entries.invariant.entries
          (ap (λ (x : Contents). x.entries) put);
    }
