use Rattle.std.proofs.Common.{◌≤◌, ◌∙◌, sym, ap, subst, List, ℕ, length, arith}
use Rattle.std.specs.List.{AllByRecursion}
use Rattle.std.specs.List.Sorted.{IsStrictlyIncreasing}
use Rattle.std.specs.Prelude.{IsSome, option_copied}
use Rattle.std.proofs.lemmas.List.{length-map}
use Rattle.iges_base.specs.declared.entry_no.EntryNo.{EntryNo}
use Rattle.iges_params.specs.Contents.{Contents, value_count}
use Rattle.entry_references.specs.EntrySets.{numbers_of}
use Rattle.solid_extract.specs.Making.{IsFaultless, records_of}
use Rattle.solid_extract.proofs.KeptFile.{next_few}
use Rattle.solid_extract.proofs.Places.{within_at, number_at}
use Rattle.solid_extract.proofs.Taken.{all_left, left_entries, left_named, left_room, less_left}
use Rattle.solid_extract.proofs.extraction.put_taken.Goals as goal

pub entries-init : goal.entries-init
entries-init c = record {
  left = all_left c.args.file.now (numbers_of c.kept-kept.result.now) (subst IsStrictlyIncreasing (sym c.kept-kept.ensures.is) c.requires.rising);
  entries = ap (λ (x : Contents). x.entries) c.reserve.ensures ∙ c.requires.blank;
}

pub push_taken-requires-clause-named : goal.push_taken-requires-clause-named
push_taken-requires-clause-named c =
    let f = c.args.file.now in
    let kept = c.kept-kept.result.now in
    let at = sym c.get.ensures.item ∙ ap option_copied c.unwrap-no.ensures in
    let faultless = within_at (IsFaultless f) kept c.entries.i c.unwrap-no.result.now
    (subst (AllByRecursion (IsFaultless f)) (sym c.kept-kept.ensures.is) c.requires.faultless) at in
    subst IsSome (sym (left_named f c.entries.file (numbers_of kept) c.entries.i c.unwrap-no.result.now.0
    (number_at kept c.entries.i c.unwrap-no.result.now at) c.entries.invariant.left)) faultless.0

pub push_taken-requires-clause-entries : goal.push_taken-requires-clause-entries
push_taken-requires-clause-entries c =
    let kept = c.kept-kept.result.now in
    let long = length-map kept (λ (no : EntryNo). no.0) in
    let few : length c.args.renaming.now ≤ 4999999 = c.kept-kept.ensures.few in
    next_few c.args.file.now c.args.renaming.now (numbers_of c.kept-kept.result.now) c.entries.i c.entries.new.entries c.entries.invariant.entries
    (omega (arith, c.entries-test.true, c.len-i-end.ensures, long))
    (omega (arith, ap length c.kept-kept.ensures.is, few))

pub push_taken-requires-clause-values : goal.push_taken-requires-clause-values
push_taken-requires-clause-values c =
    let f = c.args.file.now in
    let kept = c.kept-kept.result.now in
    let at = sym c.get.ensures.item ∙ ap option_copied c.unwrap-no.ensures in
    left_room f c.entries.file (numbers_of kept) c.entries.i c.unwrap-no.result.now.0 (number_at kept c.entries.i c.unwrap-no.result.now at)
    c.entries.invariant.left c.args.renaming.now c.entries.new.entries c.entries.invariant.entries
    (subst (λ (ms : List ℕ). value_count (records_of c.args.file.now ms) ≤ 164000000) (sym c.kept-kept.ensures.is) c.requires.values)

pub entries-preserved : goal.entries-preserved
entries-preserved c =
    let f = c.args.file.now in
    let kept = c.kept-kept.result.now in
    let at = sym c.get.ensures.item ∙ ap option_copied c.unwrap-no.ensures in
    let number = number_at kept c.entries.i c.unwrap-no.result.now at in
    let faultless = within_at (IsFaultless f) kept c.entries.i c.unwrap-no.result.now
    (subst (AllByRecursion (IsFaultless f)) (sym c.kept-kept.ensures.is) c.requires.faultless) at in
    record {
      left = less_left f c.entries.file (numbers_of kept) c.entries.i c.unwrap-no.result.now.0 number c.entries.invariant.left c.push_taken.new.file
          faultless.0 c.in_ok-push_taken.ensures.taken;
      entries = left_entries f c.entries.file (numbers_of kept) c.entries.i c.unwrap-no.result.now.0 number c.entries.invariant.left c.args.renaming.now
          c.entries.new.entries c.push_taken.new.new.entries c.entries.invariant.entries
          (ap (λ (x : Contents). x.entries) c.in_ok-push_taken.ensures.put);
    }

pub returns-clause-start : goal.returns-clause-start
returns-clause-start c = c.entries.invariant.left.start

pub returns-clause-global : goal.returns-clause-global
returns-clause-global c = c.entries.invariant.left.global
