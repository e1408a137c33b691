use Rattle.std.specs.Prelude.{Option, option_copied, option_map, slice_get, slice_index_or, unwrap_or, None}
use Rattle.std.proofs.Common.{◌<◌, ◌∙◌, sym, ap, arith, length, List}
use Rattle.iges_directory.specs.declared.entry.Entry.{Entry}
use Rattle.iges_fields.specs.declared.value.Value.{Value}
use Rattle.iges_params.specs.Contents.{Contents}
use Rattle.entry_references.specs.Refs.{Record}
use Rattle.solid_data.proofs.Members.{get_some}
use Rattle.changed_file.specs.Changed.{kept_record}
use Rattle.changed_file.proofs.EntrySteps.{file_is, here_is, mapped_all, mapped_next}
use Rattle.changed_file.proofs.rewriting.put_old.Goals as goal

pub entries-preserved : goal.entries-preserved
entries-preserved c =
    let lt : c.entries.i < length c.args.file.now.entries = omega (arith, c.entries-test.true, c.entry_count-i-end.ensures.is) in
    let here = get_some c.args.file.now.entries c.entries.i lt in
    let is = sym c.entry_at.ensures.entry ∙ ap option_copied c.unwrap-entry.ensures in
    let F = λ (r : Record). unwrap_or (slice_index_or c.args.slots.now c.entries.i None) r.1 in
    let same = c.entries.invariant.left c.entries.i (omega arith) in
    let kept = ap (λ (o : Option (List Value)). option_map (λ (r : Record). unwrap_or o r.1) (slice_get c.args.file.now.entries c.entries.i)) (sym same) ∙ c.in_ok-values.ensures.kept in
    let both = here_is c.args.file.now.entries c.entries.i here.0 F c.unwrap-entry.result.now c.in_ok-values.values here.1 (sym is) kept in
    let ok = c.in_ok-count.ensures.ok in
    record {
      start = ap (λ (f : Contents). f.start) ok ∙ c.entries.invariant.start;
      global = ap (λ (f : Contents). f.global) ok ∙ c.entries.invariant.global;
      entries = mapped_next (kept_record c.args.slots.now) c.args.file.now.entries c.entries.i here.0 (c.unwrap-entry.result.now, c.in_ok-values.values)
          c.entries.new.entries c.push_within.new.new.entries here.1
          (ap (λ (e : Entry). (e, F here.0)) both.0 ∙ ap (λ (vs : List Value). (c.unwrap-entry.result.now, vs)) both.1) c.entries.invariant.entries
          (ap (λ (f : Contents). f.entries) ok);
      left = λ j le. c.in_ok-values.ensures.left j (omega (arith, le)) ∙ c.entries.invariant.left j (omega (arith, le));
      counted = c.in_ok-count.ensures.counted;
    }

pub returns-clause-ok : goal.returns-clause-ok
returns-clause-ok c =
    file_is c.args.new.now c.entries.new _ c.entries.invariant.start c.entries.invariant.global
    (mapped_all (kept_record c.args.slots.now) c.args.file.now.entries c.entries.i c.entries.new.entries
    (omega (arith, c.entries-test.false, c.entry_count-i-end.ensures.is)) c.entries.invariant.entries)
