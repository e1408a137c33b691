use Rattle.std.proofs.Common.{◌<◌, ◌∙◌, sym, ap, arith, length, List, refl}
use Rattle.entry_references.specs.Refs.{Record}
use Rattle.iges_params.specs.Contents.{Contents}
use Rattle.changed_file.specs.Emptied.{emptied_record, unless_gone}
use Rattle.changed_file.proofs.EntrySteps.{file_is, gone_is, mapped_all, mapped_next, next_emptied, none_emptied}
use Rattle.changed_file.proofs.emptying.put_entries.Goals as goal

pub taken-whole-requires : goal.taken-whole-requires
taken-whole-requires c = omega (arith, c.entries-test.true, c.entry_count-i-end.ensures.is, c.entries.invariant.left.long)

pub entries-preserved : goal.entries-preserved
entries-preserved c =
    let lt : c.entries.i < length c.args.file.now.entries = omega (arith, c.entries-test.true, c.entry_count-i-end.ensures.is) in
    let r : Record = (c.taken-whole.result.0, c.taken-whole.result.1) in
    let here = sym (c.entries.invariant.left.rest c.entries.i (omega arith)) ∙ c.taken-whole.ensures.taken in
    let ok = c.in_ok-count.ensures.ok in
    record {
      start = ap (λ (f : Contents). f.start) ok ∙ c.entries.invariant.start;
      global = ap (λ (f : Contents). f.global) ok ∙ c.entries.invariant.global;
      entries = λ ns us gone used. mapped_next (emptied_record ns us) c.args.file.now.entries c.entries.i r
          (unless_gone c.is_gone-gone_now.result r) c.entries.new.entries c.put_entry.new.new.entries here
          (gone_is ns us c.args.gone.now c.args.used.now c.entries.i r c.is_gone-gone_now.result (gone c.entries.i lt) (used c.entries.i lt)
          c.is_gone-gone_now.ensures) (c.entries.invariant.entries ns us gone used) (ap (λ (f : Contents). f.entries) ok);
      left = next_emptied c.args.file.now c.entries.file c.taken-whole.new.file c.entries.i c.taken-whole.result.0 c.entries.invariant.left c.taken-whole.ensures.left;
      counted = c.in_ok-count.ensures.counted;
    }

pub returns : goal.returns
returns c = λ ns us gone used. file_is c.args.new.now c.entries.new _ c.entries.invariant.start c.entries.invariant.global
    (mapped_all (emptied_record ns us) c.args.file.now.entries c.entries.i c.entries.new.entries
    (omega (arith, c.entries-test.false, c.entry_count-i-end.ensures.is)) (c.entries.invariant.entries ns us gone used))
