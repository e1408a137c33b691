use Rattle.std.proofs.Common.{◌∙◌, ap, arith}
use Rattle.iges_params.specs.Contents.{Contents}
use Rattle.changed_file.specs.Changed.{new_record}
use Rattle.changed_file.proofs.EntrySteps.{file_is, flat_end, put_next}
use Rattle.changed_file.proofs.rewriting.put_added.Goals as goal

pub added_taken-entry-requires : goal.added_taken-entry-requires
added_taken-entry-requires c = omega (arith, c.added-test.true, c.len-i-end.ensures, c.added.invariant.long)

pub added-preserved : goal.added-preserved
added-preserved c =
    let ok = c.in_ok-count.ensures.ok in
    record {
      start = ap (λ (f : Contents). f.start) ok ∙ c.added.invariant.start;
      global = ap (λ (f : Contents). f.global) ok ∙ c.added.invariant.global;
      entries = put_next (new_record c.args.file.now) c.added.added c.added_taken-entry.new.added c.added.i c.added_taken-entry.result
          c.added.new.entries c.put_new.new.new.entries _ c.added_taken-entry.ensures.taken c.added_taken-entry.ensures.left
          (ap (λ (f : Contents). f.entries) ok) c.added.invariant.entries;
      long = c.added_taken-entry.ensures.len ∙ c.added.invariant.long;
      counted = c.in_ok-count.ensures.counted;
    }

pub returns : goal.returns
returns c =
    file_is c.args.new.now c.added.new _ c.added.invariant.start c.added.invariant.global
    (flat_end (new_record c.args.file.now) c.added.added c.added.i c.added.new.entries _
    (omega (arith, c.added-test.false, c.len-i-end.ensures, c.added.invariant.long)) c.added.invariant.entries)
