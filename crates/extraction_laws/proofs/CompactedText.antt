-- The text that is written of a compacted solid reads back.
use Rattle.std.specs.Prelude.{ℕ, ◌+◌, ◌*◌, List, [], ◌∷◌, map}
use Rattle.std.specs.List.{AllByRecursion, enumerate_from}
use Rattle.std.proofs.Common.{sym, ◌∙◌}
use Rattle.iges_params.specs.Contents.{Contents}
use Rattle.iges_params.specs.IsFile.{IsFile}
use Rattle.iges_params.proofs.Answers.{ok_is}
use Rattle.iges_params.proofs.FileExact.{IsFile-read_file}
use Rattle.iges_write.specs.Writable.{IsHeld, IsWritable}
use Rattle.iges_write.proofs.FileBack.{reads_back}
use Rattle.iges_write.proofs.Made.{can_be_made}
use Rattle.entry_references.specs.Refs.{Record}
use Rattle.solid_extract.specs.Extracted.{IsExtracted}
use Rattle.solid_extract.proofs.KeptFile.{extracted_is_made}
use Rattle.extraction_laws.proofs.WrittenText.{extracted_is_writable}
use Rattle.list_compact.specs.Dropped.{dropped_record, dropped}
use Rattle.list_compact.proofs.DroppedMade.{dropped_made}
use Rattle.extraction_laws.specs.Compacted.{number_between}
use Rattle.extraction_laws.specs.CompactedWritten.{CompactedIsMade, CompactedIsWritable, WrittenIsCompacted, WrittenKeepsVerdict}
use Rattle.extraction_laws.proofs.CompactedSolid.{verdict_compacted, no_other_verdict, closed_compacted}
use Rattle.extraction_laws.proofs.HeldValues.{dropped_held}

entries_held : (g : Contents) (k : ℕ) (rs : List Record) → AllByRecursion IsHeld rs → AllByRecursion IsHeld (map (dropped_record g) (enumerate_from k rs))
entries_held g k [] all = tt
entries_held g k (r ∷ rs) all =
    let held : IsHeld r = all.0 in
    (record { status = held.status; label = held.label; values = dropped_held g (2 * k + 1) r held.values }, entries_held g (k + 1) rs all.1)

dropped_writable : (f g : Contents) (n : ℕ) → IsWritable f → IsExtracted f n g → IsWritable (dropped g)
unfolding dropped
dropped_writable f g n w x =
    let old : IsWritable g = extracted_is_writable f g n w x in
    record { made = dropped_made f g n w.made x; delims = old.delims; global_values = old.global_values; held = entries_held g 0 g.entries old.held }

pub compacted_is_made : CompactedIsMade
compacted_is_made f new n made c = extracted_is_made (dropped c.«between») new (number_between f n new c n) (dropped_made f c.«between» n made c.extracted)
    c.again

pub compacted_is_writable : CompactedIsWritable
compacted_is_writable f new n w c = extracted_is_writable (dropped c.«between») new (number_between f n new c n)
    (dropped_writable f c.«between» n w c.extracted) c.again

pub written_is_compacted : WrittenIsCompacted
written_is_compacted bytes text f new n w =
    let is : IsFile text new = reads_back new text (compacted_is_writable f new n (can_be_made bytes f w.within w.file) w.compacted) w.written w.text_within in
    (is, λ other h. ok_is other new (sym (IsFile-read_file text other h) ∙ IsFile-read_file text new is))

pub written_keeps_verdict : WrittenKeepsVerdict
written_keeps_verdict bytes text f new n w = (
  new,
  written_is_compacted bytes text f new n w,
  record { verdict = verdict_compacted f n new w.compacted; only = no_other_verdict f n new w.compacted; closed = closed_compacted f n new w.compacted },
)
