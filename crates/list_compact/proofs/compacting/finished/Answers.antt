use Rattle.list_compact.proofs.FileSteps.{extracted_records}
use Rattle.list_compact.proofs.compacting.finished.Goals as goal

pub used_items-requires : goal.used_items-requires
used_items-requires c = let k = c.requires in extracted_records k.0 c.args.extraction.file k.1 k.2.extracted
