use Rattle.layout_laws.proofs.Reading.{is_made_of, passes_lines}
use Rattle.layout_laws.proofs.law.made_file_is_read.Goals as goal

pub returns : goal.returns
returns c = record {
  made = is_made_of;
  passes = passes_lines;
}
