use Rattle.layout_laws.proofs.SameLines.{kept_sections, same_bytes}
use Rattle.layout_laws.proofs.law.good_file_stays.Goals as goal

pub returns : goal.returns
returns c = record {
  sections = λ bytes s within h. kept_sections bytes s within h;
  bytes = λ bytes s within h is. same_bytes bytes s within h is;
}
