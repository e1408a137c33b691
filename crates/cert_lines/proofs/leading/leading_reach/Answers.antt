use Rattle.cert_lines.proofs.LeadingLines.{reach_leads}
use Rattle.cert_lines.proofs.leading.leading_reach.Goals as goal

pub returns-in-Some-after_byte : goal.returns-in-Some-after_byte
returns-in-Some-after_byte c = reach_leads c.args.text.now c.in-Some.numbers.now c.in-Some-next_number.rest.now c.in-Some-after_byte.after.now c.in-Some-next_number.row
    c.in-Some.ensures c.in-Some-next_number.ensures c.in-Some-after_byte.ensures
