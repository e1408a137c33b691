use Rattle.cert_lines.proofs.LeadingLines.{edge_leads}
use Rattle.cert_lines.proofs.leading.leading_edge.Goals as goal

pub returns-in-Some-after_byte : goal.returns-in-Some-after_byte
returns-in-Some-after_byte c = edge_leads c.args.text.now c.in-Some.numbers.now c.in-Some-next_number.rest.now c.in-Some-next_number-2.rest.now
    c.in-Some-after_byte.after.now c.in-Some-next_number.along c.in-Some-next_number-2.against
    c.in-Some.ensures c.in-Some-next_number.ensures c.in-Some-next_number-2.ensures c.in-Some-after_byte.ensures
