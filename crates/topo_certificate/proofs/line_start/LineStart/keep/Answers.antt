use Rattle.std.proofs.Common.{arith}
use Rattle.topo_certificate.proofs.OpeningLines.{kept_full, kept_all}
use Rattle.topo_certificate.proofs.line_start.LineStart.keep.Goals as goal

pub returns-else-len : goal.returns-else-len
returns-else-len c = kept_full c.args.self.now c.args.bytes.now c.bytes.self c.bytes.i c.bytes.invariant.kept
    (let few = c.bytes.invariant.few in omega (arith, few, c.len.ensures, c.if-len.false))

pub returns-after-bytes : goal.returns-after-bytes
returns-after-bytes c = kept_all c.args.self.now c.args.bytes.now c.bytes.self c.bytes.i c.bytes.invariant.kept
    (let within = c.bytes.invariant.within in omega (arith, within, c.bytes-test.false)) c.bytes.invariant.few
