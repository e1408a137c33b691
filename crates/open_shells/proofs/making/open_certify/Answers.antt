use Rattle.std.proofs.lemmas.Result.{err_from_is_err_and}
use Rattle.open_certificate.specs.Obligations.{open_obligations}
use Rattle.open_certificate.specs.declared.parts.OpenCertificate.{OpenCertificate}
use Rattle.open_shells.proofs.Certifying.{certificate_made, certificate_accepted, only_memory, only_so, never}
use Rattle.open_shells.proofs.making.open_certify.Goals as goal

pub returns-in_err-made-clause-only : goal.returns-in_err-made-clause-only
returns-in_err-made-clause-only c all =
    let p = err_from_is_err_and c.from_residual.result c.from_residual.ensures.1 in
    rw (p.1, p.2) (only_memory (open_obligations c.args.solid.now) c.in_err-made.field-0.0 c.in_err-made.ensures.fails all)

pub returns-in_err-made-clause-only_fault : goal.returns-in_err-made-clause-only_fault
returns-in_err-made-clause-only_fault c x first =
    let p = err_from_is_err_and c.from_residual.result c.from_residual.ensures.1 in
    rw (p.1, p.2) (only_so OpenCertificate (open_obligations c.args.solid.now) c.in_err-made.field-0.0 x c.in_err-made.ensures.fails first)

pub returns-clause-certificate : goal.returns-clause-certificate
returns-clause-certificate c =
    certificate_made c.args.solid.now c.requires.shell c.in_ok-made.made c.in_ok-made.ensures.numbered c.requires.alone c.in_ok-made.ensures.once
    c.in_ok-made.ensures.holds c.in_ok-made.ensures.parts c.in_ok-made.ensures.names c.in_ok-made.ensures.rows c.in_ok-made.ensures.faces

pub returns-clause-accepted : goal.returns-clause-accepted
returns-clause-accepted c =
    certificate_accepted c.args.solid.now c.requires.shell c.in_ok-made.made c.requires.alone c.in_ok-made.ensures.holds
    (certificate_made c.args.solid.now c.requires.shell c.in_ok-made.made c.in_ok-made.ensures.numbered c.requires.alone c.in_ok-made.ensures.once
    c.in_ok-made.ensures.holds c.in_ok-made.ensures.parts c.in_ok-made.ensures.names c.in_ok-made.ensures.rows c.in_ok-made.ensures.faces)

pub returns-clause-only_fault : goal.returns-clause-only_fault
returns-clause-only_fault c x first = never (open_obligations c.args.solid.now) x c.in_ok-made.ensures.holds first
