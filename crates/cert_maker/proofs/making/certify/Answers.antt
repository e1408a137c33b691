use Rattle.std.proofs.Common.{refl, subst}
use Rattle.std.proofs.lemmas.Result.{err_from_is_err_and}
use Rattle.cert_lines.specs.declared.version.Version.TheVariants.{Two}
use Rattle.shell_rules.specs.ShellObligations.{solid_obligations}
use Rattle.cert_lines.specs.declared.parts.Certificate.{Certificate}
use Rattle.cert_maker.specs.Certified.{IsCertificate}
use Rattle.cert_maker.proofs.Certifying.{certificate_made, certificate_accepted}
use Rattle.shell_rules.proofs.Shells.{only_memory, only_so, never}
use Rattle.cert_maker.proofs.making.certify.Goals as goal

pub returns-in_err-shells-clause-only : goal.returns-in_err-shells-clause-only
returns-in_err-shells-clause-only c all =
    let p = err_from_is_err_and c.from_residual.result c.from_residual.ensures.1 in
    rw (p.1, p.2) (only_memory (solid_obligations c.args.solid.now) c.in_err-shells.field-0.0 c.in_err-shells.ensures.fails all)

pub returns-in_err-shells-clause-only_fault : goal.returns-in_err-shells-clause-only_fault
returns-in_err-shells-clause-only_fault c x first =
    let p = err_from_is_err_and c.from_residual.result c.from_residual.ensures.1 in
    rw (p.1, p.2) (only_so Certificate (solid_obligations c.args.solid.now) c.in_err-shells.field-0.0 x c.in_err-shells.ensures.fails first)

pub returns-clause-certificate : goal.returns-clause-certificate
returns-clause-certificate c =
    certificate_made c.args.solid.now (record { version = Two; solid = c.entity.result; shells = c.in_ok-shells.shells }) c.entity.ensures.numbered refl
    c.entity.ensures.entity c.in_ok-shells.ensures.holds c.in_ok-shells.ensures.parts

pub returns-clause-accepted : goal.returns-clause-accepted
returns-clause-accepted c =
    certificate_accepted c.args.solid.now (record { version = Two; solid = c.entity.result; shells = c.in_ok-shells.shells })
    (certificate_made c.args.solid.now (record { version = Two; solid = c.entity.result; shells = c.in_ok-shells.shells }) c.entity.ensures.numbered refl
    c.entity.ensures.entity c.in_ok-shells.ensures.holds c.in_ok-shells.ensures.parts)

pub returns-clause-only_fault : goal.returns-clause-only_fault
returns-clause-only_fault c x first = never (solid_obligations c.args.solid.now) x c.in_ok-shells.ensures.holds first

pub returns-clause-text : goal.returns-clause-text
returns-clause-text c f n same =
    let certificate : Certificate = record { version = Two; solid = c.entity.result; shells = c.in_ok-shells.shells } in
    let made : IsCertificate c.args.solid.now certificate = certificate_made c.args.solid.now certificate c.entity.ensures.numbered refl
    c.entity.ensures.entity c.in_ok-shells.ensures.holds c.in_ok-shells.ensures.parts in
    (certificate, subst (λ s. IsCertificate s certificate) same made, refl)
