use Rattle.std.proofs.Common.{refl, subst, ap, ◌≡◌, ◌≤◌, ◌+◌, arith}
use Rattle.std.proofs.lemmas.Result.{err_from_is_err_and}
use Rattle.solid_data.specs.SolidData.{SolidData}
use Rattle.solid_data.specs.Obligations.{AllHold}
use Rattle.shell_rules.specs.ShellObligations.{solid_obligations}
use Rattle.cert_maker.specs.Book.{uses_of, use_limit}
use Rattle.cert_maker.proofs.BookLemmas.{uses_are, shells_fault}
use Rattle.cert_maker.proofs.book.solid_part.Goals as goal

pub returns-then-used-gt-USE_LIMIT-clause-fault : goal.returns-then-used-gt-USE_LIMIT-clause-fault
returns-then-used-gt-USE_LIMIT-clause-fault c =
    let uses : c.use_count.result ≡ uses_of c.args.walker.now c.args.no.0 = uses_are c.args.walker.now c.args.no.0 c.use_count.result c.in_ok-solid.solid
    c.in_ok-solid.ensures.solid c.use_count.ensures in
    (refl, c.in_ok-solid.ensures.holds, omega (arith, uses, c.if-used-gt-USE_LIMIT.true))

pub returns-in_err-certificate-clause-fault : goal.returns-in_err-certificate-clause-fault
returns-in_err-certificate-clause-fault c =
    let uses : c.use_count.result ≡ uses_of c.args.walker.now c.args.no.0 = uses_are c.args.walker.now c.args.no.0 c.use_count.result c.in_ok-solid.solid
    c.in_ok-solid.ensures.solid c.use_count.ensures in
    let few : c.args.used + uses_of c.args.walker.now c.args.no.0 ≤ use_limit = omega (arith, uses, c.if-used-gt-USE_LIMIT.false) in
    let p = err_from_is_err_and c.from_residual-in_err-certificate.result c.from_residual-in_err-certificate.ensures.1 in
    rw (p.1, p.2) (shells_fault c.args.walker.now c.args.used c.args.no.0 c.in_ok-solid.solid c.in_err-certificate.field-0.0 c.in_ok-solid.ensures.solid
    c.in_ok-solid.ensures.holds few c.in_err-certificate.ensures.fault)

pub returns-clause-used : goal.returns-clause-used
returns-clause-used c =
    ap (λ n. c.args.used + n) (uses_are c.args.walker.now c.args.no.0 c.use_count.result c.in_ok-solid.solid c.in_ok-solid.ensures.solid c.use_count.ensures)

pub returns-clause-made : goal.returns-clause-made
returns-clause-made c =
    let uses : c.use_count.result ≡ uses_of c.args.walker.now c.args.no.0 = uses_are c.args.walker.now c.args.no.0 c.use_count.result c.in_ok-solid.solid
    c.in_ok-solid.ensures.solid c.use_count.ensures in (
      c.in_ok-solid.ensures.holds,
      omega (arith, uses, c.if-used-gt-USE_LIMIT.false),
      subst (λ (s : SolidData). AllHold (solid_obligations s))
          c.in_ok-solid.ensures.solid c.in_ok-certificate.ensures.holds,
    )
