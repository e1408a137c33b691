use Rattle.std.proofs.Common.{◌<◌, length, arith}
use Rattle.iges_params.specs.Solids.{solids_of}
use Rattle.cert_maker.specs.Book.{IsCertificateOf}
use Rattle.cert_maker.proofs.Zipping.{zip_length}
use Rattle.command_replies.proofs.Owing.{owed_so}
use Rattle.command_replies.proofs.Replying.{reply_owed}
use Rattle.iges_solid_cmd.specs.Due.{OfCertifyAll, no_solid, one_fails, too_many, all_certified}
use Rattle.iges_solid_cmd.proofs.certifying.certify_solids.Goals as goal

pub returns-in-Err-Fails : goal.returns-in-Err-Fails
returns-in-Err-Fails c =
    let first = rw c.in-Err-Fails.field-0-is at c.in-Err-Fails.ensures.fault in
    reply_owed (OfCertifyAll c.args.file) _ _ c.solid_failed.result (one_fails c.in-Err-Fails.solid c.in-Err-Fails.failing first) c.solid_failed.ensures

pub returns-in-Err-NoSolid : goal.returns-in-Err-NoSolid
returns-in-Err-NoSolid c =
    let none = rw c.in-Err-NoSolid.field-0-is at c.in-Err-NoSolid.ensures.fault in
    reply_owed (OfCertifyAll c.args.file) _ _ c.no_solid.result (no_solid none) c.no_solid.ensures

pub returns-in-Err-TooMany : goal.returns-in-Err-TooMany
returns-in-Err-TooMany c =
    let first = rw c.in-Err-TooMany.field-0-is at c.in-Err-TooMany.ensures.fault in
    owed_so (OfCertifyAll c.args.file) _ _ _ _ (too_many c.in-Err-TooMany.field-0-0 first) c.too_large.ensures.0 c.too_large.ensures.1

pub returns : goal.returns
returns c =
    let same = zip_length (IsCertificateOf c.args.file) (solids_of c.args.file) c.in-Ok.parts c.in-Ok.ensures.parts in
    let some = c.in-Ok.ensures.some in
    let above : 0 < length (solids_of c.args.file) = omega (arith, same, some) in
    all_certified _ above c.in-Ok.ensures.made (c.in-Ok.parts, c.in-Ok.ensures.parts, c.in_ok-write_book.ensures.text)
