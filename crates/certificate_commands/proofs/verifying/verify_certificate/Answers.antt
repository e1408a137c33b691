use Rattle.std.proofs.Common.{◌≡◌, ◌++◌, length, arith}
use Rattle.iges_io.specs.declared.reading.TheConstants.{PIECE}
use Rattle.cert_text.specs.declared.TheConstants.{CERT_LIMIT}
use Rattle.certificate_commands.proofs.Judged.{OfYes, too_large_owed, early_owed, bad_opening_decides, opened_place}
use Rattle.std.proofs.lemmas.Result.{IfOk-from_err}
use Rattle.certificate_commands.proofs.Readings.{ended_whole, large_whole, ran_out_first, reads_behind, stopped_so}
use Rattle.certificate_commands.proofs.verifying.verify_certificate.Goals as goal

pub returns-in-TooLarge-clause-found : goal.returns-in-TooLarge-clause-found
returns-in-TooLarge-clause-found g c =
    let many = rw c.in-TooLarge.is at (c.in_ok-opening_in.ensures {u = tt}).found in
    too_large_owed OfYes c.args.file _ many.0 _ c.too_large.result many.1 (omega (arith, many.2)) c.too_large.ensures

pub returns-in_ok-reply-in-Bad-clause-found : goal.returns-in_ok-reply-in-Bad-clause-found
returns-in_ok-reply-in-Bad-clause-found g c =
    let opened = rw c.in-Bad.is at (c.in_ok-opening_in.ensures {u = tt}).found in
    c.decided_reply.ensures.found c.args.file _ opened.bytes opened.taken opened.long
    (bad_opening_decides c.args.file opened.bytes c.in-Bad.bad c.in_ok-reply-in-Bad.reply opened.always (c.in_ok-reply-in-Bad.ensures {u = tt}))

pub returns-in-Both-clause-found : goal.returns-in-Both-clause-found
returns-in-Both-clause-found g c =
    let opened = rw c.in-Both.is at (c.in_ok-opening_in.ensures {u = tt}).found in
    c.verify_opened.ensures.found _ opened

pub returns-in_ok-illegal-in-Ended-clause-found : goal.returns-in_ok-illegal-in-Ended-clause-found
returns-in_ok-illegal-in-Ended-clause-found g c =
    let ended = rw c.in-Ended.is at (c.in_ok-opening_in.ensures {u = tt}).found in
    early_owed c.args.file _ _ c.in-Ended.bad c.in_ok-illegal-in-Ended.field-0 ended (c.in_ok-illegal-in-Ended.ensures {u = tt})

pub returns-in_ok-reply-in-Bad-clause-taken : goal.returns-in_ok-reply-in-Bad-clause-taken
returns-in_ok-reply-in-Bad-clause-taken g c =
    let opened = rw c.in-Bad.is at (c.in_ok-opening_in.ensures {u = tt}).found in
    (reads_behind _ _ _ opened.bytes c.in-Bad.came CERT_LIMIT _ _ _ c.decided_reply.result opened.taken opened.long opened.few
    (c.in_ok-opening_in.ensures {u = tt}).reads.count c.decided_reply.ensures.reads).taken

pub returns-in-Both-clause-taken : goal.returns-in-Both-clause-taken
returns-in-Both-clause-taken g c =
    let opened = rw c.in-Both.is at (c.in_ok-opening_in.ensures {u = tt}).found in
    (reads_behind _ _ _ (opened.front ++ opened.rest) c.in-Both.opened.came CERT_LIMIT _ _ _ c.verify_opened.result opened.taken opened.long opened.few
    (c.in_ok-opening_in.ensures {u = tt}).reads.count c.verify_opened.ensures.reads).taken

pub returns-in_err-room-clause-found : goal.returns-in_err-room-clause-found
returns-in_err-room-clause-found g c = IfOk-from_err c.from_residual.result _ c.from_residual.ensures.0

pub returns-in_err-room-clause-whole : goal.returns-in_err-room-clause-whole
returns-in_err-room-clause-whole g c = IfOk-from_err c.from_residual.result _ c.from_residual.ensures.0

pub returns-in_err-room-clause-count : goal.returns-in_err-room-clause-count
returns-in_err-room-clause-count g c =
    (ran_out_first CERT_LIMIT (g.C.Source.left c.args.cert.now) (g.C.Source.faults c.args.cert.now) c.from_residual.result c.from_residual.ensures.1).count

pub returns-in_err-room-clause-taken : goal.returns-in_err-room-clause-taken
returns-in_err-room-clause-taken g c =
    (ran_out_first CERT_LIMIT (g.C.Source.left c.args.cert.now) (g.C.Source.faults c.args.cert.now) c.from_residual.result c.from_residual.ensures.1).taken

pub returns-in_err-opening_in-clause-found : goal.returns-in_err-opening_in-clause-found
returns-in_err-opening_in-clause-found g c = IfOk-from_err c.from_residual-in_err-opening_in.result _ c.from_residual-in_err-opening_in.ensures.0

pub returns-in_err-opening_in-clause-whole : goal.returns-in_err-opening_in-clause-whole
returns-in_err-opening_in-clause-whole g c = IfOk-from_err c.from_residual-in_err-opening_in.result _ c.from_residual-in_err-opening_in.ensures.0

pub returns-in_err-opening_in-clause-count : goal.returns-in_err-opening_in-clause-count
returns-in_err-opening_in-clause-count g c =
    (stopped_so _ _ _ _ _ _ c.from_residual-in_err-opening_in.result c.from_residual-in_err-opening_in.ensures.1
    (c.in_err-opening_in.ensures {u = tt}).reads).count

pub returns-in_err-opening_in-clause-taken : goal.returns-in_err-opening_in-clause-taken
returns-in_err-opening_in-clause-taken g c =
    (stopped_so _ _ _ _ _ _ c.from_residual-in_err-opening_in.result c.from_residual-in_err-opening_in.ensures.1
    (c.in_err-opening_in.ensures {u = tt}).reads).taken

pub returns-in-TooLarge-clause-whole : goal.returns-in-TooLarge-clause-whole
returns-in-TooLarge-clause-whole g c = large_whole _ c.too_large.result c.too_large.ensures.0

pub returns-in-TooLarge-clause-count : goal.returns-in-TooLarge-clause-count
returns-in-TooLarge-clause-count g c = (c.in_ok-opening_in.ensures {u = tt}).reads.count

pub returns-in-TooLarge-clause-taken : goal.returns-in-TooLarge-clause-taken
returns-in-TooLarge-clause-taken g c = (c.in_ok-opening_in.ensures {u = tt}).reads.taken

pub returns-in_ok-illegal-in-Ended-clause-whole : goal.returns-in_ok-illegal-in-Ended-clause-whole
returns-in_ok-illegal-in-Ended-clause-whole g c = ended_whole _ _ (rw c.in-Ended.is at (c.in_ok-opening_in.ensures {u = tt}).found).ended

pub returns-in_ok-illegal-in-Ended-clause-count : goal.returns-in_ok-illegal-in-Ended-clause-count
returns-in_ok-illegal-in-Ended-clause-count g c = (c.in_ok-opening_in.ensures {u = tt}).reads.count

pub returns-in_ok-illegal-in-Ended-clause-taken : goal.returns-in_ok-illegal-in-Ended-clause-taken
returns-in_ok-illegal-in-Ended-clause-taken g c = (c.in_ok-opening_in.ensures {u = tt}).reads.taken

pub decided_reply-requires : goal.decided_reply-requires
decided_reply-requires g c =
    let opened = rw c.in-Bad.is at (c.in_ok-opening_in.ensures {u = tt}).found in
    record {
      ready = (rw c.in-Bad.is at (c.in_ok-opening_in.ensures {u = tt}).more) tt;
      room =
          (let h : length c.opening_in.new.piece ≡ PIECE = omega arith in h);
      few = opened.few;
    }

pub returns-in_ok-reply-in-Bad-clause-whole : goal.returns-in_ok-reply-in-Bad-clause-whole
returns-in_ok-reply-in-Bad-clause-whole g c = c.decided_reply.ensures.whole

pub returns-in_ok-reply-in-Bad-clause-count : goal.returns-in_ok-reply-in-Bad-clause-count
returns-in_ok-reply-in-Bad-clause-count g c =
    let opened = rw c.in-Bad.is at (c.in_ok-opening_in.ensures {u = tt}).found in
    (reads_behind _ _ _ opened.bytes c.in-Bad.came CERT_LIMIT _ _ _ c.decided_reply.result opened.taken opened.long opened.few
    (c.in_ok-opening_in.ensures {u = tt}).reads.count c.decided_reply.ensures.reads).count

pub verify_opened-requires : goal.verify_opened-requires
verify_opened-requires g c =
    let opened = rw c.in-Both.is at (c.in_ok-opening_in.ensures {u = tt}).found in
    record {
      ready = (rw c.in-Both.is at (c.in_ok-opening_in.ensures {u = tt}).more) tt;
      room =
          (let h : length c.opening_in.new.piece ≡ PIECE = omega arith in h);
      place = opened_place _ _ _ c.in-Both.opened opened;
    }

pub returns-in-Both-clause-whole : goal.returns-in-Both-clause-whole
returns-in-Both-clause-whole g c = c.verify_opened.ensures.whole

pub returns-in-Both-clause-count : goal.returns-in-Both-clause-count
returns-in-Both-clause-count g c =
    let opened = rw c.in-Both.is at (c.in_ok-opening_in.ensures {u = tt}).found in
    (reads_behind _ _ _ (opened.front ++ opened.rest) c.in-Both.opened.came CERT_LIMIT _ _ _ c.verify_opened.result opened.taken opened.long opened.few
    (c.in_ok-opening_in.ensures {u = tt}).reads.count c.verify_opened.ensures.reads).count
