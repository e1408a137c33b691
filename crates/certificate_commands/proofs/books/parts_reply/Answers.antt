use Rattle.std.proofs.Common.{◌≡◌, ◌∙◌, ◌-◌, [], length, refl, arith}
use Rattle.std.proofs.Common.{ap, sym, ◌++◌, List, ℕ}
use Rattle.iges_io.specs.declared.reading.TheConstants.{PIECE}
use Rattle.cert_text.specs.declared.TheConstants.{CERT_LIMIT}
use Rattle.command_replies.specs.Texts.{accepted_line}
use Rattle.certificate_commands.specs.Books.{passed}
use Rattle.certificate_commands.proofs.Judged.{accepted_more}
use Rattle.certificate_commands.proofs.PartsRead.{reads_since, nearer, since_takes, takes_few, taken_more, taken_none, told_more}
use Rattle.std.proofs.lemmas.Result.{IfOk-from_err}
use Rattle.certificate_commands.proofs.Readings.{ran_out, stopped_so, went_on}
use Rattle.certificate_commands.proofs.books.parts_reply.Goals as goal

pub parts-init : goal.parts-init
parts-init g c = record {
  file = refl;
  place = c.requires.place;
  since = taken_none _ c.args.begun.came;
  told = λ before h. ([], h, c.new-out.ensures);
  count = refl;
  room = c.requires.room;
  ready = c.requires.ready;
}

pub parts-preserved : goal.parts-preserved
parts-preserved g c =
    let leaves = rw c.in-Next.is at (c.in_ok-next.ensures {u = tt}).leaves in
    let more = rw c.in-Next.is at (c.in_ok-next.ensures {u = tt}).more in
    record {
      file = c.judge_part.ensures.file ∙ c.parts.invariant.file;
      place = leaves.place;
      since = taken_more _ _ _ c.args.begun.came c.judge_part.new.piece c.parts.begun c.in-Next.next c.parts.invariant.since leaves;
      told = told_more c.args.walker.now _ _ _ c.args.piece.now _ c.judge_part.new.piece c.args.begun c.parts.begun c.in-Next.next _ c.put_accepted.new.out
          c.parts.invariant.told
          (λ ns before h. rw c.in-Next.is at ((rw c.parts.invariant.file at (c.in_ok-next.ensures {u = tt}).found) ns before h))
          (c.in_ok-put_accepted-in-Next.ensures {u = tt});
      count = (c.in_ok-next.ensures {u = tt}).reads.count ∙ c.parts.invariant.count;
      room = (let h : length c.judge_part.new.piece ≡ PIECE = omega arith in h);
      ready = more tt;
    }

pub parts-smaller : goal.parts-smaller
parts-smaller g c =
    let leaves = rw c.in-Next.is at (c.in_ok-next.ensures {u = tt}).leaves in
    nearer CERT_LIMIT c.in-Next.next.came (c.in-Next.next.to - c.in-Next.next.from) (passed c.parts.begun) leaves.further leaves.place.few

pub returns-in-Last-clause-found : goal.returns-in-Last-clause-found
returns-in-Last-clause-found g c = λ before h.
    let at = c.parts.invariant.told before h in
    let owed = rw c.in-Last.is at ((rw c.parts.invariant.file at (c.in_ok-next.ensures {u = tt}).found) at.0 before at.1) in
    owed _ (
      refl,
      c.into_bytes.ensures ∙ (c.in_ok-put_accepted-in-Last.ensures {u = tt}) ∙ ap (λ (t : List ℕ). t ++ accepted_line c.parts.begun.no.0) at.2
          ∙ sym (accepted_more at.0 c.parts.begun.no.0),
    )

pub returns-in-Decided-clause-found : goal.returns-in-Decided-clause-found
returns-in-Decided-clause-found g c = λ before h.
    let at = c.parts.invariant.told before h in
    rw c.in-Decided.is at ((rw c.parts.invariant.file at (c.in_ok-next.ensures {u = tt}).found) at.0 before at.1)

pub returns-in_err-next-clause-found : goal.returns-in_err-next-clause-found
returns-in_err-next-clause-found g c = λ before h. IfOk-from_err c.from_residual.result _ c.from_residual.ensures.0

pub returns-in_err-next-clause-whole : goal.returns-in_err-next-clause-whole
returns-in_err-next-clause-whole g c = IfOk-from_err c.from_residual.result _ c.from_residual.ensures.0

pub returns-in_err-next-clause-reads : goal.returns-in_err-next-clause-reads
returns-in_err-next-clause-reads g c = stopped_so _ _ _ _ _ _ c.from_residual.result c.from_residual.ensures.1
    (reads_since _ _ _ c.args.begun.came c.parts.begun.came _ _ _ _ c.parts.invariant.since c.parts.invariant.place.few c.parts.invariant.count
    (c.in_err-next.ensures {u = tt}).reads)

pub returns-in_err-put_accepted-in-Next-clause-found : goal.returns-in_err-put_accepted-in-Next-clause-found
returns-in_err-put_accepted-in-Next-clause-found g c = λ before h. IfOk-from_err c.from_residual-in_err-put_accepted-in-Next.result _
    c.from_residual-in_err-put_accepted-in-Next.ensures.0

pub returns-in_err-put_accepted-in-Next-clause-whole : goal.returns-in_err-put_accepted-in-Next-clause-whole
returns-in_err-put_accepted-in-Next-clause-whole g c = IfOk-from_err c.from_residual-in_err-put_accepted-in-Next.result _
    c.from_residual-in_err-put_accepted-in-Next.ensures.0

pub returns-in_err-put_accepted-in-Next-clause-reads : goal.returns-in_err-put_accepted-in-Next-clause-reads
returns-in_err-put_accepted-in-Next-clause-reads g c =
    let leaves = rw c.in-Next.is at (c.in_ok-next.ensures {u = tt}).leaves in
    let since = taken_more _ _ _ c.args.begun.came c.judge_part.new.piece c.parts.begun c.in-Next.next c.parts.invariant.since leaves in
    ran_out _ _ _ _ _ _ c.from_residual-in_err-put_accepted-in-Next.ensures.1 ((c.in_ok-next.ensures {u = tt}).reads.count ∙ c.parts.invariant.count)
    (since_takes _ _ _ _ since leaves.place.few)

pub returns-in_err-put_accepted-in-Last-clause-found : goal.returns-in_err-put_accepted-in-Last-clause-found
returns-in_err-put_accepted-in-Last-clause-found g c = λ before h. IfOk-from_err c.from_residual-in_err-put_accepted-in-Last.result _
    c.from_residual-in_err-put_accepted-in-Last.ensures.0

pub returns-in_err-put_accepted-in-Last-clause-whole : goal.returns-in_err-put_accepted-in-Last-clause-whole
returns-in_err-put_accepted-in-Last-clause-whole g c = IfOk-from_err c.from_residual-in_err-put_accepted-in-Last.result _
    c.from_residual-in_err-put_accepted-in-Last.ensures.0

pub returns-in_err-put_accepted-in-Last-clause-reads : goal.returns-in_err-put_accepted-in-Last-clause-reads
returns-in_err-put_accepted-in-Last-clause-reads g c =
    let leaves = rw c.in-Last.is at (c.in_ok-next.ensures {u = tt}).leaves in
    ran_out _ _ _ _ _ _ c.from_residual-in_err-put_accepted-in-Last.ensures.1 ((c.in_ok-next.ensures {u = tt}).reads.count ∙ c.parts.invariant.count)
    (takes_few _ _ _ c.args.begun.came c.parts.begun.came c.parts.invariant.since c.parts.invariant.place.few leaves.1)

pub returns-in-Last-clause-whole : goal.returns-in-Last-clause-whole
returns-in-Last-clause-whole g c =
    let leaves = rw c.in-Last.is at (c.in_ok-next.ensures {u = tt}).leaves in
    leaves.0

pub returns-in-Last-clause-reads : goal.returns-in-Last-clause-reads
returns-in-Last-clause-reads g c =
    went_on _ _ _ _ _ _ _ (reads_since _ _ _ c.args.begun.came c.parts.begun.came _ _ _ _ c.parts.invariant.since c.parts.invariant.place.few
    c.parts.invariant.count (c.in_ok-next.ensures {u = tt}).reads)

pub returns-in-Decided-clause-whole : goal.returns-in-Decided-clause-whole
returns-in-Decided-clause-whole g c = rw c.in-Decided.is at (c.in_ok-next.ensures {u = tt}).leaves

pub returns-in-Decided-clause-reads : goal.returns-in-Decided-clause-reads
returns-in-Decided-clause-reads g c =
    went_on _ _ _ _ _ _ _ (reads_since _ _ _ c.args.begun.came c.parts.begun.came _ _ _ _ c.parts.invariant.since c.parts.invariant.place.few
    c.parts.invariant.count (c.in_ok-next.ensures {u = tt}).reads)

pub judge_part-requires : goal.judge_part-requires
judge_part-requires g c = record { ready = c.parts.invariant.ready; room = c.parts.invariant.room; place = c.parts.invariant.place }
