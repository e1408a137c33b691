-- What calls that read a certificate do to its source.
use Rattle.std.proofs.Common.{◌≡◌, ℕ, ◌-◌, ◌≤◌, List, [], length, Option, Result, Ok, Err, refl, sym, subst, arith}
use Rattle.std.specs.Result.{IsErrAnd}
use Rattle.std.proofs.lemmas.Result.{err_from_is_err_and}
use Rattle.std.specs.Io.KnownBytes.{Consumes, IsAtEnd}
use Rattle.iges_io.specs.Reading.{TakesAtMost}
use Rattle.iges_io.proofs.Streams.{consumes_none}
use Rattle.cert_text.specs.declared.TheConstants.{CERT_LIMIT}
use Rattle.topo_certificate.specs.Feeding.{FedState}
use Rattle.command_replies.specs.declared.answer.Answer.{Answer}
use Rattle.command_replies.specs.declared.answer.Answer.TheVariants.{Done, No, Usage, BadFile, ReadFault, WriteFault, NoMemory, NoExtract, TooLarge}
use Rattle.command_replies.specs.declared.reply.Reply.{Reply}
use Rattle.command_replies.specs.declared.reply.Stop.{Stop}
use Rattle.command_replies.specs.declared.reply.Stop.TheVariants.{OutOfMemory}
use Rattle.command_replies.specs.Outcome.{ReadsCertificate}
use Rattle.command_replies.specs.Replies.{CountAfterCall}
use Rattle.command_replies.proofs.Taken.{within_behind}
use Rattle.certificate_commands.specs.Judging.{IsRestFed, IsRestRead, ReadsOn}

-- ---- a certificate that was read to its end

pub ended_whole : (after : Option (List ℕ)) (a : Answer) → IsAtEnd after → ReadsCertificate after a
ended_whole after Done e = e
ended_whole after No e = e
ended_whole after Usage e = tt
ended_whole after BadFile e = tt
ended_whole after ReadFault e = tt
ended_whole after WriteFault e = tt
ended_whole after NoMemory e = tt
ended_whole after NoExtract e = tt
ended_whole after TooLarge e = tt

-- or that is too large
pub large_whole : (after : Option (List ℕ)) (reply : Reply) → reply.answer ≡ TooLarge → ReadsCertificate after reply.answer
large_whole after reply large = subst (ReadsCertificate after) (sym large) tt

module _ (before after : Option (List ℕ)) (came : ℕ) where
  pub read_takes : IsRestRead before after came → TakesAtMost (CERT_LIMIT - came) before after
  read_takes h = let few = h.few in (h.bytes, h.taken, (let n : length h.bytes ≤ CERT_LIMIT - came = omega (arith, few) in n))

  pub fed_takes : (old new : FedState) → IsRestFed before after came old new → TakesAtMost (CERT_LIMIT - came) before after
  fed_takes old new h = let few = h.few in (h.bytes, h.taken, (let n : length h.bytes ≤ CERT_LIMIT - came = omega (arith, few) in n))

-- ---- one call after another

module _ {T : Type 0} (limit : ℕ) (before after : Option (List ℕ)) (old new : ℕ) where
  -- the call that was made last went well
  pub went_on : {U : Type 0} (x : U) (y : T) → ReadsOn {T = U} limit before after old new (Ok x) → ReadsOn {T = T} limit before after old new (Ok y)
  went_on x y h = record { count = h.count; taken = h.taken }

  -- or it stopped, and so does this one
  pub stopped_so : {U : Type 0} (stop : Stop) (r : Result T Stop) → IsErrAnd r (λ s. s ≡ stop) → ReadsOn {T = U} limit before after old new (Err stop)
      → ReadsOn {T = T} limit before after old new r
  stopped_so stop r is h =
      let p = err_from_is_err_and r is in
      let same : r ≡ Err stop = rw (p.1, p.2) refl in
      subst (λ (x : Result T Stop). ReadsOn limit before after old new x) (sym same) (record { count = h.count; taken = h.taken })

  -- memory ran out
  pub ran_out : (r : Result T Stop) → IsErrAnd r (λ s. s ≡ OutOfMemory) → new ≡ old → TakesAtMost limit before after
      → ReadsOn {T = T} limit before after old new r
  ran_out r is count taken =
      let p = err_from_is_err_and r is in
      let same : r ≡ Err OutOfMemory = rw (p.1, p.2) refl in
      subst (λ (x : Result T Stop). ReadsOn limit before after old new x) (sym same) (record { count = count; taken = taken })

-- memory ran out before anything was read
pub ran_out_first : {T : Type 0} (limit : ℕ) (left : Option (List ℕ)) (count : ℕ) (r : Result T Stop) → IsErrAnd r (λ s. s ≡ OutOfMemory)
    → ReadsOn {T = T} limit left left count count r
ran_out_first limit left count r is = ran_out limit left left count count r is refl ([], consumes_none left, omega arith)

-- the call that was made last did all that a call behind so many bytes does
pub reads_behind : {T : Type 0} (a b c : Option (List ℕ)) (xs : List ℕ) (came limit old mid new : ℕ) (r : Result T Stop) → Consumes a b xs → length xs ≡ came
    → came ≤ limit → mid ≡ old → ReadsOn {T = T} (limit - came) b c mid new r → ReadsOn {T = T} limit a c old new r
reads_behind a b c xs came limit old mid new r k long few same h = record {
  count = subst (λ (n : ℕ). CountAfterCall n new r) same h.count;
  taken = within_behind a b c xs came limit r k long few h.taken;
}
