-- Bytes that are fed while they come.
use Rattle.std.proofs.Common.{◌≡◌, ℕ, ◌+◌, ◌≤◌, ◌<◌, take, List, [], ◌++◌, length, Option, refl, subst, arith}
use Rattle.std.proofs.lemmas.List.{append-nil, length-append, length-take}
use Rattle.std.specs.Io.KnownBytes.{Consumes, IsAtEnd}
use Rattle.iges_base.specs.declared.TheConstants.{FILE_LIMIT}
use Rattle.iges_io.proofs.Streams.{consumes_none, consumes_more, told_all, told_above}
use Rattle.iges_lines.specs.Feeding.{Fed, IsFed}
use Rattle.command_replies.specs.Replies.{IsFedTold, IsReply, IsTooLarge}
use Rattle.command_replies.specs.declared.answer.Answer.TheVariants.{TooLarge}
use Rattle.command_replies.specs.declared.reply.Reply.{Reply}

-- so many bytes were taken off, and the feed stands for them
pub record IsFedSoFar (before now : Option (List ℕ)) (feed : Fed) (came : ℕ) : Type 0 where
  pub bytes : List ℕ
  pub taken : Consumes before now bytes
  pub fed : IsFed feed bytes
  pub long : length bytes ≡ came

pub so_far_none : (left : Option (List ℕ)) (feed : Fed) → IsFed feed [] → IsFedSoFar left left feed 0
so_far_none left feed h = record { bytes = []; taken = consumes_none left; fed = h; long = refl }

pub so_far_more : (a b c : Option (List ℕ)) (old new : Fed) (came count : ℕ) (x : List ℕ) → IsFedSoFar a b old came → Consumes b c x → length x ≡ count
    → ((bytes : List ℕ) → IsFed old bytes → IsFed new (bytes ++ x)) → IsFedSoFar a c new (came + count)
so_far_more a b c old new came count x s k is next =
    let long = s.long in
    record {
      bytes = s.bytes ++ x;
      taken = consumes_more a b c s.bytes x s.taken k;
      fed = next s.bytes s.fed;
      long =
          omega (arith, long, is, length-append s.bytes x);
    }

pub fed_told : (a b c : Option (List ℕ)) (feed : Fed) (came : ℕ) → IsFedSoFar a b feed came → came ≤ FILE_LIMIT → Consumes b c [] → IsAtEnd c → IsFedTold a feed
fed_told a b c feed came s h k e =
    let long = s.long in
    record {
      bytes = s.bytes;
      told = told_all a c s.bytes (subst (Consumes a c) (append-nil s.bytes) (consumes_more a b c s.bytes [] s.taken k)) e;
      few =
          (let f : length s.bytes ≤ FILE_LIMIT = omega (arith, long, h) in f);
      fed = s.fed;
    }

pub too_many : (limit : ℕ) (a b c : Option (List ℕ)) (feed : Fed) (came : ℕ) (x : List ℕ) (reply : Reply) → IsFedSoFar a b feed came → Consumes b c x
    → limit < came + length x → (reply.answer ≡ TooLarge) × (reply.text ≡ []) → IsReply (IsTooLarge limit) a reply
too_many limit a b c feed came x reply s k above exact =
    let long = s.long in
    let t = told_above a b c s.bytes x limit s.taken k (let h : limit < length s.bytes + length x = omega (arith, above, long) in h) in
    record { bytes = t.0; told = t.1; owed = (t.2, exact) }

pub read_long : (buf : List ℕ) (count : ℕ) → count ≤ length buf → length (take count buf) ≡ count
read_long buf count h = omega (arith, h, length-take count buf)
