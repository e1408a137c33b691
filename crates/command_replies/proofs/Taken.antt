-- How many bytes are taken off a source.
use Rattle.std.proofs.Common.{◌≡◌, ℕ, ◌+◌, ◌-◌, ◌≤◌, List, take, length, Option, Result, Ok, Err, arith}
use Rattle.std.specs.Io.KnownBytes.{Consumes}
use Rattle.iges_io.specs.Reading.{TakesAtMost}
use Rattle.iges_io.specs.declared.reading.TheConstants.{PIECE}
use Rattle.iges_io.proofs.Streams.{takes_front, takes_more}
use Rattle.command_replies.specs.declared.reply.Stop.{Stop}
use Rattle.command_replies.specs.Replies.{TakesWithin}

-- a piece came within the limit
pub takes_piece : (a b c : Option (List ℕ)) (xs buffer : List ℕ) (came count most : ℕ) → Consumes a b xs → length xs ≡ came → Consumes b c (take count buffer)
    → came + count ≤ most → TakesAtMost most a c
takes_piece a b c xs buffer came count most h long k few = takes_front a b c xs buffer count most h k (omega (arith, long, few))

-- a piece came past the limit
pub takes_past : (a b c : Option (List ℕ)) (xs ys : List ℕ) (came room limit : ℕ) → Consumes a b xs → length xs ≡ came → Consumes b c ys → came ≤ limit
    → length ys ≤ room → room ≡ PIECE → TakesAtMost (limit + PIECE) a c
takes_past a b c xs ys came room limit h long k few within is = takes_more a b c xs ys (limit + PIECE) h k (omega (arith, long, few, within, is))

-- or past what is left of it behind so many bytes
pub rest_past : (a b c : Option (List ℕ)) (xs ys : List ℕ) (came so_far room limit : ℕ) → Consumes a b xs → came + length xs ≡ so_far → Consumes b c ys
    → so_far ≤ limit → length ys ≤ room → room ≡ PIECE → TakesAtMost (limit - came + PIECE) a c
rest_past a b c xs ys came so_far room limit h long k few within is = takes_more a b c xs ys (limit - came + PIECE) h k (omega (arith, long, few, within, is))

-- behind so many bytes what is left of the limit is taken
pub within_behind : {T : Type 0} (a b c : Option (List ℕ)) (xs : List ℕ) (came limit : ℕ) (result : Result T Stop) → Consumes a b xs → length xs ≡ came
    → came ≤ limit → TakesWithin (limit - came) b c result → TakesWithin limit a c result
within_behind a b c xs came limit (Ok x) h long few k = takes_more a b c xs k.0 (limit + PIECE) h k.1 (omega (arith, long, few, k.2))
within_behind a b c xs came limit (Err stop) h long few k = takes_more a b c xs k.0 limit h k.1 (omega (arith, long, few, k.2))

-- no more than the limit was taken, whatever was answered
pub within_few : {T : Type 0} (limit : ℕ) (a b : Option (List ℕ)) (result : Result T Stop) → TakesAtMost limit a b → TakesWithin limit a b result
within_few limit a b (Ok x) h = (h.0, h.1, omega (arith, h.2))
within_few limit a b (Err stop) h = h
