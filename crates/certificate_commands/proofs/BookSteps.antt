-- How the reading of a book goes on from part to part.
use Rattle.std.proofs.Common.{◌≡◌, ◌∙◌, ℕ, ◌+◌, ◌-◌, ◌≤◌, ◌<◌, List, [], ◌∷◌, ◌++◌, flat_map, take, drop, length, Option, sym, ap, subst}
use Rattle.std.proofs.Common.{arith, append_assoc}
use Rattle.std.proofs.lemmas.List.{length-append, length-take, length-drop, take_rest, take-append-drop}
use Rattle.std.specs.Io.KnownBytes.{Consumes}
use Rattle.iges_io.specs.Reading.{TakesAtMost, Told}
use Rattle.iges_io.proofs.Streams.{consumes_more, told_all}
use Rattle.iges_params.specs.Contents.{Contents}
use Rattle.solid_data.specs.SolidData.{SolidData}
use Rattle.cert_lines.specs.Line.{cut_lines}
use Rattle.cert_lines.specs.Opening.{Opens, IsHeaded}
use Rattle.cert_text.specs.declared.fault.Illegal.{Illegal}
use Rattle.cert_lines.specs.declared.version.Version.TheVariants.{Two, Three}
use Rattle.cert_text.specs.declared.TheConstants.{CERT_LIMIT}
use Rattle.topo_certificate.specs.Feeding.{FedState, IsFedPart}
use Rattle.topo_certificate.specs.Legal.{IsLegal, IsPartBad}
use Rattle.topo_certificate.specs.PartEnds.{EndsPart}
use Rattle.cert_accept.specs.Accepted.{part_lines}
use Rattle.command_replies.specs.declared.answer.Answer.{Answer}
use Rattle.command_replies.specs.declared.answer.Answer.TheVariants.{Done, No, TooLarge}
use Rattle.certificate_commands.specs.declared.books.NextSolid.{NextSolid}
use Rattle.certificate_commands.specs.declared.books.PartStart.{PartStart}
use Rattle.command_replies.specs.declared.reply.Reply.{Reply}
use Rattle.command_replies.specs.Texts.{accepted_lines, illegal_line, solid_fail_text}
use Rattle.command_replies.specs.Due.{Exactly, Owed, OfText}
use Rattle.certificate_commands.specs.Due.{OfCertificate, OfUpgrade, OfVerify, upgraded_for}
use Rattle.certificate_commands.specs.Judging.{HasTooMany, IsChecked, IsDecided, TellsFalse}
use Rattle.command_replies.specs.Replies.{IsReply}
use Rattle.certificate_commands.specs.Books.{BeginsPart, GoesOn, HasBegun, IsNextBegun, IsPartLast, IsPlace, held}
use Rattle.certificate_commands.proofs.BookReads.{between_long}
use Rattle.certificate_commands.proofs.Judged.{OfYes, too_large_owed}
use Rattle.certificate_commands.proofs.BookParts.{book_begins, book_kept, opened_front, part_goes_on, lines_more, some_more, fails_owed, illegal_owed}
use Rattle.certificate_commands.proofs.BookParts.{last_owed}

used_length : (n : ℕ) (xs : List ℕ) → n ≤ length xs → length (take n xs) ≡ n
used_length n xs few = omega (arith, few, length-take n xs)

-- ---- a book that is held whole

pub held_steps : (s : SolidData) (line : ℕ) (rest : List ℕ) (next : NextSolid) (c : FedState)
    → (next.used ≤ length rest) × EndsPart Two s line ([] ++ take next.used rest) next.no.0 next.line c → (0 < next.used) × (next.used ≤ length rest)
    × (next.line ≤ line + next.used)
held_steps s line rest next c (within, ends) =
    let long = used_length next.used rest within in
    let some = some_more s line (take next.used rest) next.no.0 next.line c ends in
    let few = lines_more s line (take next.used rest) next.no.0 next.line c ends in
    (omega (arith, long, some), within, omega (arith, long, few))

module _ (f : Contents) (certificate : List ℕ) (ns front : List ℕ) (n line : ℕ) (rest : List ℕ) where
  abbrev Ups : List ℕ → Owed
  Ups ms = OfText (upgraded_for f certificate ms)

  pub held_fails : (reply : Reply) → certificate ≡ front ++ rest → length certificate ≤ CERT_LIMIT → BeginsPart f ns front n line
      → TellsFalse (solid_fail_text n) f n reply → OfUpgrade certificate f reply.answer reply.text
  held_fails reply whole few begins (x, first, exact) =
      subst (λ (c : List ℕ). OfCertificate Ups c f reply.answer reply.text) (sym whole)
      (fails_owed f ns front n line begins Ups rest (subst (λ (c : List ℕ). length c ≤ CERT_LIMIT) whole few) reply.answer reply.text x first exact)

  pub held_next : (s : SolidData) (next : NextSolid) (c : FedState) → certificate ≡ front ++ rest → BeginsPart f ns front n line → IsChecked f n s
      → (next.used ≤ length rest) × EndsPart Two s line ([] ++ take next.used rest) next.no.0 next.line c
      → (after : List ℕ) × (certificate ≡ after ++ drop next.used rest) × BeginsPart f (ns ++ n ∷ []) after next.no.0 next.line
  held_next s next c whole begins k (within, ends) = (
    front ++ take next.used rest,
    whole ∙ ap (λ (l : List ℕ). front ++ l) (sym (take-append-drop next.used rest)) ∙ sym (append_assoc front (take next.used rest) (drop next.used rest)),
    part_goes_on f ns front n line begins k.holds (take next.used rest) next.no.0 next.line c
        (subst (λ (d : SolidData). EndsPart Two d line (take next.used rest) next.no.0 next.line c) k.solid ends),
  )

  pub held_last : (s : SolidData) → certificate ≡ front ++ rest → length certificate ≤ CERT_LIMIT → BeginsPart f ns front n line → IsChecked f n s
      → IsLegal Two s (cut_lines ([] ++ rest)) → (a : Answer) (t : List ℕ) → OfText certificate a t → OfUpgrade certificate f a t
  held_last s whole few begins k legal a t owed =
      let same : upgraded_for f certificate (ns ++ n ∷ []) ≡ certificate =
      book_kept f certificate (flat_map part_lines begins.parts ++ begins.first ∷ cut_lines rest) (ns ++ n ∷ [])
      (subst (λ (c : List ℕ). IsHeaded c Three (flat_map part_lines begins.parts ++ begins.first ∷ cut_lines rest)) (sym whole) (begins.headed rest)) in
      subst (λ (c : List ℕ). OfCertificate Ups c f a t) (sym whole)
      (last_owed f ns front n line begins Ups rest (subst (λ (c : List ℕ). length c ≤ CERT_LIMIT) whole few) a t k.holds
      (subst (λ (d : SolidData). IsLegal Two d (cut_lines rest)) k.solid legal)
      (subst (λ (c : List ℕ). OfText c a t) (sym same) owed))

  pub held_bad : (s : SolidData) (bad : Illegal) (reply : Reply) → certificate ≡ front ++ rest → length certificate ≤ CERT_LIMIT → BeginsPart f ns front n line
      → IsChecked f n s → IsPartBad Two s line (cut_lines ([] ++ rest)) bad → (reply.answer ≡ No) × (reply.text ≡ illegal_line bad)
      → OfUpgrade certificate f reply.answer reply.text
  held_bad s bad reply whole few begins k wrong exact =
      subst (λ (c : List ℕ). OfCertificate Ups c f reply.answer reply.text) (sym whole)
      (illegal_owed f ns front n line begins Ups rest (subst (λ (c : List ℕ). length c ≤ CERT_LIMIT) whole few) reply.answer reply.text k.holds bad
      (subst (λ (d : SolidData). IsPartBad Two d line (cut_lines rest) bad) k.solid wrong) exact)

-- a certificate that opens so is its first two lines and a rest
pub book_opens : (f : Contents) (certificate : List ℕ) (n : ℕ) (rest : List ℕ) → length certificate ≤ CERT_LIMIT → Opens certificate Three n (cut_lines rest)
    → (3 + length rest ≤ CERT_LIMIT + 3) × ((ns : List ℕ) × (front : List ℕ) × (certificate ≡ front ++ rest) × BeginsPart f ns front n 3)
book_opens f certificate n rest few opens =
    let front = opened_front certificate n rest opens in
    let long = ap (λ (l : List ℕ). length l) (front.1) ∙ length-append front.0 rest in
    (omega (arith, long, few), ([], front.0, front.1, book_begins f front.0 n front.2))

pub rest_behind : (f : Contents) (certificate ns : List ℕ) (n line : ℕ) (rest : List ℕ) (next : NextSolid) → line + length rest ≤ CERT_LIMIT + 3
    → (front : List ℕ) × (certificate ≡ front ++ drop next.used rest) × BeginsPart f (ns ++ n ∷ []) front next.no.0 next.line
    → (0 < next.used) × (next.used ≤ length rest) × (next.line ≤ line + next.used)
    → (next.line + length (take (length rest - next.used) (drop next.used rest)) ≤ CERT_LIMIT + 3)
    × ((ms : List ℕ) × (front : List ℕ) × (certificate ≡ front ++ take (length rest - next.used) (drop next.used rest))
    × BeginsPart f ms front next.no.0 next.line)
rest_behind f certificate ns n line rest next few (front, whole, begins) (some, within, lines) =
    let same : take (length rest - next.used) (drop next.used rest) ≡ drop next.used rest = take_rest rest next.used in
    let long = ap (λ (l : List ℕ). length l) same ∙ length-drop next.used rest in
    (omega (arith, few, within, lines, long), (ns ++ n ∷ [], front, whole ∙ ap (λ (l : List ℕ). front ++ l) (sym same), begins))

-- ---- a book that comes in pieces

module _ (f : Contents) (ns : List ℕ) (before left : Option (List ℕ)) (buffer : List ℕ) (b : PartStart) (h : HasBegun f ns before left buffer b) where
  -- what is checked of the solid fails
  pub refused_part : (reply : Reply) → TellsFalse (solid_fail_text b.no.0) f b.no.0 reply → IsDecided f (h.front ++ held buffer b) reply
  refused_part reply (x, first, exact) more few =
      let same = append_assoc h.front (held buffer b) more in
      subst (λ (c : List ℕ). OfVerify c f reply.answer reply.text) (sym same)
      (fails_owed f ns h.front b.no.0 b.line h.begins OfYes (held buffer b ++ more) (subst (λ (c : List ℕ). length c ≤ CERT_LIMIT) same few) reply.answer
      reply.text x first exact)

  module _ (after : Option (List ℕ)) (s : SolidData) (k : IsChecked f b.no.0 s) (old new : FedState) (fed : IsFedPart Two s b.line [] old) where
    -- the next part has begun
    pub next_part : (now : List ℕ) (next : PartStart) → IsNextBegun left after b.came (held buffer b) now old new next
        → HasBegun f (ns ++ b.no.0 ∷ []) before after now next
    next_part now next m =
        let long = h.long in
        let came = m.long in
        let whole : (h.front ++ m.text) ++ held now next ≡ (h.front ++ held buffer b) ++ m.bytes =
        append_assoc h.front m.text (held now next) ∙ ap (λ (l : List ℕ). h.front ++ l) m.whole ∙ sym (append_assoc h.front (held buffer b) m.bytes) in
        record {
          front = h.front ++ m.text;
          taken = subst (Consumes before after) (sym whole) (consumes_more before left after (h.front ++ held buffer b) m.bytes h.taken m.taken);
          long = ap (λ (l : List ℕ). length l) whole
              ∙ (let n : length ((h.front ++ held buffer b) ++ m.bytes) ≡ next.came =
              omega (arith, long, came, length-append (h.front ++ held buffer b) m.bytes) in n);
          begins = part_goes_on f ns h.front b.no.0 b.line h.begins k.holds m.text next.no.0 next.line new
              (subst (λ (d : SolidData). EndsPart Two d b.line m.text next.no.0 next.line new) k.solid (m.ends Two s b.line fed));
        }

    module _ (m : IsPartLast left after b.came (held buffer b) old new) where
      told : Told before (h.front ++ (held buffer b ++ m.bytes))
      told = subst (Told before) (append_assoc h.front (held buffer b) m.bytes)
          (told_all before after ((h.front ++ held buffer b) ++ m.bytes) (consumes_more before left after (h.front ++ held buffer b) m.bytes h.taken m.taken)
          m.ended)

      few : length (h.front ++ (held buffer b ++ m.bytes)) ≤ CERT_LIMIT
      few =
          let long = h.long in
          let all = m.few in
          let same = ap (λ (l : List ℕ). length l) (append_assoc h.front (held buffer b) m.bytes) in
          omega (arith, long, all, same, length-append (h.front ++ held buffer b) m.bytes)

      -- it is good, and the last one
      pub last_part : IsLegal Two s (cut_lines (held buffer b ++ m.bytes)) → (reply : Reply)
          → Exactly Done (accepted_lines (ns ++ b.no.0 ∷ [])) reply.answer reply.text → IsReply (λ certificate. OfVerify certificate f) before reply
      last_part legal reply exact = record {
        bytes = h.front ++ (held buffer b ++ m.bytes);
        told = told;
        owed = last_owed f ns h.front b.no.0 b.line h.begins OfYes (held buffer b ++ m.bytes) few reply.answer reply.text k.holds
            (subst (λ (d : SolidData). IsLegal Two d (cut_lines (held buffer b ++ m.bytes))) k.solid legal) exact;
      }

      -- one of its lines is bad
      pub bad_part : (bad : Illegal) → IsPartBad Two s b.line (cut_lines (held buffer b ++ m.bytes)) bad → (reply : Reply)
          → (reply.answer ≡ No) × (reply.text ≡ illegal_line bad) → IsReply (λ certificate. OfVerify certificate f) before reply
      bad_part bad wrong reply exact = record {
        bytes = h.front ++ (held buffer b ++ m.bytes);
        told = told;
        owed = illegal_owed f ns h.front b.no.0 b.line h.begins OfYes (held buffer b ++ m.bytes) few reply.answer reply.text k.holds bad
            (subst (λ (d : SolidData). IsPartBad Two d b.line (cut_lines (held buffer b ++ m.bytes)) bad) k.solid wrong) exact;
      }

  -- the certificate is too large
  pub large_part : (after : Option (List ℕ)) (reply : Reply) → HasTooMany left after b.came → (reply.answer ≡ TooLarge) × (reply.text ≡ [])
      → IsReply (λ certificate. OfVerify certificate f) before reply
  large_part after reply many exact =
      let long = h.long in
      let above = many.2 in
      too_large_owed OfYes f before ((h.front ++ held buffer b) ++ many.0) after reply
      (consumes_more before left after (h.front ++ held buffer b) many.0 h.taken many.1)
      (let n : CERT_LIMIT < length ((h.front ++ held buffer b) ++ many.0) = omega (arith, long, above, length-append (h.front ++ held buffer b) many.0) in n)
      exact

-- how far the reading has come
pub next_goes_on : (before after : Option (List ℕ)) (buffer now : List ℕ) (b next : PartStart) (s : SolidData) (old new : FedState) → IsPlace buffer b
    → IsFedPart Two s b.line [] old → IsNextBegun before after b.came (held buffer b) now old new next → GoesOn before after now b next
next_goes_on before after buffer now b next s old new place fed m =
    let ends = m.ends Two s b.line fed in
    let there = between_long buffer b.from b.to place.ordered place.within in
    let ahead = between_long now next.from next.to m.ordered m.within in
    let all = sym (length-append m.text (held now next)) ∙ ap (λ (l : List ℕ). length l) m.whole ∙ length-append (held buffer b) m.bytes in
    let came = m.long in
    let lines = place.lines in
    let holds = place.holds in
    let some = some_more s b.line m.text next.no.0 next.line new ends in
    let few = lines_more s b.line m.text next.no.0 next.line new ends in
    let fits : next.to - next.from ≤ next.came = omega (arith, there, ahead, all, came, holds) in
    record {
      place = record {
        few = m.few;
        ordered = m.ordered;
        within = m.within;
        holds = fits;
        lines = (let n : next.line ≤ (next.came - (next.to - next.from)) + 3 = omega (arith, there, ahead, all, came, holds, fits, few, lines) in n);
      };
      further = (let n : b.came - (b.to - b.from) < next.came - (next.to - next.from) = omega (arith, there, ahead, all, came, holds, fits, some) in n);
      bytes = m.bytes;
      taken = m.taken;
      came = came;
    }

pub last_takes : (before after : Option (List ℕ)) (came : ℕ) (there : List ℕ) (old new : FedState) → IsPartLast before after came there old new
    → TakesAtMost (CERT_LIMIT - came) before after
last_takes before after came there old new m = let few = m.few in (m.bytes, m.taken, (let n : length m.bytes ≤ CERT_LIMIT - came = omega (arith, few) in n))
