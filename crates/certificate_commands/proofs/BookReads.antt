-- The bytes of a part of a book, taken piece by piece.
use Rattle.std.proofs.Common.{◌≡◌, ◌∙◌, ℕ, ◌+◌, ◌-◌, ◌≤◌, ◌<◌, List, [], ◌++◌, take, drop, length, Option, Some, None, refl, sym, ap, subst, arith}
use Rattle.std.proofs.Common.{append_assoc}
use Rattle.std.specs.Prelude.{IfSome, MatchOption}
use Rattle.std.specs.Io.KnownBytes.{Consumes, IsAtEnd}
use Rattle.std.proofs.lemmas.List.{append-nil, length-append, length-take, length-drop, drop-drop}
use Rattle.iges_io.specs.Reading.{TakesAtMost}
use Rattle.iges_io.specs.declared.reading.TheConstants.{PIECE}
use Rattle.iges_io.proofs.Streams.{consumes_none, consumes_more, takes_more}
use Rattle.solid_data.specs.SolidData.{SolidData}
use Rattle.cert_lines.specs.declared.version.Version.{Version}
use Rattle.cert_text.specs.declared.TheConstants.{CERT_LIMIT}
use Rattle.topo_certificate.specs.Feeding.{FedState, IsFedPart}
use Rattle.topo_certificate.specs.PartEnds.{EndsPart}
use Rattle.certificate_commands.specs.declared.books.NextSolid.{NextSolid}
use Rattle.certificate_commands.specs.declared.books.PartStart.{PartStart}
use Rattle.certificate_commands.specs.Judging.{HasTooMany}
use Rattle.certificate_commands.specs.Books.{IsInPart, WasFed, IsNextBegun, IsPartLast}
use Rattle.certificate_commands.proofs.FirstLines.{cut_piece}

-- what a call of the feeding says of the checker, before and after it
abbrev pub Feeds : List ℕ → FedState → FedState → Option NextSolid → Type 0
Feeds piece old new result =
    (v : Version) (s : SolidData) (first : ℕ) (text : List ℕ) → IsFedPart v s first text old → MatchOption result
    (IsFedPart v s first (text ++ piece) new)
    (λ next. (next.used ≤ length piece) × EndsPart v s first (text ++ take next.used piece) next.no.0 next.line new)

pub feeds_within : (piece : List ℕ) (old new : FedState) (result : Option NextSolid) → IsInPart old → Feeds piece old new result
    → IfSome result (λ next. next.used ≤ length piece)
feeds_within piece old new None begun says = tt
feeds_within piece old new (Some next) (v, s, first, text, fed) says = (says v s first text fed).0

pub in_part_more : (piece : List ℕ) (old new : FedState) → IsInPart old → Feeds piece old new None → IsInPart new
in_part_more piece old new (v, s, first, text, fed) says = (v, s, first, text ++ piece, says v s first text fed)

-- so many bytes have come; of those of the part this text was fed, and these are ahead in the buffer
pub record ReadsPart (before now : Option (List ℕ)) (came : ℕ) (there ahead : List ℕ) (so_far : ℕ) (old new : FedState) : Type 0 where
  pub text : List ℕ
  pub bytes : List ℕ
  pub taken : Consumes before now bytes
  pub long : came + length bytes ≡ so_far
  pub whole : text ++ ahead ≡ there ++ bytes
  pub fed : WasFed old text new

abbrev pub between : List ℕ → ℕ → ℕ → List ℕ
between buffer from to = take (to - from) (drop from buffer)

pub reads_none : (left : Option (List ℕ)) (came : ℕ) (there : List ℕ) (c : FedState) → ReadsPart left left came there there came c c
reads_none left came there c =
    record { text = []; bytes = []; taken = consumes_none left; long = omega arith; whole = sym (append-nil there); fed = λ v s first h. h }

module _ (a b c : Option (List ℕ)) (came so_far : ℕ) (there ahead : List ℕ) (old mid new : FedState) (r : ReadsPart a b came there ahead so_far old mid)
    (says : Feeds ahead mid new None) where
  all_fed : WasFed old (r.text ++ ahead) new
  all_fed v s first h = says v s first r.text (r.fed v s first h)

  pub reads_more : (buffer : List ℕ) (count : ℕ) → Consumes b c (take count buffer) → length (take count buffer) ≡ count
      → ReadsPart a c came there (between buffer 0 count) (so_far + count) old new
  reads_more buffer count k is =
      let long = r.long in
      let x = take count buffer in
      let same : between buffer 0 count ≡ x = ap (λ (n : ℕ). take n buffer) (let n : count - 0 ≡ count = omega arith in n) in
      record {
        text = r.text ++ ahead;
        bytes = r.bytes ++ x;
        taken = consumes_more a b c r.bytes x r.taken k;
        long = (let n : came + length (r.bytes ++ x) ≡ so_far + count = omega (arith, long, is, length-append r.bytes x) in n);
        whole = ap (λ (l : List ℕ). (r.text ++ ahead) ++ l) same ∙ ap (λ (l : List ℕ). l ++ x) r.whole ∙ append_assoc there r.bytes x;
        fed = all_fed;
      }

  pub reads_last : so_far ≤ CERT_LIMIT → Consumes b c [] → IsAtEnd c → IsPartLast a c came there old new
  reads_last few k e =
      let long = r.long in
      record {
        bytes = r.bytes;
        taken = subst (Consumes a c) (append-nil r.bytes) (consumes_more a b c r.bytes [] r.taken k);
        ended = e;
        few = (let n : came + length r.bytes ≤ CERT_LIMIT = omega (arith, long, few) in n);
        fed = λ v s first h. subst (λ (t : List ℕ). IsFedPart v s first t new) r.whole (all_fed v s first h);
      }

  pub reads_too_many : (x : List ℕ) → Consumes b c x → CERT_LIMIT < so_far + length x → HasTooMany a c came
  reads_too_many x k above =
      let long = r.long in (
        r.bytes ++ x,
        consumes_more a b c r.bytes x r.taken k,
        (let n : CERT_LIMIT < came + length (r.bytes ++ x) = omega (arith, long, above, length-append r.bytes x) in n),
      )

-- a read past the limit took at most a buffer more
pub reads_past : (a b c : Option (List ℕ)) (came so_far : ℕ) (there ahead buffer : List ℕ) (old mid : FedState) → ReadsPart a b came there ahead so_far old mid
    → so_far ≤ CERT_LIMIT → (x : List ℕ) → Consumes b c x → length x ≤ length buffer → length buffer ≡ PIECE
    → TakesAtMost ((CERT_LIMIT - came) + PIECE) a c
reads_past a b c came so_far there ahead buffer old mid r few x k short is =
    let long = r.long in
    takes_more a b c r.bytes x ((CERT_LIMIT - came) + PIECE) r.taken k
    (let n : length r.bytes + length x ≤ (CERT_LIMIT - came) + PIECE = omega (arith, long, few, short, is) in n)

pub between_long : (buffer : List ℕ) (from to : ℕ) → from ≤ to → to ≤ length buffer → length (between buffer from to) ≡ to - from
between_long buffer from to h k = omega (arith, h, k, length-take (to - from) (drop from buffer), length-drop from buffer)

behind_used : (buffer : List ℕ) (from to used : ℕ) → from ≤ to → used ≤ to - from → take used (between buffer from to) ++ between buffer (from + used) to
    ≡ between buffer from to
behind_used buffer from to used h k =
    let n : (to - from) - used ≡ to - (from + used) = omega arith in
    sym (ap (λ (l : List ℕ). take used (between buffer from to) ++ l)
    (ap (λ (m : ℕ). take m (drop used (drop from buffer))) n ∙ ap (λ (l : List ℕ). take (to - (from + used)) l) (drop-drop used from buffer)))
    ∙ cut_piece (drop from buffer) (between buffer from to) used (to - from) k refl

pub reads_next : (a b : Option (List ℕ)) (came so_far from to : ℕ) (there buffer : List ℕ) (old mid new : FedState) (next : NextSolid) (begun : PartStart)
    → ReadsPart a b came there (between buffer from to) so_far old mid → Feeds (between buffer from to) mid new (Some next)
    → next.used ≤ length (between buffer from to)
    → so_far ≤ CERT_LIMIT → from ≤ to → to ≤ length buffer
    → begun ≡ (record { no = next.no; line = next.line; from = from + next.used; to = to; came = so_far }) → IsNextBegun a b came there buffer old new begun
reads_next a b came so_far from to there buffer old mid new next begun r says used few ordered within is =
    let long = r.long in
    let ahead = between_long buffer from to ordered within in
    let left : next.used ≤ to - from = omega (arith, used, ahead) in
    subst (IsNextBegun a b came there buffer old new) (sym is) (record {
      few = few;
      ordered = (let n : from + next.used ≤ to = omega (arith, left, ordered) in n);
      within = within;
      text = r.text ++ take next.used (between buffer from to);
      bytes = r.bytes;
      taken = r.taken;
      long = sym long;
      whole = append_assoc r.text (take next.used (between buffer from to)) (between buffer (from + next.used) to)
          ∙ ap (λ (l : List ℕ). r.text ++ l) (behind_used buffer from to next.used ordered left) ∙ r.whole;
      ends = λ v s first h. (says v s first r.text (r.fed v s first h)).1;
    })
