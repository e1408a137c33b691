-- The parts of a book, one after another.
use Rattle.std.proofs.Common.{◌≡◌, ◌∙◌, ℕ, suc, ◌+◌, ◌≤◌, ◌<◌, false, inr, List, [], ◌∷◌, ◌++◌, flat_map, length, refl, sym, ap, subst, arith, append_assoc}
use Rattle.std.specs.Fmt.{digits}
use Rattle.std.specs.List.{AllByRecursion, AllZip}
use Rattle.std.specs.List.Sorted.{IsStrictlyIncreasing}
use Rattle.std.proofs.lemmas.List.{append-nil, length-append, map-append}
use Rattle.std.proofs.lemmas.Grind.{flat_map-append}
use Rattle.iges_params.specs.Contents.{Contents}
use Rattle.solid_data.specs.SolidData.{SolidData}
use Rattle.solid_data.specs.Obligations.{AllHold, FirstFalse}
use Rattle.solid_data.specs.declared.verdict.Failing.{Failing}
use Rattle.solid_data.proofs.Members.{Rises, all_append, rises}
use Rattle.edge_uses.proofs.Whole.{rising}
use Rattle.brep_walk.specs.SolidOf.{solid_of}
use Rattle.cert_lines.specs.Line.{CertLine, head, solid, end, words, spelling, cut_lines, IsSpelled, IsLine, line_limit}
use Rattle.cert_lines.specs.Opening.{Opens, IsHeaded}
use Rattle.cert_text.specs.declared.fault.Illegal.{Illegal}
use Rattle.cert_lines.specs.declared.version.Version.TheVariants.{One, Two, Three}
use Rattle.cert_lines.proofs.CutLines.{cut_spelled}
use Rattle.cert_text.specs.declared.TheConstants.{CERT_LIMIT}
use Rattle.cert_state.specs.Progress.{progress_after, FitsLine}
use Rattle.topo_certificate.specs.Legal.{AreFitting, IsLegal, IsPartBad}
use Rattle.topo_certificate.specs.Feeding.{FedState}
use Rattle.topo_certificate.specs.PartEnds.{EndsPart}
use Rattle.topo_certificate.specs.Upgraded.{starts_with, upgraded}
use Rattle.topo_certificate.proofs.Forward.{fitting_more}
use Rattle.topo_certificate.proofs.UpgradedText.{kept_other}
use Rattle.cert_accept.specs.Accepted.{Part, part_lines, solids_named, IsGoodPart, IsAcceptedBook}
use Rattle.cert_accept.specs.Book.{fails, illegal, IsBookBad}
use Rattle.cert_accept.specs.Accepted.{checked}
use Rattle.command_replies.specs.declared.answer.Answer.{Answer}
use Rattle.command_replies.specs.declared.answer.Answer.TheVariants.{No}
use Rattle.command_replies.specs.Texts.{illegal_line, solid_fail_text}
use Rattle.command_replies.specs.Due.{Owed}
use Rattle.command_replies.proofs.Owing.{owed_so}
use Rattle.certificate_commands.specs.Due.{OfCertificate, opened, part_bad, part_fails, parts_accepted, upgraded_for}
use Rattle.certificate_commands.specs.Books.{BeginsPart}
use Rattle.cert_accept.proofs.CheckedParts.{checked_certified}
use Rattle.certificate_commands.proofs.CutText.{cut_behind, joined, joined_cut, some_bytes}
use Rattle.cert_accept.proofs.UpgradedLaw.{three_not}

-- ---- numbers that rise

last_of : (P : ℕ → Type 0) (ns : List ℕ) (n : ℕ) → AllByRecursion P (ns ++ n ∷ []) → P n
last_of P [] n h = h.0
last_of P (x ∷ ns) n h = last_of P ns n h.1

rises_on : (ns : List ℕ) (n m : ℕ) → Rises (ns ++ n ∷ []) → n < m → Rises ((ns ++ n ∷ []) ++ m ∷ [])
rises_on [] n m h less = ((less, tt), (tt, tt))
rises_on (x ∷ ns) n m h less =
    let last : x < n = last_of (λ y. x < y) ns n h.0 in
    (all_append (λ y. x < y) (ns ++ n ∷ []) (m ∷ []) h.0 (omega (arith, last, less), tt), rises_on ns n m h.1 less)

increases_on : (ns : List ℕ) (n m : ℕ) → IsStrictlyIncreasing (ns ++ n ∷ []) → n < m → IsStrictlyIncreasing ((ns ++ n ∷ []) ++ m ∷ [])
increases_on ns n m h less = rising ((ns ++ n ∷ []) ++ m ∷ []) (rises_on ns n m (rises (ns ++ n ∷ []) h) less)

-- ---- the lines of a part

named_entity : (f : Contents) (n : ℕ) → (solid_of f n).entity.0 ≡ n
unfolding solid_of
named_entity f n = refl

zip_length : (limit : ℕ) (lines : List (List ℕ)) (read : List CertLine) → AllZip (IsLine limit) lines read → length lines ≡ length read
zip_length limit [] [] h = refl
zip_length limit [] (l ∷ read) h = absurd h
zip_length limit (b ∷ lines) [] h = absurd h
zip_length limit (b ∷ lines) (l ∷ read) h = ap suc (zip_length limit lines read h.1)

-- lines of which END is the last
zip_last : (limit : ℕ) (lines : List (List ℕ)) (before : List CertLine) → AllZip (IsLine limit) lines (before ++ end ∷ [])
    → (further : List (List ℕ)) × (lines ≡ further ++ spelling end ∷ [])
zip_last limit [] [] h = absurd h
zip_last limit (b ∷ []) [] h = ([], ap (λ (l : List ℕ). l ∷ []) h.0.1.1)
zip_last limit (b ∷ c ∷ lines) [] h = absurd h.1
zip_last limit [] (l ∷ before) h = absurd h
zip_last limit (b ∷ lines) (l ∷ before) h = let more = zip_last limit lines before h.1 in (b ∷ more.0, ap (λ (ls : List (List ℕ)). b ∷ ls) more.1)

legal_last : (s : SolidData) (lines : List (List ℕ)) → IsLegal Two s lines → (further : List (List ℕ)) × (lines ≡ further ++ spelling end ∷ [])
legal_last s lines h = zip_last (line_limit s) lines h.before (subst (AllZip (IsLine (line_limit s)) lines) h.ended h.fitting.spelled)

end_line : (s : SolidData) → IsLine (line_limit s) (spelling end) end
end_line s = (omega arith, (tt, refl))

legal_with_end : (s : SolidData) (lines : List (List ℕ)) (read : List CertLine) → AreFitting Two s lines read → FitsLine s (progress_after Two s read) end
    → IsLegal Two s (lines ++ spelling end ∷ [])
legal_with_end s lines read fitting fits = record {
  read = read ++ end ∷ [];
  fitting = fitting_more Two s lines read (spelling end) end fitting (end_line s) fits;
  before = read;
  ended = refl;
}

abbrev part : ℕ → List ℕ → List (List ℕ) → Part
part n first further = record { solid = n; first = first; further = further }

-- the lines of parts with one more
lines_of_more : (parts : List Part) (n : ℕ) (first : List ℕ) (further rest : List (List ℕ)) → flat_map part_lines (parts ++ part n first further ∷ []) ++ rest
    ≡ flat_map part_lines parts ++ first ∷ (further ++ rest)
lines_of_more parts n first further rest =
    let all = flat_map part_lines parts in
    ap (λ (ls : List (List ℕ)). ls ++ rest)
    (flat_map-append part_lines parts (part n first further ∷ []) ∙ ap (λ (ls : List (List ℕ)). all ++ ls) (append-nil (first ∷ further)))
    ∙ append_assoc all (first ∷ further) rest

named_more : (parts : List Part) (ns : List ℕ) (n : ℕ) (first : List ℕ) (further : List (List ℕ)) → solids_named parts ≡ ns
    → solids_named (parts ++ part n first further ∷ []) ≡ ns ++ n ∷ []
named_more parts ns n first further named = map-append (λ (p : Part). p.solid) parts (part n first further ∷ []) ∙ ap (λ (ms : List ℕ). ms ++ n ∷ []) named

cut_two : (a b : CertLine) (first second : List ℕ) → IsSpelled first a → IsSpelled second b → cut_lines (first ++ second) ≡ first ∷ second ∷ []
cut_two a b first second h k =
    let text : first ++ second ≡ flat_map spelling (a ∷ b ∷ []) = ap (λ (l : List ℕ). l ++ second) h.1
    ∙ ap (λ (l : List ℕ). spelling a ++ l) (k.1 ∙ sym (append-nil (spelling b))) in
    ap cut_lines text ∙ cut_spelled (a ∷ b ∷ []) (h.0, (k.0, tt)) ∙ ap (λ (l : List ℕ). l ∷ spelling b ∷ []) (sym h.1)
    ∙ ap (λ (l : List ℕ). first ∷ l ∷ []) (sym k.1)

-- no more lines than bytes come
pub lines_more : (s : SolidData) (line : ℕ) (more : List ℕ) (m l : ℕ) (c : FedState) → EndsPart Two s line more m l c → l ≤ line + length more
lines_more s line more m l c e =
    let number = e.number in
    let same = zip_length (line_limit s) e.good e.read e.fitting.spelled in
    omega (arith, number, same, some_bytes more e.good e.bytes e.cut)

pub some_more : (s : SolidData) (line : ℕ) (more : List ℕ) (m l : ℕ) (c : FedState) → EndsPart Two s line more m l c → 0 < length more
some_more s line more m l c e = omega (arith, some_bytes more e.good e.bytes e.cut)

-- ---- how a book goes on

-- the first part has begun behind the first two lines
pub book_begins : (f : Contents) (text : List ℕ) (n : ℕ) → ((more : List ℕ) → Opens (text ++ more) Three n (cut_lines more)) → BeginsPart f [] text n 3
book_begins f text n opens = record {
  parts = [];
  named = refl;
  good = tt;
  rising = rising (n ∷ []) (tt, tt);
  first = spelling (solid n);
  names = ((opens []).names.1.0, refl);
  headed = λ more. record {
    first = (opens more).first;
    cut = (opens more).cut ∙ ap (λ (b : List ℕ). (opens more).first ∷ b ∷ cut_lines more)
        (opens more).names.1.1;
    is_head = (opens more).is_head;
  };
  opens = λ more. (n, cut_lines more, opens more);
  number = refl;
}

-- a certificate that is held whole is its first two lines and what they leave
pub opened_front : (c : List ℕ) (n : ℕ) (rest : List ℕ) → Opens c Three n (cut_lines rest)
    → (front : List ℕ) × (c ≡ front ++ rest) × ((more : List ℕ) → Opens (front ++ more) Three n (cut_lines more))
opened_front c n rest o =
    let first : o.first ≡ words (head Three) ++ 10 ∷ [] = o.is_head.1.1 in
    let second : o.second ≡ words (solid n) ++ 10 ∷ [] = o.names.1.1 in
    let front = o.first ++ o.second in
    let two : cut_lines front ≡ o.first ∷ o.second ∷ [] = cut_two (head Three) (solid n) o.first o.second o.is_head.1 o.names.1 in (
      front,
      sym (joined_cut c) ∙ ap joined o.cut ∙ ap (λ (l : List ℕ). o.first ++ (o.second ++ l)) (joined_cut rest) ∙ sym (append_assoc o.first o.second rest),
      λ more. record {
        first = o.first;
        second = o.second;
        cut = cut_behind front more (o.first ∷ []) (words (solid n)) (two ∙ ap (λ (l : List ℕ). o.first ∷ l ∷ []) second)
            ∙ ap (λ (l : List ℕ). o.first ∷ l ∷ cut_lines more) (sym second);
        is_head = o.is_head;
        names = o.names;
      },
    )

kept_three : (s : SolidData) (c : List ℕ) (lines : List (List ℕ)) → IsHeaded c Three lines → upgraded s c ≡ c
kept_three s c lines h = sym (kept_other s c h.first lines h.cut (ap (starts_with (words (head One))) h.is_head.1.1 ∙ three_not))

-- a book is given back as it is, whatever solids it names
pub book_kept : (f : Contents) (c : List ℕ) (lines : List (List ℕ)) (ns : List ℕ) → IsHeaded c Three lines → upgraded_for f c ns ≡ c
book_kept f c lines [] h = refl
book_kept f c lines (n ∷ ns) h = kept_three (solid_of f n) c lines h

module _ (f : Contents) (ns : List ℕ) (text : List ℕ) (n line : ℕ) (h : BeginsPart f ns text n line) where
  abbrev all : List (List ℕ)
  all = flat_map part_lines h.parts

  rises_with : (further : List (List ℕ)) → IsStrictlyIncreasing (solids_named (h.parts ++ part n h.first further ∷ []))
  rises_with further = subst IsStrictlyIncreasing (sym (named_more h.parts ns n h.first further h.named)) h.rising

  good_part : (further : List (List ℕ)) → AllHold (checked f n) → IsLegal Two (solid_of f n) (further ++ spelling end ∷ [])
      → IsGoodPart f (part n h.first further)
  good_part further holds legal = record { names = h.names; certified = checked_certified Two f n (further ++ spelling end ∷ []) holds legal }

  lines_behind : (more rest : List ℕ) (m l : ℕ) (c : FedState) (e : EndsPart Two (solid_of f n) line more m l c) → all ++ h.first ∷ cut_lines (more ++ rest)
      ≡ flat_map part_lines (h.parts ++ part n h.first e.good ∷ []) ++ e.bytes ∷ cut_lines rest
  lines_behind more rest m l c e =
      let is : e.bytes ≡ words (solid m) ++ 10 ∷ [] = e.names.1.1 in
      let cut = cut_behind more rest e.good (words (solid m)) (e.cut ∙ ap (λ (b : List ℕ). e.good ++ b ∷ []) is) in
      let behind : cut_lines (more ++ rest) ≡ e.good ++ e.bytes ∷ cut_lines rest = cut ∙ append_assoc e.good ((words (solid m) ++ 10 ∷ []) ∷ [])
      (cut_lines rest) ∙ ap (λ (b : List ℕ). e.good ++ b ∷ cut_lines rest) (sym is) in
      ap (λ (ls : List (List ℕ)). all ++ h.first ∷ ls) behind ∙ sym (lines_of_more h.parts n h.first e.good (e.bytes ∷ cut_lines rest))

  count_behind : (further : List (List ℕ)) → length (flat_map part_lines (h.parts ++ part n h.first further ∷ [])) ≡ length all + (1 + length further)
  count_behind further =
      let is = sym (append-nil (flat_map part_lines (h.parts ++ part n h.first further ∷ []))) ∙ lines_of_more h.parts n h.first further []
      ∙ ap (λ (ls : List (List ℕ)). all ++ h.first ∷ ls) (append-nil further) in
      ap (λ (ls : List (List ℕ)). length ls) is ∙ length-append all (h.first ∷ further)
      ∙ (let one : length all + suc (length further) ≡ length all + (1 + length further) = omega arith in one)

  -- the next part has begun behind the bytes that end with its first line
  pub part_goes_on : AllHold (checked f n) → (more : List ℕ) (m l : ℕ) (c : FedState) → EndsPart Two (solid_of f n) line more m l c
      → BeginsPart f (ns ++ n ∷ []) (text ++ more) m l
  part_goes_on holds more m l c e = record {
    parts = h.parts ++ part n h.first e.good ∷ [];
    named = named_more h.parts ns n h.first e.good h.named;
    good = all_append (IsGoodPart f) h.parts (part n h.first e.good ∷ []) h.good
        (good_part e.good holds (legal_with_end (solid_of f n) e.good e.read e.fitting e.begins.0), tt);
    rising = increases_on ns n m h.rising (subst (λ (k : ℕ). k < m) (named_entity f n) e.begins.1);
    first = e.bytes;
    names = e.names.1;
    headed = λ rest.
        let before = h.headed (more ++ rest) in
        subst (λ (t : List ℕ). IsHeaded t Three (flat_map part_lines (h.parts ++ part n h.first e.good ∷ []) ++ e.bytes ∷ cut_lines rest))
        (sym (append_assoc text more rest))
        (subst (IsHeaded (text ++ (more ++ rest)) Three) (lines_behind more rest m l c e) before);
    opens = λ rest. subst (λ (t : List ℕ). (k : ℕ) × (lines : List (List ℕ)) × Opens t Three k lines) (sym (append_assoc text more rest))
        (h.opens (more ++ rest));
    number = (
        let number = e.number in
        let before = h.number in
        let same = zip_length (line_limit (solid_of f n)) e.good e.read e.fitting.spelled in
        let count = count_behind e.good in
        let is : l ≡ 3 + length (flat_map part_lines (h.parts ++ part n h.first e.good ∷ [])) = omega (arith, number, before, same, count) in is
        );
  }

  -- the part is the last one
  pub book_accepted : AllHold (checked f n) → (more : List ℕ) → IsLegal Two (solid_of f n) (cut_lines more)
      → (parts : List Part) × IsAcceptedBook f (text ++ more) parts × (solids_named parts ≡ ns ++ n ∷ [])
  book_accepted holds more legal =
      let last = legal_last (solid_of f n) (cut_lines more) legal in
      let p = part n h.first last.0 in
      let lines : all ++ h.first ∷ cut_lines more ≡ flat_map part_lines (h.parts ++ p ∷ []) ++ spelling end ∷ [] =
      ap (λ (ls : List (List ℕ)). all ++ h.first ∷ ls) last.1 ∙ sym (lines_of_more h.parts n h.first last.0 (spelling end ∷ [])) in (
        h.parts ++ p ∷ [],
        record {
          headed = subst (IsHeaded (text ++ more) Three) lines (h.headed more);
          some = (let some : 0 < length (h.parts ++ p ∷ []) = omega (arith, length-append h.parts (p ∷ [])) in some);
          rising = rises_with last.0;
          good = all_append (IsGoodPart f) h.parts (p ∷ []) h.good (good_part last.0 holds (subst (IsLegal Two (solid_of f n)) last.1 legal), tt);
        },
        named_more h.parts ns n h.first last.0 h.named,
      )

  -- what is checked of its solid fails
  book_fails : (x : Failing) → FirstFalse (checked f n) x → (more : List ℕ) → IsBookBad f (all ++ h.first ∷ cut_lines more) (fails n x)
  book_fails x first more = record {
    before = h.parts;
    good = h.good;
    rest = h.first ∷ cut_lines more;
    cut = refl;
    bad = inr (part n h.first (cut_lines more), refl, h.names, rises_with (cut_lines more), (refl, first));
  }

  -- one of its lines is bad
  book_illegal : AllHold (checked f n) → (more : List ℕ) (bad : Illegal) → IsPartBad Two (solid_of f n) line (cut_lines more) bad
      → IsBookBad f (all ++ h.first ∷ cut_lines more) (illegal bad)
  book_illegal holds more bad wrong =
      let before = h.number in
      let number : line ≡ (2 + length all) + 1 = omega (arith, before) in
      record {
        before = h.parts;
        good = h.good;
        rest = h.first ∷ cut_lines more;
        cut = refl;
        bad = inr (
          part n h.first (cut_lines more),
          refl,
          h.names,
          rises_with (cut_lines more),
          (holds, subst (λ (k : ℕ). IsPartBad Two (solid_of f n) k (cut_lines more) bad) number wrong),
        );
      }

  module _ (OfAccepted : List ℕ → Owed) (more : List ℕ) (few : length (text ++ more) ≤ CERT_LIMIT) (a : Answer) (t : List ℕ) where
    pub fails_owed : (x : Failing) → FirstFalse (checked f n) x → (a ≡ No) × (t ≡ solid_fail_text n x) → OfCertificate OfAccepted (text ++ more) f a t
    fails_owed x first exact =
        let o = h.opens more in
        owed_so (OfCertificate OfAccepted (text ++ more) f) _ _ _ _
        (opened few Three o.0 o.1 o.2 (all ++ h.first ∷ cut_lines more, h.headed more, part_fails n x (book_fails x first more))) exact.0 exact.1

    pub illegal_owed : AllHold (checked f n) → (bad : Illegal) → IsPartBad Two (solid_of f n) line (cut_lines more) bad → (a ≡ No) × (t ≡ illegal_line bad)
        → OfCertificate OfAccepted (text ++ more) f a t
    illegal_owed holds bad wrong exact =
        let o = h.opens more in
        owed_so (OfCertificate OfAccepted (text ++ more) f) _ _ _ _
        (opened few Three o.0 o.1 o.2 (all ++ h.first ∷ cut_lines more, h.headed more, part_bad bad (book_illegal holds more bad wrong))) exact.0 exact.1

    pub last_owed : AllHold (checked f n) → IsLegal Two (solid_of f n) (cut_lines more) → OfAccepted (ns ++ n ∷ []) a t
        → OfCertificate OfAccepted (text ++ more) f a t
    last_owed holds legal owed =
        let o = h.opens more in
        let b = book_accepted holds more legal in
        opened few Three o.0 o.1 o.2
        (all ++ h.first ∷ cut_lines more, h.headed more, parts_accepted b.0 b.1 (subst (λ (ms : List ℕ). OfAccepted ms a t) (sym b.2) owed))
