-- Legal lines and the first bad one, read from the first line on, are those that the recursion tells.
use Rattle.std.specs.Prelude.{◌≡◌, ℕ, zero, suc, ◌+◌, true, false, List, [], ◌∷◌, ◌++◌, length, reverse, take, Some, slice_get}
use Rattle.std.specs.List.{AllZip, list_any}
use Rattle.std.proofs.Common.{refl, sym, ◌∙◌, ap, subst, arith, inl, inr, append_assoc}
use Rattle.std.proofs.lemmas.Grind.{reverse_onto}
use Rattle.std.proofs.lemmas.List.{append-nil, reverse-append, reverse-reverse}
use Rattle.std.proofs.lemmas.Option.{same_Some}
use Rattle.solid_data.specs.SolidData.{SolidData}
use Rattle.cert_lines.specs.Line.{CertLine, end, IsLine, line_limit}
use Rattle.cert_lines.specs.declared.version.Version.{Version}
use Rattle.cert_state.specs.Progress.{Progress, progress_from_latest, progress_after, FitsLine, is_last}
use Rattle.topo_certificate.specs.Legal.{AreFitting, IsLegal, IsBadNext, HasFirstBad}
use Rattle.topo_certificate.specs.After.{IsLegalAfter, IsFirstBadAfter}
use Rattle.topo_certificate.proofs.Facts.{AllFit}
use Rattle.cert_text.specs.declared.fault.Illegal.{Illegal}
use Rattle.topo_certificate.proofs.LineKinds.{end_line, first_true}

-- the latest first: a line more, and then others
pub behind_more : (line : CertLine) (read before : List CertLine) → reverse read ++ (line ∷ before) ≡ reverse (line ∷ read) ++ before
behind_more line read before = sym (append_assoc (reverse read) (line ∷ []) before) ∙ ap (λ ls. ls ++ before) (sym (reverse_onto read line []))

-- Lines that are spelled and fit, behind others before them.
pub record AreRead (version : Version) (s : SolidData) (before : List CertLine) (lines : List (List ℕ)) (read : List CertLine) : Type 0 where
  pub spelled : AllZip (IsLine (line_limit s)) lines read
  pub fit : (i : ℕ) (line : CertLine) → slice_get read i ≡ Some line → FitsLine s (progress_from_latest version s (reverse (take i read) ++ before)) line

none_read : (version : Version) (s : SolidData) (before : List CertLine) → AreRead version s before [] []
none_read version s before = record { spelled = tt; fit = λ i line h. absurd (none_at i line h) }
  where
    none_at : (i : ℕ) (line : CertLine) → slice_get [] i ≡ Some line → ⊥
    none_at i line h = cc

read_more : (version : Version) (s : SolidData) (before : List CertLine) (bytes : List ℕ) (lines : List (List ℕ)) (line : CertLine) (read : List CertLine)
    → IsLine (line_limit s) bytes line → FitsLine s (progress_from_latest version s before) line → AreRead version s (line ∷ before) lines read
    → AreRead version s before (bytes ∷ lines) (line ∷ read)
read_more version s before bytes lines line read is fits more = record { spelled = (is, more.spelled); fit = each }
  where
    each : (i : ℕ) (x : CertLine) → slice_get (line ∷ read) i ≡ Some x → FitsLine s (progress_from_latest version s (reverse (take i (line ∷ read)) ++ before)) x
    each zero x h = subst (FitsLine s (progress_from_latest version s before)) (same_Some line x h) fits
    each (suc i) x h = subst (λ ls. FitsLine s (progress_from_latest version s ls) x) (behind_more line (take i read) before) (more.fit i x h)

read_first : (version : Version) (s : SolidData) (before : List CertLine) (bytes : List ℕ) (lines : List (List ℕ)) (line : CertLine) (read : List CertLine)
    → AreRead version s before (bytes ∷ lines) (line ∷ read)
    → IsLine (line_limit s) bytes line × FitsLine s (progress_from_latest version s before) line × AreRead version s (line ∷ before) lines read
read_first version s before bytes lines line read h = (
  h.spelled.0,
  h.fit 0 line refl,
  record {
    spelled = h.spelled.1;
    fit = λ i x at. subst (λ ls. FitsLine s (progress_from_latest version s ls) x) (sym (behind_more line (take i read) before))
        (h.fit (suc i) x at);
  },
)

-- behind no line that is reading as the definitions have it
read_fitting : (version : Version) (s : SolidData) (lines : List (List ℕ)) (read : List CertLine) → AreRead version s [] lines read
    → AreFitting version s lines read
read_fitting version s lines read h =
    record {
      spelled = h.spelled;
      fit = λ i line at. subst (λ ls. FitsLine s (progress_from_latest version s ls) line) (append-nil (reverse (take i read)))
          (h.fit i line at);
    }

fitting_read : (version : Version) (s : SolidData) (lines : List (List ℕ)) (read : List CertLine) → AreFitting version s lines read
    → AreRead version s [] lines read
fitting_read version s lines read h =
    record {
      spelled = h.spelled;
      fit = λ i line at. subst (λ ls. FitsLine s (progress_from_latest version s ls) line) (sym (append-nil (reverse (take i read))))
          (h.fit i line at);
    }

-- one line more is read
read_on : (version : Version) (s : SolidData) (before : List CertLine) (lines : List (List ℕ)) (read : List CertLine) (bytes : List ℕ) (line : CertLine)
    → AreRead version s before lines read
    → IsLine (line_limit s) bytes line → FitsLine s (progress_from_latest version s (reverse read ++ before)) line
    → AreRead version s before (lines ++ bytes ∷ []) (read ++ line ∷ [])
read_on version s before [] [] bytes line are is fits = read_more version s before bytes [] line [] is fits (none_read version s (line ∷ before))
read_on version s before [] (l ∷ read) bytes line are is fits = absurd are.spelled
read_on version s before (b ∷ lines) [] bytes line are is fits = absurd are.spelled
read_on version s before (b ∷ lines) (l ∷ read) bytes line are is fits =
    let one = read_first version s before b lines l read are in
    read_more version s before b (lines ++ bytes ∷ []) l (read ++ line ∷ []) one.0 one.1
    (read_on version s (l ∷ before) lines read bytes line one.2 is
    (subst (λ ls. FitsLine s (progress_from_latest version s ls) line) (sym (behind_more l read before)) fits))

pub fitting_none : (version : Version) (s : SolidData) → AreFitting version s [] []
fitting_none version s = read_fitting version s [] [] (none_read version s [])

pub fitting_more : (version : Version) (s : SolidData) (lines : List (List ℕ)) (read : List CertLine) (bytes : List ℕ) (line : CertLine)
    → AreFitting version s lines read
    → IsLine (line_limit s) bytes line → FitsLine s (progress_after version s read) line → AreFitting version s (lines ++ bytes ∷ []) (read ++ line ∷ [])
fitting_more version s lines read bytes line fitting is fits =
    read_fitting version s (lines ++ bytes ∷ []) (read ++ line ∷ [])
    (read_on version s [] lines read bytes line (fitting_read version s lines read fitting) is
    (subst (λ ls. FitsLine s (progress_from_latest version s ls) line) (sym (append-nil (reverse read))) fits))

-- all lines of a legal certificate
record AllRead (version : Version) (s : SolidData) (before : List CertLine) (lines : List (List ℕ)) : Type 0 where
  pub read : List CertLine
  pub are : AreRead version s before lines read
  pub fit : AllFit version s (reverse read ++ before)
  pub ended : (progress_from_latest version s (reverse read ++ before)).ended ≡ true

all_read : (version : Version) (s : SolidData) (before : List CertLine) (lines : List (List ℕ)) → AllFit version s before → IsLegalAfter version s before lines
    → AllRead version s before lines
all_read version s before [] fit legal = record { read = []; are = none_read version s before; fit = fit; ended = legal }
all_read version s before (bytes ∷ lines) fit (line, is, fits, legal) =
    let more : AllRead version s (line ∷ before) lines = all_read version s (line ∷ before) lines (fits, fit) legal in
    let same : reverse more.read ++ (line ∷ before) ≡ reverse (line ∷ more.read) ++ before = behind_more line more.read before in
    record {
      read = line ∷ more.read;
      are = read_more version s before bytes lines line more.read is fits more.are;
      fit = subst (AllFit version s) same more.fit;
      ended = subst (λ ls. (progress_from_latest version s ls).ended ≡ true) same more.ended;
    }

false_true : false ≡ true → ⊥
false_true h = cc

-- where the lines fit, END has come exactly where it is the last
ended_end : (version : Version) (s : SolidData) (l : CertLine) (ls : List CertLine) → FitsLine s (progress_from_latest version s ls) l
    → (progress_from_latest version s (l ∷ ls)).ended ≡ true → l ≡ end
unfolding progress_from_latest
ended_end version s l ls fits ended = end_line l (first_true (is_last l) (list_any is_last ls) fits.0 ended)

none_ended : (version : Version) (s : SolidData) → (progress_from_latest version s []).ended ≡ true → ⊥
unfolding progress_from_latest
none_ended version s h = false_true h

end_latest : (version : Version) (s : SolidData) (all : List CertLine) → AllFit version s all → (progress_from_latest version s all).ended ≡ true
    → (before : List CertLine) × (all ≡ end ∷ before)
end_latest version s [] fit ended = absurd (none_ended version s ended)
end_latest version s (l ∷ ls) fit ended = (ls, ap (λ x. x ∷ ls) (ended_end version s l ls fit.0 ended))

pub legal_forward : (version : Version) (s : SolidData) (lines : List (List ℕ)) → IsLegalAfter version s [] lines → IsLegal version s lines
legal_forward version s lines legal =
    let all : AllRead version s [] lines = all_read version s [] lines tt legal in
    let latest = end_latest version s (reverse all.read ++ []) all.fit all.ended in
    let same : reverse all.read ≡ end ∷ latest.0 = sym (append-nil (reverse all.read)) ∙ latest.1 in
    record {
      read = all.read;
      fitting = read_fitting version s lines all.read all.are;
      before = reverse latest.0;
      ended = sym (reverse-reverse all.read) ∙ (ap (λ ls. reverse ls) same ∙ reverse_onto latest.0 end []);
    }

legal_from_read : (version : Version) (s : SolidData) (before : List CertLine) (lines : List (List ℕ)) (read : List CertLine)
    → AreRead version s before lines read → (progress_from_latest version s (reverse read ++ before)).ended ≡ true → IsLegalAfter version s before lines
legal_from_read version s before [] [] are ended = ended
legal_from_read version s before [] (l ∷ read) are ended = absurd are.spelled
legal_from_read version s before (bytes ∷ lines) [] are ended = absurd are.spelled
legal_from_read version s before (bytes ∷ lines) (l ∷ read) are ended =
    let first = read_first version s before bytes lines l read are in (
      l,
      first.0,
      first.1,
      legal_from_read version s (l ∷ before) lines read first.2
          (subst (λ ls. (progress_from_latest version s ls).ended ≡ true) (sym (behind_more l read before)) ended),
    )

-- lines that fit are legal where END has come
pub legal_ended : (version : Version) (s : SolidData) (lines : List (List ℕ)) (read : List CertLine) → AreFitting version s lines read
    → (progress_after version s read).ended ≡ true → IsLegal version s lines
legal_ended version s lines read fitting ended =
    legal_forward version s lines
    (legal_from_read version s [] lines read (fitting_read version s lines read fitting)
    (subst (λ ls. (progress_from_latest version s ls).ended ≡ true) (sym (append-nil (reverse read))) ended))

end_ends : (version : Version) (s : SolidData) (ls : List CertLine) → (progress_from_latest version s (end ∷ ls)).ended ≡ true
unfolding progress_from_latest
end_ends version s ls = refl

pub legal_behind : (version : Version) (s : SolidData) (lines : List (List ℕ)) → IsLegal version s lines → IsLegalAfter version s [] lines
legal_behind version s lines h =
    let same : reverse h.read ++ [] ≡ end ∷ reverse h.before = append-nil (reverse h.read)
    ∙ (ap (λ ls. reverse ls) h.ended ∙ reverse-append h.before (end ∷ [])) in
    legal_from_read version s [] lines h.read (fitting_read version s lines h.read h.fitting)
    (subst (λ ls. (progress_from_latest version s ls).ended ≡ true) (sym same) (end_ends version s (reverse h.before)))

-- The first bad one.
record BadRead (version : Version) (s : SolidData) (Fits : Progress → CertLine → Type 0) (first : ℕ) (before : List CertLine) (lines : List (List ℕ))
    (bad : Illegal) : Type 0 where
  pub good : List (List ℕ)
  pub read : List CertLine
  pub are : AreRead version s before good read
  pub rest : List (List ℕ)
  pub cut : lines ≡ good ++ rest
  pub next : IsBadNext s Fits (progress_from_latest version s (reverse read ++ before)) (first + (length before + length read)) rest bad

bad_read : (version : Version) (s : SolidData) (Fits : Progress → CertLine → Type 0) (first : ℕ) (before : List CertLine) (lines : List (List ℕ)) (bad : Illegal)
    → IsFirstBadAfter version s Fits first before lines bad → BadRead version s Fits first before lines bad
bad_read version s Fits first before [] bad h =
    let n : first + length before ≡ first + (length before + 0) = omega arith in
    record {
      good = [];
      read = [];
      are = none_read version s before;
      rest = [];
      cut = refl;
      next =
          subst (λ k. IsBadNext s Fits (progress_from_latest version s before) k [] bad) n h;
    }
bad_read version s Fits first before (bytes ∷ lines) bad (inl h) =
    let n : first + length before ≡ first + (length before + 0) = omega arith in
    record {
      good = [];
      read = [];
      are = none_read version s before;
      rest = bytes ∷ lines;
      cut = refl;
      next =
          subst (λ k. IsBadNext s Fits (progress_from_latest version s before) k (bytes ∷ lines) bad) n h;
    }
bad_read version s Fits first before (bytes ∷ lines) bad (inr (line, is, fits, later)) =
    let more : BadRead version s Fits first (line ∷ before) lines bad = bad_read version s Fits first (line ∷ before) lines bad later in
    let same : reverse more.read ++ (line ∷ before) ≡ reverse (line ∷ more.read) ++ before = behind_more line more.read before in
    let n : first + (suc (length before) + length more.read) ≡ first + (length before + suc (length more.read)) = omega arith in
    record {
      good = bytes ∷ more.good;
      read = line ∷ more.read;
      are = read_more version s before bytes more.good line more.read is fits more.are;
      rest = more.rest;
      cut = ap (λ ls. bytes ∷ ls) more.cut;
      next = subst (λ k. IsBadNext s Fits (progress_from_latest version s (reverse (line ∷ more.read) ++ before)) k more.rest bad) n
          (subst (λ ls. IsBadNext s Fits (progress_from_latest version s ls) (first + (suc (length before) + length more.read)) more.rest bad) same more.next);
    }

pub bad_forward : (version : Version) (s : SolidData) (Fits : Progress → CertLine → Type 0) (first : ℕ) (lines : List (List ℕ)) (bad : Illegal)
    → IsFirstBadAfter version s Fits first [] lines bad → HasFirstBad version s Fits first lines bad
bad_forward version s Fits first lines bad h =
    let b : BadRead version s Fits first [] lines bad = bad_read version s Fits first [] lines bad h in
    let n : first + (0 + length b.read) ≡ first + length b.read = omega arith in
    record {
      good = b.good;
      read = b.read;
      fitting = read_fitting version s b.good b.read b.are;
      rest = b.rest;
      cut = b.cut;
      next = subst (λ k. IsBadNext s Fits (progress_after version s b.read) k b.rest bad) n
          (subst (λ ls. IsBadNext s Fits (progress_from_latest version s ls) (first + (0 + length b.read)) b.rest bad) (append-nil (reverse b.read)) b.next);
    }

bad_from_read : (version : Version) (s : SolidData) (Fits : Progress → CertLine → Type 0) (first : ℕ) (before : List CertLine) (good rest : List (List ℕ))
    (read : List CertLine) (bad : Illegal) → AreRead version s before good read
    → IsBadNext s Fits (progress_from_latest version s (reverse read ++ before)) (first + (length before + length read)) rest bad
    → IsFirstBadAfter version s Fits first before (good ++ rest) bad
bad_from_read version s Fits first before [] rest [] bad are next =
    here rest (let n : first + (length before + 0) ≡ first + length before = omega arith in subst
    (λ k. IsBadNext s Fits (progress_from_latest version s before) k rest bad) n next)
  where
    here : (rest : List (List ℕ)) → IsBadNext s Fits (progress_from_latest version s before) (first + length before) rest bad
        → IsFirstBadAfter version s Fits first before rest bad
    here [] h = h
    here (bytes ∷ rest) h = inl h
bad_from_read version s Fits first before [] rest (l ∷ read) bad are next = absurd are.spelled
bad_from_read version s Fits first before (bytes ∷ good) rest [] bad are next = absurd are.spelled
bad_from_read version s Fits first before (bytes ∷ good) rest (l ∷ read) bad are next =
    let one = read_first version s before bytes good l read are in
    let same : reverse (l ∷ read) ++ before ≡ reverse read ++ (l ∷ before) = sym (behind_more l read before) in
    let n : first + (length before + suc (length read)) ≡ first + (suc (length before) + length read) = omega arith in
    let there = subst (λ ls. IsBadNext s Fits (progress_from_latest version s ls) (first + (length before + suc (length read))) rest bad) same next in
    inr (
      l,
      one.0,
      one.1,
      bad_from_read version s Fits first (l ∷ before) good rest read bad one.2
          (subst (λ k. IsBadNext s Fits (progress_from_latest version s (reverse read ++ (l ∷ before))) k rest bad) n there),
    )

pub bad_behind : (version : Version) (s : SolidData) (Fits : Progress → CertLine → Type 0) (first : ℕ) (lines : List (List ℕ)) (bad : Illegal)
    → HasFirstBad version s Fits first lines bad → IsFirstBadAfter version s Fits first [] lines bad
bad_behind version s Fits first lines bad h =
    let n : first + length h.read ≡ first + (0 + length h.read) = omega arith in
    let there = subst (λ ls. IsBadNext s Fits (progress_from_latest version s ls) (first + length h.read) h.rest bad) (sym (append-nil (reverse h.read))) h.next in
    subst (λ ls. IsFirstBadAfter version s Fits first [] ls bad) (sym h.cut)
    (bad_from_read version s Fits first [] h.good h.rest h.read bad (fitting_read version s h.good h.read h.fitting)
    (subst (λ k. IsBadNext s Fits (progress_from_latest version s (reverse h.read ++ [])) k h.rest bad) n there))
