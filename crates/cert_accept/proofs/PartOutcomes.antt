-- The further lines of a part of a book are legal, or have a first bad line, or come to a line that begins the next part, and only one of these.
use Rattle.std.specs.Prelude.{◌≡◌, ℕ, zero, suc, ◌+◌, ◌<◌, ◌≤◌, ◌⊎◌, Bool, true, false, List, [], ◌∷◌, ◌++◌, length, take}
use Rattle.std.proofs.Common.{refl, sym, ◌∙◌, ap, subst, arith, inl, inr, ⊎_elim, length-append}
use Rattle.solid_data.specs.SolidData.{SolidData}
use Rattle.solid_data.proofs.Decisions.{Decided}
use Rattle.cert_text.specs.Text.{spaced}
use Rattle.cert_lines.specs.Line.{CertLine, solid, end, spelling, IsSpelled, IsLine, IsLong, IsMisspelt, line_limit}
use Rattle.cert_lines.specs.declared.version.Version.{Version}
use Rattle.cert_text.specs.declared.fault.Illegal.{Illegal}
use Rattle.cert_text.specs.declared.fault.Illegal.TheVariants.{Misspelt, Unfit, Missing}
use Rattle.cert_lines.proofs.Decided.{lines_are_decided}
use Rattle.cert_lines.proofs.Spelling.{line_one}
use Rattle.cert_state.specs.Progress.{Progress, progress_from_latest, FitsLine}
use Rattle.topo_certificate.specs.Legal.{IsLegal, IsPartBad, BeginsNext, FitsPart}
use Rattle.topo_certificate.specs.After.{IsLegalAfter, IsFirstBadAfter}
use Rattle.topo_certificate.proofs.Decided.{part_decided}
use Rattle.topo_certificate.proofs.Forward.{legal_behind, legal_forward, bad_behind, bad_forward}
use Rattle.topo_certificate.proofs.LegalLemmas.{bad_good}
use Rattle.cert_state.proofs.Short.{length-spaced}

-- Behind lines before, the latest first, so many of these lines fit, and the next one names solid m and begins the next part.
abbrev pub BeginsAt : Version → SolidData → List CertLine → List (List ℕ) → ℕ → ℕ → Type 0
BeginsAt v s before [] k m = ⊥
BeginsAt v s before (bytes ∷ lines) zero m = IsLine (line_limit s) bytes (solid m) × BeginsNext s (progress_from_latest v s before) m
BeginsAt v s before (bytes ∷ lines) (suc k) m = (line : CertLine) × IsLine (line_limit s) bytes line × FitsLine s (progress_from_latest v s before) line
    × BeginsAt v s (line ∷ before) lines k m

pub same_solid : (m n : ℕ) → solid m ≡ solid n → m ≡ n
same_solid m n e = cc

-- a line that names a solid is none that fits
solid_unfit : (s : SolidData) (at : Progress) (bytes : List ℕ) (m : ℕ) (line : CertLine) → IsLine (line_limit s) bytes (solid m)
    → IsLine (line_limit s) bytes line → FitsLine s at line → ⊥
solid_unfit s at bytes m line names is fits = (subst (FitsLine s at) (line_one bytes line (solid m) is.1 names.1) fits).1

-- The next part begins at one line at most.
pub one_beginning : (v : Version) (s : SolidData) (before : List CertLine) (lines : List (List ℕ)) (k m i n : ℕ) → BeginsAt v s before lines k m
    → BeginsAt v s before lines i n → (k ≡ i) × (m ≡ n)
one_beginning v s before [] k m i n a b = absurd a
one_beginning v s before (bytes ∷ lines) zero m zero n a b = (refl, same_solid m n (line_one bytes (solid m) (solid n) a.0.1 b.0.1))
one_beginning v s before (bytes ∷ lines) zero m (suc i) n a (line, is, fits, later) =
    absurd (solid_unfit s (progress_from_latest v s before) bytes m line a.0 is fits)
one_beginning v s before (bytes ∷ lines) (suc k) m zero n (line, is, fits, later) b =
    absurd (solid_unfit s (progress_from_latest v s before) bytes n line b.0 is fits)
one_beginning v s before (bytes ∷ lines) (suc k) m (suc i) n (line, is, fits, later) (other, is_other, fits_other, later_other) =
    let both = one_beginning v s (line ∷ before) lines k m i n later
    (subst (λ l. BeginsAt v s (l ∷ before) lines i n) (line_one bytes other line is_other.1 is.1) later_other) in
    (ap suc both.0, both.1)

legal_begins : (v : Version) (s : SolidData) (before : List CertLine) (lines : List (List ℕ)) (k m : ℕ) → IsLegalAfter v s before lines
    → BeginsAt v s before lines k m → ⊥
legal_begins v s before [] k m legal next = next
legal_begins v s before (bytes ∷ lines) zero m (line, is, fits, more) next = solid_unfit s (progress_from_latest v s before) bytes m line next.0 is fits
legal_begins v s before (bytes ∷ lines) (suc k) m (line, is, fits, more) (other, is_other, fits_other, later) =
    legal_begins v s (line ∷ before) lines k m more (subst (λ l. BeginsAt v s (l ∷ before) lines k m) (line_one bytes other line is_other.1 is.1) later)

bad_begins : (v : Version) (s : SolidData) (first : ℕ) (before : List CertLine) (lines : List (List ℕ)) (bad : Illegal) (k m : ℕ)
    → IsFirstBadAfter v s (FitsPart s) first before lines bad → BeginsAt v s before lines k m → ⊥
bad_begins v s first before [] bad k m h next = next
bad_begins v s first before (bytes ∷ lines) bad zero m (inl h) next = bad_good s (FitsPart s (progress_from_latest v s before)) _ bytes (solid m) bad next.0
    (inr (m, refl, next.1)) h
bad_begins v s first before (bytes ∷ lines) bad zero m (inr (line, is, fits, later)) next = solid_unfit s (progress_from_latest v s before) bytes m line next.0 is
    fits
bad_begins v s first before (bytes ∷ lines) bad (suc k) m (inl h) (line, is, fits, later) = bad_good s (FitsPart s (progress_from_latest v s before)) _ bytes line
    bad is (inl fits) h
bad_begins v s first before (bytes ∷ lines) bad (suc k) m (inr (line, is, fits, later)) (other, is_other, fits_other, next) =
    bad_begins v s first (line ∷ before) lines bad k m later (subst (λ l. BeginsAt v s (l ∷ before) lines k m) (line_one bytes other line is_other.1 is.1) next)

ended_not : (b : Bool) → b ≡ true → b ≡ false → ⊥
ended_not b e h = let clash : true ≡ false = sym e ∙ h in cc

legal_bad : (v : Version) (s : SolidData) (first : ℕ) (before : List CertLine) (lines : List (List ℕ)) (bad : Illegal) → IsLegalAfter v s before lines
    → IsFirstBadAfter v s (FitsPart s) first before lines bad → ⊥
legal_bad v s first before [] bad legal h = ended_not (progress_from_latest v s before).ended legal h.0
legal_bad v s first before (bytes ∷ lines) bad (line, is, fits, more) (inl h) = bad_good s (FitsPart s (progress_from_latest v s before)) _ bytes line bad is
    (inl fits) h
legal_bad v s first before (bytes ∷ lines) bad (line, is, fits, more) (inr (other, is_other, fits_other, later)) =
    legal_bad v s first (line ∷ before) lines bad more
    (subst (λ l. IsFirstBadAfter v s (FitsPart s) first (l ∷ before) lines bad) (line_one bytes other line is_other.1 is.1) later)

-- Legal lines don't come to a next part, nor do lines of which one is bad, and legal lines have no bad one.
pub legal_begins_none : (v : Version) (s : SolidData) (lines : List (List ℕ)) (k m : ℕ) → IsLegal v s lines → BeginsAt v s [] lines k m → ⊥
legal_begins_none v s lines k m legal next = legal_begins v s [] lines k m (legal_behind v s lines legal) next

pub bad_begins_none : (v : Version) (s : SolidData) (first : ℕ) (lines : List (List ℕ)) (bad : Illegal) (k m : ℕ) → IsPartBad v s first lines bad
    → BeginsAt v s [] lines k m → ⊥
bad_begins_none v s first lines bad k m h next = bad_begins v s first [] lines bad k m (bad_behind v s (FitsPart s) first lines bad h) next

pub legal_none_bad : (v : Version) (s : SolidData) (first : ℕ) (lines : List (List ℕ)) (bad : Illegal) → IsLegal v s lines → IsPartBad v s first lines bad → ⊥
legal_none_bad v s first lines bad legal h = legal_bad v s first [] lines bad (legal_behind v s lines legal) (bad_behind v s (FitsPart s) first lines bad h)

-- Whatever the lines are, one of the three is so.
abbrev ComesTo : Version → SolidData → ℕ → List CertLine → List (List ℕ) → Type 0
ComesTo v s first before lines = IsLegalAfter v s before lines
    ⊎ (((bad : Illegal) × IsFirstBadAfter v s (FitsPart s) first before lines bad) ⊎ ((k : ℕ) × (m : ℕ) × BeginsAt v s before lines k m))

by_end : (v : Version) (s : SolidData) (first : ℕ) (before : List CertLine) (b : Bool) → (progress_from_latest v s before).ended ≡ b → ComesTo v s first before []
by_end v s first before true e = inl e
by_end v s first before false e = inr (inl (Missing (first + length before), (e, refl)))

by_later : (v : Version) (s : SolidData) (first : ℕ) (before : List CertLine) (bytes : List ℕ) (lines : List (List ℕ)) (line : CertLine)
    → IsLine (line_limit s) bytes line → FitsLine s (progress_from_latest v s before) line → ComesTo v s first (line ∷ before) lines
    → ComesTo v s first before (bytes ∷ lines)
by_later v s first before bytes lines line is fits (inl legal) = inl (line, is, fits, legal)
by_later v s first before bytes lines line is fits (inr (inl (bad, h))) = inr (inl (bad, inr (line, is, fits, h)))
by_later v s first before bytes lines line is fits (inr (inr (k, m, next))) = inr (inr (suc k, m, (line, is, fits, next)))

by_line : (v : Version) (s : SolidData) (first : ℕ) (before : List CertLine) (bytes : List ℕ) (lines : List (List ℕ)) (line : CertLine)
    → IsLine (line_limit s) bytes line
    → (FitsLine s (progress_from_latest v s before) line → ComesTo v s first (line ∷ before) lines) → Decided (FitsPart s (progress_from_latest v s before) line)
    → ComesTo v s first before (bytes ∷ lines)
by_line v s first before bytes lines line is on (inl (inl fits)) = by_later v s first before bytes lines line is fits (on fits)
by_line v s first before bytes lines line is on (inl (inr (m, names, begins))) = inr (inr (0, m, (subst (IsLine (line_limit s) bytes) names is, begins)))
by_line v s first before bytes lines line is on (inr other) = inr (inl (Unfit (first + length before), inl (inr (inr (line, is, other), refl))))

by_other : (v : Version) (s : SolidData) (first : ℕ) (before : List CertLine) (bytes : List ℕ) (lines : List (List ℕ))
    → IsLong (line_limit s) bytes ⊎ IsMisspelt (line_limit s) bytes → ComesTo v s first before (bytes ∷ lines)
by_other v s first before bytes lines (inl long) = inr (inl (Unfit (first + length before), inl (inr (inl long, refl))))
by_other v s first before bytes lines (inr misspelt) = inr (inl (Misspelt (first + length before), inl (inl (misspelt, refl))))

comes_to : (v : Version) (s : SolidData) (first : ℕ) (before : List CertLine) (lines : List (List ℕ)) → ComesTo v s first before lines
comes_to v s first before [] = by_end v s first before (progress_from_latest v s before).ended refl
comes_to v s first before (bytes ∷ lines) =
    ⊎_elim
    (λ (line, is). by_line v s first before bytes lines line is (λ fits. comes_to v s first (line ∷ before) lines)
    (part_decided s (progress_from_latest v s before) line))
    (λ other. by_other v s first before bytes lines other)
    (lines_are_decided (line_limit s) bytes)

pub part_comes_to : (v : Version) (s : SolidData) (first : ℕ) (lines : List (List ℕ))
    → IsLegal v s lines ⊎ (((bad : Illegal) × IsPartBad v s first lines bad) ⊎ ((k : ℕ) × (m : ℕ) × BeginsAt v s [] lines k m))
part_comes_to v s first lines = forward (comes_to v s first [] lines)
  where
    forward : ComesTo v s first [] lines
        → IsLegal v s lines ⊎ (((bad : Illegal) × IsPartBad v s first lines bad) ⊎ ((k : ℕ) × (m : ℕ) × BeginsAt v s [] lines k m))
    forward (inl legal) = inl (legal_forward v s lines legal)
    forward (inr (inl (bad, h))) = inr (inl (bad, bad_forward v s (FitsPart s) first lines bad h))
    forward (inr (inr next)) = inr (inr next)

-- What stands in front of a line that begins the next part is legal with END in place of that line, and the other way round.

pub end_is_line : (s : SolidData) → IsLine (line_limit s) (spelling end) end
end_is_line s = (omega arith, (tt, refl))

pub end_ends : (v : Version) (s : SolidData) (before : List CertLine) → (progress_from_latest v s (end ∷ before)).ended ≡ true
unfolding progress_from_latest
end_ends v s before = refl

front_legal : (v : Version) (s : SolidData) (before : List CertLine) (lines : List (List ℕ)) (k m : ℕ) → BeginsAt v s before lines k m
    → IsLegalAfter v s before (take k lines ++ spelling end ∷ [])
front_legal v s before [] k m next = absurd next
front_legal v s before (bytes ∷ lines) zero m next = (end, end_is_line s, next.1.0, end_ends v s before)
front_legal v s before (bytes ∷ lines) (suc k) m (line, is, fits, later) = (line, is, fits, front_legal v s (line ∷ before) lines k m later)

pub begins_legal : (v : Version) (s : SolidData) (lines : List (List ℕ)) (k m : ℕ) → BeginsAt v s [] lines k m → IsLegal v s (take k lines ++ spelling end ∷ [])
begins_legal v s lines k m next = legal_forward v s (take k lines ++ spelling end ∷ []) (front_legal v s [] lines k m next)

-- a line that names a solid is not long
pub solid_short : (bytes : List ℕ) (m : ℕ) → IsSpelled bytes (solid m) → length bytes ≤ 64
solid_short bytes m h = omega (arith, ap (λ (xs : List ℕ). length xs) h.1, length-append (spaced (m ∷ [])) (10 ∷ []), length-spaced (m ∷ []) (h.0, tt))

pub solid_line : (s : SolidData) (bytes : List ℕ) (m : ℕ) → IsSpelled bytes (solid m) → IsLine (line_limit s) bytes (solid m)
solid_line s bytes m h = (omega (arith, solid_short bytes m h), h)

front_begins : (v : Version) (s : SolidData) (before : List CertLine) (front : List (List ℕ)) (bytes : List ℕ) (rest : List (List ℕ)) (m : ℕ)
    → IsLegalAfter v s before (front ++ spelling end ∷ []) → IsSpelled bytes (solid m) → s.entity.0 < m
    → BeginsAt v s before (front ++ bytes ∷ rest) (length front) m
front_begins v s before [] bytes rest m (line, is, fits, ended) names above =
    (solid_line s bytes m names, (subst (FitsLine s (progress_from_latest v s before)) (line_one (spelling end) line end is.1 (tt, refl)) fits, above))
front_begins v s before (x ∷ front) bytes rest m (line, is, fits, more) names above =
    (line, is, fits, front_begins v s (line ∷ before) front bytes rest m more names above)

pub legal_begins_next : (v : Version) (s : SolidData) (front : List (List ℕ)) (bytes : List ℕ) (rest : List (List ℕ)) (m : ℕ)
    → IsLegal v s (front ++ spelling end ∷ []) → IsSpelled bytes (solid m) → s.entity.0 < m → BeginsAt v s [] (front ++ bytes ∷ rest) (length front) m
legal_begins_next v s front bytes rest m legal names above = front_begins v s [] front bytes rest m (legal_behind v s (front ++ spelling end ∷ []) legal) names
    above

-- The line that begins the next part, and what is behind it.
pub record BegunLine (s : SolidData) (lines : List (List ℕ)) (k m : ℕ) : Type 0 where
  pub bytes : List ℕ
  pub rest : List (List ℕ)
  pub cut : lines ≡ take k lines ++ bytes ∷ rest
  pub names : IsSpelled bytes (solid m)
  pub above : s.entity.0 < m

pub begun_line : (v : Version) (s : SolidData) (before : List CertLine) (lines : List (List ℕ)) (k m : ℕ) → BeginsAt v s before lines k m
    → BegunLine s lines k m
begun_line v s before [] k m next = absurd next
begun_line v s before (bytes ∷ lines) zero m next = record { bytes = bytes; rest = lines; cut = refl; names = next.0.1; above = next.1.1 }
begun_line v s before (bytes ∷ lines) (suc k) m (line, is, fits, later) =
    let more : BegunLine s lines k m = begun_line v s (line ∷ before) lines k m later in
    record { bytes = more.bytes; rest = more.rest; cut = ap (λ ls. bytes ∷ ls) more.cut; names = more.names; above = more.above }
