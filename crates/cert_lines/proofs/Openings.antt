-- A certificate opens in one way at most, or has one bad opening line at most.
use Rattle.std.specs.Prelude.{◌≡◌, ℕ, List, [], ◌∷◌}
use Rattle.std.proofs.Common.{refl, sym, ◌∙◌, ap, subst, arith, inl, inr}
use Rattle.cert_lines.specs.Line.{CertLine, head, solid, cut_lines, IsLine, IsMisspelt, first_limit}
use Rattle.cert_lines.specs.Opening.{Opens, IsHeadLine, IsSolid, IsOther, IsWrong, IsSecondWrong, IsFirstWrong, IsBadOpening}
use Rattle.cert_lines.specs.declared.version.Version.{Version}
use Rattle.cert_lines.specs.declared.version.Version.TheVariants.{One}
use Rattle.cert_text.specs.declared.fault.Illegal.{Illegal}
use Rattle.cert_lines.proofs.Spelling.{line_one}

other_good : (Wanted : CertLine → Type 0) (bytes : List ℕ) (l : CertLine) → IsLine first_limit bytes l → Wanted l → IsOther Wanted bytes → ⊥
other_good Wanted bytes l is_l want (inl long) = absurd (omega (arith, long.0, is_l.0))
other_good Wanted bytes l is_l want (inr (m, is_m, other)) = other (subst Wanted (line_one bytes l m is_l.1 is_m.1) want)

wrong_good : (Wanted : CertLine → Type 0) (number : ℕ) (bytes : List ℕ) (l : CertLine) (bad : Illegal) → IsLine first_limit bytes l → Wanted l →
    IsWrong Wanted number bytes bad → ⊥
wrong_good Wanted number bytes l bad is_l want (inl misspelt) = misspelt.0.none l is_l.1
wrong_good Wanted number bytes l bad is_l want (inr other) = other_good Wanted bytes l is_l want other.0

misspelt_other : (Wanted : CertLine → Type 0) (bytes : List ℕ) → IsMisspelt first_limit bytes → IsOther Wanted bytes → ⊥
misspelt_other Wanted bytes a (inl long) = a.not_long long
misspelt_other Wanted bytes a (inr (m, is_m, other)) = a.none m is_m.1

one_wrong : (Wanted : CertLine → Type 0) (number : ℕ) (bytes : List ℕ) (x y : Illegal) → IsWrong Wanted number bytes x → IsWrong Wanted number bytes y → x ≡ y
one_wrong Wanted number bytes x y (inl p) (inl q) = p.1 ∙ sym q.1
one_wrong Wanted number bytes x y (inl p) (inr q) = absurd (misspelt_other Wanted bytes p.0 q.0)
one_wrong Wanted number bytes x y (inr p) (inl q) = absurd (misspelt_other Wanted bytes q.0 p.0)
one_wrong Wanted number bytes x y (inr p) (inr q) = p.1 ∙ sym q.1

one_second : (lines : List (List ℕ)) (x y : Illegal) → IsSecondWrong lines x → IsSecondWrong lines y → x ≡ y
one_second [] x y p q = p ∙ sym q
one_second (second ∷ rest) x y p q = one_wrong IsSolid 2 second x y p q

one_first : (lines : List (List ℕ)) (x y : Illegal) → IsFirstWrong lines x → IsFirstWrong lines y → x ≡ y
one_first [] x y p q = p ∙ sym q
one_first (first ∷ lines) x y (inl p) (inl q) = one_wrong IsHeadLine 1 first x y p q
one_first (first ∷ lines) x y (inl p) (inr q) = absurd (wrong_good IsHeadLine 1 first (head q.0) x q.1 (q.0, refl) p)
one_first (first ∷ lines) x y (inr p) (inl q) = absurd (wrong_good IsHeadLine 1 first (head p.0) y p.1 (p.0, refl) q)
one_first (first ∷ lines) x y (inr p) (inr q) = one_second lines x y p.2 q.2

pub one_bad_opening : (certificate : List ℕ) (x y : Illegal) → IsBadOpening certificate x → IsBadOpening certificate y → x ≡ y
one_bad_opening certificate x y = one_first (cut_lines certificate) x y

no_wrong : (first second : List ℕ) (rest : List (List ℕ)) (v : Version) (n : ℕ) (bad : Illegal) → IsLine first_limit first (head v) →
    IsLine first_limit second (solid n) → IsFirstWrong (first ∷ second ∷ rest) bad → ⊥
no_wrong first second rest v n bad a b (inl p) = wrong_good IsHeadLine 1 first (head v) bad a (v, refl) p
no_wrong first second rest v n bad a b (inr p) = wrong_good IsSolid 2 second (solid n) bad b (n, refl) p.2

pub opens_or_bad : (certificate : List ℕ) (v : Version) (n : ℕ) (rest : List (List ℕ)) (bad : Illegal) → Opens certificate v n rest →
    IsBadOpening certificate bad → ⊥
opens_or_bad certificate v n rest bad o b = no_wrong o.first o.second rest v n bad o.is_head o.names (subst (λ ls. IsFirstWrong ls bad) o.cut b)

solid_number : CertLine → ℕ
solid_number (solid n) = n
solid_number _ = 0

version_of : CertLine → Version
version_of (head v) = v
version_of _ = One

abbrev first_of : List (List ℕ) → List ℕ
first_of (first ∷ rest) = first
first_of _ = []

abbrev second_of : List (List ℕ) → List ℕ
second_of (first ∷ second ∷ rest) = second
second_of _ = []

abbrev behind_two : List (List ℕ) → List (List ℕ)
behind_two (first ∷ second ∷ rest) = rest
behind_two _ = []

pub one_opening : (certificate : List ℕ) (v w : Version) (n m : ℕ) (rest other : List (List ℕ)) → Opens certificate v n rest → Opens certificate w m other →
    (v ≡ w) × (n ≡ m) × (rest ≡ other)
unfolding solid_number version_of
one_opening certificate v w n m rest other a b =
    let same : a.first ∷ a.second ∷ rest ≡ b.first ∷ b.second ∷ other = sym a.cut ∙ b.cut in
    let first : a.first ≡ b.first = ap first_of same in
    let second : a.second ≡ b.second = ap second_of same in (
      ap version_of (line_one b.first (head v) (head w) (subst (λ l. IsLine first_limit l (head v)) first a.is_head).1 b.is_head.1),
      ap solid_number (line_one b.second (solid n) (solid m) (subst (λ l. IsLine first_limit l (solid n)) second a.names).1 b.names.1),
      ap behind_two same,
    )
