-- The first two lines of an open shell's certificate: they open it in one way, or one thing is wrong with them, and never both.
use Rattle.std.specs.Prelude.{◌≡◌, ◌⊎◌, ℕ, List, [], ◌∷◌}
use Rattle.std.proofs.Common.{refl, sym, ◌∙◌, ap, subst, inl, inr}
use Rattle.solid_data.proofs.Decisions.{Decided}
use Rattle.cert_lines.specs.Line.{cut_lines}
use Rattle.cert_lines.specs.Opening.{illegal_at}
use Rattle.cert_text.specs.declared.fault.Illegal.{Illegal}
use Rattle.cert_text.specs.declared.fault.Illegal.TheVariants.{Missing}
use Rattle.cert_text.specs.declared.fault.Misfit.{Misfit}
use Rattle.cert_text.specs.declared.fault.Misfit.TheVariants.{Misspelt, Unfit}
use Rattle.open_certificate.specs.Line.{OpenLine, head, shell, edge, lone, cycle, path, point, reach, border, end, IsSpelled}
use Rattle.open_certificate.specs.Line.{IsHeadLine, IsShell, NamesShell, IsOf, IsMisfit}
use Rattle.open_certificate.proofs.Spelling.{line_one}
use Rattle.open_certificate.proofs.LinesDecided.{some_line_decided}
use Rattle.open_commands.specs.Opening.{OpensShell, IsWrong, IsSecondWrong, IsFirstWrong, IsBadOpening}

-- One of these at most.

misfit_good : (Wanted : OpenLine → Type 0) (bytes : List ℕ) (l : OpenLine) → IsSpelled bytes l → Wanted l → (m : Misfit) → IsMisfit Wanted bytes m → ⊥
misfit_good Wanted bytes l is want Misspelt none = none l is
misfit_good Wanted bytes l is want Unfit (m, is_m, other) = other (subst Wanted (line_one bytes l m is is_m) want)

one_misfit : (Wanted : OpenLine → Type 0) (bytes : List ℕ) (a b : Misfit) → IsMisfit Wanted bytes a → IsMisfit Wanted bytes b → a ≡ b
one_misfit Wanted bytes Misspelt Misspelt p q = refl
one_misfit Wanted bytes Misspelt Unfit p q = absurd (p q.0 q.1)
one_misfit Wanted bytes Unfit Misspelt p q = absurd (q p.0 p.1)
one_misfit Wanted bytes Unfit Unfit p q = refl

one_wrong : (Wanted : OpenLine → Type 0) (number : ℕ) (bytes : List ℕ) (x y : Illegal) → IsWrong Wanted number bytes x → IsWrong Wanted number bytes y → x ≡ y
one_wrong Wanted number bytes x y (a, is_a, at_a) (b, is_b, at_b) = at_a ∙ (ap (λ m. illegal_at m number) (one_misfit Wanted bytes a b is_a is_b) ∙ sym at_b)

wrong_good : (Wanted : OpenLine → Type 0) (number : ℕ) (bytes : List ℕ) (l : OpenLine) (x : Illegal) → IsSpelled bytes l → Wanted l
    → IsWrong Wanted number bytes x → ⊥
wrong_good Wanted number bytes l x is want (m, misfit, at) = misfit_good Wanted bytes l is want m misfit

one_second : (lines : List (List ℕ)) (x y : Illegal) → IsSecondWrong lines x → IsSecondWrong lines y → x ≡ y
one_second [] x y p q = p ∙ sym q
one_second (second ∷ rest) x y p q = one_wrong IsShell 2 second x y p q

one_first : (lines : List (List ℕ)) (x y : Illegal) → IsFirstWrong lines x → IsFirstWrong lines y → x ≡ y
one_first [] x y p q = p ∙ sym q
one_first (first ∷ lines) x y (inl p) (inl q) = one_wrong IsHeadLine 1 first x y p q
one_first (first ∷ lines) x y (inl p) (inr q) = absurd (wrong_good IsHeadLine 1 first head x q.0 refl p)
one_first (first ∷ lines) x y (inr p) (inl q) = absurd (wrong_good IsHeadLine 1 first head y p.0 refl q)
one_first (first ∷ lines) x y (inr p) (inr q) = one_second lines x y p.1 q.1

pub one_bad_opening : (certificate : List ℕ) (x y : Illegal) → IsBadOpening certificate x → IsBadOpening certificate y → x ≡ y
one_bad_opening certificate x y = one_first (cut_lines certificate) x y

names_a_shell : (n : ℕ) (bytes : List ℕ) → IsOf (NamesShell n) bytes → (l : OpenLine) × IsSpelled bytes l × IsShell l
names_a_shell n bytes (l, is, names) = (l, is, (n, names))

no_wrong : (first second : List ℕ) (rest : List (List ℕ)) (n : ℕ) (x : Illegal) → IsSpelled first head → IsOf (NamesShell n) second
    → IsFirstWrong (first ∷ second ∷ rest) x → ⊥
no_wrong first second rest n x is names (inl p) = wrong_good IsHeadLine 1 first head x is refl p
no_wrong first second rest n x is names (inr p) = let a = names_a_shell n second names in wrong_good IsShell 2 second a.0 x a.1 a.2 p.1

pub opens_or_bad : (certificate : List ℕ) (n : ℕ) (lines : List (List ℕ)) (x : Illegal) → OpensShell certificate n lines → IsBadOpening certificate x → ⊥
opens_or_bad certificate n lines x o bad =
    no_wrong o.first o.second o.rest n x o.is_head o.names (subst (λ ls. IsFirstWrong ls x) (o.cut ∙ ap (λ ls. o.first ∷ ls) o.behind) bad)

shell_number : OpenLine → ℕ
shell_number (shell n rows edges corners faces borders) = n
shell_number _ = 0

abbrev first_of : List (List ℕ) → List ℕ
first_of (first ∷ rest) = first
first_of _ = []

abbrev behind_one : List (List ℕ) → List (List ℕ)
behind_one (first ∷ rest) = rest
behind_one _ = []

number_named : (n : ℕ) (l : OpenLine) → NamesShell n l → shell_number l ≡ n
unfolding shell_number
number_named n l (rows, edges, corners, faces, borders, is) = ap shell_number is

one_name : (n m : ℕ) (bytes : List ℕ) → IsOf (NamesShell n) bytes → IsOf (NamesShell m) bytes → n ≡ m
one_name n m bytes (l, is_l, names_l) (k, is_k, names_k) = sym (number_named n l names_l)
    ∙ (ap shell_number (line_one bytes l k is_l is_k) ∙ number_named m k names_k)

pub one_opening : (certificate : List ℕ) (n m : ℕ) (lines other : List (List ℕ)) → OpensShell certificate n lines → OpensShell certificate m other
    → (n ≡ m) × (lines ≡ other)
one_opening certificate n m lines other a b =
    let behind : lines ≡ other = ap behind_one (sym a.cut ∙ b.cut) in
    let second : a.second ≡ b.second = ap first_of (sym a.behind ∙ (behind ∙ b.behind)) in
    (one_name n m b.second (subst (λ bytes. IsOf (NamesShell n) bytes) second a.names) b.names, behind)

-- One of these at least.

head_decided : (l : OpenLine) → Decided (IsHeadLine l)
head_decided head = inl refl
head_decided (shell n rows edges corners faces borders) = inr (λ e. cc)
head_decided (edge a b) = inr (λ e. cc)
head_decided (lone a) = inr (λ e. cc)
head_decided (cycle rs) = inr (λ e. cc)
head_decided (path rs) = inr (λ e. cc)
head_decided (point face l) = inr (λ e. cc)
head_decided (reach r) = inr (λ e. cc)
head_decided (border rs) = inr (λ e. cc)
head_decided end = inr (λ e. cc)

shell_decided : (l : OpenLine) → Decided (IsShell l)
shell_decided head = inr (λ (n, (r, e, c, f, b, is)). cc)
shell_decided (shell n rows edges corners faces borders) = inl (n, (rows, edges, corners, faces, borders, refl))
shell_decided (edge x y) = inr (λ (n, (r, e, c, f, b, is)). cc)
shell_decided (lone x) = inr (λ (n, (r, e, c, f, b, is)). cc)
shell_decided (cycle rs) = inr (λ (n, (r, e, c, f, b, is)). cc)
shell_decided (path rs) = inr (λ (n, (r, e, c, f, b, is)). cc)
shell_decided (point face l) = inr (λ (n, (r, e, c, f, b, is)). cc)
shell_decided (reach x) = inr (λ (n, (r, e, c, f, b, is)). cc)
shell_decided (border rs) = inr (λ (n, (r, e, c, f, b, is)). cc)
shell_decided end = inr (λ (n, (r, e, c, f, b, is)). cc)

-- The line is the one that is wanted, or something is wrong with it.
wanted_or_wrong : (Wanted : OpenLine → Type 0) → ((l : OpenLine) → Decided (Wanted l)) → (number : ℕ) (bytes : List ℕ)
    → IsOf Wanted bytes ⊎ ((x : Illegal) × IsWrong Wanted number bytes x)
wanted_or_wrong Wanted each number bytes = by_line (some_line_decided bytes)
  where
    by_wanted : (l : OpenLine) → IsSpelled bytes l → Decided (Wanted l) → IsOf Wanted bytes ⊎ ((x : Illegal) × IsWrong Wanted number bytes x)
    by_wanted l is (inl want) = inl (l, is, want)
    by_wanted l is (inr other) = inr (illegal_at Unfit number, (Unfit, (l, is, other), refl))

    by_line : Decided ((l : OpenLine) × IsSpelled bytes l) → IsOf Wanted bytes ⊎ ((x : Illegal) × IsWrong Wanted number bytes x)
    by_line (inl (l, is)) = by_wanted l is (each l)
    by_line (inr none) = inr (illegal_at Misspelt number, (Misspelt, (λ l h. none (l, h)), refl))

second_decided : (lines : List (List ℕ)) → ((second : List ℕ) × (rest : List (List ℕ)) × (n : ℕ) × (lines ≡ second ∷ rest) × IsOf (NamesShell n) second)
    ⊎ ((x : Illegal) × IsSecondWrong lines x)
second_decided [] = inr (Missing 2, refl)
second_decided (second ∷ rest) = by_second (wanted_or_wrong IsShell shell_decided 2 second)
  where
    by_second : IsOf IsShell second ⊎ ((x : Illegal) × IsWrong IsShell 2 second x)
        → ((s : List ℕ) × (r : List (List ℕ)) × (n : ℕ) × (second ∷ rest ≡ s ∷ r) × IsOf (NamesShell n) s) ⊎ ((x : Illegal) × IsSecondWrong (second ∷ rest) x)
    by_second (inl (l, is, (n, names))) = inl (second, rest, n, refl, (l, is, names))
    by_second (inr wrong) = inr wrong

opening_of : (certificate : List ℕ) (lines : List (List ℕ)) → cut_lines certificate ≡ lines
    → ((n : ℕ) × (behind : List (List ℕ)) × OpensShell certificate n behind) ⊎ ((x : Illegal) × IsFirstWrong lines x)
opening_of certificate [] cut = inr (Missing 1, refl)
opening_of certificate (first ∷ lines) cut = by_first (wanted_or_wrong IsHeadLine head_decided 1 first) (second_decided lines)
  where
    by_first : IsOf IsHeadLine first ⊎ ((x : Illegal) × IsWrong IsHeadLine 1 first x)
        → ((second : List ℕ) × (rest : List (List ℕ)) × (n : ℕ) × (lines ≡ second ∷ rest) × IsOf (NamesShell n) second)
        ⊎ ((x : Illegal) × IsSecondWrong lines x)
        → ((n : ℕ) × (behind : List (List ℕ)) × OpensShell certificate n behind) ⊎ ((x : Illegal) × IsFirstWrong (first ∷ lines) x)
    by_first (inr (x, wrong)) second = inr (x, inl wrong)
    by_first (inl (l, is, e)) (inr (x, wrong)) = inr (x, inr (subst (IsSpelled first) e is, wrong))
    by_first (inl (l, is, e)) (inl (second, rest, n, behind, names)) =
        inl (
          n,
          lines,
          record {
            first = first;
            second = second;
            rest = rest;
            cut = cut;
            behind = behind;
            is_head = subst (IsSpelled first) e is;
            names =
                names;
          },
        )

-- A certificate opens with the head and a shell, or has a first bad line among these two.
pub openings_are_decided : (certificate : List ℕ) → ((n : ℕ) × (lines : List (List ℕ)) × OpensShell certificate n lines)
    ⊎ ((x : Illegal) × IsBadOpening certificate x)
openings_are_decided certificate = opening_of certificate (cut_lines certificate) refl
