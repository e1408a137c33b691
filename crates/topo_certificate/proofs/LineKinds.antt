-- What holds of each kind of line.
use Rattle.std.specs.Prelude.{◌≡◌, ℕ, suc, ◌<◌, ◌⊎◌, true, false, List, [], ◌∷◌, length, Some, Bool, None, ◌||◌, cond, filter}
use Rattle.std.proofs.Common.{refl, sym, ◌∙◌, ap, subst, arith, inl, inr}
use Rattle.solid_data.specs.SolidData.{SolidData}
use Rattle.cert_lines.specs.Line.{CertLine, head, solid, shell, edge, corner, point, reach, tally, end, spelling}
use Rattle.cert_lines.specs.declared.counts.ShellCounts.{ShellCounts}
use Rattle.cert_lines.specs.declared.version.Version.{Version}
use Rattle.cert_state.specs.Progress.{FitsOpen, FitsEdge, FitsCorner, FitsPoint, FitsReach, NoneDue, is_shell, number_of, asked, rows_of_shell, current_rows}
use Rattle.cert_state.specs.Progress.{Progress, is_last, is_tally}
use Rattle.cert_lines.specs.declared.counts.TallyCounts.{TallyCounts}
use Rattle.topo_certificate.specs.Upgraded.{with_tallies}
use Rattle.cert_lines.specs.Parsed.{IsRowLine}
use Rattle.topo_certificate.proofs.Facts.{Good, AllFit, Facts, facts_begin, facts_edge, facts_corner, facts_point, facts_reach}
use Rattle.cert_state.proofs.SameProgress.{SameProgress, fits_edge, fits_corner, fits_point, fits_reach, corner_due, reach_due}

-- the first of two tests holds where one does and the second doesn't
pub first_true : (a b : Bool) → b ≡ false → (a || b) ≡ true → a ≡ true
first_true true b e h = refl
first_true false b e h = absurd (let never : false ≡ true = sym e ∙ h in cc)

-- how many of the lines are of a kind, with one more
pub number_more : (kind : CertLine → Bool) (l : CertLine) (ls : List CertLine) → kind l ≡ true → number_of kind (l ∷ ls) ≡ suc (number_of kind ls)
number_more kind l ls e = ap (λ b. length (cond b (l ∷ filter kind ls) (filter kind ls))) e

pub number_same : (kind : CertLine → Bool) (l : CertLine) (ls : List CertLine) → kind l ≡ false → number_of kind (l ∷ ls) ≡ number_of kind ls
number_same kind l ls e = ap (λ b. length (cond b (l ∷ filter kind ls) (filter kind ls))) e

-- a SHELL line, a TALLY line and END by their tests
pub shell_line : (l : CertLine) → is_shell l ≡ true → (k : ℕ) × (c : ShellCounts) × (l ≡ shell k c)
shell_line (head v) h = absurd cc
shell_line (solid n) h = absurd cc
shell_line (shell k c) h = (k, c, refl)
shell_line (edge a b) h = absurd cc
shell_line (corner rs) h = absurd cc
shell_line (point face l) h = absurd cc
shell_line (reach r) h = absurd cc
shell_line (tally t) h = absurd cc
shell_line end h = absurd cc

pub tally_line : (l : CertLine) → is_tally l ≡ true → (t : TallyCounts) × (l ≡ tally t)
tally_line (head v) h = absurd cc
tally_line (solid n) h = absurd cc
tally_line (shell k c) h = absurd cc
tally_line (edge a b) h = absurd cc
tally_line (corner rs) h = absurd cc
tally_line (point face l) h = absurd cc
tally_line (reach r) h = absurd cc
tally_line (tally t) h = (t, refl)
tally_line end h = absurd cc

pub end_line : (l : CertLine) → is_last l ≡ true → l ≡ end
end_line (head v) h = absurd cc
end_line (solid n) h = absurd cc
end_line (shell k c) h = absurd cc
end_line (edge a b) h = absurd cc
end_line (corner rs) h = absurd cc
end_line (point face l) h = absurd cc
end_line (reach r) h = absurd cc
end_line (tally t) h = absurd cc
end_line end h = refl

-- a line of rows begins no shell and ends nothing
pub row_kind : (l : CertLine) → IsRowLine l → (is_shell l ≡ false) × (is_last l ≡ false)
row_kind (head v) h = absurd h
row_kind (solid n) h = absurd h
row_kind (shell k c) h = absurd h
row_kind (edge a b) h = (refl, refl)
row_kind (corner rs) h = (refl, refl)
row_kind (point face l) h = (refl, refl)
row_kind (reach r) h = (refl, refl)
row_kind (tally t) h = (refl, refl)
row_kind end h = absurd h

-- no line of rows fits where none is due
pub no_row_line : (s : SolidData) (at : Progress) (line : CertLine) → NoneDue at.due → IsRowLine line → FitsOpen s at line → ⊥
no_row_line s at (head v) none kind fits = kind
no_row_line s at (solid n) none kind fits = kind
no_row_line s at (shell k c) none kind fits = kind
no_row_line s at (edge a b) none kind fits = omega (arith, none.edges, fits.0)
no_row_line s at (corner []) none kind fits = fits
no_row_line s at (corner (r ∷ rs)) none kind fits = omega (arith, none.corners, fits.0.1)
no_row_line s at (point a b) none kind fits = omega (arith, none.corners, fits.0.1)
no_row_line s at (reach a) none kind fits = omega (arith, none.reach, fits.0.2)
no_row_line s at (tally t) none kind fits = omega (arith, none.tally, fits.0.3)
no_row_line s at end none kind fits = kind

-- only a SHELL line asks for others
pub asked_none : (v : Version) (l : CertLine) → is_shell l ≡ false → asked v (Some l) ≡ asked v None
asked_none v (head w) h = refl
asked_none v (solid n) h = refl
asked_none v (shell k c) h = absurd cc
asked_none v (edge a b) h = refl
asked_none v (corner rs) h = refl
asked_none v (point face l) h = refl
asked_none v (reach r) h = refl
asked_none v (tally t) h = refl
asked_none v end h = refl

pub facts_of : (version : Version) (s : SolidData) → Good s → (lines : List CertLine) (k : ℕ) → number_of is_shell lines ≡ suc k → AllFit version s lines
    → Facts version s lines (current_rows s lines)
facts_of version s good [] k number fit = absurd (omega (arith, number))
facts_of version s good (head v ∷ lines) k number fit = absurd fit.0.1
facts_of version s good (solid n ∷ lines) k number fit = absurd fit.0.1
facts_of version s good (shell j c ∷ lines) k number fit = facts_begin version s lines j c fit.0.1.1
facts_of version s good (edge a b ∷ lines) k number fit =
    facts_edge version s lines (current_rows s lines) a b (good (number_of is_shell lines)) refl (facts_of version s good lines k number fit.1) fit.0.1.0
    fit.0.1
facts_of version s good (corner [] ∷ lines) k number fit = absurd fit.0.1
facts_of version s good (corner (r ∷ rs) ∷ lines) k number fit = facts_corner version s lines (current_rows s lines) r rs (good (number_of is_shell lines))
    refl (facts_of version s good lines k number fit.1) fit.0.1
facts_of version s good (point face l ∷ lines) k number fit = facts_point version s lines (current_rows s lines) face l (good (number_of is_shell lines)) refl
    (facts_of version s good lines k number fit.1) fit.0.1
facts_of version s good (reach r ∷ lines) k number fit = facts_reach version s lines (current_rows s lines) r (good (number_of is_shell lines)) refl
    (facts_of version s good lines k number fit.1) fit.0.1
facts_of version s good (tally t ∷ lines) k number fit =
    let facts : Facts version s lines (current_rows s lines) = facts_of version s good lines k number fit.1 in
    record { edge_facts = facts.edge_facts; corner_facts = facts.corner_facts; reach_facts = facts.reach_facts; asks = facts.asks; twice = facts.twice }
facts_of version s good (end ∷ lines) k number fit =
    let facts : Facts version s lines (current_rows s lines) = facts_of version s good lines k number fit.1 in
    record { edge_facts = facts.edge_facts; corner_facts = facts.corner_facts; reach_facts = facts.reach_facts; asks = facts.asks; twice = facts.twice }

-- What fits at one progress fits at one that differs at most in TALLY lines.
pub fits_too : (s : SolidData) (a b : Progress) (l : CertLine) → is_shell l ≡ false → is_last l ≡ false → is_tally l ≡ false → SameProgress a b → FitsOpen s a l
    → FitsOpen s b l
fits_too s a b (head v) e f g same fits = fits
fits_too s a b (solid n) e f g same fits = fits
fits_too s a b (shell k c) e f g same fits = absurd cc
fits_too s a b (edge x y) e f g same fits =
    (subst (λ n. 0 < n) (sym same.edges) fits.0, subst (λ d. FitsEdge d b x y) (ap (rows_of_shell s) (sym same.shell)) (fits_edge _ a b x y same fits.1))
fits_too s a b (corner []) e f g same fits = fits
fits_too s a b (corner (r ∷ rs)) e f g same fits =
    (corner_due a b same fits.0, subst (λ d. FitsCorner d b r rs) (ap (rows_of_shell s) (sym same.shell)) (fits_corner _ a b r rs same fits.1))
fits_too s a b (point x y) e f g same fits =
    (corner_due a b same fits.0, subst (λ d. FitsPoint d b x y) (ap (rows_of_shell s) (sym same.shell)) (fits_point _ a b x y same fits.1))
fits_too s a b (reach r) e f g same fits =
    (reach_due a b same fits.0, subst (λ d. FitsReach d b r) (ap (rows_of_shell s) (sym same.shell)) (fits_reach _ a b r same fits.1))
fits_too s a b (tally t) e f g same fits = absurd cc
fits_too s a b end e f g same fits = absurd cc

-- before a line that begins no shell and doesn't end the certificate no TALLY line is put
pub kept_there : (s : SolidData) (n : ℕ) (l : CertLine) (lines : List (List ℕ)) → is_shell l ≡ false → is_last l ≡ false
    → with_tallies s n (spelling l ∷ lines) ≡ spelling l ∷ with_tallies s n lines
kept_there s n (head v) lines e f = refl
kept_there s n (solid m) lines e f = refl
kept_there s n (shell k c) lines e f = absurd cc
kept_there s n (edge a b) lines e f = refl
kept_there s n (corner rs) lines e f = refl
kept_there s n (point face l) lines e f = refl
kept_there s n (reach r) lines e f = refl
kept_there s n (tally t) lines e f = refl
kept_there s n end lines e f = absurd cc

-- the line, but for the row that a reach line names
abbrev pub plain : CertLine → CertLine
plain (head v) = head v
plain (solid n) = solid n
plain (shell k c) = shell k c
plain (edge a b) = edge a b
plain (corner rs) = corner rs
plain (point face l) = point face l
plain (reach r) = reach 0
plain (tally t) = tally t
plain end = end

pub plain_or_reach : (l : CertLine) → (plain l ≡ l) ⊎ ((r : ℕ) × (l ≡ reach r))
plain_or_reach (head v) = inl refl
plain_or_reach (solid n) = inl refl
plain_or_reach (shell k c) = inl refl
plain_or_reach (edge a b) = inl refl
plain_or_reach (corner rs) = inl refl
plain_or_reach (point face l) = inl refl
plain_or_reach (reach r) = inr (r, refl)
plain_or_reach (tally t) = inl refl
plain_or_reach end = inl refl

-- what is alike for all reach lines is told by the plain line
pub plainly : {A : Type 0} (f : CertLine → A) → ((r s : ℕ) → f (reach r) ≡ f (reach s)) → (l : CertLine) → f (plain l) ≡ f l
plainly f alike (head v) = refl
plainly f alike (solid n) = refl
plainly f alike (shell k c) = refl
plainly f alike (edge a b) = refl
plainly f alike (corner rs) = refl
plainly f alike (point face l) = refl
plainly f alike (reach r) = alike 0 r
plainly f alike (tally t) = refl
plainly f alike end = refl
