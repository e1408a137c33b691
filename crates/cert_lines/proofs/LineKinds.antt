-- What holds of each kind of line.
use Rattle.std.specs.Prelude.{◌≡◌, ℕ, ◌+◌, ◌<◌, ◌==◌, ◌^◌, List, [], ◌∷◌, ◌++◌, codes, if◌then◌else◌, ◌≢◌, length}
use Rattle.std.specs.List.{AllByRecursion}
use Rattle.std.proofs.Common.{refl, sym, ◌∙◌, ap, arith, get_or, inl, inr}
use Rattle.cert_text.specs.Text.{spaced, IsShort}
use Rattle.cert_lines.specs.Line.{CertLine, head, solid, shell, edge, corner, point, reach, tally, end, version_number, spelling, HasSpelling}
use Rattle.cert_lines.specs.Line.{words}
use Rattle.cert_lines.specs.declared.version.Version.{Version}
use Rattle.cert_lines.specs.declared.version.Version.TheVariants.{One, Two, Three}
use Rattle.solid_data.proofs.Decisions.{Decided, decided_below, decided_both, decided_all}
use Rattle.cert_lines.specs.Opening.{IsHeadLine, IsSolid}
use Rattle.cert_text.proofs.Spacing.{rest_of, spaced_no_break}
use Rattle.cert_lines.specs.Parsed.{Spells}

pub version_short : (v : Version) → IsShort (version_number v)
version_short One = omega arith
version_short Two = omega arith
version_short Three = omega arith

-- A line is its kind and its numbers.
abbrev pub kind_of : CertLine → ℕ
kind_of (head v) = 0
kind_of (solid n) = 1
kind_of (shell k c) = 2
kind_of (edge a b) = 3
kind_of (corner rs) = 4
kind_of (point face l) = 5
kind_of (reach r) = 6
kind_of end = 7
kind_of (tally t) = 8

abbrev pub numbers_in : CertLine → List ℕ
numbers_in (head v) = version_number v ∷ []
numbers_in (solid n) = n ∷ []
numbers_in (shell k c) = k ∷ c.rows ∷ c.edges ∷ c.corners ∷ c.faces ∷ []
numbers_in (edge a b) = a ∷ b ∷ []
numbers_in (corner rs) = rs
numbers_in (point face l) = face ∷ l ∷ []
numbers_in (reach r) = r ∷ []
numbers_in end = []
numbers_in (tally t) = t.vertices ∷ t.edges ∷ t.faces ∷ t.loops ∷ []

abbrev pub prefix_of : ℕ → List ℕ
prefix_of k = if k == 0 then codes "IGESCERT" else (if k == 1 then codes "SOLID" else
    (if k == 2 then codes "SHELL" else (if k == 3 then codes "E" else
    (if k == 4 then codes "C" else (if k == 5 then codes "I" else (if k == 6 then codes "R" else (if k == 7 then codes "END" else codes "TALLY")))))))

abbrev version_with : ℕ → Version
version_with n = if n == 1 then One else (if n == 2 then Two else Three)

abbrev pub line_from : ℕ → List ℕ → CertLine
line_from k ns = if k == 0 then head (version_with (get_or ns 0 0)) else
    (if k == 1 then solid (get_or ns 0 0) else (if k == 2 then shell (get_or ns 0 0)
    (record { rows = get_or ns 1 0; edges = get_or ns 2 0; corners = get_or ns 3 0; faces = get_or ns 4 0 })
    else (if k == 3 then edge (get_or ns 0 0) (get_or ns 1 0) else
    (if k == 4 then corner ns else (if k == 5 then point (get_or ns 0 0) (get_or ns 1 0) else
    (if k == 6 then reach (get_or ns 0 0) else (if k == 7 then end else tally
    (record { vertices = get_or ns 0 0; edges = get_or ns 1 0; faces = get_or ns 2 0; loops = get_or ns 3 0 }))))))))

pub rebuilt : (l : CertLine) → line_from (kind_of l) (numbers_in l) ≡ l
rebuilt (head One) = refl
rebuilt (head Two) = refl
rebuilt (head Three) = refl
rebuilt (solid n) = refl
rebuilt (shell k c) = refl
rebuilt (edge a b) = refl
rebuilt (corner rs) = refl
rebuilt (point face l) = refl
rebuilt (reach r) = refl
rebuilt (tally t) = refl
rebuilt end = refl

pub spelling_parts : (l : CertLine) → spelling l ≡ prefix_of (kind_of l) ++ (spaced (numbers_in l) ++ 10 ∷ [])
spelling_parts (head v) = refl
spelling_parts (solid n) = refl
spelling_parts (shell k c) = refl
spelling_parts (edge a b) = refl
spelling_parts (corner rs) = refl
spelling_parts (point face l) = refl
spelling_parts (reach r) = refl
spelling_parts (tally t) = refl
spelling_parts end = refl

pub numbers_short : (l : CertLine) → HasSpelling l → AllByRecursion IsShort (numbers_in l)
numbers_short (head v) h = (version_short v, tt)
numbers_short (solid n) h = (h, tt)
numbers_short (shell k c) h = h
numbers_short (edge a b) h = (h.0, (h.1, tt))
numbers_short (corner rs) h = h.0
numbers_short (point face l) h = (h.0, (h.1, tt))
numbers_short (reach r) h = (h, tt)
numbers_short (tally t) h = h
numbers_short end h = tt

-- the kind by the first two bytes
abbrev pub kind_by : List ℕ → ℕ
kind_by bytes = by_bytes (get_or bytes 0 0) (get_or bytes 1 0)
  where
    by_bytes : ℕ → ℕ → ℕ
    by_bytes a b = if a == 73 then (if b == 71 then 0 else 5) else
        (if a == 83 then (if b == 79 then 1 else 2) else (if a == 69 then (if b == 32 then 3 else 7) else (if a == 67 then 4 else (if a == 84 then 8 else 6))))

pub kind_read : (l : CertLine) → HasSpelling l → kind_by (spelling l) ≡ kind_of l
kind_read (head v) h = refl
kind_read (solid n) h = refl
kind_read (shell k c) h = refl
kind_read (edge a b) h = refl
kind_read (corner []) h = absurd (omega (arith, h.1))
kind_read (corner (r ∷ rs)) h = refl
kind_read (point face l) h = refl
kind_read (reach r) h = refl
kind_read (tally t) h = refl
kind_read end h = refl

pub words_no_break : (l : CertLine) → HasSpelling l → AllByRecursion (λ b. b ≢ 10) (words l)
words_no_break (head v) h = (
  omega arith,
  (
    omega arith,
    (
      omega arith,
      (omega arith, (omega arith, (omega arith, (omega arith, (omega arith, spaced_no_break (version_number v ∷ []) (version_short v, tt)))))),
    ),
  ),
)
words_no_break (solid n) h = (omega arith, (omega arith, (omega arith, (omega arith, (omega arith, spaced_no_break (n ∷ []) (h, tt))))))
words_no_break (shell k c) h = (
  omega arith,
  (
    omega arith,
    (
      omega arith,
      (omega arith, (omega arith, spaced_no_break (k ∷ c.rows ∷ c.edges ∷ c.corners ∷ c.faces ∷ []) h)),
    ),
  ),
)
words_no_break (edge a b) h = (omega arith, spaced_no_break (a ∷ b ∷ []) (h.0, (h.1, tt)))
words_no_break (corner rs) h = (omega arith, spaced_no_break rs h.0)
words_no_break (point face l) h = (omega arith, spaced_no_break (face ∷ l ∷ []) (h.0, (h.1, tt)))
words_no_break (reach r) h = (omega arith, spaced_no_break (r ∷ []) (h, tt))
words_no_break (tally t) h = (
  omega arith,
  (
    omega arith,
    (
      omega arith,
      (omega arith, (omega arith, spaced_no_break (t.vertices ∷ t.edges ∷ t.faces ∷ t.loops ∷ []) h)),
    ),
  ),
)
words_no_break end h = (omega arith, (omega arith, (omega arith, tt)))

short_decided : (n : ℕ) → Decided (IsShort n)
short_decided n = decided_below n (10 ^ 9)

numbers_decided : (ns : List ℕ) → Decided (AllByRecursion IsShort ns)
numbers_decided ns = decided_all IsShort short_decided ns

pub has_spelling_decided : (l : CertLine) → Decided (HasSpelling l)
has_spelling_decided (head v) = inl tt
has_spelling_decided (solid n) = short_decided n
has_spelling_decided (shell k c) = numbers_decided (k ∷ c.rows ∷ c.edges ∷ c.corners ∷ c.faces ∷ [])
has_spelling_decided (edge a b) = decided_both (short_decided a) (short_decided b)
has_spelling_decided (corner rs) = decided_both (numbers_decided rs) (decided_below 0 (length rs))
has_spelling_decided (point face l) = decided_both (short_decided face) (short_decided l)
has_spelling_decided (reach r) = short_decided r
has_spelling_decided (tally t) = numbers_decided (t.vertices ∷ t.edges ∷ t.faces ∷ t.loops ∷ [])
has_spelling_decided end = inl tt

pub kind_below : (l : CertLine) → kind_of l < 9
kind_below (head v) = omega arith
kind_below (solid n) = omega arith
kind_below (shell k c) = omega arith
kind_below (edge a b) = omega arith
kind_below (corner rs) = omega arith
kind_below (point face l) = omega arith
kind_below (reach r) = omega arith
kind_below (tally t) = omega arith
kind_below end = omega arith

pub head_decided : (l : CertLine) → Decided (IsHeadLine l)
head_decided (head v) = inl (v, refl)
head_decided (solid n) = inr (λ (v, e). cc)
head_decided (shell k c) = inr (λ (v, e). cc)
head_decided (edge a b) = inr (λ (v, e). cc)
head_decided (corner rs) = inr (λ (v, e). cc)
head_decided (point face l) = inr (λ (v, e). cc)
head_decided (reach r) = inr (λ (v, e). cc)
head_decided (tally t) = inr (λ (v, e). cc)
head_decided end = inr (λ (v, e). cc)

pub solid_decided : (l : CertLine) → Decided (IsSolid l)
solid_decided (head v) = inr (λ (n, e). cc)
solid_decided (solid n) = inl (n, refl)
solid_decided (shell k c) = inr (λ (n, e). cc)
solid_decided (edge a b) = inr (λ (n, e). cc)
solid_decided (corner rs) = inr (λ (n, e). cc)
solid_decided (point face l) = inr (λ (n, e). cc)
solid_decided (reach r) = inr (λ (n, e). cc)
solid_decided (tally t) = inr (λ (n, e). cc)
solid_decided end = inr (λ (n, e). cc)

pub corner_some : (text rest rs : List ℕ) → text ≡ 67 ∷ rest → length rest ≡ 0 → Spells text (corner rs) → ⊥
corner_some text rest [] e none h = omega (arith, h.0.1)
corner_some text rest (r ∷ rs) e none h =
    let same : rest ≡ spaced (r ∷ rs) = ap rest_of (sym e ∙ h.1) in
    omega (arith, none, ap length same)
