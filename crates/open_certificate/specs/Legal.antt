-- Which lines after the head make a certificate of an open shell legal, which is the first bad one, and which certificates are accepted.
use Rattle.std.specs.Prelude.{◌≡◌, ℕ, List, [], ◌∷◌, flat_map, ◌⊎◌, true, false}
use Rattle.std.specs.List.{AllByRecursion}
use Rattle.solid_data.specs.SolidData.{SolidData, PlacedLoop, placed_loops}
use Rattle.solid_data.specs.declared.solid.Shell.{Shell}
use Rattle.edge_uses.specs.Joins.{IsJoined}
use Rattle.cert_lines.specs.Line.{cut_lines}
use Rattle.open_certificate.specs.Line.{head, IsSpelled, OpenLine, IsMisspelt}
use Rattle.cert_text.specs.declared.fault.Illegal.{Illegal}
use Rattle.cert_text.specs.declared.fault.Illegal.TheVariants.{Misspelt, Unfit, Missing}
use Rattle.open_certificate.specs.Progress.{progress_from_latest, FitsLine}

-- After the lines before, the latest first: each line is spelled and fits after those before it, and the last is END.
abbrev pub IsLegalAfter : SolidData → List OpenLine → List (List ℕ) → Type 0
IsLegalAfter s before [] = (progress_from_latest s before).ended ≡ true
IsLegalAfter s before (bytes ∷ rest) = (line : OpenLine) × IsSpelled bytes line × FitsLine s (progress_from_latest s before) line
    × IsLegalAfter s (line ∷ before) rest

unfoldable pub IsOpenLegal : SolidData → List (List ℕ) → Type 0
IsOpenLegal s lines = IsLegalAfter s [] lines

-- The line is spelled and doesn't fit.
abbrev pub IsUnfit : SolidData → List OpenLine → List ℕ → Type 0
IsUnfit s before bytes = (line : OpenLine) × IsSpelled bytes line × ¬ FitsLine s (progress_from_latest s before) line

-- The bytes are no line that fits after these lines: they are misspelt, or unfit.
abbrev pub IsBadLine : SolidData → List OpenLine → List ℕ → Illegal → Type 0
IsBadLine s before bytes bad =
    (IsMisspelt bytes × (bad ≡ Misspelt (progress_from_latest s before).number)) ⊎ (IsUnfit s before bytes × (bad
    ≡ Unfit (progress_from_latest s before).number))

-- the first misspelt or unfit line, or the number after the last line where END is missing
abbrev pub IsFirstBadAfter : SolidData → List OpenLine → List (List ℕ) → Illegal → Type 0
IsFirstBadAfter s before [] bad = ((progress_from_latest s before).ended ≡ false) × (bad ≡ Missing (progress_from_latest s before).number)
IsFirstBadAfter s before (bytes ∷ rest) bad =
    IsBadLine s before bytes bad
    ⊎ ((line : OpenLine) × IsSpelled bytes line × FitsLine s (progress_from_latest s before) line × IsFirstBadAfter s (line ∷ before) rest bad)

unfoldable pub IsOpenFirstBad : SolidData → List (List ℕ) → Illegal → Type 0
IsOpenFirstBad s lines bad = IsFirstBadAfter s [] lines bad

-- The solid has one shell, whose entity is the solid's own.
pub record IsOpenShell (s : SolidData) : Type 0 where
  pub shell : Shell
  pub alone : s.shells ≡ shell ∷ []
  pub named : shell.entity ≡ s.entity

-- each loop of the solid joins
abbrev pub AllJoin : SolidData → Type 0
AllJoin s = AllByRecursion (λ (p : PlacedLoop). IsJoined s p.loop) (flat_map placed_loops s.shells)

-- The certificate is accepted for the solid that is one open shell: its first line is the head, each loop joins, and the lines after the head, the first of
-- which names the shell, are legal.
pub record IsOpenAccepted (s : SolidData) (certificate : List ℕ) : Type 0 where
  pub first : List ℕ
  pub rest : List (List ℕ)
  pub cut : cut_lines certificate ≡ first ∷ rest
  pub is_head : IsSpelled first head
  pub joined : AllJoin s
  pub legal : IsOpenLegal s rest
