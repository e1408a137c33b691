-- A certificate of version 1 as one of version 2, for a solid.
use Rattle.std.specs.Prelude.{ℕ, zero, suc, ◌+◌, ◌==◌, ◌&&◌, Bool, true, false, List, [], ◌∷◌, ◌++◌, length, flat_map, codes, Option, Some, None, slice_get}
use Rattle.std.specs.Prelude.{if◌then◌else◌}
use Rattle.solid_data.specs.SolidData.{SolidData}
use Rattle.solid_data.specs.declared.solid.Shell.{Shell}
use Rattle.edge_uses.specs.ShellRows.{shell_rows}
use Rattle.cert_lines.specs.Line.{head, tally, words, spelling, cut_lines}
use Rattle.cert_lines.specs.declared.counts.TallyCounts.{TallyCounts}
use Rattle.cert_lines.specs.declared.version.Version.TheVariants.{One, Two}
use Rattle.cert_state.specs.Progress.{loops_of}

-- the bytes begin with the word
abbrev pub starts_with : List ℕ → List ℕ → Bool
starts_with [] bytes = true
starts_with (w ∷ word) [] = false
starts_with (w ∷ word) (b ∷ bytes) = (w == b) && starts_with word bytes

-- the counts in the TALLY line of a shell
abbrev pub tally_of_shell : SolidData → Shell → TallyCounts
tally_of_shell s h = record {
  vertices = length (shell_rows s h).vertices;
  edges = length (shell_rows s h).edges;
  faces = (shell_rows s h).face_count;
  loops =
      loops_of (Some h);
}

abbrev pub tally_lines_of : SolidData → Option Shell → List (List ℕ)
tally_lines_of s None = []
tally_lines_of s (Some h) = spelling (tally (tally_of_shell s h)) ∷ []

-- the TALLY line of the shell with this number, from 1; before the first shell there is none
abbrev pub tally_before : SolidData → ℕ → List (List ℕ)
tally_before s zero = []
tally_before s (suc k) = tally_lines_of s (slice_get s.shells k)

-- The lines with the TALLY line of the shell that ends put before each SHELL line but the first, and before END. So many shells have begun before them.
abbrev pub with_tallies : SolidData → ℕ → List (List ℕ) → List (List ℕ)
with_tallies s k [] = []
with_tallies s k (line ∷ lines) =
    if starts_with (codes "SHELL") line then tally_before s k ++ line ∷ with_tallies s (k + 1) lines
    else (if starts_with (codes "END") line then tally_before s k ++ line ∷ with_tallies s k lines else line ∷ with_tallies s k lines)

abbrev pub joined : List (List ℕ) → List ℕ
joined lines = flat_map (λ (line : List ℕ). line) lines

abbrev pub upgraded_from : SolidData → List ℕ → List (List ℕ) → List ℕ
upgraded_from s certificate [] = certificate
upgraded_from s certificate (first ∷ lines) = if starts_with (words (head One)) first then joined (spelling (head Two) ∷ with_tallies s 0 lines) else
    certificate

-- A certificate of version 1 with the head of version 2 and with TALLY lines; any other as it is.
unfoldable pub upgraded : SolidData → List ℕ → List ℕ
upgraded s certificate = upgraded_from s certificate (cut_lines certificate)
