-- The lines of a solid's shells, one shell after another.
use Rattle.std.proofs.Common.{◌≡◌, ℕ, ◌+◌, ◌<◌, ◌^◌, Bool, List, [], ◌∷◌, ◌++◌, length, flat_map, drop, refl, sym, ap, subst, ◌∙◌, append_assoc, arith, Some}
use Rattle.std.proofs.Common.{slice_get, length-append}
use Rattle.std.specs.List.{enumerate_from}
use Rattle.std.proofs.lemmas.List.{length-map}
use Rattle.std.proofs.lemmas.List.Sums.{sum_by-cons}
use Rattle.std.proofs.lemmas.List.FromFn.{length-enumerate_from}
use Rattle.solid_data.specs.Numbering.{IsNumberedSolid}
use Rattle.solid_data.specs.SolidData.{SolidData, PlacedLoop, placed_in_face, placed_loops, same_flag}
use Rattle.solid_data.specs.declared.solid.FaceUse.{FaceUse}
use Rattle.solid_data.specs.declared.solid.Shell.{Shell}
use Rattle.solid_data.proofs.Members.{has_get, split_at}
use Rattle.edge_uses.specs.Joining.{placed_at}
use Rattle.edge_uses.specs.ShellRows.{ShellRows, shell_rows, rows_of}
use Rattle.edge_uses.proofs.Few.{part_shorter}
use Rattle.shell_counts.specs.Counts.{AreCounts}
use Rattle.shell_counts.specs.declared.counting.ShellCounts.{ShellCounts}
use Rattle.iges_solid_cmd.specs.Texts.{counts_line, loop_count, shell_line, shell_lines_from}

loops_counted : (flag : Bool) (base : ℕ) (fs : List FaceUse) → length (flat_map (placed_in_face flag) (enumerate_from base fs)) ≡ loop_count fs
loops_counted flag base [] = refl
loops_counted flag base (f ∷ fs) =
    let here : List PlacedLoop = placed_in_face flag (base, f) in
    let more : List PlacedLoop = flat_map (placed_in_face flag) (enumerate_from (base + 1) fs) in
    let own : length here ≡ length f.loops = length-map (enumerate_from 0 f.loops) (placed_at base (same_flag f.flag flag)) ∙ length-enumerate_from 0 f.loops in
    let parts : length (flat_map (placed_in_face flag) (enumerate_from base (f ∷ fs))) ≡ length here + length more = length-append here more in
    let counted : loop_count (f ∷ fs) ≡ length f.loops + loop_count fs = sum_by-cons (λ (x : FaceUse). length x.loops) f fs in
    omega (arith, parts, counted, own, loops_counted flag (base + 1) fs)

-- a shell of a solid has few loops
pub few_loops : (s : SolidData) (k : ℕ) (h : Shell) → IsNumberedSolid s → Some h ≡ slice_get s.shells k → loop_count h.faces < 2 ^ 29
few_loops s k h numbered there =
    omega (arith, numbered.few_loops, part_shorter placed_loops s.shells h (has_get s.shells k h (sym there)), loops_counted h.flag 0 h.faces)

next_shell : (s : SolidData) (k : ℕ) (h : Shell) → slice_get s.shells k ≡ Some h
    → shell_lines_from k s (drop k s.shells) ≡ shell_line (k + 1) h (shell_rows s h) ++ shell_lines_from (k + 1) s (drop (k + 1) s.shells)
next_shell s k h there = ap (shell_lines_from k s) (split_at s.shells k h there)

-- the line of a shell by its counts
pub line_counted : (k : ℕ) (h : Shell) (counts : ShellCounts) (d : ShellRows) → AreCounts counts d
    → counts_line k h counts.uses counts.edges counts.vertices ≡ shell_line k h d
line_counted k h counts d are =
    ap (λ n. counts_line k h n counts.edges counts.vertices) are.uses
    ∙ (ap (λ n. counts_line k h (length d.rows) n counts.vertices) are.edges ∙ ap (counts_line k h (length d.rows) (length d.edges)) are.vertices)

-- a text that the line of a shell was put to
pub shell_put : (s : SolidData) (k i : ℕ) (h : Shell) (counts : ShellCounts) (out new : List ℕ) → Some h ≡ slice_get s.shells k
    → AreCounts counts (rows_of s (slice_get s.shells k)) → i ≡ k → new ≡ out ++ counts_line (i + 1) h counts.uses counts.edges counts.vertices
    → new ++ shell_lines_from (k + 1) s (drop (k + 1) s.shells) ≡ out ++ shell_lines_from k s (drop k s.shells)
shell_put s k i h counts out new there are is grown =
    let more = shell_lines_from (k + 1) s (drop (k + 1) s.shells) in
    let own : AreCounts counts (shell_rows s h) = subst (λ o. AreCounts counts (rows_of s o)) (sym there) are in
    let line : new ≡ out ++ shell_line (k + 1) h (shell_rows s h) =
    grown ∙ (ap (λ n. out ++ counts_line (n + 1) h counts.uses counts.edges counts.vertices) is
    ∙ ap (λ t. out ++ t) (line_counted (k + 1) h counts (shell_rows s h) own)) in
    ap (λ t. t ++ more) line ∙ append_assoc out (shell_line (k + 1) h (shell_rows s h)) more ∙ ap (λ t. out ++ t) (sym (next_shell s k h (sym there)))
