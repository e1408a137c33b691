-- The printed lines.
use Rattle.std.specs.Prelude.{ℕ, ◌+◌, Bool, List, ◌++◌, flat_map, codes, decimal, if◌then◌else◌, length, sum_by}
use Rattle.std.specs.List.{enumerate_from}
use Rattle.iges_params.specs.Contents.{Contents}
use Rattle.iges_params.specs.Solids.{solids_of}
use Rattle.solid_data.specs.SolidData.{SolidData}
use Rattle.solid_data.specs.declared.solid.FaceUse.{FaceUse}
use Rattle.solid_data.specs.declared.solid.Shell.{Shell}
use Rattle.edge_uses.specs.ShellRows.{ShellRows, shell_rows}

-- a line with the number of a solid
abbrev pub solid_line : ℕ → List ℕ
solid_line n = decimal n ++ codes "\n"

-- one for each solid, in directory order
abbrev pub solids_text : Contents → List ℕ
solids_text f = flat_map solid_line (solids_of f)

-- a word and a number, each after a space
abbrev pub counted : List ℕ → ℕ → List ℕ
counted word n = codes " " ++ word ++ codes " " ++ decimal n

abbrev pub flag_number : Bool → ℕ
flag_number flag = if flag then 1 else 0

abbrev pub loop_count : List FaceUse → ℕ
loop_count faces = sum_by (λ (f : FaceUse). length f.loops) faces

-- a line for the shell with this number, which has so many edge uses, edges and vertices
abbrev pub counts_line : ℕ → Shell → ℕ → ℕ → ℕ → List ℕ
counts_line k shell uses edges vertices =
    codes "shell " ++ decimal k ++ counted (codes "entity") shell.entity.0 ++ counted (codes "flag") (flag_number shell.flag)
    ++ counted (codes "faces") (length shell.faces) ++ counted (codes "loops") (loop_count shell.faces) ++ counted (codes "uses") uses
    ++ counted (codes "edges") edges ++ counted (codes "vertices") vertices ++ codes "\n"

-- the same by the rows of the shell: uses counts them, and edges and vertices those that occur in it
abbrev pub shell_line : ℕ → Shell → ShellRows → List ℕ
shell_line k shell d = counts_line k shell (length d.rows) (length d.edges) (length d.vertices)

-- a line for each shell from the k-th on, numbered from 1
abbrev pub shell_lines_from : ℕ → SolidData → List Shell → List ℕ
shell_lines_from k s shells = flat_map (λ (h : ℕ × Shell). shell_line (h.0 + 1) h.1 (shell_rows s h.1)) (enumerate_from k shells)

-- the solid's number, and a line for each shell
abbrev pub show_text : SolidData → List ℕ
show_text s = codes "solid " ++ decimal s.entity.0 ++ codes "\n" ++ shell_lines_from 0 s s.shells

-- of a sample its size, the counts of its solid, and the lengths in bytes of its text and of a certificate
abbrev pub sample_line : ℕ → ℕ → ℕ → ℕ → ℕ → ℕ → List ℕ
sample_line n faces edges vertices file certificate =
    codes "sample " ++ decimal n ++ counted (codes "faces") faces ++ counted (codes "edges") edges ++ counted (codes "vertices") vertices
    ++ counted (codes "file") file ++ counted (codes "certificate") certificate ++ codes " accepted\n"
