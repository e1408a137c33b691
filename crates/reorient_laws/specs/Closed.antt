-- The solid of a reoriented file, and when it is closed.
use Rattle.std.specs.Prelude.{◌≡◌, ◌↔◌, ℕ, Some, slice_get}
use Rattle.std.specs.List.{AllByRecursion, enumerate_from}
use Rattle.iges_params.specs.Contents.{Contents}
use Rattle.solid_data.specs.Obligations.{AllHold}
use Rattle.solid_data.specs.declared.solid.Shell.{Shell}
use Rattle.edge_uses.specs.RowRelations.{IsPaired}
use Rattle.shell_rules.specs.Closed.{IsClosedSolid}
use Rattle.edge_uses.specs.ShellRows.{shell_rows}
use Rattle.brep_walk.specs.Places.{places}
use Rattle.brep_walk.specs.SolidOf.{solid_of}
use Rattle.solid_verdict.specs.Closed.{IsClosed}
use Rattle.orient_commands.specs.Turned.{JoinsAndLinks}
use Rattle.flag_choice.specs.Turned.{turned}
use Rattle.solid_extract.specs.Extracted.{new_number}
use Rattle.extraction_laws.specs.Kept.{kept_names}
use Rattle.extraction_laws.specs.Relabelled.{IsRelabelled}
use Rattle.solid_reorient.specs.Reoriented.{IsReoriented}

-- the number that an entity has in the new file
abbrev pub number_in : (f : Contents) (n : ℕ) (new : Contents) → IsReoriented f n new → ℕ → ℕ
number_in f n new r m = new_number r.extracted.kept m

-- Its places hold in the new file, whose records describe the solid with the flags that were found, each number renamed.
abbrev pub SolidIsReoriented : Type 0
SolidIsReoriented = (f : Contents) (n : ℕ) (new : Contents) (r : IsReoriented f n new)
    → AllHold (places new (number_in f n new r n))
    × IsRelabelled (kept_names r.extracted.kept) (turned r.flags (solid_of f n)) (solid_of new (number_in f n new r n))

-- PAIR holds there: each edge of each shell is used once along it and once against it.
abbrev pub ReorientedIsPaired : Type 0
ReorientedIsPaired = (f : Contents) (n : ℕ) (new : Contents) (r : IsReoriented f n new) (k : ℕ) (h : Shell)
    → slice_get (let s = solid_of new (number_in f n new r n) in s.shells) k ≡ Some h
    → AllByRecursion (IsPaired (shell_rows (solid_of new (number_in f n new r n)) h)) (let d = shell_rows (solid_of new (number_in f n new r n)) h in d.edges)

-- It is closed there exactly where the solid with these flags is closed.
abbrev pub ClosedWithFlags : Type 0
ClosedWithFlags = (f : Contents) (n : ℕ) (new : Contents) (r : IsReoriented f n new)
    → IsClosedSolid (turned r.flags (solid_of f n)) ↔ IsClosed new (number_in f n new r n)

-- So it is where JOIN, LINK and APART hold of the solid with these flags.
abbrev pub ReorientedIsClosed : Type 0
ReorientedIsClosed = (f : Contents) (n : ℕ) (new : Contents) (r : IsReoriented f n new)
    → AllByRecursion (λ (h : ℕ × Shell). JoinsAndLinks (turned r.flags (solid_of f n)) h.0 h.1)
    (enumerate_from 0 (let s = turned r.flags (solid_of f n) in s.shells)) → IsClosed new (number_in f n new r n)
