-- The directory of the tiny file.
use Rattle.std.proofs.Common.{◌≡◌, ◌∷◌, [], ◌++◌, pos, Ok, Err, refl, take, drop}
use Rattle.std.specs.Prelude.{codes}
use Rattle.iges_lines.specs.declared.reason.Reason.TheVariants.{Unpaired, Field, TypesDiffer, Range}
use Rattle.iges_lines.specs.Reading.{first_from}
use Rattle.iges_lines.proofs.Tiny.{tiny_sections, s1, g1, d1, d2, p1}
use Rattle.iges_directory.specs.declared.entry.Entry.{Entry}
use Rattle.iges_directory.specs.declared.entry.Placed.{Placed}
use Rattle.iges_directory.specs.Entries.{AreEntries}
use Rattle.iges_directory.specs.Reading.{read_directory}

abbrev pub solid : Entry
solid = record {
  kind = pos 186;
  structure = pos 0;
  font = pos 0;
  level = pos 0;
  view = pos 0;
  matrix = pos 0;
  display = pos 0;
  weight = pos 0;
  colour = pos 0;
  form = pos 0;
  subscript = pos 0;
  status = codes "00000000";
  label = codes "        ";
}

abbrev pub placed : Placed
placed = record { entry = solid; first = pos 1; count = pos 1 }

reads : read_directory tiny_sections ≡ Ok (placed ∷ [])
unfolding read_directory first_from
reads = refl

pub by_grammar : AreEntries 1 tiny_sections.directory (placed ∷ [])
by_grammar = (
  record {
    kind = refl;
    record_first = refl;
    structure = refl;
    font = refl;
    level = refl;
    view = refl;
    matrix = refl;
    display = refl;
    status = refl;
    status_digits = refl;
    kind_again = refl;
    weight = refl;
    colour = refl;
    record_count = refl;
    form = refl;
    label = refl;
    subscript = refl;
  },
  refl,
  tt,
)

types_differ : read_directory (record { start = s1 ∷ []; global = g1 ∷ []; directory = d1 ∷ (codes "     110" ++ drop 8 d2) ∷ []; param = p1 ∷ [] })
    ≡ Err (record { line = 4; reason = TypesDiffer })
unfolding read_directory first_from
types_differ = refl

unpaired : read_directory (record { start = s1 ∷ []; global = g1 ∷ []; directory = d1 ∷ d2 ∷ d1 ∷ []; param = p1 ∷ [] })
    ≡ Err (record { line = 5; reason = Unpaired })
unfolding read_directory first_from
unpaired = refl

out_of_range : read_directory (record { start = s1 ∷ []; global = g1 ∷ []; directory = d1 ∷ d2 ∷ []; param = [] })
    ≡ Err (record { line = 4; reason = Range })
unfolding read_directory first_from
out_of_range = refl

bad_field : read_directory (record { start = s1 ∷ []; global = g1 ∷ []; directory = (take 16 d1 ++ codes "     1 0" ++ drop 24 d1) ∷ d2 ∷ []; param = p1 ∷ [] })
    ≡ Err (record { line = 3; reason = Field })
unfolding read_directory first_from
bad_field = refl
