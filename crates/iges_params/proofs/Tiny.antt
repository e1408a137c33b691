-- The tiny file and its contents.
use Rattle.std.proofs.Common.{◌≡◌, ◌∷◌, [], ◌++◌, pos, None, Ok, Err, refl, take, drop, replicate, arith}
use Rattle.std.specs.Prelude.{codes}
use Rattle.iges_fields.specs.declared.value.Value.TheVariants as value
use Rattle.iges_fields.specs.Reading.{values_from, read_values}
use Rattle.iges_lines.specs.declared.reason.Reason.TheVariants.{Delimiter, BackPointer, RecordType, TypesDiffer, GlobalKind, GlobalValue, RecordValue}
use Rattle.iges_lines.specs.Reading.{first_from, read_sections}
pub use Rattle.iges_lines.proofs.Tiny.{tiny, text_of, tiny_sections, s1, g1, d1, d2, p1, t1, by_grammar as sectioned}
use Rattle.iges_directory.specs.Reading.{read_directory}
use Rattle.iges_directory.proofs.Tiny.{solid, placed, by_grammar as entries}
use Rattle.iges_params.specs.Contents.{Contents}
use Rattle.iges_params.specs.IsFile.{IsFile}
use Rattle.iges_params.specs.Reading.{read_global, read_record, read_records, read_lines, read_file}

abbrev pub contents : Contents
contents = record {
  start = take 72 s1 ∷ [];
  global = record { delims = record { param = 44; end = 59 }; values = [] };
  entries = (solid, value.Int (pos 0) ∷ value.Int (pos 1) ∷ value.Int (pos 0) ∷ []) ∷ [];
}

reads : read_file tiny ≡ Ok contents
unfolding read_file read_lines read_sections first_from read_global read_directory read_records read_record read_values values_from
reads = refl

pub by_grammar : IsFile tiny contents
by_grammar = record {
  sections = tiny_sections;
  placed = placed ∷ [];
  sectioned = sectioned;
  start = refl;
  global = record {
    start = record { delims = record { param = 44; end = 59 }; values = None };
    head_is = refl;
    delims = refl;
    values = refl;
    kinds_fit =
        refl;
  };
  directory = entries;
  records = (
    refl,
    record {
      pointers = refl;
      used = 10;
      text = record {
        items = codes "186" ∷ codes "0" ∷ codes "1" ∷ codes "0" ∷ [];
        rest = replicate 54 32;
        each = (
          (0, 0, codes "186", (refl, refl), refl),
          (
            (0, 0, codes "0", (refl, refl), refl),
            ((0, 0, codes "1", (refl, refl), refl), ((0, 0, codes "0", (refl, refl), refl), tt)),
          ),
        );
        parts = refl;
        length_is = refl;
        some = search arith;
      };
    },
    tt,
  );
}

-- ---- changes of the tiny file

alike_delimiters : read_file (text_of (s1 ∷ (codes "1H,,1H,," ++ drop 8 g1) ∷ d1 ∷ d2 ∷ p1 ∷ t1 ∷ [])) ≡ Err (record { line = 2; reason = Delimiter })
unfolding read_file read_lines read_sections first_from read_global read_directory read_records read_record read_values values_from
alike_delimiters = refl

points_elsewhere : read_file (text_of (s1 ∷ g1 ∷ d1 ∷ d2 ∷ (take 65 p1 ++ codes "      3" ++ drop 72 p1) ∷ t1 ∷ [])) ≡ Err
    (record { line = 5; reason = BackPointer })
unfolding read_file read_lines read_sections first_from read_global read_directory read_records read_record read_values values_from
points_elsewhere = refl

other_type : read_file (text_of (s1 ∷ g1 ∷ d1 ∷ d2 ∷ (codes "187,0,1,0;" ++ drop 10 p1) ∷ t1 ∷ [])) ≡ Err (record { line = 5; reason = RecordType })
unfolding read_file read_lines read_sections first_from read_global read_directory read_records read_record read_values values_from
other_type = refl

types_differ : read_file (text_of (s1 ∷ g1 ∷ d1 ∷ (codes "     110" ++ drop 8 d2) ∷ p1 ∷ t1 ∷ [])) ≡ Err (record { line = 4; reason = TypesDiffer })
unfolding read_file read_lines read_sections first_from read_global read_directory read_records read_record read_values values_from
types_differ = refl

two_lines : read_file (text_of (s1 ∷ g1 ∷ codes "S      1G      1D      0P      0                                        T      1" ∷ []))
    ≡ Ok (record { start = take 72 s1 ∷ []; global = record { delims = record { param = 44; end = 59 }; values = [] }; entries = [] })
unfolding read_file read_lines read_sections first_from read_global read_directory read_records read_record read_values values_from
two_lines = refl

other_kind : read_file (text_of (s1 ∷ (codes "1H,,1H;,5;" ++ drop 10 g1) ∷ d1 ∷ d2 ∷ p1 ∷ t1 ∷ [])) ≡ Err (record { line = 2; reason = GlobalKind })
unfolding read_file read_lines read_sections first_from read_global read_directory read_records read_record read_values values_from
other_kind = refl

no_global_end : read_file (text_of (s1 ∷ (codes "1H,,1H;,3Habc" ++ drop 13 g1) ∷ d1 ∷ d2 ∷ p1 ∷ t1 ∷ [])) ≡ Err (record { line = 2; reason = GlobalValue })
unfolding read_file read_lines read_sections first_from read_global read_directory read_records read_record read_values values_from
no_global_end = refl

inner_blank : read_file (text_of (s1 ∷ g1 ∷ d1 ∷ d2 ∷ (codes "186,0,1 1,0;" ++ drop 12 p1) ∷ t1 ∷ [])) ≡ Err (record { line = 5; reason = RecordValue })
unfolding read_file read_lines read_sections first_from read_global read_directory read_records read_record read_values values_from
inner_blank = refl
