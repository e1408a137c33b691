-- The solids of a file, as numbers of entries.
use Rattle.std.specs.Prelude.{ℕ, pos, Bool, false, List, map, filter, Option, Some, None}
use Rattle.std.specs.Ordering.{int_eq}
use Rattle.iges_directory.specs.declared.entry.Entry.{Entry}
use Rattle.iges_fields.specs.declared.value.Value.{Value}
use Rattle.iges_params.specs.Named.{named}
use Rattle.iges_base.specs.declared.entry_no.EntryNo.{EntryNo}
use Rattle.iges_params.specs.Contents.{Contents}
use Rattle.iges_params.specs.Solids.{solids_of as solid_numbers}

abbrev pub numbered : ℕ → EntryNo
numbered n = record { 0 = n }

-- the numbers of the entries of type 186, in directory order
unfoldable pub solids_of : Contents → List EntryNo
solids_of f = map numbered (solid_numbers f)

abbrev pub is_form_0 : Option (Entry × List Value) → Bool
is_form_0 None = false
is_form_0 (Some r) = int_eq r.0.form (pos 0)

-- those of form 0: no other form is a solid
unfoldable pub true_solids : Contents → List EntryNo
true_solids f = filter (λ (n : EntryNo). is_form_0 (named f (pos n.0))) (solids_of f)
