-- Entries that nothing points to any more.
use Rattle.std.specs.Prelude.{◌≡◌, ℕ, ◌<◌, ◌+◌, ◌*◌, ◌&&◌, Bool, false, not, get_or, ℤ, pos, List, [], ◌∷◌, map, flat_map, Result, Ok, Err, if◌then◌else◌}
use Rattle.std.specs.List.{enumerate_from, list_any}
use Rattle.std.specs.Ordering.{int_eq}
use Rattle.iges_directory.specs.declared.entry.Entry.{Entry}
use Rattle.iges_params.specs.Contents.{Contents}
use Rattle.entry_references.specs.declared.fault.ExtractReason.{ExtractReason}
use Rattle.entry_references.specs.Refs.{Record, refs}

abbrev pub names_number : List ℤ → ℕ → Bool
names_number zs m = list_any (λ z. int_eq z (pos m)) zs

-- what an entry refers to; nothing where it has a fault
abbrev pub numbers_or_none : Result (List ℤ) ExtractReason → List ℤ
numbers_or_none (Ok zs) = zs
numbers_or_none (Err reason) = []

abbrev pub refs_of : Contents → Record → List ℤ
refs_of f r = numbers_or_none (refs f r)

-- what all entries refer to
abbrev pub all_refs : Contents → List ℤ
all_refs f = flat_map (refs_of f) f.entries

abbrev pub of_no_type : Entry → Entry
of_no_type e = record e { kind = pos 0; form = pos 0 }

abbrev pub unless_gone : Bool → Record → Record
unless_gone gone r = if gone then (of_no_type r.0, []) else r

-- an entry, which is given with its place in the directory from 0
abbrev pub emptied_record : List ℤ → List ℤ → ℕ × Record → Record
emptied_record ns used p = unless_gone (names_number ns (2 * p.0 + 1) && not (names_number used (2 * p.0 + 1))) p.1

-- Those of these entries to which no entry points become of type 0, without values.
unfoldable pub emptied : List ℤ → Contents → Contents
emptied ns f = record f { entries = map (emptied_record ns (all_refs f)) (enumerate_from 0 f.entries) }

-- A mark for each of so many entries says whether one of the numbers names it.
abbrev pub AreMarksOf : List Bool → List ℤ → ℕ → Type 0
AreMarksOf marks zs count = (k : ℕ) → k < count → get_or marks k false ≡ names_number zs (2 * k + 1)
