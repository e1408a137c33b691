-- Private: what is known of the records of a file.
use Rattle.std.specs.Prelude.{◌≡◌, ℕ, ℤ, pos, List, [], Some, slice_get, ⊤}
use Rattle.iges_base.specs.declared.entry_no.EntryNo.{EntryNo}
use Rattle.iges_params.specs.Contents.{Contents}
use Rattle.brep_lists.specs.declared.entity_kind.EntityKind.{EntityKind}
use Rattle.brep_numbering.specs.declared.marks.Mark.{Mark}
use Rattle.brep_numbering.specs.declared.marks.Mark.TheVariants.{Unknown, Fits, Walked, Misfits}
use Rattle.brep_numbering.specs.Marked.{mark_of}
use Rattle.brep_walk.specs.Places.{NamesKind, HasRecordOf, tuples, tuple_places}
use Rattle.solid_data.specs.Obligations.{Obligation, AllHold, FirstFalse, after_each}
use Rattle.solid_data.specs.declared.verdict.Failing.{Failing}

-- the obligations on the tuples of a loop, which don't depend on what was named before
abbrev pub uses_places : Contents → ℤ → List Obligation
uses_places f l = after_each (tuple_places f l) [] (tuples f l)

-- whatever kind entry n is of, its record is of that kind
abbrev pub HasItsRecord : Contents → ℕ → Type 0
HasItsRecord f n = (kind : EntityKind) → NamesKind kind f (pos n) → HasRecordOf kind f (pos n)

abbrev pub LacksItsRecord : Contents → ℕ → Type 0
LacksItsRecord f n = (kind : EntityKind) → NamesKind kind f (pos n) → ¬ HasRecordOf kind f (pos n)

-- what a mark says of entry n
abbrev pub Says : Contents → ℕ → Mark → Type 0
Says f n Unknown = ⊤
Says f n Fits = HasItsRecord f n
Says f n Walked = HasItsRecord f n × AllHold (uses_places f (pos n))
Says f n Misfits = LacksItsRecord f n

-- Each mark is true of its entry, and each loop that failed fails so.
pub record AreKnown (f : Contents) (marks : List Mark) (failed : List (EntryNo × Failing)) : Type 0 where
  pub marked : (n : ℕ) → Says f n (mark_of marks n)
  pub fails : (i : ℕ) (kept : EntryNo × Failing) → slice_get failed i ≡ Some kept → FirstFalse (uses_places f (pos kept.0.0)) kept.1
