-- The entries that an entry refers to.
use Rattle.std.specs.Prelude.{◌≡◌, ◌↔◌, ℕ, ℤ, List, pos, Some, None, Result, Ok, Err, Contains}
use Rattle.std.specs.List.Sorted.{IsStrictlyIncreasing}
use Rattle.iges_base.specs.declared.entry_no.EntryNo.{EntryNo}
use Rattle.iges_params.specs.Contents.{Contents}
use Rattle.iges_params.specs.Named.{named}
use Rattle.entry_references.specs.declared.fault.ExtractReason.{ExtractReason}
use Rattle.entry_references.specs.declared.fault.ExtractReason.TheVariants as reason
use Rattle.entry_references.specs.declared.fault.RefFault.{RefFault}
use Rattle.entry_references.specs.declared.fault.RefFault.TheVariants as fault
use Rattle.entry_references.specs.EntrySets.{numbers_of}
use Rattle.entry_references.specs.Refs.{Record, entry_fault, refs}

-- the entry m refers to the entry k
abbrev pub RefersTo : Contents → ℕ → ℕ → Type 0
RefersTo f m k = (r : Record) × (ks : List ℤ) × (named f (pos m) ≡ Some r) × (refs f r ≡ Ok ks) × Contains ks (pos k)

-- the entries that a faultless entry refers to, rising, each once
pub record AreReferences (f : Contents) (m : ℕ) (nos : List EntryNo) : Type 0 where
  pub entry : Record
  pub is_named : named f (pos m) ≡ Some entry
  pub faultless : entry_fault f entry ≡ None
  pub rising : IsStrictlyIncreasing (numbers_of nos)
  pub exactly : (k : ℕ) → Contains (numbers_of nos) k ↔ RefersTo f m k

-- the entry has this fault
abbrev pub HasFault : Contents → ℕ → ExtractReason → Type 0
HasFault f m due = (r : Record) × (named f (pos m) ≡ Some r) × (entry_fault f r ≡ Some due)

-- it is the one reported, unless memory ran out
abbrev pub IsRefFault : Contents → ℕ → RefFault → Type 0
IsRefFault f m fault.Unlisted = HasFault f m reason.Unlisted
IsRefFault f m fault.Layout = HasFault f m reason.Layout
IsRefFault f m fault.Dangling = HasFault f m reason.Dangling
IsRefFault f m fault.NoMemory = Unit {0}

abbrev pub IsReason : RefFault → ExtractReason → Type 0
IsReason fault.Unlisted due = due ≡ reason.Unlisted
IsReason fault.Layout due = due ≡ reason.Layout
IsReason fault.Dangling due = due ≡ reason.Dangling
IsReason fault.NoMemory due = Unit {0}

-- the answer, unless memory ran out
abbrev pub Gives : {T : Type 0} → Result T RefFault → Result T ExtractReason → Type 0
Gives (Ok x) (Ok y) = x ≡ y
Gives (Ok x) (Err due) = ⊥
Gives (Err fault.NoMemory) (Ok y) = Unit {0}
Gives (Err e) (Ok y) = ⊥
Gives (Err e) (Err due) = IsReason e due
