-- What is reached, and the least fault there.
use Rattle.std.specs.Prelude.{◌≡◌, ◌↔◌, ℕ, ◌<◌, nat_le, List, pos, Option, Some, None, Ok, Err, Contains, if◌then◌else◌}
use Rattle.iges_base.specs.declared.entry_no.EntryNo.{EntryNo}
use Rattle.iges_params.specs.Contents.{Contents}
use Rattle.iges_params.specs.Named.{named}
use Rattle.entry_references.specs.declared.fault.ExtractReason.{ExtractReason}
use Rattle.entry_references.specs.declared.fault.ExtractReason.TheVariants as reason
use Rattle.entry_references.specs.declared.fault.RefFault.{RefFault}
use Rattle.entry_references.specs.declared.fault.RefFault.TheVariants as fault
use Rattle.entry_references.specs.EntrySets.{with_numbers}
use Rattle.entry_references.specs.Refs.{entry_fault, refs}
use Rattle.solid_extract.specs.declared.fault.Refusal.{Refusal}
use Rattle.solid_extract.specs.Extracted.{Reaches}

-- the fault of what a number names
abbrev pub fault_at : Contents → ℕ → Option ExtractReason
fault_at f m = elim (named f (pos m)) [ Some r ↦ entry_fault f r | None ↦ None ]

-- these, and what the entry of a number refers to
abbrev pub with_refs : Contents → List ℕ → ℕ → List ℕ
with_refs f ns m = elim (named f (pos m)) [ Some r ↦ elim (refs f r) [ Ok ks ↦ with_numbers ns ks | Err reason ↦ ns ] | None ↦ ns ]

-- the reason that a fault is
abbrev pub IsToldAs : RefFault → Option ExtractReason → Type 0
IsToldAs fault.Unlisted due = due ≡ Some reason.Unlisted
IsToldAs fault.Layout due = due ≡ Some reason.Layout
IsToldAs fault.Dangling due = due ≡ Some reason.Dangling
IsToldAs fault.NoMemory due = ⊥

-- of two faults that of the lesser entity, the first where both are of one
abbrev pub least_of : Option Refusal → EntryNo → Option ExtractReason → Option Refusal
least_of refusal entity None = refusal
least_of None entity (Some reason) = Some (record { entity = entity; reason = reason })
least_of (Some refusal) entity (Some reason) = if nat_le refusal.entity.0 entity.0 then Some refusal else Some (record { entity = entity; reason = reason })

-- the fault of the least number among these that has one
abbrev pub IsLeastFault : Contents → List ℕ → Option Refusal → Type 0
IsLeastFault f ns None = (m : ℕ) → Contains ns m → fault_at f m ≡ None
IsLeastFault f ns (Some x) =
    Contains ns x.entity.0 × (fault_at f x.entity.0 ≡ Some x.reason) × ((m : ℕ) → m < x.entity.0 → Contains ns m → fault_at f m ≡ None)

pub record IsFlooded (f : Contents) (n : ℕ) (ns : List ℕ) (refusal : Option Refusal) : Type 0 where
  pub reached : (m : ℕ) → Contains ns m ↔ Reaches f n m
  pub least : IsLeastFault f ns refusal
