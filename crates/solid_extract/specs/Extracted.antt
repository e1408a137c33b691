-- The file of one solid.
use Rattle.std.specs.Prelude.{◌≡◌, ◌↔◌, ◌<◌, ◌⊎◌, ℕ, ◌+◌, ◌*◌, ◌==◌, List, [], ◌∷◌, ◌++◌, length, take, map, ℤ, pos, neg_ℤ, int_lt, unsigned_abs}
use Rattle.std.specs.Prelude.{Some, None, if◌then◌else◌, IsTrue, IsFalse, Contains, All}
use Rattle.std.specs.List.{position_or_len, enumerate_from, AllZip}
use Rattle.std.specs.List.Sorted.{IsStrictlyIncreasing}
use Rattle.std.specs.Ordering.{int_eq}
use Rattle.iges_fields.specs.declared.value.Value.{Value}
use Rattle.iges_fields.specs.declared.value.Value.TheVariants as value
use Rattle.iges_directory.specs.declared.entry.Entry.{Entry}
use Rattle.iges_params.specs.Contents.{Contents}
use Rattle.iges_params.specs.Named.{named}
use Rattle.iges_params.specs.Solids.{is_solid}
use Rattle.entry_references.specs.declared.fault.ExtractReason.{ExtractReason}
use Rattle.entry_references.specs.declared.fault.ExtractReason.TheVariants.{NotSolid}
use Rattle.entry_references.specs.EntrySets.{is_among}
use Rattle.entry_references.specs.Layout.{Own}
use Rattle.entry_references.specs.References.{RefersTo}
use Rattle.entry_references.specs.Refs.{Record, own_of, names_of, entry_fault}

-- ---- the cuts

-- the new number of an entry: those kept are 1, 3, 5 and so on
abbrev pub new_number : List ℕ → ℕ → ℕ
new_number kept m = 2 * position_or_len (λ k. k == m) kept + 1

abbrev pub renamed : List ℕ → ℤ → ℤ
renamed kept z = if int_eq z (pos 0) then z else pos (new_number kept (unsigned_abs z))

-- a negative number is a pointer, and is cut
abbrev pub if_number : ℤ → ℤ
if_number z = if int_lt z (pos 0) then pos 0 else z

abbrev pub new_entry : List ℕ → Entry → Entry
new_entry kept e = record e {
  structure = pos 0;
  view = pos 0;
  display = pos 0;
  font = if_number e.font;
  level = if_number e.level;
  matrix = renamed kept e.matrix;
  colour = if int_lt e.colour (pos 0) then neg_ℤ (renamed kept (neg_ℤ e.colour)) else e.colour;
}

-- a pointer is renamed, and one that isn't followed becomes 0
abbrev pub new_value : List ℕ → Own → ℕ → Value → Value
new_value kept own k (value.Int n) = value.Int (if is_among own.pointers k then renamed kept n else (if is_among own.cut k then pos 0 else n))
new_value kept own k v = v

-- ---- what is reached

-- a chain of references leads from n to m
pub data Reaches (f : Contents) (n : ℕ) : ℕ → Type 0 where
  here : Reaches f n n
  further : {m k : ℕ} → Reaches f n m → RefersTo f m k → Reaches f n k

-- n is no solid, or else the reached entry of the least number that has a fault
abbrev pub IsRefused : Contents → ℕ → ℕ → ExtractReason → Type 0
IsRefused f n entity reason =
    (IsFalse (is_solid f n) × (entity ≡ n) × (reason ≡ NotSolid))
    ⊎ (IsTrue (is_solid f n) × (r : Record) × Reaches f n entity × (named f (pos entity) ≡ Some r) × (entry_fault f r ≡ Some reason)
    × ((m : ℕ) (q : Record) → m < entity → Reaches f n m → named f (pos m) ≡ Some q → entry_fault f q ≡ None))

-- the own values, and after them a group of none and one of the names, where there are any
abbrev pub new_values : Contents → List ℕ → Record → List Value
new_values f kept r =
    let names = map (λ z. value.Int (renamed kept z)) (names_of f r) in
    elim (own_of r) [
      | Some own ↦ map (λ (v : ℕ × Value). new_value kept own v.0 v.1) (enumerate_from 1 (take own.count r.1))
      | None ↦ []
    ] ++ (if length names == 0 then [] else value.Int (pos 0) ∷ value.Int (pos (length names)) ∷ names)

abbrev pub new_record : Contents → List ℕ → Record → Record
new_record f kept r = (new_entry kept r.0, new_values f kept r)

-- the file of the solid n: the entries that are reached, in rising order
pub record IsExtracted (f : Contents) (n : ℕ) (new : Contents) : Type 0 where
  pub solid : IsTrue (is_solid f n)
  pub kept : List ℕ
  pub rising : IsStrictlyIncreasing kept
  pub reached : (m : ℕ) → Contains kept m ↔ Reaches f n m
  pub records : List Record
  pub each_named : AllZip (λ m r. named f (pos m) ≡ Some r) kept records
  pub faultless : All (λ r. entry_fault f r ≡ None) records
  pub start : new.start ≡ f.start
  pub global : new.global ≡ f.global
  pub entries : new.entries ≡ map (new_record f kept) records

-- the same, and the number that the solid has in it
pub record IsExtractedAs (f : Contents) (n : ℕ) (new : Contents) (number : ℕ) : Type 0 where
  pub extracted : IsExtracted f n new
  pub is : number ≡ new_number extracted.kept n
