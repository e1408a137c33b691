-- Which records are of a kind, as a test; how many values of one are its own, and which of these are pointers.
use Rattle.std.specs.Prelude.{◌↔◌, IsTrue, ℕ, ◌==◌, ◌&&◌, ◌||◌, nat_lt, Bool, true, false, if◌then◌else◌, ℤ, pos, List, [], ◌∷◌, length, Option, Some, None}
use Rattle.std.specs.Prelude.{filter_map}
use Rattle.std.specs.List.{enumerate_from}
use Rattle.std.specs.Ordering.{int_eq}
use Rattle.std.specs.Str.{bytes_eq}
use Rattle.iges_fields.specs.declared.value.Value.{Value}
use Rattle.iges_fields.specs.declared.value.Value.TheVariants.{Default, Int, Real}
use Rattle.brep_lists.specs.DueValues.{DueValue, pointer, number, flag, at_least_one, count, coordinate}
use Rattle.brep_lists.specs.Record.{due, items_of, IsRecordOf}
use Rattle.brep_lists.specs.declared.entity_kind.EntityKind.{EntityKind}

abbrev pub is_int : ℤ → Value → Bool
is_int z (Int n) = int_eq n z
is_int z _ = false

abbrev pub is_default : Value → Bool
is_default Default = true
is_default _ = false

-- an integer or a left-out value
abbrev pub is_filler : Value → Bool
is_filler Default = true
is_filler (Int z) = true
is_filler _ = false

-- two reals, integers or left-out values, and the same
abbrev pub is_same_coordinate : Value → Value → Bool
is_same_coordinate Default Default = true
is_same_coordinate (Int m) (Int n) = int_eq m n
is_same_coordinate (Real a) (Real b) = bytes_eq a b
is_same_coordinate _ _ = false

abbrev pub meets : DueValue → Value → Bool
meets (pointer z) v = is_int z v
meets (number z) v = is_int z v
meets (flag b) v = is_int (if b then pos 1 else pos 0) v
meets (at_least_one n) v = is_int (pos n) v && nat_lt 0 n
meets (count n) v = is_int (pos n) v || (is_default v && n == 0)
meets (coordinate w) v = is_same_coordinate v w

abbrev pub may_be_missing : List DueValue → Bool
may_be_missing (count n ∷ []) = n == 0
may_be_missing _ = false

abbrev pub meets_all : List DueValue → List Value → Bool
meets_all [] [] = true
meets_all [] (v ∷ vs) = is_filler v && meets_all [] vs
meets_all (d ∷ ds) [] = may_be_missing (d ∷ ds)
meets_all (d ∷ ds) (v ∷ vs) = meets d v && meets_all ds vs

-- what is due for the items that are read in a record
abbrev pub due_in : EntityKind → List Value → List DueValue
due_in kind values = due kind (items_of kind values)

abbrev pub is_record_of : EntityKind → List Value → Bool
is_record_of kind values = meets_all (due_in kind values) values

-- the test is right
abbrev pub RecordsAreDecided : Type 0
RecordsAreDecided = (kind : EntityKind) (values : List Value) → IsTrue (is_record_of kind values) ↔ IsRecordOf kind values

-- ---- own values, where the record is of the kind

-- A count of 0 that is missing at the end counts too.
abbrev pub own_count : EntityKind → List Value → ℕ
own_count kind values = length (due_in kind values)

abbrev pub if_pointer : ℕ × DueValue → Option ℕ
if_pointer (k, pointer z) = Some k
if_pointer (k, _) = None

-- the places of the pointers, from 1
abbrev pub pointer_places : EntityKind → List Value → List ℕ
pointer_places kind values = filter_map if_pointer (enumerate_from 1 (due_in kind values))
