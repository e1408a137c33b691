-- The values of a loop after the change.
use Rattle.std.specs.Prelude.{ℕ, zero, suc, ◌+◌, ◌-◌, ◌*◌, Bool, true, false, List, [], ◌∷◌, ◌++◌, length, take, drop, slice_index_or}
use Rattle.iges_fields.specs.declared.value.Value.{Value}
use Rattle.brep_lists.specs.Record.{count_at}
use Rattle.solid_data.specs.SolidData.{SolidData}
use Rattle.shell_change.specs.declared.change.LoopNow.{LoopNow}
use Rattle.shell_change.specs.declared.change.UseNow.{UseNow}
use Rattle.shell_change.specs.declared.change.UseNow.TheVariants.{OnEdge, AtVertex}
use Rattle.changed_records.specs.declared.named.NewLists.{NewLists}
use Rattle.changed_records.specs.Values.{number_value, flag_value}
use Rattle.changed_records.specs.Items.{edge_item, vertex_item, item_values}

-- ---- the tuples of a loop, each as its values: type, list, index, flag, a count, and so many curves with their flags

abbrev pub tuple_size : List Value → ℕ
tuple_size vs = 5 + 2 * count_at vs 4

abbrev pub tuple_cuts : ℕ → List Value → List (List Value)
tuple_cuts zero vs = []
tuple_cuts (suc n) vs = take (tuple_size vs) vs ∷ tuple_cuts n (drop (tuple_size vs) vs)

-- what comes after so many tuples
abbrev pub behind_tuples : ℕ → List Value → List Value
behind_tuples zero vs = vs
behind_tuples (suc n) vs = behind_tuples n (drop (tuple_size vs) vs)

-- Private: the tuple that begins at a place of a record.
abbrev pub tuple_from : List Value → ℕ → List Value
tuple_from vs place = take (tuple_size (drop place vs)) (drop place vs)

-- the tuple that comes to be the i-th, where the loop is reversed or isn't
abbrev pub cut_at : Bool → List (List Value) → ℕ → List Value
cut_at true cuts i = slice_index_or cuts (length cuts - (i + 1)) []
cut_at false cuts i = slice_index_or cuts i []

-- ---- the tuples after the change: type and curves stay

-- list, index and flag
abbrev pub use_values : SolidData → NewLists → List Value → UseNow → List Value
use_values s n cut (OnEdge u) = item_values (edge_item s n u.edge) ++ flag_value u.along ∷ []
use_values s n cut (AtVertex v by) = item_values (vertex_item s n v) ++ take 1 (drop 3 cut)

-- A count that is missing at the record's end is 0.
abbrev pub or_count : List Value → List Value
or_count [] = number_value 0 ∷ []
or_count (v ∷ vs) = v ∷ vs

abbrev pub curve_values : Bool → List Value → List Value
curve_values true cut = or_count (drop 4 cut)
curve_values false cut = drop 4 cut

abbrev pub tuple_now : SolidData → NewLists → Bool → List Value → UseNow → List Value
tuple_now s n reversed cut u = take 1 cut ++ use_values s n cut u ++ curve_values reversed cut

-- these uses, of which the first is the i-th
abbrev pub tuples_now : SolidData → NewLists → Bool → List (List Value) → ℕ → List UseNow → List Value
tuples_now s n reversed cuts i [] = []
tuples_now s n reversed cuts i (u ∷ us) = tuple_now s n reversed (cut_at reversed cuts i) u ++ tuples_now s n reversed cuts (i + 1) us

-- The values of a loop: a count, its tuples after the change, and what came after them.
unfoldable pub loop_values : SolidData → NewLists → List Value → LoopNow → List Value
loop_values s n vs l =
    take 1 vs ++ tuples_now s n l.reversed (tuple_cuts (count_at vs 0) (drop 1 vs)) 0 l.uses ++ behind_tuples (count_at vs 0) (drop 1 vs)
