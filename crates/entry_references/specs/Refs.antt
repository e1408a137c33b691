-- What an entry refers to.
use Rattle.std.specs.Prelude.{Bool, true, false, ◌&&◌, ◌||◌, List, [], ◌∷◌, ◌++◌, take, drop, ℤ, pos, neg_ℤ, int_lt, Option, Some, None, Result, Ok, Err}
use Rattle.std.specs.Prelude.{if◌then◌else◌, is_some, unwrap_or, filter, filter_map}
use Rattle.std.specs.List.{list_all}
use Rattle.std.specs.Ordering.{int_eq}
use Rattle.iges_base.specs.First.{first_failing}
use Rattle.iges_fields.specs.declared.value.Value.{Value}
use Rattle.iges_fields.specs.declared.value.Value.TheVariants as value
use Rattle.iges_directory.specs.declared.entry.Entry.{Entry}
use Rattle.iges_params.specs.Contents.{Contents}
use Rattle.iges_params.specs.Named.{named}
use Rattle.brep_lists.specs.Record.{kind_of_type}
use Rattle.brep_lists.specs.declared.entity_kind.EntityKind.{EntityKind}
use Rattle.brep_lists.specs.OwnValues.{own_count, pointer_places, is_record_of}
use Rattle.entry_references.specs.declared.fault.ExtractReason.{ExtractReason}
use Rattle.entry_references.specs.declared.fault.ExtractReason.TheVariants.{Unlisted, Layout, Dangling}
use Rattle.entry_references.specs.Layout.{Own, layout_of, own_in, value_at, count_of, is_count, is_pointer}

abbrev pub Record : Type 0
Record = Entry × List Value

abbrev pub names_entry : Contents → ℤ → Bool
names_entry f number = is_some (named f number)

-- the integers other than 0 among values
abbrev pub number_of : Value → Option ℤ
number_of (value.Int n) = if int_eq n (pos 0) then None else Some n
number_of _ = None

-- ---- groups

-- A group is a count and so many pointers, which may be missing at the end.
pub record Group : Type 0 where
  pub count : Value
  pub pointers : List Value
  pub rest : List Value

abbrev pub group_at : List Value → Group
group_at values =
    let count = value_at values 1 in
    let n = unwrap_or (count_of count) 0 in
    record { count = count; pointers = take n (drop 1 values); rest = drop n (drop 1 values) }

-- the two groups after the own values
abbrev pub first_group : Own → List Value → Group
first_group own values = group_at (drop own.count values)

abbrev pub second_group : Own → List Value → Group
second_group own values = group_at (first_group own values).rest

abbrev pub is_group : List Value → Group → Bool
is_group values g = is_count values g.count && list_all is_pointer g.pointers

abbrev pub is_left_out : Value → Bool
is_left_out value.Default = true
is_left_out _ = false

abbrev pub are_groups : Own → List Value → Bool
are_groups own values = is_group values (first_group own values) && is_group values (second_group own values)
    && list_all is_left_out (second_group own values).rest

-- ---- references

-- the own values of a record of one of the six kinds, where it is one
abbrev pub own_of_kind : EntityKind → List Value → Option Own
own_of_kind kind values =
    if is_record_of kind values then Some (record { count = own_count kind values; pointers = pointer_places kind values; cut = [] }) else None

-- the own values of a record, where they are those of its type
abbrev pub own_of : Record → Option Own
own_of r = elim (kind_of_type r.0.kind) [ Some kind ↦ own_of_kind kind r.1 | None ↦ elim (layout_of r.0) [ Some layout ↦ own_in layout r.1 | None ↦ None ] ]

abbrev pub is_listed : Record → Bool
is_listed r = is_some (kind_of_type r.0.kind) || is_some (layout_of r.0)

abbrev pub has_layout : Record → Bool
has_layout r = elim (own_of r) [ Some own ↦ are_groups own r.1 | None ↦ false ]

-- the pointers that are followed: those among the own values, the matrix and a negative colour
abbrev pub pointers_of : Record → List ℤ
pointers_of r =
    elim (own_of r) [ Some own ↦ filter_map (λ k. number_of (value_at r.1 k)) own.pointers | None ↦ [] ]
    ++ (if int_eq r.0.matrix (pos 0) then [] else r.0.matrix ∷ [])
    ++ (if int_lt r.0.colour (pos 0) then neg_ℤ r.0.colour ∷ [] else [])

-- the pointers of the second group that name a name
abbrev pub is_name : Contents → ℤ → Bool
is_name f number = elim (named f number) [ Some r ↦ int_eq r.0.kind (pos 406) && int_eq r.0.form (pos 15) | None ↦ false ]

abbrev pub names_of : Contents → Record → List ℤ
names_of f r = elim (own_of r) [ Some own ↦ filter (is_name f) (filter_map number_of (second_group own r.1).pointers) | None ↦ [] ]

-- what is wrong with an entry
abbrev pub entry_fault : Contents → Record → Option ExtractReason
entry_fault f r = first_failing ((is_listed r, Unlisted) ∷ (has_layout r, Layout) ∷ (list_all (names_entry f) (pointers_of r), Dangling) ∷ [])

-- the fault of an entry, or else the numbers that it refers to
abbrev pub refs : Contents → Record → Result (List ℤ) ExtractReason
refs f r = elim (entry_fault f r) [ Some reason ↦ Err reason | None ↦ Ok (pointers_of r ++ names_of f r) ]
