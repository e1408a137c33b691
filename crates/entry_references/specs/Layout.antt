-- The own values of each listed type, and which of them are pointers.
use Rattle.std.specs.Prelude.{ℕ, ◌+◌, ◌-◌, ◌*◌, Bool, true, false, not, ◌&&◌, ◌||◌, ◌==◌, nat_le, List, [], ◌∷◌, ◌++◌, length, map, ℤ, pos, Option, Some, None}
use Rattle.std.specs.Prelude.{if◌then◌else◌, slice_index, slice_index_or, option_map, unwrap_or, find}
use Rattle.std.specs.List.{list_all, range_with_len}
use Rattle.std.specs.Ordering.{int_eq}
use Rattle.iges_fields.specs.declared.value.Value.{Value}
use Rattle.iges_fields.specs.declared.value.Value.TheVariants as value
use Rattle.iges_directory.specs.declared.entry.Entry.{Entry}

-- Values are counted from 1, without the type number.
pub record Layout : Type 0 where
  -- the places of counts, and those of numbers from 1 to 3
  pub counts : List ℕ
  pub choices : List ℕ
  -- of the counts and then the choices: how many own values there are, and the places of the pointers among them
  pub own : List ℕ → ℕ
  pub pointers : List ℕ → List ℕ
  -- the places of pointers that aren't followed
  pub cut : List ℕ

-- a number of own values that is always the same, and the places of the pointers
abbrev pub fixed : ℕ → List ℕ → Layout
fixed own pointers = record { counts = []; choices = []; own = λ _. own; pointers = λ _. pointers; cut = [] }

abbrev pub counted : List ℕ → (List ℕ → ℕ) → Layout
counted counts own = record { counts = counts; choices = []; own = own; pointers = λ _. []; cut = [] }

-- a form 1 has more than the other forms
abbrev pub by_form : ℤ → Layout → Layout → Layout
by_form form in_form_1 otherwise = if int_eq form (pos 1) then in_form_1 else otherwise

abbrev pub nth : List ℕ → ℕ → ℕ
nth ns i = slice_index ns i

-- the listed types but the six of a solid
abbrev pub listed : ℤ → List (ℕ × Layout)
listed form =
    (100, fixed 7 []) ∷
    (102, record { counts = 1 ∷ []; choices = []; own = λ c. 1 + nth c 0; pointers = λ c. range_with_len 2 (nth c 0); cut = [] }) ∷
    (104, fixed 11 []) ∷ (
      106,
      record {
        counts = 2 ∷ [];
        choices = 1 ∷ [];
        pointers = λ _. [];
        cut = [];
        own = λ c. 2 + (if nth c 1 == 1 then 1 + 2 * nth c 0 else (if nth c 1 == 2 then 3 * nth c 0 else 6 * nth c 0));
      },
    ) ∷
    (108, fixed 9 (5 ∷ [])) ∷
    (110, fixed 6 []) ∷
    (112, counted (4 ∷ []) (λ c. 4 + (nth c 0 + 1) + 12 * nth c 0 + 12)) ∷
    (116, record { counts = []; choices = []; own = λ _. 4; pointers = λ _. []; cut = 4 ∷ [] }) ∷
    (118, fixed 4 (1 ∷ 2 ∷ [])) ∷
    (120, fixed 4 (1 ∷ 2 ∷ [])) ∷
    (122, fixed 4 (1 ∷ [])) ∷
    (123, fixed 3 []) ∷
    (124, fixed 12 []) ∷
    (126, counted (1 ∷ 2 ∷ []) (λ c. 6 + (nth c 0 + nth c 1 + 2) + 4 * (nth c 0 + 1) + 5)) ∷
    (128, counted (1 ∷ 2 ∷ 3 ∷ 4 ∷ []) (λ c. 9 + (nth c 0 + nth c 2 + 2) + (nth c 1 + nth c 3 + 2) + 4 * (nth c 0 + 1) * (nth c 1 + 1) + 4)) ∷
    (140, fixed 5 (5 ∷ [])) ∷
    (190, by_form form (fixed 3 (1 ∷ 2 ∷ 3 ∷ [])) (fixed 2 (1 ∷ 2 ∷ []))) ∷
    (192, by_form form (fixed 4 (1 ∷ 2 ∷ 4 ∷ [])) (fixed 3 (1 ∷ 2 ∷ []))) ∷
    (194, by_form form (fixed 5 (1 ∷ 2 ∷ 5 ∷ [])) (fixed 4 (1 ∷ 2 ∷ []))) ∷
    (196, by_form form (fixed 4 (1 ∷ 3 ∷ 4 ∷ [])) (fixed 2 (1 ∷ []))) ∷
    (198, by_form form (fixed 5 (1 ∷ 2 ∷ 5 ∷ [])) (fixed 4 (1 ∷ 2 ∷ []))) ∷
    (314, fixed 4 []) ∷
    (406, fixed 2 []) ∷ []

-- of the properties only the name, form 15, is listed
abbrev pub is_other_property : Entry → Bool
is_other_property e = int_eq e.kind (pos 406) && not (int_eq e.form (pos 15))

-- the layout of a type in a form, which is none of the six
abbrev pub layout_of : Entry → Option Layout
layout_of e =
    if is_other_property e then None
    else option_map (λ (row : ℕ × Layout). row.1) (find (λ (row : ℕ × Layout). int_eq e.kind (pos row.0)) (listed e.form))

-- ---- the own values of a record

-- how many own values a record has, and the places of the pointers and of the pointers that aren't followed
pub record Own : Type 0 where
  pub count : ℕ
  pub pointers : List ℕ
  pub cut : List ℕ

-- the k-th value, from 1; one past the end counts as left out
abbrev pub value_at : List Value → ℕ → Value
value_at values k = slice_index_or values (k - 1) value.Default

-- a count is left out, or an integer from 0
abbrev pub count_of : Value → Option ℕ
count_of value.Default = Some 0
count_of (value.Int (pos n)) = Some n
count_of _ = None

abbrev pub is_count : List Value → Value → Bool
is_count values v = elim (count_of v) [ Some n ↦ nat_le n (length values) | None ↦ false ]

abbrev pub is_choice : Value → Bool
is_choice (value.Int n) = int_eq n (pos 1) || int_eq n (pos 2) || int_eq n (pos 3)
is_choice _ = false

-- left out, or an integer
abbrev pub is_pointer : Value → Bool
is_pointer value.Default = true
is_pointer (value.Int n) = true
is_pointer _ = false

abbrev pub counts_at : List Value → List ℕ → List ℕ
counts_at values places = map (λ k. unwrap_or (count_of (value_at values k)) 0) places

-- the own values by a layout, where its counts, choices and pointers are what they should be
abbrev pub own_in : Layout → List Value → Option Own
own_in l values =
    elim (list_all (λ k. is_count values (value_at values k)) l.counts && list_all (λ k. is_choice (value_at values k)) l.choices) [
      | true ↦
          let numbers = counts_at values (l.counts ++ l.choices) in
          let own : Own = record { count = l.own numbers; pointers = l.pointers numbers; cut = l.cut } in
          if list_all (λ k. is_pointer (value_at values k)) (own.pointers ++ own.cut) then Some own else None
      | false ↦ None
    ]
