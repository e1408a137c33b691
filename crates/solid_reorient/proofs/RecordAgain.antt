-- What an entry of an extracted file refers to, and what it becomes, with other flags.
use Rattle.std.specs.Prelude.{◌≡◌, ℕ, ◌+◌, ◌*◌, ◌≤◌, ◌==◌, ◌&&◌, nat_le, Bool, true, false, neg_ℤ, int_lt, ℤ, pos, List, [], ◌∷◌, ◌++◌, length, map, take}
use Rattle.std.specs.Prelude.{drop, filter, filter_map, Option, Some, None, Result, Ok, Err, is_some, if◌then◌else◌, option_map}
use Rattle.std.specs.List.{enumerate_from, list_all}
use Rattle.std.specs.Ordering.{int_eq}
use Rattle.std.proofs.Common.{refl, sym, ◌∙◌, ap, arith}
use Rattle.std.proofs.lemmas.Bool.Decides.{Decides-int_eq}
use Rattle.std.proofs.lemmas.List.{length-map, length-take-le}
use Rattle.std.proofs.lemmas.List.FromFn.{length-enumerate_from}
use Rattle.iges_base.specs.First.{first_failing}
use Rattle.iges_fields.specs.declared.value.Value.{Value}
use Rattle.iges_fields.specs.declared.value.Value.TheVariants as value
use Rattle.iges_params.specs.Contents.{Contents}
use Rattle.iges_params.specs.Named.{named}
use Rattle.brep_lists.specs.Record.{type_number, kind_of_type, items_of, IsRecordOf}
use Rattle.brep_lists.specs.declared.entity_kind.EntityKind.TheVariants.{Shell as shell}
use Rattle.brep_lists.specs.OwnValues.{own_count}
use Rattle.brep_lists.proofs.Decided.{decided}
use Rattle.entry_references.specs.declared.fault.ExtractReason.{ExtractReason}
use Rattle.entry_references.specs.declared.fault.ExtractReason.TheVariants.{Unlisted, Layout, Dangling}
use Rattle.entry_references.specs.Layout.{Own, layout_of, own_in, value_at, count_of, is_pointer}
use Rattle.entry_references.specs.Refs.{Record, Group, group_at, is_left_out, are_groups, own_of, own_of_kind, is_listed, has_layout, names_entry}
use Rattle.entry_references.specs.Refs.{number_of, is_name, names_of, pointers_of, entry_fault, refs}
use Rattle.solid_data.specs.Obligations.{entry_number}
use Rattle.solid_extract.specs.Extracted.{renamed, new_value, new_values, new_record}
use Rattle.solid_extract.proofs.AgainValues.{olds}
use Rattle.solid_extract.proofs.KeptItems.{faultless_is_record}
use Rattle.solid_reorient.specs.Reflagged.{values_with, flags_for, reflagged_values, reflagged}
use Rattle.solid_reorient.proofs.Entries.{shells_of, as_reflagged, names_reflagged, other_stays, shell_changes, length-values}
use Rattle.solid_reorient.proofs.ShellAgain.{values_take, values_drop, values_renamed, shell_own, own_is, counted, flags_free, own_flagged, pointers_same}
use Rattle.solid_reorient.proofs.ShellAgain.{values_append, enough}

-- ---- by the layout

abbrev pointers_by : Option Own → Record → List Value → List ℤ
pointers_by o r vs =
    elim o as (λ _. List ℤ) [ Some own ↦ filter_map (λ k. number_of (value_at vs k)) own.pointers | None ↦ [] ]
    ++ (if int_eq r.0.matrix (pos 0) then [] else r.0.matrix ∷ [])
    ++ (if int_lt r.0.colour (pos 0) then neg_ℤ r.0.colour ∷ [] else [])

abbrev count_fits : ℕ → Value → Bool
count_fits n v = elim (count_of v) as (λ _. Bool) [ Some k ↦ nat_le k n | None ↦ false ]

abbrev group_fits : ℕ → Group → Bool
group_fits n a = count_fits n a.count && list_all is_pointer a.pointers

-- the groups of so many values, of which these follow the own ones
abbrev groups_by : ℕ → List Value → Bool
groups_by n ws = let a = group_at ws in let b = group_at a.rest in group_fits n a && group_fits n b && list_all is_left_out b.rest

groups_are : (own : Own) (vs : List Value) → are_groups own vs ≡ groups_by (length vs) (drop own.count vs)
groups_are own vs = refl

abbrev names_by : (ℤ → Bool) → List Value → List ℤ
names_by test ws = let a = group_at ws in let b = group_at a.rest in filter test (filter_map number_of b.pointers)

abbrev names_as : (ℤ → Bool) → Option Own → List Value → List ℤ
names_as test o vs = elim o as (λ _. List ℤ) [ Some own ↦ names_by test (drop own.count vs) | None ↦ [] ]

abbrev layout_as : Option Own → List Value → Bool
layout_as o vs = elim o as (λ _. Bool) [ Some own ↦ groups_by (length vs) (drop own.count vs) | None ↦ false ]

abbrev fault_by : Record → Bool → (ℤ → Bool) → List ℤ → Option ExtractReason
fault_by r laid test zs = first_failing ((is_listed r, Unlisted) ∷ (laid, Layout) ∷ (list_all test zs, Dangling) ∷ [])

abbrev tail_by : List ℕ → List ℤ → List Value
tail_by kept zs =
    let names = map (λ z. value.Int (renamed kept z)) zs in
    if length names == 0 then [] else value.Int (pos 0) ∷ value.Int (pos (length names)) ∷ names

abbrev values_as : List ℕ → Option Own → List Value → List ℤ → List Value
values_as kept o vs zs = elim o as (λ _. List Value) [ Some own ↦ olds kept own 1 (take own.count vs) | None ↦ [] ] ++ tail_by kept zs

module _ (g : Contents) (m : ℕ) (flags : List (List Bool)) where
  abbrev d : Contents
  d = reflagged g m flags

  abbrev pub like : ℕ → Record → Record
  like k r = as_reflagged flags (shells_of g m flags) k r

  pub names_entry_same : names_entry d ≡ names_entry g
  names_entry_same = λ i z. at z i
    where
      by_option : (k : ℕ) (o : Option Record) → is_some (option_map (as_reflagged flags (shells_of g m flags) k) o) ≡ is_some o
      by_option k None = refl
      by_option k (Some r) = refl

      at : (z : ℤ) → names_entry d z ≡ names_entry g z
      at z = ap (λ (o : Option Record). is_some o) (names_reflagged g m flags z) ∙ by_option (entry_number z) (named g z)

  is_name_same : is_name d ≡ is_name g
  is_name_same = λ i z. at z i
    where
      test : Option Record → Bool
      test o = elim o as (λ _. Bool) [ Some r ↦ int_eq r.0.kind (pos 406) && int_eq r.0.form (pos 15) | None ↦ false ]

      by_option : (k : ℕ) (o : Option Record) → elim (option_map (as_reflagged flags (shells_of g m flags) k) o) as
          (λ _. Bool) [ Some r ↦ int_eq r.0.kind (pos 406) && int_eq r.0.form (pos 15) | None ↦ false ] ≡ elim o as
          (λ _. Bool) [ Some r ↦ int_eq r.0.kind (pos 406) && int_eq r.0.form (pos 15) | None ↦ false ]
      by_option k None = refl
      by_option k (Some r) = refl

      at : (z : ℤ) → is_name d z ≡ is_name g z
      at z = ap (λ (o : Option Record). elim o as (λ _. Bool) [ Some r ↦ int_eq r.0.kind (pos 406) && int_eq r.0.form (pos 15) | None ↦ false ])
          (names_reflagged g m flags z) ∙ by_option (entry_number z) (named g z)

  -- what is the same of an entry
  pub record IsLike (kept : List ℕ) (k : ℕ) (r : Record) : Type 0 where
    pub fault : entry_fault d (like k r) ≡ entry_fault g r
    pub references : refs d (like k r) ≡ refs g r
    pub becomes : new_values d kept (like k r) ≡ reflagged_values (flags_for flags (shells_of g m flags) k) (new_record g kept r)

  -- given its layout, its pointers, its names and its groups
  abbrev alike : (k : ℕ) (r : Record) (o : Option Own) → own_of (like k r) ≡ o → own_of r ≡ o → pointers_by o r (let q = like k r in q.1) ≡ pointers_by o r r.1
      → names_as (is_name g) o (let q = like k r in q.1) ≡ names_as (is_name g) o r.1 → layout_as o (let q = like k r in q.1) ≡ layout_as o r.1
      → (entry_fault d (like k r) ≡ entry_fault g r) × (refs d (like k r) ≡ refs g r) × (names_of d (like k r) ≡ names_of g r)
  alike k r o e u ps ns ls =
      let vs : List Value = (like k r).1 in
      let pointers : pointers_of (like k r) ≡ pointers_of r = ap (λ (x : Option Own). pointers_by x r vs) e
      ∙ (ps ∙ sym (ap (λ (x : Option Own). pointers_by x r r.1) u)) in
      let names : names_of d (like k r) ≡ names_of g r =
      ap (λ (x : Option Own). names_as (is_name d) x vs) e
      ∙ (ap (λ (t : ℤ → Bool). names_as t o vs) is_name_same ∙ (ns ∙ sym (ap (λ (x : Option Own). names_as (is_name g) x r.1) u))) in
      let laid : has_layout (like k r) ≡ has_layout r = ap (λ (x : Option Own). layout_as x vs) e ∙ (ls ∙ sym (ap (λ (x : Option Own). layout_as x r.1) u)) in
      let fault : entry_fault d (like k r) ≡ entry_fault g r =
      ap (λ (b : Bool). fault_by r b (names_entry d) (pointers_of (like k r))) laid
      ∙ (ap (λ (t : ℤ → Bool). fault_by r (has_layout r) t (pointers_of (like k r))) names_entry_same
      ∙ ap (λ (zs : List ℤ). fault_by r (has_layout r) (names_entry g) zs) pointers) in (
        fault,
        ap (λ (x : Option ExtractReason). elim x as
            (λ _. Result (List ℤ) ExtractReason) [ Some reason ↦ Err reason | None ↦ Ok (pointers_of (like k r) ++ names_of d (like k r)) ]) fault
            ∙ (ap (λ (zs : List ℤ). elim (entry_fault g r) as
            (λ _. Result (List ℤ) ExtractReason) [ Some reason ↦ Err reason | None ↦ Ok (zs ++ names_of d (like k r)) ]) pointers
            ∙ ap (λ (zs : List ℤ). elim (entry_fault g r) as
            (λ _. Result (List ℤ) ExtractReason) [ Some reason ↦ Err reason | None ↦ Ok (pointers_of r ++ zs) ]) names),
        names,
      )

  module _ (kept : List ℕ) (k : ℕ) (r : Record) where
    abbrev bs : List Bool
    bs = flags_for flags (shells_of g m flags) k

    -- an entry of another type
    other : int_eq r.0.kind (type_number shell) ≡ false → IsLike kept k r
    other t =
        let same : reflagged_values bs r ≡ r.1 = other_stays bs r t in
        let here : like k r ≡ r = ap (λ (vs : List Value). let q : Record = (r.0, vs) in q) same in
        let a = alike k r (own_of r) (ap own_of here) refl (ap (pointers_by (own_of r) r) same) (ap (names_as (is_name g) (own_of r)) same)
        (ap (layout_as (own_of r)) same) in
        record {
          fault = a.0;
          references = a.1;
          becomes =
              ap (λ (q : Record). values_as kept (own_of q) q.1 (names_of d (like k r))) here
              ∙ (ap (values_as kept (own_of r) r.1) a.2 ∙ sym (other_stays bs (new_record g kept r) t));
        }

    -- a shell
    shell_like : int_eq r.0.kind (type_number shell) ≡ true → entry_fault g r ≡ None → length bs ≤ length (items_of shell r.1) → IsLike kept k r
    shell_like t good few =
        let vs : List Value = r.1 in
        let typed : r.0.kind ≡ type_number shell = (Decides-int_eq r.0.kind (type_number shell)).0 t in
        let is : IsRecordOf shell r.1 = (decided shell r.1).0 (faultless_is_record g r shell good (ap kind_of_type typed)) in
        let own : Own = shell_own r.1 is in
        let values : reflagged_values bs r ≡ values_with bs r.1 = shell_changes bs r t in
        let here : like k r ≡ (r.0, values_with bs r.1) = ap (λ (us : List Value). let q : Record = (r.0, us) in q) values in
        let kind_own : (us : List Value) → own_of (r.0, us) ≡ own_of_kind shell us =
        λ us. ap (λ (z : ℤ). elim (kind_of_type z) as
        (λ _. Option Own) [
          | Some kind ↦ own_of_kind kind us
          | None ↦ elim (layout_of r.0) as
              (λ _. Option Own) [ Some layout ↦ own_in layout us | None ↦ None ]
        ]) typed in
        let before : own_of r ≡ Some (shell_own r.1 is) = kind_own r.1 ∙ own_is r.1 is in
        let after : own_of (like k r) ≡ Some (shell_own r.1 is) = ap own_of here ∙ (kind_own (values_with bs r.1) ∙ own_flagged r.1 is bs) in
        let low : 1 + 2 * length bs ≤ own_count shell r.1 = omega (arith, few, counted r.1 is) in
        let rest : drop (own_count shell r.1) (values_with bs r.1) ≡ drop (own_count shell r.1) r.1 = values_drop bs (own_count shell r.1) r.1 low in
        let a =
        alike k r (Some (shell_own r.1 is)) after before
        (ap (pointers_by (Some (shell_own r.1 is)) r) values
        ∙ ap (λ (zs : List ℤ). zs ++ (if int_eq r.0.matrix (pos 0) then [] else r.0.matrix ∷ []) ++
        (if int_lt r.0.colour (pos 0) then neg_ℤ r.0.colour ∷ [] else [])) (pointers_same r.1 is bs))
        (ap (names_as (is_name g) (Some (shell_own r.1 is))) values ∙ ap (names_by (is_name g)) rest)
        (ap (layout_as (Some (shell_own r.1 is))) values
        ∙ (ap (λ n. groups_by n (drop (own_count shell r.1) (values_with bs r.1))) (length-values bs r.1) ∙ ap (groups_by (length r.1)) rest)) in
        let room : 1 + 2 * length bs ≤ length (olds kept (shell_own r.1 is) 1 (take (own_count shell r.1) r.1)) =
        omega (
          arith,
          low,
          enough r.1 is,
          length-map (enumerate_from 1 (take (own_count shell r.1) r.1))
              (λ (v : ℕ × Value). new_value kept (shell_own r.1 is) v.0 v.1),
          length-enumerate_from 1 (take (own_count shell r.1) r.1),
          length-take-le (own_count shell r.1) r.1 (enough r.1 is),
        ) in
        record {
          fault = a.0;
          references = a.1;
          becomes =
              ap (λ (o : Option Own). values_as kept o (like k r).1 (names_of d (like k r))) after
              ∙ (ap (λ (us : List Value). values_as kept (Some (shell_own r.1 is)) us (names_of d (like k r))) values
              ∙ (ap (values_as kept (Some (shell_own r.1 is)) (values_with bs r.1)) a.2
              ∙ (ap (λ (us : List Value). olds kept (shell_own r.1 is) 1 us ++ tail_by kept (names_of g r)) (sym (values_take bs (own_count shell r.1) r.1))
              ∙ (ap (λ (us : List Value). us ++ tail_by kept (names_of g r))
              (values_renamed kept (shell_own r.1 is) bs (take (own_count shell r.1) r.1) (flags_free r.1 is kept))
              ∙ (sym (values_append bs (olds kept (shell_own r.1 is) 1 (take (own_count shell r.1) r.1)) (tail_by kept (names_of g r)) room)
              ∙ (sym (ap (λ (o : Option Own). values_with bs (values_as kept o r.1 (names_of g r))) before)
              ∙ sym (shell_changes bs (new_record g kept r) t)))))));
        }

    pub is_like : entry_fault g r ≡ None → (int_eq r.0.kind (type_number shell) ≡ true → length bs ≤ length (items_of shell r.1)) → IsLike kept k r
    is_like good few = by_test (int_eq r.0.kind (type_number shell)) refl
      where
        by_test : (b : Bool) → int_eq r.0.kind (type_number shell) ≡ b → IsLike kept k r
        by_test true t = shell_like t good (few t)
        by_test false t = other t
