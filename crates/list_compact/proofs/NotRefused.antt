-- Once unused items are dropped, no entry of an extracted file has a fault.
use Rattle.std.specs.Prelude.{◌≡◌, ◌⊎◌, ℕ, ◌/◌, ◌≤◌, Bool, true, false, ℤ, pos, List, ◌++◌, length, map, drop, Option, Some, None, option_map, is_some}
use Rattle.std.specs.Prelude.{if◌then◌else◌}
use Rattle.std.specs.List.{list_all}
use Rattle.std.proofs.Common.{refl, sym, ◌∙◌, ap, subst, arith, inl, inr}
use Rattle.std.proofs.lemmas.Bool.{both_ways}
use Rattle.std.proofs.lemmas.List.{length-drop}
use Rattle.std.proofs.lemmas.Option.{none-some, same_Some}
use Rattle.iges_fields.specs.declared.value.Value.{Value}
use Rattle.iges_params.specs.Contents.{Contents}
use Rattle.iges_params.specs.Named.{named}
use Rattle.brep_lists.specs.DueValues.{pointer}
use Rattle.brep_lists.specs.Record.{Items, kind_of_type, due, items_of, IsRecordOf}
use Rattle.brep_lists.specs.declared.entity_kind.EntityKind.{EntityKind}
use Rattle.brep_lists.specs.declared.entity_kind.EntityKind.TheVariants.{Loop as «loop», EdgeList as edges, VertexList as vertices}
use Rattle.brep_lists.specs.OwnValues.{due_in, own_count}
use Rattle.brep_lists.specs.declared.edge_list.EdgeTuple.{EdgeTuple}
use Rattle.solid_data.specs.Obligations.{entry_number}
use Rattle.solid_data.proofs.Members.{Has, All-at, has_append, has_left, has_right, has_get}
use Rattle.entry_references.specs.Layout.{Own}
use Rattle.entry_references.specs.Refs.{Record, own_of, names_entry, pointers_of, entry_fault}
use Rattle.entry_references.proofs.KindPlaces.{own_is}
use Rattle.entry_references.proofs.NamedRecords.{named_place}
use Rattle.iges_params.specs.Solids.{is_solid, is_solid_entry}
use Rattle.solid_extract.specs.Extracted.{new_number, here, IsExtracted}
use Rattle.solid_extract.specs.NewValues.{new_numbers, names_behind}
use Rattle.solid_extract.proofs.NewNumbers.{new_named}
use Rattle.list_compact.specs.Used.{is_kind}
use Rattle.list_compact.specs.Dropped.{reindexed_tuple, kept_edges, loop_values, edge_values, vertex_values, dropped}
use Rattle.list_compact.specs.Laws.{DroppedIsNotRefused}
use Rattle.list_compact.proofs.Members.{list_test, list_tested}
use Rattle.list_compact.proofs.Spelled.{tuples_alike}
use Rattle.list_compact.proofs.Rewritten.{IsRewritten, tuple_alike, loop_rewritten, edges_either, vertices_either}
use Rattle.list_compact.proofs.DroppedEntries.{as_dropped, names_dropped, named_dropped, kind_is}
use Rattle.list_compact.specs.Marking.{IsOfItsKind}
use Rattle.list_compact.proofs.DroppedMade.{extracted_of_kind}
use Rattle.list_compact.proofs.OwnKept.{own_for}
use Rattle.list_compact.proofs.Groups.{groups_pass, names_pass}
use Rattle.list_compact.proofs.Faultless.{IsFaultlessAs, without_fault, matrix_number, colour_number, pointers_by, IsNeat, entries_neat}
use Rattle.list_compact.proofs.Pointers.{IsDue, numbers_in, numbers_are_due, due_are_numbers, alike_pointers, kept_edge_pointers, vertex_pointers}

module _ (g : Contents) where
  -- the same numbers name entries
  names_same : (z : ℤ) → names_entry (dropped g) z ≡ names_entry g z
  names_same z = ap is_some (names_dropped g z) ∙ by_option (named g z)
    where
      by_option : (o : Option Record) → is_some (option_map (as_dropped g (entry_number z)) o) ≡ is_some o
      by_option None = refl
      by_option (Some r) = refl

  all_names : (zs : List ℤ) → list_all (names_entry g) zs ≡ true → list_all (names_entry (dropped g)) zs ≡ true
  all_names zs t = list_test (names_entry (dropped g)) zs (λ z h. names_same z ∙ list_tested (names_entry g) zs t z h)

  module _ (s : Record) (neat : IsNeat g s) where
    good : IsFaultlessAs g s neat.own
    good = neat.faultless

    -- an entry whose values stay
    stays : (vs : List Value) → vs ≡ s.1 → entry_fault (dropped g) (s.0, vs) ≡ None
    unfolding good
    stays vs e =
        ap (λ ws. entry_fault (dropped g) (s.0, ws)) e
        ∙ without_fault (dropped g) s neat.own
        (record { listed = good.listed; own_values = good.own_values; groups = good.groups; pointers = all_names (pointers_of s) good.pointers })

    -- one of the six kinds, of which no other pointers are due
    rewritten : (kind : EntityKind) (items : Items kind) (new : List Value) → kind_of_type s.0.kind ≡ Some kind → IsRecordOf kind s.1
        → IsRewritten kind items s.1 new
        → ((z : ℤ) → Has (due kind items) (pointer z) → Has (due_in kind s.1) (pointer z)) → entry_fault (dropped g) (s.0, new) ≡ None
    unfolding good
    rewritten kind items new e is w fewer =
        let r : Record = (s.0, new) in
        let own_read : own_for kind (due_in kind s.1) ≡ neat.own =
        same_Some (own_for kind (due_in kind s.1)) neat.own (sym (own_is s kind e is) ∙ good.own_values) in
        let own_new : own_of (s.0, new) ≡ Some (own_for kind (due_in kind new)) = own_is (s.0, new) kind e w.is in
        let tail : drop (own_count kind new) new ≡ names_behind (new_numbers neat.kept neat.names) =
        w.rest ∙ (ap (λ (o : Own). drop o.count s.1) own_read ∙ neat.tail) in
        let few : length (names_behind (new_numbers neat.kept neat.names)) ≤ length new = omega (arith, ap length tail, length-drop (own_count kind new) new) in
        let was : pointers_of s ≡ numbers_in (due_in kind s.1) s.1 ++ matrix_number s.0.matrix ++ colour_number s.0.colour =
        pointers_by s (own_for kind (due_in kind s.1)) (own_is s kind e is) in
        without_fault (dropped g) (s.0, new) (own_for kind (due_in kind new)) (record {
          listed = good.listed;
          own_values = own_new;
          groups = ap (groups_pass new) tail ∙ names_pass new neat.kept neat.names few;
          pointers =
              ap (list_all (names_entry (dropped g))) (pointers_by (s.0, new) (own_for kind (due_in kind new)) own_new)
              ∙ all_names (numbers_in (due_in kind new) new ++ matrix_number s.0.matrix ++ colour_number s.0.colour)
              (list_test (names_entry g) (numbers_in (due_in kind new) new ++ matrix_number s.0.matrix ++ colour_number s.0.colour)
              (λ z h. list_tested (names_entry g) (pointers_of s) good.pointers z
              (subst (λ zs. Has zs z) (sym was)
              (into z (has_append (numbers_in (due_in kind new) new ++ matrix_number s.0.matrix) (colour_number s.0.colour) z h)))));
        })
      where
        number_was : (z : ℤ) → Has (numbers_in (due_in kind new) new) z → Has (numbers_in (due_in kind s.1) s.1) z
        number_was z h =
            let is_due : IsDue (due_in kind new) z = All-at (IsDue (due_in kind new)) (numbers_in (due_in kind new) new)
            (numbers_are_due (due_in kind new) new w.is) z h in
            due_are_numbers (due_in kind s.1) s.1 z is (fewer z (subst (λ (us : Items kind). Has (due kind us) (pointer z)) w.items_are is_due.0), is_due.1)

        into : (z : ℤ) → Has (numbers_in (due_in kind new) new ++ matrix_number s.0.matrix) z ⊎ Has (colour_number s.0.colour) z
            → Has (numbers_in (due_in kind s.1) s.1 ++ matrix_number s.0.matrix ++ colour_number s.0.colour) z
        into z (inr h) = has_right (numbers_in (due_in kind s.1) s.1 ++ matrix_number s.0.matrix) (colour_number s.0.colour) z h
        into z (inl h) = has_left (numbers_in (due_in kind s.1) s.1 ++ matrix_number s.0.matrix) (colour_number s.0.colour) z
            (front (has_append (numbers_in (due_in kind new) new) (matrix_number s.0.matrix) z h))
          where
            front : Has (numbers_in (due_in kind new) new) z ⊎ Has (matrix_number s.0.matrix) z
                → Has (numbers_in (due_in kind s.1) s.1 ++ matrix_number s.0.matrix) z
            front (inl m) = has_left (numbers_in (due_in kind s.1) s.1) (matrix_number s.0.matrix) z (number_was z m)
            front (inr m) = has_right (numbers_in (due_in kind s.1) s.1) (matrix_number s.0.matrix) z m

    pub dropped_faultless : (e : ℕ) → IsOfItsKind s → entry_fault (dropped g) (as_dropped g e s) ≡ None
    dropped_faultless e of_kind = by_kinds (is_kind «loop» s) (is_kind edges s) (is_kind vertices s) refl refl refl
      where
        by_kinds : (l d v : Bool) → is_kind «loop» s ≡ l → is_kind edges s ≡ d → is_kind vertices s ≡ v
            → entry_fault (dropped g) (s.0, if l then loop_values g s.1 else if d then edge_values g e s.1 else if v then vertex_values g e s.1 else s.1) ≡ None
        by_kinds true d v el ed ev =
            let k = kind_is «loop» s el in
            rewritten «loop» (map (reindexed_tuple g) (items_of «loop» s.1)) (loop_values g s.1) k (of_kind «loop» k) (loop_rewritten g s.1 (of_kind «loop» k))
            (alike_pointers (due «loop» (items_of «loop» s.1)) (due «loop» (map (reindexed_tuple g) (items_of «loop» s.1)))
            (tuples_alike (reindexed_tuple g) (tuple_alike g) (items_of «loop» s.1)))
        by_kinds false true v el ed ev =
            let k = kind_is edges s ed in
            let w = edges_either g e s.1 (of_kind edges k) in
            rewritten edges w.0 (edge_values g e s.1) k (of_kind edges k) w.1 (fewer w.0 w.2)
          where
            fewer : (items : List EdgeTuple) → (items ≡ kept_edges g e s.1) ⊎ (items ≡ items_of edges s.1) → (z : ℤ) → Has (due edges items) (pointer z)
                → Has (due_in edges s.1) (pointer z)
            fewer items (inl same) z h = kept_edge_pointers g e s.1 z (subst (λ (us : List EdgeTuple). Has (due edges us) (pointer z)) same h)
            fewer items (inr same) z h = subst (λ (us : List EdgeTuple). Has (due edges us) (pointer z)) same h
        by_kinds false false true el ed ev =
            let k = kind_is vertices s ev in
            let w = vertices_either g e s.1 (of_kind vertices k) in
            rewritten vertices w.0 (vertex_values g e s.1) k (of_kind vertices k) w.1 (λ z h. absurd (vertex_pointers w.0 z h))
        by_kinds false false false el ed ev = stays s.1 refl

-- ---- the second extraction

named_as_dropped : (g : Contents) (m : ℕ) (q : Record) → named (dropped g) (pos m) ≡ Some q → (s : Record) × (named g (pos m) ≡ Some s) × (as_dropped g m s ≡ q)
named_as_dropped g m q e = by_option (named g (pos m)) refl (sym (named_dropped g m) ∙ e)
  where
    by_option : (o : Option Record) → named g (pos m) ≡ o → option_map (as_dropped g m) o ≡ Some q → (s : Record) × (named g (pos m) ≡ Some s)
        × (as_dropped g m s ≡ q)
    by_option None at h = absurd (none-some q h)
    by_option (Some s) at h = (s, at, same_Some (as_dropped g m s) q h)

-- no entry has a fault
pub faultless_again : (f g : Contents) (n : ℕ) → IsExtracted f n g → (m : ℕ) (q : Record) → named (dropped g) (pos m) ≡ Some q
    → entry_fault (dropped g) q ≡ None
faultless_again f g n x m q e =
    let s = named_as_dropped g m q e in
    let there : Has g.entries s.0 = has_get g.entries (m / 2) s.0 (named_place g m s.0 s.1).1 in
    let neat : IsNeat g s.0 = All-at (IsNeat g) g.entries (entries_neat f g n x) s.0 there in
    let of_kind : IsOfItsKind s.0 = All-at IsOfItsKind g.entries (extracted_of_kind f g n x) s.0 there in
    subst (λ p. entry_fault (dropped g) p ≡ None) s.2 (dropped_faultless g s.0 neat m of_kind)

-- the solid is one still
pub solid_still : (f g : Contents) (n : ℕ) (x : IsExtracted f n g) → is_solid (dropped g) (new_number x.kept n) ≡ true
solid_still f g n x = by_record (named f (pos n)) refl x.solid
  where
    by_record : (o : Option Record) → named f (pos n) ≡ o → is_solid_entry o ≡ true → is_solid (dropped g) (new_number x.kept n) ≡ true
    by_record None e t = absurd (let no : false ≡ true = t in cc)
    by_record (Some r) e t =
        ap is_solid_entry (named_dropped g (new_number x.kept n) ∙ ap (option_map (as_dropped g (new_number x.kept n)))
        (new_named f g n x n r ((x.reached n).1 here) e)) ∙ t

pub not_refused : DroppedIsNotRefused
not_refused f g n x entity reason (inl bad) = both_ways (is_solid (dropped g) (new_number x.kept n)) bad.0 (solid_still f g n x)
not_refused f g n x entity reason (inr bad) = none-some reason (sym (faultless_again f g n x entity bad.1 bad.3) ∙ bad.4)
