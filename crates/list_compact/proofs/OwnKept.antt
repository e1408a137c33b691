-- A kept record has the own values of its type, in the same number and with the same pointers, and behind them names alone.
use Rattle.std.specs.Prelude.{◌≡◌, ◌⊎◌, ℕ, zero, suc, ◌+◌, ◌-◌, ◌<◌, ◌≤◌, ◌&&◌, nat_le, Bool, true, false, ℤ, pos, List, [], ◌∷◌, ◌++◌, length, map, take, drop}
use Rattle.std.specs.Prelude.{filter, filter_map, Option, Some, None, if◌then◌else◌, slice_index_or}
use Rattle.std.specs.List.{enumerate_from, list_all}
use Rattle.std.specs.Option.{unwrap_or}
use Rattle.std.proofs.Common.{refl, sym, ◌∙◌, ap, subst, arith, inl, inr, length-append, length-take}
use Rattle.std.proofs.Math.Seq.{drop-append_seam}
use Rattle.std.proofs.Math.ListN.{drop_of_length-le}
use Rattle.std.proofs.lemmas.Bool.{and_parts, and_from, cond-true, leb-true, le-leb, cases_lt}
use Rattle.std.proofs.lemmas.List.{length-map, append-nil}
use Rattle.std.proofs.lemmas.List.FromFn.{length-enumerate_from}
use Rattle.std.proofs.lemmas.Option.{none-some, same_Some}
use Rattle.iges_fields.specs.declared.value.Value.{Value}
use Rattle.iges_fields.specs.declared.value.Value.TheVariants as value
use Rattle.iges_params.specs.Contents.{Contents}
use Rattle.brep_lists.specs.DueValues.{DueValue, pointer, number, flag, at_least_one, count, coordinate}
use Rattle.brep_lists.specs.Record.{kind_of_type, due, items_of, Fits, IsRecordOf}
use Rattle.brep_lists.specs.declared.entity_kind.EntityKind.{EntityKind}
use Rattle.brep_lists.specs.OwnValues.{due_in}
use Rattle.brep_lists.proofs.Decided.{decided}
use Rattle.brep_lists.proofs.OnlyRead.{only_read}
use Rattle.solid_data.proofs.Members.{Has, has_left}
use Rattle.entry_references.specs.EntrySets.{is_among}
use Rattle.entry_references.specs.Layout.{Own, Layout, layout_of, own_in, value_at, count_of, is_count, is_choice, is_pointer, counts_at}
use Rattle.entry_references.specs.PlacesDue.{places_due}
use Rattle.entry_references.specs.Refs.{Record, group_at, second_group, is_name, number_of, own_of_kind, own_of, names_of, entry_fault}
use Rattle.entry_references.proofs.KindPlaces.{own_is}
use Rattle.solid_extract.specs.Extracted.{renamed, new_value, new_values, new_record}
use Rattle.solid_extract.specs.Kept.{renamed_items}
use Rattle.solid_extract.specs.NewValues.{new_numbers, names_behind}
use Rattle.solid_extract.proofs.Keeping.{renamed_due, R, due_renamed, keeps}
use Rattle.solid_extract.proofs.KeptItems.{faultless_is_record}
use Rattle.list_compact.proofs.Members.{list_test, list_tested}
use Rattle.list_compact.proofs.Steady.{count_in, IsSteady, layout_steady}

map_same : {X Y : Type 0} (f g : X → Y) (xs : List X) → ((x : X) → Has xs x → f x ≡ g x) → map f xs ≡ map g xs
map_same f g [] h = refl
map_same f g (x ∷ xs) h = ap (λ y. y ∷ map f xs) (h x (inl refl)) ∙ ap (λ ys. g x ∷ ys) (map_same f g xs (λ y m. h y (inr m)))

-- ---- values by their places

at_front : (c : ℕ → Value → Value) → ((k : ℕ) → c k value.Default ≡ value.Default) → (m n : ℕ) (vs ws : List Value) (i : ℕ) → i < n → (length vs < n → ws ≡ [])
    → slice_index_or (map (λ (v : ℕ × Value). c v.0 v.1) (enumerate_from m (take n vs)) ++ ws) i value.Default ≡ c (m + i) (slice_index_or vs i value.Default)
at_front c none m zero vs ws i lt short = absurd (omega (arith, lt))
at_front c none m (suc n) [] ws i lt short = ap (λ us. slice_index_or us i value.Default) (short (omega arith)) ∙ sym (none (m + i))
at_front c none m (suc n) (v ∷ vs) ws zero lt short = let here : m ≡ m + 0 = omega arith in ap (λ k. c k v) here
at_front c none m (suc n) (v ∷ vs) ws (suc i) lt short =
    let on : m + 1 + i ≡ m + suc i = omega arith in
    at_front c none (m + 1) n vs ws i (omega (arith, lt)) (λ few. short (omega (arith, few)))
    ∙ ap (λ k. c k (slice_index_or vs i value.Default)) on

-- ---- what stands behind the own values

abbrev pub tail_of : Contents → List ℕ → Record → List Value
tail_of f kept r = names_behind (new_numbers kept (names_of f r))

module _ (f : Contents) (kept : List ℕ) (r : Record) (own : Own) (at : own_of r ≡ Some own) where
  abbrev front : List Value
  front = map (λ (v : ℕ × Value). new_value kept own v.0 v.1) (enumerate_from 1 (take own.count r.1))

  values_split : new_values f kept r ≡ front ++ tail_of f kept r
  values_split = ap (λ (o : Option Own). elim o as (λ _. List Value)
      [ Some w ↦ map (λ (v : ℕ × Value). new_value kept w v.0 v.1) (enumerate_from 1 (take w.count r.1)) | None ↦ [] ] ++ tail_of f kept r) at

  front_long : length front ≡ length (take own.count r.1)
  front_long = length-map (enumerate_from 1 (take own.count r.1)) (λ (v : ℕ × Value). new_value kept own v.0 v.1) ∙ length-enumerate_from 1 (take own.count r.1)

  names_are : names_of f r ≡ filter (is_name f) (filter_map number_of (second_group own r.1).pointers)
  names_are = ap (λ (o : Option Own). elim o as (λ _. List ℤ) [ Some w ↦ filter (is_name f) (filter_map number_of (second_group w r.1).pointers) | None ↦ [] ])
      at

  no_tail : length r.1 < own.count → tail_of f kept r ≡ []
  no_tail short =
      let gone : drop own.count r.1 ≡ [] = drop_of_length-le r.1 (omega (arith, short)) in
      ap (λ zs. names_behind (new_numbers kept zs))
      (names_are ∙ ap (λ ds. filter (is_name f) (filter_map number_of (group_at (group_at ds).rest).pointers)) gone)

  -- a value in its place is the one that it was, with its pointer renamed
  pub value_kept : (k : ℕ) → 1 ≤ k → k ≤ own.count → value_at (new_values f kept r) k ≡ new_value kept own k (value_at r.1 k)
  value_kept k low high =
      let here : 1 + (k - 1) ≡ k = omega (arith, low) in
      ap (λ vs. value_at vs k) values_split
      ∙ (at_front (new_value kept own) (λ j. refl) 1 own.count r.1 (tail_of f kept r) (k - 1) (omega (arith, low, high)) no_tail
      ∙ ap (λ j. new_value kept own j (value_at r.1 k)) here)

  -- behind the own values the names stand alone
  pub behind : drop own.count (new_values f kept r) ≡ tail_of f kept r
  behind = ap (drop own.count) values_split ∙ by_length (cases_lt (length r.1) own.count)
    where
      by_length : (length r.1 < own.count) ⊎ (own.count ≤ length r.1) → drop own.count (front ++ tail_of f kept r) ≡ tail_of f kept r
      by_length (inl short) =
          let few : length front ≤ own.count = omega (arith, front_long, length-take own.count r.1, short) in
          ap (λ ws. drop own.count (front ++ ws)) (no_tail short)
          ∙ (ap (drop own.count) (append-nil front) ∙ (drop_of_length-le front few ∙ sym (no_tail short)))
      by_length (inr long) =
          let same : own.count ≡ length front = omega (arith, front_long, length-take own.count r.1, long) in
          ap (λ n. drop n (front ++ tail_of f kept r)) same ∙ drop-append_seam front (tail_of f kept r)

  -- so many values there are at least
  pub long_enough : (n : ℕ) → n ≤ own.count → n ≤ length r.1 → n ≤ length (new_values f kept r)
  long_enough n low high = omega (arith, ap length values_split, length-append front (tail_of f kept r), front_long, length-take own.count r.1, low, high)

-- ---- the same own values: the six kinds

places_same : (g : ℤ → ℤ) (k : ℕ) (ds : List DueValue) → places_due k (R g ds) ≡ places_due k ds
places_same g k [] = refl
places_same g k (pointer z ∷ ds) = ap (λ ks. k ∷ ks) (places_same g (k + 1) ds)
places_same g k (number z ∷ ds) = places_same g (k + 1) ds
places_same g k (flag b ∷ ds) = places_same g (k + 1) ds
places_same g k (at_least_one n ∷ ds) = places_same g (k + 1) ds
places_same g k (count n ∷ ds) = places_same g (k + 1) ds
places_same g k (coordinate w ∷ ds) = places_same g (k + 1) ds

pub places_within : (k : ℕ) (ds : List DueValue) (j : ℕ) → Has (places_due k ds) j → (k ≤ j) × (j < k + length ds)
places_within k [] j h = absurd h
places_within k (pointer z ∷ ds) j (inl e) = (omega (arith, e), omega (arith, e))
places_within k (pointer z ∷ ds) j (inr h) = let w = places_within (k + 1) ds j h in (omega (arith, w.0), omega (arith, w.1))
places_within k (number z ∷ ds) j h = let w = places_within (k + 1) ds j h in (omega (arith, w.0), omega (arith, w.1))
places_within k (flag b ∷ ds) j h = let w = places_within (k + 1) ds j h in (omega (arith, w.0), omega (arith, w.1))
places_within k (at_least_one n ∷ ds) j h = let w = places_within (k + 1) ds j h in (omega (arith, w.0), omega (arith, w.1))
places_within k (count n ∷ ds) j h = let w = places_within (k + 1) ds j h in (omega (arith, w.0), omega (arith, w.1))
places_within k (coordinate w ∷ ds) j h = let x = places_within (k + 1) ds j h in (omega (arith, x.0), omega (arith, x.1))

abbrev pub own_for : EntityKind → List DueValue → Own
own_for kind ds = record { count = length ds; pointers = places_due 1 ds; cut = [] }

kind_kept : (f : Contents) (kept : List ℕ) (r : Record) (kind : EntityKind) → kind_of_type r.0.kind ≡ Some kind → IsRecordOf kind r.1
    → own_of (new_record f kept r) ≡ own_of r
kind_kept f kept r kind e is =
    let s : Record = new_record f kept r in
    let fits : Fits kind (new_values f kept r) (renamed_items (renamed kept) kind (items_of kind r.1)) = keeps f kept r kind e is in
    let same : renamed_items (renamed kept) kind (items_of kind r.1) ≡ items_of kind (new_values f kept r) =
    only_read kind (new_values f kept r) (renamed_items (renamed kept) kind (items_of kind r.1)) fits in
    let dues : due_in kind (new_values f kept r) ≡ R (renamed kept) (due_in kind r.1) = ap (due kind) (sym same)
    ∙ due_renamed (renamed kept) kind (items_of kind r.1) in
    own_is (new_record f kept r) kind e (subst (Fits kind (new_values f kept r)) same fits)
    ∙ (ap (λ ds. Some (own_for kind ds)) dues
    ∙ (ap (λ n. let o : Own = record { count = n; pointers = places_due 1 (R (renamed kept) (due_in kind r.1)); cut = [] } in Some o)
    (length-map (due_in kind r.1) (renamed_due (renamed kept)))
    ∙ (ap (λ ks. let o : Own = record { count = length (due_in kind r.1); pointers = ks; cut = [] } in Some o) (places_same (renamed kept) 1 (due_in kind r.1))
    ∙ sym (own_is r kind e is))))

-- ---- the same own values: the listed types

abbrev own_from : Layout → List Value → Own
own_from l vs = let ns = counts_at vs (l.counts ++ l.choices) in record { count = l.own ns; pointers = l.pointers ns; cut = l.cut }

abbrev are_counts : Layout → List Value → Bool
are_counts l vs = list_all (λ k. is_count vs (value_at vs k)) l.counts && list_all (λ k. is_choice (value_at vs k)) l.choices

abbrev own_pointers : Own → List Value → Bool
own_pointers own vs = list_all (λ k. is_pointer (value_at vs k)) (own.pointers ++ own.cut)

record Reads (l : Layout) (vs : List Value) (own : Own) : Type 0 where
  counts : are_counts l vs ≡ true
  pointers : own_pointers (own_from l vs) vs ≡ true
  is : own_from l vs ≡ own

abbrev own_by : Layout → List Value → Bool → Option Own
own_by l vs b = elim b as (λ _. Option Own) [ true ↦ if own_pointers (own_from l vs) vs then Some (own_from l vs) else None | false ↦ None ]

reads : (l : Layout) (vs : List Value) (own : Own) → own_in l vs ≡ Some own → Reads l vs own
reads l vs own e = by_tests (are_counts l vs) (own_pointers (own_from l vs) vs) refl refl e
  where
    by_tests : (a b : Bool) → are_counts l vs ≡ a → own_pointers (own_from l vs) vs ≡ b
        → elim a as (λ _. Option Own) [ true ↦ if b then Some (own_from l vs) else None | false ↦ None ] ≡ Some own → Reads l vs own
    by_tests true true ea eb h = record { counts = ea; pointers = eb; is = same_Some (own_from l vs) own h }
    by_tests true false ea eb h = absurd (none-some own h)
    by_tests false b ea eb h = absurd (none-some own h)

read_as : (l : Layout) (vs : List Value) (own : Own) → Reads l vs own → own_in l vs ≡ Some own
read_as l vs own h = ap (own_by l vs) h.counts
    ∙ (cond-true (own_pointers (own_from l vs) vs) (Some (own_from l vs)) None h.pointers ∙ ap (λ (o : Own). Some o) h.is)

pointer_stays : (kept : List ℕ) (own : Own) (k : ℕ) (v : Value) → is_pointer v ≡ true → is_pointer (new_value kept own k v) ≡ true
pointer_stays kept own k value.Default h = refl
pointer_stays kept own k (value.Int n) h = refl
pointer_stays kept own k (value.Real w) h = h
pointer_stays kept own k (value.Text w) h = h

value_stays : (kept : List ℕ) (own : Own) (k : ℕ) (v : Value) → is_among own.pointers k ≡ false → is_among own.cut k ≡ false → new_value kept own k v ≡ v
value_stays kept own k value.Default p c = refl
value_stays kept own k (value.Int n) p c =
    ap (λ b. value.Int (if b then renamed kept n else (if is_among own.cut k then pos 0 else n))) p
    ∙ ap (λ b. value.Int (if b then pos 0 else n)) c
value_stays kept own k (value.Real w) p c = refl
value_stays kept own k (value.Text w) p c = refl

count_stays : (vs ws : List Value) (v : Value) → is_count vs v ≡ true → (unwrap_or (count_of v) 0 ≤ length vs → unwrap_or (count_of v) 0 ≤ length ws)
    → is_count ws v ≡ true
count_stays vs ws v h more = by_count (count_of v) h more
  where
    by_count : (o : Option ℕ) → elim o as (λ _. Bool) [ Some n ↦ nat_le n (length vs) | None ↦ false ] ≡ true
        → (unwrap_or o 0 ≤ length vs → unwrap_or o 0 ≤ length ws) → elim o as (λ _. Bool) [ Some n ↦ nat_le n (length ws) | None ↦ false ] ≡ true
    by_count None k m = k
    by_count (Some n) k m = le-leb n (length ws) (m (leb-true n (length vs) k))

module _ (f : Contents) (kept : List ℕ) (r : Record) (l : Layout) (own : Own) (steady : IsSteady l) (h : own_in l r.1 ≡ Some own)
    (at : own_of r ≡ Some own) where
  old : Reads l r.1 own
  old = reads l r.1 own h

  abbrev vs : List Value
  vs = new_values f kept r

  abbrev ns : List ℕ
  ns = counts_at r.1 (l.counts ++ l.choices)

  count_is : l.own ns ≡ own.count
  unfolding old
  count_is = ap (λ (o : Own). o.count) old.is

  pointers_are : l.pointers ns ≡ own.pointers
  unfolding old
  pointers_are = ap (λ (o : Own). o.pointers) old.is

  cut_is : l.cut ≡ own.cut
  unfolding old
  cut_is = ap (λ (o : Own). o.cut) old.is

  counted_stays : (k : ℕ) → Has (l.counts ++ l.choices) k → value_at vs k ≡ value_at r.1 k
  counted_stays k m =
      let w = steady.counts ns k m in
      value_kept f kept r own at k w.0 (omega (arith, w.1, count_is))
      ∙ value_stays kept own k (value_at r.1 k) (ap (λ ks. is_among ks k) (sym pointers_are) ∙ w.2) (ap (λ ks. is_among ks k) (sym cut_is) ∙ w.3)

  numbers_same : counts_at vs (l.counts ++ l.choices) ≡ ns
  numbers_same = map_same (λ k. unwrap_or (count_of (value_at vs k)) 0) (λ k. unwrap_or (count_of (value_at r.1 k)) 0) (l.counts ++ l.choices)
      (λ k m. ap (λ v. unwrap_or (count_of v) 0) (counted_stays k m))

  own_same : own_from l vs ≡ own
  own_same = ap (λ (ms : List ℕ). let o : Own = record { count = l.own ms; pointers = l.pointers ms; cut = l.cut } in o) numbers_same ∙ old.is

  counts_pass : (k : ℕ) → Has l.counts k → is_count vs (value_at vs k) ≡ true
  counts_pass k m =
      let all = (and_parts (list_all (λ j. is_count r.1 (value_at r.1 j)) l.counts) (list_all (λ j. is_choice (value_at r.1 j)) l.choices) old.counts).0 in
      let few : count_in r.1 k ≤ own.count = omega (arith, steady.few r.1 k m, count_is) in
      ap (is_count vs) (counted_stays k (has_left l.counts l.choices k m))
      ∙ count_stays r.1 vs (value_at r.1 k) (list_tested (λ j. is_count r.1 (value_at r.1 j)) l.counts all k m)
      (λ there. long_enough f kept r own at (count_in r.1 k) few there)

  choices_pass : (k : ℕ) → Has l.choices k → is_choice (value_at vs k) ≡ true
  choices_pass k m =
      let all = (and_parts (list_all (λ j. is_count r.1 (value_at r.1 j)) l.counts) (list_all (λ j. is_choice (value_at r.1 j)) l.choices) old.counts).1 in
      ap is_choice (counted_stays k (behind_counts l.counts k m)) ∙ list_tested (λ j. is_choice (value_at r.1 j)) l.choices all k m
    where
      behind_counts : (cs : List ℕ) (j : ℕ) → Has l.choices j → Has (cs ++ l.choices) j
      behind_counts [] j i = i
      behind_counts (c ∷ cs) j i = inr (behind_counts cs j i)

  pointers_pass : (k : ℕ) → Has (own.pointers ++ own.cut) k → is_pointer (value_at vs k) ≡ true
  pointers_pass k m =
      let there : Has (l.pointers ns ++ l.cut) k = subst (λ (o : Own). Has (o.pointers ++ o.cut) k) (sym old.is) m in
      let w = steady.pointers ns k there in
      let was : is_pointer (value_at r.1 k) ≡ true = list_tested (λ j. is_pointer (value_at r.1 j)) (l.pointers ns ++ l.cut) old.pointers k there in
      ap is_pointer (value_kept f kept r own at k w.0 (omega (arith, w.1, count_is))) ∙ pointer_stays kept own k (value_at r.1 k) was

  pub layout_kept : own_in l vs ≡ Some own
  layout_kept = read_as l vs own (record {
    counts = and_from (list_all (λ k. is_count vs (value_at vs k)) l.counts) (list_all (λ k. is_choice (value_at vs k)) l.choices)
        (list_test (λ k. is_count vs (value_at vs k)) l.counts counts_pass) (list_test (λ k. is_choice (value_at vs k)) l.choices choices_pass);
    pointers = ap (λ (o : Own). own_pointers o vs) own_same ∙ list_test (λ k. is_pointer (value_at vs k)) (own.pointers ++ own.cut) pointers_pass;
    is = own_same;
  })

  pub pointer_within : (k : ℕ) → Has own.pointers k → (1 ≤ k) × (k ≤ own.count)
  pointer_within k m =
      let w = steady.pointers ns k (subst (λ (o : Own). Has (o.pointers ++ o.cut) k) (sym old.is) (has_left own.pointers own.cut k m)) in
      (w.0, omega (arith, w.1, count_is))

-- ---- of any type

pub record KeepsOwn (f : Contents) (kept : List ℕ) (r : Record) (own : Own) : Type 0 where
  pub same : own_of (new_record f kept r) ≡ Some own
  pub pointers : (k : ℕ) → Has own.pointers k → (1 ≤ k) × (k ≤ own.count)

abbrev own_as : Record → List Value → Option EntityKind → Option Own
own_as r vs o = elim o as (λ _. Option Own)
    [ Some k ↦ own_of_kind k vs | None ↦ elim (layout_of r.0) as (λ _. Option Own) [ Some layout ↦ own_in layout vs | None ↦ None ] ]

abbrev own_under : List Value → Option Layout → Option Own
own_under vs o = elim o as (λ _. Option Own) [ Some layout ↦ own_in layout vs | None ↦ None ]

pub own_kept : (f : Contents) (kept : List ℕ) (r : Record) (own : Own) → entry_fault f r ≡ None → own_of r ≡ Some own → KeepsOwn f kept r own
own_kept f kept r own good at = by_kind (kind_of_type r.0.kind) refl
  where
    by_layout : (o : Option Layout) → layout_of r.0 ≡ o → kind_of_type r.0.kind ≡ None → own_under r.1 o ≡ Some own → KeepsOwn f kept r own
    by_layout None el ek e = absurd (none-some own e)
    by_layout (Some l) el ek e = record {
      same = ap (own_as r (new_values f kept r)) ek ∙ (ap (own_under (new_values f kept r)) el ∙ layout_kept f kept r l own (layout_steady r.0 l el) e at);
      pointers = pointer_within f kept r l own (layout_steady r.0 l el) e at;
    }

    by_kind : (o : Option EntityKind) → kind_of_type r.0.kind ≡ o → KeepsOwn f kept r own
    by_kind (Some kind) e =
        let is : IsRecordOf kind r.1 = (decided kind r.1).0 (faultless_is_record f r kind good e) in
        let read : own_for kind (due_in kind r.1) ≡ own = same_Some (own_for kind (due_in kind r.1)) own (sym (own_is r kind e is) ∙ at) in
        record {
          same = kind_kept f kept r kind e is ∙ at;
          pointers = subst (λ (o : Own). (k : ℕ) → Has o.pointers k → (1 ≤ k) × (k ≤ o.count)) read
              (λ k m. let w = places_within 1 (due_in kind r.1) k m in (w.0, omega (arith, w.1)));
        }
    by_kind None e = by_layout (layout_of r.0) refl e (sym (ap (own_as r r.1) e) ∙ at)
