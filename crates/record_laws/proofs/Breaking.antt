-- The value that is named breaks the rule.
use Rattle.std.specs.Prelude.{◌≡◌, ℕ, zero, suc, ◌+◌, ◌-◌, ◌*◌, nat_lt, ◌==◌, ◌&&◌, Bool, true, false, if◌then◌else◌, ℤ, pos, negsuc, List, [], ◌∷◌, ◌++◌, ◌⊎◌}
use Rattle.std.specs.Prelude.{length, flat_map, drop, All, Contains, Option, Some, None, slice_get, unwrap_or}
use Rattle.std.proofs.Common.{refl, sym, ◌∙◌, ap, subst, arith, inl, inr, ⊎_elim}
use Rattle.std.proofs.lemmas.Bool.{cases_Bool}
use Rattle.std.proofs.lemmas.Bool.Decides.{Decides-eqb}
use Rattle.iges_params.specs.Contents.{Contents}
use Rattle.iges_params.specs.Named.{values_of}
use Rattle.brep_lists.specs.Record.{LoopTuple, int_at, count_at, edge_read}
use Rattle.brep_lists.specs.declared.entity_kind.EntityKind.{EntityKind}
use Rattle.brep_lists.specs.declared.entity_kind.EntityKind.TheVariants.{Solid as solid, Shell as shell, Face as face, Loop as «loop», EdgeList as edges}
use Rattle.brep_lists.specs.declared.entity_kind.EntityKind.TheVariants.{VertexList as vertices}
use Rattle.brep_lists.specs.declared.edge_list.EdgeTuple.{EdgeTuple}
use Rattle.brep_lists.proofs.Stride.{items_length, vertex_read}
use Rattle.brep_walk.specs.Places.{told, shells, faces, loops, tuples, numbers, edge_at, Names, NamesKind, NamesGeometry, HasRecordOf, IsIndex, record_places}
use Rattle.brep_walk.specs.Places.{item_places, edge_places, used_places, tuple_at, tuple_places, loop_at, loop_places, face_at, face_places, shell_at}
use Rattle.brep_walk.specs.Places.{shell_places, places}
use Rattle.solid_data.specs.Obligations.{Obligation, FirstFalse, obligation, entry_number, after_each}
use Rattle.solid_data.specs.declared.verdict.Rule.{Rule}
use Rattle.solid_data.specs.declared.verdict.Rule.TheVariants as rule
use Rattle.solid_data.specs.declared.verdict.Failing.{Failing}
use Rattle.solid_data.proofs.ObligationLemmas.{AllHold-append_left, AllHold-append_right}
use Rattle.record_values.specs.declared.bad_values.BadValue.{BadValue}
use Rattle.record_values.specs.declared.due.Due.{Due}
use Rattle.record_values.specs.declared.due.Due.TheVariants as due
use Rattle.record_values.specs.BadValue.{at_misfit, bad_value, by_rule, in_edge, in_edges, in_entity, in_tuple, in_tuples, is_of_number, item_count}
use Rattle.record_values.specs.BadValue.{speaks_of_entry, tuple_place, value_at}
use Rattle.record_values.specs.Expected.{first_misfit}
use Rattle.record_values.specs.Told.{told_in}
use Rattle.record_values.proofs.BadValues.{by_number, by_entity}
use Rattle.record_values.proofs.Misfits.{misfits_are_first}
use Rattle.where_records.specs.RecordText.{judged}
use Rattle.record_paths.proofs.Bearing.{false_either}
use Rattle.record_laws.specs.Breaks.{BreaksBy}
use Rattle.record_laws.proofs.NamedKinds.{a_vertex_list, an_entry, an_index, at_kind, bad_curve, named_there, no_entry, no_index, no_vertex_list}
use Rattle.record_laws.proofs.NamedKinds.{record_there, told_here}
use Rattle.record_laws.proofs.Sites.{edge_curve, edge_end, edge_end_index, edge_start, edge_start_index, face_item, loop_tuple, shell_item, solid_item}
use Rattle.record_laws.proofs.Sites.{tuple_curve, tuple_index, tuple_list}
use Rattle.record_laws.proofs.Splits.{at_item, fail}

abbrev Three : Contents → ℤ → Type 0
Three f z = NamesKind shell f z ⊎ (NamesKind face f z ⊎ NamesKind «loop» f z)

-- the rule is broken; of Twice without the earlier place
abbrev pub BrokenBy : Contents → Failing → BadValue → Rule → Type 0
BrokenBy f x bad rule.Twice = Three f (judged f x.entity bad.place)
BrokenBy f x bad r = BreaksBy f 0 x bad r

unfoldable pub Broken : Contents → Failing → Type 0
Broken f x = BrokenBy f x (bad_value f x) x.rule

breaks_by : (f : Contents) (x : Failing) (bad : BadValue) → bad_value f x ≡ bad → BrokenBy f x bad x.rule → Broken f x
unfolding Broken
breaks_by f x bad e h = subst (λ b. BrokenBy f x b x.rule) (sym e) h

-- the bad value of an entity of this kind
pub bad_at : (f : Contents) (n : ℕ) (k : EntityKind) (r : Rule) (item : ℕ) → NamesKind k f (pos n) → is_of_number (fail r n item) ≡ false
    → bad_value f (fail r n item) ≡ by_rule f r item (values_of f (pos n)) k
bad_at f n k r item nk e = by_entity f (fail r n item) e ∙ ap (in_entity f (fail r n item)) (at_kind f (pos n) k nk)

not_zero : (i : ℕ) → (suc i == 0) ≡ false
not_zero i = elim (cases_Bool (suc i == 0)) [ inl t ↦ (let same = (Decides-eqb (suc i) 0).0 t in absurd (omega (arith, same))) | inr e ↦ e ]

pub not_number : (r : Rule) (n i : ℕ) → is_of_number (fail r n (suc i)) ≡ false
not_number r n i = ap (λ b. b && speaks_of_entry r) (not_zero i)

layout_false : (f : Contents) (z : ℤ) (k : EntityKind) → NamesKind k f z → ¬ HasRecordOf k f z → Broken f (fail rule.BadLayout (entry_number z) 0)
layout_false f (negsuc m) k nk h = absurd nk
layout_false f (pos m) k nk h =
    let vs = values_of f (pos m) in
    breaks_by f (fail rule.BadLayout m 0) (at_misfit (first_misfit k vs)) (bad_at f m k rule.BadLayout 0 nk refl)
    (k, at_kind f (pos m) k nk, (λ r. h (record_there f (pos m) k (named_there f (pos m) k nk) r)), misfits_are_first k vs)

-- ---- a place that names an entry

-- the bad value of a place of an entity, where its number names none that is due
record Site (f : Contents) (e item : ℕ) (k : EntityKind) (number : ℤ) : Type 0 where
  place : Option ℕ
  entry : ¬ Names f number → bad_value f (fail rule.NoEntry e item) ≡ record { place = place; due = Some (due.Record k) }
  kind_due : ¬ NamesKind k f number → bad_value f (fail rule.WrongKind e item) ≡ record { place = place; due = Some (due.Record k) }
  there : judged f (record { 0 = e }) place ≡ number

record_false : (f : Contents) (entity : ℤ) (item : ℕ) (k : EntityKind) (number : ℤ) (x : Failing) → Site f (entry_number entity) item k number
    → FirstFalse (record_places f entity item k number) x → Broken f x
record_false f entity item k number x s h =
    let e = entry_number entity in
    ⊎_elim
    (λ a. subst (Broken f) (sym a.1) (breaks_by f (fail rule.NoEntry e item) _ (s.entry a.0) (λ n. a.0 (subst (Names f) s.there n))))
    (λ r. ⊎_elim
    (λ b. subst (Broken f) (sym b.1)
    (breaks_by f (fail rule.WrongKind e item) _ (s.kind_due b.0)
    (subst (Names f) (sym s.there) r.0, (k, refl, λ n. b.0 (subst (NamesKind k f) s.there n)))))
    (λ q. ⊎_elim (λ c. subst (Broken f) (sym c.1) (layout_false f number k q.0 c.0)) (λ p. absurd p.1) q.1)
    r.1)
    h

-- a place that names a shell, a face or a loop, and what else is due there
named_level : (f : Contents) (entity : ℤ) (item : ℕ) (k : EntityKind) (number : ℤ) (known : List ℤ) (more : List Obligation) (x : Failing)
    (s : Site f (entry_number entity) item k number)
    → bad_value f (fail rule.Twice (entry_number entity) item) ≡ record { place = s.place; due = None } → (NamesKind k f number → Three f number)
    → FirstFalse (record_places f entity item k number ++ (obligation rule.Twice (entry_number entity) item (¬ Contains known number) ∷ more)) x
    → Broken f x ⊎ (NamesKind k f number × FirstFalse more x)
named_level f entity item k number known more x s twice three h =
    ⊎_elim
    (λ front. inl (record_false f entity item k number x s front))
    (λ rest.
    let nk : NamesKind k f number = rest.0.1.0 in
    ⊎_elim
    (λ a. inl (subst (Broken f) (sym a.1) (breaks_by f (fail rule.Twice (entry_number entity) item) _ twice (subst (Three f) (sym s.there) (three nk)))))
    (λ b. inr (nk, b.1))
    rest.1)
    (false_either (record_places f entity item k number) (obligation rule.Twice (entry_number entity) item (¬ Contains known number) ∷ more) x h)

-- ---- an index

index_false : (f : Contents) (e item place : ℕ) (number index : ℤ) (count : ℕ) → bad_value f (fail rule.BadIndex e item) ≡ value_at place None
    → int_at (values_of f (pos e)) place ≡ index → int_at (values_of f (pos e)) (place - 1) ≡ number → item_count f number ≡ count → ¬ IsIndex index count
    → Broken f (fail rule.BadIndex e item)
index_false f e item place number index count b i n c broken =
    breaks_by f (fail rule.BadIndex e item) _ b
    (λ h. broken (subst (λ m. IsIndex index m) (ap (item_count f) n ∙ c)
    (subst (λ z. IsIndex z (item_count f (int_at (values_of f (pos e)) (place - 1)))) i h)))

item_false : (f : Contents) (entity : ℤ) (item : ℕ) (k : EntityKind) (number index : ℤ) (count : ℕ) (x : Failing) → Site f (entry_number entity) item k number
    → (¬ IsIndex index count → Broken f (fail rule.BadIndex (entry_number entity) item)) → FirstFalse (item_places f entity item k number index count) x
    → Broken f x
item_false f entity item k number index count x s bad h =
    ⊎_elim
    (λ front. record_false f entity item k number x s front)
    (λ rest. ⊎_elim (λ a. subst (Broken f) (sym a.1) (bad a.0)) (λ b. absurd b.1) rest.1)
    (false_either (record_places f entity item k number) (obligation rule.BadIndex (entry_number entity) item (IsIndex index count) ∷ []) x h)

vertices_counted : (f : Contents) (z : ℤ) → item_count f z ≡ length (told vertices f z)
vertices_counted f z = sym (items_length vertex_read 3 (count_at (values_of f z) 0) (drop 1 (values_of f z)))

edges_counted : (f : Contents) (z : ℤ) → item_count f z ≡ length (told edges f z)
edges_counted f z = sym (items_length edge_read 5 (count_at (values_of f z) 0) (drop 1 (values_of f z)))

-- ---- an edge of a list

edge_bad : (f : Contents) (m i : ℕ) (t : EdgeTuple) (r : Rule) → HasRecordOf edges f (pos m) → slice_get (told edges f (pos m)) i ≡ Some t
    → in_edges f r (suc i - 1) (told_in edges (values_of f (pos m))) ≡ in_edge f r (1 + 5 * i) (Some t)
edge_bad f m i t r hr there =
    let less : suc i - 1 ≡ i = omega arith in
    ap (λ j. in_edges f r j (told_in edges (values_of f (pos m)))) less ∙ ap (in_edges f r i) (told_here f (pos m) edges hr)
    ∙ ap (in_edge f r (1 + 5 * i)) there

abbrev list_due : ℕ → BadValue
list_due place = value_at place (Some (due.Record vertices))

start_site : (f : Contents) (m i : ℕ) (t : EdgeTuple) → NamesKind edges f (pos m) → HasRecordOf edges f (pos m) → slice_get (told edges f (pos m)) i ≡ Some t
    → Site f m (suc i) vertices t.start_list
start_site f m i t nk hr there = record {
  place = Some (1 + 5 * i + 1);
  entry = λ broken. bad_at f m edges rule.NoEntry (suc i) nk (not_number rule.NoEntry m i) ∙ edge_bad f m i t rule.NoEntry hr there
      ∙ ap (λ b. list_due (if b then 1 + 5 * i + 3 else 1 + 5 * i + 1)) (no_entry f t.start_list broken);
  kind_due = λ broken. bad_at f m edges rule.WrongKind (suc i) nk (not_number rule.WrongKind m i) ∙ edge_bad f m i t rule.WrongKind hr there
      ∙ ap (λ b. list_due (if b then 1 + 5 * i + 3 else 1 + 5 * i + 1)) (no_vertex_list f t.start_list broken);
  there = edge_start (values_of f (pos m)) i t there;
}

start_index : (f : Contents) (m i : ℕ) (t : EdgeTuple) → NamesKind edges f (pos m) → HasRecordOf edges f (pos m) → slice_get (told edges f (pos m)) i ≡ Some t
    → ¬ IsIndex t.start_index (length (told vertices f t.start_list)) → Broken f (fail rule.BadIndex m (suc i))
start_index f m i t nk hr there broken =
    let counted = vertices_counted f t.start_list in
    let none : ¬ IsIndex t.start_index (item_count f t.start_list) = λ h. broken (subst (λ n. IsIndex t.start_index n) counted h) in
    let before : 1 + 5 * i + 2 - 1 ≡ 1 + 5 * i + 1 = omega arith in
    index_false f m (suc i) (1 + 5 * i + 2) t.start_list t.start_index (length (told vertices f t.start_list))
    (bad_at f m edges rule.BadIndex (suc i) nk (not_number rule.BadIndex m i) ∙ edge_bad f m i t rule.BadIndex hr there
    ∙ ap (λ b. value_at (if b then 1 + 5 * i + 4 else 1 + 5 * i + 2) None) (no_index t.start_index (item_count f t.start_list) none))
    (edge_start_index (values_of f (pos m)) i t there)
    (ap (int_at (values_of f (pos m))) before ∙ edge_start (values_of f (pos m)) i t there) counted broken

end_site : (f : Contents) (m i : ℕ) (t : EdgeTuple) → NamesKind edges f (pos m) → HasRecordOf edges f (pos m) → slice_get (told edges f (pos m)) i ≡ Some t
    → NamesKind vertices f t.start_list → Site f m (suc i) vertices t.end_list
end_site f m i t nk hr there start = record {
  place = Some (1 + 5 * i + 3);
  entry = λ broken. bad_at f m edges rule.NoEntry (suc i) nk (not_number rule.NoEntry m i) ∙ edge_bad f m i t rule.NoEntry hr there
      ∙ ap (λ b. list_due (if b then 1 + 5 * i + 3 else 1 + 5 * i + 1)) (an_entry f t.start_list (named_there f t.start_list vertices start));
  kind_due = λ broken. bad_at f m edges rule.WrongKind (suc i) nk (not_number rule.WrongKind m i) ∙ edge_bad f m i t rule.WrongKind hr there
      ∙ ap (λ b. list_due (if b then 1 + 5 * i + 3 else 1 + 5 * i + 1)) (a_vertex_list f t.start_list start);
  there = edge_end (values_of f (pos m)) i t there;
}

end_index : (f : Contents) (m i : ℕ) (t : EdgeTuple) → NamesKind edges f (pos m) → HasRecordOf edges f (pos m) → slice_get (told edges f (pos m)) i ≡ Some t
    → IsIndex t.start_index (length (told vertices f t.start_list)) → ¬ IsIndex t.end_index (length (told vertices f t.end_list))
    → Broken f (fail rule.BadIndex m (suc i))
end_index f m i t nk hr there start broken =
    let some : IsIndex t.start_index (item_count f t.start_list) = subst (λ n. IsIndex t.start_index n) (sym (vertices_counted f t.start_list)) start in
    let before : 1 + 5 * i + 4 - 1 ≡ 1 + 5 * i + 3 = omega arith in
    index_false f m (suc i) (1 + 5 * i + 4) t.end_list t.end_index (length (told vertices f t.end_list))
    (bad_at f m edges rule.BadIndex (suc i) nk (not_number rule.BadIndex m i) ∙ edge_bad f m i t rule.BadIndex hr there
    ∙ ap (λ b. value_at (if b then 1 + 5 * i + 4 else 1 + 5 * i + 2) None) (an_index t.start_index (item_count f t.start_list) some))
    (edge_end_index (values_of f (pos m)) i t there)
    (ap (int_at (values_of f (pos m))) before ∙ edge_end (values_of f (pos m)) i t there) (vertices_counted f t.end_list) broken

one_edge : (f : Contents) (m i : ℕ) (x : Failing) (o : Option EdgeTuple) → NamesKind edges f (pos m) → HasRecordOf edges f (pos m)
    → slice_get (told edges f (pos m)) i ≡ o
    → FirstFalse (edge_places f (pos m) (suc i) o) x → Broken f x
one_edge f m i x None nk hr there h = absurd h
one_edge f m i x (Some t) nk hr there h =
    let geometry = obligation rule.BadGeometry m (suc i) (NamesGeometry f t.curve) ∷ [] in
    let start = item_places f (pos m) (suc i) vertices t.start_list t.start_index (length (told vertices f t.start_list)) in
    let end = item_places f (pos m) (suc i) vertices t.end_list t.end_index (length (told vertices f t.end_list)) in
    ⊎_elim
    (λ front. ⊎_elim
    (λ g. ⊎_elim
    (λ a. subst (Broken f) (sym a.1) (breaks_by f (fail rule.BadGeometry m (suc i)) _
    (bad_at f m edges rule.BadGeometry (suc i) nk (not_number rule.BadGeometry m i) ∙ edge_bad f m i t rule.BadGeometry hr there)
    (λ n. a.0 (subst (NamesGeometry f) (edge_curve (values_of f (pos m)) i t there) n))))
    (λ b. absurd b.1)
    g)
    (λ s. item_false f (pos m) (suc i) vertices t.start_list t.start_index (length (told vertices f t.start_list)) x (start_site f m i t nk hr there)
    (start_index f m i t nk hr there) s.1)
    (false_either geometry start x front))
    (λ rest.
    let held = AllHold-append_right geometry start rest.0 in
    item_false f (pos m) (suc i) vertices t.end_list t.end_index (length (told vertices f t.end_list)) x (end_site f m i t nk hr there held.1.0)
    (end_index f m i t nk hr there held.1.1.1.0) rest.1)
    (false_either (geometry ++ start) end x h)

edge_false : (f : Contents) (e index : ℤ) (count : ℕ) (x : Failing) → NamesKind edges f e → HasRecordOf edges f e → IsIndex index count
    → FirstFalse (edge_places f e (entry_number index) (edge_at f e (entry_number index))) x → Broken f x
edge_false f (negsuc m) index count x nk hr i h = absurd nk
edge_false f (pos m) (negsuc j) count x nk hr i h = absurd (let e : negsuc j ≡ pos i.0 = i.1 in cc)
edge_false f (pos m) (pos zero) count x nk hr i h =
    absurd (let e : pos zero ≡ pos i.0 = i.1 in let same : zero ≡ i.0 = cc in let low = i.2 in omega (arith, same, low))
edge_false f (pos m) (pos (suc j)) count x nk hr i h =
    let less : suc j - 1 ≡ j = omega arith in
    one_edge f m j x (edge_at f (pos m) (suc j)) nk hr (ap (slice_get (told edges f (pos m))) (sym less)) h

-- ---- a tuple of a loop

tuple_bad : (f : Contents) (m i : ℕ) (t : LoopTuple) (r : Rule) → HasRecordOf «loop» f (pos m) → slice_get (tuples f (pos m)) i ≡ Some t
    → in_tuples f r (suc i - 1) (told_in «loop» (values_of f (pos m))) ≡ in_tuple f r (tuple_place (tuples f (pos m)) i) (Some t)
tuple_bad f m i t r hr there =
    let less : suc i - 1 ≡ i = omega arith in
    ap (λ j. in_tuples f r j (told_in «loop» (values_of f (pos m)))) less ∙ ap (in_tuples f r i) (told_here f (pos m) «loop» hr)
    ∙ ap (in_tuple f r (tuple_place (tuples f (pos m)) i)) there

abbrev list_kind : Bool → EntityKind
list_kind b = if b then vertices else edges

tuple_site : (f : Contents) (m i : ℕ) (t : LoopTuple) → NamesKind «loop» f (pos m) → HasRecordOf «loop» f (pos m) → slice_get (tuples f (pos m)) i ≡ Some t
    → Site f m (suc i) (list_kind t.is_vertex) t.«list»
tuple_site f m i t nk hr there = record {
  place = Some (tuple_place (tuples f (pos m)) i + 1);
  entry = λ broken. bad_at f m «loop» rule.NoEntry (suc i) nk (not_number rule.NoEntry m i) ∙ tuple_bad f m i t rule.NoEntry hr there;
  kind_due = λ broken. bad_at f m «loop» rule.WrongKind (suc i) nk (not_number rule.WrongKind m i) ∙ tuple_bad f m i t rule.WrongKind hr there;
  there = tuple_list (values_of f (pos m)) (tuple_place (tuples f (pos m)) i) t (loop_tuple (values_of f (pos m)) i t there);
}

tuple_index_false : (f : Contents) (m i : ℕ) (t : LoopTuple) (count : ℕ) → NamesKind «loop» f (pos m) → HasRecordOf «loop» f (pos m)
    → slice_get (tuples f (pos m)) i ≡ Some t
    → item_count f t.«list» ≡ count → ¬ IsIndex t.index count → Broken f (fail rule.BadIndex m (suc i))
tuple_index_false f m i t count nk hr there counted broken =
    let vs = values_of f (pos m) in
    let at = tuple_place (tuples f (pos m)) i in
    let read = loop_tuple vs i t there in
    let before : at + 2 - 1 ≡ at + 1 = omega arith in
    index_false f m (suc i) (at + 2) t.«list» t.index count
    (bad_at f m «loop» rule.BadIndex (suc i) nk (not_number rule.BadIndex m i) ∙ tuple_bad f m i t rule.BadIndex hr there)
    (tuple_index vs at t read) (ap (int_at vs) before ∙ tuple_list vs at t read) counted broken

curves_false : (f : Contents) (m i : ℕ) (t : LoopTuple) → NamesKind «loop» f (pos m) → HasRecordOf «loop» f (pos m) → slice_get (tuples f (pos m)) i ≡ Some t
    → ¬ All (λ (c : Bool × ℤ). NamesGeometry f c.1) t.curves → Broken f (fail rule.BadGeometry m (suc i))
curves_false f m i t nk hr there broken =
    let vs = values_of f (pos m) in
    let at = tuple_place (tuples f (pos m)) i in
    let b = bad_curve f t.curves broken in
    let none : 0 + b.place ≡ b.place = omega arith in
    breaks_by f (fail rule.BadGeometry m (suc i)) (value_at (at + 6 + 2 * b.place) (Some due.Geometry))
    (bad_at f m «loop» rule.BadGeometry (suc i) nk (not_number rule.BadGeometry m i) ∙ tuple_bad f m i t rule.BadGeometry hr there
    ∙ ap (λ o. value_at (at + 6 + 2 * unwrap_or o 0) (Some due.Geometry)) (b.found ∙ ap Some none))
    (λ h. b.bad (subst (NamesGeometry f) (tuple_curve vs at b.place t b.curve (loop_tuple vs i t there) b.there) h))

used_false : (f : Contents) (m i : ℕ) (t : LoopTuple) (x : Failing) (v : Bool) → NamesKind «loop» f (pos m) → HasRecordOf «loop» f (pos m)
    → slice_get (tuples f (pos m)) i ≡ Some t → t.is_vertex ≡ v
    → FirstFalse (used_places f (pos m) (suc i) t.«list» t.index v) x → Broken f x
used_false f m i t x true nk hr there e h =
    item_false f (pos m) (suc i) vertices t.«list» t.index (length (told vertices f t.«list»)) x
    (subst (λ b. Site f m (suc i) (list_kind b) t.«list») e (tuple_site f m i t nk hr there))
    (tuple_index_false f m i t (length (told vertices f t.«list»)) nk hr there (vertices_counted f t.«list»)) h
used_false f m i t x false nk hr there e h =
    let count = length (told edges f t.«list») in
    let place = item_places f (pos m) (suc i) edges t.«list» t.index count in
    ⊎_elim
    (λ front. item_false f (pos m) (suc i) edges t.«list» t.index count x
    (subst (λ b. Site f m (suc i) (list_kind b) t.«list») e (tuple_site f m i t nk hr there))
    (tuple_index_false f m i t count nk hr there (edges_counted f t.«list»)) front)
    (λ rest. edge_false f t.«list» t.index count x rest.0.1.0 rest.0.1.1.0 rest.0.1.1.1.0 rest.1)
    (false_either place (edge_places f t.«list» (entry_number t.index) (edge_at f t.«list» (entry_number t.index))) x h)

tuple_false : (f : Contents) (m i : ℕ) (t : LoopTuple) (x : Failing) → NamesKind «loop» f (pos m) → HasRecordOf «loop» f (pos m)
    → slice_get (tuples f (pos m)) i ≡ Some t → FirstFalse (tuple_at f (pos m) (suc i) t) x → Broken f x
tuple_false f m i t x nk hr there h =
    ⊎_elim
    (λ front. used_false f m i t x t.is_vertex nk hr there refl front)
    (λ rest. ⊎_elim (λ a. subst (Broken f) (sym a.1) (curves_false f m i t nk hr there a.0)) (λ b. absurd b.1) rest.1)
    (false_either (used_places f (pos m) (suc i) t.«list» t.index t.is_vertex)
    (obligation rule.BadGeometry m (suc i) (All (λ (c : Bool × ℤ). NamesGeometry f c.1) t.curves) ∷ []) x h)

tuples_false : (f : Contents) (l : ℤ) (x : Failing) → NamesKind «loop» f l → HasRecordOf «loop» f l
    → FirstFalse (after_each (tuple_places f l) [] (tuples f l)) x → Broken f x
unfolding tuple_places
tuples_false f (negsuc m) x nk hr h = absurd nk
tuples_false f (pos m) x nk hr h =
    let a = at_item (tuple_places f (pos m)) [] (tuples f (pos m)) x h in
    let counted = a.counted in
    let place : length a.before + 1 ≡ suc a.place = omega (arith, counted) in
    tuple_false f m a.place a.item x nk hr a.there (subst (λ p. FirstFalse (tuple_at f (pos m) p a.item) x) place a.false_here)

-- ---- loops of a face, faces of a shell, shells of a solid

pub loop_place : (i : ℕ) (d : Option Due) → value_at (if suc i == 0 then 0 else suc i + 2) d ≡ value_at (suc i + 2) d
loop_place i d = ap (λ b. value_at (if b then 0 else suc i + 2) d) (not_zero i)

loop_site : (f : Contents) (m i : ℕ) (l : ℤ) → NamesKind face f (pos m) → slice_get (loops f (pos m)) i ≡ Some l → Site f m (suc i) «loop» l
loop_site f m i l nk there = record {
  place = Some (suc i + 2);
  entry = λ broken. bad_at f m face rule.NoEntry (suc i) nk (not_number rule.NoEntry m i) ∙ loop_place i (Some (due.Record «loop»));
  kind_due = λ broken. bad_at f m face rule.WrongKind (suc i) nk (not_number rule.WrongKind m i) ∙ loop_place i (Some (due.Record «loop»));
  there = face_item (values_of f (pos m)) i l there;
}

loop_false : (f : Contents) (m i : ℕ) (known : List ℤ) (l : ℤ) (x : Failing) → NamesKind face f (pos m) → slice_get (loops f (pos m)) i ≡ Some l
    → FirstFalse (loop_at f (pos m) (suc i) known l) x → Broken f x
unfolding loop_site
loop_false f m i known l x nk there h =
    let place = record_places f (pos m) (suc i) «loop» l in
    let once = obligation rule.Twice m (suc i) (¬ Contains known l) ∷ [] in
    ⊎_elim
    (λ front. ⊎_elim (λ b. b) (λ n. absurd n.1)
    (named_level f (pos m) (suc i) «loop» l known [] x (loop_site f m i l nk there)
    (bad_at f m face rule.Twice (suc i) nk (not_number rule.Twice m i) ∙ loop_place i None) (λ n. inr (inr n)) front))
    (λ rest. let held = AllHold-append_left place once rest.0 in tuples_false f l x held.1.0 held.1.1.0 rest.1)
    (false_either (place ++ once) (after_each (tuple_places f l) [] (tuples f l)) x h)

loops_false : (f : Contents) (c : ℤ) (used : List ℤ) (x : Failing) → NamesKind face f c → FirstFalse (after_each (loop_places f c used) [] (loops f c)) x
    → Broken f x
unfolding loop_places
loops_false f (negsuc m) used x nk h = absurd nk
loops_false f (pos m) used x nk h =
    let a = at_item (loop_places f (pos m) used) [] (loops f (pos m)) x h in
    let counted = a.counted in
    let place : length a.before + 1 ≡ suc a.place = omega (arith, counted) in
    loop_false f m a.place (used ++ a.before) a.item x nk a.there (subst (λ p. FirstFalse (loop_at f (pos m) p (used ++ a.before) a.item) x) place a.false_here)

surface_false : (f : Contents) (c : ℤ) → NamesKind face f c → ¬ (let items = told face f c in NamesGeometry f items.surface)
    → Broken f (fail rule.BadGeometry (entry_number c) 0)
surface_false f (negsuc m) nk broken = absurd nk
surface_false f (pos m) nk broken = breaks_by f (fail rule.BadGeometry m 0) (value_at 0 (Some due.Geometry)) (bad_at f m face rule.BadGeometry 0 nk refl) broken

face_site : (f : Contents) (m i : ℕ) (c : ℤ × Bool) → NamesKind shell f (pos m) → slice_get (faces f (pos m)) i ≡ Some c → Site f m (suc i) face c.0
face_site f m i c nk there = record {
  place = Some (2 * suc i - 1);
  entry = λ broken. bad_at f m shell rule.NoEntry (suc i) nk (not_number rule.NoEntry m i);
  kind_due = λ broken. bad_at f m shell rule.WrongKind (suc i) nk (not_number rule.WrongKind m i);
  there = shell_item (values_of f (pos m)) i c there;
}

face_false : (f : Contents) (m i : ℕ) (known : List ℤ) (c : ℤ × Bool) (x : Failing) → NamesKind shell f (pos m) → slice_get (faces f (pos m)) i ≡ Some c
    → FirstFalse (face_at f (pos m) (suc i) known c.0) x → Broken f x
unfolding face_site
face_false f m i known c x nk there h =
    let place = record_places f (pos m) (suc i) face c.0 in
    let surface = obligation rule.BadGeometry (entry_number c.0) 0 (let items = told face f c.0 in NamesGeometry f items.surface) ∷ [] in
    let once = obligation rule.Twice m (suc i) (¬ Contains known c.0) ∷ surface in
    ⊎_elim
    (λ front. ⊎_elim (λ b. b) (λ n. ⊎_elim (λ a. subst (Broken f) (sym a.1) (surface_false f c.0 n.0 a.0)) (λ b. absurd b.1) n.1)
    (named_level f (pos m) (suc i) face c.0 known surface x (face_site f m i c nk there) (bad_at f m shell rule.Twice (suc i) nk (not_number rule.Twice m i))
    (λ n. inr (inl n)) front))
    (λ rest. let held = AllHold-append_left place once rest.0 in loops_false f c.0 (flat_map (loops f) known) x held.1.0 rest.1)
    (false_either (place ++ once) (after_each (loop_places f c.0 (flat_map (loops f) known)) [] (loops f c.0)) x h)

faces_false : (f : Contents) (s : ℤ) (used : List ℤ) (x : Failing) → NamesKind shell f s → FirstFalse (after_each (face_places f s used) [] (faces f s)) x
    → Broken f x
unfolding face_places
faces_false f (negsuc m) used x nk h = absurd nk
faces_false f (pos m) used x nk h =
    let a = at_item (face_places f (pos m) used) [] (faces f (pos m)) x h in
    let counted = a.counted in
    let place : length a.before + 1 ≡ suc a.place = omega (arith, counted) in
    face_false f m a.place (used ++ numbers a.before) a.item x nk a.there
    (subst (λ p. FirstFalse (face_at f (pos m) p (used ++ numbers a.before) a.item.0) x) place a.false_here)

shell_site : (f : Contents) (n i : ℕ) (s : ℤ × Bool) → NamesKind solid f (pos n) → slice_get (shells f (pos n)) i ≡ Some s → Site f n (suc i) shell s.0
shell_site f n i s nk there = record {
  place = Some (if nat_lt (suc i) 2 then 0 else 2 * suc i - 1);
  entry = λ broken. bad_at f n solid rule.NoEntry (suc i) nk (not_number rule.NoEntry n i);
  kind_due = λ broken. bad_at f n solid rule.WrongKind (suc i) nk (not_number rule.WrongKind n i);
  there = solid_item (values_of f (pos n)) i s there;
}

shell_false : (f : Contents) (n i : ℕ) (known : List ℤ) (s : ℤ × Bool) (x : Failing) → NamesKind solid f (pos n) → slice_get (shells f (pos n)) i ≡ Some s
    → FirstFalse (shell_at f (pos n) (suc i) known s.0) x → Broken f x
unfolding shell_site
shell_false f n i known s x nk there h =
    let place = record_places f (pos n) (suc i) shell s.0 in
    let once = obligation rule.Twice n (suc i) (¬ Contains known s.0) ∷ [] in
    let used = flat_map (λ b. numbers (faces f b)) known in
    ⊎_elim
    (λ front. ⊎_elim (λ b. b) (λ m. absurd m.1)
    (named_level f (pos n) (suc i) shell s.0 known [] x (shell_site f n i s nk there) (bad_at f n solid rule.Twice (suc i) nk (not_number rule.Twice n i))
    (λ m. inl m) front))
    (λ rest. let held = AllHold-append_left place once rest.0 in faces_false f s.0 used x held.1.0 rest.1)
    (false_either (place ++ once) (after_each (face_places f s.0 used) [] (faces f s.0)) x h)

shells_false : (f : Contents) (n : ℕ) (x : Failing) → NamesKind solid f (pos n) → FirstFalse (after_each (shell_places f (pos n)) [] (shells f (pos n))) x
    → Broken f x
unfolding shell_places
shells_false f n x nk h =
    let a = at_item (shell_places f (pos n)) [] (shells f (pos n)) x h in
    let counted = a.counted in
    let place : length a.before + 1 ≡ suc a.place = omega (arith, counted) in
    shell_false f n a.place (numbers a.before) a.item x nk a.there
    (subst (λ p. FirstFalse (shell_at f (pos n) p (numbers a.before) a.item.0) x) place a.false_here)

-- the number that was asked for
asked : (f : Contents) (n : ℕ) → Site f n 0 solid (pos n)
asked f n = record {
  place = None;
  entry = λ broken. by_number f (fail rule.NoEntry n 0) refl;
  kind_due = λ broken. by_number f (fail rule.WrongKind n 0) refl;
  there = refl;
}

pub values_broken : (f : Contents) (n : ℕ) (x : Failing) → FirstFalse (places f n) x → Broken f x
unfolding places
values_broken f n x h =
    ⊎_elim
    (λ front. record_false f (pos n) 0 solid (pos n) x (asked f n) front)
    (λ rest. shells_false f n x rest.0.1.0 rest.1)
    (false_either (record_places f (pos n) 0 solid (pos n)) (after_each (shell_places f (pos n)) [] (shells f (pos n))) x h)
