-- The file of dropped records, one entry at a time.
use Rattle.std.specs.Prelude.{◌≡◌, ℕ, ◌+◌, ◌*◌, ◌≤◌, Bool, true, false, if◌then◌else◌, ℤ, pos, List, [], ◌∷◌, ◌++◌, length, map, take, drop, Some, slice_get}
use Rattle.std.specs.List.{AllByRecursion, AllZip, enumerate_from}
use Rattle.std.proofs.Common.{refl, sym, ◌∙◌, ap, subst, arith, inl, inr}
use Rattle.std.proofs.lemmas.List.{map-append, take-append-drop, take_all}
use Rattle.std.proofs.lemmas.List.FromFn.{length-enumerate_from}
use Rattle.std.proofs.lemmas.List.Sums.{sum_by-cons, sum_by-append}
use Rattle.iges_fields.specs.declared.value.Value.{Value}
use Rattle.iges_params.specs.Contents.{Contents, value_count}
use Rattle.iges_params.specs.Made.{IsMade}
use Rattle.iges_params.specs.Named.{named}
use Rattle.brep_walk.specs.Places.{places}
use Rattle.solid_data.specs.Obligations.{AllHold, FirstFalse}
use Rattle.solid_data.specs.declared.verdict.Failing.{Failing}
use Rattle.entry_references.specs.declared.fault.ExtractReason.{ExtractReason}
use Rattle.solid_extract.specs.Extracted.{new_record, IsExtracted, IsExtractedAs, IsRefused}
use Rattle.solid_extract.proofs.NewNumbers.{has_kind}
use Rattle.brep_lists.specs.Record.{items_of}
use Rattle.brep_lists.specs.declared.entity_kind.EntityKind.TheVariants.{EdgeList as edges, VertexList as vertices}
use Rattle.solid_data.proofs.Members.{Has, All-at}
use Rattle.entry_references.specs.Refs.{Record}
use Rattle.iges_params.proofs.Copies.{one_more}
use Rattle.list_compact.specs.Used.{is_kind, edges_in, vertices_in, is_used_edge, is_used_vertex}
use Rattle.list_compact.specs.Dropped.{dropped_values, dropped_record, dropped}
use Rattle.list_compact.specs.Compacted.{IsCompacted, IsMisplaced}
use Rattle.list_compact.specs.Marking.{AreMarks, AreRecords, AreTables, HasType, IsOfItsKind, sizes, edge_sizes, vertex_sizes, ranks_of}
use Rattle.list_compact.proofs.DroppedEntries.{kind_is}
use Rattle.list_compact.proofs.DroppedMade.{counts_few, extracted_of_kind}
use Rattle.list_compact.proofs.NotRefused.{not_refused}
use Rattle.list_compact.proofs.ListSteps.{edge_room, vertex_room}
use Rattle.list_compact.proofs.RankSteps.{ranks_are, edges_covered, vertices_covered}

member_few : (rs : List Record) (r : Record) → Has rs r → length r.1 ≤ value_count rs
member_few [] r h = absurd h
member_few (q ∷ rs) r (inl e) = omega (arith, ap (λ (x : Record). length x.1) e, sum_by-cons (λ (x : Record). length x.1) q rs)
member_few (q ∷ rs) r (inr h) = let on : length r.1 ≤ value_count rs = member_few rs r h in omega (arith, on, sum_by-cons (λ (x : Record). length x.1) q rs)

edges_few : (r : Record) → IsOfItsKind r → length r.1 ≤ 164000000 → length (edges_in r) ≤ 164000000
edges_few r of_kind few = by_test (is_kind edges r) refl
  where
    by_test : (b : Bool) → is_kind edges r ≡ b → length (if b then items_of edges r.1 else []) ≤ 164000000
    by_test true t = omega (arith, edge_room r.1 (items_of edges r.1) (of_kind edges (kind_is edges r t)) refl few)
    by_test false t = omega arith

vertices_few : (r : Record) → IsOfItsKind r → length r.1 ≤ 164000000 → length (vertices_in r) ≤ 164000000
vertices_few r of_kind few = by_test (is_kind vertices r) refl
  where
    by_test : (b : Bool) → is_kind vertices r ≡ b → length (if b then items_of vertices r.1 else []) ≤ 164000000
    by_test true t = omega (arith, vertex_room r.1 (items_of vertices r.1) (of_kind vertices (kind_is vertices r t)) refl few)
    by_test false t = omega arith

rows_few : (count : Record → ℕ) (rows : List (List Bool)) (rs : List Record) → sizes rows ≡ map count rs → ((r : Record) → Has rs r → count r ≤ 164000000)
    → AllByRecursion (λ (row : List Bool). length row ≤ 164000000) rows
rows_few count [] rs e h = tt
rows_few count (row ∷ rows) [] e h = absurd cc
rows_few count (row ∷ rows) (r ∷ rs) e h =
    let here : length row ≡ count r = cc in
    let rest : sizes rows ≡ map count rs = cc in
    (omega (arith, here, h r (inl refl)), rows_few count rows rs rest (λ q m. h q (inr m)))

module _ (g : Contents) (records : AreRecords g) (made : IsMade g) where
  pub short : (r : Record) → Has g.entries r → length r.1 ≤ 164000000
  short r h = let most : value_count g.entries ≤ 164000000 = made.limits.values in omega (arith, most, member_few g.entries r h)

  pub edge_rows_few : (rows : List (List Bool)) → sizes rows ≡ edge_sizes g → AllByRecursion (λ (row : List Bool). length row ≤ 164000000) rows
  edge_rows_few rows e = rows_few (λ r. length (edges_in r)) rows g.entries e
      (λ r h. edges_few r (All-at IsOfItsKind g.entries records.of_kind r h) (short r h))

  pub vertex_rows_few : (rows : List (List Bool)) → sizes rows ≡ vertex_sizes g → AllByRecursion (λ (row : List Bool). length row ≤ 164000000) rows
  vertex_rows_few rows e =
      rows_few (λ r. length (vertices_in r)) rows g.entries e (λ r h. vertices_few r (All-at IsOfItsKind g.entries records.of_kind r h) (short r h))

  pub entry_room : (i : ℕ) (r : Record) (vs : List Value) (es : List Record) → slice_get (enumerate_from 0 g.entries) i ≡ Some (i, r)
      → vs ≡ dropped_values g (2 * i + 1) r → es ≡ map (dropped_record g) (take i (enumerate_from 0 g.entries)) → value_count es + length vs ≤ 164000000
  entry_room i r vs es at ev ee =
      let E : List (ℕ × Record) = enumerate_from 0 g.entries in
      let most : value_count g.entries ≤ 164000000 = made.limits.values in
      let whole : map (dropped_record g) (enumerate_from 0 g.entries) ≡ map (dropped_record g) (take (i + 1) (enumerate_from 0 g.entries))
      ++ map (dropped_record g) (drop (i + 1) (enumerate_from 0 g.entries)) =
      ap (map (dropped_record g)) (sym (take-append-drop (i + 1) (enumerate_from 0 g.entries)))
      ∙ map-append (dropped_record g) (take (i + 1) (enumerate_from 0 g.entries)) (drop (i + 1) (enumerate_from 0 g.entries)) in
      let front : map (dropped_record g) (take (i + 1) (enumerate_from 0 g.entries)) ≡ map (dropped_record g) (take i (enumerate_from 0 g.entries))
      ++ dropped_record g (i, r) ∷ [] =
      ap (map (dropped_record g)) (one_more (enumerate_from 0 g.entries) i (i, r) at) ∙ map-append (dropped_record g) (take i (enumerate_from 0 g.entries))
      ((i, r) ∷ []) in
      omega (
        arith,
        most,
        counts_few g 0 g.entries records.of_kind,
        ap value_count whole,
        sum_by-append (λ (x : Record). length x.1) (map (dropped_record g) (take (i + 1) (enumerate_from 0 g.entries)))
            (map (dropped_record g) (drop (i + 1) (enumerate_from 0 g.entries))),
        ap value_count front,
        sum_by-append (λ (x : Record). length x.1) (map (dropped_record g) (take i (enumerate_from 0 g.entries))) (dropped_record g (i, r) ∷ []),
        sum_by-cons (λ (x : Record). length x.1) (dropped_record g (i, r)) [],
        ap length ev,
        ap value_count ee,
      )

  pub tables_are : (e v : List (List Bool)) (re rv : List (List ℤ)) → sizes e ≡ edge_sizes g → sizes v ≡ vertex_sizes g → AreMarks e (is_used_edge g)
      → AreMarks v (is_used_vertex g) → re ≡ map (ranks_of 0) e → rv ≡ map (ranks_of 0) v → AreTables g re rv
  tables_are e v re rv es vs me mv ee ev =
      subst (λ (x : List (List ℤ)). AreTables g x rv) (sym ee)
      (subst (λ (x : List (List ℤ)). AreTables g (map (ranks_of 0) e) x) (sym ev) (record {
        edges_are = record { ranks = ranks_are e (is_used_edge g) me; covers = edges_covered g e es };
        vertices_are = record { ranks = ranks_are v (is_used_vertex g) mv; covers = vertices_covered g v vs };
      }))

pub all_put : (g : Contents) (es : List Record) (i : ℕ) → es ≡ map (dropped_record g) (take i (enumerate_from 0 g.entries)) → length g.entries ≤ i
    → es ≡ map (dropped_record g) (enumerate_from 0 g.entries)
all_put g es i put past =
    put ∙ ap (map (dropped_record g)) (take_all i (enumerate_from 0 g.entries) (omega (arith, past, length-enumerate_from 0 g.entries)))

pub whole_file : (g new : Contents) → new.start ≡ g.start → new.global ≡ g.global → new.entries ≡ map (dropped_record g) (enumerate_from 0 g.entries)
    → new ≡ dropped g
unfolding dropped
whole_file g new es eg ee = λ j. record { start = es j; global = eg j; entries = ee j }

-- ---- an extracted file

typed_records : (f g : Contents) (n : ℕ) → IsExtracted f n g → AllByRecursion HasType g.entries
typed_records f g n x = subst (AllByRecursion HasType) (sym x.entries) (each x.kept x.records x.each_named)
  where
    each : (ms : List ℕ) (rs : List Record) → AllZip (λ m r. named f (pos m) ≡ Some r) ms rs → AllByRecursion HasType (map (new_record f x.kept) rs)
    each [] [] z = tt
    each [] (r ∷ rs) z = absurd z
    each (m ∷ ms) [] z = absurd z
    each (m ∷ ms) (r ∷ rs) z = (has_kind f m r z.0, each ms rs z.1)

pub extracted_records : (f g : Contents) (n : ℕ) → IsExtracted f n g → AreRecords g
extracted_records f g n x = record { typed = typed_records f g n x; of_kind = extracted_of_kind f g n x }

pub not_refused_as : (f g d : Contents) (n k : ℕ) → IsExtractedAs f n g k → d ≡ dropped g → (entity : ℕ) (reason : ExtractReason) → IsRefused d k entity reason
    → ⊥
not_refused_as f g d n k x e entity reason h =
    not_refused f g n x.extracted entity reason (subst (λ m. IsRefused (dropped g) m entity reason) x.is (subst (λ c. IsRefused c k entity reason) e h))

pub compacted_is : (f g d new : Contents) (n k : ℕ) → IsExtractedAs f n g k → AllHold (places f n) → d ≡ dropped g → IsExtracted d k new → IsCompacted f n new
compacted_is f g d new n k x holds e h = record {
  «between» = g;
  extracted = x.extracted;
  places = holds;
  again = subst (λ m. IsExtracted (dropped g) m new) x.is (subst (λ c. IsExtracted c k new) e h);
}

pub misplaced_is : (f g : Contents) (n k : ℕ) (x : Failing) → IsExtractedAs f n g k → FirstFalse (places f n) x → IsMisplaced f n x
misplaced_is f g n k x e h = record { «between» = g; extracted = e.extracted; places = h }
