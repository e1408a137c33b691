-- The records of loops, of edge lists and of vertex lists once unused items are dropped.
use Rattle.std.specs.Prelude.{◌≡◌, ◌⊎◌, ℕ, zero, suc, ◌<◌, ◌≤◌, List, length, map, flat_map, drop}
use Rattle.std.specs.List.{AllByRecursion, AllZip}
use Rattle.std.proofs.Common.{refl, sym, ◌∙◌, ap, subst, arith, inl, inr, length-append}
use Rattle.std.proofs.Math.Seq.{drop-append_seam}
use Rattle.std.proofs.lemmas.List.{length-map, length-drop}
use Rattle.iges_fields.specs.declared.value.Value.{Value}
use Rattle.iges_params.specs.Contents.{Contents}
use Rattle.brep_lists.specs.Record.{LoopTuple, Items, tuple_due, curve_due, due, items_of, Fits, IsRecordOf}
use Rattle.brep_lists.specs.declared.entity_kind.EntityKind.{EntityKind}
use Rattle.brep_lists.specs.declared.entity_kind.EntityKind.TheVariants.{Loop as «loop», EdgeList as edges, VertexList as vertices}
use Rattle.brep_lists.specs.OwnValues.{own_count}
use Rattle.brep_lists.specs.declared.edge_list.EdgeTuple.{EdgeTuple}
use Rattle.brep_lists.proofs.OnlyRead.{only_read}
use Rattle.solid_data.proofs.Members.{All-at, All-from}
use Rattle.entry_references.proofs.KindPlaces.{edges_length, vertices_length}
use Rattle.list_compact.specs.Used.{used_from, is_used_edge, is_used_vertex}
use Rattle.list_compact.specs.Dropped.{reindexed_tuple, reindexed_edge, spelled, with_items, kept_edges, kept_vertices, edge_values, vertex_values, loop_values}
use Rattle.list_compact.proofs.Ranks.{used_few, from_used}
use Rattle.list_compact.proofs.Spelled.{IsAlike, all_alike, tuples_alike, alike_length, indices_meet, indices_length, indices_rest, IsFixed, edges_fixed}
use Rattle.list_compact.proofs.Spelled.{vertices_fixed, rest_meets, IsSpelt, spelled_meet, edges_spelt, vertices_spelt, IsVertex, vertices_met, unless_some}
use Rattle.list_compact.proofs.Spelled.{unless_nothing}

-- The new values are a record of the kind with these items, not longer, and what follows the own values is as it was.
pub record IsRewritten (kind : EntityKind) (items : Items kind) (old new : List Value) : Type 0 where
  pub is : IsRecordOf kind new
  pub items_are : items_of kind new ≡ items
  pub few : length new ≤ length old
  pub rest : drop (own_count kind new) new ≡ drop (own_count kind old) old

-- ---- loops

pub tuple_alike : (g : Contents) (t : LoopTuple) → AllZip IsAlike (tuple_due t) (tuple_due (reindexed_tuple g t))
tuple_alike g t = let u = reindexed_tuple g t in (refl, (refl, ((u.index, refl), (refl, (refl, all_alike (flat_map curve_due t.curves))))))

pub loop_rewritten : (g : Contents) (vs : List Value) → IsRecordOf «loop» vs
    → IsRewritten «loop» (map (reindexed_tuple g) (items_of «loop» vs)) vs (loop_values g vs)
loop_rewritten g vs h =
    let ts : List LoopTuple = map (reindexed_tuple g) (items_of «loop» vs) in
    let alike : AllZip IsAlike (due «loop» (items_of «loop» vs)) (due «loop» (map (reindexed_tuple g) (items_of «loop» vs))) =
    tuples_alike (reindexed_tuple g) (tuple_alike g) (items_of «loop» vs) in
    let fits : Fits «loop» (loop_values g vs) (map (reindexed_tuple g) (items_of «loop» vs)) =
    indices_meet (due «loop» (items_of «loop» vs)) (due «loop» (map (reindexed_tuple g) (items_of «loop» vs))) vs alike h in
    let same : map (reindexed_tuple g) (items_of «loop» vs) ≡ items_of «loop» (loop_values g vs) =
    only_read «loop» (loop_values g vs) (map (reindexed_tuple g) (items_of «loop» vs)) fits in
    record {
      is = subst (Fits «loop» (loop_values g vs)) same fits;
      items_are = sym same;
      few = omega (arith, indices_length (due «loop» (map (reindexed_tuple g) (items_of «loop» vs))) vs);
      rest =
          ap (λ us. drop (length (due «loop» us)) (loop_values g vs)) (sym same)
          ∙ (indices_rest (due «loop» (map (reindexed_tuple g) (items_of «loop» vs))) vs
          ∙ ap (λ n. drop n vs) (sym (alike_length (due «loop» (items_of «loop» vs)) (due «loop» (map (reindexed_tuple g) (items_of «loop» vs))) alike)));
    }

-- ---- lists

-- fewer items in place of the own values
with_items_rewritten : (kind : EntityKind) (items : Items kind) (vs : List Value) → IsRecordOf kind vs → IsFixed (due kind (items_of kind vs))
    → IsFixed (due kind items) → AllByRecursion IsSpelt (due kind items)
    → length (due kind items) ≤ length (due kind (items_of kind vs)) → IsRewritten kind items vs (with_items kind items vs)
with_items_rewritten kind items vs h old_fixed fixed spelt less =
    let after = rest_meets (due kind (items_of kind vs)) vs old_fixed h in
    let rest : List Value = drop (own_count kind vs) vs in
    let fits : Fits kind (with_items kind items vs) items = spelled_meet (due kind items) (drop (own_count kind vs) vs) fixed spelt after.0 in
    let same : items ≡ items_of kind (with_items kind items vs) = only_read kind (with_items kind items vs) items fits in
    let long : length (map spelled (due kind items)) ≡ length (due kind items) = length-map (due kind items) spelled in
    record {
      is = subst (Fits kind (with_items kind items vs)) same fits;
      items_are = sym same;
      few = omega (arith, long, less, after.1, length-append (map spelled (due kind items)) (drop (own_count kind vs) vs), length-drop (own_count kind vs) vs);
      rest =
          ap (λ us. drop (length (due kind us)) (with_items kind items vs)) (sym same)
          ∙ (ap (λ n. drop n (with_items kind items vs)) (sym long)
          ∙ drop-append_seam (map spelled (due kind items)) (drop (own_count kind vs) vs));
    }

edges_due_few : (es us : List EdgeTuple) → length es ≤ length us → length (due edges es) ≤ length (due edges us)
edges_due_few es us le = omega (arith, edges_length es, edges_length us, le)

vertices_due_few : (es us : List (Value × Value × Value)) → length es ≤ length us → length (due vertices es) ≤ length (due vertices us)
vertices_due_few es us le = omega (arith, vertices_length es, vertices_length us, le)

pub edges_rewritten : (g : Contents) (e : ℕ) (vs : List Value) → IsRecordOf edges vs → 0 < length (kept_edges g e vs)
    → IsRewritten edges (kept_edges g e vs) vs (edge_values g e vs)
edges_rewritten g e vs h some =
    let few : length (kept_edges g e vs) ≤ length (items_of edges vs) =
    omega (arith, length-map (used_from (is_used_edge g e) 1 (items_of edges vs)) (reindexed_edge g), used_few (is_used_edge g e) 1 (items_of edges vs))
    in
    subst (IsRewritten edges (kept_edges g e vs) vs) (sym (unless_some (kept_edges g e vs) (with_items edges (kept_edges g e vs) vs) vs some))
    (with_items_rewritten edges (kept_edges g e vs) vs h (edges_fixed (items_of edges vs)) (edges_fixed (kept_edges g e vs))
    (edges_spelt (kept_edges g e vs) some) (edges_due_few (kept_edges g e vs) (items_of edges vs) few))

pub vertices_rewritten : (g : Contents) (v : ℕ) (vs : List Value) → IsRecordOf vertices vs → 0 < length (kept_vertices g v vs)
    → IsRewritten vertices (kept_vertices g v vs) vs (vertex_values g v vs)
vertices_rewritten g v vs h some =
    let all : AllByRecursion IsVertex (items_of vertices vs) = vertices_met (items_of vertices vs) vs h in
    let kept : AllByRecursion IsVertex (kept_vertices g v vs) =
    All-from IsVertex (kept_vertices g v vs)
    (λ x m. All-at IsVertex (items_of vertices vs) all x (from_used (is_used_vertex g v) 1 (items_of vertices vs) x m)) in
    subst (IsRewritten vertices (kept_vertices g v vs) vs) (sym (unless_some (kept_vertices g v vs) (with_items vertices (kept_vertices g v vs) vs) vs some))
    (with_items_rewritten vertices (kept_vertices g v vs) vs h (vertices_fixed (items_of vertices vs)) (vertices_fixed (kept_vertices g v vs))
    (vertices_spelt (kept_vertices g v vs) some kept)
    (vertices_due_few (kept_vertices g v vs) (items_of vertices vs) (used_few (is_used_vertex g v) 1 (items_of vertices vs))))

whole : (kind : EntityKind) (vs : List Value) → IsRecordOf kind vs → IsRewritten kind (items_of kind vs) vs vs
whole kind vs h = record { is = h; items_are = refl; few = omega arith; rest = refl }

zero_or : (n : ℕ) → (n ≡ 0) ⊎ (0 < n)
zero_or zero = inl refl
zero_or (suc n) = inr (omega arith)

-- whether or not an item is used
pub edges_either : (g : Contents) (e : ℕ) (vs : List Value) → IsRecordOf edges vs → (items : List EdgeTuple) × IsRewritten edges items vs (edge_values g e vs)
    × ((items ≡ kept_edges g e vs) ⊎ (items ≡ items_of edges vs))
edges_either g e vs h = by_count (zero_or (length (kept_edges g e vs)))
  where
    by_count : (length (kept_edges g e vs) ≡ 0) ⊎ (0 < length (kept_edges g e vs)) → (items : List EdgeTuple) × IsRewritten edges items vs (edge_values g e vs)
        × ((items ≡ kept_edges g e vs) ⊎ (items ≡ items_of edges vs))
    by_count (inl none) = (
      items_of edges vs,
      subst (IsRewritten edges (items_of edges vs) vs)
          (sym (unless_nothing (kept_edges g e vs) (with_items edges (kept_edges g e vs) vs) vs none)) (whole edges vs h),
      inr refl,
    )
    by_count (inr some) = (kept_edges g e vs, edges_rewritten g e vs h some, inl refl)

pub vertices_either : (g : Contents) (v : ℕ) (vs : List Value) → IsRecordOf vertices vs
    → (items : List (Value × Value × Value)) × IsRewritten vertices items vs (vertex_values g v vs)
vertices_either g v vs h = by_count (zero_or (length (kept_vertices g v vs)))
  where
    by_count : (length (kept_vertices g v vs) ≡ 0) ⊎ (0 < length (kept_vertices g v vs))
        → (items : List (Value × Value × Value)) × IsRewritten vertices items vs (vertex_values g v vs)
    by_count (inl none) = (
      items_of vertices vs,
      subst (IsRewritten vertices (items_of vertices vs) vs)
          (sym (unless_nothing (kept_vertices g v vs) (with_items vertices (kept_vertices g v vs) vs) vs none)) (whole vertices vs h),
    )
    by_count (inr some) = (kept_vertices g v vs, vertices_rewritten g v vs h some)
