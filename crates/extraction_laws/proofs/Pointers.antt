-- The pointers of the items of a record.
use Rattle.std.specs.Prelude.{ℕ, zero, suc, Bool, ℤ, List, [], ◌∷◌, ◌++◌, map, flat_map, slice_get}
use Rattle.std.specs.List.{AllByRecursion}
use Rattle.brep_lists.specs.DueValues.{DueValue, pointer, number, flag, at_least_one, count, coordinate}
use Rattle.brep_lists.specs.Record.{SolidItems, FaceItems, LoopTuple, pair_due, curve_due, tuple_due, edge_due, due}
use Rattle.brep_lists.specs.declared.entity_kind.EntityKind.TheVariants.{Solid as solid, Shell as shell, Face as face, Loop as «loop», EdgeList as edges}
use Rattle.brep_lists.specs.declared.edge_list.EdgeTuple.{EdgeTuple}
use Rattle.solid_data.proofs.Members.{OptionAll}
use Rattle.extraction_laws.proofs.Renames.{AllPointers}

pub all_get : {A : Type 0} (P : A → Type 0) (xs : List A) (k : ℕ) → AllByRecursion P xs → OptionAll P (slice_get xs k)
all_get P [] k h = tt
all_get P (x ∷ xs) zero h = h.0
all_get P (x ∷ xs) (suc k) h = all_get P xs k h.1

module _ (P : ℤ → Type 0) where
  pointers_parts : (ds es : List DueValue) → AllPointers P (ds ++ es) → AllPointers P ds × AllPointers P es
  pointers_parts [] es h = (tt, h)
  pointers_parts (pointer z ∷ ds) es h = let parts = pointers_parts ds es h.1 in ((h.0, parts.0), parts.1)
  pointers_parts (number z ∷ ds) es h = pointers_parts ds es h
  pointers_parts (flag b ∷ ds) es h = pointers_parts ds es h
  pointers_parts (at_least_one n ∷ ds) es h = pointers_parts ds es h
  pointers_parts (count n ∷ ds) es h = pointers_parts ds es h
  pointers_parts (coordinate w ∷ ds) es h = pointers_parts ds es h

  each_pointed : {A : Type 0} (d : A → List DueValue) (Q : A → Type 0) → ((x : A) → AllPointers P (d x) → Q x) → (xs : List A) → AllPointers P (flat_map d xs)
      → AllByRecursion Q xs
  each_pointed d Q one [] h = tt
  each_pointed d Q one (x ∷ xs) h = let parts = pointers_parts (d x) (flat_map d xs) h in (one x parts.0, each_pointed d Q one xs parts.1)

  abbrev pub PointedPair : ℤ × Bool → Type 0
  PointedPair p = P p.0

  abbrev pub PointedCurve : Bool × ℤ → Type 0
  PointedCurve c = P c.1

  pub record PointedTuple (t : LoopTuple) : Type 0 where
    pub names : P t.«list»
    pub curves : AllByRecursion PointedCurve t.curves

  pub record PointedEdge (t : EdgeTuple) : Type 0 where
    pub curve : P t.curve
    pub start : P t.start_list
    pub end : P t.end_list

  pub pairs_pointed : (ps : List (ℤ × Bool)) → AllPointers P (flat_map pair_due ps) → AllByRecursion PointedPair ps
  pairs_pointed ps h = each_pointed pair_due PointedPair (λ p k. k.0) ps h

  pub shells_pointed : (s : SolidItems) → AllPointers P (due solid s) → AllByRecursion PointedPair (s.outer ∷ s.voids)
  shells_pointed s h = (h.0, pairs_pointed s.voids h.1)

  pub faces_pointed : (ps : List (ℤ × Bool)) → AllPointers P (due shell ps) → AllByRecursion PointedPair ps
  faces_pointed ps h = pairs_pointed ps h

  loops_each : (zs : List ℤ) → AllPointers P (map pointer zs) → AllByRecursion P zs
  loops_each [] h = tt
  loops_each (z ∷ zs) h = (h.0, loops_each zs h.1)

  pub loops_pointed : (c : FaceItems) → AllPointers P (due face c) → AllByRecursion P c.loops
  loops_pointed c h = loops_each c.loops h.1

  pub tuples_pointed : (ts : List LoopTuple) → AllPointers P (due «loop» ts) → AllByRecursion PointedTuple ts
  tuples_pointed ts h = each_pointed tuple_due PointedTuple
      (λ t k. record { names = k.0; curves = each_pointed curve_due PointedCurve (λ c m. m.0) t.curves k.1 }) ts h

  pub edges_pointed : (ts : List EdgeTuple) → AllPointers P (due edges ts) → AllByRecursion PointedEdge ts
  edges_pointed ts h = each_pointed edge_due PointedEdge (λ t k. record { curve = k.0; start = k.1.0; end = k.1.1.0 }) ts h
