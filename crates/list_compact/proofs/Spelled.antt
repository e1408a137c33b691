-- Values that are due, in place of others.
use Rattle.std.specs.Prelude.{◌≡◌, suc, ◌<◌, ◌≤◌, ℤ, List, [], ◌∷◌, ◌++◌, length, map, flat_map, drop}
use Rattle.std.specs.List.{AllByRecursion, AllZip}
use Rattle.std.proofs.Common.{refl, sym, ap, subst, arith}
use Rattle.std.proofs.lemmas.List.{length-map}
use Rattle.iges_fields.specs.declared.value.Value.{Value}
use Rattle.brep_lists.specs.DueValues.{DueValue, pointer, number, flag, at_least_one, count, coordinate, IsCoordinate, MayBeMissing, MeetsAll}
use Rattle.brep_lists.specs.Record.{LoopTuple, tuple_due, edge_due, vertex_due, due}
use Rattle.brep_lists.specs.declared.entity_kind.EntityKind.TheVariants.{Loop as «loop», EdgeList as edges, VertexList as vertices}
use Rattle.brep_lists.specs.declared.edge_list.EdgeTuple.{EdgeTuple}
use Rattle.list_compact.specs.Dropped.{with_indices, spelled, unless_none}

-- ---- the same but for indices

abbrev pub IsAlike : DueValue → DueValue → Type 0
IsAlike (number y) e = (z : ℤ) × (e ≡ number z)
IsAlike (pointer y) e = e ≡ pointer y
IsAlike (flag b) e = e ≡ flag b
IsAlike (at_least_one n) e = e ≡ at_least_one n
IsAlike (count n) e = e ≡ count n
IsAlike (coordinate v) e = e ≡ coordinate v

alike_itself : (d : DueValue) → IsAlike d d
alike_itself (number y) = (y, refl)
alike_itself (pointer y) = refl
alike_itself (flag b) = refl
alike_itself (at_least_one n) = refl
alike_itself (count n) = refl
alike_itself (coordinate v) = refl

pub all_alike : (ds : List DueValue) → AllZip IsAlike ds ds
all_alike [] = tt
all_alike (d ∷ ds) = (alike_itself d, all_alike ds)

pub alike_append : (ds es us vs : List DueValue) → AllZip IsAlike ds us → AllZip IsAlike es vs → AllZip IsAlike (ds ++ es) (us ++ vs)
alike_append [] es [] vs h k = k
alike_append [] es (u ∷ us) vs h k = absurd h
alike_append (d ∷ ds) es [] vs h k = absurd h
alike_append (d ∷ ds) es (u ∷ us) vs h k = (h.0, alike_append ds es us vs h.1 k)

pub alike_length : (ds es : List DueValue) → AllZip IsAlike ds es → length ds ≡ length es
alike_length [] [] h = refl
alike_length [] (e ∷ es) h = absurd h
alike_length (d ∷ ds) [] h = absurd h
alike_length (d ∷ ds) (e ∷ es) h = ap suc (alike_length ds es h.1)

missing_alike : (d : DueValue) (ds : List DueValue) (e : DueValue) (es : List DueValue) → IsAlike d e → AllZip IsAlike ds es → MayBeMissing (d ∷ ds)
    → MayBeMissing (e ∷ es)
missing_alike (count n) [] e [] a z h = subst (λ x. MayBeMissing (x ∷ [])) (sym a) h
missing_alike (count n) [] e (x ∷ es) a z h = absurd z
missing_alike (count n) (x ∷ ds) e es a z h = absurd h
missing_alike (pointer y) ds e es a z h = absurd h
missing_alike (number y) ds e es a z h = absurd h
missing_alike (flag b) ds e es a z h = absurd h
missing_alike (at_least_one n) ds e es a z h = absurd h
missing_alike (coordinate v) ds e es a z h = absurd h

abbrev Met : List DueValue → List Value → DueValue → Type 0
Met es vs e = MeetsAll (e ∷ es) (with_indices (e ∷ es) vs)

-- what meets the one meets the other with its indices
pub indices_meet : (ds es : List DueValue) (vs : List Value) → AllZip IsAlike ds es → MeetsAll ds vs → MeetsAll es (with_indices es vs)
indices_meet [] [] vs z h = h
indices_meet [] (e ∷ es) vs z h = absurd z
indices_meet (d ∷ ds) [] vs z h = absurd z
indices_meet (d ∷ ds) (e ∷ es) [] z h = missing_alike d ds e es z.0 z.1 h
indices_meet (number y ∷ ds) (e ∷ es) (v ∷ vs) z h = subst (Met es (v ∷ vs)) (sym z.0.1) (refl, indices_meet ds es vs z.1 h.1)
indices_meet (pointer y ∷ ds) (e ∷ es) (v ∷ vs) z h = subst (Met es (v ∷ vs)) (sym z.0) (h.0, indices_meet ds es vs z.1 h.1)
indices_meet (flag b ∷ ds) (e ∷ es) (v ∷ vs) z h = subst (Met es (v ∷ vs)) (sym z.0) (h.0, indices_meet ds es vs z.1 h.1)
indices_meet (at_least_one n ∷ ds) (e ∷ es) (v ∷ vs) z h = subst (Met es (v ∷ vs)) (sym z.0) (h.0, indices_meet ds es vs z.1 h.1)
indices_meet (count n ∷ ds) (e ∷ es) (v ∷ vs) z h = subst (Met es (v ∷ vs)) (sym z.0) (h.0, indices_meet ds es vs z.1 h.1)
indices_meet (coordinate w ∷ ds) (e ∷ es) (v ∷ vs) z h = subst (Met es (v ∷ vs)) (sym z.0) (h.0, indices_meet ds es vs z.1 h.1)

pub indices_length : (es : List DueValue) (vs : List Value) → length (with_indices es vs) ≡ length vs
indices_length [] vs = refl
indices_length (e ∷ es) [] = refl
indices_length (number z ∷ es) (v ∷ vs) = ap suc (indices_length es vs)
indices_length (pointer z ∷ es) (v ∷ vs) = ap suc (indices_length es vs)
indices_length (flag b ∷ es) (v ∷ vs) = ap suc (indices_length es vs)
indices_length (at_least_one n ∷ es) (v ∷ vs) = ap suc (indices_length es vs)
indices_length (count n ∷ es) (v ∷ vs) = ap suc (indices_length es vs)
indices_length (coordinate w ∷ es) (v ∷ vs) = ap suc (indices_length es vs)

-- what follows stays
pub indices_rest : (es : List DueValue) (vs : List Value) → drop (length es) (with_indices es vs) ≡ drop (length es) vs
indices_rest [] vs = refl
indices_rest (e ∷ es) [] = refl
indices_rest (number z ∷ es) (v ∷ vs) = indices_rest es vs
indices_rest (pointer z ∷ es) (v ∷ vs) = indices_rest es vs
indices_rest (flag b ∷ es) (v ∷ vs) = indices_rest es vs
indices_rest (at_least_one n ∷ es) (v ∷ vs) = indices_rest es vs
indices_rest (count n ∷ es) (v ∷ vs) = indices_rest es vs
indices_rest (coordinate w ∷ es) (v ∷ vs) = indices_rest es vs

-- ---- tuples of loops under other indices

module _ (h : LoopTuple → LoopTuple) (kept : (t : LoopTuple) → AllZip IsAlike (tuple_due t) (tuple_due (h t))) where
  each_alike : (ts : List LoopTuple) → AllZip IsAlike (flat_map tuple_due ts) (flat_map tuple_due (map h ts))
  each_alike [] = tt
  each_alike (t ∷ ts) = alike_append (tuple_due t) (flat_map tuple_due ts) (tuple_due (h t)) (flat_map tuple_due (map h ts)) (kept t) (each_alike ts)

  pub tuples_alike : (ts : List LoopTuple) → AllZip IsAlike (due «loop» ts) (due «loop» (map h ts))
  tuples_alike ts = (ap (λ n. at_least_one n) (length-map ts h), each_alike ts)

-- ---- values that are due in place of others that were

-- no count that may be left out
abbrev pub IsFixed : List DueValue → Type 0
IsFixed [] = Unit {0}
IsFixed (count n ∷ ds) = ⊥
IsFixed (pointer z ∷ ds) = IsFixed ds
IsFixed (number z ∷ ds) = IsFixed ds
IsFixed (flag b ∷ ds) = IsFixed ds
IsFixed (at_least_one n ∷ ds) = IsFixed ds
IsFixed (coordinate w ∷ ds) = IsFixed ds

edges_each_fixed : (es : List EdgeTuple) → IsFixed (flat_map edge_due es)
edges_each_fixed [] = tt
edges_each_fixed (e ∷ es) = edges_each_fixed es

vertices_each_fixed : (vs : List (Value × Value × Value)) → IsFixed (flat_map vertex_due vs)
vertices_each_fixed [] = tt
vertices_each_fixed (v ∷ vs) = vertices_each_fixed vs

pub edges_fixed : (es : List EdgeTuple) → IsFixed (due edges es)
edges_fixed es = edges_each_fixed es

pub vertices_fixed : (vs : List (Value × Value × Value)) → IsFixed (due vertices vs)
vertices_fixed vs = vertices_each_fixed vs

pub rest_meets : (ds : List DueValue) (vs : List Value) → IsFixed ds → MeetsAll ds vs → MeetsAll [] (drop (length ds) vs) × (length ds ≤ length vs)
rest_meets [] vs f h = (h, omega arith)
rest_meets (count n ∷ ds) vs f h = absurd f
rest_meets (pointer z ∷ ds) [] f h = absurd h
rest_meets (number z ∷ ds) [] f h = absurd h
rest_meets (flag b ∷ ds) [] f h = absurd h
rest_meets (at_least_one n ∷ ds) [] f h = absurd h
rest_meets (coordinate w ∷ ds) [] f h = absurd h
rest_meets (pointer z ∷ ds) (v ∷ vs) f h = let k = rest_meets ds vs f h.1 in (k.0, omega (arith, k.1))
rest_meets (number z ∷ ds) (v ∷ vs) f h = let k = rest_meets ds vs f h.1 in (k.0, omega (arith, k.1))
rest_meets (flag b ∷ ds) (v ∷ vs) f h = let k = rest_meets ds vs f h.1 in (k.0, omega (arith, k.1))
rest_meets (at_least_one n ∷ ds) (v ∷ vs) f h = let k = rest_meets ds vs f h.1 in (k.0, omega (arith, k.1))
rest_meets (coordinate w ∷ ds) (v ∷ vs) f h = let k = rest_meets ds vs f h.1 in (k.0, omega (arith, k.1))

-- it can be spelled
abbrev pub IsSpelt : DueValue → Type 0
IsSpelt (at_least_one n) = 0 < n
IsSpelt (coordinate v) = IsCoordinate v
IsSpelt (pointer z) = Unit {0}
IsSpelt (number z) = Unit {0}
IsSpelt (flag b) = Unit {0}
IsSpelt (count n) = Unit {0}

pub spelled_meet : (ds : List DueValue) (rest : List Value) → IsFixed ds → AllByRecursion IsSpelt ds → MeetsAll [] rest → MeetsAll ds (map spelled ds ++ rest)
spelled_meet [] rest f s h = h
spelled_meet (count n ∷ ds) rest f s h = absurd f
spelled_meet (pointer z ∷ ds) rest f s h = (refl, spelled_meet ds rest f s.1 h)
spelled_meet (number z ∷ ds) rest f s h = (refl, spelled_meet ds rest f s.1 h)
spelled_meet (flag b ∷ ds) rest f s h = (refl, spelled_meet ds rest f s.1 h)
spelled_meet (at_least_one n ∷ ds) rest f s h = ((refl, s.0), spelled_meet ds rest f s.1 h)
spelled_meet (coordinate v ∷ ds) rest f s h = ((refl, s.0), spelled_meet ds rest f s.1 h)

edges_each_spelt : (es : List EdgeTuple) → AllByRecursion IsSpelt (flat_map edge_due es)
edges_each_spelt [] = tt
edges_each_spelt (e ∷ es) = (tt, (tt, (tt, (tt, (tt, edges_each_spelt es)))))

pub edges_spelt : (es : List EdgeTuple) → 0 < length es → AllByRecursion IsSpelt (due edges es)
edges_spelt es some = (some, edges_each_spelt es)

abbrev pub IsVertex : Value × Value × Value → Type 0
IsVertex v = IsCoordinate v.0 × IsCoordinate v.1 × IsCoordinate v.2

vertices_each_spelt : (vs : List (Value × Value × Value)) → AllByRecursion IsVertex vs → AllByRecursion IsSpelt (flat_map vertex_due vs)
vertices_each_spelt [] h = tt
vertices_each_spelt (v ∷ vs) h = (h.0.0, (h.0.1, (h.0.2, vertices_each_spelt vs h.1)))

pub vertices_spelt : (vs : List (Value × Value × Value)) → 0 < length vs → AllByRecursion IsVertex vs → AllByRecursion IsSpelt (due vertices vs)
vertices_spelt vs some h = (some, vertices_each_spelt vs h)

vertices_each_met : (xs : List (Value × Value × Value)) (vs : List Value) → MeetsAll (flat_map vertex_due xs) vs → AllByRecursion IsVertex xs
vertices_each_met [] vs h = tt
vertices_each_met (x ∷ xs) [] h = absurd h
vertices_each_met (x ∷ xs) (a ∷ []) h = absurd h.1
vertices_each_met (x ∷ xs) (a ∷ b ∷ []) h = absurd h.1.1
vertices_each_met (x ∷ xs) (a ∷ b ∷ c ∷ vs) h = ((h.0.1, h.1.0.1, h.1.1.0.1), vertices_each_met xs vs h.1.1.1)

-- the vertices of a record have coordinates
pub vertices_met : (xs : List (Value × Value × Value)) (vs : List Value) → MeetsAll (due vertices xs) vs → AllByRecursion IsVertex xs
vertices_met xs [] h = absurd h
vertices_met xs (v ∷ vs) h = vertices_each_met xs vs h.1

pub unless_some : {X : Type 0} (xs : List X) (new old : List Value) → 0 < length xs → unless_none xs new old ≡ new
unless_some [] new old some = absurd (omega (arith, some))
unless_some (x ∷ xs) new old some = refl

pub unless_nothing : {X : Type 0} (xs : List X) (new old : List Value) → length xs ≡ 0 → unless_none xs new old ≡ old
unless_nothing [] new old e = refl
unless_nothing (x ∷ xs) new old e = absurd (omega (arith, e))
