-- Values of records, one more at a time.
use Rattle.std.specs.Prelude.{◌≡◌, ℕ, zero, suc, ◌+◌, ◌-◌, ◌*◌, ◌^◌, ◌<◌, ◌≤◌, Bool, true, false, ℤ, List, [], ◌∷◌, ◌++◌, length, map, flat_map, take, drop}
use Rattle.std.specs.Prelude.{min, Some, slice_get}
use Rattle.std.proofs.Common.{refl, sym, ◌∙◌, ap, subst, arith, append_assoc, length-drop}
use Rattle.iges_fields.specs.declared.value.Value.{Value}
use Rattle.iges_params.specs.Contents.{Contents}
use Rattle.brep_lists.specs.DueValues.{DueValue, pointer, MeetsAll}
use Rattle.brep_lists.specs.Record.{LoopTuple, curve_due, tuple_due, due, items_of, IsRecordOf}
use Rattle.brep_lists.specs.declared.entity_kind.EntityKind.TheVariants.{Loop as «loop»}
use Rattle.brep_lists.specs.declared.edge_list.EdgeTuple.{EdgeTuple}
use Rattle.brep_lists.proofs.OnlyRead.{missing}
use Rattle.entry_references.proofs.KindPlaces.{due_few, tuple_length}
use Rattle.iges_params.proofs.Copies.{one_more}
use Rattle.list_compact.specs.Marking.{int_value, edge_spelled}
use Rattle.list_compact.specs.Dropped.{edge_index, vertex_index, tuple_index, reindexed_tuple, with_indices}

pub vertex_tuple : (g : Contents) (t : LoopTuple) (z j : ℤ) → z ≡ t.list → j ≡ t.index → t.is_vertex ≡ true
    → vertex_index g z j ≡ tuple_index g t.is_vertex t.list t.index
vertex_tuple g t z j ez ej v = ap (λ w. vertex_index g w j) ez ∙ (ap (vertex_index g t.list) ej ∙ sym (ap (λ b. tuple_index g b t.list t.index) v))

pub edge_tuple : (g : Contents) (t : LoopTuple) (z j : ℤ) → z ≡ t.list → j ≡ t.index → t.is_vertex ≡ false
    → edge_index g z j ≡ tuple_index g t.is_vertex t.list t.index
edge_tuple g t z j ez ej v = ap (λ w. edge_index g w j) ez ∙ (ap (edge_index g t.list) ej ∙ sym (ap (λ b. tuple_index g b t.list t.index) v))

-- ---- edges

pub pushed_edge : (x : EdgeTuple) (l0 l1 l2 l3 l4 l5 : List Value) (a b c d e : ℤ) → a ≡ x.curve → b ≡ x.start_list → c ≡ x.start_index → d ≡ x.end_list
    → e ≡ x.end_index
    → l1 ≡ l0 ++ int_value a ∷ [] → l2 ≡ l1 ++ int_value b ∷ [] → l3 ≡ l2 ++ int_value c ∷ [] → l4 ≡ l3 ++ int_value d ∷ [] → l5 ≡ l4 ++ int_value e ∷ []
    → l5 ≡ l0 ++ edge_spelled x
pushed_edge x l0 l1 l2 l3 l4 l5 a b c d e ea eb ec ed ee h1 h2 h3 h4 h5 =
    let s2 : l2 ≡ l0 ++ int_value a ∷ int_value b ∷ [] = h2 ∙ (ap (λ l. l ++ int_value b ∷ []) h1 ∙ append_assoc l0 (int_value a ∷ []) (int_value b ∷ [])) in
    let s3 : l3 ≡ l0 ++ int_value a ∷ int_value b ∷ int_value c ∷ [] =
    h3 ∙ (ap (λ l. l ++ int_value c ∷ []) s2 ∙ append_assoc l0 (int_value a ∷ int_value b ∷ []) (int_value c ∷ [])) in
    let s4 : l4 ≡ l0 ++ int_value a ∷ int_value b ∷ int_value c ∷ int_value d ∷ [] =
    h4 ∙ (ap (λ l. l ++ int_value d ∷ []) s3 ∙ append_assoc l0 (int_value a ∷ int_value b ∷ int_value c ∷ []) (int_value d ∷ [])) in
    h5 ∙ (ap (λ l. l ++ int_value e ∷ []) s4
    ∙ (append_assoc l0 (int_value a ∷ int_value b ∷ int_value c ∷ int_value d ∷ []) (int_value e ∷ [])
    ∙ (ap (λ z. l0 ++ int_value z ∷ int_value b ∷ int_value c ∷ int_value d ∷ int_value e ∷ []) ea
    ∙ (ap (λ z. l0 ++ int_value x.curve ∷ int_value z ∷ int_value c ∷ int_value d ∷ int_value e ∷ []) eb
    ∙ (ap (λ z. l0 ++ int_value x.curve ∷ int_value x.start_list ∷ int_value z ∷ int_value d ∷ int_value e ∷ []) ec
    ∙ (ap (λ z. l0 ++ int_value x.curve ∷ int_value x.start_list ∷ int_value x.start_index ∷ int_value z ∷ int_value e ∷ []) ed
    ∙ ap (λ z. l0 ++ int_value x.curve ∷ int_value x.start_list ∷ int_value x.start_index ∷ int_value x.end_list ∷ int_value z ∷ []) ee))))))

-- ---- tuples of a loop

nothing_indexed : (ds : List DueValue) → with_indices ds [] ≡ []
nothing_indexed [] = refl
nothing_indexed (d ∷ ds) = refl

nothing_left : {X : Type 0} (n : ℕ) → drop {A = X} n [] ≡ []
nothing_left zero = refl
nothing_left (suc n) = refl

nothing_taken : {X : Type 0} (n : ℕ) → take {A = X} n [] ≡ []
nothing_taken zero = refl
nothing_taken (suc n) = refl

abbrev two_each : List (Bool × ℤ) → ℕ
two_each [] = 0
two_each (c ∷ cs) = suc (suc (two_each cs))

two_each_is : (cs : List (Bool × ℤ)) → two_each cs ≡ 2 * length cs
two_each_is [] = refl
two_each_is (c ∷ cs) = let on : two_each cs ≡ 2 * length cs = two_each_is cs in omega (arith, on)

curves_stay : (cs : List (Bool × ℤ)) (ds : List DueValue) (ws : List Value) → with_indices (flat_map curve_due cs ++ ds) ws ≡ take (two_each cs) ws
    ++ with_indices ds (drop (two_each cs) ws)
curves_stay [] ds ws = refl
curves_stay (c ∷ cs) ds [] = sym (nothing_indexed ds)
curves_stay (c ∷ cs) ds (v ∷ []) = ap (λ us. v ∷ us) (nothing_indexed (pointer c.1 ∷ (flat_map curve_due cs ++ ds)))
    ∙ sym (ap (λ us. v ∷ (us ++ with_indices ds (drop (suc (two_each cs)) []))) (nothing_taken (suc (two_each cs))) ∙ ap (λ us. v ∷ us) (nothing_indexed ds))
curves_stay (c ∷ cs) ds (v ∷ w ∷ ws) = ap (λ us. v ∷ w ∷ us) (curves_stay cs ds ws)

curves_meet : (cs : List (Bool × ℤ)) (ds : List DueValue) (ws : List Value) → MeetsAll (flat_map curve_due cs ++ ds) ws → MeetsAll ds (drop (two_each cs) ws)
curves_meet [] ds ws h = h
curves_meet (c ∷ cs) ds [] h = absurd h
curves_meet (c ∷ cs) ds (v ∷ []) h = absurd h.1
curves_meet (c ∷ cs) ds (v ∷ w ∷ ws) h = curves_meet cs ds ws h.1.1

-- what stands of a tuple in its values, with its new index, and what is left
tuple_split : (g : Contents) (t : LoopTuple) (rest : List LoopTuple) (es : List DueValue) (ws : List Value)
    → MeetsAll (tuple_due t ++ flat_map tuple_due rest) ws
    → (with_indices (tuple_due (reindexed_tuple g t) ++ es) ws
    ≡ (take 2 ws ++ int_value (tuple_index g t.is_vertex t.list t.index) ∷ take (2 + two_each t.curves) (drop 3 ws))
    ++ with_indices es (drop (5 + two_each t.curves) ws))
    × MeetsAll (flat_map tuple_due rest) (drop (5 + two_each t.curves) ws)
tuple_split g t rest es [] h = absurd h
tuple_split g t rest es (a ∷ []) h = absurd h.1
tuple_split g t rest es (a ∷ b ∷ []) h = absurd h.1.1
tuple_split g t rest es (a ∷ b ∷ c ∷ []) h = absurd h.1.1.1
tuple_split g t rest es (a ∷ b ∷ c ∷ x ∷ []) h =
    let none = missing t.curves rest h.1.1.1.1 in
    let two : 2 + two_each t.curves ≡ suc (suc (two_each t.curves)) = omega arith in
    let five : 5 + two_each t.curves ≡ suc (suc (suc (suc (suc (two_each t.curves))))) = omega arith in
    let i : Value = int_value (tuple_index g t.is_vertex t.list t.index) in (
      sym (ap (λ n. (a ∷ b ∷ i ∷ take n (x ∷ [])) ++ with_indices es (drop (5 + two_each t.curves) (a ∷ b ∷ c ∷ x ∷ []))) two
          ∙ (ap (λ us. (a ∷ b ∷ i ∷ x ∷ us) ++ with_indices es (drop (5 + two_each t.curves) (a ∷ b ∷ c ∷ x ∷ []))) (nothing_taken (suc (two_each t.curves)))
          ∙ (ap (λ n. a ∷ b ∷ i ∷ x ∷ with_indices es (drop n (a ∷ b ∷ c ∷ x ∷ []))) five
          ∙ ap (λ us. a ∷ b ∷ i ∷ x ∷ us) (nothing_indexed es)))),
      subst (λ ts. MeetsAll (flat_map tuple_due ts) (drop (5 + two_each t.curves) (a ∷ b ∷ c ∷ x ∷ []))) (sym none.1)
          (subst (λ n. MeetsAll [] (drop n (a ∷ b ∷ c ∷ x ∷ []))) (sym five) tt),
    )
tuple_split g t rest es (a ∷ b ∷ c ∷ x ∷ k ∷ ws) h =
    let two : 2 + two_each t.curves ≡ suc (suc (two_each t.curves)) = omega arith in
    let five : 5 + two_each t.curves ≡ suc (suc (suc (suc (suc (two_each t.curves))))) = omega arith in
    let i : Value = int_value (tuple_index g t.is_vertex t.list t.index) in (
      ap (λ us. a ∷ b ∷ i ∷ x ∷ k ∷ us) (curves_stay t.curves es ws)
          ∙ sym (ap (λ n. (a ∷ b ∷ i ∷ take n (x ∷ k ∷ ws)) ++ with_indices es (drop (5 + two_each t.curves) (a ∷ b ∷ c ∷ x ∷ k ∷ ws))) two
          ∙ ap (λ n. a ∷ b ∷ i ∷ x ∷ k ∷ (take (two_each t.curves) ws ++ with_indices es (drop n (a ∷ b ∷ c ∷ x ∷ k ∷ ws)))) five),
      subst (λ n. MeetsAll (flat_map tuple_due rest) (drop n (a ∷ b ∷ c ∷ x ∷ k ∷ ws))) (sym five)
          (curves_meet t.curves (flat_map tuple_due rest) ws h.1.1.1.1.1),
    )

drop_on : {X : Type 0} (n m : ℕ) (xs : List X) → drop m (drop n xs) ≡ drop (n + m) xs
drop_on zero m xs = let none : m ≡ 0 + m = omega arith in ap (λ k. drop k xs) none
drop_on (suc n) m [] = nothing_left m ∙ sym (nothing_left (suc n + m))
drop_on (suc n) m (x ∷ xs) = let on : suc (n + m) ≡ suc n + m = omega arith in drop_on n m xs ∙ ap (λ k. drop k (x ∷ xs)) on

five_values : (t : LoopTuple) → length (tuple_due t) ≡ 5 + two_each t.curves
five_values t = omega (arith, tuple_length t (length t.curves) refl, two_each_is t.curves)

module _ (g : Contents) (t : LoopTuple) (rest left : List LoopTuple) (vs : List Value) (at end : ℕ) (e : left ≡ t ∷ rest)
    (ee : end ≡ at + length (tuple_due t)) (meets : MeetsAll (flat_map tuple_due left) (drop at vs)) where
  behind_tuple : drop (5 + two_each t.curves) (drop at vs) ≡ drop end vs
  behind_tuple = let k : at + (5 + two_each t.curves) ≡ end = omega (arith, ee, five_values t) in drop_on at (5 + two_each t.curves) vs ∙ ap (λ n. drop n vs) k

  pub next_tuple_values : (index : ℤ) (old new all : List Value) → index ≡ tuple_index g t.is_vertex t.list t.index
      → new ≡ old ++ take 2 (drop at vs) ++ int_value index ∷ take (2 + 2 * length t.curves) (drop (at + 3) vs)
      → old ++ with_indices (flat_map tuple_due (map (reindexed_tuple g) left)) (drop at vs) ≡ all
      → new ++ with_indices (flat_map tuple_due (map (reindexed_tuple g) rest)) (drop end vs) ≡ all
  next_tuple_values index old new all ei en h =
      let es : List DueValue = flat_map tuple_due (map (reindexed_tuple g) rest) in
      let i : ℤ = tuple_index g t.is_vertex t.list t.index in
      let parts = (tuple_split g t rest (flat_map tuple_due (map (reindexed_tuple g) rest)) (drop at vs)
      (subst (λ ts. MeetsAll (flat_map tuple_due ts) (drop at vs)) e meets)).0 in
      let whole : old ++ with_indices (tuple_due (reindexed_tuple g t) ++ flat_map tuple_due (map (reindexed_tuple g) rest)) (drop at vs) ≡ all =
      ap (λ ts. old ++ with_indices (flat_map tuple_due (map (reindexed_tuple g) ts)) (drop at vs)) (sym e) ∙ h in
      ap (λ xs. xs ++ with_indices (flat_map tuple_due (map (reindexed_tuple g) rest)) (drop end vs)) en
      ∙ (ap (λ z. (old ++ take 2 (drop at vs) ++ int_value z ∷ take (2 + 2 * length t.curves) (drop (at + 3) vs))
      ++ with_indices (flat_map tuple_due (map (reindexed_tuple g) rest)) (drop end vs)) ei
      ∙ (ap (λ n. (old ++ take 2 (drop at vs) ++ int_value (tuple_index g t.is_vertex t.list t.index) ∷ take (2 + n) (drop (at + 3) vs))
      ++ with_indices (flat_map tuple_due (map (reindexed_tuple g) rest)) (drop end vs)) (sym (two_each_is t.curves))
      ∙ (ap (λ us. (old ++ take 2 (drop at vs) ++ int_value (tuple_index g t.is_vertex t.list t.index) ∷ take (2 + two_each t.curves) us)
      ++ with_indices (flat_map tuple_due (map (reindexed_tuple g) rest)) (drop end vs)) (sym (drop_on at 3 vs))
      ∙ (ap (λ us. (old ++ take 2 (drop at vs) ++ int_value (tuple_index g t.is_vertex t.list t.index) ∷ take (2 + two_each t.curves) (drop 3 (drop at vs)))
      ++ with_indices (flat_map tuple_due (map (reindexed_tuple g) rest)) us) (sym behind_tuple)
      ∙ (ap (λ us. us ++ with_indices (flat_map tuple_due (map (reindexed_tuple g) rest)) (drop (5 + two_each t.curves) (drop at vs)))
      (append_assoc old (take 2 (drop at vs)) (int_value (tuple_index g t.is_vertex t.list t.index) ∷ take (2 + two_each t.curves) (drop 3 (drop at vs))))
      ∙ (append_assoc old (take 2 (drop at vs) ++ int_value (tuple_index g t.is_vertex t.list t.index) ∷ take (2 + two_each t.curves) (drop 3 (drop at vs)))
      (with_indices (flat_map tuple_due (map (reindexed_tuple g) rest)) (drop (5 + two_each t.curves) (drop at vs)))
      ∙ (ap (λ us. old ++ us) (sym parts) ∙ whole)))))))

-- what meets all tuples meets, behind the first, the others
pub next_meets : (t : LoopTuple) (rest left : List LoopTuple) (vs : List Value) (at end : ℕ) → left ≡ t ∷ rest → end ≡ at + length (tuple_due t)
    → MeetsAll (flat_map tuple_due left) (drop at vs) → MeetsAll (flat_map tuple_due rest) (drop end vs)
next_meets t rest left vs at end e ee meets =
    let k : at + (5 + two_each t.curves) ≡ end = omega (arith, ee, five_values t) in
    subst (MeetsAll (flat_map tuple_due rest)) (drop_on at (5 + two_each t.curves) vs ∙ ap (λ n. drop n vs) k)
    (tuple_split (record { start = []; global = record { delims = record { param = 44; end = 59 }; values = [] }; entries = [] }) t rest [] (drop at vs)
    (subst (λ ts. MeetsAll (flat_map tuple_due ts) (drop at vs)) e meets)).1

pub loop_room : (vs : List Value) (ts : List LoopTuple) → IsRecordOf «loop» vs → ts ≡ items_of «loop» vs → length vs ≤ 164000000
    → 1 + length (flat_map tuple_due ts) < 2 ^ 64
loop_room vs ts is e few = omega (arith, due_few (due «loop» (items_of «loop» vs)) vs is, few, ap (λ us. length (flat_map tuple_due us)) e)
