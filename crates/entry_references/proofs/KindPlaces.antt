-- Places of pointers among the values that are due.
use Rattle.std.specs.Prelude.{◌≡◌, ℕ, zero, suc, ◌+◌, ◌-◌, ◌*◌, ◌<◌, ◌≤◌, ◌^◌, Bool, true, false, nat_lt, ℤ, List, [], ◌∷◌, ◌++◌, length, map, flat_map}
use Rattle.std.specs.Prelude.{filter_map, Option, Some, None}
use Rattle.std.specs.List.{enumerate_from, list_all}
use Rattle.std.proofs.Common.{refl, subst, sym, ap, ◌∙◌, arith, append_assoc, length-append, suc-mul}
use Rattle.std.proofs.lemmas.Bool.{cond-true, cond-false, ltb-true, lt-ltb, and_from, and_parts}
use Rattle.std.proofs.lemmas.List.{length-map}
use Rattle.std.proofs.lemmas.List.Elements.{filter_map-append}
use Rattle.iges_fields.specs.declared.value.Value.{Value}
use Rattle.brep_lists.specs.DueValues.{DueValue, pointer, number, flag, at_least_one, count, coordinate, MeetsAll}
use Rattle.brep_lists.specs.Record.{LoopTuple, Items, SolidItems, FaceItems, pair_due, curve_due, tuple_due, edge_due, vertex_due, kind_of_type, due, items_of}
use Rattle.brep_lists.specs.Record.{Fits, IsRecordOf}
use Rattle.brep_lists.specs.declared.entity_kind.EntityKind.{EntityKind}
use Rattle.brep_lists.specs.declared.entity_kind.EntityKind.TheVariants.{Solid as solid, Shell as shell, Face as face, Loop as «loop», EdgeList as edges}
use Rattle.brep_lists.specs.declared.entity_kind.EntityKind.TheVariants.{VertexList as vertices}
use Rattle.brep_lists.specs.OwnValues.{if_pointer, is_record_of, own_count, pointer_places}
use Rattle.brep_lists.specs.declared.edge_list.EdgeTuple.{EdgeTuple}
use Rattle.brep_lists.proofs.Decided.{decided}
use Rattle.entry_references.specs.Layout.{Own, layout_of, own_in}
use Rattle.entry_references.specs.Refs.{Record, own_of_kind, own_of}
use Rattle.entry_references.specs.PlacesDue.{places_due, group_places}

pub enumerate_append : {A : Type 0} (k : ℕ) (xs ys : List A) → enumerate_from k (xs ++ ys) ≡ enumerate_from k xs ++ enumerate_from (k + length xs) ys
enumerate_append k [] ys = ap (λ (n : ℕ). enumerate_from n ys) (let e : k ≡ k + 0 = omega arith in e)
enumerate_append k (x ∷ xs) ys =
    let e : (k + 1) + length xs ≡ k + suc (length xs) = omega arith in
    ap (λ (zs : List (ℕ × _)). (k, x) ∷ zs) (enumerate_append (k + 1) xs ys ∙ ap (λ (n : ℕ). enumerate_from (k + 1) xs ++ enumerate_from n ys) e)

pub places_append : (k : ℕ) (xs ys : List DueValue) → places_due k (xs ++ ys) ≡ places_due k xs ++ places_due (k + length xs) ys
places_append k xs ys = ap (filter_map if_pointer) (enumerate_append k xs ys) ∙ filter_map-append if_pointer (enumerate_from k xs)
    (enumerate_from (k + length xs) ys)

module _ {A : Type 0} (d : A → List DueValue) (size : ℕ) (pointers : List ℕ) (shape : (x : A) (k : ℕ) → places_due k (d x) ≡ map (λ j. k + j) pointers)
    (all : (x : A) → length (d x) ≡ size) where
  pub groups_placed : (k : ℕ) (xs : List A) → places_due k (flat_map d xs) ≡ group_places k (length xs) size pointers
  groups_placed k [] = refl
  groups_placed k (x ∷ xs) =
      places_append k (d x) (flat_map d xs)
      ∙ (ap (λ (ps : List ℕ). ps ++ places_due (k + length (d x)) (flat_map d xs)) (shape x k)
      ∙ ap (λ (ps : List ℕ). map (λ j. k + j) pointers ++ ps) (ap (λ (n : ℕ). places_due (k + n) (flat_map d xs)) (all x) ∙ groups_placed (k + size) xs))

  pub groups_length : (xs : List A) → length (flat_map d xs) ≡ length xs * size
  groups_length [] = let e : 0 ≡ 0 * size = omega arith in e
  groups_length (x ∷ xs) =
      let one : suc (length xs) * size ≡ length xs * size + size = suc-mul (length xs) size in
      omega (arith, length-append (d x) (flat_map d xs), all x, groups_length xs, one)

zero_on : (k : ℕ) → k ∷ [] ≡ (k + 0) ∷ []
zero_on k = ap (λ (j : ℕ). j ∷ []) (let e : k ≡ k + 0 = omega arith in e)

pub pairs_placed : (k : ℕ) (ps : List (ℤ × Bool)) → places_due k (flat_map pair_due ps) ≡ group_places k (length ps) 2 (0 ∷ [])
pairs_placed = groups_placed pair_due 2 (0 ∷ []) (λ x k. zero_on k) (λ x. refl)

pub pairs_length : (ps : List (ℤ × Bool)) → length (flat_map pair_due ps) ≡ length ps * 2
pairs_length = groups_length pair_due 2 (0 ∷ []) (λ x k. zero_on k) (λ x. refl)

pub curves_placed : (k : ℕ) (cs : List (Bool × ℤ)) → places_due k (flat_map curve_due cs) ≡ group_places k (length cs) 2 (1 ∷ [])
curves_placed = groups_placed curve_due 2 (1 ∷ []) (λ x k. refl) (λ x. refl)

pub curves_length : (cs : List (Bool × ℤ)) → length (flat_map curve_due cs) ≡ length cs * 2
curves_length = groups_length curve_due 2 (1 ∷ []) (λ x k. refl) (λ x. refl)

edge_shape : (x : EdgeTuple) (k : ℕ) → places_due k (edge_due x) ≡ map (λ j. k + j) (0 ∷ 1 ∷ 3 ∷ [])
edge_shape x k =
    let third : k + 1 + 1 + 1 ≡ k + 3 = omega arith in
    let none : k ≡ k + 0 = omega arith in
    ap (λ (j : ℕ). k ∷ (k + 1) ∷ j ∷ []) third ∙ ap (λ (j : ℕ). j ∷ (k + 1) ∷ (k + 3) ∷ []) none

pub edges_placed : (k : ℕ) (es : List EdgeTuple) → places_due k (flat_map edge_due es) ≡ group_places k (length es) 5 (0 ∷ 1 ∷ 3 ∷ [])
edges_placed = groups_placed edge_due 5 (0 ∷ 1 ∷ 3 ∷ []) edge_shape (λ x. refl)

pub edges_length : (es : List EdgeTuple) → length (flat_map edge_due es) ≡ length es * 5
edges_length = groups_length edge_due 5 (0 ∷ 1 ∷ 3 ∷ []) edge_shape (λ x. refl)

pub vertices_placed : (k : ℕ) (vs : List (Value × Value × Value)) → places_due k (flat_map vertex_due vs) ≡ []
vertices_placed k [] = refl
vertices_placed k (v ∷ vs) = vertices_placed (k + 1 + 1 + 1) vs

pub vertices_length : (vs : List (Value × Value × Value)) → length (flat_map vertex_due vs) ≡ length vs * 3
vertices_length [] = refl
vertices_length (v ∷ vs) =
    let one : suc (length vs) * 3 ≡ length vs * 3 + 3 = suc-mul (length vs) 3 in
    let on : length (flat_map vertex_due vs) ≡ length vs * 3 = vertices_length vs in
    omega (arith, on, one)

pub loops_placed : (k : ℕ) (ls : List ℤ) → places_due k (map pointer ls) ≡ group_places k (length ls) 1 (0 ∷ [])
loops_placed k [] = refl
loops_placed k (l ∷ ls) = ap (λ (j : ℕ). j ∷ places_due (k + 1) (map pointer ls)) (let e : k ≡ k + 0 = omega arith in e)
    ∙ ap (λ (ps : List ℕ). (k + 0) ∷ ps) (loops_placed (k + 1) ls)

-- ---- the own values of a record of a kind

pub own_record : (kind : EntityKind) (vs : List Value) (n : ℕ) (ps : List ℕ) → Fits kind vs (items_of kind vs) → n ≡ own_count kind vs
    → ps ≡ pointer_places kind vs
    → Some (record { count = n; pointers = ps; cut = [] }) ≡ own_of_kind kind vs
own_record kind vs n ps fits en ep =
    let own : Own = record { count = own_count kind vs; pointers = pointer_places kind vs; cut = [] } in
    ap (λ (m : ℕ). let o : Own = record { count = m; pointers = ps; cut = [] } in Some o) en
    ∙ ap (λ (qs : List ℕ). let o : Own = record { count = own_count kind vs; pointers = qs; cut = [] } in Some o) ep
    ∙ sym (cond-true (is_record_of kind vs) (Some own) None ((decided kind vs).1 fits))

pub no_record : (kind : EntityKind) (vs : List Value) → ((items : Items kind) → Fits kind vs items → ⊥) → None ≡ own_of_kind kind vs
no_record kind vs never = by_test (is_record_of kind vs) refl
  where
    own : Own
    own = record { count = own_count kind vs; pointers = pointer_places kind vs; cut = [] }

    by_test : (b : Bool) → is_record_of kind vs ≡ b → None ≡ own_of_kind kind vs
    by_test true t = absurd (never (items_of kind vs) ((decided kind vs).0 t))
    by_test false t = sym (cond-false (is_record_of kind vs) (Some own) None t)

-- a record has a value for each that is due, but for a last count of 0
pub due_few : (ds : List DueValue) (vs : List Value) → MeetsAll ds vs → length ds ≤ length vs + 1
due_few [] vs h = omega arith
due_few (count n ∷ []) [] h = omega arith
due_few (count n ∷ d ∷ ds) [] h = absurd h
due_few (pointer z ∷ ds) [] h = absurd h
due_few (number z ∷ ds) [] h = absurd h
due_few (flag b ∷ ds) [] h = absurd h
due_few (at_least_one n ∷ ds) [] h = absurd h
due_few (coordinate w ∷ ds) [] h = absurd h
due_few (d ∷ ds) (v ∷ vs) h = let on : length ds ≤ length vs + 1 = due_few ds vs h.1 in omega arith

-- ---- groups put one behind the other

pub next_group : (old new before all : List ℕ) (at left size : ℕ) (ps : List ℕ) → 0 < left → new ≡ old ++ map (λ k. at + k) ps
    → old ++ group_places at left size ps ≡ all → new ++ group_places (at + size) (left - 1) size ps ≡ all
next_group old new before all at zero size ps some e f = absurd (omega (arith, some))
next_group old new before all at (suc n) size ps some e f =
    let less : suc n - 1 ≡ n = omega arith in
    ap (λ (m : ℕ). new ++ group_places (at + size) m size ps) less
    ∙ (ap (λ (xs : List ℕ). xs ++ group_places (at + size) n size ps) e ∙ (append_assoc old (map (λ k. at + k) ps) (group_places (at + size) n size ps) ∙ f))

pub group_room : (at left size first groups : ℕ) → 0 < left → at + left * size ≡ first + groups * size → first + groups * size < 2 ^ 64 → at + size < 2 ^ 64
group_room at zero size first groups some e few = absurd (omega (arith, some))
group_room at (suc n) size first groups some e few =
    let one : suc n * size ≡ n * size + size = suc-mul n size in
    omega (arith, one, e, few)

pub all_fit : (at size : ℕ) (ps : List ℕ) → at + size < 2 ^ 64 → list_all (λ k. nat_lt k size) ps ≡ true → list_all (λ k. nat_lt (at + k) (2 ^ 64)) ps ≡ true
all_fit at size [] few h = refl
all_fit at size (p ∷ ps) few h =
    let both = and_parts (nat_lt p size) (list_all (λ k. nat_lt k size) ps) h in
    let below : p < size = ltb-true p size both.0 in
    let fits : at + p < 2 ^ 64 = omega arith in
    and_from (nat_lt (at + p) (2 ^ 64)) (list_all (λ k. nat_lt (at + k) (2 ^ 64)) ps) (lt-ltb (at + p) (2 ^ 64) fits) (all_fit at size ps few both.1)

-- ---- tuples of a loop

pub tuple_length : (t : LoopTuple) (curves : ℕ) → curves ≡ length t.curves → length (tuple_due t) ≡ 5 + curves * 2
tuple_length t curves e = omega (arith, e, curves_length t.curves)

pub tuple_placed : (old mid new : List ℕ) (first curves : ℕ) (t : LoopTuple) → curves ≡ length t.curves → mid ≡ old ++ (first + 1) ∷ []
    → new ≡ mid ++ group_places (first + 5) curves 2 (1 ∷ [])
    → new ≡ old ++ places_due first (tuple_due t)
tuple_placed old mid new first curves t ec em en =
    let five : first + 5 ≡ first + 1 + 1 + 1 + 1 + 1 = omega arith in
    let put : group_places (first + 5) curves 2 (1 ∷ []) ≡ places_due (first + 1 + 1 + 1 + 1 + 1) (flat_map curve_due t.curves) =
    ap (λ (n : ℕ). group_places (first + 5) n 2 (1 ∷ [])) ec
    ∙ (ap (λ (k : ℕ). group_places k (length t.curves) 2 (1 ∷ [])) five ∙ sym (curves_placed (first + 1 + 1 + 1 + 1 + 1) t.curves)) in
    en ∙ (ap (λ (xs : List ℕ). xs ++ group_places (first + 5) curves 2 (1 ∷ [])) em
    ∙ (append_assoc old ((first + 1) ∷ []) (group_places (first + 5) curves 2 (1 ∷ [])) ∙ ap (λ (xs : List ℕ). old ++ (first + 1) ∷ xs) put))

pub next_tuple : (old new all : List ℕ) (at end : ℕ) (t : LoopTuple) (left rest : List LoopTuple) → left ≡ t ∷ rest → new ≡ old ++ places_due at (tuple_due t)
    → end ≡ at + length (tuple_due t)
    → old ++ places_due at (flat_map tuple_due left) ≡ all → new ++ places_due end (flat_map tuple_due rest) ≡ all
next_tuple old new all at end t left rest el en ee f =
    ap (λ (xs : List ℕ). xs ++ places_due end (flat_map tuple_due rest)) en
    ∙ (append_assoc old (places_due at (tuple_due t)) (places_due end (flat_map tuple_due rest))
    ∙ (ap (λ (xs : List ℕ). old ++ xs)
    (ap (λ (k : ℕ). places_due at (tuple_due t) ++ places_due k (flat_map tuple_due rest)) ee
    ∙ sym (places_append at (tuple_due t) (flat_map tuple_due rest)))
    ∙ (ap (λ (ts : List LoopTuple). old ++ places_due at (flat_map tuple_due ts)) (sym el) ∙ f)))

pub next_end : (at end total : ℕ) (t : LoopTuple) (left rest : List LoopTuple) → left ≡ t ∷ rest → end ≡ at + length (tuple_due t)
    → at + length (flat_map tuple_due left) ≡ total → end + length (flat_map tuple_due rest) ≡ total
next_end at end total t left rest el ee f =
    let sum : at + length (flat_map tuple_due (t ∷ rest)) ≡ total = ap (λ (ts : List LoopTuple). at + length (flat_map tuple_due ts)) (sym el) ∙ f in
    omega (arith, ee, sum, length-append (tuple_due t) (flat_map tuple_due rest))

pub tuple_room : (at total : ℕ) (t : LoopTuple) (left rest : List LoopTuple) → left ≡ t ∷ rest → at + length (flat_map tuple_due left) ≡ total → total < 2 ^ 64
    → at + length (tuple_due t) < 2 ^ 64
tuple_room at total t left rest el f small =
    let sum : at + length (flat_map tuple_due (t ∷ rest)) ≡ total = ap (λ (ts : List LoopTuple). at + length (flat_map tuple_due ts)) (sym el) ∙ f in
    omega (arith, sum, small, length-append (tuple_due t) (flat_map tuple_due rest))

-- ---- kind by kind

own_of_items : (kind : EntityKind) (vs : List Value) (s : Items kind) (n : ℕ) (ps : List ℕ) → Fits kind vs s → s ≡ items_of kind vs → n ≡ length (due kind s)
    → ps ≡ places_due 1 (due kind s)
    → Some (record { count = n; pointers = ps; cut = [] }) ≡ own_of_kind kind vs
own_of_items kind vs s n ps fits is en ep =
    own_record kind vs n ps (subst (Fits kind vs) is fits) (en ∙ ap (λ (x : Items kind). length (due kind x)) is)
    (ep ∙ ap (λ (x : Items kind). places_due 1 (due kind x)) is)

items_few : (kind : EntityKind) (vs : List Value) (s : Items kind) → Fits kind vs s → length vs ≤ 164000000 → length (due kind s) ≤ 164000001
items_few kind vs s fits few = let most = due_few (due kind s) vs fits in omega (arith, most, few)

pub solid_room : (vs : List Value) (s : SolidItems) (len : ℕ) → Fits solid vs s → length vs ≤ 164000000 → len ≡ length (s.outer ∷ s.voids)
    → (0 < len) × (4 + (len - 1) * 2 < 2 ^ 32)
solid_room vs s len fits few e =
    let most : length (due solid s) ≤ 164000001 = items_few solid vs s fits few in
    let one : len - 1 ≡ length s.voids = omega (arith, e) in
    let same : (len - 1) * 2 ≡ length s.voids * 2 = ap (λ (n : ℕ). n * 2) one in
    (omega (arith, e), omega (arith, most, same, pairs_length s.voids))

pub solid_own : (vs : List Value) (s : SolidItems) (len : ℕ) (first ps : List ℕ) → Fits solid vs s → s ≡ items_of solid vs → len ≡ length (s.outer ∷ s.voids)
    → first ≡ 1 ∷ []
    → ps ≡ first ++ group_places 4 (len - 1) 2 (0 ∷ []) → Some (record { count = 3 + (len - 1) * 2; pointers = ps; cut = [] }) ≡ own_of_kind solid vs
solid_own vs s len first ps fits is el ef ep =
    let one : len - 1 ≡ length s.voids = omega (arith, el) in
    let same : (len - 1) * 2 ≡ length s.voids * 2 = ap (λ (n : ℕ). n * 2) one in
    let n : 3 + (len - 1) * 2 ≡ length (due solid s) = omega (arith, same, pairs_length s.voids) in
    let p : ps ≡ places_due 1 (due solid s) =
    ep ∙ (ap (λ (xs : List ℕ). xs ++ group_places 4 (len - 1) 2 (0 ∷ [])) ef
    ∙ ap (λ (xs : List ℕ). 1 ∷ xs) (ap (λ (m : ℕ). group_places 4 m 2 (0 ∷ [])) one ∙ sym (pairs_placed 4 s.voids))) in
    own_of_items solid vs s (3 + (len - 1) * 2) ps fits is n p

pub shell_room : (vs : List Value) (s : List (ℤ × Bool)) (len : ℕ) → Fits shell vs s → length vs ≤ 164000000 → len ≡ length s → 2 + len * 2 < 2 ^ 32
shell_room vs s len fits few e =
    let most : length (due shell s) ≤ 164000001 = items_few shell vs s fits few in
    let same : len * 2 ≡ length s * 2 = ap (λ (n : ℕ). n * 2) e in
    omega (arith, most, same, pairs_length s)

pub shell_own : (vs : List Value) (s : List (ℤ × Bool)) (len : ℕ) (first ps : List ℕ) → Fits shell vs s → s ≡ items_of shell vs → len ≡ length s → first ≡ []
    → ps ≡ first ++ group_places 2 len 2 (0 ∷ [])
    → Some (record { count = 1 + len * 2; pointers = ps; cut = [] }) ≡ own_of_kind shell vs
shell_own vs s len first ps fits is el ef ep =
    let same : len * 2 ≡ length s * 2 = ap (λ (n : ℕ). n * 2) el in
    let n : 1 + len * 2 ≡ length (due shell s) = omega (arith, same, pairs_length s) in
    let p : ps ≡ places_due 1 (due shell s) =
    ep ∙ (ap (λ (xs : List ℕ). xs ++ group_places 2 len 2 (0 ∷ [])) ef ∙ (ap (λ (m : ℕ). group_places 2 m 2 (0 ∷ [])) el ∙ sym (pairs_placed 2 s))) in
    own_of_items shell vs s (1 + len * 2) ps fits is n p

pub face_room : (vs : List Value) (s : FaceItems) (len : ℕ) → Fits face vs s → length vs ≤ 164000000 → len ≡ length s.loops → 4 + len * 1 < 2 ^ 32
face_room vs s len fits few e =
    let most : length (due face s) ≤ 164000001 = items_few face vs s fits few in
    omega (arith, most, e, length-map s.loops pointer)

pub face_own : (vs : List Value) (s : FaceItems) (len : ℕ) (first ps : List ℕ) → Fits face vs s → s ≡ items_of face vs → len ≡ length s.loops → first ≡ 1 ∷ []
    → ps ≡ first ++ group_places 4 len 1 (0 ∷ [])
    → Some (record { count = 3 + len; pointers = ps; cut = [] }) ≡ own_of_kind face vs
face_own vs s len first ps fits is el ef ep =
    let n : 3 + len ≡ length (due face s) = omega (arith, el, length-map s.loops pointer) in
    let p : ps ≡ places_due 1 (due face s) =
    ep ∙ (ap (λ (xs : List ℕ). xs ++ group_places 4 len 1 (0 ∷ [])) ef
    ∙ ap (λ (xs : List ℕ). 1 ∷ xs) (ap (λ (m : ℕ). group_places 4 m 1 (0 ∷ [])) el ∙ sym (loops_placed 4 s.loops))) in
    own_of_items face vs s (3 + len) ps fits is n p

pub loop_room : (vs : List Value) (s : List LoopTuple) → Fits «loop» vs s → length vs ≤ 164000000 → 2 + length (flat_map tuple_due s) < 2 ^ 32
loop_room vs s fits few = let most : length (due «loop» s) ≤ 164000001 = items_few «loop» vs s fits few in omega (arith, most)

pub loop_own : (vs : List Value) (s : List LoopTuple) (end : ℕ) (first ps : List ℕ) → Fits «loop» vs s → s ≡ items_of «loop» vs
    → end ≡ 2 + length (flat_map tuple_due s) → first ≡ [] → ps ≡ first ++ places_due 2 (flat_map tuple_due s)
    → Some (record { count = end - 1; pointers = ps; cut = [] }) ≡ own_of_kind «loop» vs
loop_own vs s end first ps fits is el ef ep =
    let n : end - 1 ≡ length (due «loop» s) = omega (arith, el) in
    own_of_items «loop» vs s (end - 1) ps fits is n (ep ∙ ap (λ (xs : List ℕ). xs ++ places_due 2 (flat_map tuple_due s)) ef)

pub edges_room : (vs : List Value) (s : List EdgeTuple) (len : ℕ) → Fits edges vs s → length vs ≤ 164000000 → len ≡ length s → 2 + len * 5 < 2 ^ 32
edges_room vs s len fits few e =
    let most : length (due edges s) ≤ 164000001 = items_few edges vs s fits few in
    let same : len * 5 ≡ length s * 5 = ap (λ (n : ℕ). n * 5) e in
    omega (arith, most, same, edges_length s)

pub edges_own : (vs : List Value) (s : List EdgeTuple) (len : ℕ) (first ps : List ℕ) → Fits edges vs s → s ≡ items_of edges vs → len ≡ length s → first ≡ []
    → ps ≡ first ++ group_places 2 len 5 (0 ∷ 1 ∷ 3 ∷ [])
    → Some (record { count = 1 + len * 5; pointers = ps; cut = [] }) ≡ own_of_kind edges vs
edges_own vs s len first ps fits is el ef ep =
    let same : len * 5 ≡ length s * 5 = ap (λ (n : ℕ). n * 5) el in
    let n : 1 + len * 5 ≡ length (due edges s) = omega (arith, same, edges_length s) in
    let p : ps ≡ places_due 1 (due edges s) =
    ep ∙ (ap (λ (xs : List ℕ). xs ++ group_places 2 len 5 (0 ∷ 1 ∷ 3 ∷ [])) ef
    ∙ (ap (λ (m : ℕ). group_places 2 m 5 (0 ∷ 1 ∷ 3 ∷ [])) el ∙ sym (edges_placed 2 s))) in
    own_of_items edges vs s (1 + len * 5) ps fits is n p

pub vertices_room : (vs : List Value) (s : List (Value × Value × Value)) (len : ℕ) → Fits vertices vs s → length vs ≤ 164000000 → len ≡ length s
    → 2 + len * 3 < 2 ^ 32
vertices_room vs s len fits few e =
    let most : length (due vertices s) ≤ 164000001 = items_few vertices vs s fits few in
    let same : len * 3 ≡ length s * 3 = ap (λ (n : ℕ). n * 3) e in
    omega (arith, most, same, vertices_length s)

pub vertices_own : (vs : List Value) (s : List (Value × Value × Value)) (len : ℕ) → Fits vertices vs s → s ≡ items_of vertices vs → len ≡ length s
    → Some (record { count = 1 + len * 3; pointers = []; cut = [] }) ≡ own_of_kind vertices vs
vertices_own vs s len fits is el =
    let same : len * 3 ≡ length s * 3 = ap (λ (n : ℕ). n * 3) el in
    let n : 1 + len * 3 ≡ length (due vertices s) = omega (arith, same, vertices_length s) in
    own_of_items vertices vs s (1 + len * 3) [] fits is n (sym (vertices_placed 2 s))

-- ---- a record of one of the six kinds

pub own_is : (r : Record) (kind : EntityKind) → kind_of_type r.0.kind ≡ Some kind → IsRecordOf kind r.1
    → own_of r ≡ Some (record { count = own_count kind r.1; pointers = pointer_places kind r.1; cut = [] })
own_is r kind e h =
    ap (λ (o : Option EntityKind). elim o as (λ _. Option Own)
    [ Some k ↦ own_of_kind k r.1 | None ↦ elim (layout_of r.0) as (λ _. Option Own) [ Some layout ↦ own_in layout r.1 | None ↦ None ] ]) e
    ∙ cond-true (is_record_of kind r.1) (Some (record { count = own_count kind r.1; pointers = pointer_places kind r.1; cut = [] })) None
    ((decided kind r.1).1 h)
