-- A record tells no other items than those read.
use Rattle.std.specs.Prelude.{◌≡◌, ℕ, suc, ◌+◌, ◌*◌, Bool, true, false, if◌then◌else◌, ℤ, pos, List, [], ◌∷◌, ◌++◌, length, map, flat_map, drop}
use Rattle.std.proofs.Common.{refl, sym, ◌∙◌, ap, subst, arith, ⊎_elim}
use Rattle.iges_fields.specs.declared.value.Value.{Value}
use Rattle.iges_fields.specs.declared.value.Value.TheVariants.{Int}
use Rattle.brep_lists.specs.DueValues.{DueValue, pointer, at_least_one, count, Meets, MayBeMissing, MeetsAll}
use Rattle.brep_lists.specs.Record.{SolidItems, FaceItems, LoopTuple, pair_due, curve_due, tuple_due, edge_due, vertex_due, due, int_of, flag_of, count_of}
use Rattle.brep_lists.specs.Record.{value_or_default, int_at, groups, pair_read, curve_read, edge_read, tuples_read, items_of, FitsOnlyRead}
use Rattle.brep_lists.specs.declared.entity_kind.EntityKind.TheVariants.{Solid as solid, Shell as shell, Face as face, Loop as «loop», EdgeList as edges}
use Rattle.brep_lists.specs.declared.entity_kind.EntityKind.TheVariants.{VertexList as vertices}
use Rattle.brep_lists.specs.declared.edge_list.EdgeTuple.{EdgeTuple}

int_read : (z : ℤ) (v : Value) → v ≡ Int z → int_of v ≡ z
int_read z v e = ap int_of e

flag_read_back : (b : Bool) → flag_of (Int (if b then pos 1 else pos 0)) ≡ b
flag_read_back true = refl
flag_read_back false = refl

flag_read : (b : Bool) (v : Value) → v ≡ Int (if b then pos 1 else pos 0) → flag_of v ≡ b
flag_read b v e = ap flag_of e ∙ flag_read_back b

count_read : (n : ℕ) (v : Value) → Meets (count n) v → count_of v ≡ n
count_read n v m = ⊎_elim (λ e. ap count_of e) (λ none. ap count_of none.0 ∙ sym none.1) m

cons_pair : {A B : Type 0} {a a' : A} {b b' : B} {xs ys : List (A × B)} → a ≡ a' → b ≡ b' → xs ≡ ys → (a, b) ∷ xs ≡ (a', b') ∷ ys
cons_pair {A} {B} {a} {a'} {b} {b'} {xs} {ys} e f g = ap (λ x. (x, b) ∷ xs) e ∙ (ap (λ y. (a', y) ∷ xs) f ∙ ap (λ zs. (a', b') ∷ zs) g)

cons_one : {A : Type 0} {a a' : A} {xs ys : List A} → a ≡ a' → xs ≡ ys → a ∷ xs ≡ a' ∷ ys
cons_one {A} {a} {a'} {xs} {ys} e g = ap (λ x. x ∷ xs) e ∙ ap (λ zs. a' ∷ zs) g

pairs_only : (ps : List (ℤ × Bool)) (vs : List Value) → MeetsAll (flat_map pair_due ps) vs → map pair_read (groups 2 (length ps) vs) ≡ ps
pairs_only [] vs h = refl
pairs_only (p ∷ ps) [] h = absurd h
pairs_only (p ∷ ps) (v ∷ []) h = absurd h.1
pairs_only (p ∷ ps) (v ∷ w ∷ vs) h = cons_pair (int_read p.0 v h.0) (flag_read p.1 w h.1.0) (pairs_only ps vs h.1.1)

pointers_only : (zs : List ℤ) (vs : List Value) → MeetsAll (map pointer zs) vs → map (λ g. int_at g 0) (groups 1 (length zs) vs) ≡ zs
pointers_only [] vs h = refl
pointers_only (z ∷ zs) [] h = absurd h
pointers_only (z ∷ zs) (v ∷ vs) h = cons_one (int_read z v h.0) (pointers_only zs vs h.1)

edges_only : (es : List EdgeTuple) (vs : List Value) → MeetsAll (flat_map edge_due es) vs → map edge_read (groups 5 (length es) vs) ≡ es
edges_only [] vs h = refl
edges_only (e ∷ es) [] h = absurd h
edges_only (e ∷ es) (a ∷ []) h = absurd h.1
edges_only (e ∷ es) (a ∷ b ∷ []) h = absurd h.1.1
edges_only (e ∷ es) (a ∷ b ∷ c ∷ []) h = absurd h.1.1.1
edges_only (e ∷ es) (a ∷ b ∷ c ∷ d ∷ []) h = absurd h.1.1.1.1
edges_only (e ∷ es) (a ∷ b ∷ c ∷ d ∷ x ∷ vs) h =
    let k : EdgeTuple = edge_read (a ∷ b ∷ c ∷ d ∷ x ∷ []) in
    cons_one
    (ap (λ z. record k { curve = z }) (int_read e.curve a h.0)
    ∙ (ap (λ z. record k { curve = e.curve; start_list = z }) (int_read e.start_list b h.1.0)
    ∙ (ap (λ z. record k { curve = e.curve; start_list = e.start_list; start_index = z }) (int_read e.start_index c h.1.1.0)
    ∙ (ap (λ z. record k { curve = e.curve; start_list = e.start_list; start_index = e.start_index; end_list = z }) (int_read e.end_list d h.1.1.1.0)
    ∙ ap (λ z. record k { curve = e.curve; start_list = e.start_list; start_index = e.start_index; end_list = e.end_list; end_index = z })
    (int_read e.end_index x h.1.1.1.1.0)))))
    (edges_only es vs h.1.1.1.1.1)

vertices_only : (xs : List (Value × Value × Value)) (vs : List Value) → MeetsAll (flat_map vertex_due xs) vs →
    map (λ g. (value_or_default g 0, value_or_default g 1, value_or_default g 2)) (groups 3 (length xs) vs) ≡ xs
vertices_only [] vs h = refl
vertices_only (x ∷ xs) [] h = absurd h
vertices_only (x ∷ xs) (a ∷ []) h = absurd h.1
vertices_only (x ∷ xs) (a ∷ b ∷ []) h = absurd h.1.1
vertices_only (x ∷ xs) (a ∷ b ∷ c ∷ vs) h =
    cons_one (ap (λ v. (v, b, c)) h.0.0 ∙ (ap (λ v. (x.0, v, c)) h.1.0.0 ∙ ap (λ v. (x.0, x.1, v)) h.1.1.0.0)) (vertices_only xs vs h.1.1.1)

twice-suc : (n : ℕ) → 2 * suc n ≡ suc (suc (2 * n))
twice-suc n = omega arith

pub curves_only : (cs : List (Bool × ℤ)) (ds : List DueValue) (vs : List Value) → MeetsAll (flat_map curve_due cs ++ ds) vs →
    (map curve_read (groups 2 (length cs) vs) ≡ cs) × MeetsAll ds (drop (2 * length cs) vs)
curves_only [] ds vs h = (refl, h)
curves_only (c ∷ cs) ds [] h = absurd h
curves_only (c ∷ cs) ds (v ∷ []) h = absurd h.1
curves_only (c ∷ cs) ds (v ∷ w ∷ vs) h =
    let rest = curves_only cs ds vs h.1.1 in (
      cons_pair (flag_read c.0 v h.0) (int_read c.1 w h.1.0) rest.0,
      subst (λ m. MeetsAll ds (drop m (v ∷ w ∷ vs))) (sym (twice-suc (length cs))) rest.1,
    )

-- where the count is missing, no curve and no tuple follows
pub missing : (cs : List (Bool × ℤ)) (ts : List LoopTuple) → MayBeMissing (count (length cs) ∷ (flat_map curve_due cs ++ flat_map tuple_due ts)) →
    (cs ≡ []) × (ts ≡ [])
missing [] [] h = (refl, refl)
missing [] (t ∷ ts) h = absurd h
missing (c ∷ cs) ts h = absurd h

abbrev five_more : ℕ → ℕ
five_more n = suc (suc (suc (suc (suc n))))

five-add : (n : ℕ) → 5 + n ≡ five_more n
five-add n = omega arith

abbrev tuple : Bool → ℤ → ℤ → Bool → List (Bool × ℤ) → LoopTuple
tuple v l i f cs = record { is_vertex = v; «list» = l; index = i; flag = f; curves = cs }

same_tuple : {v f : Bool} {l i : ℤ} {cs : List (Bool × ℤ)} {us : List LoopTuple} (t : LoopTuple) (ts : List LoopTuple) → v ≡ t.is_vertex → l ≡ t.«list» →
    i ≡ t.index → f ≡ t.flag → cs ≡ t.curves → us ≡ ts → tuple v l i f cs ∷ us ≡ t ∷ ts
same_tuple {v} {f} {l} {i} {cs} {us} t ts ev el ei ef ec et =
    ap (λ x. tuple x l i f cs ∷ us) ev
    ∙ (ap (λ x. tuple t.is_vertex x i f cs ∷ us) el
    ∙ (ap (λ x. tuple t.is_vertex t.«list» x f cs ∷ us) ei
    ∙ (ap (λ x. tuple t.is_vertex t.«list» t.index x cs ∷ us) ef
    ∙ (ap (λ x. tuple t.is_vertex t.«list» t.index t.flag x ∷ us) ec
    ∙ ap (λ x. t ∷ x) et))))

tuples_only : (ts : List LoopTuple) (vs : List Value) → MeetsAll (flat_map tuple_due ts) vs → tuples_read (length ts) vs ≡ ts
tuples_only [] vs h = refl
tuples_only (t ∷ ts) [] h = absurd h
tuples_only (t ∷ ts) (a ∷ []) h = absurd h.1
tuples_only (t ∷ ts) (a ∷ b ∷ []) h = absurd h.1.1
tuples_only (t ∷ ts) (a ∷ b ∷ c ∷ []) h = absurd h.1.1.1
tuples_only (t ∷ ts) (a ∷ b ∷ c ∷ d ∷ []) h =
    let none = missing t.curves ts h.1.1.1.1 in
    same_tuple t ts (flag_read t.is_vertex a h.0) (int_read t.«list» b h.1.0) (int_read t.index c h.1.1.0) (flag_read t.flag d h.1.1.1.0) (sym none.0)
    (ap (λ us. tuples_read (length us) []) none.1 ∙ sym none.1)
tuples_only (t ∷ ts) (a ∷ b ∷ c ∷ d ∷ k ∷ vs) h =
    let n : ℕ = length t.curves in
    let counted : count_of k ≡ n = count_read n k h.1.1.1.1.0 in
    let rest = curves_only t.curves (flat_map tuple_due ts) vs h.1.1.1.1.1 in
    same_tuple t ts (flag_read t.is_vertex a h.0) (int_read t.«list» b h.1.0) (int_read t.index c h.1.1.0) (flag_read t.flag d h.1.1.1.0)
    (ap (λ m. map curve_read (groups 2 m vs)) counted ∙ rest.0)
    (ap (λ m. tuples_read (length ts) (drop (5 + 2 * m) (a ∷ b ∷ c ∷ d ∷ k ∷ vs))) counted
    ∙ (ap (λ m. tuples_read (length ts) (drop m (a ∷ b ∷ c ∷ d ∷ k ∷ vs))) (five-add (2 * n))
    ∙ tuples_only ts (drop (2 * n) vs) rest.1))

-- a count and what it counts
counted_only : (n : ℕ) (v : Value) → Meets (at_least_one n) v → count_of v ≡ n
counted_only n v m = ap count_of m.0

abbrev solid_items : ℤ → Bool → List (ℤ × Bool) → SolidItems
solid_items z b vs = record { outer = (z, b); voids = vs }

abbrev face_items : ℤ → Bool → List ℤ → FaceItems
face_items z b ls = record { surface = z; outer = b; loops = ls }

same_solid : {z : ℤ} {b : Bool} {vs : List (ℤ × Bool)} (s : SolidItems) → z ≡ s.outer.0 → b ≡ s.outer.1 → vs ≡ s.voids → solid_items z b vs ≡ s
same_solid {z} {b} {vs} s ez eb ev = ap (λ x. solid_items x b vs) ez ∙
    (ap (λ x. solid_items s.outer.0 x vs) eb ∙ ap (λ x. solid_items s.outer.0 s.outer.1 x) ev)

same_face : {z : ℤ} {b : Bool} {ls : List ℤ} (f : FaceItems) → z ≡ f.surface → b ≡ f.outer → ls ≡ f.loops → face_items z b ls ≡ f
same_face {z} {b} {ls} f ez eb el = ap (λ x. face_items x b ls) ez ∙ (ap (λ x. face_items f.surface x ls) eb ∙ ap (λ x. face_items f.surface f.outer x) el)

solid_only : (s : SolidItems) (vs : List Value) → MeetsAll (due solid s) vs → items_of solid vs ≡ s
solid_only s [] h = absurd h
solid_only s (a ∷ []) h = absurd h.1
solid_only s (a ∷ b ∷ []) h = same_solid s (int_read s.outer.0 a h.0) (flag_read s.outer.1 b h.1.0) (no_voids s.voids h.1.1)
  where
    no_voids : (vs : List (ℤ × Bool)) → MayBeMissing (count (length vs) ∷ flat_map pair_due vs) → [] ≡ vs
    no_voids [] h = refl
    no_voids (v ∷ vs) h = absurd h
solid_only s (a ∷ b ∷ k ∷ vs) h =
    same_solid s (int_read s.outer.0 a h.0) (flag_read s.outer.1 b h.1.0)
    (ap (λ m. map pair_read (groups 2 m vs)) (count_read (length s.voids) k h.1.1.0) ∙ pairs_only s.voids vs h.1.1.1)

face_only : (f : FaceItems) (vs : List Value) → MeetsAll (due face f) vs → items_of face vs ≡ f
face_only f [] h = absurd h
face_only f (a ∷ []) h = absurd h.1
face_only f (a ∷ b ∷ []) h = absurd h.1.1
face_only f (a ∷ b ∷ c ∷ vs) h =
    same_face f (int_read f.surface a h.0) (flag_read f.outer c h.1.1.0)
    (ap (λ m. map (λ g. int_at g 0) (groups 1 m vs)) (counted_only (length f.loops) b h.1.0) ∙ pointers_only f.loops vs h.1.1.1)

-- A record tells the items that are read, and no others.
pub only_read : FitsOnlyRead
only_read solid vs s h = sym (solid_only s vs h)
only_read shell [] items h = absurd h
only_read shell (v ∷ vs) items h = sym (ap (λ m. map pair_read (groups 2 m vs)) (counted_only (length items) v h.0) ∙ pairs_only items vs h.1)
only_read face vs f h = sym (face_only f vs h)
only_read «loop» [] items h = absurd h
only_read «loop» (v ∷ vs) items h = sym (ap (λ m. tuples_read m vs) (counted_only (length items) v h.0) ∙ tuples_only items vs h.1)
only_read edges [] items h = absurd h
only_read edges (v ∷ vs) items h = sym (ap (λ m. map edge_read (groups 5 m vs)) (counted_only (length items) v h.0) ∙ edges_only items vs h.1)
only_read vertices [] items h = absurd h
only_read vertices (v ∷ vs) items h = sym (ap (λ m. map (λ g. (value_or_default g 0, value_or_default g 1, value_or_default g 2)) (groups 3 m vs))
    (counted_only (length items) v h.0) ∙ vertices_only items vs h.1)
