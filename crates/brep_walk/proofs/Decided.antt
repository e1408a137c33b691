-- Of each place of a solid it can be told whether it holds.
use Rattle.std.specs.Prelude.{◌≡◌, ℕ, ◌+◌, ◌≤◌, Bool, true, false, ℤ, pos, negsuc, List, [], ◌∷◌, ◌++◌, length, flat_map, All, Contains, Option, Some, None}
use Rattle.std.specs.Prelude.{◌⊎◌}
use Rattle.std.proofs.Common.{refl, subst, inr}
use Rattle.std.proofs.lemmas.List.Elements.{All-from_recursion, recursion_from_All}
use Rattle.iges_params.specs.Contents.{Contents}
use Rattle.iges_params.specs.Named.{named}
use Rattle.brep_lists.specs.Record.{type_number, HasForm, LoopTuple, IsRecordOf}
use Rattle.brep_lists.specs.declared.entity_kind.EntityKind.{EntityKind}
use Rattle.brep_lists.specs.declared.entity_kind.EntityKind.TheVariants.{Solid as solid, Shell as shell, Face as face, Loop as «loop», EdgeList as edges}
use Rattle.brep_lists.specs.declared.entity_kind.EntityKind.TheVariants.{VertexList as vertices}
use Rattle.brep_lists.specs.declared.edge_list.EdgeTuple.{EdgeTuple}
use Rattle.brep_lists.proofs.Decided.{decided}
use Rattle.solid_data.specs.Obligations.{obligation, entry_number, after_each}
use Rattle.solid_data.specs.declared.verdict.Rule.TheVariants.{BadLayout, Twice, BadIndex, BadGeometry}
use Rattle.solid_data.proofs.Decisions.{Decided, decided_alike, decided_by, decided_within, decided_bool, decided_int, decided_both, decided_three}
use Rattle.solid_data.proofs.Decisions.{decided_either, decided_not, decided_some_and, decided_all, decided_contains}
use Rattle.solid_data.proofs.ObligationsDecided.{AreDecided, decided-append, decided-after_each}
use Rattle.brep_walk.specs.OpenPlaces.{NamesShell, shell_record_places, open_places}
use Rattle.brep_walk.specs.Places.{told, shells, faces, loops, tuples, edge_at, Names, NamesKind, HasRecordOf, NamesGeometry, IsIndex, entry_places}
use Rattle.brep_walk.specs.Places.{record_places, item_places, edge_places, used_places, tuple_places, loop_places, numbers, face_places, shell_places, places}

-- What a number names.

names_decided : (f : Contents) (number : ℤ) → Decided (Names f number)
names_decided f number = decided_bool _ true

has_form_decided : (kind : EntityKind) (form : ℤ) → Decided (HasForm kind form)
has_form_decided solid form = decided_int form (pos 0)
has_form_decided shell form = decided_int form (pos 1)
has_form_decided face form = decided_either (decided_int form (pos 0)) (decided_int form (pos 1))
has_form_decided «loop» form = decided_either (decided_int form (pos 0)) (decided_int form (pos 1))
has_form_decided edges form = decided_either (decided_int form (pos 0)) (decided_int form (pos 1))
has_form_decided vertices form = decided_either (decided_int form (pos 0)) (decided_int form (pos 1))

names_kind_decided : (kind : EntityKind) (f : Contents) (number : ℤ) → Decided (NamesKind kind f number)
names_kind_decided kind f number = decided_some_and (named f number) (λ e. (e.0.kind ≡ type_number kind) × HasForm kind e.0.form)
    (λ e. decided_both (decided_int e.0.kind (type_number kind)) (has_form_decided kind e.0.form))

has_record_decided : (kind : EntityKind) (f : Contents) (number : ℤ) → Decided (HasRecordOf kind f number)
has_record_decided kind f number = decided_some_and (named f number) (λ e. IsRecordOf kind e.1) (λ e. decided_by _ (decided kind e.1))

of_six : (P : EntityKind → Type 0) → (P solid × P shell × P face) × (P «loop» × P edges × P vertices) → (kind : EntityKind) → P kind
of_six P h solid = h.0.0
of_six P h shell = h.0.1
of_six P h face = h.0.2
of_six P h «loop» = h.1.0
of_six P h edges = h.1.1
of_six P h vertices = h.1.2

-- whether each of the six kinds is such
decided_kinds : (P : EntityKind → Type 0) → ((kind : EntityKind) → Decided (P kind)) → Decided ((kind : EntityKind) → P kind)
decided_kinds P each =
    decided_alike (of_six P) (λ h. ((h solid, h shell, h face), (h «loop», h edges, h vertices)))
    (decided_both (decided_three (each solid) (each shell) (each face)) (decided_three (each «loop») (each edges) (each vertices)))

names_geometry_decided : (f : Contents) (number : ℤ) → Decided (NamesGeometry f number)
names_geometry_decided f number =
    decided_some_and (named f number) (λ e. (kind : EntityKind) → ¬ (e.0.kind ≡ type_number kind))
    (λ e. decided_kinds (λ kind. ¬ (e.0.kind ≡ type_number kind)) (λ kind. decided_not (decided_int e.0.kind (type_number kind))))

index_decided : (z : ℤ) (n : ℕ) → Decided (IsIndex z n)
index_decided (negsuc m) n = inr (λ (k, e, low, high). cc)
index_decided (pos m) n = decided_alike (λ (low, high). (m, refl, low, high)) (λ (k, e, low, high). same_index k e low high)
    (decided_both (decided_within 1 m) (decided_within m n))
  where
    same_index : (k : ℕ) → pos m ≡ pos k → 1 ≤ k → k ≤ n → (1 ≤ m) × (m ≤ n)
    same_index k e low high = let same : k ≡ m = cc in (subst (λ x. 1 ≤ x) same low, subst (λ x. x ≤ n) same high)

-- Places.

entry_decided : (f : Contents) (entity : ℤ) (place : ℕ) (kind : EntityKind) (number : ℤ) → AreDecided (entry_places f entity place kind number)
entry_decided f entity place kind number = (names_decided f number, (names_kind_decided kind f number, tt))

record_decided : (f : Contents) (entity : ℤ) (place : ℕ) (kind : EntityKind) (number : ℤ) → AreDecided (record_places f entity place kind number)
record_decided f entity place kind number =
    decided-append (entry_places f entity place kind number) (obligation BadLayout (entry_number number) 0 (HasRecordOf kind f number) ∷ [])
    (entry_decided f entity place kind number) (has_record_decided kind f number, tt)

item_decided : (f : Contents) (entity : ℤ) (place : ℕ) (kind : EntityKind) (number index : ℤ) (count : ℕ)
    → AreDecided (item_places f entity place kind number index count)
item_decided f entity place kind number index count =
    decided-append (record_places f entity place kind number) (obligation BadIndex (entry_number entity) place (IsIndex index count) ∷ [])
    (record_decided f entity place kind number) (index_decided index count, tt)

edge_decided : (f : Contents) (e : ℤ) (j : ℕ) (t : Option EdgeTuple) → AreDecided (edge_places f e j t)
edge_decided f e j None = tt
edge_decided f e j (Some t) =
    let start = length (told vertices f t.start_list) in
    let last = length (told vertices f t.end_list) in
    decided-append ((obligation BadGeometry (entry_number e) j (NamesGeometry f t.curve) ∷ []) ++ item_places f e j vertices t.start_list t.start_index start)
    (item_places f e j vertices t.end_list t.end_index last)
    (decided-append (obligation BadGeometry (entry_number e) j (NamesGeometry f t.curve) ∷ []) (item_places f e j vertices t.start_list t.start_index start)
    (names_geometry_decided f t.curve, tt) (item_decided f e j vertices t.start_list t.start_index start))
    (item_decided f e j vertices t.end_list t.end_index last)

used_decided : (f : Contents) (l : ℤ) (place : ℕ) (v j : ℤ) (is_vertex : Bool) → AreDecided (used_places f l place v j is_vertex)
used_decided f l place v j true = item_decided f l place vertices v j (length (told vertices f v))
used_decided f l place e j false =
    decided-append (item_places f l place edges e j (length (told edges f e))) (edge_places f e (entry_number j) (edge_at f e (entry_number j)))
    (item_decided f l place edges e j (length (told edges f e))) (edge_decided f e (entry_number j) (edge_at f e (entry_number j)))

curves_decided : (f : Contents) (curves : List (Bool × ℤ)) → Decided (All (λ (c : Bool × ℤ). NamesGeometry f c.1) curves)
curves_decided f curves =
    decided_alike (λ h. All-from_recursion (λ (c : Bool × ℤ). NamesGeometry f c.1) curves h)
    (λ h. recursion_from_All (λ (c : Bool × ℤ). NamesGeometry f c.1) curves h)
    (decided_all (λ (c : Bool × ℤ). NamesGeometry f c.1) (λ c. names_geometry_decided f c.1) curves)

tuple_decided : (f : Contents) (l : ℤ) (before : List LoopTuple) (t : LoopTuple) → AreDecided (tuple_places f l before t)
unfolding tuple_places
tuple_decided f l before t =
    let place = length before + 1 in
    decided-append (used_places f l place t.«list» t.index t.is_vertex)
    (obligation BadGeometry (entry_number l) place (All (λ (c : Bool × ℤ). NamesGeometry f c.1) t.curves) ∷ [])
    (used_decided f l place t.«list» t.index t.is_vertex) (curves_decided f t.curves, tt)

fresh_decided : (known : List ℤ) (number : ℤ) → Decided (¬ Contains known number)
fresh_decided known number = decided_not (decided_contains decided_int known number)

loop_decided : (f : Contents) (c : ℤ) (used before : List ℤ) (l : ℤ) → AreDecided (loop_places f c used before l)
unfolding loop_places
loop_decided f c used before l =
    let place = length before + 1 in
    let known = used ++ before in
    decided-append (record_places f c place «loop» l ++ (obligation Twice (entry_number c) place (¬ Contains known l) ∷ []))
    (after_each (tuple_places f l) [] (tuples f l))
    (decided-append (record_places f c place «loop» l) (obligation Twice (entry_number c) place (¬ Contains known l) ∷ []) (record_decided f c place «loop» l)
    (fresh_decided known l, tt))
    (decided-after_each (tuple_places f l) (tuple_decided f l) [] (tuples f l))

face_decided : (f : Contents) (s : ℤ) (used : List ℤ) (before : List (ℤ × Bool)) (item : ℤ × Bool) → AreDecided (face_places f s used before item)
unfolding face_places
face_decided f s used before item =
    let place = length before + 1 in
    let known = used ++ numbers before in
    let c = item.0 in
    let own = obligation Twice (entry_number s) place (¬ Contains known c) ∷ obligation BadGeometry (entry_number c) 0
    (let items = told face f c in NamesGeometry f items.surface) ∷ [] in
    decided-append (record_places f s place face c ++ own) (after_each (loop_places f c (flat_map (loops f) known)) [] (loops f c))
    (decided-append (record_places f s place face c) own (record_decided f s place face c)
    (fresh_decided known c, ((let items = told face f c in names_geometry_decided f items.surface), tt)))
    (decided-after_each (loop_places f c (flat_map (loops f) known)) (loop_decided f c (flat_map (loops f) known)) [] (loops f c))

shell_decided : (f : Contents) (n : ℤ) (before : List (ℤ × Bool)) (item : ℤ × Bool) → AreDecided (shell_places f n before item)
unfolding shell_places
shell_decided f n before item =
    let place = length before + 1 in
    let known = numbers before in
    let s = item.0 in
    let used = flat_map (λ b. numbers (faces f b)) known in
    decided-append (record_places f n place shell s ++ (obligation Twice (entry_number n) place (¬ Contains known s) ∷ []))
    (after_each (face_places f s used) [] (faces f s))
    (decided-append (record_places f n place shell s) (obligation Twice (entry_number n) place (¬ Contains known s) ∷ []) (record_decided f n place shell s)
    (fresh_decided known s, tt))
    (decided-after_each (face_places f s used) (face_decided f s used) [] (faces f s))

pub places_decided : (f : Contents) (n : ℕ) → AreDecided (places f n)
unfolding places
places_decided f n =
    decided-append (record_places f (pos n) 0 solid (pos n)) (after_each (shell_places f (pos n)) [] (shells f (pos n)))
    (record_decided f (pos n) 0 solid (pos n)) (decided-after_each (shell_places f (pos n)) (shell_decided f (pos n)) [] (shells f (pos n)))

-- Places of a shell that may be open.

names_shell_decided : (f : Contents) (number : ℤ) → Decided (NamesShell f number)
names_shell_decided f number = decided_some_and (named f number) (λ e. (e.0.kind ≡ type_number shell) × ((e.0.form ≡ pos 1) ⊎ (e.0.form ≡ pos 2)))
    (λ e. decided_both (decided_int e.0.kind (type_number shell)) (decided_either (decided_int e.0.form (pos 1)) (decided_int e.0.form (pos 2))))

pub open_places_decided : (f : Contents) (n : ℕ) → AreDecided (open_places f n)
unfolding open_places
open_places_decided f n =
    decided-append (shell_record_places f n) (after_each (face_places f (pos n) []) [] (faces f (pos n)))
    (names_decided f (pos n), (names_shell_decided f (pos n), (has_record_decided shell f (pos n), tt)))
    (decided-after_each (face_places f (pos n) []) (face_decided f (pos n) []) [] (faces f (pos n)))
