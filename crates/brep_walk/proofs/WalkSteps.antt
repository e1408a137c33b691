-- One step of a walk over a list.
use Rattle.std.specs.Prelude.{◌≡◌, ◌+◌, ◌≤◌, ℕ, zero, suc, ℤ, List, [], ◌∷◌, ◌++◌, map, flat_map, length, take, drop, slice_get, Some, Ok}
use Rattle.std.proofs.Common.{refl, sym, ◌∙◌, ap, subst, arith, append_assoc}
use Rattle.std.proofs.lemmas.List.{append-nil, map-append}
use Rattle.std.proofs.lemmas.Grind.{flat_map-append}
use Rattle.std.proofs.lemmas.Option.{same_Some, none-some}
use Rattle.iges_params.specs.Contents.{Contents}
use Rattle.brep_lists.specs.Record.{LoopTuple}
use Rattle.solid_data.specs.Obligations.{Obligation, AllHold, after_each}
use Rattle.solid_data.specs.SolidData.{same_edge, same_vertex}
use Rattle.solid_data.proofs.ObligationLemmas.{AllHold-append_left, AllHold-append_right, Remains, Remains-less}
use Rattle.solid_data.proofs.Members.{split_at}
use Rattle.brep_walk.specs.declared.fault.WalkFault.{WalkFault}
use Rattle.brep_walk.specs.Numbered.{Extends, IsMadeBy, keys_after}
use Rattle.brep_walk.specs.Places.{tuple_at, tuple_places}
use Rattle.brep_numbering.specs.Keys.{Keys}
use Rattle.brep_walk.specs.SolidOf.{edge_named, vertices_named}
use Rattle.brep_walk.specs.Stands.{Stands}
use Rattle.brep_walk.specs.Walked.{IsFault}
use Rattle.brep_walk.specs.Walks.{Walks}
use Rattle.brep_walk.specs.declared.state.WalkState.{WalkState}
use Rattle.brep_walk.proofs.Faults.{fault_front, fault_of}
use Rattle.brep_numbering.proofs.KeyPlaces.{insert_all-append, insert_all_more}
use Rattle.indexmap.specs.IndexSet.{insert_all}
use Rattle.brep_walk.proofs.Used.{Extends-trans}

-- Obligations.

pub remains_step : {A : Type 0} (g : List A → A → List Obligation) (before : List A) (x : A) (xs : List A) (all : List Obligation)
    → Remains (after_each g before (x ∷ xs)) all → AllHold (g before x)
    → Remains (after_each g (before ++ x ∷ []) xs) all
remains_step g before x xs all r h = Remains-less (g before x) (after_each g (before ++ x ∷ []) xs) all r h

pub remains_fault : {A : Type 0} (g : List A → A → List Obligation) (before : List A) (x : A) (xs : List A) (all : List Obligation) (w : WalkFault)
    → Remains (after_each g before (x ∷ xs)) all → IsFault (g before x) w
    → IsFault all w
remains_fault g before x xs all w r h = fault_of (after_each g before (x ∷ xs)) all w r (fault_front (g before x) (after_each g (before ++ x ∷ []) xs) w h)

pub tuple_in_place : (f : Contents) (l : ℤ) (before : List LoopTuple) (t : LoopTuple) (item : ℕ) → item ≡ length before + 1 → AllHold (tuple_at f l item t)
    → AllHold (tuple_places f l before t)
unfolding tuple_places
tuple_in_place f l before t item at h = subst (λ i. AllHold (tuple_at f l i t)) at h

pub tuple_fault : (f : Contents) (l : ℤ) (before : List LoopTuple) (t : LoopTuple) (item : ℕ) (w : WalkFault) → item ≡ length before + 1
    → IsFault (tuple_at f l item t) w → IsFault (tuple_places f l before t) w
unfolding tuple_places
tuple_fault f l before t item w at h = subst (λ i. IsFault (tuple_at f l i t) w) at h

within : {A : Type 0} (g : List A → A → List Obligation) (front before : List A) (x : A) (xs : List A) → AllHold (after_each g front (before ++ x ∷ xs))
    → AllHold (g (front ++ before) x)
within g front [] x xs h = subst (λ b. AllHold (g b x)) (sym (append-nil front)) (AllHold-append_left (g front x) (after_each g (front ++ x ∷ []) xs) h)
within g front (y ∷ ys) x xs h = subst (λ b. AllHold (g b x)) (append_assoc front (y ∷ []) ys)
    (within g (front ++ y ∷ []) ys x xs (AllHold-append_right (g front y) (after_each g (front ++ y ∷ []) (ys ++ x ∷ xs)) h))

-- one of the tuples of which all is known to hold
pub tuple_known : (f : Contents) (l : ℤ) (all before rest : List LoopTuple) (t : LoopTuple) (item : ℕ) → before ++ t ∷ rest ≡ all → item ≡ length before + 1
    → AllHold (after_each (tuple_places f l) [] all) → AllHold (tuple_at f l item t)
unfolding tuple_places
tuple_known f l all before rest t item is at h = subst (λ i. AllHold (tuple_at f l i t)) (sym at)
    (within (tuple_places f l) [] before t rest (subst (λ ts. AllHold (after_each (tuple_places f l) [] ts)) (sym is) h))

-- Keys.

pub keys_append : (f : Contents) (keys : Keys) (xs ys : List LoopTuple) → keys_after f keys (xs ++ ys) ≡ keys_after f (keys_after f keys xs) ys
keys_append f keys xs ys = λ j. record {
  edges = (ap (λ ks. insert_all same_edge keys.edges ks) (flat_map-append edge_named xs ys) ∙ insert_all-append same_edge keys.edges (flat_map edge_named xs)
      (flat_map edge_named ys)) j;
  vertices = (ap (λ ks. insert_all same_vertex keys.vertices ks) (flat_map-append (vertices_named f) xs ys) ∙ insert_all-append same_vertex keys.vertices
      (flat_map (vertices_named f) xs) (flat_map (vertices_named f) ys)) j;
}

pub keys_extend : (f : Contents) (keys : Keys) (ts : List LoopTuple) → Extends keys (keys_after f keys ts)
keys_extend f keys ts =
    let a = insert_all_more same_edge keys.edges (flat_map edge_named ts) in
    let b = insert_all_more same_vertex keys.vertices (flat_map (vertices_named f) ts) in
    record { more_edges = a.0; edges = a.1; more_vertices = b.0; vertices = b.1 }

-- What was made.

pub made_none : {A B : Type 0} (F : Keys → A → B) (keys : Keys) → IsMadeBy keys (λ k. map (F k) []) []
made_none F keys later more = refl

pub made_step : {A B : Type 0} (F : Keys → A → B) (old new : Keys) → Extends old new → (xs : List A) (x : A) (out : List B) (b : B)
    → IsMadeBy old (λ k. map (F k) xs) out → IsMadeBy new (λ k. F k x) b
    → IsMadeBy new (λ k. map (F k) (xs ++ x ∷ [])) (out ++ b ∷ [])
made_step F old new grown xs x out b before here later more =
    ap (λ bs. bs ++ b ∷ []) (before later (Extends-trans old new later grown more))
    ∙ (ap (λ y. map (F later) xs ++ y ∷ []) (here later more) ∙ sym (map-append (F later) xs (x ∷ [])))

pub keys_step : (f g : Contents) → g ≡ f → (start old new : Keys) (xs rest more all : List LoopTuple) → more ≡ xs ++ rest
    → keys_after f old more ≡ keys_after f start all → new ≡ keys_after g old xs
    → keys_after f new rest ≡ keys_after f start all
keys_step f g same start old new xs rest more all split before step =
    ap (λ k. keys_after f k rest) (step ∙ ap (λ h. keys_after h old xs) same)
    ∙ (sym (keys_append f old xs rest) ∙ (ap (keys_after f old) (sym split) ∙ before))

pub keys_grow : (f : Contents) (old new : Keys) (xs : List LoopTuple) → new ≡ keys_after f old xs → Extends old new
keys_grow f old new xs e = subst (Extends old) (sym e) (keys_extend f old xs)

-- one more that was yielded
pub left_step : {A : Type 0} (yielded left rest all : List A) (x : A) → yielded ++ left ≡ all → left ≡ x ∷ rest → (yielded ++ x ∷ []) ++ rest ≡ all
left_step yielded left rest all x before step = append_assoc yielded (x ∷ []) rest ∙ (ap (λ xs. yielded ++ xs) (sym step) ∙ before)

-- the obligations that are left once one more holds
pub remains_next : {A : Type 0} (g : List A → A → List Obligation) (before left rest : List A) (x : A) (all : List Obligation) → left ≡ x ∷ rest
    → Remains (after_each g before left) all → AllHold (g before x)
    → Remains (after_each g (before ++ x ∷ []) rest) all
remains_next g before left rest x all step r h = remains_step g before x rest all (subst (λ xs. Remains (after_each g before xs) all) step r) h

pub fault_next : {A : Type 0} (g : List A → A → List Obligation) (before left rest : List A) (x : A) (all : List Obligation) (w : WalkFault) → left ≡ x ∷ rest
    → Remains (after_each g before left) all
    → IsFault (g before x) w → IsFault all w
fault_next g before left rest x all w step r h = remains_fault g before x rest all w (subst (λ xs. Remains (after_each g before xs) all) step r) h

pub made_last : {A B : Type 0} (F : Keys → A → B) (old new : Keys) → Extends old new → (xs : List A) (x : A) (out : List B) (b : B) (pushed : List B)
    → IsMadeBy old (λ k. map (F k) xs) out
    → IsMadeBy new (λ k. F k x) b → pushed ≡ out ++ b ∷ [] → IsMadeBy new (λ k. map (F k) (xs ++ x ∷ [])) pushed
made_last F old new grown xs x out b pushed before here is later more = is ∙ made_step F old new grown xs x out b before here later more

-- A walk by places: the i-th item comes next.

pub take_next : {A : Type 0} (xs : List A) (i : ℕ) (x : A) → slice_get xs i ≡ Some x → take (i + 1) xs ≡ take i xs ++ x ∷ []
take_next [] i x h = absurd (none-some x h)
take_next (y ∷ xs) zero x h = ap (λ z. z ∷ []) (same_Some y x h)
take_next (y ∷ xs) (suc i) x h = let e : suc i + 1 ≡ suc (i + 1) = omega arith in ap (λ n. take n (y ∷ xs)) e ∙ ap (λ zs. y ∷ zs) (take_next xs i x h)

pub place_next : {A : Type 0} (xs : List A) (i : ℕ) (x : A) → slice_get xs i ≡ Some x → i + 1 ≡ length (take i xs) + 1
place_next [] i x h = absurd (none-some x h)
place_next (y ∷ xs) zero x h = refl
place_next (y ∷ xs) (suc i) x h = omega (arith, place_next xs i x h)

-- g is the file behind the lists so far, and y the item as a call was given it
pub keys_next : (f g : Contents) → g ≡ f → {A : Type 0} (T : Contents → A → List LoopTuple) (start old new : Keys) (all : List A) (i : ℕ) (x y : A)
    → slice_get all i ≡ Some x → y ≡ x
    → keys_after f old (flat_map (T f) (drop i all)) ≡ keys_after f start (flat_map (T f) all) → new ≡ keys_after g old (T g y)
    → keys_after f new (flat_map (T f) (drop (i + 1) all)) ≡ keys_after f start (flat_map (T f) all)
keys_next f g same T start old new all i x y at is before step =
    keys_step f f refl start old new (T f x) (flat_map (T f) (drop (i + 1) all)) (flat_map (T f) (drop i all)) (flat_map (T f) all)
    (ap (flat_map (T f)) (split_at all i x at)) before (step ∙ (ap (λ h. keys_after h old (T h y)) same ∙ ap (λ z. keys_after f old (T f z)) is))

pub made_next : (f g : Contents) → g ≡ f → {A B : Type 0} (F : Contents → Keys → A → B) (old new : Keys) (ts : List LoopTuple) → new ≡ keys_after g old ts
    → (all : List A) (i : ℕ) (x y : A) → slice_get all i ≡ Some x → y ≡ x
    → (out : List B) (b : B) (pushed : List B) → IsMadeBy old (λ k. map (F f k) (take i all)) out → IsMadeBy new (λ k. F g k y) b → pushed ≡ out ++ b ∷ []
    → IsMadeBy new (λ k. map (F f k) (take (i + 1) all)) pushed
made_next f g same F old new ts step all i x y at is out b pushed before here last =
    subst (λ xs. IsMadeBy new (λ k. map (F f k) xs) pushed) (sym (take_next all i x at))
    (made_last (F f) old new (keys_grow g old new ts step) (take i all) x out b pushed before
    (subst (λ z. IsMadeBy new (λ k. F f k z) b) is (subst (λ h. IsMadeBy new (λ k. F h k y) b) same here)) last)

pub remains_at : {A : Type 0} (g : List A → A → List Obligation) (items : List A) (i : ℕ) (x : A) (all : List Obligation) → slice_get items i ≡ Some x
    → Remains (after_each g (take i items) (drop i items)) all
    → AllHold (g (take i items) x) → Remains (after_each g (take (i + 1) items) (drop (i + 1) items)) all
remains_at g items i x all at r h =
    subst (λ b. Remains (after_each g b (drop (i + 1) items)) all) (sym (take_next items i x at))
    (remains_next g (take i items) (drop i items) (drop (i + 1) items) x all (split_at items i x at) r h)

pub fault_at : {A : Type 0} (g : List A → A → List Obligation) (items : List A) (i : ℕ) (x : A) (all : List Obligation) (w : WalkFault)
    → slice_get items i ≡ Some x → Remains (after_each g (take i items) (drop i items)) all
    → IsFault (g (take i items) x) w → IsFault all w
fault_at g items i x all w at r h = fault_next g (take i items) (drop i items) (drop (i + 1) items) x all w (split_at items i x at) r h

-- numbers that were named, and one more
pub named_next : {A : Type 0} (number : A → ℤ) (used old new : List ℤ) (all : List A) (i : ℕ) (x : A) (y : ℤ) → slice_get all i ≡ Some x → y ≡ number x
    → old ≡ used ++ map number (take i all) → new ≡ old ++ y ∷ []
    → new ≡ used ++ map number (take (i + 1) all)
named_next number used old new all i x y at same before is =
    is ∙ (ap (λ zs. zs ++ y ∷ []) before ∙ (append_assoc used (map number (take i all)) (y ∷ []) ∙ (ap (λ z. used ++ (map number (take i all) ++ z ∷ [])) same
    ∙ ap (λ zs. used ++ zs) (sym (map-append number (take i all) (x ∷ [])) ∙ sym (ap (map number) (take_next all i x at))))))

pub take_past : {A : Type 0} (xs : List A) (n : ℕ) → length xs ≤ n → take n xs ≡ xs
take_past [] zero h = refl
take_past [] (suc n) h = refl
take_past (x ∷ xs) zero h = absurd (omega (arith, h))
take_past (x ∷ xs) (suc n) h = ap (λ ys. x ∷ ys) (take_past xs n (omega (arith, h)))

-- A walk of tuples that a callee has made. g is the file behind its lists, and T tells the tuples.
pub walks_so : (before after : WalkState) {X : Type 0} (x : X) (g : Contents) → g ≡ before.lists → (T : Contents → List LoopTuple) (ts : List LoopTuple)
    → T before.lists ≡ ts → after.lists ≡ g → Stands g after.lists after.numbering → after.numbering.keys ≡ keys_after g before.numbering.keys (T g)
    → Walks before after (Ok x) ts
walks_so before after x g same T ts is file stands keys = record {
  file = file ∙ same;
  stands = subst (λ h. Stands h after.lists after.numbering) same stands;
  keys = keys ∙ (ap (λ h. keys_after h before.numbering.keys (T h)) same ∙ ap (keys_after before.lists before.numbering.keys) is);
}
