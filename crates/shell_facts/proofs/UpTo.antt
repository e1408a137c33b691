-- The shells rise along the places of a vertex, so those up to a shell come first.
use Rattle.std.specs.Prelude.{◌≡◌, ◌<◌, ◌≤◌, ◌+◌, ◌==◌, ℕ, zero, suc, Bool, true, false, List, [], ◌∷◌, ◌++◌, length, map, flat_map, take, slice_get, Option}
use Rattle.std.specs.Prelude.{Some, None, All, if◌then◌else◌}
use Rattle.std.specs.List.{enumerate_from}
use Rattle.std.specs.List.Sorted.{IsNonDecreasingBy, IsPartitionPoint}
use Rattle.std.proofs.Common.{refl, sym, ◌∙◌, ap, subst, arith, inl, inr, get_or}
use Rattle.std.proofs.lemmas.Bool.{le-ltb, lt-ltb}
use Rattle.std.proofs.lemmas.List.{length-map}
use Rattle.std.proofs.lemmas.Option.{slice_get-get_or}
use Rattle.std.proofs.lemmas.List.Elements.{All-take}
use Rattle.iges_base.specs.declared.entry_no.EntryNo.{EntryNo}
use Rattle.solid_data.specs.Ring.{numbers_from}
use Rattle.solid_data.specs.SolidData.{SolidData, occurring}
use Rattle.solid_data.specs.declared.solid.FaceUse.{FaceUse}
use Rattle.solid_data.specs.declared.solid.Shell.{Shell}
use Rattle.solid_data.proofs.Members.{Has, has_map, from_flat_map, get_some, get_single, length-singles}
use Rattle.solid_data.proofs.Occurs.{all_at}
use Rattle.edge_uses.specs.Before.{face_vertices}
use Rattle.shell_components.specs.Groups.{place_if, places_of}
use Rattle.shell_facts.proofs.PartSteps.{all_from}
use Rattle.shell_facts.proofs.FaceSteps.{kept_at, kept_from, told_up_to}
use Rattle.shell_facts.proofs.AtPlaces.{place_below}
use Rattle.shell_facts.specs.FaceTable.{at_vertex, face_touches, shell_touches, touches_of, vertex_of, listed_at, listed_from, shell_if, shell_there}
use Rattle.shell_facts.specs.VertexFaces.{faces_up_to}
use Rattle.shell_facts.specs.declared.faces.FaceAtVertex.{FaceAtVertex}

-- n doesn't fall along the list, and is nowhere below b
abbrev Along : {A : Type 0} → (A → ℕ) → ℕ → List A → Type 0
Along n b [] = Unit {0}
Along n b (x ∷ xs) = (b ≤ n x) × Along n (n x) xs

along_lower : {A : Type 0} (n : A → ℕ) (a b : ℕ) (xs : List A) → a ≤ b → Along n b xs → Along n a xs
along_lower n a b [] le h = tt
along_lower n a b (x ∷ xs) le h = (omega (arith, le, h.0), h.1)

along_same : {A : Type 0} (n : A → ℕ) (b : ℕ) (xs ys : List A) → ((x : A) → Has xs x → n x ≡ b) → Along n b ys → Along n b (xs ++ ys)
along_same n b [] ys same h = h
along_same n b (x ∷ xs) ys same h =
    let e : n x ≡ b = same x (inl refl) in
    (omega (arith, e), subst (λ m. Along n m (xs ++ ys)) (sym e) (along_same n b xs ys (λ y m. same y (inr m)) h))

at_least : {A : Type 0} (n : A → ℕ) (b : ℕ) (xs : List A) (j : ℕ) (d : A) → Along n b xs → j < length xs → b ≤ n (get_or xs j d)
at_least n b [] j d h lt = absurd (omega (arith, lt))
at_least n b (x ∷ xs) zero d h lt = h.0
at_least n b (x ∷ xs) (suc j) d h lt = omega (arith, h.0, at_least n (n x) xs j d h.1 (omega (arith, lt)))

along_rises : {A : Type 0} (n : A → ℕ) (b : ℕ) (xs : List A) → Along n b xs → IsNonDecreasingBy n xs
along_rises n b [] h i j d le lt = absurd (omega (arith, lt))
along_rises n b (x ∷ xs) h zero zero d le lt = omega arith
along_rises n b (x ∷ xs) h zero (suc j) d le lt = at_least n (n x) xs j d h.1 (omega (arith, lt))
along_rises n b (x ∷ xs) h (suc i) zero d le lt = absurd (omega (arith, le))
along_rises n b (x ∷ xs) h (suc i) (suc j) d le lt = along_rises n (n x) xs h.1 i j d (omega (arith, le)) (omega (arith, lt))

abbrev shell_of : FaceAtVertex → ℕ
shell_of t = t.shell

one_shell : (s : SolidData) (i : ℕ) (h : Shell) (t : FaceAtVertex) → Has (shell_touches s (i, h)) t → shell_of t ≡ i
one_shell s i h t m =
    let face : (f : FaceUse) × Has h.faces f × Has (face_touches s i f) t = from_flat_map (face_touches s i) h.faces t m in
    let vertex : (v : ℕ) × Has (occurring (numbers_from 0 (length s.vertices)) (face_vertices s face.0)) v × (at_vertex i face.0.entity v ≡ t) =
    has_map (at_vertex i face.0.entity) (occurring (numbers_from 0 (length s.vertices)) (face_vertices s face.0)) t face.2 in
    sym (ap shell_of vertex.2)

touches_rise : (s : SolidData) (i : ℕ) (hs : List Shell) → Along shell_of i (flat_map (shell_touches s) (enumerate_from i hs))
touches_rise s i [] = tt
touches_rise s i (h ∷ hs) =
    along_same shell_of i (shell_touches s (i, h)) (flat_map (shell_touches s) (enumerate_from (i + 1) hs)) (one_shell s i h)
    (along_lower shell_of i (i + 1) (flat_map (shell_touches s) (enumerate_from (i + 1) hs)) (omega arith) (touches_rise s (i + 1) hs))

places_along : (v i b : ℕ) (ts all : List FaceAtVertex) → ((j : ℕ) → slice_get all (i + j) ≡ slice_get ts j) → Along shell_of b ts
    → Along (shell_there all) b (flat_map (place_if v) (enumerate_from i (map vertex_of ts)))
places_along v i b [] all at h = tt
places_along v i b (t ∷ ts) all at h =
    let z : i + 0 ≡ i = omega arith in
    by_test (t.vertex == v) (ap shell_if (sym (ap (λ n. slice_get all n) z) ∙ at 0)) h.0
    (places_along v (i + 1) t.shell ts all (λ j. let n : i + 1 + j ≡ i + suc j = omega arith in ap (λ n. slice_get all n) n ∙ at (suc j)) h.1)
  where
    by_test : (c : Bool) → shell_there all i ≡ t.shell → b ≤ t.shell
        → Along (shell_there all) t.shell (flat_map (place_if v) (enumerate_from (i + 1) (map vertex_of ts)))
        → Along (shell_there all) b ((if c then i ∷ [] else []) ++ flat_map (place_if v) (enumerate_from (i + 1) (map vertex_of ts)))
    by_test true here le more =
        (omega (arith, here, le), subst (λ m. Along (shell_there all) m (flat_map (place_if v) (enumerate_from (i + 1) (map vertex_of ts)))) (sym here) more)
    by_test false here le more = along_lower (shell_there all) b t.shell (flat_map (place_if v) (enumerate_from (i + 1) (map vertex_of ts))) le more

places_rise : (s : SolidData) (v : ℕ) (touches : List FaceAtVertex) → touches ≡ touches_of s
    → IsNonDecreasingBy (shell_there touches) (places_of v (map vertex_of touches))
places_rise s v touches are =
    along_rises (shell_there touches) 0 (places_of v (map vertex_of touches))
    (places_along v 0 0 touches touches (λ j. let z : 0 + j ≡ j = omega arith in ap (λ n. slice_get touches n) z)
    (subst (Along shell_of 0) (sym are) (touches_rise s 0 s.shells)))

-- a face, unless its shell comes later
abbrev unless_later : FaceAtVertex → Bool → List (ℕ × EntryNo)
unless_later t later = if later then [] else (t.shell, t.face) ∷ []

low_kept : (k : ℕ) (o : Option FaceAtVertex) → shell_if o ≤ k → kept_at k o ≡ listed_at o
low_kept k None le = refl
low_kept k (Some t) le = ap (unless_later t) (le-ltb k t.shell le)

high_kept : (k : ℕ) (o : Option FaceAtVertex) → k < shell_if o → kept_at k o ≡ []
high_kept k None lt = refl
high_kept k (Some t) lt = ap (unless_later t) (lt-ltb k t.shell lt)

none_kept : (k : ℕ) (ts : List FaceAtVertex) (ns : List ℕ) → ((j d : ℕ) → j < length ns → k < shell_there ts (get_or ns j d))
    → flat_map (kept_from k ts) ns ≡ []
none_kept k ts [] high = refl
none_kept k ts (n ∷ ns) high =
    ap (λ xs. xs ++ flat_map (kept_from k ts) ns) (high_kept k (slice_get ts n) (high 0 n (omega arith)))
    ∙ none_kept k ts ns (λ j d lt. high (suc j) d (omega (arith, lt)))

-- what is kept of the places is what the first ones list
first_kept : (k : ℕ) (ts : List FaceAtVertex) (ns : List ℕ) (c : ℕ) → IsPartitionPoint (λ n. shell_there ts n ≤ k) (λ n. k < shell_there ts n) ns c
    → flat_map (kept_from k ts) ns ≡ flat_map (listed_from ts) (take c ns)
first_kept k ts [] zero p = refl
first_kept k ts [] (suc c) p = refl
first_kept k ts (n ∷ ns) zero p = none_kept k ts (n ∷ ns) (λ j d lt. p.1 j d (omega arith) lt)
first_kept k ts (n ∷ ns) (suc c) p =
    ap (λ xs. xs ++ flat_map (kept_from k ts) ns) (low_kept k (slice_get ts n) (p.0 0 n (omega arith) (omega arith)))
    ∙ ap (λ xs. listed_from ts n ++ xs)
    (first_kept k ts ns c (
      (λ j d low high. p.0 (suc j) d (omega arith) (omega (arith, high))),
      (λ j d low high. p.1 (suc j) d (omega (arith, low)) (omega (arith, high))),
    ))

-- the first places of a vertex give the faces up to a shell
pub first_listed : (s : SolidData) (k v : ℕ) (touches : List FaceAtVertex) (places : List ℕ) (c : ℕ) → touches ≡ touches_of s
    → places ≡ places_of v (map vertex_of touches) → v < length s.vertices
    → (IsNonDecreasingBy (shell_there touches) places → IsPartitionPoint (λ n. shell_there touches n ≤ k) (λ n. k < shell_there touches n) places c)
    → flat_map (listed_from touches) (take c places) ≡ faces_up_to s k v
first_listed s k v touches places c are at lt point =
    sym (first_kept k touches places c (point (subst (IsNonDecreasingBy (shell_there touches)) (sym at) (places_rise s v touches are))))
    ∙ told_up_to s k v touches places are at lt

-- each of them is a place of the table
pub first_within : (v c : ℕ) (touches : List FaceAtVertex) (places : List ℕ) → places ≡ places_of v (map vertex_of touches)
    → All (λ n. n < length touches) (take c places)
first_within v c touches places at =
    All-take (λ n. n < length touches) c places
    (all_from (λ n. n < length touches) places
    (λ n m. omega (arith, length-map touches vertex_of, place_below v n (map vertex_of touches) (subst (λ ns. Has ns n) at m))))

listed_one : (ts : List FaceAtVertex) (n : ℕ) → n < length ts → length (listed_from ts n) ≡ 1
listed_one ts n lt = let t = get_some ts n lt in ap (λ o. length (listed_at o)) t.1

-- where each place is one of the table, as many faces are listed as there are places
pub count_listed : (ts : List FaceAtVertex) (ns : List ℕ) → All (λ n. n < length ts) ns → length (flat_map (listed_from ts) ns) ≡ length ns
count_listed ts ns within = length-singles (listed_from ts) ns (λ n m. listed_one ts n (all_at (λ n. n < length ts) ns n within m))

pub listed_at_place : (ts : List FaceAtVertex) (ns : List ℕ) (i : ℕ) (face : ℕ × EntryNo) → All (λ n. n < length ts) ns → i < length ns
    → listed_from ts (get_or ns i 0) ≡ face ∷ [] → slice_get (flat_map (listed_from ts) ns) i ≡ Some face
listed_at_place ts ns i face within lt is =
    get_single (listed_from ts) ns (λ n m. listed_one ts n (all_at (λ n. n < length ts) ns n within m)) i (get_or ns i 0) face (slice_get-get_or ns i 0 lt) is
