-- The table of the faces at each vertex, and what is told from it.
use Rattle.std.specs.Prelude.{◌≡◌, ◌<◌, ◌≤◌, ◌+◌, ◌*◌, ◌==◌, ◌⊎◌, ◌^◌, nat_lt, ℕ, zero, suc, Bool, true, false, List, [], ◌∷◌, ◌++◌, length, map, flat_map}
use Rattle.std.specs.Prelude.{slice_get, Option, Some, None, All, if◌then◌else◌}
use Rattle.std.specs.List.{enumerate_from, list_any}
use Rattle.std.proofs.Common.{refl, sym, ◌∙◌, ap, subst, arith, inl, inr, ⊎_elim}
use Rattle.std.proofs.lemmas.Bool.Decides.{eqb_tells}
use Rattle.std.proofs.lemmas.Grind.{flat_map-append}
use Rattle.std.proofs.lemmas.List.{append-nil, length-append, length-map}
use Rattle.iges_base.specs.declared.entry_no.EntryNo.{EntryNo}
use Rattle.solid_data.specs.Numbering.{IsNumberedSolid}
use Rattle.solid_data.specs.Ring.{numbers_from}
use Rattle.solid_data.specs.SolidData.{SolidData, occurring, shell_uses}
use Rattle.solid_data.specs.declared.solid.FaceUse.{FaceUse}
use Rattle.solid_data.specs.declared.solid.Shell.{Shell}
use Rattle.solid_data.proofs.Members.{Has, rises_none, no_longer, has_get, has_map, from_flat_map}
use Rattle.solid_data.proofs.Occurring.{numbers_rise, occurring_rises, number_below}
use Rattle.solid_data.specs.Ranges.{IsWithin}
use Rattle.solid_data.specs.declared.spanning.Span.{Span}
use Rattle.solid_data.proofs.Occurs.{from_occurring}
use Rattle.edge_uses.specs.Before.{face_vertices, faces_vertices}
use Rattle.edge_uses.proofs.Above.{shell_flat}
use Rattle.edge_uses.proofs.Whole.{vertices_known, vertices_shorter}
use Rattle.shell_components.specs.Groups.{places_of}
use Rattle.solid_faults.proofs.GapSteps.{flat_of_map}
use Rattle.shell_facts.proofs.PartSteps.{all_from}
use Rattle.shell_facts.proofs.AtPlaces.{places_read}
use Rattle.shell_facts.specs.FaceTable.{at_vertex, face_touches, shell_touches, touches_of, vertex_of}
use Rattle.shell_facts.specs.VertexFaces.{face_if, numbered_faces, faces_up_to}
use Rattle.shell_facts.specs.declared.faces.FaceAtVertex.{FaceAtVertex}

pub known_vertices : (s : SolidData) (k : ℕ) (h : Shell) → IsNumberedSolid s → slice_get s.shells k ≡ Some h
    → All (λ v. v < length s.vertices) (faces_vertices s h)
known_vertices s k h numbered at = all_from (λ v. v < length s.vertices) (faces_vertices s h)
    (λ x m. vertices_known s h numbered (has_get s.shells k h at) x (subst (λ ys. Has ys x) (sym (shell_flat s h)) m))

-- a face that is there, where its shell isn't after the last one
abbrev pub kept_at : ℕ → Option FaceAtVertex → List (ℕ × EntryNo)
kept_at last None = []
kept_at last (Some t) = if nat_lt last t.shell then [] else (t.shell, t.face) ∷ []

abbrev pub kept_from : ℕ → List FaceAtVertex → ℕ → List (ℕ × EntryNo)
kept_from last ts n = kept_at last (slice_get ts n)

-- a touch at this vertex, of a shell up to k
abbrev pub touch_if : ℕ → ℕ → FaceAtVertex → List (ℕ × EntryNo)
touch_if k v t = if t.vertex == v then kept_at k (Some t) else []

touches_from : (k v : ℕ) (ts : List FaceAtVertex) → flat_map (kept_from k ts) (places_of v (map vertex_of ts)) ≡ flat_map (touch_if k v) ts
touches_from k v ts = places_read v vertex_of (kept_at k) ts

-- Of numbers that occur, those that are v.

none_of : {B : Type 0} (v base m : ℕ) (xs : List ℕ) (y : List B) → v < base → flat_map (λ w. if w == v then y else []) (occurring (numbers_from base m) xs) ≡ []
none_of v base zero xs y lt = refl
none_of v base (suc m) xs y lt = by_test (list_any (λ a. a == base) xs) (none_of v (base + 1) m xs y (omega (arith, lt))) (eqb_tells base v)
  where
    by_test : (b : Bool) → flat_map (λ w. if w == v then y else []) (occurring (numbers_from (base + 1) m) xs) ≡ []
        → (((base == v) ≡ true) × (base ≡ v)) ⊎ (((base == v) ≡ false) × (base ≡ v → ⊥))
        → flat_map (λ w. if w == v then y else []) (if b then base ∷ occurring (numbers_from (base + 1) m) xs else occurring (numbers_from (base + 1) m) xs)
        ≡ []
    by_test false r h = r
    by_test true r (inl h) = absurd (omega (arith, h.1, lt))
    by_test true r (inr h) = ap (λ b. (if b then y else []) ++ flat_map (λ w. if w == v then y else []) (occurring (numbers_from (base + 1) m) xs)) h.0 ∙ r

one_of : {B : Type 0} (v base m : ℕ) (xs : List ℕ) (y : List B) → base ≤ v → v < base + m
    → flat_map (λ w. if w == v then y else []) (occurring (numbers_from base m) xs) ≡ (if list_any (λ a. a == v) xs then y else [])
one_of v base zero xs y le lt = absurd (omega (arith, le, lt))
one_of v base (suc m) xs y le lt = ⊎_elim
    (λ same. subst (λ n. flat_map (λ w. if w == n then y else []) (occurring (numbers_from base (suc m)) xs) ≡ (if list_any (λ a. a == n) xs then y else []))
    same.1
    (here (list_any (λ a. a == base) xs) (none_of base (base + 1) m xs y (omega arith)) (self base)))
    (λ other. there (list_any (λ a. a == base) xs) other.0 (one_of v (base + 1) m xs y (omega (arith, le, other.1)) (omega (arith, lt))))
    (eqb_tells base v)
  where
    self : (n : ℕ) → (n == n) ≡ true
    self n = ⊎_elim (λ h. h.0) (λ h. absurd (h.1 refl)) (eqb_tells n n)

    here : (b : Bool) → flat_map (λ w. if w == base then y else []) (occurring (numbers_from (base + 1) m) xs) ≡ [] → (base == base) ≡ true
        → flat_map (λ w. if w == base then y else []) (if b then base ∷ occurring (numbers_from (base + 1) m) xs else occurring (numbers_from (base + 1) m) xs)
        ≡ (if b then y else [])
    here true r e = ap (λ b. (if b then y else []) ++ flat_map (λ w. if w == base then y else []) (occurring (numbers_from (base + 1) m) xs)) e
        ∙ (ap (λ zs. y ++ zs) r ∙ append-nil y)
    here false r e = r

    there : (b : Bool) → (base == v) ≡ false → flat_map (λ w. if w == v then y else []) (occurring (numbers_from (base + 1) m) xs)
        ≡ (if list_any (λ a. a == v) xs then y else [])
        → flat_map (λ w. if w == v then y else []) (if b then base ∷ occurring (numbers_from (base + 1) m) xs else occurring (numbers_from (base + 1) m) xs)
        ≡ (if list_any (λ a. a == v) xs then y else [])
    there true e r = ap (λ b. (if b then y else []) ++ flat_map (λ w. if w == v then y else []) (occurring (numbers_from (base + 1) m) xs)) e ∙ r
    there false e r = r

-- a face at the vertex, where its shell isn't behind k
face_told : (s : SolidData) (k v j : ℕ) (f : FaceUse) → v < length s.vertices → flat_map (touch_if k v) (face_touches s j f)
    ≡ (if nat_lt k j then [] else map (λ e. (j, e)) (face_if s v f))
face_told s k v j f lt =
    let low : 0 ≤ v = omega arith in
    let high : v < 0 + length s.vertices = omega (arith, lt) in
    let there : List (ℕ × EntryNo) = if nat_lt k j then [] else (j, f.entity) ∷ [] in
    flat_of_map (touch_if k v) (at_vertex j f.entity) (occurring (numbers_from 0 (length s.vertices)) (face_vertices s f))
    ∙ (one_of v 0 (length s.vertices) (face_vertices s f) there low high
    ∙ by_tests (nat_lt k j) (list_any (λ a. a == v) (face_vertices s f)))
  where
    by_tests : (behind has : Bool) → ◌≡◌ {A = List (ℕ × EntryNo)} (if has then (if behind then [] else (j, f.entity) ∷ []) else [])
        (if behind then [] else map {B = ℕ × EntryNo} (λ (e : EntryNo). (j, e)) (if has then f.entity ∷ [] else []))
    by_tests true true = refl
    by_tests true false = refl
    by_tests false true = refl
    by_tests false false = refl

map_append : {A B : Type 0} (g : A → B) (xs ys : List A) → map g (xs ++ ys) ≡ map g xs ++ map g ys
map_append g [] ys = refl
map_append g (x ∷ xs) ys = ap (λ zs. g x ∷ zs) (map_append g xs ys)

faces_told : (s : SolidData) (k v j : ℕ) (fs : List FaceUse) → v < length s.vertices → flat_map (touch_if k v) (flat_map (face_touches s j) fs)
    ≡ (if nat_lt k j then [] else map (λ e. (j, e)) (flat_map (face_if s v) fs))
faces_told s k v j [] lt = by_test (nat_lt k j)
  where
    by_test : (b : Bool) → ◌≡◌ {A = List (ℕ × EntryNo)} [] (if b then [] else map {B = ℕ × EntryNo} (λ (e : EntryNo). (j, e)) [])
    by_test true = refl
    by_test false = refl
faces_told s k v j (f ∷ fs) lt =
    let here : List (ℕ × EntryNo) = if nat_lt k j then [] else map (λ e. (j, e)) (face_if s v f) in
    flat_map-append (touch_if k v) (face_touches s j f) (flat_map (face_touches s j) fs)
    ∙ (ap (λ xs. xs ++ flat_map (touch_if k v) (flat_map (face_touches s j) fs)) (face_told s k v j f lt)
    ∙ (ap (λ (xs : List (ℕ × EntryNo)). here ++ xs) (faces_told s k v j fs lt)
    ∙ by_test (nat_lt k j) (map_append {B = ℕ × EntryNo} (λ (e : EntryNo). (j, e)) (face_if s v f) (flat_map (face_if s v) fs))))
  where
    by_test : (b : Bool) → map {B = ℕ × EntryNo} (λ (e : EntryNo). (j, e)) (face_if s v f ++ flat_map (face_if s v) fs)
        ≡ map {B = ℕ × EntryNo} (λ (e : EntryNo). (j, e)) (face_if s v f) ++ map {B = ℕ × EntryNo} (λ (e : EntryNo). (j, e)) (flat_map (face_if s v) fs)
        → (if b then [] else map {B = ℕ × EntryNo} (λ (e : EntryNo). (j, e)) (face_if s v f))
        ++ (if b then [] else map {B = ℕ × EntryNo} (λ (e : EntryNo). (j, e)) (flat_map (face_if s v) fs))
        ≡ (if b then [] else map {B = ℕ × EntryNo} (λ (e : EntryNo). (j, e)) (face_if s v f ++ flat_map (face_if s v) fs))
    by_test true e = refl
    by_test false e = sym e

shells_told : (s : SolidData) (k v i : ℕ) (hs : List Shell) → v < length s.vertices
    → flat_map (touch_if k v) (flat_map (shell_touches s) (enumerate_from i hs)) ≡ flat_map (numbered_faces s k v) (enumerate_from i hs)
shells_told s k v i [] lt = refl
shells_told s k v i (h ∷ hs) lt =
    flat_map-append (touch_if k v) (shell_touches s (i, h)) (flat_map (shell_touches s) (enumerate_from (i + 1) hs))
    ∙ (ap (λ xs. xs ++ flat_map (touch_if k v) (flat_map (shell_touches s) (enumerate_from (i + 1) hs))) (faces_told s k v i h.faces lt)
    ∙ ap (λ xs. numbered_faces s k v (i, h) ++ xs) (shells_told s k v (i + 1) hs lt))

-- what the table tells of a vertex
pub told_up_to : (s : SolidData) (k v : ℕ) (touches : List FaceAtVertex) (places : List ℕ) → touches ≡ touches_of s
    → places ≡ places_of v (map vertex_of touches) → v < length s.vertices
    → flat_map (kept_from k touches) places ≡ faces_up_to s k v
told_up_to s k v touches places are at lt =
    ap (λ ps. flat_map (kept_from k touches) ps) at
    ∙ (touches_from k v touches
    ∙ (ap (λ ts. flat_map (touch_if k v) ts) are ∙ shells_told s k v 0 s.shells lt))

-- The table has few lines, each at a vertex of the solid.

occurring_fits : (n : ℕ) (xs : List ℕ) → length (occurring (numbers_from 0 n) xs) ≤ length xs
occurring_fits n xs =
    no_longer (occurring (numbers_from 0 n) xs) xs (rises_none (occurring (numbers_from 0 n) xs) (occurring_rises (numbers_from 0 n) xs (numbers_rise 0 n)))
    (λ x m. from_occurring (numbers_from 0 n) xs x m)

-- what occurs is one of the numbers that are looked for
occurring_from : (ns xs : List ℕ) (v : ℕ) → Has (occurring ns xs) v → Has ns v
occurring_from [] xs v h = absurd h
occurring_from (n ∷ ns) xs v h = by_test (list_any (λ m. m == n) xs) h (λ m. occurring_from ns xs v m)
  where
    by_test : (b : Bool) → Has (if b then n ∷ occurring ns xs else occurring ns xs) v → (Has (occurring ns xs) v → Has ns v) → (n ≡ v) ⊎ Has ns v
    by_test true (inl e) more = inl e
    by_test true (inr m) more = inr (more m)
    by_test false m more = inr (more m)

faces_fit : (s : SolidData) (j : ℕ) (fs : List FaceUse) → length (flat_map (face_touches s j) fs) ≤ length (flat_map (face_vertices s) fs)
faces_fit s j [] = omega arith
faces_fit s j (f ∷ fs) =
    omega (
      arith,
      faces_fit s j fs,
      occurring_fits (length s.vertices) (face_vertices s f),
      length-map
          (occurring (numbers_from 0 (length s.vertices)) (face_vertices s f)) (at_vertex j f.entity),
      length-append (face_touches s j f)
          (flat_map (face_touches s j) fs),
      length-append (face_vertices s f) (flat_map (face_vertices s) fs),
    )

shells_fit : (s : SolidData) (i : ℕ) (hs : List Shell) → length (flat_map (shell_touches s) (enumerate_from i hs)) ≤ 2 * length (flat_map shell_uses hs)
shells_fit s i [] = omega arith
shells_fit s i (h ∷ hs) =
    omega (
      arith,
      shells_fit s (i + 1) hs,
      faces_fit s i h.faces,
      ap (length {A = ℕ}) (shell_flat s h),
      vertices_shorter s (shell_uses h),
      length-append
          (shell_touches s (i, h)) (flat_map (shell_touches s) (enumerate_from (i + 1) hs)),
      length-append (shell_uses h) (flat_map shell_uses hs),
    )

pub few_touches : (s : SolidData) (vertices : List ℕ) (touches : List FaceAtVertex) → IsNumberedSolid s → touches ≡ touches_of s
    → vertices ≡ map vertex_of touches → length vertices < 2 ^ 32
few_touches s vertices touches numbered are is =
    omega (arith, numbered.few_uses, shells_fit s 0 s.shells, ap (length {A = FaceAtVertex}) are, ap (length {A = ℕ}) is, length-map touches vertex_of)

pub touches_within : (s : SolidData) (vertices : List ℕ) (touches : List FaceAtVertex) (range : Span) → range.least ≡ 0 → range.count ≡ length s.vertices
    → touches ≡ touches_of s → vertices ≡ map vertex_of touches → All (IsWithin range) vertices
touches_within s vertices touches range low count are is = all_from (IsWithin range) vertices (λ x m.
    let from : (t : FaceAtVertex) × Has touches t × (vertex_of t ≡ x) = has_map vertex_of touches x (subst (λ ys. Has ys x) is m) in
    let at : (h : ℕ × Shell) × Has (enumerate_from 0 s.shells) h × Has (shell_touches s h) from.0 = from_flat_map (shell_touches s) (enumerate_from 0 s.shells)
    from.0 (subst (λ ts. Has ts from.0) are from.1) in
    let face : (f : FaceUse) × Has at.0.1.faces f × Has (face_touches s at.0.0 f) from.0 = from_flat_map (face_touches s at.0.0) at.0.1.faces from.0 at.2 in
    let vertex : (v : ℕ) × Has (occurring (numbers_from 0 (length s.vertices)) (face_vertices s face.0)) v × (at_vertex at.0.0 face.0.entity v ≡ from.0) =
    has_map (at_vertex at.0.0 face.0.entity) (occurring (numbers_from 0 (length s.vertices)) (face_vertices s face.0)) from.0 face.2 in
    let e : vertex.0 ≡ x = ap vertex_of vertex.2 ∙ from.2 in
    let b : x < 0 + length s.vertices =
    subst (λ n. n < 0 + length s.vertices) e
    (number_below 0 (length s.vertices) vertex.0 (occurring_from (numbers_from 0 (length s.vertices)) (face_vertices s face.0) vertex.0 vertex.1)).1 in
    (omega (arith, low), omega (arith, b, low, count)))
