-- The uses of shells, face by face, and what they tell.
use Rattle.std.specs.Prelude.{◌≡◌, ◌<◌, ◌≤◌, ℕ, ◌+◌, All, Bool, List, [], ◌∷◌, ◌++◌, length, map, flat_map}
use Rattle.std.specs.List.{AllByRecursion, enumerate_from}
use Rattle.std.proofs.Common.{refl, ◌∙◌, ap, subst, arith, length-append}
use Rattle.std.proofs.lemmas.List.{length-map}
use Rattle.std.proofs.lemmas.List.Elements.{All-from_recursion}
use Rattle.std.proofs.lemmas.List.FromFn.{length-enumerate_from}
use Rattle.std.proofs.lemmas.Grind.{flat_map-append}
use Rattle.solid_data.specs.SolidData.{PlacedLoop, placed_in_face, placed_loops, shell_uses, same_flag}
use Rattle.solid_data.specs.declared.solid.FaceUse.{FaceUse}
use Rattle.solid_data.specs.declared.solid.Loop.{Loop}
use Rattle.solid_data.specs.declared.solid.Shell.{Shell}
use Rattle.solid_data.proofs.Members.{all_append}
use Rattle.edge_uses.specs.Building.{uses_in}
use Rattle.edge_uses.specs.Joining.{placed_at}
use Rattle.change_pieces.specs.Filled.{loop_uses, face_uses, IsFilledLoop, IsFilledFace, IsFilledShell}

pub flat_flat : {A B C : Type 0} (f : B → List C) (g : A → List B) (xs : List A) → flat_map f (flat_map g xs) ≡ flat_map (λ x. flat_map f (g x)) xs
flat_flat f g [] = refl
flat_flat {C = C} f g (x ∷ xs) = flat_map-append f (g x) (flat_map g xs) ∙ ap (λ (ys : List C). flat_map f (g x) ++ ys) (flat_flat f g xs)

loops_flat : (face : ℕ) (flag : Bool) (i : ℕ) (ls : List Loop) → flat_map uses_in (map (placed_at face flag) (enumerate_from i ls)) ≡ flat_map loop_uses ls
loops_flat face flag i [] = refl
loops_flat face flag i (l ∷ ls) = ap (λ us. l.uses ++ us) (loops_flat face flag (i + 1) ls)

faces_flat : (flag : Bool) (i : ℕ) (fs : List FaceUse) → flat_map uses_in (flat_map (placed_in_face flag) (enumerate_from i fs)) ≡ flat_map face_uses fs
faces_flat flag i [] = refl
faces_flat flag i (f ∷ fs) =
    let here : List PlacedLoop = placed_in_face flag (i, f) in
    let rest : List PlacedLoop = flat_map (placed_in_face flag) (enumerate_from (i + 1) fs) in
    flat_map-append uses_in here rest
    ∙ (ap (λ us. us ++ flat_map uses_in rest) (loops_flat i (same_flag f.flag flag) 0 f.loops) ∙ ap (λ us. face_uses f ++ us) (faces_flat flag (i + 1) fs))

pub uses_flat : (h : Shell) → shell_uses h ≡ flat_map face_uses h.faces
uses_flat h = faces_flat h.flag 0 h.faces

-- ---- shells in which nothing is empty

abbrev pub HasUses : PlacedLoop → Type 0
HasUses p = 0 < length p.loop.uses

loops_filled : (face : ℕ) (flag : Bool) (i : ℕ) (ls : List Loop) → AllByRecursion IsFilledLoop ls
    → AllByRecursion HasUses (map (placed_at face flag) (enumerate_from i ls))
loops_filled face flag i [] h = tt
loops_filled face flag i (l ∷ ls) h = (h.0, loops_filled face flag (i + 1) ls h.1)

faces_filled : (flag : Bool) (i : ℕ) (fs : List FaceUse) → AllByRecursion IsFilledFace fs
    → AllByRecursion HasUses (flat_map (placed_in_face flag) (enumerate_from i fs))
faces_filled flag i [] h = tt
faces_filled flag i (f ∷ fs) h =
    all_append HasUses (placed_in_face flag (i, f)) (flat_map (placed_in_face flag) (enumerate_from (i + 1) fs))
    (loops_filled i (same_flag f.flag flag) 0 f.loops h.0.1) (faces_filled flag (i + 1) fs h.1)

pub loops_have : (hs : List Shell) → AllByRecursion IsFilledShell hs → AllByRecursion HasUses (flat_map placed_loops hs)
loops_have [] h = tt
loops_have (x ∷ hs) h = all_append HasUses (placed_loops x) (flat_map placed_loops hs) (faces_filled x.flag 0 x.faces h.0.1) (loops_have hs h.1)

abbrev pub faces_in : Shell → List FaceUse
faces_in h = h.faces

abbrev pub HasLoops : FaceUse → Type 0
HasLoops f = 0 < length f.loops

have_loops : (fs : List FaceUse) → AllByRecursion IsFilledFace fs → AllByRecursion HasLoops fs
have_loops [] h = tt
have_loops (f ∷ fs) h = (h.0.0, have_loops fs h.1)

pub faces_have : (hs : List Shell) → AllByRecursion IsFilledShell hs → AllByRecursion HasLoops (flat_map faces_in hs)
faces_have [] h = tt
faces_have (x ∷ hs) h = all_append HasLoops x.faces (flat_map faces_in hs) (have_loops x.faces h.0.1) (faces_have hs h.1)

abbrev pub HasFaces : Shell → Type 0
HasFaces h = 0 < length h.faces

pub shells_have : (hs : List Shell) → AllByRecursion IsFilledShell hs → AllByRecursion HasFaces hs
shells_have [] h = tt
shells_have (x ∷ hs) h = (h.0.0, shells_have hs h.1)

-- ---- how many parts there are

pub no_more : {A B : Type 0} (g : A → List B) (xs : List A) → AllByRecursion (λ x. 0 < length (g x)) xs → length xs ≤ length (flat_map g xs)
no_more g [] h = omega arith
no_more g (x ∷ xs) h = omega (arith, h.0, no_more g xs h.1, length-append (g x) (flat_map g xs))

faces_fewer : (flag : Bool) (i : ℕ) (fs : List FaceUse) → AllByRecursion IsFilledFace fs → length fs ≤ length (flat_map (placed_in_face flag) (enumerate_from i fs))
faces_fewer flag i [] h = omega arith
faces_fewer flag i (f ∷ fs) h =
    let here : List PlacedLoop = placed_in_face flag (i, f) in
    let one : length here ≡ length f.loops =
    length-map (enumerate_from 0 f.loops) (placed_at i (same_flag f.flag flag)) ∙ length-enumerate_from 0 f.loops in
    omega (arith, h.0.0, one, faces_fewer flag (i + 1) fs h.1, length-append here (flat_map (placed_in_face flag) (enumerate_from (i + 1) fs)))

pub fewer_faces : (hs : List Shell) → AllByRecursion IsFilledShell hs → length (flat_map faces_in hs) ≤ length (flat_map placed_loops hs)
fewer_faces [] h = omega arith
fewer_faces (x ∷ hs) h =
    omega (
      arith,
      faces_fewer x.flag 0 x.faces h.0.1,
      fewer_faces hs h.1,
      length-append x.faces (flat_map faces_in hs),
      length-append (placed_loops x) (flat_map placed_loops hs),
    )

pub fewer_loops : (hs : List Shell) → AllByRecursion IsFilledShell hs → length (flat_map placed_loops hs) ≤ length (flat_map shell_uses hs)
fewer_loops hs h =
    subst (λ us. length (flat_map placed_loops hs) ≤ length us) (flat_flat uses_in placed_loops hs) (no_more uses_in (flat_map placed_loops hs) (loops_have hs h))

pub each_from : {A : Type 0} (P : A → Type 0) (xs : List A) → AllByRecursion P xs → All P xs
each_from P xs h = All-from_recursion P xs h
