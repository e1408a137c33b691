-- How many uses there are, part by part.
use Rattle.std.specs.Prelude.{◌≡◌, ◌<◌, ◌≤◌, ◌+◌, ◌^◌, ℕ, suc, Bool, List, [], ◌∷◌, ◌++◌, length, map, flat_map, sum_by, slice_get, Some}
use Rattle.std.specs.List.{enumerate_from}
use Rattle.std.proofs.Common.{refl, sym, ◌∙◌, ap, subst, arith, get_or, drop, length-append}
use Rattle.std.proofs.lemmas.Grind.{flat_map-append}
use Rattle.std.proofs.lemmas.Option.{get_or_from_slice_get, slice_get_within}
use Rattle.std.proofs.lemmas.List.{drop_all, length-map}
use Rattle.std.proofs.lemmas.List.Sums.{sum_by-cons}
use Rattle.std.proofs.lemmas.List.FromFn.{length-enumerate_from}
use Rattle.solid_data.proofs.Members.{split_at, has_get}
use Rattle.edge_uses.proofs.Few.{part_shorter}
use Rattle.cert_state.specs.Progress.{loops_of, loops_of_shell}
use Rattle.solid_data.specs.SolidData.{SolidData, PlacedLoop, placed_in_face, placed_loops, same_flag, shell_uses}
use Rattle.solid_data.specs.Numbering.{IsNumberedSolid}
use Rattle.solid_data.specs.declared.solid.Loop.{Loop}
use Rattle.solid_data.specs.declared.solid.FaceUse.{FaceUse}
use Rattle.solid_data.specs.declared.solid.Shell.{Shell}
use Rattle.edge_uses.specs.Joining.{placed_at}
use Rattle.edge_uses.specs.Building.{uses_in}
use Rattle.edge_uses.proofs.Joins.{split_drop}
use Rattle.cert_state.specs.Uses.{loops_size, faces_size, shells_size}

loops_counted : (face : ℕ) (forwards : Bool) (base : ℕ) (ls : List Loop) → length (flat_map uses_in (map (placed_at face forwards) (enumerate_from base ls)))
    ≡ loops_size ls
loops_counted face forwards base [] = refl
loops_counted face forwards base (l ∷ ls) =
    let more = flat_map uses_in (map (placed_at face forwards) (enumerate_from (base + 1) ls)) in
    length-append l.uses more ∙ ap (λ n. length l.uses + n) (loops_counted face forwards (base + 1) ls)

faces_counted : (flag : Bool) (base : ℕ) (fs : List FaceUse) → length (flat_map uses_in (flat_map (placed_in_face flag) (enumerate_from base fs)))
    ≡ faces_size fs
faces_counted flag base [] = refl
faces_counted flag base (f ∷ fs) =
    let here : List PlacedLoop = placed_in_face flag (base, f) in
    let more : List PlacedLoop = flat_map (placed_in_face flag) (enumerate_from (base + 1) fs) in
    let e : length (flat_map uses_in (here ++ more)) ≡ length (flat_map uses_in here) + length (flat_map uses_in more) =
    ap (λ us. length us) (flat_map-append uses_in here more) ∙ length-append (flat_map uses_in here) (flat_map uses_in more) in
    let a : length (flat_map uses_in here) ≡ loops_size f.loops = loops_counted base _ 0 f.loops in
    omega (arith, e, a, faces_counted flag (base + 1) fs)

pub shells_counted : (hs : List Shell) → length (flat_map shell_uses hs) ≡ shells_size hs
shells_counted [] = refl
shells_counted (h ∷ hs) = omega (arith, length-append (shell_uses h) (flat_map shell_uses hs), faces_counted h.flag 0 h.faces, shells_counted hs)

pub loops_split : (ls : List Loop) (i : ℕ) (l : Loop) → i < length ls → get_or ls i l ≡ l
    → loops_size (drop i ls) ≡ length l.uses + loops_size (drop (i + 1) ls)
loops_split ls i l lt at = ap loops_size (split_drop ls l i lt at)

pub faces_split : (fs : List FaceUse) (i : ℕ) (f : FaceUse) → i < length fs → get_or fs i f ≡ f → faces_size (drop i fs) ≡ loops_size f.loops
    + faces_size (drop (i + 1) fs)
faces_split fs i f lt at = ap faces_size (split_drop fs f i lt at)

pub shells_split : (hs : List Shell) (k : ℕ) (h : Shell) → slice_get hs k ≡ Some h → shells_size (drop k hs) ≡ faces_size h.faces
    + shells_size (drop (k + 1) hs)
shells_split hs k h at = ap shells_size (split_at hs k h at)

pub some_faces : (s : SolidData) → IsNumberedSolid s → (k : ℕ) (h : Shell) → slice_get s.shells k ≡ Some h → 0 < length h.faces
some_faces s numbered k h at = subst (λ (x : Shell). 0 < length x.faces) (get_or_from_slice_get s.shells k h h at)
    (numbered.each_shell k h (slice_get_within s.shells k h at))

no_fewer : (hs : List Shell) → ((k : ℕ) (h : Shell) → slice_get hs k ≡ Some h → 0 < length h.faces) → length hs ≤ length (flat_map (λ (h : Shell). h.faces) hs)
no_fewer [] each = omega arith
no_fewer (h ∷ hs) each = omega (arith, each 0 h refl, no_fewer hs (λ k x at. each (suc k) x at), length-append h.faces (flat_map (λ (h : Shell). h.faces) hs))

-- A solid has few shells, since each has a face.
pub few_shells : (s : SolidData) → IsNumberedSolid s → length s.shells < 2 ^ 29
few_shells s numbered = omega (arith, numbered.few_faces, no_fewer s.shells (some_faces s numbered))

pub uses_few : (s : SolidData) → IsNumberedSolid s → shells_size s.shells < 2 ^ 29
uses_few s numbered = omega (arith, numbered.few_uses, shells_counted s.shells)

pub shells_past : (hs : List Shell) (k : ℕ) → length hs ≤ k → shells_size (drop k hs) ≡ 0
shells_past hs k past = ap shells_size (drop_all k hs past)

pub loops_placed : (flag : Bool) (base : ℕ) (fs : List FaceUse) → length (flat_map (placed_in_face flag) (enumerate_from base fs))
    ≡ sum_by (λ (f : FaceUse). length f.loops) fs
loops_placed flag base [] = refl
loops_placed flag base (f ∷ fs) =
    let here : List PlacedLoop = placed_in_face flag (base, f) in
    let more : List PlacedLoop = flat_map (placed_in_face flag) (enumerate_from (base + 1) fs) in
    let own : length here ≡ length f.loops = length-map (enumerate_from 0 f.loops) (placed_at base (same_flag f.flag flag)) ∙ length-enumerate_from 0 f.loops in
    let parts : length (flat_map (placed_in_face flag) (enumerate_from base (f ∷ fs))) ≡ length here + length more = length-append here more in
    let counted : sum_by (λ (x : FaceUse). length x.loops) (f ∷ fs) ≡ length f.loops + sum_by (λ (x : FaceUse). length x.loops) fs =
    sum_by-cons (λ (x : FaceUse). length x.loops) f fs in
    omega (arith, parts, counted, own, loops_placed flag (base + 1) fs)

-- a shell has no more loops than the solid
pub loops_within : (s : SolidData) (k : ℕ) (h : Shell) → slice_get s.shells k ≡ Some h → loops_of (Some h) ≤ length (flat_map placed_loops s.shells)
loops_within s k h there = omega (arith, part_shorter placed_loops s.shells h (has_get s.shells k h there), loops_placed h.flag 0 h.faces)

pub loops_there : (s : SolidData) (k : ℕ) (h : Shell) → slice_get s.shells k ≡ Some h → loops_of (Some h) ≡ loops_of_shell s (k + 1)
loops_there s k h there =
    let next : suc k ≡ k + 1 = omega arith in
    ap loops_of (sym there) ∙ ap (loops_of_shell s) next
