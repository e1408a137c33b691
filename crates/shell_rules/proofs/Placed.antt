-- A loop of a shell is found at its place.
use Rattle.std.specs.Prelude.{◌≡◌, ◌<◌, ℕ, zero, suc, ◌+◌, List, [], ◌∷◌, Some, Contains, slice_get, length}
use Rattle.std.specs.List.{enumerate_from}
use Rattle.std.proofs.Common.{sym, ◌∙◌, ap, subst, arith, inl, inr}
use Rattle.std.proofs.lemmas.Option.{same_Some, slice_get_within}
use Rattle.solid_data.specs.SolidData.{PlacedLoop, placed_in_face, placed_loops}
use Rattle.solid_data.specs.declared.solid.FaceUse.{FaceUse}
use Rattle.solid_data.specs.declared.solid.Loop.{Loop}
use Rattle.solid_data.specs.declared.solid.LoopAt.{LoopAt}
use Rattle.solid_data.specs.declared.solid.Shell.{Shell}
use Rattle.solid_data.proofs.Members.{Has, Has-from_Contains, from_flat_map, has_map}

-- an item of a list with places stands at its place
pub enum_get : {A : Type 0} (base : ℕ) (xs : List A) (f : ℕ × A) → Has (enumerate_from base xs) f → (k : ℕ) × (f.0 ≡ base + k) × (slice_get xs k ≡ Some f.1)
enum_get base [] f h = absurd h
enum_get base (x ∷ xs) f (inl e) = let n : f.0 ≡ base = ap (λ p. p.0) (sym e) in (zero, omega (arith, n), ap (λ p. Some p.1) e)
enum_get base (x ∷ xs) f (inr h) = let g = enum_get (base + 1) xs f h in (suc g.0, omega (arith, g.1), g.2)

-- its face, and the loop there
abbrev Found : Shell → PlacedLoop → Type 0
Found h p = (f : FaceUse) × (slice_get h.faces p.at.face.0 ≡ Some f) × (slice_get f.loops p.at.place ≡ Some p.loop)

pub found : (h : Shell) (p : PlacedLoop) → Has (placed_loops h) p → Found h p
found h p m =
    let f = from_flat_map (placed_in_face h.flag) (enumerate_from 0 h.faces) p m in
    let l = has_map _ (enumerate_from 0 f.0.1.loops) p f.2 in
    let a = enum_get 0 h.faces f.0 f.1 in
    let g = enum_get 0 f.0.1.loops l.0 l.1 in
    let face : a.0 ≡ p.at.face.0 = omega (arith, a.1, ap (λ (q : PlacedLoop). q.at.face.0) l.2) in
    let place : g.0 ≡ p.at.place = omega (arith, g.1, ap (λ (q : PlacedLoop). q.at.place) l.2) in (
      f.0.1,
      subst (λ n. slice_get h.faces n ≡ Some f.0.1) face a.2,
      subst (λ n. slice_get f.0.1.loops n ≡ Some p.loop) place
          (g.2 ∙ ap (λ (q : PlacedLoop). Some q.loop) l.2),
    )

-- a loop of the shell stands at this place
abbrev pub IsPlace : Shell → LoopAt → Type 0
IsPlace h at = (p : PlacedLoop) × Contains (placed_loops h) p × (at ≡ p.at)

pub face_below : (h : Shell) (at : LoopAt) → IsPlace h at → at.face.0 < length h.faces
face_below h at (p, m, same) =
    let f = found h p (Has-from_Contains (placed_loops h) p m) in
    subst (λ (a : LoopAt). a.face.0 < length h.faces) (sym same) (slice_get_within h.faces p.at.face.0 f.0 f.1)

pub named_loop : (h : Shell) (at : LoopAt) (face : FaceUse) (walk : Loop) → slice_get h.faces at.face.0 ≡ Some face → slice_get face.loops at.place ≡ Some walk
    → (p : PlacedLoop) → Contains (placed_loops h) p → at ≡ p.at → walk ≡ p.loop
named_loop h at face walk at_face at_place p m same =
    let f = found h p (Has-from_Contains (placed_loops h) p m) in
    let one : face ≡ f.0 = same_Some face f.0 (sym at_face ∙ (ap (λ (a : LoopAt). slice_get h.faces a.face.0) same ∙ f.1)) in
    same_Some walk p.loop (sym at_place
    ∙ (ap (λ (a : LoopAt). slice_get face.loops a.place) same ∙ (ap (λ (g : FaceUse). slice_get g.loops p.at.place) one ∙ f.2)))

pub loop_below : (h : Shell) (at : LoopAt) (face : FaceUse) → IsPlace h at → slice_get h.faces at.face.0 ≡ Some face → at.place < length face.loops
loop_below h at face (p, m, same) at_face =
    let f = found h p (Has-from_Contains (placed_loops h) p m) in
    let one : face ≡ f.0 = same_Some face f.0 (sym at_face ∙ (ap (λ (a : LoopAt). slice_get h.faces a.face.0) same ∙ f.1)) in
    let here : slice_get face.loops at.place ≡ Some p.loop = ap (λ (a : LoopAt). slice_get face.loops a.place) same
    ∙ (ap (λ (g : FaceUse). slice_get g.loops p.at.place) one ∙ f.2) in
    slice_get_within face.loops at.place p.loop here
