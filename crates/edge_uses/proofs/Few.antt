-- A shell of a solid has few faces, loops and uses.
use Rattle.std.specs.Prelude.{◌≡◌, ◌<◌, ◌≤◌, ◌+◌, ◌^◌, ℕ, Bool, List, [], ◌∷◌, ◌++◌, length, map, flat_map, slice_get, Some}
use Rattle.std.specs.List.{AllByRecursion, enumerate_from}
use Rattle.std.proofs.Common.{◌∙◌, ap, subst, arith, inl, inr, length-append}
use Rattle.std.proofs.lemmas.List.FromFn.{length-enumerate_from}
use Rattle.std.proofs.lemmas.List.{length-map}
use Rattle.std.proofs.lemmas.Grind.{flat_map-append}
use Rattle.solid_data.specs.SolidData.{SolidData, PlacedLoop, same_flag, placed_in_face, placed_loops, shell_uses}
use Rattle.solid_data.specs.Numbering.{IsNumberedSolid}
use Rattle.solid_data.specs.declared.solid.Loop.{Loop}
use Rattle.solid_data.specs.declared.solid.FaceUse.{FaceUse}
use Rattle.solid_data.specs.declared.solid.Shell.{Shell}
use Rattle.edge_uses.specs.Joining.{placed_at, IsFewShell}
use Rattle.edge_uses.specs.Building.{uses_in}
use Rattle.solid_data.proofs.Members.{Has}
pub use Rattle.solid_data.proofs.Members.{has_get}

pub part_shorter : {A B : Type 0} (f : A → List B) (xs : List A) (x : A) → Has xs x → length (f x) ≤ length (flat_map f xs)
part_shorter f [] x h = absurd h
part_shorter f (y ∷ ys) x (inl e) = subst (λ z. length (f z) ≤ length (f y ++ flat_map f ys)) e (omega (arith, length-append (f y) (flat_map f ys)))
part_shorter f (y ∷ ys) x (inr h) = omega (arith, part_shorter f ys x h, length-append (f y) (flat_map f ys))

uses_of_loops : (n face : ℕ) (forwards : Bool) (base : ℕ) (ls : List Loop) → length (flat_map uses_in (map (placed_at face forwards) (enumerate_from base ls)))
    < n
    → AllByRecursion (λ (l : Loop). length l.uses < n) ls
uses_of_loops n face forwards base [] h = tt
uses_of_loops n face forwards base (l ∷ ls) h =
    let more = flat_map uses_in (map (placed_at face forwards) (enumerate_from (base + 1) ls)) in
    let e : length (l.uses ++ more) ≡ length l.uses + length more = length-append l.uses more in
    (omega (arith, h, e), uses_of_loops n face forwards (base + 1) ls (omega (arith, h, e)))

uses_of_faces : (n : ℕ) (flag : Bool) (base : ℕ) (fs : List FaceUse) → length (flat_map uses_in (flat_map (placed_in_face flag) (enumerate_from base fs))) < n
    → AllByRecursion (λ (f : FaceUse). AllByRecursion (λ (l : Loop). length l.uses < n) f.loops) fs
uses_of_faces n flag base [] h = tt
uses_of_faces n flag base (f ∷ fs) h =
    let here : List PlacedLoop = placed_in_face flag (base, f) in
    let more : List PlacedLoop = flat_map (placed_in_face flag) (enumerate_from (base + 1) fs) in
    let e : length (flat_map uses_in (here ++ more)) ≡ length (flat_map uses_in here) + length (flat_map uses_in more) =
    ap (λ us. length us) (flat_map-append uses_in here more) ∙ length-append (flat_map uses_in here) (flat_map uses_in more) in
    (uses_of_loops n base (same_flag f.flag flag) 0 f.loops (omega (arith, h, e)), uses_of_faces n flag (base + 1) fs (omega (arith, h, e)))

loops_of_faces : (n : ℕ) (flag : Bool) (base : ℕ) (fs : List FaceUse) → length (flat_map (placed_in_face flag) (enumerate_from base fs)) < n
    → AllByRecursion (λ (f : FaceUse). length f.loops < n) fs
loops_of_faces n flag base [] h = tt
loops_of_faces n flag base (f ∷ fs) h =
    let here : List PlacedLoop = placed_in_face flag (base, f) in
    let more : List PlacedLoop = flat_map (placed_in_face flag) (enumerate_from (base + 1) fs) in
    let e : length (here ++ more) ≡ length here + length more = length-append here more in
    let k : length here ≡ length f.loops = length-map (enumerate_from 0 f.loops) (placed_at base (same_flag f.flag flag)) ∙ length-enumerate_from 0 f.loops in
    (omega (arith, h, e, k), loops_of_faces n flag (base + 1) fs (omega (arith, h, e)))

all_both : (n : ℕ) (fs : List FaceUse) → AllByRecursion (λ (f : FaceUse). length f.loops < n) fs
    → AllByRecursion (λ (f : FaceUse). AllByRecursion (λ (l : Loop). length l.uses < n) f.loops) fs
    → AllByRecursion (λ (f : FaceUse). (length f.loops < n) × AllByRecursion (λ (l : Loop). length l.uses < n) f.loops) fs
all_both n [] a b = tt
all_both n (f ∷ fs) a b = ((a.0, b.0), all_both n fs a.1 b.1)

few_by : (n : ℕ) (s : SolidData) (h : Shell) → Has s.shells h → length (flat_map shell_uses s.shells) < n → length (flat_map placed_loops s.shells) < n
    → length (flat_map (λ (h : Shell). h.faces) s.shells) < n
    → (length h.faces < n) × AllByRecursion (λ (f : FaceUse). (length f.loops < n) × AllByRecursion (λ (l : Loop). length l.uses < n) f.loops) h.faces
few_by n s h has uses loops faces = (
  omega (arith, faces, part_shorter (λ (h : Shell). h.faces) s.shells h has),
  all_both n h.faces (loops_of_faces n h.flag 0 h.faces (omega (arith, loops, part_shorter placed_loops s.shells h has)))
      (uses_of_faces n h.flag 0 h.faces (omega (arith, uses, part_shorter shell_uses s.shells h has))),
)

pub few_shell : (s : SolidData) (k : ℕ) (h : Shell) → IsNumberedSolid s → slice_get s.shells k ≡ Some h → IsFewShell h
few_shell s k h numbered at = few_by (2 ^ 29) s h (has_get s.shells k h at) numbered.few_uses numbered.few_loops numbered.few_faces
