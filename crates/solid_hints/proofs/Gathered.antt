-- Lists that are gathered item by item.
use Rattle.std.specs.Prelude.{◌≡◌, ℕ, zero, suc, ◌+◌, ◌<◌, Bool, List, [], ◌∷◌, ◌++◌, length, Some, slice_get, if◌then◌else◌}
use Rattle.std.proofs.Common.{sym, ap, ◌∙◌, subst, arith, drop, length-append}
use Rattle.std.proofs.lemmas.Option.{same_Some, slice_get_within}
use Rattle.solid_data.specs.SolidData.{SolidData}
use Rattle.solid_data.specs.declared.solid.Shell.{Shell}
use Rattle.solid_faults.specs.Faults.{Faults, AreFaults}
use Rattle.solid_data.proofs.Members.{split_at}
use Rattle.where_text.proofs.Steps.{piece_more}
use Rattle.edge_uses.specs.Before.{AreBelow}
use Rattle.solid_hints.specs.AllFaults.{EachBelow, failing_from, is_failing}

-- what holds of each item of a list, and of one more, holds of each item of the longer list
pub one_more : {A : Type 0} (P : ℕ → A → Type 0) (xs : List A) (x : A) → ((k : ℕ) (y : A) → slice_get xs k ≡ Some y → P k y) → P (length xs) x
    → (k : ℕ) (y : A) → slice_get (xs ++ x ∷ []) k ≡ Some y → P k y
one_more P [] x each last zero y at = subst (P 0) (same_Some x y at) last
one_more P [] x each last (suc k) y at = absurd (let n : k < 0 = slice_get_within {A = _} [] k y at in omega (arith, n))
one_more P (z ∷ xs) x each last zero y at = each zero y at
one_more P (z ∷ xs) x each last (suc k) y at = one_more (λ k y. P (suc k) y) xs x (λ k y at. each (suc k) y at) last k y at

pub faults_more : (s : SolidData) (k : ℕ) (old new : List Faults) (x : Faults) → length old ≡ k → new ≡ old ++ x ∷ []
    → ((j : ℕ) (h : Shell) (y : Faults) → slice_get s.shells j ≡ Some h → slice_get old j ≡ Some y → AreFaults s j h y)
    → ((h : Shell) → slice_get s.shells k ≡ Some h → AreFaults s k h x)
    → (j : ℕ) (h : Shell) (y : Faults) → slice_get s.shells j ≡ Some h → slice_get new j ≡ Some y → AreFaults s j h y
faults_more s k old new x long is each last j h y at there =
    one_more (λ j y. (h : Shell) → slice_get s.shells j ≡ Some h → AreFaults s j h y) old x (λ j y there h at. each j h y at there)
    (subst (λ n. (h : Shell) → slice_get s.shells n ≡ Some h → AreFaults s n h x) (sym long) last) j y (subst (λ xs. slice_get xs j ≡ Some y) is there) h at

pub longer : {A : Type 0} (old new : List A) (x : A) (k : ℕ) → length old ≡ k → new ≡ old ++ x ∷ [] → length new ≡ k + 1
longer old new x k long is = ap (λ xs. length xs) is ∙ (let sum = length-append old (x ∷ []) in omega (arith, long, sum))

-- one shell more of those before which the vertices are counted
pub one_below : (s : SolidData) (k below : ℕ) (old new : List ℕ) → length old ≡ k → new ≡ old ++ below ∷ [] → AreBelow s k below → EachBelow s old
    → EachBelow s new
one_below s k below old new long is last each j n at =
    one_more (AreBelow s) old below each (subst (λ i. AreBelow s i below) (sym long) last) j n (subst (λ xs. slice_get xs j ≡ Some n) is at)

-- the failing shells, one shell on
pub failing_more : (xs : List Faults) (x : Faults) (k : ℕ) (b : Bool) (old new all : List ℕ) → slice_get xs k ≡ Some x → b ≡ is_failing x
    → new ≡ old ++ (if b then k ∷ [] else [])
    → old ++ failing_from k (drop k xs) ≡ all → new ++ failing_from (k + 1) (drop (k + 1) xs) ≡ all
failing_more xs x k b old new all at is e h =
    piece_more old new (if b then k ∷ [] else []) (failing_from (k + 1) (drop (k + 1) xs)) all
    (ap (λ t. old ++ ((if t then k ∷ [] else []) ++ failing_from (k + 1) (drop (k + 1) xs))) is
    ∙ (ap (λ ys. old ++ failing_from k ys) (sym (split_at xs k x at)) ∙ h)) e
