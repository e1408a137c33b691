-- Cycles of turns, and trails that come back.
use Rattle.std.specs.Prelude.{◌≡◌, ◌≢◌, ℕ, zero, suc, ◌<◌, ◌⊎◌, List, [], ◌∷◌, ◌++◌}
use Rattle.std.specs.List.{AllByRecursion, AllZip}
use Rattle.std.proofs.Common.{sym, subst, inl, inr, ⊎_elim}
use Rattle.std.proofs.lemmas.Bool.Decides.{eqb_tells}
use Rattle.solid_data.specs.Chain.{Steps}
use Rattle.edge_uses.specs.ShellRows.{ShellRows}
use Rattle.edge_uses.specs.RowRelations.{Turns, StartsAt}
use Rattle.solid_data.proofs.Members.{Has, NoRepeat}
use Rattle.solid_data.proofs.Trail.{Trail, next_on}

pub same_or_not : (a b : ℕ) → (a ≡ b) ⊎ (a ≢ b)
same_or_not a b = ⊎_elim (λ y. inl y.1) (λ n. inr n.1) (eqb_tells a b)

-- a trail and its end, as one list of neighbours
pub zip_from_trail : (R : ℕ → ℕ → Type 0) (x : ℕ) (xs : List ℕ) (z : ℕ) → Trail R x xs z → AllZip R (x ∷ xs) (xs ++ z ∷ [])
zip_from_trail R x [] z t = (t, tt)
zip_from_trail R x (y ∷ ys) z t = (t.0, zip_from_trail R y ys z t.1)

-- what R leads to from the first is on the trail that comes back to it
pub on_trail : (R : ℕ → ℕ → Type 0) → ((x y z : ℕ) → R x y → R x z → y ≡ z) → (r : ℕ) (rs : List ℕ) → Trail R r rs r → (n a x : ℕ) → Has (r ∷ rs) a
    → Steps R n a x → Has (r ∷ rs) x
on_trail R one r rs t zero a x h e = subst (Has (r ∷ rs)) e h
on_trail R one r rs t (suc n) a x h (c, s, rest) =
    let k = next_on R r rs r t a h in
    let same : c ≡ k.0 = one a c k.0 s k.1 in
    let there : Has (r ∷ rs) k.0 = ⊎_elim (λ m. inr m) (λ e. inl (sym e)) k.2 in
    on_trail R one r rs t n c x (subst (Has (r ∷ rs)) (sym same) there) rest

-- a cycle of turns: each row of the vertex, once, from the least on
pub record IsCycle (d : ShellRows) (v r : ℕ) (rs : List ℕ) : Type 0 where
  pub starts : StartsAt d v r
  pub trail : Trail (Turns d) r rs r
  pub least : AllByRecursion (λ x. r < x) rs
  pub none : NoRepeat (r ∷ rs)
  pub each : (x : ℕ) → Has (r ∷ rs) x → StartsAt d v x
  pub all : (x : ℕ) → StartsAt d v x → Has (r ∷ rs) x

-- what turning needs: a row turns to one row, and that starts where it does
pub record AreTurning (d : ShellRows) : Type 0 where
  pub one : (x y z : ℕ) → Turns d x y → Turns d x z → y ≡ z
  pub some : (v x : ℕ) → StartsAt d v x → (y : ℕ) × Turns d x y
  pub same : (v x y : ℕ) → Turns d x y → StartsAt d v x → StartsAt d v y
