-- Where turns lead from each row of a vertex to each other, the walk from the least row closes, and passes each row once.
use Rattle.std.specs.Prelude.{◌≡◌, ◌≢◌, ℕ, zero, suc, ◌<◌, ◌≤◌, ◌⊎◌, List, [], ◌∷◌, None, Some, slice_get}
use Rattle.std.proofs.Common.{refl, sym, ◌∙◌, ap, subst, arith, inl, inr, ⊎_elim}
use Rattle.std.proofs.lemmas.Bool.Decides.{eqb_tells}
use Rattle.std.proofs.lemmas.Option.{same_Some}
use Rattle.solid_data.specs.Chain.{Steps, LeadsTo}
use Rattle.solid_data.proofs.Members.{Has, NoRepeat, All-from}
use Rattle.solid_data.proofs.Trail.{Trail, no_repeat, trail_keeps}
use Rattle.edge_uses.specs.declared.row.Row.{Row}
use Rattle.edge_uses.specs.ShellRows.{ShellRows}
use Rattle.edge_uses.specs.RowRelations.{Turns, StartsAt}
use Rattle.edge_uses.proofs.Cycle.{same_or_not, on_trail, IsCycle, AreTurning}
use Rattle.edge_uses.specs.Around.{IsCorner}

-- A chain to z can be cut where it meets z first.
trail_from_steps : (R : ℕ → ℕ → Type 0) (n x y z : ℕ) → R x y → Steps R n y z → (xs : List ℕ) × Trail R x xs z × (Has xs z → ⊥)
trail_from_steps R zero x y z r e = ([], subst (R x) e r, (λ h. h))
trail_from_steps R (suc m) x y z r (w, s, rest) = by_test (same_or_not y z) (trail_from_steps R m y w z s rest)
  where
    by_test : (y ≡ z) ⊎ (y ≢ z) → (xs : List ℕ) × Trail R y xs z × (Has xs z → ⊥) → (xs : List ℕ) × Trail R x xs z × (Has xs z → ⊥)
    by_test (inl e) k = ([], subst (R x) e r, (λ h. h))
    by_test (inr ne) k = (y ∷ k.0, (r, k.1), (λ h. ⊎_elim ne k.2 h))

-- the least row of a vertex
abbrev FirstStart : ℕ → List Row → Type 0
FirstStart v rows = (r : ℕ) × ((a : Row) × (slice_get rows r ≡ Some a) × (a.from.0 ≡ v))
    × ((x : ℕ) (b : Row) → slice_get rows x ≡ Some b → b.from.0 ≡ v → r ≤ x)

after_other : (v : ℕ) (y : Row) (rows : List Row) → y.from.0 ≢ v → FirstStart v rows → FirstStart v (y ∷ rows)
after_other v y rows ne rest = (suc rest.0, rest.1, above)
  where
    above : (x : ℕ) (b : Row) → slice_get (y ∷ rows) x ≡ Some b → b.from.0 ≡ v → suc rest.0 ≤ x
    above zero b h k = absurd (ne (ap (λ (r : Row). r.from.0) (same_Some y b h) ∙ k))
    above (suc x) b h k = omega (arith, rest.2 x b h k)

first_start : (v : ℕ) (rows : List Row) (k : ℕ) (row : Row) → slice_get rows k ≡ Some row → row.from.0 ≡ v → FirstStart v rows
first_start v [] k row at e = absurd (let h : None ≡ Some row = at in cc)
first_start v (y ∷ rows) zero row at e = (zero, (y, refl, ap (λ (r : Row). r.from.0) (same_Some y row at) ∙ e), λ x b h k. omega arith)
first_start v (y ∷ rows) (suc k) row at e = ⊎_elim (λ same. (zero, (y, refl, same.1), λ x b h k. omega arith))
    (λ other. after_other v y rows other.1 (first_start v rows k row at e)) (eqb_tells y.from.0 v)

-- A corner has its cycle.
pub cycle_of_corner : (d : ShellRows) (v : ℕ) → AreTurning d → IsCorner d v → (r : ℕ) × (rs : List ℕ) × IsCycle d v r rs
cycle_of_corner d v turning corner =
    let f = first_start v d.rows corner.some.0 corner.some.1.0 corner.some.1.1 corner.some.1.2 in
    let r : ℕ = f.0 in
    let start : StartsAt d v r = f.1 in
    let t = turning.some v r start in
    let back : LeadsTo (Turns d) t.0 r = corner.one_cycle t.0 r (turning.same v r t.0 t.1 start) start in
    let k = trail_from_steps (Turns d) back.0 r t.0 r t.1 back.1 in
    let none : NoRepeat (r ∷ k.0) = no_repeat (Turns d) turning.one r k.0 r k.1 k.2 in
    let each : (x : ℕ) → Has (r ∷ k.0) x → StartsAt d v x =
    λ x m. ⊎_elim (λ e. subst (StartsAt d v) e start) (λ h. trail_keeps (Turns d) (StartsAt d v) (λ x y. turning.same v x y) r k.0 r k.1 start x h) m in (
      r,
      k.0,
      record {
        starts = start;
        trail = k.1;
        least = All-from (λ x. r < x) k.0 (λ x m.
            let at = each x (inr m) in
            let low : r ≤ x = f.2 x at.0 at.1 at.2 in
            let other : r ≢ x = λ e. none.0 (subst (Has k.0) (sym e) m) in
            omega (arith, low, other));
        none = none;
        each = each;
        all = λ x at. let chain = corner.one_cycle r x start at in on_trail (Turns d) turning.one r k.0 k.1 chain.0 r x (inl refl) chain.1;
      },
    )
