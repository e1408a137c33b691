-- Turning leads back to each row.
use Rattle.std.specs.Prelude.{◌≡◌, ◌≤◌, ◌+◌, ◌⊎◌, ℕ, zero, suc, List, [], ◌∷◌, length}
use Rattle.std.proofs.Common.{refl, sym, subst, arith, inl, inr, ⊎_elim}
use Rattle.std.proofs.lemmas.Bool.Decides.{eqb_tells}
use Rattle.std.proofs.lemmas.Option.{slice_get_within}
use Rattle.solid_data.specs.Chain.{LeadsTo}
use Rattle.solid_data.specs.Ring.{numbers_from}
use Rattle.solid_data.proofs.Members.{Has, NoRepeat, no_longer}
use Rattle.solid_data.proofs.Occurring.{number_within, length-numbers}
use Rattle.solid_data.proofs.Trail.{leads_here, leads_last}
use Rattle.edge_uses.specs.ShellRows.{ShellRows}
use Rattle.edge_uses.specs.RowRelations.{Turns, StartsAt}
use Rattle.edge_uses.specs.Mates.{ArePaired, TurnsPermute}
use Rattle.edge_uses.proofs.Turns.{turns_permute}

-- a number is a member or it isn't
has_or_not : (xs : List ℕ) (x : ℕ) → Has xs x ⊎ (Has xs x → ⊥)
has_or_not [] x = inr (λ h. h)
has_or_not (y ∷ xs) x =
    ⊎_elim (λ same. inl (inl same.1))
    (λ other. ⊎_elim (λ h. inl (inr h)) (λ n. inr (λ k. ⊎_elim other.1 n k)) (has_or_not xs x))
    (eqb_tells y x)

-- The rows from s on by turns, the last one first: each but s is turned to from one behind it in the list.
record IsWalk (d : ShellRows) (v s last : ℕ) (before : List ℕ) : Type 0 where
  none : NoRepeat (last ∷ before)
  starts : (x : ℕ) → Has (last ∷ before) x → StartsAt d v x
  from : (x : ℕ) → Has (last ∷ before) x → (x ≡ s) ⊎ ((p : ℕ) × Has before p × Turns d p x)
  reached : LeadsTo (Turns d) s last

walk_few : (d : ShellRows) (v : ℕ) (xs : List ℕ) → NoRepeat xs → ((x : ℕ) → Has xs x → StartsAt d v x) → length xs ≤ length d.rows
walk_few d v xs none starts =
    let h = no_longer xs (numbers_from 0 (length d.rows)) none (λ x has. let at = starts x has in
    number_within 0 (length d.rows) x (omega arith) (omega (arith, slice_get_within d.rows x at.0 at.1))) in
    omega (arith, h, length-numbers 0 (length d.rows))

walk_on : (d : ShellRows) (v s last at : ℕ) (before : List ℕ) → TurnsPermute d → IsWalk d v s last before → Turns d last at → (Has (last ∷ before) at → ⊥)
    → IsWalk d v s at (last ∷ before)
walk_on d v s last at before p w turn new = record {
  none = (new, w.none);
  starts = λ x has. ⊎_elim (λ e. subst (StartsAt d v) e (p.stays v last at (w.starts last (inl refl)) turn)) (λ h. w.starts x h) has;
  from = λ x has. ⊎_elim
      (λ e. inr (last, inl refl, subst (Turns d last) e turn))
      (λ h. ⊎_elim (λ is. inl is) (λ k. inr (k.0, inr k.1, k.2)) (w.from x h)) has;
  reached = leads_last (Turns d) s last at w.reached turn;
}

-- a walk that meets itself is back at s
walk_back : (d : ShellRows) (v s last at : ℕ) (before : List ℕ) → TurnsPermute d → IsWalk d v s last before → Turns d last at → Has (last ∷ before) at → at ≡ s
walk_back d v s last at before p w turn has =
    ⊎_elim (λ is. is)
    (λ k. absurd (w.none.0 (subst (Has before) (p.apart k.0 last at k.2 turn) k.1)))
    (w.from at has)

walk_done : (d : ShellRows) (v r s last at : ℕ) (before : List ℕ) → TurnsPermute d → Turns d r s → IsWalk d v s last before → Turns d last at
    → Has (last ∷ before) at → LeadsTo (Turns d) s r
walk_done d v r s last at before p first w turn has =
    let is : at ≡ s = walk_back d v s last at before p w turn has in
    subst (LeadsTo (Turns d) s) (p.apart last r s (subst (Turns d last) is turn) first) w.reached

walk_ends : (n : ℕ) (d : ShellRows) (v r s last : ℕ) (before : List ℕ) → TurnsPermute d → Turns d r s → IsWalk d v s last before
    → length d.rows ≤ n + length (last ∷ before) → LeadsTo (Turns d) s r
walk_ends zero d v r s last before p first w fuel =
    let t = p.each v last (w.starts last (inl refl)) in
    ⊎_elim (λ has. walk_done d v r s last t.0 before p first w t.1 has)
    (λ new. let k = walk_on d v s last t.0 before p w t.1 new in absurd (omega (arith, fuel, walk_few d v (t.0 ∷ last ∷ before) k.none k.starts)))
    (has_or_not (last ∷ before) t.0)
walk_ends (suc n) d v r s last before p first w fuel =
    let t = p.each v last (w.starts last (inl refl)) in
    ⊎_elim (λ has. walk_done d v r s last t.0 before p first w t.1 has)
    (λ new. walk_ends n d v r s t.0 (last ∷ before) p first (walk_on d v s last t.0 before p w t.1 new) (omega (arith, fuel)))
    (has_or_not (last ∷ before) t.0)

pub turn_back : (d : ShellRows) (v r s : ℕ) → ArePaired d → StartsAt d v r → Turns d r s → LeadsTo (Turns d) s r
turn_back d v r s whole at turn =
    let p : TurnsPermute d = turns_permute d whole in
    walk_ends (length d.rows) d v r s s [] p turn
    (record {
      none = ((λ h. h), tt);
      starts = λ x has. ⊎_elim (λ e. subst (StartsAt d v) e (p.stays v r s at turn)) (λ h. absurd h) has;
      from =
          λ x has. ⊎_elim (λ e. inl (sym e)) (λ h. absurd h) has;
      reached = leads_here (Turns d) s;
    })
    (omega arith)
