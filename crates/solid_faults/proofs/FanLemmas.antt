-- Rows are of one fan exactly where chains of turns join them.
use Rattle.std.specs.Prelude.{◌≡◌, ◌<◌, ◌⊎◌, ℕ, zero, suc, List, [], ◌∷◌, ◌++◌, length, Some, slice_get}
use Rattle.std.proofs.Common.{refl, sym, ◌∙◌, ap, subst, arith, inl, inr, ⊎_elim, get_or}
use Rattle.std.proofs.lemmas.Option.{slice_get_within, get_or_from_slice_get, same_Some}
use Rattle.solid_data.specs.Chain.{Steps, LeadsTo}
use Rattle.solid_data.proofs.Members.{Has, All-from, get_some, has_get}
use Rattle.solid_data.proofs.Trail.{leads_here, leads_one, leads_trans}
use Rattle.edge_uses.specs.ShellRows.{ShellRows}
use Rattle.edge_uses.specs.RowRelations.{Turns}
use Rattle.edge_uses.specs.Mates.{ArePaired}
use Rattle.edge_uses.proofs.Turns.{turns_permute}
use Rattle.shell_components.specs.Components.{Linked, AreJoined, AreInside, AreComponents}
use Rattle.solid_faults.specs.Fans.{AreFans}
use Rattle.solid_faults.specs.TurnPairs.{AreTurns}
use Rattle.shell_components.proofs.Joined.{has_place, joined_back, least_of_joined}
use Rattle.solid_faults.proofs.TurnBack.{turn_back}

pair_turns : (d : ShellRows) (pairs : List (ℕ × ℕ)) (a b : ℕ) → AreTurns d pairs → Has pairs (a, b) → Turns d a b
pair_turns d pairs a b h has = let k = has_place pairs (a, b) has in (h.turns k.0 (a, b) k.1).1

linked_leads : (d : ShellRows) (pairs : List (ℕ × ℕ)) (a b : ℕ) → ArePaired d → AreTurns d pairs → Linked pairs a b → LeadsTo (Turns d) a b
linked_leads d pairs a b whole h link =
    ⊎_elim (λ x. leads_one (Turns d) a b b (pair_turns d pairs a b h x) (leads_here (Turns d) b))
    (λ y. let t : Turns d b a = pair_turns d pairs b a h y in turn_back d t.1.row.from.0 b a whole (t.1.row, t.1.at_r, refl) t) link

joined_leads : (d : ShellRows) (pairs : List (ℕ × ℕ)) (n a b : ℕ) → ArePaired d → AreTurns d pairs → Steps (Linked pairs) n a b → LeadsTo (Turns d) a b
joined_leads d pairs zero a b whole h e = subst (LeadsTo (Turns d) a) e (leads_here (Turns d) a)
joined_leads d pairs (suc n) a b whole h (c, link, rest) =
    let k = linked_leads d pairs a c whole h link in
    leads_trans (Turns d) a c b k.0 k.1 (joined_leads d pairs n c b whole h rest)

turn_pair : (d : ShellRows) (pairs : List (ℕ × ℕ)) (a b : ℕ) → ArePaired d → AreTurns d pairs → Turns d a b → Has pairs (a, b)
turn_pair d pairs a b whole h turn =
    let lt : a < length pairs = omega (arith, slice_get_within d.rows a turn.1.row turn.1.at_r, h.each) in
    let k = get_some pairs a lt in
    let t = h.turns a k.0 k.1 in
    let same : k.0.1 ≡ b = (turns_permute d whole).one a k.0.1 b (subst (λ n. Turns d n k.0.1) t.0 t.1) turn in
    subst (λ n. Has pairs (a, n)) same (subst (λ n. Has pairs (n, k.0.1)) t.0 (has_get pairs a k.0 k.1))

leads_joined : (d : ShellRows) (pairs : List (ℕ × ℕ)) (n a b : ℕ) → ArePaired d → AreTurns d pairs → Steps (Turns d) n a b → AreJoined pairs a b
leads_joined d pairs zero a b whole h e = subst (AreJoined pairs a) e (leads_here (Linked pairs) a)
leads_joined d pairs (suc n) a b whole h (c, turn, rest) = leads_one (Linked pairs) a c b (inl (turn_pair d pairs a c whole h turn))
    (leads_joined d pairs n c b whole h rest)

-- a row that is turned to is a row
turned_row : (d : ShellRows) (a b : ℕ) → ArePaired d → Turns d a b → b < length d.rows
turned_row d a b whole turn =
    let at = (turns_permute d whole).stays turn.1.row.from.0 a b (turn.1.row, turn.1.at_r, refl) turn in slice_get_within d.rows b at.0 at.1

pub turns_inside : (d : ShellRows) (pairs : List (ℕ × ℕ)) → ArePaired d → AreTurns d pairs → AreInside pairs (length d.rows)
turns_inside d pairs whole h = All-from (λ (p : ℕ × ℕ). (p.0 < length d.rows) × (p.1 < length d.rows)) pairs (λ p has.
    let t : Turns d p.0 p.1 = pair_turns d pairs p.0 p.1 h has in
    (slice_get_within d.rows p.0 t.1.row t.1.at_r, turned_row d p.0 p.1 whole t))

pub fans_of_labels : (d : ShellRows) (pairs : List (ℕ × ℕ)) (labels : List ℕ) → ArePaired d → AreTurns d pairs → AreComponents pairs (length d.rows) labels
    → AreFans d labels
fans_of_labels d pairs labels whole h k = record {
  each = k.marks.each;
  down = λ r f at.
      let j = k.marks.joined r (omega (arith, slice_get_within labels r f at, k.marks.each)) in
      subst (LeadsTo (Turns d) r) (get_or_from_slice_get labels r f 0 at) (joined_leads d pairs j.0 r (get_or labels r 0) whole h j.1);
  back = λ r f at.
      let j = joined_back pairs r (get_or labels r 0) (k.marks.joined r (omega (arith, slice_get_within labels r f at, k.marks.each))) in
      subst (λ n. LeadsTo (Turns d) n r) (get_or_from_slice_get labels r f 0 at) (joined_leads d pairs j.0 (get_or labels r 0) r whole h j.1);
  least = λ r f q at chain.
      let low = least_of_joined pairs (length d.rows) labels r q (turns_inside d pairs whole h) k (omega (arith, slice_get_within labels r f at, k.marks.each))
      (leads_joined d pairs chain.0 r q whole h chain.1) in
      omega (arith, low, get_or_from_slice_get labels r f 0 at);
}

-- one row more
pub turn_pushed : (d : ShellRows) (i t : ℕ) (old new : List (ℕ × ℕ)) → length old ≡ i
    → ((r : ℕ) (p : ℕ × ℕ) → slice_get old r ≡ Some p → (p.0 ≡ r) × Turns d p.0 p.1) → Turns d i t → new ≡ old ++ (i, t) ∷ []
    → (r : ℕ) (p : ℕ × ℕ) → slice_get new r ≡ Some p → (p.0 ≡ r) × Turns d p.0 p.1
turn_pushed d i t old new long h turn e r p at = by_place (last_or_before old (i, t) r p (subst (λ xs. slice_get xs r ≡ Some p) e at))
  where
    last_or_before : {A : Type 0} (xs : List A) (y : A) (k : ℕ) (z : A) → slice_get (xs ++ y ∷ []) k ≡ Some z
        → (slice_get xs k ≡ Some z) ⊎ ((k ≡ length xs) × (y ≡ z))
    last_or_before [] y zero z g = inr (refl, same_Some y z g)
    last_or_before [] y (suc k) z g = absurd cc
    last_or_before (x ∷ xs) y zero z g = inl g
    last_or_before (x ∷ xs) y (suc k) z g = ⊎_elim (λ a. inl a) (λ b. inr (ap suc b.0, b.1)) (last_or_before xs y k z g)

    by_place : (slice_get old r ≡ Some p) ⊎ ((r ≡ length old) × ((i, t) ≡ p)) → (p.0 ≡ r) × Turns d p.0 p.1
    by_place (inl a) = h r p a
    by_place (inr b) = (ap (λ (x : ℕ × ℕ). x.0) (sym b.1) ∙ (sym long ∙ sym b.0), subst (λ (x : ℕ × ℕ). Turns d x.0 x.1) b.1 turn)
