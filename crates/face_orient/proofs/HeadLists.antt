-- The first step from each face among the last steps.
use Rattle.std.specs.Prelude.{◌≡◌, ◌≢◌, ◌<◌, ◌≤◌, ◌+◌, ◌==◌, ◌⊎◌, ℕ, zero, suc, true, false, List, length, slice_set}
use Rattle.std.proofs.Common.{refl, sym, ◌∙◌, ap, subst, arith, inl, inr, ⊎_elim, get_or}
use Rattle.std.proofs.lemmas.Bool.Decides.{eqb_tells}
use Rattle.std.proofs.lemmas.List.{length-set}
use Rattle.std.proofs.lemmas.Option.{slice_get_within, same_Some}
use Rattle.orient_certificate.specs.declared.crossing.Crossing.{Crossing}
use Rattle.orient_certificate.specs.Crossings.{IsGraph}
use Rattle.edge_uses.proofs.Steps.{default_apart}
use Rattle.edge_uses.proofs.Tallies.{set_same, set_other}
use Rattle.face_orient.specs.Heads.{Leaves, IsHead, AreHeads}

pub one_face : (cs : List Crossing) (f g r : ℕ) → Leaves cs f r → Leaves cs g r → f ≡ g
one_face cs f g r (a, at_a, e) (b, at_b, k) = sym e ∙ (ap (λ (x : Crossing). x.from) (same_Some a b (sym at_a ∙ at_b)) ∙ k)

pub face_low : (n : ℕ) (cs : List Crossing) (f r : ℕ) → IsGraph n cs → Leaves cs f r → f < n
face_low n cs f r graph (a, at, e) = subst (λ x. x < n) e (graph.from_low r a at)

-- the steps from step i on are linked
pub record HeadsFrom (n : ℕ) (cs : List Crossing) (i : ℕ) (first next : List ℕ) : Type 0 where
  pub faces : length first ≡ n
  pub steps : length next ≡ length cs
  pub heads : (face : ℕ) → face < n → IsHead cs face i (get_or first face 0)
  pub nexts : (r face : ℕ) → i ≤ r → Leaves cs face r → IsHead cs face (r + 1) (get_or next r 0)

pub no_heads : (n : ℕ) (cs : List Crossing) (i : ℕ) (first next : List ℕ) → i ≡ length cs → length first ≡ n → length next ≡ length cs
    → ((face : ℕ) → face < n → get_or first face 0 ≡ i) → HeadsFrom n cs i first next
no_heads n cs i first next end faces rows all_end = record {
  faces = faces;
  steps = rows;
  heads = λ face low. record {
    low = omega (arith, all_end face low);
    here = λ lt. absurd (omega (arith, lt, end, all_end face low));
    all = λ x on le. absurd (omega (arith, slice_get_within cs x on.0 on.1, le, end));
  };
  nexts = λ r face le on. absurd (omega (arith, slice_get_within cs r on.0 on.1, le, end));
}

pub heads_done : (n : ℕ) (cs : List Crossing) (i : ℕ) (first next : List ℕ) → i ≡ 0 → HeadsFrom n cs i first next → AreHeads n cs first next
heads_done n cs i first next e h = record {
  faces = h.faces;
  steps = h.steps;
  heads = λ face low. subst (λ n. IsHead cs face n (get_or first face 0)) e (h.heads face low);
  nexts = λ r face on. h.nexts r face (omega (arith, e)) on;
}

later_or : (i x : ℕ) → i ≤ x → (i ≡ x) ⊎ (i + 1 ≤ x)
later_or zero zero h = inl refl
later_or zero (suc x) h = inr (omega arith)
later_or (suc i) zero h = absurd (omega (arith, h))
later_or (suc i) (suc x) h = ⊎_elim (λ a. inl (ap suc a)) (λ b. inr (omega (arith, b))) (later_or i x (omega (arith, h)))

-- the step before the linked ones is linked
pub heads_step : (n : ℕ) (cs : List Crossing) (j i f was : ℕ) (first next : List ℕ) → IsGraph n cs → j ≡ i + 1 → Leaves cs f i → was ≡ get_or first f was
    → HeadsFrom n cs j first next → HeadsFrom n cs i (slice_set first f i) (slice_set next i was)
heads_step n cs j i f was first next whole after on is_was h = record {
  faces = length-set first f i ∙ h.faces;
  steps = length-set next i was ∙ h.steps;
  heads = λ face low. by_face face low (eqb_tells f face);
  nexts = λ r face le on_r. by_row r face on_r (later_or i r le);
}
  where
    f_low : f < length first
    f_low = omega (arith, face_low n cs f i whole on, h.faces)

    i_low : i < length next
    i_low = omega (arith, slice_get_within cs i on.0 on.1, h.steps)

    known : was ≡ get_or first f 0
    known = is_was ∙ default_apart first f was 0 f_low

    by_face : (face : ℕ) → face < n → (((f == face) ≡ true) × (f ≡ face)) ⊎ (((f == face) ≡ false) × (f ≢ face))
        → IsHead cs face i (get_or (slice_set first f i) face 0)
    by_face face low (inl y) =
        let there : get_or (slice_set first f i) face 0 ≡ i = subst (λ k. get_or (slice_set first f i) k 0 ≡ i) y.1 (set_same first f i 0 f_low) in
        subst (IsHead cs face i) (sym there) (record {
          low = omega arith;
          here = λ lt. subst (λ k. Leaves cs k i) y.1 on;
          all = λ x on_x le. le;
        })
    by_face face low (inr n) =
        let t : IsHead cs face j (get_or first face 0) = h.heads face low in
        subst (IsHead cs face i) (sym (set_other first f face i 0 n.1)) (record {
          low = omega (arith, t.low, after);
          here = t.here;
          all = λ x on_x le. ⊎_elim (λ a. absurd (n.1 (one_face cs f face i on (subst (λ k. Leaves cs face k) (sym a) on_x))))
              (λ b. t.all x on_x (omega (arith, b, after))) (later_or i x le);
        })

    by_row : (r face : ℕ) → Leaves cs face r → (i ≡ r) ⊎ (i + 1 ≤ r) → IsHead cs face (r + 1) (get_or (slice_set next i was) r 0)
    by_row r face on_r (inl e) =
        let same : f ≡ face = one_face cs f face i on (subst (λ k. Leaves cs face k) (sym e) on_r) in
        let there : get_or (slice_set next i was) i 0 ≡ get_or first f 0 = set_same next i was 0 i_low ∙ known in
        let head : IsHead cs f (i + 1) (get_or first f 0) = subst (λ k. IsHead cs f k (get_or first f 0)) after (h.heads f (face_low n cs f i whole on)) in
        subst (λ k. IsHead cs face (k + 1) (get_or (slice_set next i was) k 0)) e
        (subst (IsHead cs face (i + 1)) (sym there) (subst (λ k. IsHead cs k (i + 1) (get_or first f 0)) same head))
    by_row r face on_r (inr later) =
        let apart : i ≢ r = λ e. absurd (omega (arith, e, later)) in
        subst (IsHead cs face (r + 1)) (sym (set_other next i r was 0 apart)) (h.nexts r face (omega (arith, later, after)) on_r)
