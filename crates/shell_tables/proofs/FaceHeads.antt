-- The first row of each face among the last rows.
use Rattle.std.specs.Prelude.{◌≡◌, ◌≢◌, ◌<◌, ◌≤◌, ◌+◌, ◌==◌, ◌⊎◌, ℕ, zero, suc, true, false, List, length, slice_set}
use Rattle.std.proofs.Common.{refl, sym, ◌∙◌, ap, subst, arith, inl, inr, ⊎_elim, get_or}
use Rattle.std.proofs.lemmas.Bool.Decides.{eqb_tells}
use Rattle.std.proofs.lemmas.List.{length-set}
use Rattle.std.proofs.lemmas.Option.{slice_get_within, same_Some}
use Rattle.edge_uses.specs.declared.row.Row.{Row}
use Rattle.edge_uses.specs.ShellRows.{ShellRows, AreRows}
use Rattle.edge_uses.specs.RowRelations.{OnFace}
use Rattle.solid_data.proofs.Members.{All-at, has_get}
use Rattle.edge_uses.proofs.Steps.{default_apart}
use Rattle.edge_uses.proofs.Tallies.{set_same, set_other}
use Rattle.shell_tables.specs.FaceRows.{IsHead, AreFaceRows}

pub one_face : (d : ShellRows) (f g r : ℕ) → OnFace d f r → OnFace d g r → f ≡ g
one_face d f g r (a, at_a, e) (b, at_b, k) = sym e ∙ (ap (λ (x : Row). x.at.face.0) (same_Some a b (sym at_a ∙ at_b)) ∙ k)

pub face_low : (d : ShellRows) (f r : ℕ) → AreRows d → OnFace d f r → f < d.face_count
face_low d f r rows (a, at, e) =
    subst (λ x. x < d.face_count) e (All-at (λ (x : Row). x.at.face.0 < d.face_count) d.rows rows.on_faces a (has_get d.rows r a at))

-- the rows from row i on are linked
pub record HeadsFrom (d : ShellRows) (i : ℕ) (first next : List ℕ) : Type 0 where
  pub faces : length first ≡ d.face_count
  pub rows : length next ≡ length d.rows
  pub heads : (face : ℕ) → face < d.face_count → IsHead d face i (get_or first face 0)
  pub nexts : (r face : ℕ) → i ≤ r → OnFace d face r → IsHead d face (r + 1) (get_or next r 0)

pub no_heads : (d : ShellRows) (i : ℕ) (first next : List ℕ) → i ≡ length d.rows → length first ≡ d.face_count → length next ≡ length d.rows
    → ((face : ℕ) → face < d.face_count → get_or first face 0 ≡ i) → HeadsFrom d i first next
no_heads d i first next end faces rows all_end = record {
  faces = faces;
  rows = rows;
  heads = λ face low. record {
    low = omega (arith, all_end face low);
    high = omega (arith, all_end face low, end);
    here = λ lt. absurd (omega (arith, lt, end, all_end face low));
    all = λ x on le. absurd (omega (arith, slice_get_within d.rows x on.0 on.1, le, end));
  };
  nexts = λ r face le on. absurd (omega (arith, slice_get_within d.rows r on.0 on.1, le, end));
}

pub heads_done : (d : ShellRows) (i : ℕ) (first next : List ℕ) → i ≡ 0 → HeadsFrom d i first next → AreFaceRows d first next
heads_done d i first next e h = record {
  faces = h.faces;
  rows = h.rows;
  heads = λ face low. subst (λ n. IsHead d face n (get_or first face 0)) e (h.heads face low);
  nexts = λ r face on. h.nexts r face (omega (arith, e)) on;
}

later_or : (i x : ℕ) → i ≤ x → (i ≡ x) ⊎ (i + 1 ≤ x)
later_or zero zero h = inl refl
later_or zero (suc x) h = inr (omega arith)
later_or (suc i) zero h = absurd (omega (arith, h))
later_or (suc i) (suc x) h = ⊎_elim (λ a. inl (ap suc a)) (λ b. inr (omega (arith, b))) (later_or i x (omega (arith, h)))

-- the row before the linked ones is linked
pub heads_step : (d : ShellRows) (j i f was : ℕ) (first next : List ℕ) → AreRows d → j ≡ i + 1 → OnFace d f i → was ≡ get_or first f was
    → HeadsFrom d j first next → HeadsFrom d i (slice_set first f i) (slice_set next i was)
heads_step d j i f was first next whole after on is_was h = record {
  faces = length-set first f i ∙ h.faces;
  rows = length-set next i was ∙ h.rows;
  heads = λ face low. by_face face low (eqb_tells f face);
  nexts = λ r face le on_r. by_row r face on_r (later_or i r le);
}
  where
    f_low : f < length first
    f_low = omega (arith, face_low d f i whole on, h.faces)

    i_low : i < length next
    i_low = omega (arith, slice_get_within d.rows i on.0 on.1, h.rows)

    known : was ≡ get_or first f 0
    known = is_was ∙ default_apart first f was 0 f_low

    by_face : (face : ℕ) → face < d.face_count → (((f == face) ≡ true) × (f ≡ face)) ⊎ (((f == face) ≡ false) × (f ≢ face))
        → IsHead d face i (get_or (slice_set first f i) face 0)
    by_face face low (inl y) =
        let there : get_or (slice_set first f i) face 0 ≡ i = subst (λ k. get_or (slice_set first f i) k 0 ≡ i) y.1 (set_same first f i 0 f_low) in
        subst (IsHead d face i) (sym there) (record {
          low = omega arith;
          high = omega (arith, i_low, h.rows);
          here = λ lt. subst (λ k. OnFace d k i) y.1 on;
          all = λ x on_x le. le;
        })
    by_face face low (inr n) =
        let t : IsHead d face j (get_or first face 0) = h.heads face low in
        subst (IsHead d face i) (sym (set_other first f face i 0 n.1)) (record {
          low = omega (arith, t.low, after);
          high = t.high;
          here = t.here;
          all = λ x on_x le. ⊎_elim (λ a. absurd (n.1 (one_face d f face i on (subst (λ k. OnFace d face k) (sym a) on_x))))
              (λ b. t.all x on_x (omega (arith, b, after))) (later_or i x le);
        })

    by_row : (r face : ℕ) → OnFace d face r → (i ≡ r) ⊎ (i + 1 ≤ r) → IsHead d face (r + 1) (get_or (slice_set next i was) r 0)
    by_row r face on_r (inl e) =
        let same : f ≡ face = one_face d f face i on (subst (λ k. OnFace d face k) (sym e) on_r) in
        let there : get_or (slice_set next i was) i 0 ≡ get_or first f 0 = set_same next i was 0 i_low ∙ known in
        let head : IsHead d f (i + 1) (get_or first f 0) = subst (λ k. IsHead d f k (get_or first f 0)) after (h.heads f (face_low d f i whole on)) in
        subst (λ k. IsHead d face (k + 1) (get_or (slice_set next i was) k 0)) e
        (subst (IsHead d face (i + 1)) (sym there) (subst (λ k. IsHead d k (i + 1) (get_or first f 0)) same head))
    by_row r face on_r (inr later) =
        let apart : i ≢ r = λ e. absurd (omega (arith, e, later)) in
        subst (IsHead d face (r + 1)) (sym (set_other next i r was 0 apart)) (h.nexts r face (omega (arith, later, after)) on_r)
