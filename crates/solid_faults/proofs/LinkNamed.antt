-- A vertex is linked exactly where one fan alone lies there, or one loop without an edge alone.
use Rattle.std.specs.Prelude.{◌≡◌, ◌≤◌, ◌+◌, ◌==◌, ◌&&◌, ◌||◌, ◌⊎◌, ℕ, zero, suc, Bool, true, false, List, [], ◌∷◌, map, Some, slice_get, if◌then◌else◌}
use Rattle.std.proofs.Common.{refl, sym, ◌∙◌, ap, subst, arith, inl, inr, ⊎_elim}
use Rattle.std.proofs.lemmas.Bool.{eq-eqb, eqb-true, cases_lt}
use Rattle.std.proofs.lemmas.Option.{slice_get_within}
use Rattle.solid_data.specs.Chain.{Steps, LeadsTo}
use Rattle.solid_data.specs.Obligations.{Obligation}
use Rattle.solid_data.specs.SolidData.{SolidData, vertex_name}
use Rattle.solid_data.specs.declared.verdict.Rule.TheVariants.{Unlinked as RuleUnlinked}
use Rattle.solid_data.proofs.Members.{get_some}
use Rattle.solid_data.proofs.Trail.{leads_here, leads_trans}
use Rattle.edge_uses.specs.RowRelations.{Turns, StartsAt, point_count}
use Rattle.edge_uses.specs.Around.{IsCorner, IsPoint, IsLinked}
use Rattle.edge_uses.specs.Mates.{ArePaired, TurnsPermute}
use Rattle.edge_uses.specs.ShellRows.{ShellRows}
use Rattle.shell_rules.specs.ShellObligations.{link_obligations, at_vertex}
use Rattle.edge_uses.proofs.Turns.{turns_permute}
use Rattle.solid_faults.specs.Failing.{AreFailing}
use Rattle.solid_faults.specs.Fans.{AreFans, fan_count, vertex_unlinked, unlinked_of, unlinked_failing}
use Rattle.solid_faults.proofs.FailingLemmas.{failing_map, holds_too, fails_too}
use Rattle.solid_faults.proofs.FanCounts.{FanAt, found_fan, counted_fan, one_fan, few_fans}

steps_stay : (d : ShellRows) (v n a b : ℕ) → TurnsPermute d → Steps (Turns d) n a b → StartsAt d v a → StartsAt d v b
steps_stay d v zero a b p e at = subst (StartsAt d v) e at
steps_stay d v (suc n) a b p (c, turn, rest) at = steps_stay d v n c b p rest (p.stays v a c at turn)

-- the least row of a row's fan is counted
record HasFan (d : ShellRows) (leasts : List ℕ) (v r : ℕ) : Type 0 where
  f : ℕ
  fan : FanAt v 0 d.rows leasts f
  down : LeadsTo (Turns d) r f
  back : LeadsTo (Turns d) f r

has_fan : (d : ShellRows) (leasts : List ℕ) (v r : ℕ) → ArePaired d → AreFans d leasts → StartsAt d v r → HasFan d leasts v r
has_fan d leasts v r whole h at =
    let p : TurnsPermute d = turns_permute d whole in
    let k = get_some leasts r (omega (arith, slice_get_within d.rows r at.0 at.1, h.each)) in
    let f : ℕ = k.0 in
    let down = h.down r f k.1 in
    let start = steps_stay d v down.0 r f p down.1 at in
    let g = get_some leasts f (omega (arith, slice_get_within d.rows f start.0 start.1, h.each)) in
    let on = h.down f g.0 g.1 in
    let low : g.0 ≤ f = h.least f g.0 f g.1 (leads_here (Turns d) f) in
    let high : f ≤ g.0 = h.least r f g.0 k.1 (leads_trans (Turns d) r f g.0 down.0 down.1 on) in
    let same : g.0 ≡ 0 + f = omega (arith, low, high) in
    record { f = f; fan = record { row = start.0; at = start.1; starts = start.2; least = g.1 ∙ ap Some same }; down = down; back = h.back r f k.1 }

fan_start : (d : ShellRows) (leasts : List ℕ) (v j : ℕ) → FanAt v 0 d.rows leasts j → StartsAt d v j
fan_start d leasts v j h = (h.row, h.at, h.starts)

corner_of : (d : ShellRows) (leasts : List ℕ) (v : ℕ) → ArePaired d → AreFans d leasts → fan_count d leasts v ≡ 1 → point_count d v ≡ 0 → IsCorner d v
corner_of d leasts v whole h one none =
    let j = found_fan v 0 d.rows leasts (omega (arith, one)) in
    record {
      some = (j.0, fan_start d leasts v j.0 j.1);
      one_cycle = λ r s at_r at_s.
          let a = has_fan d leasts v r whole h at_r in
          let b = has_fan d leasts v s whole h at_s in
          let same : a.f ≡ b.f = one_fan v 0 d.rows leasts a.f b.f one a.fan b.fan in
          let to : LeadsTo (Turns d) r b.f = subst (LeadsTo (Turns d) r) same a.down in
          leads_trans (Turns d) r b.f s to.0 to.1 b.back;
      no_point = none;
    }

point_of_counts : (d : ShellRows) (leasts : List ℕ) (v : ℕ) → ArePaired d → AreFans d leasts → fan_count d leasts v ≡ 0 → point_count d v ≡ 1 → IsPoint d v
point_of_counts d leasts v whole h none one = record {
  no_row = λ r at. let a = has_fan d leasts v r whole h at in absurd (let c = counted_fan v 0 d.rows leasts a.f a.fan in omega (arith, c, none));
  one_point = one;
}

corner_counts : (d : ShellRows) (leasts : List ℕ) (v : ℕ) → ArePaired d → AreFans d leasts → IsCorner d v → fan_count d leasts v ≡ 1
corner_counts d leasts v whole h corner =
    let a = has_fan d leasts v corner.some.0 whole h corner.some.1 in
    let some = counted_fan v 0 d.rows leasts a.f a.fan in
    let few = few_fans v 0 d.rows leasts (λ j k at_j at_k.
    let ej : 0 + j ≡ j = omega arith in
    let ek : 0 + k ≡ k = omega arith in
    let low : j ≤ k = h.least j j k (at_j.least ∙ ap Some ej) (corner.one_cycle j k (fan_start d leasts v j at_j) (fan_start d leasts v k at_k)) in
    let high : k ≤ j = h.least k k j (at_k.least ∙ ap Some ek) (corner.one_cycle k j (fan_start d leasts v k at_k) (fan_start d leasts v j at_j)) in
    omega (arith, low, high)) in
    omega (arith, some, few)

point_counts : (d : ShellRows) (leasts : List ℕ) (v : ℕ) → IsPoint d v → fan_count d leasts v ≡ 0
point_counts d leasts v point =
    ⊎_elim (λ some. let j = found_fan v 0 d.rows leasts (omega (arith, some)) in absurd (point.no_row j.0 (fan_start d leasts v j.0 j.1)))
    (λ none. omega (arith, none)) (cases_lt 0 (fan_count d leasts v))

link_test : (a b c e : Bool) → ((a && b) || (c && e)) ≡ true → ((a ≡ true) × (b ≡ true)) ⊎ ((c ≡ true) × (e ≡ true))
link_test true true c e h = inl (refl, refl)
link_test true false true true h = inr (refl, refl)
link_test true false true false h = absurd cc
link_test true false false e h = absurd cc
link_test false b true true h = inr (refl, refl)
link_test false b true false h = absurd cc
link_test false b false e h = absurd cc

or_true : (x : Bool) → (x || true) ≡ true
or_true true = refl
or_true false = refl

test_link : (a b c e : Bool) → ((a ≡ true) × (b ≡ true)) ⊎ ((c ≡ true) × (e ≡ true)) → ((a && b) || (c && e)) ≡ true
test_link a b c e (inl h) = ap (λ t. (t && b) || (c && e)) h.0 ∙ ap (λ t. (true && t) || (c && e)) h.1
test_link a b c e (inr h) = ap (λ t. (a && b) || (t && e)) h.0 ∙ (ap (λ t. (a && b) || (true && t)) h.1 ∙ or_true (a && b))

linked_test : (d : ShellRows) (leasts : List ℕ) (v : ℕ) → ArePaired d → AreFans d leasts → IsLinked d v
    → (((fan_count d leasts v == 1) && (point_count d v == 0)) || ((fan_count d leasts v == 0) && (point_count d v == 1))) ≡ true
linked_test d leasts v whole h linked =
    test_link (fan_count d leasts v == 1) (point_count d v == 0) (fan_count d leasts v == 0) (point_count d v == 1)
    (⊎_elim
    (λ corner. inl (eq-eqb (fan_count d leasts v) 1 (corner_counts d leasts v whole h corner), eq-eqb (point_count d v) 0 corner.no_point))
    (λ point. inr (eq-eqb (fan_count d leasts v) 0 (point_counts d leasts v point), eq-eqb (point_count d v) 1 point.one_point)) linked)

test_linked : (d : ShellRows) (leasts : List ℕ) (v : ℕ) → ArePaired d → AreFans d leasts
    → (((fan_count d leasts v == 1) && (point_count d v == 0)) || ((fan_count d leasts v == 0) && (point_count d v == 1))) ≡ true → IsLinked d v
test_linked d leasts v whole h test =
    ⊎_elim
    (λ a. inl (corner_of d leasts v whole h (eqb-true (fan_count d leasts v) 1 a.0) (eqb-true (point_count d v) 0 a.1)))
    (λ b. inr (point_of_counts d leasts v whole h (eqb-true (fan_count d leasts v) 0 b.0) (eqb-true (point_count d v) 1 b.1)))
    (link_test (fan_count d leasts v == 1) (point_count d v == 0) (fan_count d leasts v == 0) (point_count d v == 1) test)

vertex_linked : (s : SolidData) (d : ShellRows) (leasts : List ℕ) → ArePaired d → AreFans d leasts → (v : ℕ)
    → AreFailing (at_vertex RuleUnlinked (vertex_name (slice_get s.vertices v)) (IsLinked d v) ∷ []) (map (unlinked_failing s) (vertex_unlinked d leasts v))
vertex_linked s d leasts whole h v =
    by_test (((fan_count d leasts v == 1) && (point_count d v == 0)) || ((fan_count d leasts v == 0) && (point_count d v == 1))) refl
  where
    o : Obligation
    o = at_vertex RuleUnlinked (vertex_name (slice_get s.vertices v)) (IsLinked d v)

    by_test : (b : Bool) → (((fan_count d leasts v == 1) && (point_count d v == 0)) || ((fan_count d leasts v == 0) && (point_count d v == 1))) ≡ b
        → AreFailing (o ∷ []) (map (unlinked_failing s)
        (if b then [] else record { vertex = record { 0 = v }; fans = fan_count d leasts v; points = point_count d v } ∷ []))
    by_test true e = holds_too o [] [] (test_linked d leasts v whole h e) refl
    by_test false e = fails_too o [] o.failing [] (λ linked. absurd (let clash : true ≡ false = sym (linked_test d leasts v whole h linked) ∙ e in cc)) refl
        refl

pub unlinked_named : (s : SolidData) (d : ShellRows) (leasts : List ℕ) → ArePaired d → AreFans d leasts
    → AreFailing (link_obligations s d) (map (unlinked_failing s) (unlinked_of d leasts))
unlinked_named s d leasts whole h = failing_map (λ v. at_vertex RuleUnlinked (vertex_name (slice_get s.vertices v)) (IsLinked d v)) (vertex_unlinked d leasts)
    (unlinked_failing s) d.vertices (vertex_linked s d leasts whole h)
