-- All rows at a vertex, fan by fan.
use Rattle.std.specs.Prelude.{◌≡◌, ◌<◌, ◌+◌, ◌==◌, ◌⊎◌, ℕ, zero, suc, Bool, true, false, List, [], ◌∷◌, ◌++◌, map, flat_map, Some, slice_get, if◌then◌else◌}
use Rattle.std.specs.Prelude.{get_or}
use Rattle.std.proofs.Common.{refl, sym, ◌∙◌, ap, subst, arith, inl, inr, ⊎_elim}
use Rattle.std.proofs.lemmas.Bool.{eqb-true}
use Rattle.std.proofs.lemmas.Grind.{flat_map-append}
use Rattle.std.proofs.lemmas.List.{append-nil}
use Rattle.std.proofs.lemmas.Option.{get_or_from_slice_get, same_Some, slice_get_within}
use Rattle.solid_data.specs.declared.solid.LoopAt.{LoopAt}
use Rattle.solid_data.proofs.Members.{Has, NoRepeat, Contains-from_Has, Has-from_Contains, from_flat_map, get_some, has_flat_map}
use Rattle.edge_uses.specs.ShellRows.{ShellRows}
use Rattle.edge_uses.specs.declared.row.Row.{Row}
use Rattle.edge_uses.specs.RowRelations.{StartsAt}
use Rattle.edge_uses.specs.Mates.{ArePaired}
use Rattle.solid_faults.specs.Fans.{AreFans}
use Rattle.shell_facts.specs.declared.turning.AtVertex.TheVariants.{Alone}
use Rattle.shell_facts.specs.FanFacts.{alone_if, around, fan_rows, fans_at, least_if, on_fan, on_fans, rows_from}
use Rattle.fault_laws.specs.Rounds.{AreRounds, row_in, rows_told}
use Rattle.fault_laws.proofs.Listed.{is_same, once_flat, one_place, place_has, place_is, places_once}
use Rattle.fault_laws.proofs.Walks.{fan_along, fan_once, fan_round, fan_within, starts_along, walk_whole}

-- ---- the rows that are told

told_fan : (i : ℕ) (xs : List ℕ) → flat_map row_in (map (on_fan i) xs) ≡ xs
told_fan i [] = refl
told_fan i (x ∷ xs) = ap (λ ys. x ∷ ys) (told_fan i xs)

told_fans : (d : ShellRows) (leasts : List ℕ) (i : ℕ) (fs : List ℕ) → flat_map row_in (on_fans d leasts i fs) ≡ flat_map (fan_rows d leasts) fs
told_fans d leasts i [] = refl
told_fans d leasts i (f ∷ fs) =
    flat_map-append row_in (map (on_fan i) (fan_rows d leasts f)) (on_fans d leasts (i + 1) fs)
    ∙ (ap (λ xs. xs ++ flat_map row_in (on_fans d leasts (i + 1) fs)) (told_fan i (fan_rows d leasts f))
    ∙ ap (λ ys. fan_rows d leasts f ++ ys) (told_fans d leasts (i + 1) fs))

told_alone : (v : ℕ) (ps : List (LoopAt × ℕ)) → flat_map row_in (flat_map (alone_if v) ps) ≡ []
told_alone v [] = refl
told_alone v (p ∷ ps) = by_test (p.1 == v) (told_alone v ps)
  where
    by_test : (b : Bool) → flat_map row_in (flat_map (alone_if v) ps) ≡ []
        → flat_map row_in ((if b then Alone p.0 ∷ [] else []) ++ flat_map (alone_if v) ps) ≡ []
    by_test true e = e
    by_test false e = e

told_is : (d : ShellRows) (leasts : List ℕ) (v : ℕ) → rows_told d leasts v ≡ flat_map (fan_rows d leasts) (fans_at d leasts v)
told_is d leasts v =
    flat_map-append row_in (on_fans d leasts 1 (fans_at d leasts v)) (flat_map (alone_if v) d.points)
    ∙ (ap (λ xs. flat_map row_in (on_fans d leasts 1 (fans_at d leasts v)) ++ xs) (told_alone v d.points)
    ∙ (append-nil (flat_map row_in (on_fans d leasts 1 (fans_at d leasts v))) ∙ told_fans d leasts 1 (fans_at d leasts v)))

-- ---- rows that start at the vertex

start_at : (rows : List Row) (r v : ℕ) → slice_get (map (λ (x : Row). x.from.0) rows) r ≡ Some v → (row : Row) × (slice_get rows r
    ≡ Some row) × (row.from.0 ≡ v)
start_at [] r v at = absurd cc
start_at (x ∷ rows) zero v at = (x, refl, same_Some x.from.0 v at)
start_at (x ∷ rows) (suc r) v at = start_at rows r v at

at_start : (rows : List Row) (r v : ℕ) (row : Row) → slice_get rows r ≡ Some row → row.from.0 ≡ v → slice_get (map (λ (x : Row). x.from.0) rows) r ≡ Some v
at_start [] r v row at is = absurd cc
at_start (x ∷ rows) zero v row at is = ap (λ n. Some n) (ap (λ (y : Row). y.from.0) (same_Some x row at) ∙ is)
at_start (x ∷ rows) (suc r) v row at is = at_start rows r v row at is

least_tests : (leasts : List ℕ) (r f : ℕ) → Has (least_if leasts r) f → (r ≡ f) × (get_or leasts r 0 ≡ r)
least_tests leasts r f h = by_test (get_or leasts r 0 == r) refl h
  where
    by_test : (b : Bool) → (get_or leasts r 0 == r) ≡ b → Has (if b then r ∷ [] else []) f → (r ≡ f) × (get_or leasts r 0 ≡ r)
    by_test true e (inl k) = (k, eqb-true (get_or leasts r 0) r e)
    by_test true e (inr k) = absurd k
    by_test false e k = absurd k

least_has : (leasts : List ℕ) (r : ℕ) → get_or leasts r 0 ≡ r → Has (least_if leasts r) r
least_has leasts r is = by_test (get_or leasts r 0 == r) (is_same (get_or leasts r 0) r is)
  where
    by_test : (b : Bool) → b ≡ true → Has (if b then r ∷ [] else []) r
    by_test true e = inl refl
    by_test false e = absurd cc

-- a fan at the vertex: its least row starts there
record IsFanAt (d : ShellRows) (leasts : List ℕ) (v f : ℕ) : Type 0 where
  starts : StartsAt d v f
  own : slice_get leasts f ≡ Some f

fan_at : (d : ShellRows) (leasts : List ℕ) (v f : ℕ) → AreFans d leasts → Has (fans_at d leasts v) f → IsFanAt d leasts v f
fan_at d leasts v f fans h =
    let from : (r : ℕ) × Has (rows_from d v) r × Has (least_if leasts r) f = from_flat_map (least_if leasts) (rows_from d v) f h in
    let tests = least_tests leasts from.0 f from.2 in
    let starts : StartsAt d v from.0 = start_at d.rows from.0 v (place_is v from.0 (map (λ (x : Row). x.from.0) d.rows) from.1) in
    let known = get_some leasts from.0 (omega (arith, slice_get_within d.rows from.0 starts.0 starts.1, fans.each)) in
    let own : known.0 ≡ from.0 = sym (get_or_from_slice_get leasts from.0 known.0 0 known.1) ∙ tests.1 in
    record {
      starts = subst (StartsAt d v) tests.0 starts;
      own = subst (λ n. slice_get leasts n ≡ Some n) tests.0 (subst (λ n. slice_get leasts from.0 ≡ Some n) own known.1);
    }

least_once : (leasts : List ℕ) (r : ℕ) → NoRepeat (least_if leasts r)
least_once leasts r = by_test (get_or leasts r 0 == r)
  where
    by_test : (b : Bool) → NoRepeat (if b then r ∷ [] else [])
    by_test true = ((λ h. h), tt)
    by_test false = tt

fans_once : (d : ShellRows) (leasts : List ℕ) (v : ℕ) → NoRepeat (fans_at d leasts v)
fans_once d leasts v =
    once_flat (least_if leasts) (rows_from d v) (places_once v (map (λ (x : Row). x.from.0) d.rows)) (λ r h. least_once leasts r)
    (λ x y z h k a b. (least_tests leasts x z a).0 ∙ sym (least_tests leasts y z b).0)

told_once : (d : ShellRows) (leasts : List ℕ) (v : ℕ) → ArePaired d → AreFans d leasts → NoRepeat (flat_map (fan_rows d leasts) (fans_at d leasts v))
told_once d leasts v whole fans =
    once_flat (fan_rows d leasts) (fans_at d leasts v) (fans_once d leasts v)
    (λ f h. let fan = fan_at d leasts v f fans h in fan_once d leasts f whole fans fan.own)
    (λ f g z h k a b.
    let one = fan_at d leasts v f fans h in
    let other = fan_at d leasts v g fans k in
    same_Some f g (sym (fan_within d leasts f z whole fans one.own a) ∙ fan_within d leasts g z whole fans other.own b))

told_starts : (d : ShellRows) (leasts : List ℕ) (v r : ℕ) → ArePaired d → AreFans d leasts → Has (flat_map (fan_rows d leasts) (fans_at d leasts v)) r
    → StartsAt d v r
told_starts d leasts v r whole fans h =
    let from : (f : ℕ) × Has (fans_at d leasts v) f × Has (fan_rows d leasts f) r = from_flat_map (fan_rows d leasts) (fans_at d leasts v) r h in
    let fan = fan_at d leasts v from.0 fans from.1 in
    let chain = fans.back r from.0 (fan_within d leasts from.0 r whole fans fan.own from.2) in
    starts_along d v chain.0 from.0 r whole chain.1 fan.starts

starts_told : (d : ShellRows) (leasts : List ℕ) (v r : ℕ) → ArePaired d → AreFans d leasts → StartsAt d v r
    → Has (flat_map (fan_rows d leasts) (fans_at d leasts v)) r
starts_told d leasts v r whole fans at =
    let known : (f : ℕ) × (slice_get leasts r ≡ Some f) = get_some leasts r (omega (arith, slice_get_within d.rows r at.0 at.1, fans.each)) in
    let f : ℕ = known.0 in
    let down = fans.down r f known.1 in
    let own : slice_get leasts f ≡ Some f = fan_along d leasts f down.0 r f whole fans down.1 known.1 in
    let starts : StartsAt d v f = starts_along d v down.0 r f whole down.1 at in
    let first : Has (rows_from d v) f = place_has v f (map (λ (x : Row). x.from.0) d.rows) (at_start d.rows f v starts.0 starts.1 starts.2) in
    let fan : Has (fans_at d leasts v) f =
    has_flat_map (least_if leasts) (rows_from d v) f f first (least_has leasts f (get_or_from_slice_get leasts f f 0 own)) in
    has_flat_map (fan_rows d leasts) (fans_at d leasts v) f r fan (walk_whole d leasts f f r whole fans own known.1)

pub are_rounds : (d : ShellRows) (leasts : List ℕ) (v : ℕ) → ArePaired d → AreFans d leasts → AreRounds d leasts v
are_rounds d leasts v whole fans =
    let none : NoRepeat (rows_told d leasts v) = subst NoRepeat (sym (told_is d leasts v)) (told_once d leasts v whole fans) in
    record {
      fans = λ f h.
          let fan = fan_at d leasts v f fans (Has-from_Contains (fans_at d leasts v) f h) in fan_round d leasts f whole fans fan.own;
      each = λ r. (
        λ h. told_starts d leasts v r whole fans (subst (λ xs. Has xs r) (told_is d leasts v) (Has-from_Contains (rows_told d leasts v) r h)),
        λ at. Contains-from_Has (rows_told d leasts v) r (subst (λ xs. Has xs r) (sym (told_is d leasts v)) (starts_told d leasts v r whole fans at)),
      );
      once = λ i j r at there. one_place (rows_told d leasts v) i j r none at there;
    }
