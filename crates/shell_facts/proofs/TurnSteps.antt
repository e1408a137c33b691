-- Turns are the ones that the words say, and tables of rows by vertices and by fans.
use Rattle.std.specs.Prelude.{◌≡◌, ◌<◌, ◌≤◌, ◌+◌, ◌-◌, ◌==◌, ◌&&◌, not, ℕ, zero, suc, Bool, true, false, List, [], ◌∷◌, ◌++◌, length, map, flat_map, slice_get}
use Rattle.std.specs.Prelude.{Some, All, if◌then◌else◌}
use Rattle.std.specs.List.{enumerate_from}
use Rattle.std.proofs.Common.{refl, sym, ◌∙◌, ap, subst, arith, inl, inr, ⊎_elim, get_or, drop, append_assoc}
use Rattle.std.proofs.lemmas.Bool.Decides.{eqb_tells}
use Rattle.std.proofs.lemmas.Bool.{eqb-true}
use Rattle.std.proofs.lemmas.List.{append-nil, drop_all, length-map}
use Rattle.std.proofs.lemmas.Option.{get_or_from_slice_get, same_Some, slice_get_within}
use Rattle.solid_data.specs.declared.solid.EdgeId.{EdgeId}
use Rattle.solid_data.specs.declared.solid.LoopAt.{LoopAt}
use Rattle.solid_data.proofs.Members.{Has, Has-from_Contains, Has-from_place, all_has, get_some, has_flat_map, has_map, from_flat_map}
use Rattle.solid_data.proofs.Trail.{leads_here}
use Rattle.solid_data.proofs.Occurs.{all_at}
use Rattle.solid_data.specs.declared.spanning.Span.{Span}
use Rattle.solid_data.specs.Ranges.{IsWithin, IsSpanOf}
use Rattle.edge_uses.specs.declared.row.Row.{Row}
use Rattle.edge_uses.specs.RowRelations.{AreMates, Turns}
use Rattle.edge_uses.specs.Mates.{AreInvolution}
use Rattle.edge_uses.specs.ShellRows.{ShellRows, AreRows}
use Rattle.edge_uses.proofs.Joins.{split_drop}
use Rattle.edge_uses.proofs.Steps.{default_apart}
use Rattle.solid_faults.specs.Fans.{AreFans}
use Rattle.shell_components.specs.Groups.{places_of}
use Rattle.shell_components.specs.Trees.{AreTrees}
use Rattle.solid_faults.proofs.GapSteps.{piece_more}
use Rattle.shell_facts.proofs.PartSteps.{all_from}
use Rattle.shell_facts.specs.FanFacts.{mate_if, mates_of, turn_of, least_if, by_turns, on_fan, on_fans, fan_rows, alone_if, alone_numbered, alone_at}
use Rattle.shell_facts.specs.declared.turning.AtVertex.{AtVertex}
use Rattle.shell_facts.proofs.AtPlaces.{places_read, place_below}

enumerated_has : {A : Type 0} (i k : ℕ) (xs : List A) (x : A) → slice_get xs k ≡ Some x → Has (enumerate_from i xs) (i + k, x)
enumerated_has i k [] x at = absurd cc
enumerated_has i zero (y ∷ xs) x at = let z : i ≡ i + 0 = omega arith in inl (ap (λ n. (n, y)) z ∙ ap (λ a. (i + 0, a)) (same_Some y x at))
enumerated_has i (suc k) (y ∷ xs) x at =
    let z : i + 1 + k ≡ i + suc k = omega arith in inr (subst (λ n. Has (enumerate_from (i + 1) xs) (n, x)) z (enumerated_has (i + 1) k xs x at))

enumerated_at : {A : Type 0} (i : ℕ) (xs : List A) (q : ℕ × A) → Has (enumerate_from i xs) q → (k : ℕ) × (q.0 ≡ i + k) × (slice_get xs k ≡ Some q.1)
enumerated_at i [] q m = absurd m
enumerated_at {A = A} i (x ∷ xs) q (inl e) = (0, omega (arith, ap (λ (p : ℕ × A). p.0) e), ap (λ (p : ℕ × A). Some p.1) e)
enumerated_at i (x ∷ xs) q (inr m) = let h = enumerated_at (i + 1) xs q m in (suc h.0, omega (arith, h.1), h.2)

same_edge : (a b : EdgeId) → a.0 ≡ b.0 → a ≡ b
same_edge a b e = ap (λ n. record { 0 = n }) e

other_way : (a b : Bool) → a ≡ not b → (if a then not b else b) ≡ true
other_way true true e = absurd cc
other_way true false e = refl
other_way false true e = refl
other_way false false e = absurd cc

way_other : (a b : Bool) → (if a then not b else b) ≡ true → a ≡ not b
way_other true true e = absurd cc
way_other true false e = refl
way_other false true e = refl
way_other false false e = absurd cc

mate_tests : (row : Row) (q : ℕ × Row) (x : ℕ) → Has (mate_if row q) x → (q.0 ≡ x) × (q.1.edge.0 ≡ row.edge.0) × (row.along ≡ not q.1.along)
mate_tests row q x m = by_tests (q.1.edge.0 == row.edge.0) (if row.along then not q.1.along else q.1.along) refl refl m
  where
    by_tests : (a b : Bool) → (q.1.edge.0 == row.edge.0) ≡ a → (if row.along then not q.1.along else q.1.along) ≡ b → Has (if a && b then q.0 ∷ [] else []) x
        → (q.0 ≡ x) × (q.1.edge.0 ≡ row.edge.0) × (row.along ≡ not q.1.along)
    by_tests true true e f (inl k) = (k, eqb-true q.1.edge.0 row.edge.0 e, way_other row.along q.1.along f)
    by_tests true true e f (inr k) = absurd k
    by_tests true false e f k = absurd k
    by_tests false b e f k = absurd k

mate_among : (row mate : Row) (m : ℕ) → row.edge ≡ mate.edge → row.along ≡ not mate.along → Has (mate_if row (m, mate)) m
mate_among row mate m edge way = by_tests (mate.edge.0 == row.edge.0) (if row.along then not mate.along else mate.along)
    (is_same mate.edge.0 row.edge.0 (ap (λ (e : EdgeId). e.0) (sym edge))) (other_way row.along mate.along way)
  where
    is_same : (a b : ℕ) → a ≡ b → (a == b) ≡ true
    is_same a b e = ⊎_elim (λ h. h.0) (λ h. absurd (h.1 e)) (eqb_tells a b)

    by_tests : (a b : Bool) → a ≡ true → b ≡ true → Has (if a && b then m ∷ [] else []) m
    by_tests true true e f = inl refl
    by_tests true false e f = absurd cc
    by_tests false b e f = absurd cc

mates_have : (d : ShellRows) (r m : ℕ) → AreMates d r m → Has (mates_of d (slice_get d.rows r)) m
mates_have d r m h =
    let z : 0 + m ≡ m = omega arith in
    subst (λ o. Has (mates_of d o) m) (sym h.at_r)
    (has_flat_map (mate_if h.row) (enumerate_from 0 d.rows) (m, h.mate) m
    (subst (λ n. Has (enumerate_from 0 d.rows) (n, h.mate)) z (enumerated_has 0 m d.rows h.mate h.at_m)) (mate_among h.row h.mate m h.one_edge h.opposite))

mates_are : (d : ShellRows) (r x : ℕ) (row : Row) → slice_get d.rows r ≡ Some row → Has (mates_of d (Some row)) x → AreMates d r x
mates_are d r x row at m =
    let from : (q : ℕ × Row) × Has (enumerate_from 0 d.rows) q × Has (mate_if row q) x = from_flat_map (mate_if row) (enumerate_from 0 d.rows) x m in
    let place : (k : ℕ) × (from.0.0 ≡ 0 + k) × (slice_get d.rows k ≡ Some from.0.1) = enumerated_at 0 d.rows from.0 from.1 in
    let tests = mate_tests row from.0 x from.2 in
    let e : place.0 ≡ x = omega (arith, place.1, tests.0) in
    record {
      row = row;
      mate = from.0.1;
      at_r = at;
      at_m = subst (λ n. slice_get d.rows n ≡ Some from.0.1) e place.2;
      one_edge = same_edge row.edge from.0.1.edge (sym tests.1);
      opposite = tests.2;
    }

first_is : (xs : List ℕ) (m : ℕ) → Has xs m → ((x : ℕ) → Has xs x → x ≡ m) → get_or xs 0 0 ≡ m
first_is [] m h one = absurd h
first_is (x ∷ xs) m h one = one x (inl refl)

-- the row that a row turns to is the one that the words say
pub turn_is : (d : ShellRows) (r t : ℕ) → AreInvolution d → Turns d r t → t ≡ turn_of d r
turn_is d r t mates turn =
    let m : ℕ = turn.0 in
    let h : AreMates d r m = turn.1 in
    let first : get_or (mates_of d (slice_get d.rows r)) 0 0 ≡ m =
    first_is (mates_of d (slice_get d.rows r)) m (mates_have d r m h)
    (λ x k. mates.one r x m (mates_are d r x h.row h.at_r (subst (λ o. Has (mates_of d o) x) h.at_r k)) h) in
    sym (ap (λ n. get_or d.follows n 0) first ∙ get_or_from_slice_get d.follows m t 0 turn.2)

pub turn_inside : (d : ShellRows) (r t : ℕ) → AreRows d → Turns d r t → t < length d.rows
turn_inside d r t rows turn =
    let h : AreMates d r turn.0 = turn.1 in
    let next = rows.followed turn.0 h.mate h.at_m in
    let e : next.0 ≡ t = same_Some next.0 t (sym next.2 ∙ turn.2) in
    slice_get_within d.rows t next.1 (subst (λ n. slice_get d.rows n ≡ Some next.1) e next.3)

pub leasts_low : (d : ShellRows) (leasts : List ℕ) → AreFans d leasts → AreTrees leasts
leasts_low d leasts fans x lt =
    let at : (f : ℕ) × (slice_get leasts x ≡ Some f) = get_some leasts x lt in
    subst (λ n. n ≤ x) (sym (get_or_from_slice_get leasts x at.0 0 at.1)) (fans.least x at.0 x at.1 (leads_here (Turns d) x))

pub starts_within : (d : ShellRows) (range : Span) (ns : List ℕ) → AreRows d → IsSpanOf range d.vertices → ns ≡ map (λ (r : Row). r.from.0) d.rows
    → All (IsWithin range) ns
starts_within d range ns rows span are = all_from (IsWithin range) ns (λ x m.
    let from : (r : Row) × Has d.rows r × (r.from.0 ≡ x) = has_map (λ (r : Row). r.from.0) d.rows x (subst (λ ys. Has ys x) are m) in
    let hold = all_has _ d.rows from.0 rows.vertices_hold from.1 in
    all_at (IsWithin range) d.vertices x span.holds (subst (Has d.vertices) from.2 (Has-from_Contains d.vertices from.0.from.0 hold.0)))

pub points_within : (d : ShellRows) (range : Span) (ns : List ℕ) → AreRows d → IsSpanOf range d.vertices → ns ≡ map (λ (p : LoopAt × ℕ). p.1) d.points
    → All (IsWithin range) ns
points_within d range ns rows span are = all_from (IsWithin range) ns (λ x m.
    let from : (p : LoopAt × ℕ) × Has d.points p × (p.1 ≡ x) = has_map (λ (p : LoopAt × ℕ). p.1) d.points x (subst (λ ys. Has ys x) are m) in
    let hold = all_has _ d.points from.0 rows.points_hold from.1 in
    all_at (IsWithin range) d.vertices x span.holds (subst (Has d.vertices) from.2 (Has-from_Contains d.vertices from.0.1 hold)))

-- the fans of two lists of rows
on_fans_append : (d : ShellRows) (leasts : List ℕ) (i : ℕ) (xs ys : List ℕ) → on_fans d leasts i (xs ++ ys) ≡ on_fans d leasts i xs
    ++ on_fans d leasts (i + length xs) ys
on_fans_append d leasts i [] ys = let z : i ≡ i + 0 = omega arith in ap (λ n. on_fans d leasts n ys) z
on_fans_append d leasts i (x ∷ xs) ys =
    let z : i + 1 + length xs ≡ i + suc (length xs) = omega arith in
    ap (λ zs. map (on_fan i) (fan_rows d leasts x) ++ zs) (on_fans_append d leasts (i + 1) xs ys)
    ∙ (sym (append_assoc (map (on_fan i) (fan_rows d leasts x)) (on_fans d leasts (i + 1) xs) (on_fans d leasts (i + 1 + length xs) ys))
    ∙ ap (λ n. on_fans d leasts i (x ∷ xs) ++ on_fans d leasts n ys) z)

-- one row more of a fan
pub turn_step : (d : ShellRows) (fan left row next : ℕ) (old new all : List AtVertex) → 0 < left → old ++ map (on_fan fan) (by_turns d left row) ≡ all
    → new ≡ old ++ on_fan fan row ∷ [] → next ≡ turn_of d row
    → new ++ map (on_fan fan) (by_turns d (left - 1) next) ≡ all
turn_step d fan left row next old new all some h e is =
    let one : left ≡ suc (left - 1) = omega (arith, some) in
    ap (λ n. new ++ map (on_fan fan) (by_turns d (left - 1) n)) is
    ∙ piece_more old new (on_fan fan row ∷ []) (map (on_fan fan) (by_turns d (left - 1) (turn_of d row))) all
    (ap (λ n. old ++ map (on_fan fan) (by_turns d n row)) (sym one) ∙ h) e

-- one row more that starts at the vertex
pub fan_step : (d : ShellRows) (leasts : List ℕ) (fan next r : ℕ) (rest : List ℕ) (old new all : List AtVertex)
    → old ++ on_fans d leasts fan (least_if leasts r ++ rest) ≡ all
    → new ≡ old ++ on_fans d leasts fan (least_if leasts r) → next ≡ fan + length (least_if leasts r) → new ++ on_fans d leasts next rest ≡ all
fan_step d leasts fan next r rest old new all h e n =
    ap (λ xs. xs ++ on_fans d leasts next rest) e
    ∙ (append_assoc old (on_fans d leasts fan (least_if leasts r)) (on_fans d leasts next rest)
    ∙ (ap (λ k. old ++ (on_fans d leasts fan (least_if leasts r) ++ on_fans d leasts k rest)) n
    ∙ (ap (λ xs. old ++ xs) (sym (on_fans_append d leasts fan (least_if leasts r) rest)) ∙ h)))

pub row_split : (rows : List ℕ) (i r : ℕ) → i < length rows → get_or rows i 0 ≡ r → drop i rows ≡ r ∷ drop (i + 1) rows
row_split rows i r lt at = split_drop rows r i lt (default_apart rows i r 0 lt ∙ at)

pub rows_inside : (v i r : ℕ) (d : ShellRows) (rows : List ℕ) → rows ≡ places_of v (map (λ (r : Row). r.from.0) d.rows) → i < length rows → get_or rows i 0 ≡ r
    → r < length d.rows
rows_inside v i r d rows are lt at =
    let h : r < length (map (λ (r : Row). r.from.0) d.rows) =
    place_below v r (map (λ (r : Row). r.from.0) d.rows) (subst (λ rs. Has rs r) are (Has-from_place rows r i lt (default_apart rows i r 0 lt ∙ at))) in
    omega (arith, h, length-map d.rows (λ (r : Row). r.from.0))

pub least_short : (leasts : List ℕ) (r : ℕ) → length (least_if leasts r) ≤ 1
least_short leasts r = by_test (get_or leasts r 0 == r)
  where
    by_test : (b : Bool) → length (if b then r ∷ [] else []) ≤ 1
    by_test true = omega arith
    by_test false = omega arith

pub alone_read : (d : ShellRows) (v : ℕ) → flat_map (alone_numbered d) (places_of v (map (λ (p : LoopAt × ℕ). p.1) d.points)) ≡ flat_map (alone_if v) d.points
alone_read d v = places_read v (λ (p : LoopAt × ℕ). p.1) alone_at d.points

pub read_done : (f : ℕ → List AtVertex) (xs : List ℕ) (i : ℕ) (now all : List AtVertex) → length xs ≤ i → now ++ flat_map f (drop i xs) ≡ all → now ≡ all
read_done f xs i now all past h = sym (append-nil now) ∙ (ap (λ ys. now ++ flat_map f ys) (sym (drop_all i xs past)) ∙ h)
