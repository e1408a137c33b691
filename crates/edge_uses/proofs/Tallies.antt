-- What has been seen of each edge, row by row.
use Rattle.std.specs.Prelude.{◌≡◌, ◌≢◌, ◌<◌, ◌≤◌, ◌+◌, ◌-◌, ◌^◌, Contains, replicate, ◌==◌, ◌&&◌, ◌⊎◌, ℕ, zero, suc, Bool, true, false, not, cond, List, []}
use Rattle.std.specs.Prelude.{◌∷◌, length, slice_set, slice_get, Some}
use Rattle.std.proofs.Common.{refl, sym, ◌∙◌, ap, subst, arith, inl, inr, get_or, drop}
use Rattle.std.proofs.lemmas.Bool.Decides.{eqb_tells}
use Rattle.std.proofs.lemmas.Bool.{eq-eqb}
use Rattle.std.proofs.lemmas.Option.{slice_get-get_or}
use Rattle.std.proofs.lemmas.List.{drop_all, get_or-replicate, length-replicate, length-set}
use Rattle.solid_data.specs.Cells.{Celled}
use Rattle.solid_data.specs.Ranges.{IsWithin, IsSpanOf}
use Rattle.solid_data.specs.declared.spanning.Span.{Span}
use Rattle.edge_uses.specs.declared.row.Row.{Row}
use Rattle.edge_uses.specs.declared.tally.Seen.{Seen}
use Rattle.edge_uses.specs.ShellRows.{ShellRows, AreRows}
use Rattle.edge_uses.specs.Mates.{RunsOn}
use Rattle.edge_uses.specs.Tally.{unseen, seen_once_more, seen_of, IsSeen}
use Rattle.solid_data.proofs.Members.{total, count_by-total}
use Rattle.std.specs.List.{AllByRecursion}
use Rattle.edge_uses.proofs.Joins.{split_drop, at_place}
use Rattle.edge_uses.proofs.Steps.{default_apart}
use Rattle.edge_uses.proofs.Mating.{rows_within}

abbrev pub runs : ℕ → Bool → Row → Bool
runs e true r = (r.edge.0 == e) && r.along
runs e false r = (r.edge.0 == e) && not r.along

abbrev pub one_if : Bool → ℕ
one_if b = cond b 1 0

-- how many of these rows have the edge in this direction
abbrev pub times : ℕ → Bool → List Row → ℕ
times e way rows = total (λ r. one_if (runs e way r)) rows

-- what has been seen, before row i
pub record SeenBefore (d : ShellRows) (i e : ℕ) (seen : Seen) : Type 0 where
  pub along : seen.along + times e true (drop i d.rows) ≡ times e true d.rows
  pub against : seen.against + times e false (drop i d.rows) ≡ times e false d.rows
  pub along_row : 0 < seen.along → RunsOn d e true seen.along_row
  pub against_row : 0 < seen.against → RunsOn d e false seen.against_row

pub times_few : (e : ℕ) (way : Bool) (rows : List Row) → times e way rows ≤ length rows
times_few e way [] = omega arith
times_few e way (r ∷ rows) = by_test (runs e way r) (times_few e way rows)
  where
    by_test : (b : Bool) → times e way rows ≤ length rows → one_if b + times e way rows ≤ suc (length rows)
    by_test true h = omega (arith, h)
    by_test false h = omega (arith, h)

pub seen_few : (d : ShellRows) (i e : ℕ) (seen : Seen) (n : ℕ) → SeenBefore d i e seen → length d.rows < n → (seen.along < n) × (seen.against < n)
seen_few d i e seen n h few = (omega (arith, h.along, few, times_few e true d.rows), omega (arith, h.against, few, times_few e false d.rows))

pub seen_none : (d : ShellRows) (e : ℕ) → SeenBefore d 0 e unseen
seen_none d e = record { along = omega arith; against = omega arith; along_row = λ h. absurd (omega (arith, h)); against_row = λ h. absurd (omega (arith, h)) }

pub seen_done : (d : ShellRows) (i e : ℕ) (seen : Seen) → length d.rows ≤ i → SeenBefore d i e seen → IsSeen d e seen
seen_done d i e seen past h =
    let none : drop i d.rows ≡ [] = drop_all i d.rows past in
    let a : seen.along + 0 ≡ times e true d.rows = subst (λ rs. seen.along + times e true rs ≡ times e true d.rows) none h.along in
    let b : seen.against + 0 ≡ times e false d.rows = subst (λ rs. seen.against + times e false rs ≡ times e false d.rows) none h.against in
    record {
      along = omega (arith, a, count_by-total (λ (r : Row). (r.edge.0 == e) && r.along) d.rows);
      against = omega (arith, b, count_by-total (λ (r : Row). (r.edge.0 == e) && not r.along) d.rows);
      along_row = h.along_row;
      against_row = h.against_row;
    }

-- the sums, at the next row
split_times : (d : ShellRows) (i e : ℕ) (way : Bool) (row : Row) → i < length d.rows → get_or d.rows i row ≡ row
    → times e way (drop i d.rows) ≡ one_if (runs e way row) + times e way (drop (i + 1) d.rows)
split_times d i e way row lt at = ap (times e way) (split_drop d.rows row i lt at)

not_this : (e : ℕ) (way : Bool) (row : Row) → (row.edge.0 == e) ≡ false → one_if (runs e way row) ≡ 0
not_this e true row h = ap (λ b. one_if (b && row.along)) h
not_this e false row h = ap (λ b. one_if (b && not row.along)) h

-- the row has another edge
pub seen_other : (d : ShellRows) (i e : ℕ) (seen : Seen) (row : Row) → i < length d.rows → get_or d.rows i row ≡ row → (row.edge.0 == e) ≡ false
    → SeenBefore d i e seen → SeenBefore d (i + 1) e seen
seen_other d i e seen row lt at other h = record {
  along = omega (arith, h.along, split_times d i e true row lt at, not_this e true row other);
  against = omega (arith, h.against, split_times d i e false row lt at, not_this e false row other);
  along_row = h.along_row;
  against_row = h.against_row;
}

this_way : (e : ℕ) (row : Row) → row.edge.0 ≡ e → (way : Bool) → row.along ≡ way → (one_if (runs e way row) ≡ 1) × (one_if (runs e (not way) row) ≡ 0)
this_way e row same true h = (
  ap (λ b. one_if (b && row.along)) (eq-eqb row.edge.0 e same) ∙ ap (λ b. one_if (true && b)) h,
  ap (λ b. one_if (b && not row.along)) (eq-eqb row.edge.0 e same) ∙ ap (λ b. one_if (true && not b)) h,
)
this_way e row same false h = (
  ap (λ b. one_if (b && not row.along)) (eq-eqb row.edge.0 e same) ∙ ap (λ b. one_if (true && not b)) h,
  ap (λ b. one_if (b && row.along)) (eq-eqb row.edge.0 e same) ∙ ap (λ b. one_if (true && b)) h,
)

pub seen_this : (d : ShellRows) (i e : ℕ) (seen : Seen) (row : Row) → i < length d.rows → get_or d.rows i row ≡ row → row.edge.0 ≡ e → SeenBefore d i e seen
    → SeenBefore d (i + 1) e (seen_once_more seen i row.along)
seen_this d i e seen row lt at same h = by_way row.along refl
  where
    here : slice_get d.rows i ≡ Some row
    here = slice_get-get_or d.rows i row lt ∙ ap Some at

    by_way : (way : Bool) → row.along ≡ way → SeenBefore d (i + 1) e (seen_once_more seen i way)
    by_way true k =
        let w = this_way e row same true k in
        record {
          along = omega (arith, h.along, split_times d i e true row lt at, w.0);
          against = omega (arith, h.against, split_times d i e false row lt at, w.1);
          along_row = λ p. record { row = row; at = here; edge = same; along = k };
          against_row = h.against_row;
        }
    by_way false k =
        let w = this_way e row same false k in
        record {
          along = omega (arith, h.along, split_times d i e true row lt at, w.1);
          against = omega (arith, h.against, split_times d i e false row lt at, w.0);
          along_row = h.along_row;
          against_row = λ p. record { row = row; at = here; edge = same; along = k };
        }

pub set_same : {A : Type 0} (xs : List A) (k : ℕ) (v d : A) → k < length xs → get_or (slice_set xs k v) k d ≡ v
set_same [] k v d h = absurd (omega (arith, h))
set_same (x ∷ xs) zero v d h = refl
set_same (x ∷ xs) (suc k) v d h = set_same xs k v d (omega (arith, h))

pub set_other : {A : Type 0} (xs : List A) (k j : ℕ) (v d : A) → k ≢ j → get_or (slice_set xs k v) j d ≡ get_or xs j d
set_other [] k j v d ne = refl
set_other (x ∷ xs) zero zero v d ne = absurd (ne refl)
set_other (x ∷ xs) zero (suc j) v d ne = refl
set_other (x ∷ xs) (suc k) zero v d ne = refl
set_other (x ∷ xs) (suc k) (suc j) v d ne = set_other xs k j v d (λ e. ne (ap suc e))

-- one row is counted
pub tally_step : (d : ShellRows) (i : ℕ) (span : Span) (rows : List Row) (old : List Seen) (none : Row) (was new : Seen) → rows ≡ d.rows → i < length rows
    → length old ≡ span.count
    → AllByRecursion (λ (r : Row). IsWithin span r.edge.0) d.rows → ((e : ℕ) → IsWithin span e → SeenBefore d i e (seen_of span old e))
    → was ≡ get_or old ((get_or rows i none).edge.0 - span.least) unseen → new ≡ seen_once_more was i (get_or rows i none).along
    → (e : ℕ) → IsWithin span e → SeenBefore d (i + 1) e (seen_of span (slice_set old ((get_or rows i none).edge.0 - span.least) new) e)
tally_step d i span rows old none was new same lt long below each is_was is_new e within = by_edge (eqb_tells row.edge.0 e)
  where
    row : Row
    row = get_or rows i none

    k : ℕ
    k = row.edge.0 - span.least

    in_rows : i < length d.rows
    in_rows = omega (arith, lt, ap (λ rs. length rs) same)

    at : get_or d.rows i row ≡ row
    at = default_apart d.rows i row none in_rows ∙ ap (λ rs. get_or rs i none) (sym same)

    low : IsWithin span row.edge.0
    low = at_place (λ (r : Row). IsWithin span r.edge.0) d.rows row i below in_rows at

    in_old : k < length old
    in_old = omega (arith, long, low.0, low.1)

    was_known : was ≡ get_or old k unseen
    was_known = is_was

    by_edge : (((row.edge.0 == e) ≡ true) × (row.edge.0 ≡ e)) ⊎ (((row.edge.0 == e) ≡ false) × (row.edge.0 ≢ e))
        → SeenBefore d (i + 1) e (get_or (slice_set old k new) (e - span.least) unseen)
    by_edge (inl y) =
        let place : k ≡ e - span.least = ap (λ n. n - span.least) y.1 in
        let before : SeenBefore d i e was = subst (SeenBefore d i e) (sym (was_known ∙ ap (λ n. get_or old n unseen) place)) (each e within) in
        let there : get_or (slice_set old k new) (e - span.least) unseen ≡ new = subst (λ n. get_or (slice_set old k new) n unseen ≡ new) place
        (set_same old k new unseen in_old) in
        subst (SeenBefore d (i + 1) e) (sym (there ∙ is_new)) (seen_this d i e was row in_rows at y.1 before)
    by_edge (inr n) =
        let apart : k ≢ e - span.least = λ h. n.1 (omega (arith, h, low.0, within.0)) in
        subst (SeenBefore d (i + 1) e) (sym (set_other old k (e - span.least) new unseen apart))
        (seen_other d i e (get_or old (e - span.least) unseen) row in_rows at n.0 (each e within))

pub tally_few : (d : ShellRows) (i : ℕ) (span : Span) (n : ℕ) (rows : List Row) (old : List Seen) (none : Row) (was : Seen) → rows ≡ d.rows → i < length rows
    → length old ≡ span.count
    → AllByRecursion (λ (r : Row). IsWithin span r.edge.0) d.rows → ((e : ℕ) → IsWithin span e → SeenBefore d i e (seen_of span old e))
    → was ≡ get_or old ((get_or rows i none).edge.0 - span.least) unseen → length d.rows < n → (was.along < n) × (was.against < n)
tally_few d i span n rows old none was same lt long below each is_was few =
    let row : Row = get_or rows i none in
    let in_rows : i < length d.rows = omega (arith, lt, ap (λ rs. length rs) same) in
    let at : get_or d.rows i row ≡ row = default_apart d.rows i row none in_rows ∙ ap (λ rs. get_or rs i none) (sym same) in
    let low : IsWithin span row.edge.0 = at_place (λ (r : Row). IsWithin span r.edge.0) d.rows row i below in_rows at in
    let known : was ≡ seen_of span old row.edge.0 = is_was in
    seen_few d i row.edge.0 was n (subst (SeenBefore d i row.edge.0) (sym known) (each row.edge.0 low)) few

-- the edge of a row lies in the range
pub row_within : (d : ShellRows) (span : Span) (rows : List Row) (none : Row) (i : ℕ) → rows ≡ d.rows → i < length rows
    → AllByRecursion (λ (r : Row). IsWithin span r.edge.0) d.rows → IsWithin span (get_or rows i none).edge.0
row_within d span rows none i same lt below =
    let row : Row = get_or rows i none in
    let in_rows : i < length d.rows = omega (arith, lt, ap (λ rs. length rs) same) in
    at_place (λ (r : Row). IsWithin span r.edge.0) d.rows row i below in_rows (default_apart d.rows i row none in_rows ∙ ap (λ rs. get_or rs i none) (sym same))

-- what holds of each row holds of the row at a place
pub row_holds : (P : Row → Type 0) (d : ShellRows) (rows : List Row) (none : Row) (i : ℕ) → rows ≡ d.rows → i < length rows → AllByRecursion P d.rows
    → P (get_or rows i none)
row_holds P d rows none i same lt all =
    let row : Row = get_or rows i none in
    let in_rows : i < length d.rows = omega (arith, lt, ap (λ rs. length rs) same) in
    at_place P d.rows row i all in_rows (default_apart d.rows i row none in_rows ∙ ap (λ rs. get_or rs i none) (sym same))

-- what the rows before row i were seen to do
pub record TallyBefore (d : ShellRows) (i : ℕ) (c : Celled Seen) : Type 0 where
  pub numbers : c.numbers ≡ d.edges
  pub span : IsSpanOf c.span d.edges
  pub blank : c.blank ≡ unseen
  pub long : length c.cells ≡ c.span.count
  pub each : (e : ℕ) → IsWithin c.span e → SeenBefore d i e (seen_of c.span c.cells e)

-- the value of an edge, seen once more
abbrev pub seen_next : Celled Seen → ℕ → Row → Celled Seen
seen_next c i row = record {
  numbers = c.numbers;
  span = c.span;
  blank = c.blank;
  cells = slice_set c.cells (row.edge.0 - c.span.least) (seen_once_more (get_or c.cells (row.edge.0 - c.span.least) c.blank) i row.along);
}

pub tally_first : (d : ShellRows) (c : Celled Seen) → c.numbers ≡ d.edges → IsSpanOf c.span d.edges → c.blank ≡ unseen
    → c.cells ≡ replicate c.span.count unseen → TallyBefore d 0 c
tally_first d c numbers span blank cells = record {
  numbers = numbers;
  span = span;
  blank = blank;
  long = ap (λ xs. length xs) cells ∙ length-replicate c.span.count unseen;
  each = λ e within. subst (SeenBefore d 0 e)
      (sym (ap (λ xs. get_or xs (e - c.span.least) unseen) cells ∙ get_or-replicate c.span.count (e - c.span.least) unseen unseen (omega (arith, within))))
      (seen_none d e);
}

module _ (d : ShellRows) (i : ℕ) (c : Celled Seen) (rows : List Row) (none : Row) (kept : AreRows d) (t : TallyBefore d i c) (same : rows ≡ d.rows)
    (lt : i < length rows) where
  pub next_known : Contains c.numbers (get_or rows i none).edge.0
  next_known = subst (λ ns. Contains ns (get_or rows i none).edge.0) (sym t.numbers)
      (row_holds (λ (r : Row). Contains d.edges r.edge.0) d rows none i same lt kept.edges_hold)

  all_within : AllByRecursion (λ (r : Row). IsWithin c.span r.edge.0) d.rows
  all_within = rows_within d.edges d.rows c.span kept.edges_hold t.span.holds

  pub next_within : IsWithin c.span (get_or rows i none).edge.0
  next_within = row_within d c.span rows none i same lt all_within

  abbrev was : Seen
  was = get_or c.cells ((get_or rows i none).edge.0 - c.span.least) c.blank

  known_was : was ≡ get_or c.cells ((get_or rows i none).edge.0 - c.span.least) unseen
  known_was = ap (λ b. get_or c.cells ((get_or rows i none).edge.0 - c.span.least) b) t.blank

  pub next_few : (was.along < 2 ^ 29) × (was.against < 2 ^ 29)
  next_few = tally_few d i c.span (2 ^ 29) rows c.cells none was same lt t.long all_within t.each known_was kept.few

  pub next_seen : (new : Celled Seen) → new ≡ seen_next c i (get_or rows i none) → TallyBefore d (i + 1) new
  next_seen new is = subst (TallyBefore d (i + 1)) (sym is) (record {
    numbers = t.numbers;
    span = t.span;
    blank = t.blank;
    long = length-set c.cells ((get_or rows i none).edge.0 - c.span.least) (seen_once_more was i (get_or rows i none).along) ∙ t.long;
    each = tally_step d i c.span rows c.cells none was (seen_once_more was i (get_or rows i none).along) same lt t.long all_within t.each known_was refl;
  })
