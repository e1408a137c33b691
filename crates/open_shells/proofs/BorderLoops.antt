-- The cycles of border rows, one after the other.
use Rattle.std.specs.Prelude.{◌≡◌, ◌≢◌, ◌<◌, ◌≤◌, ◌+◌, ◌⊎◌, ◌↔◌, ◌==◌, ℕ, zero, suc, Bool, true, false, List, [], ◌∷◌, ◌++◌, length, map, slice_set, take}
use Rattle.std.specs.Prelude.{Contains}
use Rattle.std.specs.List.{AllByRecursion, AllZip}
use Rattle.std.proofs.Common.{refl, sym, ◌∙◌, ap, subst, arith, inl, inr, ⊎_elim, get_or}
use Rattle.std.proofs.lemmas.Bool.{cases_lt}
use Rattle.std.proofs.lemmas.Bool.Decides.{eqb_tells}
use Rattle.std.proofs.lemmas.Grind.{flat_map-append}
use Rattle.std.proofs.lemmas.List.{append-nil, map-append}
use Rattle.std.proofs.lemmas.Option.{slice_get_within}
use Rattle.solid_data.specs.declared.solid.RowId.{RowId}
use Rattle.solid_data.proofs.Members.{Has, NoRepeat, Rises, All-from, has_append, all_append}
use Rattle.solid_data.proofs.Trail.{Trail, no_repeat, next_on, leads_on, trail_keeps}
use Rattle.solid_data.specs.declared.spanning.Span.{Span}
use Rattle.solid_data.specs.Ranges.{IsWithin, IsSpanOf}
use Rattle.edge_uses.proofs.Cycle.{zip_from_trail}
use Rattle.edge_uses.proofs.Tallies.{set_same, set_other}
use Rattle.edge_uses.specs.ShellRows.{ShellRows, AreRows}
use Rattle.edge_uses.specs.declared.row.Row.{Row}
use Rattle.std.proofs.lemmas.List.Elements.{All-contains}
use Rattle.solid_data.proofs.ObligationLemmas.{AllByRecursion-weaker}
use Rattle.open_certificate.specs.Sound.{IsBorder, IsBorderCycle, IsBorderCycleOf, IsFanned, GoesOn}
use Rattle.open_shells.specs.Mating.{AreOnce}
use Rattle.shell_reach.specs.Reaching.{row_numbers}
use Rattle.open_shells.specs.BorderParts.{Next, IsLoop, IsBordering, AreBorderCycles, flat, rows_of_cycle, first_in}
use Rattle.open_certificate.proofs.Borders.{apart_append, has_front, has_back, keeps_steps}
use Rattle.open_shells.proofs.BorderRows.{next_one}

rises_last : (xs : List ℕ) (i : ℕ) → AllByRecursion (λ x. x < i) xs → Rises xs → Rises (xs ++ i ∷ [])
rises_last [] i below h = (tt, tt)
rises_last (x ∷ xs) i below h = (all_append (λ y. x < y) xs (i ∷ []) h.0 (below.0, tt), rises_last xs i below.1 h.1)

all_weaker : (P Q : ℕ → Type 0) (xs : List ℕ) → ((x : ℕ) → P x → Q x) → AllByRecursion P xs → AllByRecursion Q xs
all_weaker P Q [] f h = tt
all_weaker P Q (x ∷ xs) f h = (f x h.0, all_weaker P Q xs f h.1)

zip_weaker : (P Q : ℕ → ℕ → Type 0) (xs ys : List ℕ) → ((x y : ℕ) → P x y → Q x y) → AllZip P xs ys → AllZip Q xs ys
zip_weaker P Q [] [] f h = tt
zip_weaker P Q [] (y ∷ ys) f h = absurd h
zip_weaker P Q (x ∷ xs) [] f h = absurd h
zip_weaker P Q (x ∷ xs) (y ∷ ys) f h = (f x y h.0, zip_weaker P Q xs ys f h.1)

-- one row more, that begins no cycle
pub bordering_skips : (d : ShellRows) (i : ℕ) (seen : List Bool) (cycles : List (List ℕ)) → (IsBorder d i → Has (flat cycles) i) → IsBordering d i seen cycles
    → IsBordering d (i + 1) seen cycles
bordering_skips d i seen cycles held b = record {
  long = b.long;
  marks = b.marks;
  each = b.each;
  below = all_weaker (λ x. x < i) (λ x. x < i + 1) (map first_in cycles) (λ x lt. omega (arith, lt)) b.below;
  rises = b.rises;
  apart = b.apart;
  closed = b.closed;
  all = λ x lt border. ⊎_elim (λ low. b.all x low border)
      (λ le. let e : x ≡ i = omega (arith, le, lt) in subst (Has (flat cycles)) (sym e) (held (subst (IsBorder d) e border))) (cases_lt x i);
}

-- one row more, that begins a cycle
pub bordering_adds : (d : ShellRows) (i : ℕ) (seen new : List Bool) (cycles all : List (List ℕ)) (rs : List ℕ) → AreOnce d
    → AllByRecursion (IsFanned d) d.vertices → IsBorder d i → (get_or seen i false ≡ true → ⊥) → IsLoop d i rs → all ≡ cycles ++ rs ∷ []
    → length new ≡ length seen → ((x : ℕ) → (get_or new x false ≡ true) ↔ ((get_or seen x false ≡ true) ⊎ Has rs x)) → IsBordering d i seen cycles
    → IsBordering d (i + 1) new all
bordering_adds d i seen new cycles all [] whole fanned border unseen loop is_all long marks b = absurd loop
bordering_adds d i seen new cycles all (x ∷ xs) whole fanned border unseen loop is_all long marks b =
    subst (IsBordering d (i + 1) new) (sym (is_all ∙ ap (λ y. cycles ++ (y ∷ xs) ∷ []) loop.0)) (record {
      long = long ∙ b.long;
      marks = λ y. (
        (λ m. subst (λ ys. Has ys y) (sym rows)
            (⊎_elim (λ s. has_front (flat cycles) ring y ((b.marks y).0 s)) (λ k. has_back (flat cycles) ring y (subst (λ z. Has (z ∷ xs) y) loop.0 k))
            ((marks y).0 m))),
        (λ m. (marks y).1 (⊎_elim (λ k. inl ((b.marks y).1 k)) (λ k. inr (subst (λ z. Has (z ∷ xs) y) (sym loop.0) k))
            (has_append (flat cycles) ring y (subst (λ ys. Has ys y) rows m)))),
      );
      each = all_append_lists cycles b.each;
      below = subst (AllByRecursion (λ y. y < i + 1)) (sym firsts)
          (all_append (λ y. y < i + 1) (map first_in cycles) (i ∷ [])
          (all_weaker (λ y. y < i) (λ y. y < i + 1) (map first_in cycles) (λ y lt. omega (arith, lt)) b.below) (omega arith, tt));
      rises = subst Rises (sym firsts) (rises_last (map first_in cycles) i b.below b.rises);
      apart = subst NoRepeat (sym rows) (apart_append (flat cycles) ring b.apart none (λ y k m. disjoint y m k));
      closed = λ y z m n. subst (λ ys. Has ys z) (sym rows)
          (⊎_elim (λ k. has_front (flat cycles) ring z (b.closed y z k n)) (λ k. has_back (flat cycles) ring z (ring_closed y z k n))
          (has_append (flat cycles) ring y (subst (λ ys. Has ys y) rows m)));
      all = λ y lt border_y. subst (λ ys. Has ys y) (sym rows)
          (⊎_elim (λ low. has_front (flat cycles) ring y (b.all y low border_y)) (λ le. has_back (flat cycles) ring y (inl (omega (arith, le, lt))))
          (cases_lt y i));
    })
  where
    ring : List ℕ
    ring = i ∷ xs

    trail : Trail (Next d) i xs i
    trail = loop.1

    one : (u v w : ℕ) → Next d u v → Next d u w → v ≡ w
    one = next_one d whole fanned

    none : NoRepeat (i ∷ xs)
    none = no_repeat (Next d) one i xs i trail loop.2

    rows : flat (cycles ++ (i ∷ xs) ∷ []) ≡ flat cycles ++ (i ∷ xs)
    rows = flat_map-append rows_of_cycle cycles ((i ∷ xs) ∷ []) ∙ ap (λ ys. flat cycles ++ ys) (append-nil (i ∷ xs))

    firsts : map first_in (cycles ++ (i ∷ xs) ∷ []) ≡ map first_in cycles ++ i ∷ []
    firsts = map-append first_in cycles ((i ∷ xs) ∷ [])

    ring_closed : (y z : ℕ) → Has (i ∷ xs) y → Next d y z → Has (i ∷ xs) z
    ring_closed y z m n =
        let k = next_on (Next d) i xs i trail y m in
        subst (Has (i ∷ xs)) (one y k.0 z k.1 n) (⊎_elim (λ j. inr j) (λ e. inl (sym e)) k.2)

    disjoint : (y : ℕ) → Has (i ∷ xs) y → Has (flat cycles) y → ⊥
    disjoint y m k =
        let back = leads_on (Next d) i xs i trail y m in
        unseen ((b.marks i).1 (keeps_steps (Next d) (Has (flat cycles)) b.closed back.0 y i back.1 k))

    each_border : (y : ℕ) → Has (i ∷ xs) y → IsBorder d y
    each_border y (inl e) = subst (IsBorder d) e border
    each_border y (inr m) = trail_keeps (Next d) (IsBorder d) (λ u v n p. n.1) i xs i trail border y m

    cycle : IsBorderCycle d i xs
    cycle = record {
      border = All-from (IsBorder d) (i ∷ xs) each_border;
      goes_on = zip_weaker (Next d) (GoesOn d) (i ∷ xs) (xs ++ i ∷ []) (λ u v n. n.2) (zip_from_trail (Next d) i xs i trail);
      least = All-from (λ y. i < y) xs
          (λ y m. ⊎_elim (λ low. absurd (disjoint y (inr m) (b.all y low (each_border y (inr m)))))
          (λ le. let other : i ≢ y = λ e. loop.2 (subst (Has xs) (sym e) m) in omega (arith, le, other)) (cases_lt y i));
    }

    all_append_lists : (cs : List (List ℕ)) → AllByRecursion (IsBorderCycleOf d) cs → AllByRecursion (IsBorderCycleOf d) (cs ++ (i ∷ xs) ∷ [])
    all_append_lists [] h = (cycle, tt)
    all_append_lists (c ∷ cs) h = (h.0, all_append_lists cs h.1)

pub bordering_done : (d : ShellRows) (i : ℕ) (seen : List Bool) (cycles : List (List ℕ)) → length d.rows ≤ i → IsBordering d i seen cycles
    → AreBorderCycles d cycles
bordering_done d i seen cycles past b =
    record {
      each = b.each;
      rises = b.rises;
      apart = b.apart;
      all = λ r border. b.all r (omega (arith, past, slice_get_within d.rows r border.0 border.1))
          border;
    }

pub bordering_none : (d : ShellRows) (seen : List Bool) → length seen ≡ length d.rows → ((x : ℕ) → get_or seen x false ≡ true → ⊥) → IsBordering d 0 seen []
bordering_none d seen long never =
    record {
      long = long;
      marks = λ x. ((λ m. absurd (never x m)), λ m. absurd m);
      each = tt;
      below = tt;
      rises = tt;
      apart = tt;
      closed =
          λ x y m. absurd m;
      all = λ x lt. absurd (omega (arith, lt));
    }

-- each row of a loop is a row
pub loop_below : (d : ShellRows) (i : ℕ) (rows : List RowId) (n : ℕ) → n ≡ length d.rows → IsBorder d i → IsLoop d i (row_numbers rows)
    → AllByRecursion (λ (r : RowId). r.0 < n) rows
loop_below d i [] n is_n border loop = absurd loop
loop_below d i (x ∷ xs) n is_n border loop = by_rows (x ∷ xs) (λ y m. low y (each y (subst (λ z. Has (z ∷ row_numbers xs) y) loop.0 m)))
  where
    each : (y : ℕ) → Has (i ∷ row_numbers xs) y → IsBorder d y
    each y (inl e) = subst (IsBorder d) e border
    each y (inr m) = trail_keeps (Next d) (IsBorder d) (λ u v n p. n.1) i (row_numbers xs) i loop.1 border y m

    low : (y : ℕ) → IsBorder d y → y < n
    low y b = omega (arith, slice_get_within d.rows y b.0 b.1, is_n)

    by_rows : (rs : List RowId) → ((y : ℕ) → Has (row_numbers rs) y → y < n) → AllByRecursion (λ (r : RowId). r.0 < n) rs
    by_rows [] h = tt
    by_rows (r ∷ rs) h = (h r.0 (inl refl), by_rows rs (λ y m. h y (inr m)))

-- Marks of some rows, one more.
pub marks_more : (old seen new : List Bool) (rows more : List ℕ) (r : ℕ) → r < length seen → new ≡ slice_set seen r true → more ≡ rows ++ r ∷ []
    → ((x : ℕ) → (get_or seen x false ≡ true) ↔ ((get_or old x false ≡ true) ⊎ Has rows x)) → (x : ℕ)
    → (get_or new x false ≡ true) ↔ ((get_or old x false ≡ true) ⊎ Has more x)
marks_more old seen new rows more r lt is_new is_more marks x = subst (λ ys. (get_or new x false ≡ true) ↔ ((get_or old x false ≡ true) ⊎ Has ys x))
    (sym is_more) (by_place (eqb_tells r x))
  where
    by_place : (((r == x) ≡ true) × (r ≡ x)) ⊎ (((r == x) ≡ false) × (r ≢ x))
        → (get_or new x false ≡ true) ↔ ((get_or old x false ≡ true) ⊎ Has (rows ++ r ∷ []) x)
    by_place (inl y) = (
      (λ m. inr (has_back rows (r ∷ []) x (inl y.1))),
      (λ m. ap (λ xs. get_or xs x false) is_new ∙ (ap (λ n. get_or (slice_set seen r true) n false) (sym y.1) ∙ set_same seen r true false lt)),
    )
    by_place (inr n) =
        let same : get_or new x false ≡ get_or seen x false = ap (λ xs. get_or xs x false) is_new ∙ set_other seen r x true false n.1 in (
          (λ m. ⊎_elim (λ o. inl o) (λ k. inr (has_front rows (r ∷ []) x k)) ((marks x).0 (sym same ∙ m))),
          (λ m. same ∙ (marks x).1
              (⊎_elim (λ o. inl o) (λ k. ⊎_elim (λ h. inr h) (λ h. ⊎_elim (λ e. absurd (n.1 e)) (λ z. absurd z) h) (has_append rows (r ∷ []) x k)) m)),
        )

-- the first rows of some, one more
pub taken_more : (rows : List RowId) (i : ℕ) (z : RowId) → i < length rows → row_numbers (take (i + 1) rows) ≡ row_numbers (take i rows) ++ (get_or rows i z).0
    ∷ []
taken_more [] i z lt = absurd (omega (arith, lt))
taken_more (x ∷ rows) zero z lt = refl
taken_more (x ∷ rows) (suc i) z lt =
    let e : suc i + 1 ≡ suc (i + 1) = omega arith in
    ap (λ n. row_numbers (take n (x ∷ rows))) e ∙ ap (λ ns. x.0 ∷ ns) (taken_more rows i z (omega (arith, lt)))

pub row_low : (n : ℕ) (rows : List RowId) (i : ℕ) (z : RowId) → i < length rows → AllByRecursion (λ (r : RowId). r.0 < n) rows → (get_or rows i z).0 < n
row_low n [] i z lt all = absurd (omega (arith, lt))
row_low n (x ∷ rows) zero z lt all = all.0
row_low n (x ∷ rows) (suc i) z lt all = row_low n rows i z (omega (arith, lt)) all.1

pub ends_within : (d : ShellRows) (span : Span) → AreRows d → IsSpanOf span d.vertices → AllByRecursion (λ (r : Row). IsWithin span r.to.0) d.rows
ends_within d span rows is_span =
    AllByRecursion-weaker (λ (r : Row). Contains d.vertices r.from.0 × Contains d.vertices r.to.0) (λ (r : Row). IsWithin span r.to.0) d.rows
    (λ r h. All-contains (IsWithin span) d.vertices r.to.0 is_span.holds h.1) rows.vertices_hold
