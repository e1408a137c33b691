-- A shell whose faces are all reached has rows that reach them breadth first.
use Rattle.std.specs.Prelude.{◌≡◌, ◌<◌, ◌≤◌, ◌+◌, ◌==◌, ◌⊎◌, ◌&&◌, ℕ, zero, suc, Bool, true, false, cond, List, [], ◌∷◌, ◌++◌, length, map, flat_map, filter}
use Rattle.std.specs.Prelude.{replicate, slice_set, slice_get, Some, if◌then◌else◌}
use Rattle.std.specs.List.{AllByRecursion}
use Rattle.std.proofs.Common.{refl, sym, ◌∙◌, ap, subst, arith, inl, inr, ⊎_elim, get_or, take, append_assoc}
use Rattle.std.proofs.lemmas.Bool.{eqb-true, eq-eqb, cases_lt}
use Rattle.std.proofs.lemmas.List.{append-nil, take_all}
use Rattle.std.proofs.lemmas.Option.{slice_get_within, same_Some}
use Rattle.solid_data.specs.Ring.{numbers_from}
use Rattle.solid_data.proofs.Members.{Has, has_get, get_some}
use Rattle.solid_data.proofs.Occurring.{number_below, number_within}
use Rattle.edge_uses.specs.ShellRows.{ShellRows}
use Rattle.edge_uses.specs.RowRelations.{AreMates, OnFace}
use Rattle.edge_uses.specs.Around.{IsReached}
use Rattle.edge_uses.specs.Mates.{ArePaired, HaveMates}
use Rattle.edge_uses.proofs.Turn.{has_mate, paired_rows}
use Rattle.shell_reach.specs.Reaching.{ReachesAll, face_of, across, on_new_faces, IsBreadthFirst}
use Rattle.shell_reach.specs.Laws.{SomeReachOrder}
use Rattle.shell_reach.specs.Flood.{IsFlood, IsDone, Grows, HasCrossed, across_all, across_place}
use Rattle.shell_reach.proofs.Crossings.{face_is, on_its_face, some_mates, crosses_old, crosses_new, across_past, across_there, place_more}
use Rattle.shell_reach.proofs.Floods.{paired_one, grows_none, grows_more, still_has, crossed_before, crossed_now, flood_more, flood_first, order_few, each_done, place_done}
use Rattle.shell_reach.proofs.Floods.{place_is, flood_reaches}
use Rattle.shell_reach.proofs.OneOrder.{passes}

-- these rows were crossed, and the faces that are listed are reached
record Flooded (d : ShellRows) (crossed order : List ℕ) : Type 0 where
  pub marks : List Bool
  pub rows : List ℕ
  pub flood : IsFlood d marks order rows
  pub kept : HasCrossed d crossed order rows

-- one row more is crossed
cross_row : (d : ShellRows) (mates : List ℕ) → HaveMates d mates → (crossed order : List ℕ) (face r : ℕ) → Has order face → OnFace d face r
    → Flooded d crossed order
    → (new : List ℕ) × Grows order new × Flooded d (crossed ++ get_or mates r 0 ∷ []) new × ((m g : ℕ) → AreMates d r m → OnFace d g m → Has new g)
cross_row d mates have crossed order face r known on s = by_mark (get_or s.marks other false) refl
  where
    pair : (m : ℕ) × AreMates d r m
    pair = has_mate d (paired_rows d have.whole) r on.0 on.1

    other : ℕ
    other = face_of d pair.0

    there : OnFace d other pair.0
    there = on_its_face d pair.0 (slice_get_within d.rows pair.0 pair.1.mate pair.1.at_m)

    by_mark : (b : Bool) → get_or s.marks other false ≡ b
        → (new : List ℕ) × Grows order new × Flooded d (crossed ++ get_or mates r 0 ∷ []) new × ((m g : ℕ) → AreMates d r m → OnFace d g m → Has new g)
    by_mark true e = (
      order,
      grows_none order,
      record {
        marks = s.marks;
        rows = s.rows;
        flood = s.flood;
        kept = crosses_old d s.marks order s.rows r pair.0 other s.flood pair.1 there e mates crossed
            have s.kept;
      },
      crossed_before d s.marks order s.rows r pair.0 other (paired_one d have.whole) s.flood pair.1 there e,
    )
    by_mark false e = (
      order ++ other ∷ [],
      (other ∷ [], refl),
      record {
        marks = slice_set s.marks other true;
        rows = s.rows ++ pair.0 ∷ [];
        flood = flood_more d s.marks order s.rows face r pair.0 other (paired_one d have.whole) s.flood known on pair.1 there e;
        kept = crosses_new d s.marks order (order ++ other ∷ []) s.rows (s.rows ++ pair.0 ∷ []) r pair.0 other s.flood pair.1 there e refl refl mates crossed
            have s.kept;
      },
      crossed_now d order r pair.0 other (paired_one d have.whole) pair.1 there,
    )

-- and so are these of one face
cross_rows : (d : ShellRows) (mates : List ℕ) → HaveMates d mates → (crossed order : List ℕ) (face : ℕ) (rs : List ℕ) → ((x : ℕ) → Has rs x → OnFace d face x)
    → Has order face → Flooded d crossed order
    → (new : List ℕ) × Grows order new × Flooded d (crossed ++ map (λ r. get_or mates r 0) rs) new
    × ((x m g : ℕ) → Has rs x → AreMates d x m → OnFace d g m → Has new g)
cross_rows d mates have crossed order face [] on known s =
    (order, grows_none order, subst (λ c. Flooded d c order) (sym (append-nil crossed)) s, λ x m g h pair at. absurd h)
cross_rows d mates have crossed order face (r ∷ rs) on known s =
    let one = cross_row d mates have crossed order face r known (on r (inl refl)) s in
    let rest = cross_rows d mates have (crossed ++ get_or mates r 0 ∷ []) one.0 face rs (λ x h. on x (inr h)) (still_has order one.0 face one.1 known) one.2
    in (
      rest.0,
      grows_more order one.0 rest.0 one.1 rest.1,
      subst (λ c. Flooded d c rest.0) (append_assoc crossed (get_or mates r 0 ∷ []) (map (λ x. get_or mates x 0) rs)) rest.2,
      λ x m g h pair at. ⊎_elim (λ e. still_has one.0 rest.0 g rest.1 (one.3 m g (subst (λ k. AreMates d k m) (sym e) pair) at))
          (λ later. rest.3 x m g later pair at) h,
    )

filtered : (p : ℕ → Bool) (xs : List ℕ) (x : ℕ) → Has (filter p xs) x → Has xs x × (p x ≡ true)
filtered p [] x h = absurd h
filtered p (y ∷ xs) x h = by_test (p y) refl h (filtered p xs x)
  where
    by_test : (b : Bool) → p y ≡ b → Has (cond b (y ∷ filter p xs) (filter p xs)) x → (Has (filter p xs) x → Has xs x × (p x ≡ true))
        → ((y ≡ x) ⊎ Has xs x) × (p x ≡ true)
    by_test true e (inl same) later = (inl same, ap p (sym same) ∙ e)
    by_test true e (inr m) later = (inr (later m).0, (later m).1)
    by_test false e m later = (inr (later m).0, (later m).1)

-- all rows of a face are crossed
cross_face : (d : ShellRows) (mates : List ℕ) → HaveMates d mates → (crossed order : List ℕ) (face : ℕ) → Has order face → Flooded d crossed order
    → (new : List ℕ) × Grows order new × Flooded d (crossed ++ across d mates face) new × IsDone d new face
cross_face d mates have crossed order face known s =
    let more = cross_rows d mates have crossed order face (filter (λ r. face_of d r == face) (numbers_from 0 (length d.rows))) on known s in
    (more.0, more.1, more.2, λ other (r, m, pair, at, there). more.3 r m other (crossed_so r at) pair there)
  where
    on : (x : ℕ) → Has (filter (λ r. face_of d r == face) (numbers_from 0 (length d.rows))) x → OnFace d face x
    on x h =
        let f = filtered (λ r. face_of d r == face) (numbers_from 0 (length d.rows)) x h in
        let low = number_below 0 (length d.rows) x f.0 in
        subst (λ g. OnFace d g x) (eqb-true (face_of d x) face f.1) (on_its_face d x (omega (arith, low.1)))

    crossed_so : (r : ℕ) → OnFace d face r → Has (filter (λ x. face_of d x == face) (numbers_from 0 (length d.rows))) r
    crossed_so r at =
        let low = slice_get_within d.rows r at.0 at.1 in
        passes (λ x. face_of d x == face) (numbers_from 0 (length d.rows)) r (number_within 0 (length d.rows) r (omega arith) (omega (arith, low)))
        (eq-eqb (face_of d r) face (face_is d face r at))

-- the faces at the first places are left
record Left (d : ShellRows) (mates : List ℕ) (q : ℕ) : Type 0 where
  pub order : List ℕ
  pub state : Flooded d (across_all d (take q order) mates) order
  pub done : (j f : ℕ) → j < q → slice_get order j ≡ Some f → IsDone d order f

next_left : (d : ShellRows) (mates : List ℕ) → HaveMates d mates → (q : ℕ) → Left d mates q → Left d mates (q + 1)
next_left d mates have q p = by_place (cases_lt q (length p.order))
  where
    so_far : List ℕ
    so_far = across_all d (take q p.order) mates

    by_place : (q < length p.order) ⊎ (length p.order ≤ q) → Left d mates (q + 1)
    by_place (inr past) = record {
      order = p.order;
      state = subst (λ c. Flooded d c p.order)
          (sym (place_more d p.order p.order q mates (grows_none p.order) (λ _. refl)
          ∙ (ap (λ k. so_far ++ k) (across_past d p.order q mates past) ∙ append-nil so_far))) p.state;
      done = place_done d p.order p.order q (grows_none p.order) (λ _. refl) (λ f at. absurd (omega (arith, past, slice_get_within p.order q f at))) p.done;
    }
    by_place (inl low) =
        let at = get_some p.order q low in
        let more = cross_face d mates have so_far p.order at.0 (has_get p.order q at.0 at.1) p.state in
        record {
          order = more.0;
          state = subst (λ c. Flooded d c more.0)
              (sym (place_more d p.order more.0 q mates more.1 (λ past. absurd (omega (arith, past, low)))
              ∙ ap (λ k. so_far ++ k) (across_there d p.order q at.0 mates at.1))) more.2;
          done = place_done d p.order more.0 q more.1 (λ past. absurd (omega (arith, past, low)))
              (λ f there. subst (IsDone d more.0) (place_is p.order more.0 q at.0 f more.1 low at.1 there) more.3) p.done;
        }

unmarked : (n f : ℕ) → get_or (replicate n false) f false ≡ false
unmarked zero f = refl
unmarked (suc n) zero = refl
unmarked (suc n) (suc f) = unmarked n f

long : (n : ℕ) → length (replicate n false) ≡ n
long zero = refl
long (suc n) = ap suc (long n)

all_left : (d : ShellRows) (mates : List ℕ) → HaveMates d mates → 0 < d.face_count → (q : ℕ) → Left d mates q
all_left d mates have some zero = record {
  order = 0 ∷ [];
  state = record {
    marks = slice_set (replicate d.face_count false) 0 true;
    rows = [];
    flood = flood_first d (replicate d.face_count false) (long d.face_count) (omega (arith, some, long d.face_count)) (unmarked d.face_count);
    kept = record { kept = refl; listed = refl };
  };
  done = λ j f below at. absurd (omega (arith, below));
}
all_left d mates have some (suc q) = let e : q + 1 ≡ suc q = omega arith in subst (Left d mates) e (next_left d mates have q (all_left d mates have some q))

pub some_order : SomeReachOrder
some_order d whole some all =
    let paired = some_mates d whole in
    let p = all_left d paired.0 paired.1 some d.face_count in
    let s = p.state in
    let done = each_done d s.marks p.order s.rows d.face_count s.flood (omega arith) p.done in (
      s.rows,
      flood_reaches d s.marks p.order s.rows s.flood done all,
      record {
        mates = paired.0;
        paired = paired.1;
        order = s.kept.kept ∙ ap (λ os. on_new_faces (face_of d) (0 ∷ []) (flat_map (across d paired.0) os))
            (take_all d.face_count p.order (order_few d s.marks p.order s.rows s.flood) ∙ s.kept.listed);
      },
    )
