-- Ranks of marked items.
use Rattle.std.specs.Prelude.{◌≡◌, ◌⊎◌, ℕ, zero, suc, ◌+◌, ◌-◌, ◌*◌, ◌/◌, ◌%◌, ◌<◌, ◌≤◌, nat_le, Bool, true, false, ℤ, pos, negsuc, List, [], ◌∷◌, ◌++◌, length}
use Rattle.std.specs.Prelude.{map, take, Option, Some, None, option_map, slice_get, slice_index_or, if◌then◌else◌}
use Rattle.std.specs.List.{list_any}
use Rattle.std.proofs.Common.{refl, sym, ◌∙◌, ap, arith, inl, inr}
use Rattle.std.proofs.Math.Nat.{div-add-mod}
use Rattle.std.proofs.lemmas.Bool.{and_parts, cond-true, cond-false, leb-true, cases_lt}
use Rattle.std.proofs.lemmas.Option.{none-some, same_Some, slice_get-map}
use Rattle.iges_params.specs.Contents.{Contents}
use Rattle.iges_params.specs.Named.{named}
use Rattle.solid_data.specs.Obligations.{entry_number}
use Rattle.entry_references.specs.Refs.{Record}
use Rattle.entry_references.proofs.NamedRecords.{named_place}
use Rattle.list_compact.specs.Used.{edges_in, vertices_in, edge_count, vertex_count, count_from, rank, ranked, all_uses, names_edge, is_item, is_used_edge}
use Rattle.list_compact.specs.Used.{is_used_vertex}
use Rattle.list_compact.specs.Marking.{AreMarks, AreRanks, HasPlace, Covers, IsRankAt, ranks_of, sizes, edge_sizes, vertex_sizes}
use Rattle.std.proofs.lemmas.List.{map-append}
use Rattle.iges_params.proofs.Copies.{one_more}
use Rattle.list_compact.proofs.Ranks.{rank_low}

-- ---- one row

ranks_at : (u : ℕ → Bool) (n k i : ℕ) (bs : List Bool) → ((j : ℕ) → j < length bs → slice_index_or bs j false ≡ u (k + j)) → i < length bs
    → slice_index_or (ranks_of n bs) i (pos 0) ≡ (if u (k + i) then pos (n + count_from u k (suc i)) else pos 0)
ranks_at u n k i [] h lt = absurd (omega (arith, lt))
ranks_at u n k zero (true ∷ bs) h lt =
    let here : k ≡ k + 0 = omega arith in
    let is : u (k + 0) ≡ true = sym (h 0 (omega arith)) in
    let one : count_from u k 1 ≡ 1 = cond-true (u k) 1 0 (ap u here ∙ is) in
    let next : suc n ≡ n + count_from u k 1 = omega (arith, one) in
    ap (λ m. pos m) next ∙ sym (cond-true (u (k + 0)) (pos (n + count_from u k 1)) (pos 0) is)
ranks_at u n k zero (false ∷ bs) h lt = sym (cond-false (u (k + 0)) (pos (n + count_from u k 1)) (pos 0) (sym (h 0 (omega arith))))
ranks_at u n k (suc i) (true ∷ bs) h lt =
    let here : k ≡ k + 0 = omega arith in
    let is : u k ≡ true = ap u here ∙ sym (h 0 (omega arith)) in
    let on : k + 1 + i ≡ k + suc i = omega arith in
    let more : count_from u k (suc (suc i)) ≡ suc (count_from u (k + 1) (suc i)) =
    cond-true (u k) (suc (count_from u (k + 1) (suc i))) (count_from u (k + 1) (suc i)) is in
    let sum : suc n + count_from u (k + 1) (suc i) ≡ n + count_from u k (suc (suc i)) = omega (arith, more) in
    ranks_at u (suc n) (k + 1) i bs (λ j below. let past : k + suc j ≡ k + 1 + j = omega arith in h (suc j) (omega (arith, below)) ∙ ap u past)
    (omega (arith, lt))
    ∙ (ap (λ m. if u m then pos (suc n + count_from u (k + 1) (suc i)) else pos 0) on ∙ ap (λ m. if u (k + suc i) then pos m else pos 0) sum)
ranks_at u n k (suc i) (false ∷ bs) h lt =
    let here : k ≡ k + 0 = omega arith in
    let is : u k ≡ false = ap u here ∙ sym (h 0 (omega arith)) in
    let on : k + 1 + i ≡ k + suc i = omega arith in
    let more : count_from u k (suc (suc i)) ≡ count_from u (k + 1) (suc i) =
    cond-false (u k) (suc (count_from u (k + 1) (suc i))) (count_from u (k + 1) (suc i)) is in
    let sum : n + count_from u (k + 1) (suc i) ≡ n + count_from u k (suc (suc i)) = omega (arith, more) in
    ranks_at u n (k + 1) i bs (λ j below. let past : k + suc j ≡ k + 1 + j = omega arith in h (suc j) (omega (arith, below)) ∙ ap u past) (omega (arith, lt))
    ∙ (ap (λ m. if u m then pos (n + count_from u (k + 1) (suc i)) else pos 0) on ∙ ap (λ m. if u (k + suc i) then pos m else pos 0) sum)

pub ranks_long : (n : ℕ) (bs : List Bool) → length (ranks_of n bs) ≡ length bs
ranks_long n [] = refl
ranks_long n (true ∷ bs) = ap suc (ranks_long (suc n) bs)
ranks_long n (false ∷ bs) = ap suc (ranks_long n bs)

-- ---- all rows

pub marks_of : (rows : List (List Bool)) (k : ℕ) (row : List ℤ) → slice_get (map (ranks_of 0) rows) k ≡ Some row
    → (marks : List Bool) × (slice_get rows k ≡ Some marks) × (ranks_of 0 marks ≡ row)
marks_of rows k row at = by_option (slice_get rows k) refl (sym (slice_get-map (ranks_of 0) rows k) ∙ at)
  where
    by_option : (o : Option (List Bool)) → slice_get rows k ≡ o → option_map (ranks_of 0) o ≡ Some row → (marks : List Bool) × (slice_get rows k ≡ Some marks)
        × (ranks_of 0 marks ≡ row)
    by_option None e h = absurd (none-some row h)
    by_option (Some marks) e h = (marks, e, same_Some (ranks_of 0 marks) row h)

pub ranks_are : (rows : List (List Bool)) (used : ℕ → ℕ → Bool) → AreMarks rows used → AreRanks (map (ranks_of 0) rows) used
ranks_are rows used h k i row at lt =
    let m = marks_of rows k row at in
    let u : ℕ → Bool = used (2 * k + 1) in
    let within : i < length m.0 = omega (arith, lt, ap length m.2, ranks_long 0 m.0) in
    let here : 1 + i ≡ i + 1 = omega arith in
    let next : suc i ≡ i + 1 = omega arith in
    let none : 0 + count_from (used (2 * k + 1)) 1 (suc i) ≡ rank (used (2 * k + 1)) (i + 1) =
    (let z : 0 + count_from (used (2 * k + 1)) 1 (suc i) ≡ count_from (used (2 * k + 1)) 1 (suc i) = omega arith in z)
    ∙ ap (count_from (used (2 * k + 1)) 1) next in
    ap (λ (xs : List ℤ). slice_index_or xs i (pos 0)) (sym m.2)
    ∙ (ranks_at (used (2 * k + 1)) 0 1 i m.0 (λ j below. let n : j + 1 ≡ 1 + j = omega arith in h k j m.0 m.1 below ∙ ap (used (2 * k + 1)) n) within
    ∙ (ap (λ j. if used (2 * k + 1) j then pos (0 + count_from (used (2 * k + 1)) 1 (suc i)) else pos 0) here
    ∙ ap (λ n. if used (2 * k + 1) (i + 1) then pos n else pos 0) none))

module _ (g : Contents) (rows : List (List Bool)) where
  -- an item of a list that an entry of the file is
  place_from : (count : Record → ℕ) → sizes rows ≡ map count g.entries → (e j : ℕ) (r : Record) → named g (pos e) ≡ Some r → 1 ≤ j → j ≤ count r
      → HasPlace (map (ranks_of 0) rows) e j
  place_from count es e j r name low high =
      let there = named_place g e r name in
      let long : slice_get (sizes rows) (e / 2) ≡ Some (count r) = ap (λ (ns : List ℕ). slice_get ns (e / 2)) es
      ∙ (slice_get-map count g.entries (e / 2) ∙ ap (option_map count) there.1) in
      by_row (slice_get rows (e / 2)) refl there.0 (sym (slice_get-map (λ (x : List Bool). length x) rows (e / 2)) ∙ long)
    where
      by_row : (o : Option (List Bool)) → slice_get rows (e / 2) ≡ o → e % 2 ≡ 1 → option_map (λ (x : List Bool). length x) o ≡ Some (count r)
          → HasPlace (map (ranks_of 0) rows) e j
      by_row None at odd h = absurd (none-some (count r) h)
      by_row (Some row) at odd h =
          let size : length row ≡ count r = same_Some (length row) (count r) h in
          record {
            entry = e / 2;
            item = j - 1;
            row = ranks_of 0 row;
            is_entry = omega (arith, odd, div-add-mod e 2);
            is_item = omega (arith, low);
            there = slice_get-map (ranks_of 0) rows (e / 2) ∙ ap (option_map (ranks_of 0)) at;
            within = omega (arith, ranks_long 0 row, size, low, high);
          }

  item_parts : (n j : ℕ) → is_item n j ≡ true → (1 ≤ j) × (j ≤ n)
  item_parts n j t = let p = and_parts (nat_le 1 j) (nat_le j n) t in (leb-true 1 j p.0, leb-true j n p.1)

  from_count : (count : Record → ℕ) (e j n : ℕ) → n ≡ elim (named g (pos e)) as (λ _. ℕ) [ Some r ↦ count r | None ↦ 0 ] → 1 ≤ j → j ≤ n
      → (r : Record) × (named g (pos e) ≡ Some r) × (j ≤ count r)
  from_count count e j n en low high = by_option (named g (pos e)) refl en
    where
      by_option : (o : Option Record) → named g (pos e) ≡ o → n ≡ elim o as (λ _. ℕ) [ Some r ↦ count r | None ↦ 0 ]
          → (r : Record) × (named g (pos e) ≡ Some r) × (j ≤ count r)
      by_option None at h = absurd (omega (arith, h, low, high))
      by_option (Some r) at h = (r, at, omega (arith, h, high))

  pub edges_covered : sizes rows ≡ edge_sizes g → Covers (map (ranks_of 0) rows) (is_used_edge g)
  unfolding is_used_edge
  edges_covered es e j t =
      let item = item_parts (edge_count g e) j (and_parts (is_item (edge_count g e) j) (list_any (names_edge e j) (all_uses g)) t).0 in
      let r = from_count (λ r. length (edges_in r)) e j (edge_count g e) refl item.0 item.1 in
      place_from (λ r. length (edges_in r)) es e j r.0 r.1 item.0 r.2

  pub vertices_covered : sizes rows ≡ vertex_sizes g → Covers (map (ranks_of 0) rows) (is_used_vertex g)
  unfolding is_used_vertex
  vertices_covered es e j t =
      let item = item_parts (vertex_count g e) j (and_parts (is_item (vertex_count g e) j) _ t).0 in
      let r = from_count (λ r. length (vertices_in r)) e j (vertex_count g e) refl item.0 item.1 in
      place_from (λ r. length (vertices_in r)) es e j r.0 r.1 item.0 r.2

-- ---- an index

module _ (rows : List (List ℤ)) (used : ℕ → ℕ → Bool) (ranks : AreRanks rows used) (covers : Covers rows used) (z j r : ℤ)
    (item : (k i : ℕ) (row : List ℤ) → z ≡ pos (2 * k + 1) → j ≡ pos (i + 1) → slice_get rows k ≡ Some row → r ≡ slice_index_or row i (pos 0))
    (found : (r ≡ pos 0) ⊎ IsRankAt rows z j r) where
  -- an item that isn't used has no rank
  unused : (n : ℕ) → j ≡ pos n → used (entry_number z) n ≡ false → r ≡ pos 0
  unused n e f = by_place found
    where
      by_place : (r ≡ pos 0) ⊎ IsRankAt rows z j r → r ≡ pos 0
      by_place (inl none) = none
      by_place (inr p) = by_length (cases_lt p.item (length p.row))
        where
          past : (xs : List ℤ) (i : ℕ) → length xs ≤ i → slice_index_or xs i (pos 0) ≡ pos 0
          past [] i le = refl
          past (x ∷ xs) zero le = absurd (omega (arith, le))
          past (x ∷ xs) (suc i) le = past xs i (omega (arith, le))

          by_length : (p.item < length p.row) ⊎ (length p.row ≤ p.item) → r ≡ pos 0
          by_length (inr le) = p.is ∙ past p.row p.item le
          by_length (inl lt) =
              let number : pos n ≡ pos (p.item + 1) = sym e ∙ p.is_item in
              let same : n ≡ p.item + 1 = cc in
              let entry : entry_number z ≡ 2 * p.entry + 1 = ap entry_number p.is_entry in
              let off : used (2 * p.entry + 1) (p.item + 1) ≡ false = ap (λ m. used m (p.item + 1)) (sym entry) ∙ (ap (used (entry_number z)) (sym same) ∙ f) in
              p.is ∙ (ranks p.entry p.item p.row p.there lt ∙ cond-false (used (2 * p.entry + 1) (p.item + 1))
              (pos (rank (used (2 * p.entry + 1)) (p.item + 1))) (pos 0) off)

  -- one that is used has its rank, which is no 0
  used_rank : (n : ℕ) → j ≡ pos n → used (entry_number z) n ≡ true → (r ≡ pos (rank (used (entry_number z)) n)) × (1 ≤ rank (used (entry_number z)) n)
  used_rank n e t =
      let p : HasPlace rows (entry_number z) n = covers (entry_number z) n t in
      let number : z ≡ pos (2 * p.entry + 1) = by_sign z p.entry p.is_entry in
      let on : used (2 * p.entry + 1) (p.item + 1) ≡ true = ap (λ m. used m (p.item + 1)) (sym p.is_entry) ∙ (ap (used (entry_number z)) (sym p.is_item) ∙ t)
      in (
        item p.entry p.item p.row number (e ∙ ap (λ m. pos m) p.is_item) p.there
            ∙ (ranks p.entry p.item p.row p.there p.within
            ∙ (cond-true (used (2 * p.entry + 1) (p.item + 1)) (pos (rank (used (2 * p.entry + 1)) (p.item + 1))) (pos 0) on
            ∙ (ap (λ m. pos (rank (used m) (p.item + 1))) (sym p.is_entry) ∙ ap (λ m. pos (rank (used (entry_number z)) m)) (sym p.is_item)))),
        rank_low (used (entry_number z)) n (omega (arith, p.is_item)) t,
      )
    where
      by_sign : (w : ℤ) (k : ℕ) → entry_number w ≡ 2 * k + 1 → w ≡ pos (2 * k + 1)
      by_sign (pos m) k h = ap (λ n. pos n) h
      by_sign (negsuc m) k h = absurd (omega (arith, h))

  by_used : (n : ℕ) (b : Bool) → j ≡ pos n → used (entry_number z) n ≡ b → ((r ≡ pos 0) × (ranked (used (entry_number z)) (pos n) ≡ pos n))
      ⊎ ((r ≡ pos 0 → ⊥) × (ranked (used (entry_number z)) (pos n) ≡ r))
  by_used n true e t =
      let u = used_rank n e t in
      inr (
        (λ none. let no_rank : pos (rank (used (entry_number z)) n) ≡ pos 0 = sym u.0 ∙ none in let zero_rank : rank (used (entry_number z)) n ≡ 0 = cc
            in omega (arith, zero_rank, u.1)),
        cond-true (used (entry_number z) n) (pos (rank (used (entry_number z)) n)) (pos n) t ∙ sym u.0,
      )
  by_used n false e t = inl (unused n e t, cond-false (used (entry_number z) n) (pos (rank (used (entry_number z)) n)) (pos n) t)

  by_index : (w : ℤ) → j ≡ w → ((r ≡ pos 0) × (ranked (used (entry_number z)) w ≡ w)) ⊎ ((r ≡ pos 0 → ⊥) × (ranked (used (entry_number z)) w ≡ r))
  by_index (pos n) e = by_used n (used (entry_number z) n) e refl
  by_index (negsuc n) e = inl (by_place found, refl)
    where
      by_place : (r ≡ pos 0) ⊎ IsRankAt rows z j r → r ≡ pos 0
      by_place (inl none) = none
      by_place (inr p) = let no_index : negsuc n ≡ pos (p.item + 1) = sym e ∙ p.is_item in absurd cc

  pub stays_index : r ≡ pos 0 → j ≡ ranked (used (entry_number z)) j
  stays_index none = by_either (by_index j refl)
    where
      by_either : ((r ≡ pos 0) × (ranked (used (entry_number z)) j ≡ j)) ⊎ ((r ≡ pos 0 → ⊥) × (ranked (used (entry_number z)) j ≡ r))
          → j ≡ ranked (used (entry_number z)) j
      by_either (inl p) = sym p.1
      by_either (inr p) = absurd (p.0 none)

  pub rank_index : (r ≡ pos 0 → ⊥) → r ≡ ranked (used (entry_number z)) j
  rank_index some = by_either (by_index j refl)
    where
      by_either : ((r ≡ pos 0) × (ranked (used (entry_number z)) j ≡ j)) ⊎ ((r ≡ pos 0 → ⊥) × (ranked (used (entry_number z)) j ≡ r))
          → r ≡ ranked (used (entry_number z)) j
      by_either (inl p) = absurd (some p.0)
      by_either (inr p) = sym p.1

pub next_row : {A B : Type 0} (f : A → B) (xs : List A) (i : ℕ) (x : A) (y : B) (rows new : List B) → slice_get xs i ≡ Some x → y ≡ f x
    → rows ≡ map f (take i xs) → new ≡ rows ++ y ∷ [] → new ≡ map f (take (i + 1) xs)
next_row f xs i x y rows new at e er en =
    en ∙ (ap (λ zs. zs ++ y ∷ []) er ∙ (ap (λ z. map f (take i xs) ++ z ∷ []) e ∙ sym (ap (map f) (one_more xs i x at) ∙ map-append f (take i xs) (x ∷ []))))
