-- A file from which the values of one entry after the other are taken, and given flags.
use Rattle.std.specs.Prelude.{◌≡◌, ℕ, ◌+◌, ◌*◌, ◌<◌, ◌≤◌, Bool, true, ℤ, pos, List, [], ◌∷◌, ◌++◌, length, map, set, take, drop, Some, option_map, slice_get}
use Rattle.std.specs.List.{enumerate_from}
use Rattle.std.specs.Ordering.{int_eq}
use Rattle.std.proofs.Common.{refl, sym, ap, ◌∙◌, arith}
use Rattle.std.proofs.lemmas.List.{length-set, map-append, take-append-drop, take_all}
use Rattle.std.proofs.lemmas.List.FromFn.{length-enumerate_from}
use Rattle.std.proofs.lemmas.List.Sums.{sum_by-cons, sum_by-append}
use Rattle.iges_fields.specs.declared.value.Value.{Value}
use Rattle.iges_directory.specs.declared.entry.Entry.{Entry}
use Rattle.iges_params.specs.Contents.{Contents, value_count}
use Rattle.iges_params.specs.Made.{IsMade, IsMadeEntry}
use Rattle.entry_references.specs.Refs.{Record}
use Rattle.entry_references.proofs.NamedRecords.{named_pair}
use Rattle.iges_params.proofs.Copies.{one_more}
use Rattle.solid_extract.proofs.Copies.{all_at}
use Rattle.solid_extract.proofs.Taken.{get_later}
use Rattle.solid_reorient.specs.Steps.{list_numbered}
use Rattle.solid_reorient.specs.Reflagged.{flags_for, reflagged_values, reflagged_record, reflagged_entries, reflagged}
use Rattle.brep_walk.specs.Places.{shells, numbers}
use Rattle.solid_reorient.proofs.Entries.{get_enumerated, length-reflagged}

-- the entries from a place on are as they were
pub record IsEmptied (f g : Contents) (i : ℕ) : Type 0 where
  pub start : g.start ≡ f.start
  pub global : g.global ≡ f.global
  pub long : length g.entries ≡ length f.entries
  pub rest : (j : ℕ) → i ≤ j → slice_get g.entries j ≡ slice_get f.entries j

pub none_emptied : (f : Contents) → IsEmptied f f 0
none_emptied f = record { start = refl; global = refl; long = refl; rest = λ j le. refl }

module _ (f g : Contents) (i : ℕ) (h : IsEmptied f g i) (entry : Entry) (is : option_map (λ (r : Record). r.0) (slice_get g.entries i) ≡ Some entry) where
  pub taken_at : (values : List Value) → option_map (λ (r : Record). r.1) (slice_get g.entries i) ≡ Some values → slice_get f.entries i ≡ Some (entry, values)
  taken_at values taken = sym (h.rest i (omega arith)) ∙ named_pair (slice_get g.entries i) entry values (sym is) (sym taken)

  pub next_emptied : (next : Contents) → i < length g.entries
      → ((e : Entry) → option_map (λ (r : Record). r.0) (slice_get g.entries i) ≡ Some e → next ≡ record g { entries = set g.entries i (e, []) })
      → IsEmptied f next (i + 1)
  next_emptied next lt left =
      let same = left entry is in
      record {
        start = ap (λ (x : Contents). x.start) same ∙ h.start;
        global = ap (λ (x : Contents). x.global) same ∙ h.global;
        long = ap (λ (x : Contents). length x.entries) same ∙ (length-set g.entries i (entry, []) ∙ h.long);
        rest = λ j le. ap (λ (x : Contents). slice_get x.entries j) same
            ∙ (get_later g.entries i j (entry, []) (omega (arith, le)) ∙ h.rest j (omega (arith, le)));
      }

-- ---- the entries so far

counts_same : (flags : List (List Bool)) (zs : List ℤ) (k : ℕ) (rs : List Record)
    → value_count (map (reflagged_record flags zs) (enumerate_from k rs)) ≡ value_count rs
counts_same flags zs k [] = refl
counts_same flags zs k (r ∷ rs) =
    let on : value_count (map (reflagged_record flags zs) (enumerate_from (k + 1) rs)) ≡ value_count rs = counts_same flags zs (k + 1) rs in
    omega (
      arith,
      on,
      length-reflagged (flags_for flags zs (2 * k + 1)) r,
      sum_by-cons (λ (q : Record). length q.1) (reflagged_record flags zs (k, r)) (map (reflagged_record flags zs) (enumerate_from (k + 1) rs)),
      sum_by-cons (λ (q : Record). length q.1) r rs,
    )

pub values_same : (flags : List (List Bool)) (zs : List ℤ) (rs : List Record) → value_count (reflagged_entries flags zs rs) ≡ value_count rs
values_same flags zs rs = counts_same flags zs 0 rs

pub enumerated_at : (rs : List Record) (i : ℕ) (r : Record) → slice_get rs i ≡ Some r → slice_get (enumerate_from 0 rs) i ≡ Some (i, r)
enumerated_at rs i r at = let none : 0 + i ≡ i = omega arith in get_enumerated 0 rs i
    ∙ (ap (option_map (λ (x : Record). (0 + i, x))) at ∙ ap (λ m. Some (m, r)) none)

module _ (flags : List (List Bool)) (zs : List ℤ) (f : Contents) (i : ℕ) (r : Record) (at : slice_get f.entries i ≡ Some r) where
  one_longer : map (reflagged_record flags zs) (take (i + 1) (enumerate_from 0 f.entries)) ≡ map (reflagged_record flags zs)
      (take i (enumerate_from 0 f.entries)) ++ reflagged_record flags zs (i, r) ∷ []
  one_longer =
      ap (map (reflagged_record flags zs)) (one_more (enumerate_from 0 f.entries) i (i, r) (enumerated_at f.entries i r at))
      ∙ map-append (reflagged_record flags zs) (take i (enumerate_from 0 f.entries)) ((i, r) ∷ [])

  -- there is room for one more
  pub room : (vs : List Value) (es : List Record) → value_count f.entries ≤ 164000000 → vs ≡ reflagged_values (flags_for flags zs (2 * i + 1)) r
      → es ≡ map (reflagged_record flags zs) (take i (enumerate_from 0 f.entries)) → value_count es + length vs ≤ 164000000
  room vs es most ev ee =
      let whole : map (reflagged_record flags zs) (enumerate_from 0 f.entries) ≡ map (reflagged_record flags zs)
      (take (i + 1) (enumerate_from 0 f.entries)) ++ map (reflagged_record flags zs) (drop (i + 1) (enumerate_from 0 f.entries)) =
      ap (map (reflagged_record flags zs)) (sym (take-append-drop (i + 1) (enumerate_from 0 f.entries)))
      ∙ map-append (reflagged_record flags zs) (take (i + 1) (enumerate_from 0 f.entries)) (drop (i + 1) (enumerate_from 0 f.entries)) in
      omega (
        arith,
        most,
        counts_same flags zs 0 f.entries,
        ap value_count whole,
        sum_by-append (λ (x : Record). length x.1) (map (reflagged_record flags zs) (take (i + 1) (enumerate_from 0 f.entries)))
            (map (reflagged_record flags zs) (drop (i + 1) (enumerate_from 0 f.entries))),
        ap value_count one_longer,
        sum_by-append (λ (x : Record). length x.1) (map (reflagged_record flags zs) (take i (enumerate_from 0 f.entries)))
            (reflagged_record flags zs (i, r) ∷ []),
        sum_by-cons (λ (x : Record). length x.1) (reflagged_record flags zs (i, r)) [],
        ap length ev,
        ap value_count ee,
      )

  pub next_entries : (vs : List Value) (es new : List Record) → vs ≡ reflagged_values (flags_for flags zs (2 * i + 1)) r
      → es ≡ map (reflagged_record flags zs) (take i (enumerate_from 0 f.entries)) → new ≡ es ++ (r.0, vs) ∷ []
      → new ≡ map (reflagged_record flags zs) (take (i + 1) (enumerate_from 0 f.entries))
  next_entries vs es new ev ee en =
      en ∙ (ap (λ (xs : List Record). xs ++ (r.0, vs) ∷ []) ee
      ∙ (ap (λ (ws : List Value). map (reflagged_record flags zs) (take i (enumerate_from 0 f.entries)) ++ (r.0, ws) ∷ []) ev ∙ sym one_longer))

pub all_reflagged : (f g old new : Contents) (n : ℕ) (flags : List (List Bool)) (zs : List ℤ) (i : ℕ) → zs ≡ numbers (shells f (pos n)) → IsEmptied f g i
    → new ≡ record old { start = g.start; global = g.global } → old.entries ≡ map (reflagged_record flags zs) (take i (enumerate_from 0 f.entries))
    → length f.entries ≤ i → new ≡ reflagged f n flags
unfolding reflagged
all_reflagged f g old new n flags zs i ez h e ee past =
    let all : take i (enumerate_from 0 f.entries) ≡ enumerate_from 0 f.entries = take_all i (enumerate_from 0 f.entries)
    (omega (arith, past, length-enumerate_from 0 f.entries)) in
    let entries : new.entries ≡ reflagged_entries flags (numbers (shells f (pos n))) f.entries = ap (λ (x : Contents). x.entries) e
    ∙ (ee ∙ (ap (map (reflagged_record flags zs)) all ∙ ap (λ (ys : List ℤ). reflagged_entries flags ys f.entries) ez)) in
    let start : new.start ≡ f.start = ap (λ (x : Contents). x.start) e ∙ h.start in
    let global : new.global ≡ f.global = ap (λ (x : Contents). x.global) e ∙ h.global in
    λ j. record { start = start j; global = global j; entries = entries j }

-- an entry of type 0 has no values
pub unused_none : (f : Contents) (made : IsMade f) (i : ℕ) (r : Record) (vs : List Value) (bs : List Bool) → slice_get f.entries i ≡ Some r
    → vs ≡ reflagged_values bs r → int_eq r.0.kind (pos 0) ≡ true → vs ≡ []
unused_none f made i r vs bs at e t = none (length-reflagged bs r)
  where
    empty : (ws : List Value) → length ws ≡ 0 → ws ≡ []
    empty [] h = refl
    empty (w ∷ ws) h = absurd (omega (arith, h))

    none : length (reflagged_values bs r) ≡ length r.1 → vs ≡ []
    none h =
        let entry : IsMadeEntry r = all_at IsMadeEntry f.entries i r made.entries at in
        empty vs (ap length e ∙ (h ∙ ap length (entry.unused t)))

-- the values with the flags of the list that the table has for the place
pub values_told : (xs flags : List (List Bool)) (ys zs : List ℤ) (n m : ℕ) (r : Record) (vs : List Value)
    → vs ≡ reflagged_values (list_numbered xs n) r → xs ≡ flags → list_numbered flags n ≡ flags_for flags ys m → ys ≡ zs
    → vs ≡ reflagged_values (flags_for flags zs m) r
values_told xs flags ys zs n m r vs e a told b =
    e
    ∙ (ap (λ (x : List (List Bool)). reflagged_values (list_numbered x n) r) a
    ∙ (ap (λ (bs : List Bool). reflagged_values bs r) told ∙ ap (λ (y : List ℤ). reflagged_values (flags_for flags y m) r) b))
