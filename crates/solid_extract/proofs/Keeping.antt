-- The own values of a record of the six kinds, with the pointers renamed, are a record of that kind.
use Rattle.std.proofs.Common.{◌≡◌, inl, inr, ℕ, suc, ◌+◌, ◌<◌, Bool, true, false, List, [], ◌∷◌, ◌++◌, length, map, take, ℤ, pos, Option, Some, None, refl, sym}
use Rattle.std.proofs.Common.{ap, subst, ◌∙◌, arith}
use Rattle.std.specs.Prelude.{◌==◌, ◌||◌, flat_map, if◌then◌else◌}
use Rattle.std.specs.List.{enumerate_from}
use Rattle.std.proofs.lemmas.Bool.{cond-false, ne_eqb, eq-eqb}
use Rattle.std.proofs.lemmas.List.{map-append, length-map}
use Rattle.iges_fields.specs.declared.value.Value.{Value}
use Rattle.iges_fields.specs.declared.value.Value.TheVariants as value
use Rattle.brep_lists.specs.DueValues.{DueValue, pointer, number, flag, at_least_one, count, coordinate, IsFiller, Meets, MayBeMissing, MeetsAll}
use Rattle.brep_lists.specs.Record.{LoopTuple, Items, pair_due, curve_due, tuple_due, edge_due, vertex_due, due, items_of}
use Rattle.brep_lists.specs.declared.entity_kind.EntityKind.{EntityKind}
use Rattle.brep_lists.specs.declared.entity_kind.EntityKind.TheVariants.{Solid as solid, Shell as shell, Face as face, Loop as «loop», EdgeList as edges}
use Rattle.brep_lists.specs.declared.entity_kind.EntityKind.TheVariants.{VertexList as vertices}
use Rattle.brep_lists.specs.OwnValues.{due_in, own_count, pointer_places}
use Rattle.entry_references.specs.Layout.{Own}
use Rattle.entry_references.specs.EntrySets.{is_among}
use Rattle.entry_references.specs.PlacesDue.{places_due}
use Rattle.entry_references.specs.Refs.{names_of}
use Rattle.entry_references.proofs.KindPlaces.{own_is}
use Rattle.solid_extract.specs.Extracted.{renamed, new_value, new_values}
use Rattle.solid_extract.specs.Kept.{renamed_pair, renamed_curve, renamed_tuple, renamed_edge, renamed_items, RecordsAreKept}

-- ---- what is due for renamed items

abbrev pub renamed_due : (ℤ → ℤ) → DueValue → DueValue
renamed_due g (pointer z) = pointer (g z)
renamed_due g (number z) = number z
renamed_due g (flag b) = flag b
renamed_due g (at_least_one n) = at_least_one n
renamed_due g (count n) = count n
renamed_due g (coordinate w) = coordinate w

abbrev pub R : (ℤ → ℤ) → List DueValue → List DueValue
R g ds = map (renamed_due g) ds

-- item by item
each_renamed : {A : Type 0} (g : ℤ → ℤ) (d : A → List DueValue) (h : A → A) → ((x : A) → d (h x) ≡ R g (d x)) → (xs : List A)
    → flat_map d (map h xs) ≡ R g (flat_map d xs)
each_renamed g d h same [] = refl
each_renamed g d h same (x ∷ xs) = ap (λ ds. ds ++ flat_map d (map h xs)) (same x)
    ∙ (ap (λ ds. R g (d x) ++ ds) (each_renamed g d h same xs) ∙ sym (map-append (renamed_due g) (d x) (flat_map d xs)))

curves_due : (g : ℤ → ℤ) (cs : List (Bool × ℤ)) → flat_map curve_due (map (renamed_curve g) cs) ≡ R g (flat_map curve_due cs)
curves_due g cs = each_renamed g curve_due (renamed_curve g) (λ c. refl) cs

tuple_renamed : (g : ℤ → ℤ) (t : LoopTuple) → tuple_due (renamed_tuple g t) ≡ R g (tuple_due t)
tuple_renamed g t =
    ap (λ n. flag t.is_vertex ∷ pointer (g t.list) ∷ number t.index ∷ flag t.flag ∷ count n ∷ flat_map curve_due (map (renamed_curve g) t.curves))
    (length-map t.curves (renamed_curve g))
    ∙ ap (λ ds. flag t.is_vertex ∷ pointer (g t.list) ∷ number t.index ∷ flag t.flag ∷ count (length t.curves) ∷ ds) (curves_due g t.curves)

vertices_due : (g : ℤ → ℤ) (vs : List (Value × Value × Value)) → flat_map vertex_due vs ≡ R g (flat_map vertex_due vs)
vertices_due g [] = refl
vertices_due g (v ∷ vs) = ap (λ ds. coordinate v.0 ∷ coordinate v.1 ∷ coordinate v.2 ∷ ds) (vertices_due g vs)

loops_due : (g : ℤ → ℤ) (ls : List ℤ) → map pointer (map g ls) ≡ R g (map pointer ls)
loops_due g [] = refl
loops_due g (l ∷ ls) = ap (λ ds. pointer (g l) ∷ ds) (loops_due g ls)

headed : {A : Type 0} (g : ℤ → ℤ) (d : A → List DueValue) (h : A → A) → ((x : A) → d (h x) ≡ R g (d x)) → (xs : List A)
    → at_least_one (length (map h xs)) ∷ flat_map d (map h xs) ≡ R g (at_least_one (length xs) ∷ flat_map d xs)
headed g d h same xs = ap (λ n. at_least_one n ∷ flat_map d (map h xs)) (length-map xs h) ∙ ap (λ ds. at_least_one (length xs) ∷ ds)
    (each_renamed g d h same xs)

pub due_renamed : (g : ℤ → ℤ) (kind : EntityKind) (items : Items kind) → due kind (renamed_items g kind items) ≡ R g (due kind items)
due_renamed g solid s =
    ap (λ n. pointer (g s.outer.0) ∷ flag s.outer.1 ∷ count n ∷ flat_map pair_due (map (renamed_pair g) s.voids)) (length-map s.voids (renamed_pair g))
    ∙ ap (λ ds. pointer (g s.outer.0) ∷ flag s.outer.1 ∷ count (length s.voids) ∷ ds) (each_renamed g pair_due (renamed_pair g) (λ p. refl) s.voids)
due_renamed g shell faces = headed g pair_due (renamed_pair g) (λ p. refl) faces
due_renamed g face f =
    ap (λ n. pointer (g f.surface) ∷ at_least_one n ∷ flag f.outer ∷ map pointer (map g f.loops)) (length-map f.loops g)
    ∙ ap (λ ds. pointer (g f.surface) ∷ at_least_one (length f.loops) ∷ flag f.outer ∷ ds) (loops_due g f.loops)
due_renamed g «loop» tuples = headed g tuple_due (renamed_tuple g) (tuple_renamed g) tuples
due_renamed g edges tuples = headed g edge_due (renamed_edge g) (λ e. refl) tuples
due_renamed g vertices triples = ap (λ ds. at_least_one (length triples) ∷ ds) (vertices_due g triples)

-- ---- which places are pointers

abbrev is_pointer_due : DueValue → Bool
is_pointer_due (pointer z) = true
is_pointer_due _ = false

below_none : (k m : ℕ) (ds : List DueValue) → m < k → is_among (places_due k ds) m ≡ false
below_none k m [] lt = refl
below_none k m (pointer z ∷ ds) lt = ap (λ b. b || is_among (places_due (k + 1) ds) m) (ne_eqb k m (λ e. omega (arith, lt, e)))
    ∙ below_none (k + 1) m ds (omega (arith, lt))
below_none k m (number z ∷ ds) lt = below_none (k + 1) m ds (omega (arith, lt))
below_none k m (flag b ∷ ds) lt = below_none (k + 1) m ds (omega (arith, lt))
below_none k m (at_least_one n ∷ ds) lt = below_none (k + 1) m ds (omega (arith, lt))
below_none k m (count n ∷ ds) lt = below_none (k + 1) m ds (omega (arith, lt))
below_none k m (coordinate w ∷ ds) lt = below_none (k + 1) m ds (omega (arith, lt))

-- The list of places says of each due from place k on whether it is a pointer.
abbrev Says : List ℕ → ℕ → List DueValue → Type 0
Says ps k [] = Unit {0}
Says ps k (d ∷ ds) = (is_among ps k ≡ is_pointer_due d) × Says ps (k + 1) ds

says_more : (x k : ℕ) (ps : List ℕ) (ds : List DueValue) → x < k → Says ps k ds → Says (x ∷ ps) k ds
says_more x k ps [] lt h = tt
says_more x k ps (d ∷ ds) lt h =
    (ap (λ b. b || is_among ps k) (ne_eqb x k (λ e. omega (arith, lt, e))) ∙ h.0, says_more x (k + 1) ps ds (omega (arith, lt)) h.1)

says_places : (k : ℕ) (ds : List DueValue) → Says (places_due k ds) k ds
says_places k [] = tt
says_places k (pointer z ∷ ds) =
    (ap (λ b. b || is_among (places_due (k + 1) ds) k) (eq-eqb k k refl), says_more k (k + 1) (places_due (k + 1) ds) ds (omega arith) (says_places (k + 1) ds))
says_places k (number z ∷ ds) = (below_none (k + 1) k ds (omega arith), says_places (k + 1) ds)
says_places k (flag b ∷ ds) = (below_none (k + 1) k ds (omega arith), says_places (k + 1) ds)
says_places k (at_least_one n ∷ ds) = (below_none (k + 1) k ds (omega arith), says_places (k + 1) ds)
says_places k (count n ∷ ds) = (below_none (k + 1) k ds (omega arith), says_places (k + 1) ds)
says_places k (coordinate w ∷ ds) = (below_none (k + 1) k ds (omega arith), says_places (k + 1) ds)

-- ---- the values

-- nothing, or a 0 and fillers
abbrev IsTail : List Value → Type 0
IsTail [] = Unit {0}
IsTail (v ∷ vs) = (v ≡ value.Int (pos 0)) × MeetsAll [] vs

module _ (kept : List ℕ) (own : Own) (no_cut : own.cut ≡ []) where
  abbrev changed : ℕ → Value → Value
  changed k v = new_value kept own k v

  int_changed : (k : ℕ) (z : ℤ) (b : Bool) → is_among own.pointers k ≡ b → changed k (value.Int z) ≡ value.Int (if b then renamed kept z else z)
  int_changed k z b e =
      ap (λ c. value.Int (if c then renamed kept z else (if is_among own.cut k then pos 0 else z))) e
      ∙ ap (λ (ns : List ℕ). value.Int (if b then renamed kept z else (if is_among ns k then pos 0 else z))) no_cut

  default_changed : (k : ℕ) (v : Value) → v ≡ value.Default → changed k v ≡ value.Default
  default_changed k v e = ap (changed k) e

  coordinate_changed : (k : ℕ) (v : Value) → is_among own.pointers k ≡ false → changed k v ≡ v
  coordinate_changed k value.Default e = refl
  coordinate_changed k (value.Int z) e = int_changed k z false e
  coordinate_changed k (value.Real r) e = refl
  coordinate_changed k (value.Text t) e = refl

  int_kept : (k : ℕ) (v : Value) (z : ℤ) → is_among own.pointers k ≡ false → v ≡ value.Int z → changed k v ≡ value.Int z
  int_kept k v z e is = ap (changed k) is ∙ int_changed k z false e

  meets_changed : (d : DueValue) (k : ℕ) (v : Value) → is_among own.pointers k ≡ is_pointer_due d → Meets d v
      → Meets (renamed_due (renamed kept) d) (changed k v)
  meets_changed (pointer z) k v e h = ap (changed k) h ∙ int_changed k z true e
  meets_changed (number z) k v e h = int_kept k v z e h
  meets_changed (flag b) k v e h = int_kept k v (if b then pos 1 else pos 0) e h
  meets_changed (at_least_one n) k v e h = (int_kept k v (pos n) e h.0, h.1)
  meets_changed (count n) k v e (inl h) = inl (int_kept k v (pos n) e h)
  meets_changed (count n) k v e (inr h) = inr (default_changed k v h.0, h.1)
  meets_changed (coordinate w) k v e h = (coordinate_changed k v e ∙ h.0, h.1)

  abbrev own_changed : ℕ → List Value → List Value
  own_changed k vs = map (λ (v : ℕ × Value). changed v.0 v.1) (enumerate_from k vs)

  tail_spells : (vs : List Value) → IsTail vs → MeetsAll [] vs
  tail_spells [] h = tt
  tail_spells (v ∷ vs) h = (subst IsFiller (sym h.0) tt, h.1)

  -- what is missing at the end is a count of 0, and so is the 0 that may stand there then
  missing_spells : (d : DueValue) (ds : List DueValue) (tail : List Value) → MayBeMissing (d ∷ ds) → IsTail tail → MeetsAll (R (renamed kept) (d ∷ ds)) tail
  missing_spells (count n) [] [] h t = h
  missing_spells (count n) [] (v ∷ vs) h t = (inl (t.0 ∙ ap (λ m. value.Int (pos m)) (sym h)), t.1)
  missing_spells (count n) (d ∷ ds) tail h t = absurd h
  missing_spells (pointer z) ds tail h t = absurd h
  missing_spells (number z) ds tail h t = absurd h
  missing_spells (flag b) ds tail h t = absurd h
  missing_spells (at_least_one n) ds tail h t = absurd h
  missing_spells (coordinate w) ds tail h t = absurd h

  changed_spells : (k : ℕ) (ds : List DueValue) (vs tail : List Value) → Says own.pointers k ds → MeetsAll ds vs → IsTail tail
      → MeetsAll (R (renamed kept) ds) (own_changed k (take (length ds) vs) ++ tail)
  changed_spells k [] vs tail s h t = tail_spells tail t
  changed_spells k (d ∷ ds) [] tail s h t = missing_spells d ds tail h t
  changed_spells k (d ∷ ds) (v ∷ vs) tail s h t = (meets_changed d k v s.0 h.0, changed_spells (k + 1) ds vs tail s.1 h.1 t)

ints_spell : (g : ℤ → ℤ) (zs : List ℤ) → MeetsAll [] (map (λ z. value.Int (g z)) zs)
ints_spell g [] = tt
ints_spell g (z ∷ zs) = (tt, ints_spell g zs)

-- the names behind the own values
abbrev names_tail : List Value → List Value
names_tail names = if length names == 0 then [] else value.Int (pos 0) ∷ value.Int (pos (length names)) ∷ names

tail_is : (names : List Value) → MeetsAll [] names → IsTail (names_tail names)
tail_is [] h = tt
tail_is (v ∷ names) h =
    let some : (length (v ∷ names) == 0) ≡ false = ne_eqb (suc (length names)) 0 (λ e. omega (arith, e)) in
    subst IsTail (sym (cond-false (length (v ∷ names) == 0) [] (value.Int (pos 0) ∷ value.Int (pos (length (v ∷ names))) ∷ v ∷ names) some)) (refl, (tt, h))

pub keeps : RecordsAreKept
keeps f kept r kind e h =
    let own : Own = record { count = own_count kind r.1; pointers = pointer_places kind r.1; cut = [] } in
    let names : List Value = map (λ z. value.Int (renamed kept z)) (names_of f r) in
    let values : new_values f kept r ≡ own_changed kept own refl 1 (take (length (due_in kind r.1)) r.1) ++ names_tail names =
    ap (λ (o : Option Own). elim o as (λ _. List Value) [
      | Some w ↦ map (λ (v : ℕ × Value). new_value kept w v.0 v.1) (enumerate_from 1 (take w.count r.1))
      | None ↦ []
    ] ++ names_tail names) (own_is r kind e h) in
    let spelled : MeetsAll (R (renamed kept) (due_in kind r.1)) (own_changed kept own refl 1 (take (length (due_in kind r.1)) r.1) ++ names_tail names) =
    changed_spells kept own refl 1 (due_in kind r.1) r.1 (names_tail names) (says_places 1 (due_in kind r.1)) h
    (tail_is names (ints_spell (renamed kept) (names_of f r))) in
    subst (λ vs. MeetsAll (due kind (renamed_items (renamed kept) kind (items_of kind r.1))) vs) (sym values)
    (subst (λ ds. MeetsAll ds (own_changed kept own refl 1 (take (length (due_in kind r.1)) r.1) ++ names_tail names))
    (sym (due_renamed (renamed kept) kind (items_of kind r.1))) spelled)
