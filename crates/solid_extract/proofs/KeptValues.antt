-- The values of a kept record.
use Rattle.std.specs.Prelude.{◌≡◌, ◌⊎◌, ℕ, zero, suc, ◌+◌, ◌-◌, ◌<◌, ◌≤◌, ◌==◌, Bool, true, false, not, ◌||◌, ℤ, pos, List, [], ◌∷◌, ◌++◌, length, map, take, drop}
use Rattle.std.specs.Prelude.{set, replicate, Option, Some, None, if◌then◌else◌, slice_get, slice_index_or, unwrap_or, filter, filter_map}
use Rattle.std.specs.List.{enumerate_from}
use Rattle.std.proofs.Common.{◌≢◌, refl, sym, ap, subst, ◌∙◌, arith, get_or, length-append, length-take, length-drop, inl, inr}
use Rattle.std.proofs.Math.Bool.{or-false}
use Rattle.std.proofs.lemmas.Bool.{cases_lt, eqb-true, eq-eqb, ne_eqb, cond-false, or_right, true≢false}
use Rattle.std.proofs.lemmas.List.{length-map, length-set, length-replicate, set_past, set-get_or, get_or-replicate, get_or_default, get_or_past}
use Rattle.std.proofs.lemmas.List.FromFn.{length-enumerate_from}
use Rattle.std.proofs.lemmas.List.Sums.{length-filter, count_by-le-length}
use Rattle.std.proofs.lemmas.Option.{get_or_from_slice_get}
use Rattle.iges_base.proofs.Lists.{some_at}
use Rattle.iges_fields.specs.declared.value.Value.{Value}
use Rattle.iges_fields.specs.declared.value.Value.TheVariants as value
use Rattle.iges_params.specs.Contents.{Contents}
use Rattle.entry_references.specs.EntrySets.{is_among}
use Rattle.entry_references.specs.Layout.{Own, count_of}
use Rattle.entry_references.specs.Refs.{Record, Group, first_group, own_of, names_of, is_name, number_of, second_group}
use Rattle.entry_references.specs.Shapes.{HasShape}
use Rattle.entry_references.specs.declared.group.Group.{Group as Between}
use Rattle.entry_references.proofs.Marks.{get_set, both_next, zero_other, among_push}
use Rattle.solid_extract.specs.Extracted.{new_value, new_values, renamed}
use Rattle.solid_extract.proofs.Copies.{filter_map_few}
use Rattle.solid_extract.specs.NewValues.{AreMarkedPlaces, AreRenewed, is_open, with_mark, with_pointer, with_cut, value_as, new_numbers, names_behind}

-- ---- marks of places

marked_one : (ms : List Bool) (place i : ℕ) → i < length ms → slice_index_or (with_mark ms place) i false ≡ (slice_index_or ms i false || (place == i + 1))
marked_one ms zero i lt =
    let one : suc i ≡ i + 1 = omega arith in
    sym (ap (λ (b : Bool). slice_index_or ms i false || b) (ap (λ (k : ℕ). 0 == k) (sym one) ∙ zero_other i) ∙ or-false (slice_index_or ms i false))
marked_one ms (suc k) i lt = by_order (cases_lt k (length ms))
  where
    same : (suc k == i + 1) ≡ (k == i)
    same = let one : i + 1 ≡ suc i = omega arith in ap (λ (j : ℕ). suc k == j) one ∙ both_next k i

    by_order : (k < length ms) ⊎ (length ms ≤ k) → slice_index_or (set ms k true) i false ≡ (slice_index_or ms i false || (suc k == i + 1))
    by_order (inr past) =
        let far : (k == i) ≡ false = ne_eqb k i (λ e. omega (arith, e, past, lt)) in
        ap (λ (xs : List Bool). slice_index_or xs i false) (set_past ms k true past)
        ∙ sym (ap (λ (b : Bool). slice_index_or ms i false || b) (same ∙ far) ∙ or-false (slice_index_or ms i false))
    by_order (inl below) = get_set ms k i below ∙ ap (λ (b : Bool). slice_index_or ms i false || b) (sym same)

mark_long : (ms : List Bool) (place : ℕ) → length (with_mark ms place) ≡ length ms
mark_long ms zero = refl
mark_long ms (suc k) = length-set ms k true

pub mark_more : (ms new : List Bool) (ps : List ℕ) (count place : ℕ) → new ≡ with_mark ms place → AreMarkedPlaces ms ps count
    → AreMarkedPlaces new (ps ++ place ∷ []) count
mark_more ms new ps count place en h = record {
  long = ap length en ∙ (mark_long ms place ∙ h.long);
  marked = λ j below.
      ap (λ (xs : List Bool). slice_index_or xs j false) en
      ∙ (marked_one ms place j (omega (arith, below, h.long))
      ∙ (ap (λ (b : Bool). b || (place == j + 1)) (h.marked j below) ∙ sym (among_push ps place (j + 1))));
}

pub no_marks : (ms : List Bool) (n : ℕ) → ms ≡ replicate n false → AreMarkedPlaces ms [] n
no_marks ms n e = record {
  long = ap length e ∙ length-replicate n false;
  marked = λ j below. ap (λ (xs : List Bool). slice_index_or xs j false) e ∙ get_or-replicate n j false false below;
}

-- ---- own values

-- a value that isn't an integer stays
pub set_same : (vs : List Value) (i : ℕ) (v w : Value) → slice_get vs i ≡ Some v → w ≡ v → vs ≡ set vs i w
set_same vs i v w at e = sym (ap (set vs i) (e ∙ sym (get_or_from_slice_get vs i v v at)) ∙ set-get_or vs i v)

value_is : (kept : List ℕ) (own : Own) (k : ℕ) (p c : Bool) (v : Value) → p ≡ is_among own.pointers k → c ≡ is_among own.cut k
    → value_as kept p c v ≡ new_value kept own k v
value_is kept own k p c value.Default ep ec = refl
value_is kept own k p c (value.Int n) ep ec =
    ap (λ (b : Bool). value.Int (if b then renamed kept n else (if c then pos 0 else n))) ep
    ∙ ap (λ (b : Bool). value.Int (if is_among own.pointers k then renamed kept n else (if b then pos 0 else n))) ec
value_is kept own k p c (value.Real w) ep ec = refl
value_is kept own k p c (value.Text t) ep ec = refl

abbrev pub as_kept : List ℕ → Own → ℕ × Value → Value
as_kept kept own v = new_value kept own v.0 v.1

plain : (kept : List ℕ) (x : Value) → value_as kept false false x ≡ x
plain kept value.Default = refl
plain kept (value.Int n) = refl
plain kept (value.Real w) = refl
plain kept (value.Text t) = refl

-- without a pointer all stay
pub all_plain : (kept : List ℕ) (own : Own) (k : ℕ) (vs : List Value) → own.pointers ≡ [] → own.cut ≡ [] → map (as_kept kept own) (enumerate_from k vs) ≡ vs
all_plain kept own k [] ep ec = refl
all_plain kept own k (v ∷ vs) ep ec =
    let same : new_value kept own k v ≡ v =
    sym (value_is kept own k false false v (sym (ap (λ (ps : List ℕ). is_among ps k) ep)) (sym (ap (λ (ps : List ℕ). is_among ps k) ec))) ∙ plain kept v in
    λ j. same j ∷ all_plain kept own (k + 1) vs ep ec j

-- a pointer is renamed, be it cut or not
pointed : (kept : List ℕ) (b c : Bool) (v : Value) → value_as kept true b v ≡ value_as kept true c v
pointed kept b c value.Default = refl
pointed kept b c (value.Int n) = refl
pointed kept b c (value.Real w) = refl
pointed kept b c (value.Text t) = refl

-- ---- one place more

-- values are the same where each is
module _ (f g : ℕ × Value → Value) where
  same_values : (k : ℕ) (vs : List Value) → ((j : ℕ) (v : Value) → k ≤ j → j < k + length vs → g (j, v) ≡ f (j, v))
      → map g (enumerate_from k vs) ≡ map f (enumerate_from k vs)
  same_values k [] h = refl
  same_values k (v ∷ vs) h =
      let here : g (k, v) ≡ f (k, v) = h k v (omega arith) (omega arith) in
      let later : map g (enumerate_from (k + 1) vs) ≡ map f (enumerate_from (k + 1) vs) =
      same_values (k + 1) vs (λ j w le lt. h j w (omega (arith, le)) (omega (arith, lt))) in
      λ j. here j ∷ later j

  set_value : (k i n : ℕ) (vs : List Value) (v : Value) → slice_get vs i ≡ Some v → n ≡ k + i → ((j : ℕ) (w : Value) → j ≢ n → g (j, w) ≡ f (j, w))
      → map g (enumerate_from k vs) ≡ set (map f (enumerate_from k vs)) i (g (n, v))
  set_value k i n [] v at en h = absurd (cc at)
  set_value k zero n (x ∷ vs) v at en h =
      let is : x ≡ v = cc at in
      let place : k ≡ n = omega (arith, en) in
      let here : g (k, x) ≡ g (n, v) = ap (λ (y : Value). g (k, y)) is ∙ ap (λ (j : ℕ). g (j, v)) place in
      let later : map g (enumerate_from (k + 1) vs) ≡ map f (enumerate_from (k + 1) vs) =
      same_values (k + 1) vs (λ j w le lt. h j w (λ e. omega (arith, le, e, en))) in
      λ j. here j ∷ later j
  set_value k (suc i) n (x ∷ vs) v at en h =
      let here : g (k, x) ≡ f (k, x) = h k x (λ e. omega (arith, e, en)) in
      let later : map g (enumerate_from (k + 1) vs) ≡ set (map f (enumerate_from (k + 1) vs)) i (g (n, v)) =
      set_value (k + 1) i n vs v at (omega (arith, en)) h in
      λ j. here j ∷ later j

value_now : (f : ℕ × Value → Value) (k i n : ℕ) (vs : List Value) (v : Value) → slice_get vs i ≡ Some v → n ≡ k + i
    → slice_get (map f (enumerate_from k vs)) i ≡ Some (f (n, v))
value_now f k i n [] v at en = absurd (cc at)
value_now f k zero n (x ∷ vs) v at en =
    let is : x ≡ v = cc at in
    let place : k ≡ n = omega (arith, en) in
    ap (λ (y : Value). Some (f (k, y))) is ∙ ap (λ (j : ℕ). Some (f (j, v))) place
value_now f k (suc i) n (x ∷ vs) v at en = value_now f (k + 1) i n vs v at (omega (arith, en))

value_alike : (kept : List ℕ) (a b : Own) (k : ℕ) (v : Value) → is_among a.pointers k ≡ is_among b.pointers k → is_among a.cut k ≡ is_among b.cut k
    → new_value kept a k v ≡ new_value kept b k v
value_alike kept a b k v ep ec =
    sym (value_is kept a k (is_among a.pointers k) (is_among a.cut k) v refl refl) ∙ value_is kept b k (is_among a.pointers k) (is_among a.cut k) v ep ec

among_other : (ns : List ℕ) (x k : ℕ) → (x ≡ k → is_among ns k ≡ true) → is_among (ns ++ x ∷ []) k ≡ is_among ns k
among_other ns x k h = among_push ns x k ∙ by_test (x == k) refl
  where
    by_test : (b : Bool) → (x == k) ≡ b → (is_among ns k || b) ≡ is_among ns k
    by_test false t = or-false (is_among ns k)
    by_test true t = let there = h (eqb-true x k t) in ap (λ (b : Bool). b || true) there ∙ sym there

among_last : (ns : List ℕ) (x : ℕ) → is_among (ns ++ x ∷ []) x ≡ true
among_last ns x = among_push ns x x ∙ or_right (is_among ns x) (x == x) (eq-eqb x x refl)

value_renamed : (kept : List ℕ) (own : Own) (k : ℕ) (v : Value) → own.cut ≡ [] → is_among own.pointers k ≡ false
    → value_as kept true false (new_value kept own k v) ≡ new_value kept (with_pointer own k) k v
value_renamed kept own k v ec ep =
    let no_cut : false ≡ is_among own.cut k = sym (ap (λ (ns : List ℕ). is_among ns k) ec) in
    let same : new_value kept own k v ≡ v = sym (value_is kept own k false false v (sym ep) no_cut) ∙ plain kept v in
    ap (value_as kept true false) same ∙ value_is kept (with_pointer own k) k true false v (sym (among_last own.pointers k)) no_cut

cut_twice : (kept : List ℕ) (c : Bool) (v : Value) → value_as kept false true (value_as kept false c v) ≡ value_as kept false true v
cut_twice kept c value.Default = refl
cut_twice kept c (value.Int n) = refl
cut_twice kept c (value.Real w) = refl
cut_twice kept c (value.Text t) = refl

value_cut : (kept : List ℕ) (own : Own) (k : ℕ) (v : Value) → is_among own.pointers k ≡ false
    → value_as kept false true (new_value kept own k v) ≡ new_value kept (with_cut own k) k v
value_cut kept own k v ep =
    ap (value_as kept false true) (sym (value_is kept own k false (is_among own.cut k) v (sym ep) refl))
    ∙ (cut_twice kept (is_among own.cut k) v ∙ value_is kept (with_cut own k) k false true v (sym ep) (sym (among_last own.cut k)))

renewed_long : (kept : List ℕ) (own : Own) (olds values : List Value) → values ≡ map (as_kept kept own) (enumerate_from 1 olds) → length values ≡ length olds
renewed_long kept own olds values e = ap length e ∙ (length-map (enumerate_from 1 olds) (as_kept kept own) ∙ length-enumerate_from 1 olds)

-- marks and values have one length
pub renewed_fits : (kept : List ℕ) (own : Own) (olds : List Value) (marks : List Bool) (values : List Value) → AreRenewed kept own olds marks values
    → length marks ≡ length values
renewed_fits kept own olds marks values h = h.marked.long ∙ sym (renewed_long kept own olds values h.are)

-- a place that isn't open is no place of the values, or that of a pointer
closed_place : (marks : List Bool) (ps : List ℕ) (count place j : ℕ) → AreMarkedPlaces marks ps count → is_open marks place ≡ false → 1 ≤ j → j < 1 + count
    → place ≡ j → is_among ps j ≡ true
closed_place marks ps count zero j h t le lt e = absurd (omega (arith, le, e))
closed_place marks ps count (suc k) j h t le lt e =
    let within : k < length marks = omega (arith, lt, e, h.long) in
    let one : k + 1 ≡ j = omega (arith, e) in
    let marked : slice_index_or marks k true ≡ true = by_test (slice_index_or marks k true) t in
    sym (ap (is_among ps) one) ∙ (sym (h.marked k (omega (arith, lt, e))) ∙ (get_or_default marks k false true within ∙ marked))
  where
    by_test : (b : Bool) → not b ≡ false → b ≡ true
    by_test true t = refl
    by_test false t = absurd (true≢false t)

-- one that is open is a place of the values, and none of a pointer
record IsOpenPlace (ps : List ℕ) (count place : ℕ) : Type 0 where
  i : ℕ
  is : place ≡ i + 1
  within : i < count
  other : is_among ps place ≡ false

open_place : (marks : List Bool) (ps : List ℕ) (count place : ℕ) → AreMarkedPlaces marks ps count → is_open marks place ≡ true → IsOpenPlace ps count place
open_place marks ps count zero h t = absurd (true≢false (sym t))
open_place marks ps count (suc k) h t =
    let free : slice_index_or marks k true ≡ false = by_test (slice_index_or marks k true) t in
    let lt : k < length marks = by_order (cases_lt k (length marks)) free in
    let one : k + 1 ≡ suc k = omega arith in
    record {
      i = k;
      is = omega arith;
      within = omega (arith, lt, h.long);
      other = sym (ap (is_among ps) one) ∙ (sym (h.marked k (omega (arith, lt, h.long))) ∙ (get_or_default marks k false true lt ∙ free));
    }
  where
    by_test : (b : Bool) → not b ≡ true → b ≡ false
    by_test true t = absurd (true≢false (sym t))
    by_test false t = refl

    by_order : (k < length marks) ⊎ (length marks ≤ k) → slice_index_or marks k true ≡ false → k < length marks
    by_order (inl lt) free = lt
    by_order (inr past) free = absurd (true≢false (sym (get_or_past marks k true past) ∙ free))

module _ (kept : List ℕ) (own : Own) (olds : List Value) (marks : List Bool) (values new : List Value) (place : ℕ) (h : AreRenewed kept own olds marks values) where
  -- the values with the pointers of one place more
  module _ (p c : Bool) (more : Own) (free : Bool) (is : free ≡ is_open marks place)
      (same : (j : ℕ) (v : Value) → (place ≡ j → is_among own.pointers j ≡ true) → new_value kept more j v ≡ new_value kept own j v)
      (changed : (v : Value) → is_among own.pointers place ≡ false → value_as kept p c (new_value kept own place v) ≡ new_value kept more place v)
      (put : free ≡ true → (v : Value) → slice_get values (place - 1) ≡ Some v → new ≡ set values (place - 1) (value_as kept p c v))
      (stay : free ≡ false → new ≡ values) where
    value_next : new ≡ map (as_kept kept more) (enumerate_from 1 olds)
    value_next = by_test free refl
      where
        by_test : (b : Bool) → free ≡ b → new ≡ map (as_kept kept more) (enumerate_from 1 olds)
        by_test false t =
            stay t
            ∙ (h.are ∙ sym (same_values (as_kept kept own) (as_kept kept more) 1 olds
            (λ j v le lt. same j v (closed_place marks own.pointers (length olds) place j h.marked (sym is ∙ t) le lt))))
        by_test true t =
            let o = open_place marks own.pointers (length olds) place h.marked (sym is ∙ t) in
            let q = some_at olds o.i o.within in
            let n : place ≡ 1 + o.i = omega (arith, o.is) in
            let now : slice_get values o.i ≡ Some (new_value kept own place q.0) =
            ap (λ (vs : List Value). slice_get vs o.i) h.are ∙ value_now (as_kept kept own) 1 o.i place olds q.0 q.1 n in
            let i : o.i ≡ place - 1 = omega (arith, o.is) in
            put t (new_value kept own place q.0) (subst (λ (j : ℕ). slice_get values j ≡ Some (new_value kept own place q.0)) i now)
            ∙ (ap (λ (j : ℕ). set values j (value_as kept p c (new_value kept own place q.0))) (sym i)
            ∙ (ap (λ (v : Value). set values o.i v) (changed q.0 o.other)
            ∙ (ap (λ (vs : List Value). set vs o.i (new_value kept more place q.0)) h.are
            ∙ sym (set_value (as_kept kept own) (as_kept kept more) 1 o.i place olds q.0 q.1 n
            (λ j w other. same j w (λ e. absurd (other (sym e))))))))

renamed_next : (kept : List ℕ) (own : Own) (olds : List Value) (marks new_marks : List Bool) (values new : List Value) (place : ℕ) (free : Bool)
    → own.cut ≡ [] → free ≡ is_open marks place → new_marks ≡ with_mark marks place
    → (free ≡ true → (v : Value) → slice_get values (place - 1) ≡ Some v → new ≡ set values (place - 1) (value_as kept true false v))
    → (free ≡ false → new ≡ values)
    → AreRenewed kept own olds marks values → AreRenewed kept (with_pointer own place) olds new_marks new
renamed_next kept own olds marks new_marks values new place free ec is em put stay h = record {
  marked = mark_more marks new_marks own.pointers (length olds) place em h.marked;
  are = value_next kept own olds marks values new place h true false (with_pointer own place) free is
      (λ j v other. value_alike kept (with_pointer own place) own j v (among_other own.pointers place j other) refl)
      (λ v other. value_renamed kept own place v ec other) put stay;
}

cut_next : (kept : List ℕ) (own : Own) (olds : List Value) (marks : List Bool) (values new : List Value) (place : ℕ) (free : Bool)
    → free ≡ is_open marks place
    → (free ≡ true → (v : Value) → slice_get values (place - 1) ≡ Some v → new ≡ set values (place - 1) (value_as kept false true v))
    → (free ≡ false → new ≡ values)
    → AreRenewed kept own olds marks values → AreRenewed kept (with_cut own place) olds marks new
cut_next kept own olds marks values new place free is put stay h = record {
  marked = h.marked;
  are = value_next kept own olds marks values new place h false true (with_cut own place) free is
      (λ j v other. by_place j v other (place == j) refl) (λ v other. value_cut kept own place v other) put stay;
}
  where
    by_place : (j : ℕ) (v : Value) → (place ≡ j → is_among own.pointers j ≡ true) → (b : Bool) → (place == j) ≡ b
        → new_value kept (with_cut own place) j v ≡ new_value kept own j v
    by_place j v other false t =
        value_alike kept (with_cut own place) own j v refl (among_push own.cut place j ∙ (ap (λ (b : Bool). is_among own.cut j || b) t ∙ or-false (is_among own.cut j)))
    by_place j v other true t =
        let pointer : true ≡ is_among own.pointers j = sym (other (eqb-true place j t)) in
        sym (value_is kept (with_cut own place) j true (is_among (own.cut ++ place ∷ []) j) v pointer refl)
        ∙ (pointed kept (is_among (own.cut ++ place ∷ []) j) (is_among own.cut j) v ∙ value_is kept own j true (is_among own.cut j) v pointer refl)

-- a place that is renewed, and one that is passed over
pub renamed_open : (kept : List ℕ) (own : Own) (olds : List Value) (marks new_marks : List Bool) (values new : List Value) (place : ℕ) → own.cut ≡ []
    → is_open marks place ≡ true → new_marks ≡ with_mark marks place
    → ((v : Value) → slice_get values (place - 1) ≡ Some v → new ≡ set values (place - 1) (value_as kept true false v))
    → AreRenewed kept own olds marks values → AreRenewed kept (with_pointer own place) olds new_marks new
renamed_open kept own olds marks new_marks values new place ec is em put h =
    renamed_next kept own olds marks new_marks values new place true ec (sym is) em (λ t. put) (λ t. absurd (true≢false t)) h

pub renamed_closed : (kept : List ℕ) (own : Own) (olds : List Value) (marks new_marks : List Bool) (values : List Value) (place : ℕ) → own.cut ≡ []
    → is_open marks place ≡ false → new_marks ≡ with_mark marks place
    → AreRenewed kept own olds marks values → AreRenewed kept (with_pointer own place) olds new_marks values
renamed_closed kept own olds marks new_marks values place ec is em h =
    renamed_next kept own olds marks new_marks values values place false ec (sym is) em (λ t v at. absurd (true≢false (sym t))) (λ t. refl) h

pub cut_open : (kept : List ℕ) (own : Own) (olds : List Value) (marks : List Bool) (values new : List Value) (place : ℕ) → is_open marks place ≡ true
    → ((v : Value) → slice_get values (place - 1) ≡ Some v → new ≡ set values (place - 1) (value_as kept false true v))
    → AreRenewed kept own olds marks values → AreRenewed kept (with_cut own place) olds marks new
cut_open kept own olds marks values new place is put h = cut_next kept own olds marks values new place true (sym is) (λ t. put) (λ t. absurd (true≢false t)) h

pub cut_closed : (kept : List ℕ) (own : Own) (olds : List Value) (marks : List Bool) (values : List Value) (place : ℕ) → is_open marks place ≡ false
    → AreRenewed kept own olds marks values → AreRenewed kept (with_cut own place) olds marks values
cut_closed kept own olds marks values place is h =
    cut_next kept own olds marks values values place false (sym is) (λ t v at. absurd (true≢false (sym t))) (λ t. refl) h

pub none_renewed : (kept : List ℕ) (count : ℕ) (olds : List Value) (marks : List Bool) → AreMarkedPlaces marks [] (length olds)
    → AreRenewed kept (record { count = count; pointers = []; cut = [] }) olds marks olds
none_renewed kept count olds marks h = record { marked = h; are = sym (all_plain kept (record { count = count; pointers = []; cut = [] }) 1 olds refl refl) }

-- ---- how many they are

pub names_few : (f : Contents) (vs : List Value) → length (filter (is_name f) (filter_map number_of vs)) ≤ length vs
names_few f vs = omega (
  arith,
  length-filter (is_name f) (filter_map number_of vs),
  count_by-le-length (is_name f) (filter_map number_of vs),
  filter_map_few
      number_of vs,
)

pub names_within : (f : Contents) (vs : List Value) (n b : ℕ) → length vs ≤ 164000000 → length (filter (is_name f) (filter_map number_of (take n (drop b vs))))
    ≤ 164000000
names_within f vs n b few = omega (arith, names_few f (take n (drop b vs)), length-take n (drop b vs), length-drop b vs, few)

behind_few : (names : List Value) (room : ℕ) → (0 < length names → length names + 2 ≤ room) → length (names_behind names) ≤ room
behind_few [] room h = omega arith
behind_few (v ∷ names) room h =
    let some : (length (v ∷ names) == 0) ≡ false = ne_eqb (suc (length names)) 0 (λ e. omega (arith, e)) in
    let is : names_behind (v ∷ names) ≡ value.Int (pos 0) ∷ value.Int (pos (length (v ∷ names))) ∷ v ∷ names =
    cond-false (length (v ∷ names) == 0) [] (value.Int (pos 0) ∷ value.Int (pos (length (v ∷ names))) ∷ v ∷ names) some in
    let room_for : length (v ∷ names) + 2 ≤ room = h (omega arith) in
    omega (arith, ap length is, room_for)

pointers_few : (vs : List Value) (own n k : ℕ) → 0 < length (take k (drop 1 (drop n (drop 1 (drop own vs)))))
    → length (take k (drop 1 (drop n (drop 1 (drop own vs))))) + 2 + own ≤ length vs
pointers_few vs own n k some =
    omega (
      arith,
      some,
      length-take k (drop 1 (drop n (drop 1 (drop own vs)))),
      length-drop 1 (drop n (drop 1 (drop own vs))),
      length-drop n
          (drop 1 (drop own vs)),
      length-drop 1 (drop own vs),
      length-drop own vs,
    )

pub second_few : (own : Own) (vs : List Value) → 0 < length (second_group own vs).pointers → length (second_group own vs).pointers + 2 + own.count ≤ length vs
second_few own vs some = pointers_few vs own.count (unwrap_or (count_of (first_group own vs).count) 0) (unwrap_or (count_of (second_group own vs).count) 0) some

module _ (f : Contents) (kept : List ℕ) (r : Record) where
  abbrev pub values_of_own : Option Own → List Value
  values_of_own o =
      elim o as (λ _. List Value) [ Some own ↦ map (λ (v : ℕ × Value). new_value kept own v.0 v.1) (enumerate_from 1 (take own.count r.1)) | None ↦ [] ]
      ++ names_behind (new_numbers kept
      (elim o as (λ _. List ℤ) [ Some own ↦ filter (is_name f) (filter_map number_of (second_group own r.1).pointers) | None ↦ [] ]))

  few_of_own : (o : Option Own) → length (values_of_own o) ≤ length r.1
  few_of_own None = omega arith
  few_of_own (Some own) =
      let zs : List ℤ = filter (is_name f) (filter_map number_of (second_group own r.1).pointers) in
      let olds : List Value = map (λ (v : ℕ × Value). new_value kept own v.0 v.1) (enumerate_from 1 (take own.count r.1)) in
      let long : length (map (λ (v : ℕ × Value). new_value kept own v.0 v.1) (enumerate_from 1 (take own.count r.1))) ≡ length (take own.count r.1) =
      length-map (enumerate_from 1 (take own.count r.1)) (λ (v : ℕ × Value). new_value kept own v.0 v.1) ∙ length-enumerate_from 1 (take own.count r.1) in
      let tail : length (names_behind (new_numbers kept (filter (is_name f) (filter_map number_of (second_group own r.1).pointers))))
      ≤ length r.1 - length (take own.count r.1) =
      behind_few (new_numbers kept (filter (is_name f) (filter_map number_of (second_group own r.1).pointers))) (length r.1 - length (take own.count r.1))
      (λ some. room own (length-map (filter (is_name f) (filter_map number_of (second_group own r.1).pointers)) (λ (z : ℤ). value.Int (renamed kept z))) some)
      in
      omega (
        arith,
        long,
        tail,
        length-take own.count r.1,
        length-append (map (λ (v : ℕ × Value). new_value kept own v.0 v.1) (enumerate_from 1 (take own.count r.1)))
            (names_behind (new_numbers kept (filter (is_name f) (filter_map number_of (second_group own r.1).pointers)))),
      )
    where
      room : (own : Own) {n : ℕ} → n ≡ length (filter (is_name f) (filter_map number_of (second_group own r.1).pointers)) → 0 < n
          → n + 2 ≤ length r.1 - length (take own.count r.1)
      room own e some =
          let few : length (filter (is_name f) (filter_map number_of (second_group own r.1).pointers)) ≤ length (second_group own r.1).pointers =
          names_few f (second_group own r.1).pointers in
          omega (arith, e, some, few, second_few own r.1 (omega (arith, e, some, few)), length-take own.count r.1)

  pub values_few : length (new_values f kept r) ≤ length r.1
  values_few = few_of_own (own_of r)

-- ---- by the shape of the record

pub values_are : (f : Contents) (kept : List ℕ) (r : Record) (own : Own) (g : Between) → HasShape r own g
    → map (λ (v : ℕ × Value). new_value kept own v.0 v.1) (enumerate_from 1 (take own.count r.1))
    ++ names_behind (new_numbers kept (filter (is_name f) (filter_map number_of (take g.count (drop g.before r.1))))) ≡ new_values f kept r
values_are f kept r own g h =
    let names : filter (is_name f) (filter_map number_of (take g.count (drop g.before r.1))) ≡ names_of f r =
    sym (ap (λ (o : Option Own). elim o as (λ _. List ℤ) [ Some own ↦ filter (is_name f) (filter_map number_of (second_group own r.1).pointers) | None ↦ [] ])
    h.own_values
    ∙ ap (λ (s : Group). filter (is_name f) (filter_map number_of s.pointers)) h.second) in
    ap (λ (zs : List ℤ). map (λ (v : ℕ × Value). new_value kept own v.0 v.1) (enumerate_from 1 (take own.count r.1)) ++ names_behind (new_numbers kept zs))
    names
    ∙ sym (ap (λ (o : Option Own). elim o as (λ _. List Value)
    [ Some own ↦ map (λ (v : ℕ × Value). new_value kept own v.0 v.1) (enumerate_from 1 (take own.count r.1)) | None ↦ [] ]
    ++ names_behind (new_numbers kept (names_of f r))) h.own_values)
