-- A solid of a file has few parts.
use Rattle.std.specs.Prelude.{◌≡◌, ℕ, zero, suc, ◌+◌, ◌*◌, ◌/◌, ◌%◌, ◌<◌, ◌≤◌, ◌==◌, IsSome, IsSomeAnd, nat_abs, Bool, true, false, ℤ, pos, negsuc, List, []}
use Rattle.std.specs.Prelude.{◌∷◌, ◌++◌, length, map, flat_map, drop, sum_by, Option, Some, None, slice_get, if◌then◌else◌}
use Rattle.std.specs.Ordering.{int_eq}
use Rattle.std.specs.List.{enumerate_from}
use Rattle.std.proofs.Common.{refl, sym, ◌∙◌, ap, subst, arith, inl, inr, length-append, length-drop, get_or}
use Rattle.std.proofs.lemmas.List.{length-map}
use Rattle.std.proofs.lemmas.Bool.{eqb-true}
use Rattle.std.proofs.Math.Nat.{div-add-mod}
use Rattle.std.proofs.lemmas.List.FromFn.{length-enumerate_from}
use Rattle.std.proofs.lemmas.Option.{slice_get_within}
use Rattle.iges_fields.specs.declared.value.Value.{Value}
use Rattle.iges_directory.specs.declared.entry.Entry.{Entry}
use Rattle.iges_params.specs.Contents.{Contents}
use Rattle.iges_params.specs.Named.{kind_of, named, record_values, values_of}
use Rattle.iges_directory.specs.Named.{unless_unused}
use Rattle.brep_lists.specs.DueValues.{MeetsAll}
use Rattle.brep_lists.specs.Record.{LoopTuple, tuple_due, items_of, IsRecordOf}
use Rattle.brep_lists.specs.declared.entity_kind.EntityKind.TheVariants.{Loop as «loop»}
use Rattle.brep_lists.proofs.OnlyRead.{missing, curves_only}
use Rattle.solid_data.specs.Obligations.{AllHold}
use Rattle.brep_walk.specs.Places.{HasRecordOf, Names, shells, faces, loops, tuples, numbers, loop_places, places}
use Rattle.solid_data.proofs.Members.{from_enumerated, from_flat_map, has_map, Has, has_left, NoRepeat, total, fold-total}
use Rattle.brep_walk.specs.SolidOf.{use_by, solid_of, tuples_in, keys_in, solid_listing}
use Rattle.solid_data.specs.SolidData.{SolidData, PlacedLoop, placed_in_face, placed_loops, shell_uses}
use Rattle.solid_data.specs.declared.solid.FaceUse.{FaceUse}
use Rattle.solid_data.specs.declared.solid.Shell.{Shell}
use Rattle.iges_params.specs.Limits.{FitsLimits}
use Rattle.solid_data.specs.Numbering.{HasFewParts}
use Rattle.brep_walk.proofs.Numbered.{uses_listed, flat_flat}
use Rattle.brep_walk.proofs.Found.{AreListed, listed_solid, shells_listed, solid_lists, loops_hold, loop_record}
use Rattle.brep_walk.proofs.Fresh.{Fresh, faces_in, loops_fresh}

-- tuples are no more than values
tuples_size : (ts : List LoopTuple) (vs : List Value) → MeetsAll (flat_map tuple_due ts) vs → length ts ≤ length vs
tuples_size [] vs h = omega arith
tuples_size (t ∷ ts) [] h = absurd h
tuples_size (t ∷ ts) (a ∷ []) h = absurd h.1
tuples_size (t ∷ ts) (a ∷ b ∷ []) h = absurd h.1.1
tuples_size (t ∷ ts) (a ∷ b ∷ c ∷ []) h = absurd h.1.1.1
tuples_size (t ∷ ts) (a ∷ b ∷ c ∷ d ∷ []) h = let e : length ts ≡ 0 = ap (λ us. length us) (missing t.curves ts h.1.1.1.1).1 in omega (arith, e)
tuples_size (t ∷ ts) (a ∷ b ∷ c ∷ d ∷ k ∷ vs) h =
    let rest = curves_only t.curves (flat_map tuple_due ts) vs h.1.1.1.1.1 in
    omega (arith, tuples_size ts (drop (2 * length t.curves) vs) rest.1, length-drop (2 * length t.curves) vs)

record_size : (vs : List Value) → IsRecordOf «loop» vs → length (items_of «loop» vs) ≤ length vs
record_size [] h = absurd h
record_size (v ∷ vs) h = omega (arith, tuples_size (items_of «loop» (v ∷ vs)) vs h.1)

loop_size : (f : Contents) (l : ℤ) → HasRecordOf «loop» f l → length (tuples f l) ≤ length (values_of f l)
loop_size f l h = by_entry (named f l) h
  where
    by_entry : (o : Option (Entry × List Value)) → IsSomeAnd o (λ e. IsRecordOf «loop» e.1) → length (items_of «loop» (record_values o))
        ≤ length (record_values o)
    by_entry None h = absurd h
    by_entry (Some e) h = record_size e.1 h

-- A sum over different places of a list is at most the sum over the list.

abbrev taken : List ℕ → List ℕ → ℕ
taken ws is = total (λ i. get_or ws i 0) is

-- the places behind the first, counted from there
abbrev earlier_of : List ℕ → List ℕ
earlier_of [] = []
earlier_of (zero ∷ is) = earlier_of is
earlier_of (suc i ∷ is) = i ∷ earlier_of is

pub earlier_has : (is : List ℕ) (i : ℕ) → Has (earlier_of is) i → Has is (suc i)
earlier_has [] i h = absurd h
earlier_has (zero ∷ is) i h = inr (earlier_has is i h)
earlier_has (suc j ∷ is) i (inl e) = inl (ap suc e)
earlier_has (suc j ∷ is) i (inr h) = inr (earlier_has is i h)

pub earlier_none : (is : List ℕ) → NoRepeat is → NoRepeat (earlier_of is)
earlier_none [] h = tt
earlier_none (zero ∷ is) h = earlier_none is h.1
earlier_none (suc i ∷ is) h = ((λ m. h.0 (earlier_has is i m)), earlier_none is h.1)

-- without the first place
pub taken_later : (w : ℕ) (ws is : List ℕ) → (Has is 0 → ⊥) → taken (w ∷ ws) is ≡ taken ws (earlier_of is)
taken_later w ws [] h = refl
taken_later w ws (zero ∷ is) h = absurd (h (inl refl))
taken_later w ws (suc i ∷ is) h = omega (arith, taken_later w ws is (λ m. h (inr m)))

pub taken_step : (w : ℕ) (ws is : List ℕ) → NoRepeat is → taken (w ∷ ws) is ≤ w + taken ws (earlier_of is)
taken_step w ws [] h = omega arith
taken_step w ws (zero ∷ is) h = omega (arith, taken_later w ws is h.0)
taken_step w ws (suc i ∷ is) h = omega (arith, taken_step w ws is h.1)

pub taken_none : (is : List ℕ) → taken [] is ≡ 0
taken_none [] = refl
taken_none (zero ∷ is) = omega (arith, taken_none is)
taken_none (suc i ∷ is) = omega (arith, taken_none is)

pub taken_most : (ws is : List ℕ) → NoRepeat is → taken ws is ≤ total (λ w. w) ws
taken_most [] is h = let e = taken_none is in omega (arith, e)
taken_most (w ∷ ws) is h = omega (arith, taken_step w ws is h, taken_most ws (earlier_of is) (earlier_none is h))

-- Where an entry's number leads.

abbrev place_of_number : ℤ → ℕ
place_of_number (pos n) = n / 2
place_of_number (negsuc n) = 0

abbrev sizes : Contents → List ℕ
sizes f = map (λ (e : Entry × List Value). length e.1) f.entries

size_at : (es : List (Entry × List Value)) (k : ℕ) (e : Entry × List Value) → slice_get es k ≡ Some e
    → get_or (map (λ (x : Entry × List Value). length x.1) es) k 0 ≡ length e.1
size_at [] k e h = absurd (let g : None ≡ Some e = h in cc)
size_at (x ∷ es) zero e h = ap (λ o. length (record_values o)) h
size_at (x ∷ es) (suc k) e h = size_at es k e h

-- a number that names an entry is odd, and that entry stands at half of it
pub record IsNamed (f : Contents) (z : ℤ) : Type 0 where
  pub number : ℕ
  pub is : z ≡ pos number
  pub odd : number % 2 ≡ 1
  pub entry : Entry × List Value
  pub there : slice_get f.entries (number / 2) ≡ Some entry
  pub size : length (values_of f z) ≡ length entry.1

pub name_parts : (f : Contents) (z : ℤ) → Names f z → IsNamed f z
name_parts f (negsuc n) h = absurd (let g : false ≡ true = h in cc)
name_parts f (pos n) h = by_test (n % 2 == 1) refl (slice_get f.entries (n / 2)) refl h
  where
    test_entry : (e : Entry × List Value) (b : Bool) → int_eq e.0.kind (pos 0) ≡ b → IsSome (if b then None else Some e)
        → length (record_values (if b then None else Some e)) ≡ length e.1
    test_entry e true k h = absurd (let g : false ≡ true = h in cc)
    test_entry e false k h = refl

    by_test : (b : Bool) → (n % 2 == 1) ≡ b → (o : Option (Entry × List Value)) → slice_get f.entries (n / 2) ≡ o
        → IsSome (if n % 2 == 1 then unless_unused kind_of (slice_get f.entries (n / 2)) else None) → IsNamed f (pos n)
    by_test false t o at h =
        absurd (let g : false ≡ true = subst (λ b. IsSome (if b then unless_unused kind_of (slice_get f.entries (n / 2)) else None)) t h in cc)
    by_test true t None at h =
        absurd (let g : false ≡ true = subst (λ b. IsSome (if b then unless_unused kind_of None else None)) t
        (subst (λ o. IsSome (if n % 2 == 1 then unless_unused kind_of o else None)) at h) in cc)
    by_test true t (Some e) at h =
        let there : IsSome (unless_unused kind_of (Some e)) = subst (λ b. IsSome (if b then unless_unused kind_of (Some e) else None)) t
        (subst (λ o. IsSome (if n % 2 == 1 then unless_unused kind_of o else None)) at h) in
        record {
          number = n;
          is = refl;
          odd = eqb-true (n % 2) 1 t;
          entry = e;
          there = at;
          size = ap (λ b. length (record_values (if b then unless_unused kind_of (slice_get f.entries (n / 2)) else None))) t
              ∙ (ap (λ o. length (record_values (unless_unused kind_of o))) at ∙ test_entry e (int_eq e.0.kind (pos 0)) refl there);
        }

-- All uses together are no more than all values.

pub loop_name : (f : Contents) (c : ℤ) (v d : List ℤ) (l : ℤ) → AllHold (loop_places f c v d l) → Names f l
unfolding loop_places
loop_name f c v d l all = all.0

loops_known : (f : Contents) (items : List (ℤ × Bool)) → AreListed f items → (l : ℤ) → Has (flat_map (loops f) (faces_in f items)) l
    → Names f l × HasRecordOf «loop» f l
loops_known f items held l here =
    let c = from_flat_map (loops f) (faces_in f items) l here in
    let s = from_flat_map (λ s. numbers (faces f s)) (numbers items) c.0 c.1 in
    let item = has_map (λ (i : ℤ × Bool). i.0) items s.0 s.1 in
    let face_item = has_map (λ (i : ℤ × Bool). i.0) (faces f s.0) c.0 s.2 in
    let a = held item.0 item.1 in
    let in_shell : Has (faces f item.0.0) face_item.0 = subst (λ z. Has (faces f z) face_item.0) (sym item.2) face_item.1 in
    let b = a.1 face_item.0 in_shell in
    let in_face : Has (loops f face_item.0.0) l = subst (λ z. Has (loops f z) l) (sym face_item.2) c.2 in
    let d = loops_hold f item.0.0 b.0 b.1 face_item.0 b.2 l in_face in
    (loop_name f face_item.0.0 d.0 d.1 l d.2, loop_record f face_item.0.0 d.0 d.1 l d.2)

has_last : {A : Type 0} (xs : List A) (x : A) → Has (xs ++ x ∷ []) x
has_last [] x = inl refl
has_last (z ∷ xs) x = inr (has_last xs x)

pub fresh_apart : (e xs : List ℤ) (y : ℤ) → Fresh e xs → Has xs y → Has e y → ⊥
fresh_apart e [] y f h k = h
fresh_apart e (x ∷ xs) y f (inl same) k = f.0 (subst (Has e) (sym same) k)
fresh_apart e (x ∷ xs) y f (inr h) k = fresh_apart (e ++ x ∷ []) xs y f.1 h (has_left e (x ∷ []) y k)

pub same_number : (f : Contents) (x y : ℤ) → IsNamed f x → IsNamed f y → place_of_number x ≡ place_of_number y → x ≡ y
same_number f x y a b h =
    let at : a.number / 2 ≡ b.number / 2 = sym (ap place_of_number a.is) ∙ (h ∙ ap place_of_number b.is) in
    let m : a.number ≡ b.number = omega (arith, div-add-mod a.number 2, div-add-mod b.number 2, a.odd, b.odd, at) in
    a.is ∙ (ap pos m ∙ sym b.is)

places_differ : (f : Contents) (e xs : List ℤ) → Fresh e xs → ((x : ℤ) → Has xs x → IsNamed f x) → NoRepeat (map place_of_number xs)
places_differ f e [] fresh named_all = tt
places_differ f e (x ∷ xs) fresh named_all = (
  (λ h. let k = has_map place_of_number xs (place_of_number x) h in
      let same : k.0 ≡ x = same_number f k.0 x (named_all k.0 (inr k.1)) (named_all x (inl refl)) k.2 in
      fresh_apart (e ++ x ∷ []) xs x fresh.1 (subst (Has xs) same k.1) (has_last e x)),
  places_differ f (e ++ x ∷ []) xs fresh.1 (λ y m. named_all y (inr m)),
)

tuples_total : (f : Contents) (ls : List ℤ) → ((l : ℤ) → Has ls l → IsNamed f l × HasRecordOf «loop» f l)
    → length (flat_map (tuples f) ls) ≤ taken (sizes f) (map place_of_number ls)
tuples_total f [] h = omega arith
tuples_total f (l ∷ ls) h =
    let k = h l (inl refl) in
    let at : get_or (sizes f) (place_of_number l) 0 ≡ length (values_of f l) = ap (λ z. get_or (sizes f) (place_of_number z) 0) k.0.is
    ∙ (size_at f.entries (k.0.number / 2) k.0.entry k.0.there ∙ sym k.0.size) in
    omega (arith, length-append (tuples f l) (flat_map (tuples f) ls), loop_size f l k.1, at, tuples_total f ls (λ z m. h z (inr m)))

sizes_total : (es : List (Entry × List Value)) → total (λ w. w) (map (λ (e : Entry × List Value). length e.1) es)
    ≡ total (λ (e : Entry × List Value). length e.1) es
sizes_total [] = refl
sizes_total (e ∷ es) = omega (arith, sizes_total es)

tuples_few : (f : Contents) (items : List (ℤ × Bool)) → AreListed f items → Fresh [] (flat_map (loops f) (faces_in f items))
    → length (tuples_in f items) ≤ sum_by (λ (e : Entry × List Value). length e.1) f.entries
tuples_few f items held fresh =
    let ls : List ℤ = flat_map (loops f) (faces_in f items) in
    let known : (l : ℤ) → Has ls l → IsNamed f l × HasRecordOf «loop» f l = λ l m. let k = loops_known f items held l m in (name_parts f l k.0, k.1) in
    let differ : NoRepeat (map place_of_number ls) = places_differ f [] ls fresh (λ l m. (known l m).0) in
    omega (
      arith,
      tuples_total f ls known,
      taken_most (sizes f) (map place_of_number ls) differ,
      sizes_total f.entries,
      fold-total
          (λ (e : Entry × List Value). length e.1) 0 f.entries,
    )

-- Loops are no more than uses, faces than loops, and shells than faces.

pub each_some : {A B : Type 0} (g : A → List B) (xs : List A) → ((x : A) → Has xs x → 0 < length (g x)) → length xs ≤ length (flat_map g xs)
each_some g [] h = omega arith
each_some g (x ∷ xs) h = omega (arith, length-append (g x) (flat_map g xs), h x (inl refl), each_some g xs (λ y m. h y (inr m)))

-- each face has a placed loop
placed_some : (flag : Bool) (base : ℕ) (fs : List FaceUse) → ((c : FaceUse) → Has fs c → 0 < length c.loops)
    → length fs ≤ length (flat_map (placed_in_face flag) (enumerate_from base fs))
placed_some flag base [] h = omega arith
placed_some flag base (c ∷ fs) h =
    let mine : length (placed_in_face flag (base, c)) ≡ length c.loops = length-map (enumerate_from 0 c.loops) _ ∙ length-enumerate_from 0 c.loops in
    omega (
      arith,
      length-append (placed_in_face flag (base, c)) (flat_map (placed_in_face flag) (enumerate_from (base + 1) fs)),
      mine,
      h c (inl refl),
      placed_some flag (base + 1) fs (λ d m. h d (inr m)),
    )

more_each : {A B C : Type 0} (g : A → List B) (h : A → List C) (xs : List A) → ((x : A) → Has xs x → length (g x) ≤ length (h x))
    → length (flat_map g xs) ≤ length (flat_map h xs)
more_each g h [] e = omega arith
more_each g h (x ∷ xs) e =
    omega (arith, length-append (g x) (flat_map g xs), length-append (h x) (flat_map h xs), e x (inl refl), more_each g h xs (λ y m. e y (inr m)))

solid_name : (f : Contents) (n : ℕ) → AllHold (places f n) → Names f (pos n)
unfolding places
solid_name f n all = all.0

-- A solid of listed shells has few parts, where the file is within its limits and no loop is listed twice.
pub listing_has_few_parts : (f : Contents) (n : ℕ) (items : List (ℤ × Bool)) → FitsLimits f → Names f (pos n) → AreListed f items
    → Fresh [] (flat_map (loops f) (faces_in f items)) → HasFewParts (solid_listing f n items) n
listing_has_few_parts f n items limits here held fresh =
    let s : SolidData = solid_listing f n items in
    let name : IsNamed f (pos n) = name_parts f (pos n) here in
    let number : name.number ≡ n = ap nat_abs (sym name.is) in
    let uses : length (flat_map shell_uses s.shells) ≡ length (tuples_in f items) = ap (λ us. length us) (uses_listed f n items)
    ∙ length-map (tuples_in f items) (use_by (keys_in f items)) in
    let placed : length (flat_map (λ (p : PlacedLoop). p.loop.uses) (flat_map placed_loops s.shells)) ≡ length (flat_map shell_uses s.shells) =
    ap (λ us. length us) (sym (flat_flat placed_loops (λ (p : PlacedLoop). p.loop.uses) s.shells)) in
    let a : length (flat_map placed_loops s.shells) ≤ length (flat_map (λ (p : PlacedLoop). p.loop.uses) (flat_map placed_loops s.shells)) =
    each_some (λ (p : PlacedLoop). p.loop.uses) (flat_map placed_loops s.shells) (λ p m.
    let h = from_flat_map placed_loops s.shells p m in
    let g = from_flat_map (placed_in_face h.0.flag) (enumerate_from 0 h.0.faces) p h.2 in
    let k = has_map _ (enumerate_from 0 g.0.1.loops) p g.2 in
    let c = (shells_listed f n items held h.0 h.1).4 g.0.1 (from_enumerated 0 h.0.faces g.0 g.1) in
    subst (λ (q : PlacedLoop). 0 < length q.loop.uses) k.2 (c.3 k.0.1 (from_enumerated 0 g.0.1.loops k.0 k.1))) in
    let b : length (flat_map (λ (h : Shell). h.faces) s.shells) ≤ length (flat_map placed_loops s.shells) =
    more_each (λ (h : Shell). h.faces) placed_loops s.shells (λ h m. placed_some h.flag 0 h.faces (λ c k. ((shells_listed f n items held h m).4 c k).2))
    in
    let c : length s.shells ≤ length (flat_map (λ (h : Shell). h.faces) s.shells) =
    each_some (λ (h : Shell). h.faces) s.shells (λ h m. (shells_listed f n items held h m).3) in
    let few = tuples_few f items held fresh in
    let most : sum_by (λ (e : Entry × List Value). length e.1) f.entries ≤ 164000000 = limits.values in
    let low = slice_get_within f.entries (name.number / 2) name.entry name.there in
    record {
      few_uses = omega (arith, uses, few, most);
      few_loops = omega (arith, uses, few, most, placed, a);
      few_faces = omega (arith, uses, few, most, placed, a, b);
      few_shells = omega (arith, uses, few, most, placed, a, b, c);
      number = omega (arith, low, limits.entries, div-add-mod name.number 2, name.odd, number);
    }

-- A solid of a file within its limits has few parts.
pub has_few_parts : (f : Contents) (n : ℕ) → FitsLimits f → AllHold (places f n) → HasFewParts (solid_of f n) n
has_few_parts f n limits all =
    subst (λ s. HasFewParts s n) (sym (solid_lists f n))
    (listing_has_few_parts f n (shells f (pos n)) limits (solid_name f n all) (listed_solid f n all) (loops_fresh f n all))
