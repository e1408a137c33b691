-- What the loops of a solid take of a file's bytes.
use Rattle.std.specs.Prelude.{◌≡◌, ℕ, zero, suc, ◌+◌, ◌*◌, ◌/◌, ◌%◌, ◌<◌, ◌≤◌, ◌==◌, IsSomeAnd, if◌then◌else◌, Bool, true, false, ℤ, pos, negsuc, List, [], ◌∷◌}
use Rattle.std.specs.Prelude.{◌++◌, length, map, flat_map, drop, Option, Some, None, slice_get}
use Rattle.std.specs.Ordering.{int_eq}
use Rattle.std.proofs.Common.{refl, sym, ◌∙◌, ap, subst, arith, inl, inr, length-append, get_or}
use Rattle.std.proofs.lemmas.Grind.{flat_map-append}
use Rattle.std.proofs.lemmas.List.{length-map}
use Rattle.std.proofs.lemmas.Option.{same_Some}
use Rattle.std.proofs.Math.Nat.{div-add-mod}
use Rattle.iges_fields.specs.declared.value.Value.{Value}
use Rattle.iges_fields.specs.declared.value.Value.TheVariants.{Int}
use Rattle.iges_directory.specs.declared.entry.Entry.{Entry}
use Rattle.iges_params.specs.Contents.{Contents}
use Rattle.iges_directory.specs.Named.{unless_unused}
use Rattle.iges_params.specs.Named.{kind_of, named, record_values, values_of}
use Rattle.brep_lists.specs.DueValues.{MeetsAll}
use Rattle.brep_lists.specs.Record.{LoopTuple, tuple_due, items_of, IsRecordOf}
use Rattle.brep_lists.specs.declared.entity_kind.EntityKind.TheVariants.{Loop as «loop»}
use Rattle.brep_lists.proofs.OnlyRead.{missing, curves_only}
use Rattle.solid_data.specs.Obligations.{AllHold}
use Rattle.solid_data.specs.SolidData.{shell_uses}
use Rattle.solid_data.specs.declared.solid.FaceUse.{FaceUse}
use Rattle.solid_data.specs.declared.solid.Shell.{Shell}
use Rattle.solid_data.proofs.Members.{from_flat_map, has_map, Has, has_left, NoRepeat, total}
use Rattle.brep_walk.specs.Places.{HasRecordOf, Names, shells, faces, loops, tuples, numbers, loop_places, places}
use Rattle.brep_numbering.specs.Keys.{Keys}
use Rattle.brep_walk.specs.SolidOf.{all_tuples, use_of, loop_by, face_by, shell_by, keys_of, solid_of}
use Rattle.brep_walk.proofs.Numbered.{all_uses}
use Rattle.brep_walk.proofs.Found.{shells_of, shells_hold, faces_hold, loops_hold, loop_record}
use Rattle.brep_walk.proofs.Fresh.{Fresh, loops_fresh}
use Rattle.brep_walk.proofs.Few.{IsNamed, name_parts, each_some, earlier_has, earlier_none, taken_later, taken_step, taken_none, taken_most, loop_name, fresh_apart, same_number}
use Rattle.cert_accept.proofs.Bytes.{value_room, values_room, entry_room}
use Rattle.cert_accept.proofs.Lines.{face_total}

-- ---- the record of a loop

drop_room : (k : ℕ) (vs : List Value) → values_room (drop k vs) ≤ values_room vs
drop_room zero vs = omega arith
drop_room (suc k) [] = omega arith
drop_room (suc k) (v ∷ vs) = omega (arith, drop_room k vs)

int_room : (z : ℤ) (v : Value) → v ≡ Int z → value_room v ≡ 2
int_room z v is = ap value_room is

-- Four of the values of a tuple are integers.
tuples_room : (ts : List LoopTuple) (vs : List Value) → MeetsAll (flat_map tuple_due ts) vs → 8 * length ts ≤ values_room vs
tuples_room [] vs h = omega arith
tuples_room (t ∷ ts) [] h = absurd h
tuples_room (t ∷ ts) (a ∷ []) h = absurd h.1
tuples_room (t ∷ ts) (a ∷ b ∷ []) h = absurd h.1.1
tuples_room (t ∷ ts) (a ∷ b ∷ c ∷ []) h = absurd h.1.1.1
tuples_room (t ∷ ts) (a ∷ b ∷ c ∷ d ∷ []) h =
    let last : length ts ≡ 0 = ap (λ us. length us) (missing t.curves ts h.1.1.1.1).1 in
    omega (arith, last, int_room _ a h.0, int_room _ b h.1.0, int_room _ c h.1.1.0, int_room _ d h.1.1.1.0)
tuples_room (t ∷ ts) (a ∷ b ∷ c ∷ d ∷ k ∷ vs) h =
    let rest = curves_only t.curves (flat_map tuple_due ts) vs h.1.1.1.1.1 in
    omega (
      arith,
      int_room _ a h.0,
      int_room _ b h.1.0,
      int_room _ c h.1.1.0,
      int_room _ d h.1.1.1.0,
      tuples_room ts (drop (2 * length t.curves) vs) rest.1,
      drop_room (2 * length t.curves) vs,
    )

record_room : (vs : List Value) → IsRecordOf «loop» vs → 8 * length (items_of «loop» vs) ≤ values_room vs
record_room [] h = absurd h
record_room (v ∷ vs) h = omega (arith, tuples_room (items_of «loop» (v ∷ vs)) vs h.1)

loop_room : (f : Contents) (l : ℤ) → HasRecordOf «loop» f l → 8 * length (tuples f l) ≤ values_room (values_of f l)
loop_room f l h = by_entry (named f l) h
  where
    by_entry : (o : Option (Entry × List Value)) → IsSomeAnd o (λ e. IsRecordOf «loop» e.1) → 8 * length (items_of «loop» (record_values o))
        ≤ values_room (record_values o)
    by_entry None h = absurd h
    by_entry (Some e) h = record_room e.1 h

-- ---- a sum over different places of a list is at most the sum over the list

abbrev taken : List ℕ → List ℕ → ℕ
taken ws is = total (λ i. get_or ws i 0) is

-- the places behind the first, counted from there
abbrev earlier_of : List ℕ → List ℕ
earlier_of [] = []
earlier_of (zero ∷ is) = earlier_of is
earlier_of (suc i ∷ is) = i ∷ earlier_of is

-- ---- where the numbers of loops lead

-- the loops of the solid, face by face
abbrev loop_numbers : Contents → ℕ → List ℤ
loop_numbers f n = flat_map (loops f) (flat_map (λ s. numbers (faces f s)) (numbers (shells f (pos n))))

-- A loop names an entry, and its record is one of a loop.
record IsKnown (f : Contents) (l : ℤ) : Type 0 where
  name : IsNamed f l
  told : HasRecordOf «loop» f l

loops_known : (f : Contents) (n : ℕ) → AllHold (places f n) → (l : ℤ) → Has (loop_numbers f n) l → IsKnown f l
loops_known f n all l here =
    let c = from_flat_map (loops f) (flat_map (λ s. numbers (faces f s)) (numbers (shells f (pos n)))) l here in
    let s = from_flat_map (λ s. numbers (faces f s)) (numbers (shells f (pos n))) c.0 c.1 in
    let item = has_map (λ (i : ℤ × Bool). i.0) (shells f (pos n)) s.0 s.1 in
    let face_item = has_map (λ (i : ℤ × Bool). i.0) (faces f s.0) c.0 s.2 in
    let a = shells_hold f n all item.0 item.1 in
    let in_shell : Has (faces f item.0.0) face_item.0 = subst (λ z. Has (faces f z) face_item.0) (sym item.2) face_item.1 in
    let b = faces_hold f (pos n) a.0 item.0 a.1 face_item.0 in_shell in
    let in_face : Has (loops f face_item.0.0) l = subst (λ z. Has (loops f z) l) (sym face_item.2) c.2 in
    let d = loops_hold f item.0.0 b.0 b.1 face_item.0 b.2 l in_face in
    record { name = name_parts f l (loop_name f face_item.0.0 d.0 d.1 l d.2); told = loop_record f face_item.0.0 d.0 d.1 l d.2 }

abbrev place_of_number : ℤ → ℕ
place_of_number (pos n) = n / 2
place_of_number (negsuc n) = 0

has_end : {A : Type 0} (xs : List A) (x : A) → Has (xs ++ x ∷ []) x
has_end [] x = inl refl
has_end (z ∷ xs) x = inr (has_end xs x)

places_differ : (f : Contents) (e xs : List ℤ) → Fresh e xs → ((x : ℤ) → Has xs x → IsNamed f x) → NoRepeat (map place_of_number xs)
places_differ f e [] fresh named_all = tt
places_differ f e (x ∷ xs) fresh named_all = (
  (λ h. let k = has_map place_of_number xs (place_of_number x) h in
      let same : k.0 ≡ x = same_number f k.0 x (named_all k.0 (inr k.1)) (named_all x (inl refl)) k.2 in
      fresh_apart (e ++ x ∷ []) xs x fresh.1 (subst (Has xs) same k.1) (has_end e x)),
  places_differ f (e ++ x ∷ []) xs fresh.1 (λ y m. named_all y (inr m)),
)

-- ---- all loops

abbrev rooms : Contents → List ℕ
rooms f = map entry_room f.entries

room_at : (es : List (Entry × List Value)) (k : ℕ) (e : Entry × List Value) → slice_get es k ≡ Some e → get_or (map entry_room es) k 0 ≡ entry_room e
room_at [] k e h = absurd (let g : None ≡ Some e = h in cc)
room_at (x ∷ es) zero e h = ap (λ o. 160 + values_room (record_values o)) h
room_at (x ∷ es) (suc k) e h = room_at es k e h

unless_room : (unused : Bool) (e : Entry × List Value) → values_room (record_values (if unused then None else Some e)) ≤ values_room e.1
unless_room true e = omega arith
unless_room false e = omega arith

-- the values that a number leads to are those of the entry at half of it, or none
values_there : (f : Contents) (n : ℕ) (e : Entry × List Value) → slice_get f.entries (n / 2) ≡ Some e → values_room (values_of f (pos n)) ≤ values_room e.1
values_there f n e at = by_odd (n % 2 == 1) (slice_get f.entries (n / 2)) at
  where
    by_odd : (b : Bool) (o : Option (Entry × List Value)) → o ≡ Some e → values_room (record_values (if b then unless_unused kind_of o else None))
        ≤ values_room e.1
    by_odd false o h = omega arith
    by_odd true None h = absurd (let g : None ≡ Some e = h in cc)
    by_odd true (Some x) h = omega (arith, unless_room (int_eq x.0.kind (pos 0)) x, ap (λ (y : Entry × List Value). values_room y.1) (same_Some x e h))

one_loop : (f : Contents) (l : ℤ) → IsKnown f l → 160 + 8 * length (tuples f l) ≤ get_or (rooms f) (place_of_number l) 0
one_loop f l known =
    let name : IsNamed f l = known.name in
    let at : get_or (rooms f) (place_of_number l) 0 ≡ entry_room name.entry = ap (λ z. get_or (rooms f) (place_of_number z) 0) name.is
    ∙ room_at f.entries (name.number / 2) name.entry name.there in
    let values : values_room (values_of f l) ≤ values_room name.entry.1 = subst (λ z. values_room (values_of f z) ≤ values_room name.entry.1) (sym name.is)
    (values_there f name.number name.entry name.there) in
    omega (arith, at, values, loop_room f l known.told)

loops_taken : (f : Contents) (ls : List ℤ) → ((l : ℤ) → Has ls l → IsKnown f l) → 160 * length ls + 8 * length (flat_map (tuples f) ls)
    ≤ taken (rooms f) (map place_of_number ls)
loops_taken f [] h = omega arith
loops_taken f (l ∷ ls) h =
    omega (arith, length-append (tuples f l) (flat_map (tuples f) ls), one_loop f l (h l (inl refl)), loops_taken f ls (λ z m. h z (inr m)))

rooms_total : (es : List (Entry × List Value)) → total (λ w. w) (map entry_room es) ≡ total entry_room es
rooms_total [] = refl
rooms_total (e ∷ es) = omega (arith, rooms_total es)

loops_within : (f : Contents) (n : ℕ) → AllHold (places f n) → 160 * length (loop_numbers f n) + 8 * length (all_tuples f (pos n)) ≤ total entry_room f.entries
loops_within f n all =
    let ls : List ℤ = loop_numbers f n in
    let known : (l : ℤ) → Has ls l → IsKnown f l = loops_known f n all in
    let differ : NoRepeat (map place_of_number ls) = places_differ f [] ls (loops_fresh f n all) (λ l m. (known l m).name) in
    omega (arith, loops_taken f ls known, taken_most (rooms f) (map place_of_number ls) differ, rooms_total f.entries)

-- ---- the solid

abbrev faces_of : List Shell → List FaceUse
faces_of hs = flat_map (λ (h : Shell). h.faces) hs

-- how many loops the faces of the shells have
abbrev loop_total : List Shell → ℕ
loop_total hs = length (flat_map (λ (c : FaceUse). c.loops) (faces_of hs))

face_loops : (f : Contents) (keys : Keys) (cs : List (ℤ × Bool)) → length (flat_map (λ (c : FaceUse). c.loops) (map (face_by f keys) cs))
    ≡ length (flat_map (loops f) (numbers cs))
face_loops f keys [] = refl
face_loops f keys (c ∷ cs) =
    let mine : FaceUse = face_by f keys c in
    let many : length mine.loops ≡ length (loops f c.0) = length-map (loops f c.0) (loop_by f keys) in
    omega (
      arith,
      many,
      length-append mine.loops (flat_map (λ (x : FaceUse). x.loops) (map (face_by f keys) cs)),
      length-append (loops f c.0) (flat_map (loops f) (numbers cs)),
      face_loops f keys cs,
    )

shell_loops : (f : Contents) (keys : Keys) (items : List (ℤ × Bool)) → loop_total (map (shell_by f keys) items)
    ≡ length (flat_map (loops f) (flat_map (λ s. numbers (faces f s)) (numbers items)))
shell_loops f keys [] = refl
shell_loops f keys (item ∷ items) =
    let mine : List FaceUse = map (face_by f keys) (faces f item.0) in
    let rest : List FaceUse = faces_of (map (shell_by f keys) items) in
    let own : List ℤ = numbers (faces f item.0) in
    let others : List ℤ = flat_map (λ s. numbers (faces f s)) (numbers items) in
    let left = ap (λ ls. length ls) (flat_map-append (λ (c : FaceUse). c.loops) mine rest) in
    let right = ap (λ ls. length ls) (flat_map-append (loops f) own others) in
    omega (
      arith,
      left,
      right,
      length-append (flat_map (λ (c : FaceUse). c.loops) mine) (flat_map (λ (c : FaceUse). c.loops) rest),
      length-append (flat_map (loops f) own) (flat_map (loops f) others),
      face_loops f keys (faces f item.0),
      shell_loops f keys items,
    )

solid_loops : (f : Contents) (n : ℕ) → loop_total (solid_of f n).shells ≡ length (loop_numbers f n)
unfolding solid_of
solid_loops f n = shell_loops f (keys_of f (pos n)) (shells f (pos n))

faces_few : (f : Contents) (n : ℕ) → AllHold (places f n) → face_total (solid_of f n).shells ≤ loop_total (solid_of f n).shells
faces_few f n all = each_some (λ (c : FaceUse). c.loops) (faces_of (solid_of f n).shells) some
  where
    some : (c : FaceUse) → Has (faces_of (solid_of f n).shells) c → 0 < length c.loops
    some c m =
        let h = from_flat_map (λ (x : Shell). x.faces) (solid_of f n).shells c m in
        ((shells_of f n all h.0 h.1).4 c h.2).2

-- Each shell has a face.
pub shells_fewer : (f : Contents) (n : ℕ) → AllHold (places f n) → length (solid_of f n).shells ≤ face_total (solid_of f n).shells
shells_fewer f n all = each_some (λ (h : Shell). h.faces) (solid_of f n).shells (λ h m. (shells_of f n all h m).3)

-- Each loop takes two directory lines, each use four integers, and each face has a loop.
pub uses_within : (f : Contents) (n : ℕ) → AllHold (places f n)
    → 160 * face_total (solid_of f n).shells + 8 * length (flat_map shell_uses (solid_of f n).shells) ≤ total entry_room f.entries
uses_within f n all =
    let uses : length (flat_map shell_uses (solid_of f n).shells) ≡ length (all_tuples f (pos n)) = ap (λ us. length us) (all_uses f n)
    ∙ length-map (all_tuples f (pos n)) (use_of f (pos n)) in
    omega (arith, uses, loops_within f n all, solid_loops f n, faces_few f n all)
