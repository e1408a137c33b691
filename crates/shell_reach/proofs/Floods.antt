-- One face more is reached, or it was before.
use Rattle.std.specs.Prelude.{◌≡◌, ◌≢◌, ◌<◌, ◌≤◌, ◌+◌, ◌==◌, ◌⊎◌, ℕ, zero, suc, Bool, true, false, List, [], ◌∷◌, ◌++◌, length, reverse, slice_set, slice_get}
use Rattle.std.specs.Prelude.{Some, Result, Ok, Err, IfOk}
use Rattle.std.specs.List.{AllByRecursion}
use Rattle.std.proofs.Common.{refl, sym, ◌∙◌, ap, subst, arith, inl, inr, ⊎_elim, get_or, drop, append_assoc, length-append}
use Rattle.std.proofs.lemmas.Bool.Decides.{eqb_tells}
use Rattle.std.proofs.lemmas.List.{reverse-append, append-nil, length-set, map-append, get_or-map}
use Rattle.std.proofs.lemmas.Bool.{cases_lt}
use Rattle.std.proofs.lemmas.Option.{slice_get_within, same_Some, slice_get-get_or}
use Rattle.solid_data.specs.Chain.{Steps}
use Rattle.solid_data.specs.Ring.{numbers_from}
use Rattle.edge_uses.specs.ShellRows.{ShellRows}
use Rattle.edge_uses.specs.RowRelations.{AreMates, OnFace}
use Rattle.edge_uses.specs.Around.{AreNeighbours, IsReached}
use Rattle.edge_uses.specs.Mates.{ArePaired}
use Rattle.edge_uses.proofs.Turn.{one_mate, paired_rows}
use Rattle.shell_reach.specs.OneMate.{HaveOneMate}
use Rattle.solid_data.proofs.Members.{Has, NoRepeat, Contains-from_Has, Has-from_Contains, no_longer, All-at, has_left, has_right, rises_none, has_last}
use Rattle.solid_data.proofs.Members.{has_reverse}
use Rattle.solid_data.specs.Obligations.{FirstNot}
use Rattle.edge_uses.proofs.FirstOf.{LeftIn, left_in_less, left_in_fails, left_in_done}
use Rattle.edge_uses.proofs.Steps.{default_apart}
use Rattle.solid_data.proofs.Occurring.{numbers_rise, length-numbers, number_get, number_within}
use Rattle.solid_data.proofs.Trail.{leads_last}
use Rattle.edge_uses.proofs.Tallies.{set_same, set_other}
use Rattle.edge_uses.proofs.Turns.{mates_back}
use Rattle.shell_reach.specs.Reaching.{ReachesOne, ReachFrom, ReachesAll}
use Rattle.shell_tables.specs.FaceRows.{IsHead, AreFaceRows}
use Rattle.solid_data.specs.declared.solid.FaceAt.{FaceAt}
use Rattle.shell_reach.specs.Flood.{face_numbers, IsFlood, IsDone, Grows}
use Rattle.shell_tables.proofs.FaceHeads.{one_face, face_low}

pub paired_one : (d : ShellRows) → ArePaired d → HaveOneMate d
paired_one d whole = record { rows = whole.rows; one = one_mate d (paired_rows d whole) }

-- Faces and their numbers.

pub faces_long : (faces : List FaceAt) → length (face_numbers faces) ≡ length faces
faces_long [] = refl
faces_long (f ∷ fs) = ap suc (faces_long fs)

pub faces_pushed : (old new : List FaceAt) (face : FaceAt) → new ≡ old ++ face ∷ [] → face_numbers new ≡ face_numbers old ++ face.0 ∷ []
faces_pushed old new face e = ap face_numbers e ∙ map-append (λ (f : FaceAt). f.0) old (face ∷ [])

pub number_there : (faces : List FaceAt) (q : ℕ) (face : FaceAt) → q < length faces → get_or faces q face ≡ face
    → slice_get (face_numbers faces) q ≡ Some face.0
number_there faces q face low e =
    slice_get-get_or (face_numbers faces) q face.0 (omega (arith, low, faces_long faces))
    ∙ ap Some (get_or-map (λ (f : FaceAt). f.0) faces q face face.0 low ∙ ap (λ (f : FaceAt). f.0) e)

to_reverse : (xs : List ℕ) (y : ℕ) → Has xs y → Has (reverse xs) y
to_reverse [] y h = absurd h
to_reverse (x ∷ xs) y (inl e) = subst (λ ys. Has ys y) (sym (reverse-append (x ∷ []) xs)) (has_right (reverse xs) (x ∷ []) y (inl e))
to_reverse (x ∷ xs) y (inr h) = subst (λ ys. Has ys y) (sym (reverse-append (x ∷ []) xs)) (has_left (reverse xs) (x ∷ []) y (to_reverse xs y h))

none_last : (xs : List ℕ) (y : ℕ) → NoRepeat xs → (Has xs y → ⊥) → NoRepeat (xs ++ y ∷ [])
none_last [] y none new = ((λ h. h), tt)
none_last (x ∷ xs) y none new = ((λ h. ⊎_elim none.0 (λ e. new (inl (sym e))) (has_last xs y x h)), none_last xs y none.1 (λ h. new (inr h)))

pub grows_none : (xs : List ℕ) → Grows xs xs
grows_none xs = ([], sym (append-nil xs))

pub grows_more : (xs ys zs : List ℕ) → Grows xs ys → Grows ys zs → Grows xs zs
grows_more xs ys zs (a, e) (b, k) = (a ++ b, k ∙ (ap (λ ws. ws ++ b) e ∙ append_assoc xs a b))

pub still_has : (xs ys : List ℕ) (x : ℕ) → Grows xs ys → Has xs x → Has ys x
still_has xs ys x (a, e) h = subst (λ ws. Has ws x) (sym e) (has_left xs a x h)

-- the other face was reached before
pub crossed_before : (d : ShellRows) (marks : List Bool) (order rows : List ℕ) (r mate other : ℕ) → HaveOneMate d → IsFlood d marks order rows
    → AreMates d r mate → OnFace d other mate → get_or marks other false ≡ true
    → (m g : ℕ) → AreMates d r m → OnFace d g m → Has order g
crossed_before d marks order rows r mate other whole flood mates on yes_marked m g is_mate on_g =
    let same : mate ≡ m = whole.one r mate m mates is_mate in
    subst (Has order) (one_face d other g mate on (subst (OnFace d g) (sym same) on_g)) (flood.listed other yes_marked)

pub crossed_now : (d : ShellRows) (order : List ℕ) (r mate other : ℕ) → HaveOneMate d → AreMates d r mate → OnFace d other mate → (m g : ℕ) → AreMates d r m
    → OnFace d g m → Has (order ++ other ∷ []) g
crossed_now d order r mate other whole mates on m g is_mate on_g =
    let same : mate ≡ m = whole.one r mate m mates is_mate in
    has_right order (other ∷ []) g (inl (one_face d other g mate on (subst (OnFace d g) (sym same) on_g)))

-- the other face is new
pub flood_more : (d : ShellRows) (marks : List Bool) (order rows : List ℕ) (face r mate other : ℕ) → HaveOneMate d → IsFlood d marks order rows → Has order face
    → OnFace d face r → AreMates d r mate → OnFace d other mate → get_or marks other false ≡ false
    → IsFlood d (slice_set marks other true) (order ++ other ∷ []) (rows ++ mate ∷ [])
flood_more d marks order rows face r mate other whole flood known on mates on_other unmarked = record {
  faces = length-set marks other true ∙ flood.faces;
  listed = λ f h. listed f (eqb_tells other f) h;
  marked = λ f h. marked f (eqb_tells other f) (has_last order other f h);
  first = has_left order (other ∷ []) 0 flood.first;
  reached = λ f h. ⊎_elim (λ a. flood.reached f a) (λ e. subst (IsReached d) e here) (has_last order other f h);
  apart = none_last order other flood.apart new;
  count = omega (arith, length-append order (other ∷ []), length-append rows (mate ∷ []), flood.count);
  done = done;
}
  where
    low : other < length marks
    low = omega (arith, face_low d other mate whole.rows on_other, flood.faces)

    new : Has order other → ⊥
    new h = let e : true ≡ false = sym (flood.marked other h) ∙ unmarked in absurd (cc)

    here : IsReached d other
    here = leads_last (AreNeighbours d) 0 face other (flood.reached face known) (r, mate, mates, on, on_other)

    listed : (f : ℕ) → (((other == f) ≡ true) × (other ≡ f)) ⊎ (((other == f) ≡ false) × (other ≢ f)) → get_or (slice_set marks other true) f false ≡ true
        → Has (order ++ other ∷ []) f
    listed f (inl y) h = has_right order (other ∷ []) f (inl y.1)
    listed f (inr n) h = has_left order (other ∷ []) f (flood.listed f (sym (set_other marks other f true false n.1) ∙ h))

    marked : (f : ℕ) → (((other == f) ≡ true) × (other ≡ f)) ⊎ (((other == f) ≡ false) × (other ≢ f)) → Has order f ⊎ (other ≡ f)
        → get_or (slice_set marks other true) f false ≡ true
    marked f (inl y) h = subst (λ k. get_or (slice_set marks other true) k false ≡ true) y.1 (set_same marks other true false low)
    marked f (inr n) (inl h) = set_other marks other f true false n.1 ∙ flood.marked f h
    marked f (inr n) (inr e) = absurd (n.1 e)

    done : (rest : List ℕ) → ReachFrom d (reverse (order ++ other ∷ [])) rest → ReachFrom d (0 ∷ []) ((rows ++ mate ∷ []) ++ rest)
    done rest h =
        let k : ReachFrom d (other ∷ reverse order) rest = subst (λ known. ReachFrom d known rest) (reverse-append order (other ∷ [])) h in
        let one : ReachesOne d (reverse order) mate other =
        record {
          mate = r;
          from = face;
          mates = mates_back d r mate mates;
          on_face = on_other;
          on_known = on;
          new = λ c. new (has_reverse order other (Has-from_Contains (reverse order) other c));
          old = Contains-from_Has (reverse order) face (to_reverse order face known);
        } in
        subst (ReachFrom d (0 ∷ [])) (sym (append_assoc rows (mate ∷ []) rest)) (flood.done (mate ∷ rest) (other, one, k))

-- Leaving a face: of its rows all below this one are crossed.
pub record LeftTo (d : ShellRows) (face at : ℕ) (order : List ℕ) : Type 0 where
  pub here : at < length d.rows → OnFace d face at
  pub all : (x m g : ℕ) → OnFace d face x → x < at → AreMates d x m → OnFace d g m → Has order g

pub left_none : (d : ShellRows) (face at : ℕ) (order : List ℕ) → IsHead d face 0 at → LeftTo d face at order
left_none d face at order t = record {
  here = t.here;
  all = λ x m g on below mates on_g. absurd (omega (arith, below, t.all x on (omega arith)));
}

pub left_more : (d : ShellRows) (face r at : ℕ) (order new : List ℕ) → LeftTo d face r order → OnFace d face r → IsHead d face (r + 1) at → Grows order new
    → ((m g : ℕ) → AreMates d r m → OnFace d g m → Has new g) → LeftTo d face at new
left_more d face r at order new left on t grows there = record {
  here = t.here;
  all = λ x m g on_x below mates on_g. by_row x m g on_x below mates on_g (three x r);
}
  where
    three : (x r : ℕ) → (x < r) ⊎ ((x ≡ r) ⊎ (r + 1 ≤ x))
    three zero zero = inr (inl refl)
    three zero (suc r) = inl (omega arith)
    three (suc x) zero = inr (inr (omega arith))
    three (suc x) (suc r) = ⊎_elim (λ a. inl (omega (arith, a))) (λ b. ⊎_elim (λ e. inr (inl (ap suc e))) (λ k. inr (inr (omega (arith, k)))) b) (three x r)

    by_row : (x m g : ℕ) → OnFace d face x → x < at → AreMates d x m → OnFace d g m → (x < r) ⊎ ((x ≡ r) ⊎ (r + 1 ≤ x)) → Has new g
    by_row x m g on_x below mates on_g (inl lt) = still_has order new g grows (left.all x m g on_x lt mates on_g)
    by_row x m g on_x below mates on_g (inr (inl e)) = there m g (subst (λ k. AreMates d k m) e mates) on_g
    by_row x m g on_x below mates on_g (inr (inr high)) = absurd (omega (arith, below, t.all x on_x high))

pub left_all : (d : ShellRows) (face at : ℕ) (order : List ℕ) → length d.rows ≤ at → LeftTo d face at order → IsDone d order face
left_all d face at order end left other (x, m, mates, on, on_other) = left.all x m other on (omega (arith, end, slice_get_within d.rows x on.0 on.1)) mates
    on_other

pub ok_three : {T E : Type 0} (r : Result T E) (P Q R S : T → Type 0) → ((x : T) → P x → Q x → R x → S x) → IfOk r P → IfOk r Q → IfOk r R → IfOk r S
ok_three (Ok x) P Q R S f p q r = f x p q r
ok_three (Err e) P Q R S f p q r = p

pub flood_as : (d : ShellRows) (marks ms : List Bool) (order os rows rs : List ℕ) → IsFlood d marks order rows → ms ≡ marks → os ≡ order → rs ≡ rows
    → IsFlood d ms os rs
flood_as d marks ms order os rows rs h a b c =
    subst (λ x. IsFlood d ms os x) (sym c) (subst (λ x. IsFlood d ms x rows) (sym b) (subst (λ x. IsFlood d x order rows) (sym a) h))

pub first_head : (d : ShellRows) (face a : ℕ) (first next : List ℕ) → AreFaceRows d first next → face < d.face_count → a ≡ get_or first face a
    → IsHead d face 0 a
first_head d face a first next t low e = subst (IsHead d face 0) (sym (e ∙ default_apart first face a 0 (omega (arith, low, t.faces)))) (t.heads face low)

pub next_head : (d : ShellRows) (face r a : ℕ) (first next : List ℕ) → AreFaceRows d first next → OnFace d face r → a ≡ get_or next r a
    → IsHead d face (r + 1) a
next_head d face r a first next t on e =
    subst (IsHead d face (r + 1)) (sym (e ∙ default_apart next r a 0 (omega (arith, slice_get_within d.rows r on.0 on.1, t.rows)))) (t.nexts r face on)

pub marked_low : (marks : List Bool) (f : ℕ) → get_or marks f false ≡ true → f < length marks
marked_low [] f h = absurd cc
marked_low (m ∷ ms) zero h = omega arith
marked_low (m ∷ ms) (suc f) h = omega (arith, marked_low ms f h)

pub listed_low : (d : ShellRows) (marks : List Bool) (order rows : List ℕ) (f : ℕ) → IsFlood d marks order rows → Has order f → f < d.face_count
listed_low d marks order rows f h m = omega (arith, marked_low marks f (h.marked f m), h.faces)

-- the first face
pub flood_first : (d : ShellRows) (marks : List Bool) → length marks ≡ d.face_count → 0 < length marks → ((f : ℕ) → get_or marks f false ≡ false)
    → IsFlood d (slice_set marks 0 true) (0 ∷ []) []
flood_first d marks long some clear = record {
  faces = length-set marks 0 true ∙ long;
  listed = λ f h. listed f (eqb_tells 0 f) h;
  marked = λ f h. ⊎_elim (λ e. subst (λ k. get_or (slice_set marks 0 true) k false ≡ true) e (set_same marks 0 true false some)) (λ n. absurd n) h;
  first = inl refl;
  reached = λ f h. ⊎_elim (λ e. subst (IsReached d) e (0, refl)) (λ n. absurd n) h;
  apart = ((λ h. h), tt);
  count = refl;
  done = λ rest h. h;
}
  where
    listed : (f : ℕ) → (((0 == f) ≡ true) × (0 ≡ f)) ⊎ (((0 == f) ≡ false) × (0 ≢ f)) → get_or (slice_set marks 0 true) f false ≡ true → Has (0 ∷ []) f
    listed f (inl y) h = inl y.1
    listed f (inr n) h = let e : true ≡ false = sym h ∙ (set_other marks 0 f true false n.1 ∙ clear f) in absurd (cc)

-- all faces that are reached are listed, once each is done
pub all_listed : (d : ShellRows) (order : List ℕ) → ((f : ℕ) → Has order f → IsDone d order f) → (n a b : ℕ) → Has order a → Steps (AreNeighbours d) n a b
    → Has order b
all_listed d order done zero a b h e = subst (Has order) e h
all_listed d order done (suc n) a b h (c, r, rest) = all_listed d order done n c b (done a h c r) rest

has_at : (xs : List ℕ) (x : ℕ) → Has xs x → (k : ℕ) × (k < length xs) × (slice_get xs k ≡ Some x)
has_at [] x h = absurd h
has_at (y ∷ ys) x (inl e) = (zero, omega arith, ap Some e)
has_at (y ∷ ys) x (inr h) = let k = has_at ys x h in (suc k.0, omega (arith, k.1), k.2)

in_numbers : (n f : ℕ) → f < n → Has (numbers_from 0 n) f
in_numbers n f lt = number_within 0 n f (omega arith) (omega (arith, lt))

pub order_few : (d : ShellRows) (marks : List Bool) (order rows : List ℕ) → IsFlood d marks order rows → length order ≤ d.face_count
order_few d marks order rows h =
    omega (
      arith,
      no_longer order (numbers_from 0 d.face_count) h.apart (λ f m. in_numbers d.face_count f (listed_low d marks order rows f h m)),
      length-numbers 0 d.face_count,
    )

-- all places are done, so all faces are
pub each_done : (d : ShellRows) (marks : List Bool) (order rows : List ℕ) (q : ℕ) → IsFlood d marks order rows → d.face_count ≤ q
    → ((j f : ℕ) → j < q → slice_get order j ≡ Some f → IsDone d order f) → (f : ℕ) → Has order f → IsDone d order f
each_done d marks order rows q h past done f m = let k = has_at order f m in done k.0 f (omega (arith, k.1, past, order_few d marks order rows h)) k.2

front_same : (xs more : List ℕ) (j f : ℕ) → j < length xs → slice_get (xs ++ more) j ≡ Some f → slice_get xs j ≡ Some f
front_same [] more j f lt h = absurd (omega (arith, lt))
front_same (x ∷ xs) more zero f lt h = h
front_same (x ∷ xs) more (suc j) f lt h = front_same xs more j f (omega (arith, lt)) h

-- one place more is done
pub place_done : (d : ShellRows) (old new : List ℕ) (q : ℕ) → Grows old new → (length old ≤ q → new ≡ old)
    → ((f : ℕ) → slice_get new q ≡ Some f → IsDone d new f)
    → ((j f : ℕ) → j < q → slice_get old j ≡ Some f → IsDone d old f) → (j f : ℕ) → j < q + 1 → slice_get new j ≡ Some f → IsDone d new f
place_done d old new q grows same here before j f lt at = by_place (cases_lt j q)
  where
    back : j < length old → slice_get old j ≡ Some f
    back low = front_same old grows.0 j f low (ap (λ xs. slice_get xs j) (sym grows.1) ∙ at)

    earlier : j < q → (j < length old) ⊎ (length old ≤ j) → IsDone d new f
    earlier before_q (inl low) = λ other n. still_has old new other grows (before j f before_q (back low) other n)
    earlier before_q (inr high) =
        let k : new ≡ old = same (omega (arith, high, before_q)) in
        subst (λ xs. IsDone d xs f) (sym k) (before j f before_q (ap (λ xs. slice_get xs j) (sym k) ∙ at))

    by_place : (j < q) ⊎ (q ≤ j) → IsDone d new f
    by_place (inl a) = earlier a (cases_lt j (length old))
    by_place (inr b) = let e : j ≡ q = omega (arith, b, lt) in here f (ap (λ k. slice_get new k) (sym e) ∙ at)

number_at : (n i : ℕ) → i < n → get_or (numbers_from 0 n) i 0 ≡ i
number_at n i lt = number_get 0 n i 0 lt ∙ omega arith

number_in : (n i : ℕ) → i < n → i < length (numbers_from 0 n)
number_in n i lt = omega (arith, lt, length-numbers 0 n)

pub face_reached : (d : ShellRows) (i : ℕ) → i < d.face_count → LeftIn (IsReached d) (drop i (numbers_from 0 d.face_count)) (numbers_from 0 d.face_count)
    → IsReached d i
    → LeftIn (IsReached d) (drop (i + 1) (numbers_from 0 d.face_count)) (numbers_from 0 d.face_count)
face_reached d i lt l h = left_in_less (IsReached d) (numbers_from 0 d.face_count) (numbers_from 0 d.face_count) i 0 (number_in d.face_count i lt) l
    (subst (IsReached d) (sym (number_at d.face_count i lt)) h)

pub face_missed : (d : ShellRows) (i : ℕ) → i < d.face_count → LeftIn (IsReached d) (drop i (numbers_from 0 d.face_count)) (numbers_from 0 d.face_count)
    → (IsReached d i → ⊥) → FirstNot (IsReached d) (numbers_from 0 d.face_count) i
face_missed d i lt l ne =
    subst (FirstNot (IsReached d) (numbers_from 0 d.face_count)) (number_at d.face_count i lt)
    (left_in_fails (IsReached d) (numbers_from 0 d.face_count) (numbers_from 0 d.face_count) i 0 (number_in d.face_count i lt) l
    (λ h. ne (subst (IsReached d) (number_at d.face_count i lt) h)))

pub faces_done : (d : ShellRows) (i : ℕ) → d.face_count ≤ i → LeftIn (IsReached d) (drop i (numbers_from 0 d.face_count)) (numbers_from 0 d.face_count)
    → AllByRecursion (IsReached d) (numbers_from 0 d.face_count)
faces_done d i past l = left_in_done (IsReached d) (numbers_from 0 d.face_count) (numbers_from 0 d.face_count) i
    (omega (arith, past, length-numbers 0 d.face_count)) l

pub unmarked_not : (d : ShellRows) (marks : List Bool) (order rows : List ℕ) (f : ℕ) → IsFlood d marks order rows → ((g : ℕ) → Has order g → IsDone d order g)
    → get_or marks f false ≡ false → IsReached d f → ⊥
unmarked_not d marks order rows f h done no_mark chain =
    let e : true ≡ false = sym (h.marked f (all_listed d order done chain.0 0 f h.first chain.1)) ∙ no_mark in absurd (cc)

-- the rows reach all faces
pub flood_reaches : (d : ShellRows) (marks : List Bool) (order rows : List ℕ) → IsFlood d marks order rows → ((g : ℕ) → Has order g → IsDone d order g)
    → AllByRecursion (IsReached d) (numbers_from 0 d.face_count) → ReachesAll d rows
flood_reaches d marks order rows h done all = record {
  order = subst (ReachFrom d (0 ∷ [])) (append-nil rows) (h.done [] tt);
  count = omega (
    arith,
    h.count,
    order_few d marks order rows h,
    length-numbers 0 d.face_count,
    no_longer (numbers_from 0 d.face_count) order (rises_none (numbers_from 0 d.face_count) (numbers_rise 0 d.face_count))
        (λ f m. let chain = All-at (IsReached d) (numbers_from 0 d.face_count) all f m in all_listed d order done chain.0 0 f h.first chain.1),
  );
  reached = all;
}

pub place_is : (old new : List ℕ) (q face f : ℕ) → Grows old new → q < length old → slice_get old q ≡ Some face → slice_get new q ≡ Some f → face ≡ f
place_is old new q face f grows low at there = same_Some face f (sym at ∙ front_same old grows.0 q f low (ap (λ xs. slice_get xs q) (sym grows.1) ∙ there))

pub none_reach : (d : ShellRows) → d.face_count ≡ 0 → ReachesAll d []
none_reach d none = record {
  order = tt;
  count = omega (arith, none);
  reached = subst (λ n. AllByRecursion (IsReached d) (numbers_from 0 n)) (sym none) tt;
}
