-- One face more is reached, or it was before.
use Rattle.std.specs.Prelude.{◌≡◌, ◌≢◌, ◌<◌, ◌≤◌, ◌+◌, ◌==◌, ◌⊎◌, ℕ, zero, suc, Bool, true, false, List, [], ◌∷◌, ◌++◌, length, slice_set, slice_get, Some}
use Rattle.std.specs.Prelude.{Result, Ok, Err, IfOk}
use Rattle.std.specs.List.{AllByRecursion}
use Rattle.std.proofs.Common.{refl, sym, ◌∙◌, ap, subst, arith, inl, inr, ⊎_elim, get_or, drop, append_assoc, length-append}
use Rattle.std.proofs.lemmas.Bool.Decides.{eqb_tells}
use Rattle.std.proofs.lemmas.List.{append-nil, length-set}
use Rattle.std.proofs.lemmas.Bool.{cases_lt}
use Rattle.std.proofs.lemmas.Option.{slice_get_within, same_Some}
use Rattle.solid_data.specs.Chain.{Steps, LeadsTo}
use Rattle.solid_data.specs.Ring.{numbers_from}
use Rattle.solid_data.specs.Obligations.{FirstNot}
use Rattle.solid_data.proofs.Members.{Has, NoRepeat, no_longer, has_left, has_right, has_last}
use Rattle.solid_data.proofs.Occurring.{length-numbers, number_get, number_within}
use Rattle.solid_data.proofs.Trail.{leads_last}
use Rattle.edge_uses.proofs.FirstOf.{LeftIn, left_in_less, left_in_fails, left_in_done}
use Rattle.edge_uses.proofs.Steps.{default_apart}
use Rattle.edge_uses.proofs.Tallies.{set_same, set_other}
use Rattle.orient_certificate.specs.declared.crossing.Crossing.{Crossing}
use Rattle.face_orient.specs.declared.flag_walk.WalkedFace.{WalkedFace}
use Rattle.orient_certificate.specs.Crossings.{flipped, IsGraph, Meets}
use Rattle.face_orient.specs.Heads.{Leaves, IsHead, AreHeads}
use Rattle.face_orient.specs.FlagWalk.{IsFlagWalk, IsDone, IsOrigin, IsChild, Grows, walked_of, unreached}

none_last : (xs : List ℕ) (y : ℕ) → NoRepeat xs → (Has xs y → ⊥) → NoRepeat (xs ++ y ∷ [])
none_last [] y none new = ((λ h. h), tt)
none_last (x ∷ xs) y none new = ((λ h. ⊎_elim none.0 (λ e. new (inl (sym e))) (has_last xs y x h)), none_last xs y none.1 (λ h. new (inr h)))

pub grows_none : (xs : List ℕ) → Grows xs xs
grows_none xs = ([], sym (append-nil xs))

pub grows_more : (xs ys zs : List ℕ) → Grows xs ys → Grows ys zs → Grows xs zs
grows_more xs ys zs (a, e) (b, k) = (a ++ b, k ∙ (ap (λ ws. ws ++ b) e ∙ append_assoc xs a b))

pub still_has : (xs ys : List ℕ) (x : ℕ) → Grows xs ys → Has xs x → Has ys x
still_has xs ys x (a, e) h = subst (λ ws. Has ws x) (sym e) (has_left xs a x h)

pub reached_low : (places : List WalkedFace) (f : ℕ) → (walked_of places f).reached ≡ true → f < length places
reached_low [] f h = let e : false ≡ true = h in absurd (cc)
reached_low (p ∷ ps) zero h = omega arith
reached_low (p ∷ ps) (suc f) h = omega (arith, reached_low ps f h)

pub listed_low : (n : ℕ) (cs : List Crossing) (first : Bool) (places : List WalkedFace) (order : List ℕ) (f : ℕ) → IsFlagWalk n cs first places order → Has order f
    → f < n
listed_low n cs first places order f h m = omega (arith, reached_low places f (h.marked f m), h.size)

-- the other face is new
pub walk_more : (n : ℕ) (cs : List Crossing) (first : Bool) (places : List WalkedFace) (order : List ℕ) (r : ℕ) (c : Crossing) (p : WalkedFace) → IsGraph n cs
    → IsFlagWalk n cs first places order → slice_get cs r ≡ Some c → Has order c.from
    → (walked_of places c.to).reached ≡ false → p.reached ≡ true → p.flag ≡ flipped c.flips (walked_of places c.from).flag
    → p.depth ≡ (walked_of places c.from).depth + 1 → p.up ≡ r
    → IsFlagWalk n cs first (slice_set places c.to p) (order ++ c.to ∷ [])
walk_more n cs first places order r c p graph walk at known unmarked is_reached is_flag is_depth is_up = record {
  size = length-set places c.to p ∙ walk.size;
  listed = λ f h. listed f (eqb_tells c.to f) h;
  marked = λ f h. ⊎_elim (λ a. ap (λ (x : WalkedFace). x.reached) (keeps f a) ∙ walk.marked f a)
      (λ e. subst (λ k. (walked_of (slice_set places c.to p) k).reached ≡ true) e (ap (λ (x : WalkedFace). x.reached) here ∙ is_reached)) (has_last order c.to f h);
  begun = has_left order (c.to ∷ []) 0 walk.begun;
  origin = origin 0 walk.begun walk.origin;
  known = λ f h. ⊎_elim (λ a. old f a (walk.known f a))
      (λ e. subst (λ k. IsOrigin first (slice_set places c.to p) k ⊎ IsChild cs (slice_set places c.to p) k) e (inr this)) (has_last order c.to f h);
  shallow = λ f h. ⊎_elim
      (λ a. omega (arith, ap (λ (x : WalkedFace). x.depth) (keeps f a), walk.shallow f a, length-append order (c.to ∷ [])))
      (λ e. subst (λ k. (walked_of (slice_set places c.to p) k).depth < length (order ++ c.to ∷ [])) e
      (omega (arith, ap (λ (x : WalkedFace). x.depth) here, is_depth, walk.shallow c.from known, length-append order (c.to ∷ []))))
      (has_last order c.to f h);
  apart = none_last order c.to walk.apart new;
}
  where
    low : c.to < length places
    low = omega (arith, graph.to_low r c at, walk.size)

    new : Has order c.to → ⊥
    new h = let e : true ≡ false = sym (walk.marked c.to h) ∙ unmarked in absurd (cc)

    here : walked_of (slice_set places c.to p) c.to ≡ p
    here = set_same places c.to p unreached low

    keeps : (f : ℕ) → Has order f → walked_of (slice_set places c.to p) f ≡ walked_of places f
    keeps f h = set_other places c.to f p unreached (λ e. new (subst (Has order) (sym e) h))

    listed : (f : ℕ) → (((c.to == f) ≡ true) × (c.to ≡ f)) ⊎ (((c.to == f) ≡ false) × (c.to ≢ f)) → (walked_of (slice_set places c.to p) f).reached ≡ true
        → Has (order ++ c.to ∷ []) f
    listed f (inl y) h = has_right order (c.to ∷ []) f (inl y.1)
    listed f (inr m) h = has_left order (c.to ∷ []) f (walk.listed f (ap (λ (x : WalkedFace). x.reached) (sym (set_other places c.to f p unreached m.1)) ∙ h))

    origin : (f : ℕ) → Has order f → IsOrigin first places f → IsOrigin first (slice_set places c.to p) f
    origin f a o = record {
      is_first = o.is_first;
      depth = ap (λ (x : WalkedFace). x.depth) (keeps f a) ∙ o.depth;
      flag = ap (λ (x : WalkedFace). x.flag) (keeps f a) ∙ o.flag;
    }

    old : (f : ℕ) → Has order f → IsOrigin first places f ⊎ IsChild cs places f → IsOrigin first (slice_set places c.to p) f
        ⊎ IsChild cs (slice_set places c.to p) f
    old f a (inl o) = inl (origin f a o)
    old f a (inr o) =
        let above : walked_of (slice_set places c.to p) o.step.from ≡ walked_of places o.step.from = keeps o.step.from (walk.listed o.step.from o.parent) in
        inr (record {
          step = o.step;
          at = ap (λ (x : WalkedFace). slice_get cs x.up) (keeps f a) ∙ o.at;
          to = o.to;
          parent = ap (λ (x : WalkedFace). x.reached) above ∙ o.parent;
          deeper = omega (arith, ap (λ (x : WalkedFace). x.depth) (keeps f a), ap (λ (x : WalkedFace). x.depth) above, o.deeper);
          flag = ap (λ (x : WalkedFace). x.flag) (keeps f a) ∙ (o.flag ∙ ap (λ (x : WalkedFace). flipped o.step.flips x.flag) (sym above));
        })

    this : IsChild cs (slice_set places c.to p) c.to
    this =
        let above : walked_of (slice_set places c.to p) c.from ≡ walked_of places c.from = keeps c.from known in
        record {
          step = c;
          at = ap (λ (x : WalkedFace). slice_get cs x.up) here ∙ (ap (slice_get cs) is_up ∙ at);
          to = refl;
          parent = ap (λ (x : WalkedFace). x.reached) above ∙ walk.marked c.from known;
          deeper = omega (arith, ap (λ (x : WalkedFace). x.depth) here, is_depth, ap (λ (x : WalkedFace). x.depth) above);
          flag = ap (λ (x : WalkedFace). x.flag) here ∙ (is_flag ∙ ap (λ (x : WalkedFace). flipped c.flips x.flag) (sym above));
        }

in_numbers : (n f : ℕ) → f < n → Has (numbers_from 0 n) f
in_numbers n f lt = number_within 0 n f (omega arith) (omega (arith, lt))

pub order_few : (n : ℕ) (cs : List Crossing) (first : Bool) (places : List WalkedFace) (order : List ℕ) → IsFlagWalk n cs first places order → length order ≤ n
order_few n cs first places order h =
    omega (arith, no_longer order (numbers_from 0 n) h.apart (λ f m. in_numbers n f (listed_low n cs first places order f h m)), length-numbers 0 n)

-- the depth of a face that is reached
pub depth_low : (n : ℕ) (cs : List Crossing) (first : Bool) (places : List WalkedFace) (order : List ℕ) (f : ℕ) → IsFlagWalk n cs first places order → Has order f
    → (walked_of places f).depth < n
depth_low n cs first places order f h m = omega (arith, h.shallow f m, order_few n cs first places order h)

-- Leaving a face: of its steps all below this one are crossed.
pub record LeftTo (cs : List Crossing) (face at : ℕ) (order : List ℕ) : Type 0 where
  pub here : at < length cs → Leaves cs face at
  pub all : (x : ℕ) (c : Crossing) → slice_get cs x ≡ Some c → c.from ≡ face → x < at → Has order c.to

pub left_none : (cs : List Crossing) (face at : ℕ) (order : List ℕ) → IsHead cs face 0 at → LeftTo cs face at order
left_none cs face at order t = record {
  here = t.here;
  all = λ x c is from below. absurd (omega (arith, below, t.all x (c, is, from) (omega arith)));
}

pub left_more : (cs : List Crossing) (face r at : ℕ) (order new : List ℕ) → LeftTo cs face r order → IsHead cs face (r + 1) at → Grows order new
    → ((c : Crossing) → slice_get cs r ≡ Some c → Has new c.to) → LeftTo cs face at new
left_more cs face r at order new left t grows there = record {
  here = t.here;
  all = λ x c is from below. by_step x c is from below (three x r);
}
  where
    three : (x r : ℕ) → (x < r) ⊎ ((x ≡ r) ⊎ (r + 1 ≤ x))
    three zero zero = inr (inl refl)
    three zero (suc r) = inl (omega arith)
    three (suc x) zero = inr (inr (omega arith))
    three (suc x) (suc r) = ⊎_elim (λ a. inl (omega (arith, a))) (λ b. ⊎_elim (λ e. inr (inl (ap suc e))) (λ k. inr (inr (omega (arith, k)))) b) (three x r)

    by_step : (x : ℕ) (c : Crossing) → slice_get cs x ≡ Some c → c.from ≡ face → x < at → (x < r) ⊎ ((x ≡ r) ⊎ (r + 1 ≤ x)) → Has new c.to
    by_step x c is from below (inl lt) = still_has order new c.to grows (left.all x c is from lt)
    by_step x c is from below (inr (inl e)) = there c (subst (λ k. slice_get cs k ≡ Some c) e is)
    by_step x c is from below (inr (inr high)) = absurd (omega (arith, below, t.all x (c, is, from) high))

pub left_all : (cs : List Crossing) (face at : ℕ) (order : List ℕ) → length cs ≤ at → LeftTo cs face at order → IsDone cs order face
left_all cs face at order end left other (x, c, is, from, to) = subst (Has order) to (left.all x c is from (omega (arith, end, slice_get_within cs x c is)))

pub ok_three : {T E : Type 0} (r : Result T E) (P Q R S : T → Type 0) → ((x : T) → P x → Q x → R x → S x) → IfOk r P → IfOk r Q → IfOk r R → IfOk r S
ok_three (Ok x) P Q R S f p q r = f x p q r
ok_three (Err e) P Q R S f p q r = p

pub ok_two : {T E : Type 0} (r : Result T E) (P Q S : T → Type 0) → ((x : T) → P x → Q x → S x) → IfOk r P → IfOk r Q → IfOk r S
ok_two (Ok x) P Q S f p q = f x p q
ok_two (Err e) P Q S f p q = p

pub walk_as : (n : ℕ) (cs : List Crossing) (first : Bool) (places ps : List WalkedFace) (order os : List ℕ) → IsFlagWalk n cs first places order → ps ≡ places
    → os ≡ order → IsFlagWalk n cs first ps os
walk_as n cs first places ps order os h a b = subst (λ x. IsFlagWalk n cs first ps x) (sym b) (subst (λ x. IsFlagWalk n cs first x order) (sym a) h)

pub first_head : (n : ℕ) (cs : List Crossing) (face a : ℕ) (first next : List ℕ) → AreHeads n cs first next → face < n → a ≡ get_or first face a
    → IsHead cs face 0 a
first_head n cs face a first next t low e = subst (IsHead cs face 0) (sym (e ∙ default_apart first face a 0 (omega (arith, low, t.faces)))) (t.heads face low)

pub next_head : (n : ℕ) (cs : List Crossing) (face r a : ℕ) (first next : List ℕ) → AreHeads n cs first next → Leaves cs face r → a ≡ get_or next r a
    → IsHead cs face (r + 1) a
next_head n cs face r a first next t on e =
    subst (IsHead cs face (r + 1)) (sym (e ∙ default_apart next r a 0 (omega (arith, slice_get_within cs r on.0 on.1, t.steps)))) (t.nexts r face on)

-- the first face
pub walk_first : (n : ℕ) (cs : List Crossing) (first : Bool) (places : List WalkedFace) (p : WalkedFace) → length places ≡ n → 0 < n
    → ((f : ℕ) → (walked_of places f).reached ≡ false) → p.reached ≡ true → p.flag ≡ first → p.depth ≡ 0 → IsFlagWalk n cs first (slice_set places 0 p) (0 ∷ [])
walk_first n cs first places p long some clear is_reached is_flag is_depth = record {
  size = length-set places 0 p ∙ long;
  listed = λ f h. listed f (eqb_tells 0 f) h;
  marked = λ f h. ⊎_elim (λ e. subst (λ k. (walked_of (slice_set places 0 p) k).reached ≡ true) e (ap (λ (x : WalkedFace). x.reached) here ∙ is_reached))
      (λ x. absurd x) h;
  begun = inl refl;
  origin = origin;
  known = λ f h. ⊎_elim (λ e. inl (subst (IsOrigin first (slice_set places 0 p)) e origin)) (λ x. absurd x) h;
  shallow = λ f h. ⊎_elim (λ e. subst (λ k. (walked_of (slice_set places 0 p) k).depth < 1) e (omega (arith, ap (λ (x : WalkedFace). x.depth) here, is_depth)))
      (λ x. absurd x) h;
  apart = ((λ h. h), tt);
}
  where
    here : walked_of (slice_set places 0 p) 0 ≡ p
    here = set_same places 0 p unreached (omega (arith, long, some))

    origin : IsOrigin first (slice_set places 0 p) 0
    origin = record {
      is_first = refl;
      depth = ap (λ (x : WalkedFace). x.depth) here ∙ is_depth;
      flag = ap (λ (x : WalkedFace). x.flag) here ∙ is_flag;
    }

    listed : (f : ℕ) → (((0 == f) ≡ true) × (0 ≡ f)) ⊎ (((0 == f) ≡ false) × (0 ≢ f)) → (walked_of (slice_set places 0 p) f).reached ≡ true → Has (0 ∷ []) f
    listed f (inl y) h = inl y.1
    listed f (inr m) h = let e : true ≡ false = sym h ∙ (ap (λ (x : WalkedFace). x.reached) (set_other places 0 f p unreached m.1) ∙ clear f) in absurd (cc)

-- all faces that are reached are listed, once each is done
pub all_listed : (cs : List Crossing) (order : List ℕ) → ((f : ℕ) → Has order f → IsDone cs order f) → (m a b : ℕ) → Has order a → Steps (Meets cs) m a b
    → Has order b
all_listed cs order done zero a b h e = subst (Has order) e h
all_listed cs order done (suc m) a b h (c, r, rest) = all_listed cs order done m c b (done a h c r) rest

has_at : (xs : List ℕ) (x : ℕ) → Has xs x → (k : ℕ) × (k < length xs) × (slice_get xs k ≡ Some x)
has_at [] x h = absurd h
has_at (y ∷ ys) x (inl e) = (zero, omega arith, ap Some e)
has_at (y ∷ ys) x (inr h) = let k = has_at ys x h in (suc k.0, omega (arith, k.1), k.2)

-- all places are done, so all faces are
pub each_done : (n : ℕ) (cs : List Crossing) (first : Bool) (places : List WalkedFace) (order : List ℕ) (q : ℕ) → IsFlagWalk n cs first places order → n ≤ q
    → ((j f : ℕ) → j < q → slice_get order j ≡ Some f → IsDone cs order f) → (f : ℕ) → Has order f → IsDone cs order f
each_done n cs first places order q h past done f m = let k = has_at order f m in done k.0 f (omega (arith, k.1, past, order_few n cs first places order h)) k.2

front_same : (xs more : List ℕ) (j f : ℕ) → j < length xs → slice_get (xs ++ more) j ≡ Some f → slice_get xs j ≡ Some f
front_same [] more j f lt h = absurd (omega (arith, lt))
front_same (x ∷ xs) more zero f lt h = h
front_same (x ∷ xs) more (suc j) f lt h = front_same xs more j f (omega (arith, lt)) h

-- one place more is done
pub place_done : (cs : List Crossing) (old new : List ℕ) (q : ℕ) → Grows old new → (length old ≤ q → new ≡ old)
    → ((f : ℕ) → slice_get new q ≡ Some f → IsDone cs new f)
    → ((j f : ℕ) → j < q → slice_get old j ≡ Some f → IsDone cs old f) → (j f : ℕ) → j < q + 1 → slice_get new j ≡ Some f → IsDone cs new f
place_done cs old new q grows same here before j f lt at = by_place (cases_lt j q)
  where
    back : j < length old → slice_get old j ≡ Some f
    back low = front_same old grows.0 j f low (ap (λ xs. slice_get xs j) (sym grows.1) ∙ at)

    earlier : j < q → (j < length old) ⊎ (length old ≤ j) → IsDone cs new f
    earlier before_q (inl low) = λ other x. still_has old new other grows (before j f before_q (back low) other x)
    earlier before_q (inr high) =
        let k : new ≡ old = same (omega (arith, high, before_q)) in
        subst (λ xs. IsDone cs xs f) (sym k) (before j f before_q (ap (λ xs. slice_get xs j) (sym k) ∙ at))

    by_place : (j < q) ⊎ (q ≤ j) → IsDone cs new f
    by_place (inl a) = earlier a (cases_lt j (length old))
    by_place (inr b) = let e : j ≡ q = omega (arith, b, lt) in here f (ap (λ k. slice_get new k) (sym e) ∙ at)

pub place_is : (old new : List ℕ) (q face f : ℕ) → Grows old new → q < length old → slice_get old q ≡ Some face → slice_get new q ≡ Some f → face ≡ f
place_is old new q face f grows low at there = same_Some face f (sym at ∙ front_same old grows.0 q f low (ap (λ xs. slice_get xs q) (sym grows.1) ∙ there))

number_at : (n i : ℕ) → i < n → get_or (numbers_from 0 n) i 0 ≡ i
number_at n i lt = number_get 0 n i 0 lt ∙ omega arith

number_in : (n i : ℕ) → i < n → i < length (numbers_from 0 n)
number_in n i lt = omega (arith, lt, length-numbers 0 n)

-- of the faces from 0 on this one is reached, or the first that isn't
pub face_reached : (P : ℕ → Type 0) (n i : ℕ) → i < n → LeftIn P (drop i (numbers_from 0 n)) (numbers_from 0 n) → P i
    → LeftIn P (drop (i + 1) (numbers_from 0 n)) (numbers_from 0 n)
face_reached P n i lt l h = left_in_less P (numbers_from 0 n) (numbers_from 0 n) i 0 (number_in n i lt) l (subst P (sym (number_at n i lt)) h)

pub face_missed : (P : ℕ → Type 0) (n i : ℕ) → i < n → LeftIn P (drop i (numbers_from 0 n)) (numbers_from 0 n) → (P i → ⊥) → FirstNot P (numbers_from 0 n) i
face_missed P n i lt l ne =
    subst (FirstNot P (numbers_from 0 n)) (number_at n i lt)
    (left_in_fails P (numbers_from 0 n) (numbers_from 0 n) i 0 (number_in n i lt) l (λ h. ne (subst P (number_at n i lt) h)))

pub faces_done : (P : ℕ → Type 0) (n i : ℕ) → n ≤ i → LeftIn P (drop i (numbers_from 0 n)) (numbers_from 0 n) → AllByRecursion P (numbers_from 0 n)
faces_done P n i past l = left_in_done P (numbers_from 0 n) (numbers_from 0 n) i (omega (arith, past, length-numbers 0 n)) l

pub unmarked_not : (n : ℕ) (cs : List Crossing) (first : Bool) (places : List WalkedFace) (order : List ℕ) (f : ℕ) → IsFlagWalk n cs first places order
    → ((g : ℕ) → Has order g → IsDone cs order g) → (walked_of places f).reached ≡ false → LeadsTo (Meets cs) 0 f → ⊥
unmarked_not n cs first places order f h done no_mark chain =
    let e : true ≡ false = sym (h.marked f (all_listed cs order done chain.0 0 f h.begun chain.1)) ∙ no_mark in absurd (cc)

-- a face that is listed is reached, by its depth
pub listed_reached : (n : ℕ) (cs : List Crossing) (first : Bool) (places : List WalkedFace) (order : List ℕ) → IsFlagWalk n cs first places order → (d f : ℕ)
    → (walked_of places f).depth ≡ d → Has order f → LeadsTo (Meets cs) 0 f
listed_reached n cs first places order h zero f deep m = ⊎_elim (λ (o : IsOrigin first places f). subst (LeadsTo (Meets cs) 0) (sym o.is_first) (zero, refl))
    (λ (o : IsChild cs places f). absurd (omega (arith, deep, o.deeper))) (h.known f m)
listed_reached n cs first places order h (suc d) f deep m =
    ⊎_elim (λ (o : IsOrigin first places f). subst (LeadsTo (Meets cs) 0) (sym o.is_first) (zero, refl))
    (λ (o : IsChild cs places f). leads_last (Meets cs) 0 o.step.from f
    (listed_reached n cs first places order h d o.step.from (omega (arith, deep, o.deeper)) (h.listed o.step.from o.parent))
    ((walked_of places f).up, o.step, o.at, refl, o.to))
    (h.known f m)

pub crossed_now : (old new : List ℕ) (c k : Crossing) → new ≡ old ++ c.to ∷ [] → c ≡ k → Has new k.to
crossed_now old new c k e same =
    subst (Has new) (ap (λ (x : Crossing). x.to) same) (subst (λ xs. Has xs c.to) (sym e) (has_right old (c.to ∷ []) c.to (inl refl)))
