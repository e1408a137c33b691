-- Climbing from a face that is reached to the first one.
use Rattle.std.specs.Prelude.{◌≡◌, ◌≢◌, ◌<◌, ◌-◌, ℕ, zero, suc, Bool, false, List, [], ◌∷◌, ◌++◌, length, map, take, reverse, slice_get, Some}
use Rattle.std.specs.List.{AllByRecursion}
use Rattle.std.proofs.Common.{refl, sym, ◌∙◌, ap, subst, arith, ⊎_elim, get_or, length-append}
use Rattle.std.proofs.lemmas.Option.{slice_get_within, get_or_from_slice_get, same_Some}
use Rattle.solid_data.specs.Chain.{LeadsTo}
use Rattle.solid_data.specs.Ring.{numbers_from}
use Rattle.solid_data.proofs.Members.{Has, All-at}
use Rattle.solid_data.proofs.Occurring.{number_within}
use Rattle.edge_uses.proofs.Steps.{default_apart}
use Rattle.orient_certificate.specs.declared.crossing.Crossing.{Crossing}
use Rattle.face_orient.specs.declared.flag_walk.WalkedFace.{WalkedFace}
use Rattle.orient_certificate.specs.Crossings.{flipped, Climb, Meets, IsGraph, IsOddWalk, no_step, partner_of}
use Rattle.face_orient.specs.FlagWalk.{IsFlagWalk, IsDone, IsOrigin, IsChild, walked_of, unreached}
use Rattle.orient_certificate.specs.Graph.{Suit}
use Rattle.face_orient.specs.Paths.{EndAlike, LeadUpTo}
use Rattle.face_orient.specs.Steady.{IsSteady}
use Rattle.orient_certificate.proofs.Walks.{climb_push, odd_walk}
use Rattle.face_orient.proofs.FlagWalks.{listed_low, all_listed}

pub known_place : (n : ℕ) (cs : List Crossing) (first : Bool) (places : List WalkedFace) (order : List ℕ) (f : ℕ) (p : WalkedFace) → IsFlagWalk n cs first places order
    → Has order f → p ≡ get_or places f p → p ≡ walked_of places f
known_place n cs first places order f p walk m e =
    e ∙ default_apart places f p unreached (omega (arith, listed_low n cs first places order f walk m, walk.size))

pub child_of : (n : ℕ) (cs : List Crossing) (first : Bool) (places : List WalkedFace) (order : List ℕ) (f : ℕ) → IsFlagWalk n cs first places order → Has order f
    → 0 < (walked_of places f).depth → IsChild cs places f
child_of n cs first places order f walk m deep = ⊎_elim (λ (o : IsOrigin first places f). absurd (omega (arith, deep, o.depth)))
    (λ (o : IsChild cs places f). o) (walk.known f m)

-- the face before, and the climb to it
pub climb_up : (n : ℕ) (cs : List Crossing) (first : Bool) (places : List WalkedFace) (order : List ℕ) (f b : ℕ) (t : Bool) (path new : List ℕ) (p : WalkedFace)
    → IsFlagWalk n cs first places order → (child : IsChild cs places f) → p ≡ walked_of places f → new ≡ path ++ p.up ∷ []
    → Climb cs b t path f (walked_of places f).flag → Has order (get_or cs p.up no_step).from × Climb cs b t new (get_or cs p.up no_step).from
    (walked_of places (get_or cs p.up no_step).from).flag
climb_up n cs first places order f b t path new p walk child same e climbed =
    let at : slice_get cs p.up ≡ Some child.step = ap (λ (x : WalkedFace). slice_get cs x.up) same ∙ child.at in
    let step : get_or cs p.up no_step ≡ child.step = get_or_from_slice_get cs p.up child.step no_step at in
    let on : Climb cs b t (path ++ p.up ∷ []) child.step.from (walked_of places child.step.from).flag =
    climb_push cs path b t f (walked_of places f).flag p.up child.step (walked_of places child.step.from).flag climbed at child.to child.flag in
    subst (λ (x : Crossing). Has order x.from × Climb cs b t new x.from (walked_of places x.from).flag) (sym step)
    (walk.listed child.step.from child.parent, subst (λ rs. Climb cs b t rs child.step.from (walked_of places child.step.from).flag) (sym e) on)

-- at the end of a climb lies the first face
pub climb_done : (n : ℕ) (cs : List Crossing) (first : Bool) (places : List WalkedFace) (order : List ℕ) (f b : ℕ) (t : Bool) (path : List ℕ)
    → IsFlagWalk n cs first places order → Has order f → (walked_of places f).depth ≡ 0 → Climb cs b t path f (walked_of places f).flag → Climb cs b t path 0 first
climb_done n cs first places order f b t path walk m flat climbed =
    ⊎_elim (λ (o : IsOrigin first places f). subst (λ g. Climb cs b t path g first) o.is_first (subst (Climb cs b t path f) o.flag climbed))
    (λ (o : IsChild cs places f). absurd (omega (arith, flat, o.deeper))) (walk.known f m)

-- the last row of a climb
pub climb_pop : (cs : List Crossing) (path : List ℕ) (r b : ℕ) (t : Bool) (a : ℕ) (s : Bool) → Climb cs b t (path ++ r ∷ []) a s
    → (c : Crossing) × (slice_get cs r ≡ Some c) × Climb cs b t path c.to (flipped c.flips s)
climb_pop cs [] r b t a s (c, u, at, to, flag, (e, k)) = (c, at, (sym to, flag ∙ ap (flipped c.flips) k))
climb_pop cs (x ∷ path) r b t a s (c, u, at, to, flag, rest) =
    let h = climb_pop cs path r c.from u a s rest in
    (h.0, h.1, (c, u, at, to, flag, h.2))

take_front : (front : List ℕ) (r : ℕ) → take (length (front ++ r ∷ []) - 1) (front ++ r ∷ []) ≡ front
take_front front r = let n : length (front ++ r ∷ []) - 1 ≡ length front = omega (arith, length-append front (r ∷ [])) in ap (λ k. take k (front ++ r ∷ [])) n
    ∙ fronts front
  where
    fronts : (xs : List ℕ) → take (length xs) (xs ++ r ∷ []) ≡ xs
    fronts [] = refl
    fronts (x ∷ xs) = ap (λ ys. x ∷ ys) (fronts xs)

popped : (old new front : List ℕ) (r : ℕ) → old ≡ front ++ r ∷ [] → new ≡ take (length old - 1) old → new ≡ front
popped old new front r e is = is ∙ (ap (λ xs. take (length xs - 1) xs) e ∙ take_front front r)

pub common_dropped : (down up down2 up2 : List ℕ) (n m : ℕ) → EndAlike down up → n ≡ length down → m ≡ length up → down2 ≡ take (n - 1) down
    → up2 ≡ take (m - 1) up → (cs : List Crossing) (a b : ℕ) (p q : Bool) → LeadUpTo cs a p down b q up → LeadUpTo cs a p down2 b q up2
common_dropped down up down2 up2 n m ends e k is_down is_up cs a b p q l =
    let x = climb_pop cs ends.before_down ends.row a p l.face l.flag (subst (λ rs. Climb cs a p rs l.face l.flag) ends.is_down l.from_a) in
    let y = climb_pop cs ends.before_up ends.row b q l.face l.flag (subst (λ rs. Climb cs b q rs l.face l.flag) ends.is_up l.from_b) in
    let same : y.0 ≡ x.0 = same_Some y.0 x.0 (sym y.1 ∙ x.1) in
    record {
      face = x.0.to;
      flag = flipped x.0.flips l.flag;
      from_a = subst (λ rs. Climb cs a p rs x.0.to (flipped x.0.flips l.flag))
          (sym (popped down down2 ends.before_down ends.row ends.is_down (is_down ∙ ap (λ i. take (i - 1) down) e))) x.2;
      from_b = subst (λ rs. Climb cs b q rs x.0.to (flipped x.0.flips l.flag))
          (sym (popped up up2 ends.before_up ends.row ends.is_up (is_up ∙ ap (λ i. take (i - 1) up) k)))
          (subst (λ (k : Crossing). Climb cs b q ends.before_up k.to (flipped k.flips l.flag)) same y.2);
    }

pub climb_low : (cs : List Crossing) (path : List ℕ) (b : ℕ) (t : Bool) (a : ℕ) (s : Bool) → Climb cs b t path a s → AllByRecursion (λ r. r < length cs) path
climb_low cs [] b t a s h = tt
climb_low cs (r ∷ path) b t a s (c, u, at, to, flag, rest) = (slice_get_within cs r c at, climb_low cs path c.from u a s rest)

-- Two climbs from the faces of a step that disagrees, less what they have in common, make an odd walk.
pub ring_made : (n : ℕ) (cs : List Crossing) → IsGraph n cs → (r : ℕ) (c : Crossing) (p q : Bool) (down up : List ℕ) → slice_get cs r ≡ Some c
    → LeadUpTo cs c.from p down c.to q up → q ≢ flipped c.flips p → (rows : List ℕ) → rows ≡ reverse down ++ r ∷ map (partner_of cs) up → IsOddWalk cs rows
ring_made n cs graph r c p q down up at l ne rows e = subst (IsOddWalk cs) (sym e) (odd_walk n cs graph r c p q down up l.face l.flag at l.from_a l.from_b ne)

-- all faces are listed, where all are reached
pub all_known : (n : ℕ) (cs : List Crossing) (first : Bool) (places : List WalkedFace) (order : List ℕ) → IsFlagWalk n cs first places order
    → ((g : ℕ) → Has order g → IsDone cs order g) → AllByRecursion (LeadsTo (Meets cs) 0) (numbers_from 0 n) → (f : ℕ) → f < n → Has order f
all_known n cs first places order walk done all f lt =
    let chain = All-at (LeadsTo (Meets cs) 0) (numbers_from 0 n) all f (number_within 0 n f (omega arith) (omega (arith, lt))) in
    all_listed cs order done chain.0 0 f walk.begun chain.1

flag_at : (places : List WalkedFace) (f : ℕ) → get_or (map (λ (p : WalkedFace). p.flag) places) f false ≡ (walked_of places f).flag
flag_at [] f = refl
flag_at (p ∷ ps) zero = refl
flag_at (p ∷ ps) (suc f) = flag_at ps f

length-flags : (places : List WalkedFace) → length (map (λ (p : WalkedFace). p.flag) places) ≡ length places
length-flags [] = refl
length-flags (p ∷ ps) = ap suc (length-flags ps)

first_flag : (flags : List Bool) → 0 < length flags → slice_get flags 0 ≡ Some (get_or flags 0 false)
first_flag [] h = absurd (omega (arith, h))
first_flag (b ∷ bs) h = refl

-- the flags of steady places suit
pub flags_suit : (n : ℕ) (cs : List Crossing) (first : Bool) (places : List WalkedFace) (order : List ℕ) (flags : List Bool) → IsFlagWalk n cs first places order
    → ((r : ℕ) (c : Crossing) → slice_get cs r ≡ Some c → IsSteady places c) → flags ≡ map (λ (p : WalkedFace). p.flag) places → Suit cs n first flags
flags_suit n cs first places order flags walk steady e = subst (Suit cs n first) (sym e) (record {
  each = length-flags places ∙ walk.size;
  own = first_flag (map (λ (p : WalkedFace). p.flag) places)
      (omega (arith, length-flags places, walk.size, listed_low n cs first places order 0 walk walk.begun)) ∙ ap Some (flag_at places 0 ∙ walk.origin.flag);
  agree = λ r c at. flag_at places c.to ∙ (steady r c at ∙ ap (flipped c.flips) (sym (flag_at places c.from)));
})
