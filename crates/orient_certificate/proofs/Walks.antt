-- Walks and climbs over steps, with the flags that they lead to.
use Rattle.std.specs.Prelude.{◌≡◌, ◌≢◌, ℕ, zero, suc, Bool, true, false, not, List, [], ◌∷◌, ◌++◌, map, reverse, slice_get, Some}
use Rattle.std.proofs.Common.{refl, sym, ◌∙◌, ap, subst, arith, get_or, length-append}
use Rattle.std.proofs.lemmas.List.{reverse-append}
use Rattle.std.proofs.lemmas.Option.{same_Some}
use Rattle.solid_data.specs.Chain.{Steps}
use Rattle.orient_certificate.specs.declared.crossing.Crossing.{Crossing}
use Rattle.orient_certificate.specs.Crossings.{flipped, IsGraph, HasWayBack, Walk, Climb, no_step, partner_of, Meets, AllAgree, IsOddWalk}

pub flipped_twice : (f b : Bool) → flipped f (flipped f b) ≡ b
flipped_twice true true = refl
flipped_twice true false = refl
flipped_twice false b = refl

pub flipped_not : (f b : Bool) → flipped f (not b) ≡ not (flipped f b)
flipped_not true b = refl
flipped_not false b = refl

pub other_flag : (a b : Bool) → a ≢ b → not a ≡ b
other_flag true true ne = absurd (ne refl)
other_flag true false ne = refl
other_flag false true ne = refl
other_flag false false ne = absurd (ne refl)

pub walk_then : (cs : List Crossing) (xs ys : List ℕ) (a : ℕ) (s : Bool) (b : ℕ) (t : Bool) (c : ℕ) (u : Bool) → Walk cs a s xs b t → Walk cs b t ys c u
    → Walk cs a s (xs ++ ys) c u
walk_then cs [] ys a s b t c u (e, k) w = subst (λ x. Walk cs x s ys c u) (sym e) (subst (λ x. Walk cs b x ys c u) (sym k) w)
walk_then cs (r ∷ xs) ys a s b t c u (st, at, from, rest) w = (st, at, from, walk_then cs xs ys st.to (flipped st.flips s) b t c u rest w)

-- the same with all flags exchanged
pub walk_other : (cs : List Crossing) (xs : List ℕ) (a : ℕ) (s : Bool) (b : ℕ) (t : Bool) → Walk cs a s xs b t → Walk cs a (not s) xs b (not t)
walk_other cs [] a s b t (e, k) = (e, ap not k)
walk_other cs (r ∷ xs) a s b t (st, at, from, rest) =
    (st, at, from, subst (λ x. Walk cs st.to x xs b (not t)) (sym (flipped_not st.flips s)) (walk_other cs xs st.to (flipped st.flips s) b t rest))

pub climb_push : (cs : List Crossing) (path : List ℕ) (b : ℕ) (t : Bool) (c : ℕ) (u : Bool) (r : ℕ) (st : Crossing) (s : Bool) → Climb cs b t path c u
    → slice_get cs r ≡ Some st → st.to ≡ c → u ≡ flipped st.flips s → Climb cs b t (path ++ r ∷ []) st.from s
climb_push cs [] b t c u r st s (e, k) at to flag = (st, s, at, to ∙ sym e, k ∙ flag, (refl, refl))
climb_push cs (x ∷ path) b t c u r st s (d, v, at_x, to_x, flag_x, rest) at to flag =
    (d, v, at_x, to_x, flag_x, climb_push cs path d.from v c u r st s rest at to flag)

pub climb_walk : (cs : List Crossing) (path : List ℕ) (b : ℕ) (t : Bool) (a : ℕ) (s : Bool) → Climb cs b t path a s → Walk cs a s (reverse path) b t
climb_walk cs [] b t a s (e, k) = (sym e, sym k)
climb_walk cs (r ∷ path) b t a s (c, u, at, to, flag, rest) =
    subst (λ rs. Walk cs a s rs b t) (sym (reverse-append (r ∷ []) path))
    (walk_then cs (reverse path) (r ∷ []) a s c.from u b t (climb_walk cs path c.from u a s rest) (c, at, refl, (to, sym flag)))

pub step_at : (cs : List Crossing) (r : ℕ) (c d : Crossing) → slice_get cs r ≡ Some c → get_or cs r d ≡ c
step_at [] r c d at = absurd cc
step_at (x ∷ cs) zero c d at = same_Some x c at
step_at (x ∷ cs) (suc r) c d at = step_at cs r c d at

pub climb_back : (n : ℕ) (cs : List Crossing) → IsGraph n cs → (path : List ℕ) (b : ℕ) (t : Bool) (a : ℕ) (s : Bool) → Climb cs b t path a s
    → Walk cs b t (map (partner_of cs) path) a s
climb_back n cs graph [] b t a s h = h
climb_back n cs graph (r ∷ path) b t a s (c, u, at, to, flag, rest) =
    let way : HasWayBack cs r c = graph.back r c at in
    let here : partner_of cs r ≡ c.partner = ap (λ (x : Crossing). x.partner) (step_at cs r c no_step at) in
    let flag_back : u ≡ flipped way.back.flips t = sym (ap (λ f. flipped f t) way.flips ∙ (ap (flipped c.flips) flag ∙ flipped_twice c.flips u)) in
    let on : Walk cs way.back.to (flipped way.back.flips t) (map (partner_of cs) path) a s =
    subst (λ f. Walk cs f (flipped way.back.flips t) (map (partner_of cs) path) a s) (sym way.to)
    (subst (λ x. Walk cs c.from x (map (partner_of cs) path) a s) flag_back (climb_back n cs graph path c.from u a s rest)) in
    (way.back, ap (λ k. slice_get cs k) here ∙ way.at, way.from ∙ to, on)

-- Two climbs to one face and a step between their ends that disagrees make an odd walk.
pub odd_walk : (n : ℕ) (cs : List Crossing) → IsGraph n cs → (r : ℕ) (c : Crossing) (p q : Bool) (down up : List ℕ) (a : ℕ) (s : Bool) → slice_get cs r ≡ Some c
    → Climb cs c.from p down a s → Climb cs c.to q up a s → q ≢ flipped c.flips p → IsOddWalk cs (reverse down ++ r ∷ map (partner_of cs) up)
odd_walk n cs graph r c p q down up a s at from to ne = record {
  face = a;
  some = omega (arith, length-append (reverse down) (r ∷ map (partner_of cs) up));
  walk = by_flag s whole;
}
  where
    back : Walk cs c.to (flipped c.flips p) (map (partner_of cs) up) a (not s)
    back = subst (λ x. Walk cs c.to x (map (partner_of cs) up) a (not s)) (other_flag q (flipped c.flips p) ne)
        (walk_other cs (map (partner_of cs) up) c.to q a s (climb_back n cs graph up c.to q a s to))

    whole : Walk cs a s (reverse down ++ r ∷ map (partner_of cs) up) a (not s)
    whole = walk_then cs (reverse down) (r ∷ map (partner_of cs) up) a s c.from p a (not s) (climb_walk cs down c.from p a s from) (c, at, refl, back)

    by_flag : (b : Bool) → Walk cs a b (reverse down ++ r ∷ map (partner_of cs) up) a (not b)
        → Walk cs a false (reverse down ++ r ∷ map (partner_of cs) up) a true
    by_flag false w = w
    by_flag true w = walk_other cs (reverse down ++ r ∷ map (partner_of cs) up) a true a false w

-- flags that agree with each step lead along a walk
pub walk_agrees : (cs : List Crossing) (flags : List Bool) → AllAgree flags cs → (rows : List ℕ) (a : ℕ) (s : Bool) (b : ℕ) (t : Bool) → Walk cs a s rows b t
    → get_or flags a false ≡ s → get_or flags b false ≡ t
walk_agrees cs flags agree [] a s b t (e, k) h = subst (λ x. get_or flags x false ≡ t) e (h ∙ k)
walk_agrees cs flags agree (r ∷ rows) a s b t (st, at, from, rest) h =
    walk_agrees cs flags agree rows st.to (flipped st.flips s) b t rest
    (agree r st at ∙ ap (flipped st.flips) (subst (λ x. get_or flags x false ≡ s) (sym from) h))

pub none_agree : (cs : List Crossing) (flags : List Bool) (rows : List ℕ) → AllAgree flags cs → IsOddWalk cs rows → ⊥
none_agree cs flags rows agree odd = by_flag (get_or flags odd.face false) refl
  where
    by_flag : (b : Bool) → get_or flags odd.face false ≡ b → ⊥
    by_flag false e = let k : false ≡ true = sym e ∙ walk_agrees cs flags agree rows odd.face false odd.face true odd.walk e in absurd (cc)
    by_flag true e = let k : true ≡ false = sym e ∙ walk_agrees cs flags agree rows odd.face true odd.face false
        (walk_other cs rows odd.face false odd.face true odd.walk) e in absurd (cc)

-- along steps there is a climb back
pub climb_steps : (cs : List Crossing) (m a b : ℕ) (s : Bool) → Steps (Meets cs) m a b → (t : Bool) × (path : List ℕ) × Climb cs b t path a s
climb_steps cs zero a b s e = (s, [], (sym e, refl))
climb_steps cs (suc m) a b s (c, (r, st, at, from, to), rest) =
    let h = climb_steps cs m c b (flipped st.flips s) rest in
    (h.0, h.1 ++ r ∷ [], subst (λ f. Climb cs b h.0 (h.1 ++ r ∷ []) f s) from (climb_push cs h.1 b h.0 c (flipped st.flips s) r st s h.2 at to refl))

-- flags that agree with each step are alike along steps
pub alike_along : (cs : List Crossing) (x y : List Bool) → AllAgree x cs → AllAgree y cs → (m a b : ℕ) → Steps (Meets cs) m a b
    → get_or x a false ≡ get_or y a false → get_or x b false ≡ get_or y b false
alike_along cs x y ax ay zero a b e h = subst (λ f. get_or x f false ≡ get_or y f false) e h
alike_along cs x y ax ay (suc m) a b (c, (r, st, at, from, to), rest) h =
    let here : get_or x st.from false ≡ get_or y st.from false = subst (λ f. get_or x f false ≡ get_or y f false) (sym from) h in
    let there : get_or x st.to false ≡ get_or y st.to false = ax r st at ∙ (ap (flipped st.flips) here ∙ sym (ay r st at)) in
    alike_along cs x y ax ay m c b rest (subst (λ f. get_or x f false ≡ get_or y f false) to there)
