-- What is left of the loops and uses of a shell.
use Rattle.std.specs.Prelude.{◌≡◌, ◌<◌, ◌≤◌, ◌+◌, ℕ, zero, suc, Bool, List, [], ◌∷◌, ◌++◌, ◌⊎◌, length, map, flat_map, slice_get, Option, Some, None}
use Rattle.std.specs.Prelude.{MatchOption, IfSome, IfNone}
use Rattle.std.specs.List.{AllByRecursion, enumerate_from}
use Rattle.std.proofs.Common.{refl, sym, ◌∙◌, ap, subst, arith, inl, inr, ⊎_elim, get_or, drop}
use Rattle.std.proofs.lemmas.List.{get_or-append-add, length-map, drop_all}
use Rattle.std.proofs.Math.ListN.{get_or-append}
use Rattle.std.proofs.Math.Seq.{drop-cons}
use Rattle.std.proofs.lemmas.Bool.{cases_lt}
use Rattle.solid_data.specs.Ring.{next_of_each}
use Rattle.solid_data.specs.Obligations.{Obligation, obligation, FirstFalse, FirstNot, AllHold}
use Rattle.solid_data.specs.SolidData.{SolidData, PlacedLoop, placed_in_face, placed_loops}
use Rattle.solid_data.specs.declared.solid.Loop.{Loop}
use Rattle.solid_data.specs.declared.solid.LoopAt.{LoopAt}
use Rattle.solid_data.specs.declared.solid.LoopUse.{LoopUse}
use Rattle.solid_data.specs.declared.solid.FaceUse.{FaceUse}
use Rattle.solid_data.specs.declared.solid.Shell.{Shell}
use Rattle.solid_data.specs.declared.verdict.Rule.TheVariants.{Unjoined as RuleUnjoined}
use Rattle.solid_data.proofs.ObligationLemmas.{Remains, FirstFalse-not_all, of_each-AllHold, AllByRecursion-weaker}
use Rattle.edge_uses.specs.declared.joining.Unjoined.{Unjoined}
use Rattle.edge_uses.specs.Joins.{start_of, end_of, IsJoined, ends_and_starts, loop_obligations, join_obligations, IsFirstUnjoined}
use Rattle.edge_uses.specs.ShellRows.{EndsMeet, rows_of}
use Rattle.edge_uses.proofs.RowLemmas.{ends_meet}
use Rattle.edge_uses.specs.Joining.{placed_at, AllJoined, IsFirstOpen, LeftOf}
use Rattle.edge_uses.proofs.JoinLemmas.{joined_from_hold, hold_from_joined, length-next}
use Rattle.solid_data.proofs.Members.{Has-from_place, All-at}

abbrev pub ends_of_uses : SolidData → Loop → List ℕ
ends_of_uses s l = map (end_of s) l.uses

abbrev pub starts_of_next : SolidData → Loop → List ℕ
starts_of_next s l = next_of_each (map (start_of s) l.uses)

abbrev pub use_obligation : Loop → ℕ × ℕ × ℕ → Obligation
use_obligation l u = obligation RuleUnjoined l.entity.0 u.0 (u.1 ≡ u.2)

-- the obligations of the uses from i on
abbrev pub uses_left : SolidData → Loop → ℕ → List Obligation
uses_left s l i = map (use_obligation l) (ends_and_starts (i + 1) (drop i (ends_of_uses s l)) (drop i (starts_of_next s l)))

pub next_get : (xs : List ℕ) (i : ℕ) → i + 1 < length xs → get_or (next_of_each xs) i 0 ≡ get_or xs (i + 1) 0
next_get [] i h = absurd (omega (arith, h))
next_get (x ∷ xs) i h = let e : i + 1 ≡ suc i = omega arith in get_or-append xs (x ∷ []) 0 i (omega (arith, h)) ∙ ap (λ n. get_or (x ∷ xs) n 0) (sym e)

pub next_last : (xs : List ℕ) (i : ℕ) → i < length xs → length xs ≤ i + 1 → get_or (next_of_each xs) i 0 ≡ get_or xs 0 0
next_last [] i h k = absurd (omega (arith, h))
next_last (x ∷ xs) i h k = let e : i ≡ length xs + 0 = omega (arith, h, k) in ap (λ n. get_or (xs ++ x ∷ []) n 0) e ∙ get_or-append-add xs (x ∷ []) 0 0

-- the first of the uses left, and the others
split_uses : (s : SolidData) (l : Loop) (i : ℕ) → i < length l.uses → (P : List Obligation → Type 0)
    → P (uses_left s l i) → P (use_obligation l (i + 1, get_or (ends_of_uses s l) i 0, get_or (starts_of_next s l) i 0) ∷ uses_left s l (i + 1))
split_uses s l i lt P h =
    let xs : List ℕ = ends_of_uses s l in
    let ys : List ℕ = starts_of_next s l in
    let in_xs : i < length xs = omega (arith, lt, length-map l.uses (end_of s)) in
    let in_ys : i < length ys = omega (arith, lt, length-map l.uses (start_of s), length-next (map (start_of s) l.uses)) in
    let more : suc i ≡ i + 1 = omega arith in
    subst (λ n. P (use_obligation l (i + 1, get_or xs i 0, get_or ys i 0) ∷ map (use_obligation l) (ends_and_starts (i + 1 + 1) (drop n xs) (drop n ys)))) more
    (subst (λ us. P (map (use_obligation l) (ends_and_starts (i + 1) (get_or xs i 0 ∷ drop (suc i) xs) us))) (drop-cons ys i 0 in_ys)
    (subst (λ us. P (map (use_obligation l) (ends_and_starts (i + 1) us (drop i ys)))) (drop-cons xs i 0 in_xs) h))

pub use_joins : (s : SolidData) (l : Loop) (i : ℕ) (all : List Obligation) → i < length l.uses → Remains (uses_left s l i) all
    → get_or (ends_of_uses s l) i 0 ≡ get_or (starts_of_next s l) i 0 → Remains (uses_left s l (i + 1)) all
use_joins s l i all lt r e =
    let k = split_uses s l i lt (λ os. Remains os all) r in
    record { holds = λ h. k.holds (e, h); fails = λ x h. k.fails x (inr (e, h)) }

pub use_opens : (s : SolidData) (l : Loop) (i : ℕ) (all : List Obligation) → i < length l.uses → Remains (uses_left s l i) all
    → (get_or (ends_of_uses s l) i 0 ≡ get_or (starts_of_next s l) i 0 → ⊥) → FirstFalse all (record { rule = RuleUnjoined; entity = l.entity; place = i + 1 })
use_opens s l i all lt r ne = (split_uses s l i lt (λ os. Remains os all) r).fails _ (inl (ne, refl))

pub uses_done : (s : SolidData) (l : Loop) (i : ℕ) → length l.uses ≤ i → Remains (uses_left s l i) (loop_obligations s l) → IsJoined s l
uses_done s l i h r =
    let none : drop i (ends_of_uses s l) ≡ [] = drop_all i (ends_of_uses s l) (omega (arith, h, length-map l.uses (end_of s))) in
    joined_from_hold s l (r.holds (subst (λ us. AllHold (map (use_obligation l) (ends_and_starts (i + 1) us (drop i (starts_of_next s l))))) (sym none) tt))

-- Loops.

all_joined_append : (s : SolidData) (ps qs : List PlacedLoop) → AllJoined s ps → AllJoined s qs → AllJoined s (ps ++ qs)
all_joined_append s [] qs a b = b
all_joined_append s (p ∷ ps) qs a b = (a.0, all_joined_append s ps qs a.1 b)

first_not_front : {A : Type 0} (P : A → Type 0) (ps qs : List A) (x : A) → FirstNot P ps x → FirstNot P (ps ++ qs) x
first_not_front P [] qs x h = absurd h
first_not_front P (p ∷ ps) qs x h = ⊎_elim (λ a. inl a) (λ b. inr (b.0, first_not_front P ps qs x b.1)) h

first_not_rest : {A : Type 0} (P : A → Type 0) (ps qs : List A) (x : A) → AllByRecursion P ps → FirstNot P qs x → FirstNot P (ps ++ qs) x
first_not_rest P [] qs x a h = h
first_not_rest P (p ∷ ps) qs x a h = inr (a.0, first_not_rest P ps qs x a.1 h)

pub left_all : (s : SolidData) (all : List PlacedLoop) → LeftOf s all all
left_all s all = record { join = λ h. h; opens = λ at place h. h }

pub left_less : (s : SolidData) (ps rest all : List PlacedLoop) → LeftOf s (ps ++ rest) all → AllJoined s ps → LeftOf s rest all
left_less s ps rest all l a = record {
  join = λ h. l.join (all_joined_append s ps rest a h);
  opens = λ at place h. l.opens at place
      (record {
        placed = h.placed;
        first = first_not_rest (λ (p : PlacedLoop). IsJoined s p.loop) ps rest h.placed a h.first;
        is_at = h.is_at;
        is_place =
            h.is_place;
      });
}

pub left_opens : (s : SolidData) (ps rest all : List PlacedLoop) (at : LoopAt) (place : ℕ) → LeftOf s (ps ++ rest) all → IsFirstOpen s ps at place
    → IsFirstOpen s all at place
left_opens s ps rest all at place l h =
    l.opens at place (record
    { placed = h.placed; first = first_not_front (λ (p : PlacedLoop). IsJoined s p.loop) ps rest h.placed h.first; is_at = h.is_at; is_place = h.is_place })

-- the loops of a face from i on
abbrev pub loops_left : ℕ → Bool → List Loop → ℕ → List PlacedLoop
loops_left face forwards ls i = map (placed_at face forwards) (enumerate_from i (drop i ls))

abbrev pub faces_left : Bool → List FaceUse → ℕ → List PlacedLoop
faces_left flag fs i = flat_map (placed_in_face flag) (enumerate_from i (drop i fs))

pub split_drop : {A : Type 0} (xs : List A) (x : A) (i : ℕ) → i < length xs → get_or xs i x ≡ x → drop i xs ≡ x ∷ drop (i + 1) xs
split_drop xs x i lt e = let more : suc i ≡ i + 1 = omega arith in drop-cons xs i x lt ∙ (ap (λ y. y ∷ drop (suc i) xs) e ∙ ap (λ n. x ∷ drop n xs) more)

pub split_loops : (face : ℕ) (forwards : Bool) (ls : List Loop) (l : Loop) (i : ℕ) → i < length ls → get_or ls i l ≡ l
    → loops_left face forwards ls i ≡ (placed_at face forwards (i, l) ∷ []) ++ loops_left face forwards ls (i + 1)
split_loops face forwards ls l i lt e = ap (λ us. map (placed_at face forwards) (enumerate_from i us)) (split_drop ls l i lt e)

pub split_faces : (flag : Bool) (fs : List FaceUse) (f : FaceUse) (i : ℕ) → i < length fs → get_or fs i f ≡ f
    → faces_left flag fs i ≡ placed_in_face flag (i, f) ++ faces_left flag fs (i + 1)
split_faces flag fs f i lt e = ap (λ us. flat_map (placed_in_face flag) (enumerate_from i us)) (split_drop fs f i lt e)

pub at_place : {A : Type 0} (P : A → Type 0) (xs : List A) (x : A) (i : ℕ) → AllByRecursion P xs → i < length xs → get_or xs i x ≡ x → P x
at_place P xs x i all lt e = All-at P xs all x (Has-from_place xs x i lt e)

pub loop_opens : (s : SolidData) (face : ℕ) (forwards : Bool) (ls : List Loop) (l : Loop) (i place : ℕ) (all : List PlacedLoop) → i < length ls
    → get_or ls i l ≡ l
    → LeftOf s (loops_left face forwards ls i) all → FirstFalse (loop_obligations s l) (record { rule = RuleUnjoined; entity = l.entity; place = place })
    → IsFirstOpen s all (record { face = record { 0 = face }; place = i }) place
loop_opens s face forwards ls l i place all lt e left bad =
    left_opens s (placed_at face forwards (i, l) ∷ []) (loops_left face forwards ls (i + 1)) all _ place
    (subst (λ us. LeftOf s us all) (split_loops face forwards ls l i lt e) left)
    (record {
      placed = placed_at face forwards (i, l);
      first = inl ((λ h. FirstFalse-not_all (loop_obligations s l) _ bad (hold_from_joined s l h)), refl);
      is_at = refl;
      is_place = bad;
    })

pub face_opens : (s : SolidData) (flag : Bool) (fs : List FaceUse) (f : FaceUse) (i place : ℕ) (at : LoopAt) (all : List PlacedLoop) → i < length fs
    → get_or fs i f ≡ f
    → LeftOf s (faces_left flag fs i) all → IsFirstOpen s (placed_in_face flag (i, f)) at place → IsFirstOpen s all at place
face_opens s flag fs f i place at all lt e left bad =
    left_opens s (placed_in_face flag (i, f)) (faces_left flag fs (i + 1)) all at place (subst (λ us. LeftOf s us all) (split_faces flag fs f i lt e) left) bad

pub face_joins : (s : SolidData) (flag : Bool) (fs : List FaceUse) (f : FaceUse) (i : ℕ) (all : List PlacedLoop) → i < length fs → get_or fs i f ≡ f
    → LeftOf s (faces_left flag fs i) all → AllJoined s (placed_in_face flag (i, f)) → LeftOf s (faces_left flag fs (i + 1)) all
face_joins s flag fs f i all lt e left ok = left_less s (placed_in_face flag (i, f)) (faces_left flag fs (i + 1)) all
    (subst (λ us. LeftOf s us all) (split_faces flag fs f i lt e) left) ok

pub map_get : {A : Type 0} (f : A → ℕ) (us : List A) (i : ℕ) (d : A) → i < length us → get_or (map f us) i 0 ≡ f (get_or us i d)
map_get f [] i d h = absurd (omega (arith, h))
map_get f (u ∷ us) zero d h = refl
map_get f (u ∷ us) (suc i) d h = map_get f us i d (omega (arith, h))

-- the start of the use that comes next
next_start : (s : SolidData) (us : List LoopUse) (i next : ℕ) (d : LoopUse) → i < length us → next < length us → (i + 1 < length us → next ≡ i + 1)
    → (length us ≤ i + 1 → next ≡ 0)
    → get_or (next_of_each (map (start_of s) us)) i 0 ≡ start_of s (get_or us next d)
next_start s us i next d lt low more last = by_place (cases_lt (i + 1) (length us))
  where
    by_place : (i + 1 < length us) ⊎ (length us ≤ i + 1) → get_or (next_of_each (map (start_of s) us)) i 0 ≡ start_of s (get_or us next d)
    by_place (inl h) =
        next_get (map (start_of s) us) i (omega (arith, h, length-map us (start_of s)))
        ∙ (ap (λ n. get_or (map (start_of s) us) n 0) (sym (more h)) ∙ map_get (start_of s) us next d low)
    by_place (inr h) =
        next_last (map (start_of s) us) i (omega (arith, lt, length-map us (start_of s))) (omega (arith, h, length-map us (start_of s)))
        ∙ (ap (λ n. get_or (map (start_of s) us) n 0) (sym (last h)) ∙ map_get (start_of s) us next d low)

pub ends_next : (s : SolidData) (us : List LoopUse) (i next : ℕ) (d : LoopUse) (a b : ℕ) → i < length us → next < length us
    → (i + 1 < length us → next ≡ i + 1) → (length us ≤ i + 1 → next ≡ 0)
    → a ≡ end_of s (get_or us i d) → b ≡ start_of s (get_or us next d)
    → (a ≡ b → get_or (map (end_of s) us) i 0 ≡ get_or (next_of_each (map (start_of s) us)) i 0)
    × (get_or (map (end_of s) us) i 0 ≡ get_or (next_of_each (map (start_of s) us)) i 0 → a ≡ b)
ends_next s us i next d a b lt low more last ea eb =
    let x : a ≡ get_or (map (end_of s) us) i 0 = ea ∙ sym (map_get (end_of s) us i d lt) in
    let y : b ≡ get_or (next_of_each (map (start_of s) us)) i 0 = eb ∙ sym (next_start s us i next d lt low more last) in
    ((λ e. sym x ∙ (e ∙ y)), (λ e. x ∙ (e ∙ sym y)))

first_open_is : (s : SolidData) (h : Shell) (r : Option Unjoined)
    → MatchOption r (AllJoined s (placed_loops h)) (λ u. IsFirstOpen s (placed_loops h) u.at u.place)
    → MatchOption r (AllHold (join_obligations s h)) (λ u. IsFirstUnjoined s h u.at u.place)
first_open_is s h None a =
    of_each-AllHold (λ (p : PlacedLoop). loop_obligations s p.loop) (placed_loops h)
    (AllByRecursion-weaker (λ (p : PlacedLoop). IsJoined s p.loop) (λ (p : PlacedLoop). AllHold (loop_obligations s p.loop)) (placed_loops h)
    (λ p. hold_from_joined s p.loop) a)
first_open_is s h (Some u) a = record { placed = a.placed; first = a.first; is_at = a.is_at; is_place = a.is_place }

pub first_at_shell : (s : SolidData) (k : ℕ) (h : Shell) (r : Option Unjoined) → slice_get s.shells k ≡ Some h
    → MatchOption r (AllJoined s (placed_loops h)) (λ u. IsFirstOpen s (placed_loops h) u.at u.place)
    → IfSome (slice_get s.shells k) (λ h. MatchOption r (AllHold (join_obligations s h)) (λ u. IsFirstUnjoined s h u.at u.place))
first_at_shell s k h r e a =
    subst (λ o. IfSome o (λ h. MatchOption r (AllHold (join_obligations s h)) (λ u. IsFirstUnjoined s h u.at u.place))) (sym e) (first_open_is s h r a)

-- where no loop is open, the rows' ends meet
pub meet_at_shell : (s : SolidData) (k : ℕ) (h : Shell) (r : Option Unjoined) → slice_get s.shells k ≡ Some h
    → MatchOption r (AllJoined s (placed_loops h)) (λ u. IsFirstOpen s (placed_loops h) u.at u.place)
    → IfNone r (EndsMeet (rows_of s (slice_get s.shells k)))
meet_at_shell s k h None at joined = subst (λ o. EndsMeet (rows_of s o)) (sym at) (ends_meet s h joined)
meet_at_shell s k h (Some u) at opens = tt
