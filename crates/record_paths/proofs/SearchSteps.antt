-- One step of a search.
use Rattle.std.specs.Prelude.{◌≡◌, ◌+◌, ◌≤◌, ℕ, zero, suc, List, [], ◌∷◌, ◌++◌, length, take, drop, slice_get, Option, Some, Result, Ok, Err, IsErrAnd}
use Rattle.std.proofs.Common.{refl, sym, ◌∙◌, ap, subst, arith, ⊎_elim, append_assoc}
use Rattle.std.proofs.Math.ListN.{drop_of_length-le}
use Rattle.std.proofs.lemmas.Option.{same_Some, none-some}
use Rattle.solid_data.specs.Obligations.{Obligation, AllHold}
use Rattle.solid_data.specs.declared.verdict.Failing.{Failing}
use Rattle.solid_data.proofs.Members.{split_at}
use Rattle.record_paths.specs.declared.ended.Ended.{Ended}
use Rattle.record_paths.specs.declared.ended.Ended.TheVariants.{Found, Lost}
use Rattle.record_paths.specs.declared.path.Path.{Path}
use Rattle.record_paths.specs.Paths.{Sited, on, all_owed, sited_after}
use Rattle.record_paths.specs.Searched.{Bears, Searched}
use Rattle.record_paths.proofs.Bearing.{first_bears, path_left, path_right, path_here, owed_false, owed_hold, owed_bears, none_on, lost_on}
use Rattle.brep_walk.proofs.WalkSteps.{take_next}

-- the search ended so
abbrev pub Ends : List Sited → Failing → Ended → Type 0
Ends ss x e = Searched {T = Unit {0}} ss x (Err e)

pub handed_on : (ss : List Sited) (x : Failing) (r : Result (Unit {0}) Ended) (e : Ended) → Ends ss x e → IsErrAnd r (λ d. d ≡ e) → Searched ss x r
handed_on ss x (Ok t) e h same = absurd same
handed_on ss x (Err d) e h same = subst (Ends ss x) (sym same) h

pub ended_left : (a b : List Sited) (x : Failing) (e : Ended) → Ends a x e → Ends (a ++ b) x e
ended_left a b x (Found p) h = path_left x a b (Some p) h
ended_left a b x Lost h = ((λ all. h.0 (owed_hold a b all).0), (λ f. ⊎_elim h.1 (λ q. h.0 q.0) (owed_false a b x f)))

pub passed : (a b : List Sited) (x : Failing) (r : Result (Unit {0}) Ended) → ¬ Bears (all_owed a) x → Searched b x r → Searched (a ++ b) x r
passed a b x (Ok t) none h = λ c. ⊎_elim none h (owed_bears a b x c)
passed a b x (Err (Found p)) none h = path_right x a b (Some p) none h
passed a b x (Err Lost) none h =
    ((λ all. h.0 (owed_hold a b all).1), (λ f. ⊎_elim (λ q. none (first_bears (all_owed a) x q)) (λ q. h.1 q.1) (owed_false a b x f)))

pub found_here : (p : Path) (os : List Obligation) (b : List Sited) (x : Failing) → Bears os x → Ends (on (Some p) os ++ b) x (Found p)
found_here p os b x h = path_here x (Some p) os b h

pub lost_here : (p : Option Path) (os : List Obligation) (b : List Sited) (x : Failing) → ¬ Bears os x → ¬ AllHold os → Ends (on p os ++ b) x Lost
lost_here p os b x none bad = ended_left (on p os) b x Lost (lost_on x p os none bad)

pub passed_here : (p : Option Path) (os : List Obligation) (b : List Sited) (x : Failing) (r : Result (Unit {0}) Ended) → ¬ Bears os x → Searched b x r
    → Searched (on p os ++ b) x r
passed_here p os b x r none h = passed (on p os) b x r (none_on x p os none) h

-- A search by places: the i-th item comes next.

-- what is left, from the i-th item on
abbrev pub left_from : {A : Type 0} → (List A → A → List Sited) → List A → ℕ → List Sited
left_from g xs i = sited_after g (take i xs) (drop i xs)

-- what a search of the rest answers is the answer of all
abbrev pub Serves : List Sited → List Sited → Failing → Type 0
Serves rest all x = (r : Result (Unit {0}) Ended) → Searched rest x r → Searched all x r

pub serves_next : {A : Type 0} (g : List A → A → List Sited) (xs : List A) (i : ℕ) (y : A) (all : List Sited) (x : Failing) → slice_get xs i ≡ Some y
    → Serves (left_from g xs i) all x
    → ¬ Bears (all_owed (g (take i xs) y)) x → Serves (left_from g xs (i + 1)) all x
serves_next g xs i y all x at serves none r h =
    serves r (subst (λ ys. Searched (sited_after g (take i xs) ys) x r) (sym (split_at xs i y at))
    (passed (g (take i xs) y) (sited_after g (take i xs ++ y ∷ []) (drop (i + 1) xs)) x r none
    (subst (λ b. Searched (sited_after g b (drop (i + 1) xs)) x r) (take_next xs i y at) h)))

pub serves_end : {A : Type 0} (g : List A → A → List Sited) (xs : List A) (i : ℕ) (y : A) (all : List Sited) (x : Failing) (e : Ended)
    → slice_get xs i ≡ Some y → Serves (left_from g xs i) all x
    → Ends (g (take i xs) y) x e → Ends all x e
serves_end g xs i y all x e at serves h =
    serves (Err e) (subst (λ ys. Ends (sited_after g (take i xs) ys) x e) (sym (split_at xs i y at))
    (ended_left (g (take i xs) y) (sited_after g (take i xs ++ y ∷ []) (drop (i + 1) xs)) x e h))

-- A search by an iterator.

pub serves_more : {A : Type 0} (g : List A → A → List Sited) (before left rest : List A) (y : A) (all : List Sited) (x : Failing) → left ≡ y ∷ rest
    → Serves (sited_after g before left) all x
    → ¬ Bears (all_owed (g before y)) x → Serves (sited_after g (before ++ y ∷ []) rest) all x
serves_more g before left rest y all x step serves none r h =
    serves r (subst (λ ys. Searched (sited_after g before ys) x r) (sym step) (passed (g before y) (sited_after g (before ++ y ∷ []) rest) x r none h))

pub serves_stop : {A : Type 0} (g : List A → A → List Sited) (before left rest : List A) (y : A) (all : List Sited) (x : Failing) (e : Ended) → left ≡ y ∷ rest
    → Serves (sited_after g before left) all x
    → Ends (g before y) x e → Ends all x e
serves_stop g before left rest y all x e step serves h =
    serves (Err e) (subst (λ ys. Ends (sited_after g before ys) x e) (sym step) (ended_left (g before y) (sited_after g (before ++ y ∷ []) rest) x e h))

-- nothing is left

pub serves_done : {A : Type 0} (g : List A → A → List Sited) (xs : List A) (i : ℕ) (all : List Sited) (x : Failing) → length xs ≤ i
    → Serves (left_from g xs i) all x → ¬ Bears (all_owed all) x
serves_done g xs i all x past serves =
    serves (Ok tt) (subst (λ ys. ¬ Bears (all_owed (sited_after g (take i xs) ys)) x) (sym (drop_of_length-le xs past)) (λ b. b))

pub serves_empty : {A : Type 0} (g : List A → A → List Sited) (before left : List A) (all : List Sited) (x : Failing) → left ≡ []
    → Serves (sited_after g before left) all x → ¬ Bears (all_owed all) x
serves_empty g before left all x none serves = serves (Ok tt) (subst (λ ys. ¬ Bears (all_owed (sited_after g before ys)) x) (sym none) (λ b. b))

-- one more that was yielded
pub left_step : {A : Type 0} (yielded left rest all : List A) (x : A) → yielded ++ left ≡ all → left ≡ x ∷ rest → (yielded ++ x ∷ []) ++ rest ≡ all
left_step yielded left rest all x before step = append_assoc yielded (x ∷ []) rest ∙ (ap (λ xs. yielded ++ xs) (sym step) ∙ before)
