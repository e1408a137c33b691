-- Names of obligations, and paths to them.
use Rattle.std.specs.Prelude.{◌≡◌, List, [], ◌∷◌, ◌++◌, ◌⊎◌, Option}
use Rattle.std.proofs.Common.{refl, sym, ◌∙◌, inl, inr, ⊎_elim}
use Rattle.solid_data.specs.Obligations.{Obligation, AllHold, FirstFalse}
use Rattle.solid_data.specs.declared.verdict.Failing.{Failing}
use Rattle.record_paths.specs.declared.path.Path.{Path}
use Rattle.record_paths.specs.Paths.{Sited, on, all_owed, IsPathTo}
use Rattle.record_paths.specs.Searched.{Bears}

pub bears_left : (os ps : List Obligation) (x : Failing) → Bears os x → Bears (os ++ ps) x
bears_left [] ps x h = absurd h
bears_left (o ∷ os) ps x h = ⊎_elim inl (λ r. inr (bears_left os ps x r)) h

pub bears_right : (os ps : List Obligation) (x : Failing) → Bears ps x → Bears (os ++ ps) x
bears_right [] ps x h = h
bears_right (o ∷ os) ps x h = inr (bears_right os ps x h)

pub bears_either : (os ps : List Obligation) (x : Failing) → Bears (os ++ ps) x → Bears os x ⊎ Bears ps x
bears_either [] ps x h = inr h
bears_either (o ∷ os) ps x h = ⊎_elim (λ e. inl (inl e)) (λ r. ⊎_elim (λ a. inl (inr a)) inr (bears_either os ps x r)) h

-- the first false one bears the name
pub first_bears : (os : List Obligation) (x : Failing) → FirstFalse os x → Bears os x
first_bears [] x h = absurd h
first_bears (o ∷ os) x h = ⊎_elim (λ b. inl b.1) (λ r. inr (first_bears os x r.1)) h

pub path_one : (x : Failing) (ss : List Sited) (p q : Option Path) → IsPathTo x ss p → IsPathTo x ss q → p ≡ q
path_one x [] p q h k = absurd h
path_one x (s ∷ ss) p q h k =
    ⊎_elim (λ e. h.0 e ∙ sym (k.0 e)) (λ r. ⊎_elim (λ e. h.0 e ∙ sym (k.0 e)) (λ t. path_one x ss p q r t) k.1) h.1

pub path_left : (x : Failing) (a b : List Sited) (w : Option Path) → IsPathTo x a w → IsPathTo x (a ++ b) w
path_left x [] b w h = absurd h
path_left x (s ∷ a) b w h = (h.0, ⊎_elim inl (λ r. inr (path_left x a b w r)) h.1)

pub path_right : (x : Failing) (a b : List Sited) (w : Option Path) → ¬ Bears (all_owed a) x → IsPathTo x b w → IsPathTo x (a ++ b) w
path_right x [] b w none h = h
path_right x (s ∷ a) b w none h = ((λ e. absurd (none (inl e))), inr (path_right x a b w (λ r. none (inr r)) h))

pub path_here : (x : Failing) (p : Option Path) (os : List Obligation) (b : List Sited) → Bears os x → IsPathTo x (on p os ++ b) p
path_here x p [] b h = absurd h
path_here x p (o ∷ os) b h = ((λ e. refl), ⊎_elim inl (λ r. inr (path_here x p os b r)) h)

-- the first false one is in the front, or the front holds and it is in the rest
pub owed_false : (a b : List Sited) (x : Failing) → FirstFalse (all_owed (a ++ b)) x
    → FirstFalse (all_owed a) x ⊎ (AllHold (all_owed a) × FirstFalse (all_owed b) x)
owed_false [] b x h = inr (tt, h)
owed_false (s ∷ a) b x h = ⊎_elim (λ e. inl (inl e)) (λ r. ⊎_elim (λ q. inl (inr (r.0, q))) (λ q. inr ((r.0, q.0), q.1)) (owed_false a b x r.1)) h

pub owed_hold : (a b : List Sited) → AllHold (all_owed (a ++ b)) → AllHold (all_owed a) × AllHold (all_owed b)
owed_hold [] b h = (tt, h)
owed_hold (s ∷ a) b h = let q = owed_hold a b h.1 in ((h.0, q.0), q.1)

pub owed_bears : (a b : List Sited) (x : Failing) → Bears (all_owed (a ++ b)) x → Bears (all_owed a) x ⊎ Bears (all_owed b) x
owed_bears [] b x h = inr h
owed_bears (s ∷ a) b x h = ⊎_elim (λ e. inl (inl e)) (λ r. ⊎_elim (λ q. inl (inr q)) inr (owed_bears a b x r)) h

-- the obligations on one path are those

pub on_hold : (p : Option Path) (os : List Obligation) → AllHold (all_owed (on p os)) → AllHold os
on_hold p [] h = h
on_hold p (o ∷ os) h = (h.0, on_hold p os h.1)

pub on_bears : (p : Option Path) (os : List Obligation) (x : Failing) → Bears (all_owed (on p os)) x → Bears os x
on_bears p [] x h = h
on_bears p (o ∷ os) x h = ⊎_elim inl (λ r. inr (on_bears p os x r)) h

pub bears_on : (p : Option Path) (os : List Obligation) (x : Failing) → Bears os x → Bears (all_owed (on p os)) x
bears_on p [] x h = h
bears_on p (o ∷ os) x h = ⊎_elim inl (λ r. inr (bears_on p os x r)) h

-- The obligations are all on one path.

pub path_on : (x : Failing) (p : Option Path) (os : List Obligation) → Bears os x → IsPathTo x (on p os) p
path_on x p [] h = absurd h
path_on x p (o ∷ os) h = ((λ e. refl), ⊎_elim inl (λ r. inr (path_on x p os r)) h)

pub none_on : (x : Failing) (p : Option Path) (os : List Obligation) → ¬ Bears os x → ¬ Bears (all_owed (on p os)) x
none_on x p os none h = none (on_bears p os x h)

pub on_false : (p : Option Path) (os : List Obligation) (x : Failing) → FirstFalse (all_owed (on p os)) x → FirstFalse os x
on_false p [] x h = h
on_false p (o ∷ os) x h = ⊎_elim inl (λ r. inr (r.0, on_false p os x r.1)) h

pub false_either : (os ps : List Obligation) (x : Failing) → FirstFalse (os ++ ps) x → FirstFalse os x ⊎ (AllHold os × FirstFalse ps x)
false_either [] ps x h = inr (tt, h)
false_either (o ∷ os) ps x h = ⊎_elim (λ b. inl (inl b)) (λ r. ⊎_elim (λ q. inl (inr (r.0, q))) (λ q. inr ((r.0, q.0), q.1)) (false_either os ps x r.1)) h

pub lost_on : (x : Failing) (p : Option Path) (os : List Obligation) → ¬ Bears os x → ¬ AllHold os
    → (¬ AllHold (all_owed (on p os))) × (¬ FirstFalse (all_owed (on p os)) x)
lost_on x p os none bad = ((λ h. bad (on_hold p os h)), (λ h. none (on_bears p os x (first_bears (all_owed (on p os)) x h))))
