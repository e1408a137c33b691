-- What comes before the first false obligation.
use Rattle.std.specs.Prelude.{◌≡◌, List, [], ◌∷◌, ◌++◌, ◌⊎◌, Option}
use Rattle.std.proofs.Common.{◌∙◌, inl, inr, ⊎_elim}
use Rattle.solid_data.specs.Obligations.{Obligation, AllHold, FirstFalse}
use Rattle.solid_data.specs.declared.verdict.Failing.{Failing}
use Rattle.solid_data.proofs.ObligationLemmas.{FirstFalse-append_front, FirstFalse-append_rest}
use Rattle.record_paths.specs.declared.path.Path.{Path}
use Rattle.record_paths.specs.Paths.{Sited, all_owed, AreSame}
use Rattle.record_paths.specs.Searched.{Bears}
use Rattle.record_paths.proofs.Bearing.{false_either}
use Rattle.record_laws.specs.Lying.{LiesOn, ComesBefore}

-- one bears the name, and all before it hold
abbrev pub Reached : Failing → List Obligation → Type 0
Reached x [] = ⊥
Reached x (o ∷ os) = (x ≡ o.failing) ⊎ (o.holds × Reached x os)

pub false_reached : (os : List Obligation) (x : Failing) → FirstFalse os x → Reached x os
false_reached [] x h = h
false_reached (o ∷ os) x h = ⊎_elim (λ b. inl b.1) (λ r. inr (r.0, false_reached os x r.1)) h

pub held_reached : (os : List Obligation) (x : Failing) → AllHold os → Bears os x → Reached x os
held_reached [] x all h = h
held_reached (o ∷ os) x all h = ⊎_elim inl (λ r. inr (all.0, held_reached os x all.1 r)) h

pub reached_bears : (os : List Obligation) (x : Failing) → Reached x os → Bears os x
reached_bears [] x h = h
reached_bears (o ∷ os) x h = ⊎_elim inl (λ r. inr (reached_bears os x r.1)) h

pub reached_split : (a b : List Obligation) (x : Failing) → Reached x (a ++ b) → Reached x a ⊎ (AllHold a × Reached x b)
reached_split [] b x h = inr (tt, h)
reached_split (o ∷ a) b x h =
    ⊎_elim (λ e. inl (inl e)) (λ r. ⊎_elim (λ q. inl (inr (r.0, q))) (λ q. inr ((r.0, q.0), q.1)) (reached_split a b x r.1)) h

pub before_bears : (os : List Obligation) (y x : Failing) → ComesBefore y x os → Bears os y
before_bears [] y x h = h
before_bears (o ∷ os) y x h = ⊎_elim (λ e. inl e.0) (λ r. inr (before_bears os y x r)) h.1

-- in the front, or in the front and the rest, or in the rest
pub before_split : (a b : List Obligation) (y x : Failing) → ComesBefore y x (a ++ b)
    → ComesBefore y x a ⊎ ((AllHold a × Bears a y × FirstFalse b x) ⊎ (AllHold a × ComesBefore y x b))
before_split [] b y x h = inr (inr (tt, h))
before_split (o ∷ a) b y x h =
    ⊎_elim
    (λ e. ⊎_elim (λ q. inl (h.0, inl (e.0, q))) (λ q. inr (inl ((h.0, q.0), inl e.0, q.1))) (false_either a b x e.1))
    (λ r. ⊎_elim (λ q. inl (h.0, inr q))
    (λ q. inr (⊎_elim (λ c. inl ((h.0, c.0), inr c.1, c.2)) (λ c. inr ((h.0, c.0), c.1)) q))
    (before_split a b y x r))
    h.1

pub obligation_front : (a b : List Obligation) (y x : Failing) → ComesBefore y x a → ComesBefore y x (a ++ b)
obligation_front [] b y x h = absurd h
obligation_front (o ∷ a) b y x h =
    (h.0, ⊎_elim (λ e. inl (e.0, FirstFalse-append_front a b x e.1)) (λ r. inr (obligation_front a b y x r)) h.1)

pub obligation_rest : (a b : List Obligation) (y x : Failing) → AllHold a → ComesBefore y x b → ComesBefore y x (a ++ b)
obligation_rest [] b y x all h = h
obligation_rest (o ∷ a) b y x all h = (all.0, inr (obligation_rest a b y x all.1 h))

pub obligation_across : (a b : List Obligation) (y x : Failing) → AllHold a → Bears a y → FirstFalse b x → ComesBefore y x (a ++ b)
obligation_across [] b y x all h late = absurd h
obligation_across (o ∷ a) b y x all h late =
    (all.0, ⊎_elim (λ e. inl (e, FirstFalse-append_rest a b x all.1 late)) (λ r. inr (obligation_across a b y x all.1 r late)) h)

-- ---- with their paths

pub owed_front : (a b : List Sited) (x : Failing) → FirstFalse (all_owed a) x → FirstFalse (all_owed (a ++ b)) x
owed_front [] b x h = absurd h
owed_front (s ∷ a) b x h = ⊎_elim inl (λ r. inr (r.0, owed_front a b x r.1)) h

pub owed_rest : (a b : List Sited) (x : Failing) → AllHold (all_owed a) → FirstFalse (all_owed b) x → FirstFalse (all_owed (a ++ b)) x
owed_rest [] b x all h = h
owed_rest (s ∷ a) b x all h = inr (all.0, owed_rest a b x all.1 h)

pub before_front : (a b : List Sited) (y x : Failing) → ComesBefore y x (all_owed a) → ComesBefore y x (all_owed (a ++ b))
before_front [] b y x h = absurd h
before_front (s ∷ a) b y x h = (h.0, ⊎_elim (λ e. inl (e.0, owed_front a b x e.1)) (λ r. inr (before_front a b y x r)) h.1)

pub before_rest : (a b : List Sited) (y x : Failing) → AllHold (all_owed a) → ComesBefore y x (all_owed b) → ComesBefore y x (all_owed (a ++ b))
before_rest [] b y x all h = h
before_rest (s ∷ a) b y x all h = (all.0, inr (before_rest a b y x all.1 h))

pub before_across : (a b : List Sited) (y x : Failing) → AllHold (all_owed a) → Bears (all_owed a) y → FirstFalse (all_owed b) x
    → ComesBefore y x (all_owed (a ++ b))
before_across [] b y x all h late = absurd h
before_across (s ∷ a) b y x all h late =
    (all.0, ⊎_elim (λ e. inl (e, owed_rest a b x all.1 late)) (λ r. inr (before_across a b y x all.1 r late)) h)

false_same : (os ps : List Obligation) (x : Failing) → AreSame os ps → FirstFalse os x → FirstFalse ps x
false_same [] [] x h k = k
false_same [] (p ∷ ps) x h k = absurd h
false_same (o ∷ os) [] x h k = absurd h
false_same (o ∷ os) (p ∷ ps) x h k =
    ⊎_elim (λ b. inl ((λ y. b.0 (h.1.1 y)), b.1 ∙ h.0)) (λ r. inr (h.1.0 r.0, false_same os ps x h.2 r.1)) k

pub before_same : (os ps : List Obligation) (y x : Failing) → AreSame os ps → ComesBefore y x os → ComesBefore y x ps
before_same [] [] y x h k = k
before_same [] (p ∷ ps) y x h k = absurd h
before_same (o ∷ os) [] y x h k = absurd h
before_same (o ∷ os) (p ∷ ps) y x h k =
    (h.1.0 k.0, ⊎_elim (λ e. inl (e.0 ∙ h.0, false_same os ps x h.2 e.1)) (λ r. inr (before_same os ps y x h.2 r)) k.1)

pub lies_front : (x : Failing) (a b : List Sited) (w : Option Path) → LiesOn x a w → LiesOn x (a ++ b) w
lies_front x [] b w h = absurd h
lies_front x (s ∷ a) b w h = ⊎_elim inl (λ r. inr (r.0, lies_front x a b w r.1)) h

pub lies_rest : (x : Failing) (a b : List Sited) (w : Option Path) → AllHold (all_owed a) → LiesOn x b w → LiesOn x (a ++ b) w
lies_rest x [] b w all h = h
lies_rest x (s ∷ a) b w all h = inr (all.0, lies_rest x a b w all.1 h)
