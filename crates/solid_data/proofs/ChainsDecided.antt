-- It can be told whether a chain leads from one number to another, where each step can be told and leads below a bound.
use Rattle.std.specs.Prelude.{◌≡◌, ℕ, zero, suc, ◌<◌, ◌⊎◌}
use Rattle.std.proofs.Common.{subst, arith, inl, inr, ⊎_elim}
use Rattle.std.proofs.lemmas.Bool.{cases_order}
use Rattle.solid_data.specs.Chain.{Steps, LeadsTo}
use Rattle.solid_data.proofs.Decisions.{Decided, decided_alike, decided_same, decided_both, decided_either}
use Rattle.solid_data.proofs.Trail.{leads_here, leads_one, leads_trans}

-- a chain leads from a to b, and passes only numbers below the bound
abbrev Passes : (ℕ → ℕ → Type 0) → ℕ → ℕ → ℕ → Type 0
Passes R zero a b = (a ≡ b) ⊎ R a b
Passes R (suc k) a b = Passes R k a b ⊎ (Passes R k a k × Passes R k k b)

passes_decided : (R : ℕ → ℕ → Type 0) → ((a b : ℕ) → Decided (R a b)) → (k a b : ℕ) → Decided (Passes R k a b)
passes_decided R each zero a b = decided_either (decided_same a b) (each a b)
passes_decided R each (suc k) a b = decided_either (passes_decided R each k a b) (decided_both (passes_decided R each k a k) (passes_decided R each k k b))

passes_lead : (R : ℕ → ℕ → Type 0) (k a b : ℕ) → Passes R k a b → LeadsTo R a b
passes_lead R zero a b (inl e) = (zero, e)
passes_lead R zero a b (inr r) = leads_one R a b b r (leads_here R b)
passes_lead R (suc k) a b (inl p) = passes_lead R k a b p
passes_lead R (suc k) a b (inr (p, q)) = let first = passes_lead R k a k p in leads_trans R a k b first.0 first.1 (passes_lead R k k b q)

passes_more : (R : ℕ → ℕ → Type 0) (k a b : ℕ) → (a ≡ b) ⊎ R a b → Passes R k a b
passes_more R zero a b h = h
passes_more R (suc k) a b h = inl (passes_more R k a b h)

to_last : (R : ℕ → ℕ → Type 0) (k a : ℕ) → Passes R (suc k) a k → Passes R k a k
to_last R k a (inl p) = p
to_last R k a (inr (p, q)) = p

from_last : (R : ℕ → ℕ → Type 0) (k b : ℕ) → Passes R (suc k) k b → Passes R k k b
from_last R k b (inl p) = p
from_last R k b (inr (p, q)) = q

through_below : (R : ℕ → ℕ → Type 0) (k c a b : ℕ) → ((x y : ℕ) → Passes R k x c → Passes R k c y → Passes R k x y) → Passes R (suc k) a c →
    Passes R (suc k) c b → Passes R (suc k) a b
through_below R k c a b join (inl p) (inl q) = inl (join a b p q)
through_below R k c a b join (inl p) (inr (q, r)) = inr (join a k p q, r)
through_below R k c a b join (inr (p, q)) (inl r) = inr (p, join k b q r)
through_below R k c a b join (inr (p, q)) (inr (r, t)) = inr (p, t)

-- two chains that meet below the bound are one
passes_through : (R : ℕ → ℕ → Type 0) (k c a b : ℕ) → c < k → Passes R k a c → Passes R k c b → Passes R k a b
passes_through R zero c a b lt p q = absurd (omega (arith, lt))
passes_through R (suc k) c a b lt p q =
    ⊎_elim (λ e. inr (to_last R k a (subst (Passes R (suc k) a) e p), from_last R k b (subst (λ x. Passes R (suc k) x b) e q)))
    (λ other. ⊎_elim (λ below. through_below R k c a b (λ x y first then_on. passes_through R k c x y below first then_on) p q)
    (λ above. absurd (omega (arith, lt, above))) other)
    (cases_order c k)

steps_pass : (R : ℕ → ℕ → Type 0) (bound : ℕ) → ((x y : ℕ) → R x y → y < bound) → (n a b : ℕ) → Steps R n a b → Passes R bound a b
steps_pass R bound below zero a b e = passes_more R bound a b (inl e)
steps_pass R bound below (suc n) a b (c, r, rest) = passes_through R bound c a b (below a c r) (passes_more R bound a c (inr r))
    (steps_pass R bound below n c b rest)

pub leads_decided : (R : ℕ → ℕ → Type 0) → ((a b : ℕ) → Decided (R a b)) → (bound : ℕ) → ((x y : ℕ) → R x y → y < bound) → (a b : ℕ) → Decided (LeadsTo R a b)
leads_decided R each bound below a b = decided_alike (λ p. passes_lead R bound a b p) (λ (n, steps). steps_pass R bound below n a b steps)
    (passes_decided R each bound a b)
