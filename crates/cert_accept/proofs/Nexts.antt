-- Lists that fall, and the least number of a list above another.
use Rattle.std.specs.Prelude.{◌≡◌, ℕ, ◌<◌, ◌≤◌, ◌⊎◌, List, [], ◌∷◌, ◌++◌, Option, Some, None}
use Rattle.std.specs.List.{cons_option}
use Rattle.std.proofs.Common.{refl, sym, subst, arith, inl, inr, append_assoc}
use Rattle.solid_data.proofs.Members.{Has, All-at, has_append, has_right}
use Rattle.cert_state.specs.Progress.{IsAbove, first_of}
use Rattle.cert_state.proofs.Segment.{Falls}

-- e is the least of these above the last
pub record IsNext (all : List ℕ) (last : Option ℕ) (e : ℕ) : Type 0 where
  pub known : Has all e
  pub above : IsAbove last e
  pub least : (x : ℕ) → Has all x → IsAbove last x → e ≤ x

pub next_one : (all : List ℕ) (last : Option ℕ) (a b : ℕ) → IsNext all last a → IsNext all last b → a ≡ b
next_one all last a b p q = omega (arith, p.least b q.known q.above, q.least a p.known p.above)

-- Some numbers in front of them, they fall and have all of the list.
pub record Leads (all es : List ℕ) : Type 0 where
  pub later : List ℕ
  pub falls : Falls (later ++ es)
  pub whole : (x : ℕ) → Has all x → Has (later ++ es) x

pub leads_none : (all es : List ℕ) → Falls es → ((x : ℕ) → Has all x → Has es x) → Leads all es
leads_none all es falls whole = record { later = []; falls = falls; whole = whole }

pub leads_less : (all es : List ℕ) (o : Option ℕ) → Leads all (cons_option o es) → Leads all es
leads_less all es None h = h
leads_less all es (Some e) h =
    let same : h.later ++ (e ∷ es) ≡ (h.later ++ e ∷ []) ++ es = sym (append_assoc h.later (e ∷ []) es) in
    record { later = h.later ++ e ∷ []; falls = subst Falls same h.falls; whole = λ x m. subst (λ xs. Has xs x) same (h.whole x m) }

falls_front : (later es : List ℕ) (e x : ℕ) → Falls (later ++ e ∷ es) → Has later x → e < x
falls_front [] es e x h m = absurd m
falls_front (y ∷ later) es e x h (inl same) = subst (λ z. e < z) same (All-at (λ z. z < y) (later ++ e ∷ es) h.0 e (has_right later (e ∷ es) e (inl refl)))
falls_front (y ∷ later) es e x h (inr m) = falls_front later es e x h.1 m

falls_back : (later es : List ℕ) → Falls (later ++ es) → Falls es
falls_back [] es h = h
falls_back (y ∷ later) es h = falls_back later es h.1

none_above : (es : List ℕ) (x : ℕ) → Falls es → Has es x → IsAbove (first_of es) x → ⊥
none_above [] x falls m above = m
none_above (y ∷ es) x falls (inl e) above = omega (arith, above, e)
none_above (y ∷ es) x falls (inr m) above = let lt : x < y = All-at (λ z. z < y) es falls.0 x m in omega (arith, lt, above)

-- The one that comes in front of them is the least above them.
pub next_is : (all es : List ℕ) (e : ℕ) → Leads all (e ∷ es) → Has all e → IsAbove (first_of es) e → IsNext all (first_of es) e
next_is all es e h known above = record { known = known; above = above; least = least }
  where
    by_place : (x : ℕ) → IsAbove (first_of es) x → Has h.later x ⊎ Has (e ∷ es) x → e ≤ x
    by_place x over (inl m) = let lt : e < x = falls_front h.later es e x h.falls m in omega (arith, lt)
    by_place x over (inr (inl same)) = omega (arith, same)
    by_place x over (inr (inr m)) = absurd (none_above es x (falls_back h.later (e ∷ es) h.falls).1 m over)

    least : (x : ℕ) → Has all x → IsAbove (first_of es) x → e ≤ x
    least x m over = by_place x over (has_append h.later (e ∷ es) x (h.whole x m))
