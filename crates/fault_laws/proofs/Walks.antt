-- Turning from a row of a fan on: as many rows as the fan has, each once, and then the first again.
use Rattle.std.specs.Prelude.{◌≡◌, ◌<◌, ◌≤◌, ◌⊎◌, ℕ, zero, suc, List, [], ◌∷◌, ◌++◌, length, Some, slice_get}
use Rattle.std.specs.List.{AllZip}
use Rattle.std.proofs.Common.{refl, sym, ◌∙◌, ap, subst, arith, inl, inr, ⊎_elim}
use Rattle.std.proofs.lemmas.Bool.Decides.{eqb_tells}
use Rattle.std.proofs.lemmas.Option.{same_Some, slice_get_within}
use Rattle.solid_data.specs.Chain.{Steps, LeadsTo}
use Rattle.solid_data.specs.Ring.{next_of_each}
use Rattle.solid_data.proofs.Members.{Has, NoRepeat, covers, get_some, no_longer}
use Rattle.solid_data.proofs.Trail.{leads_one, leads_trans}
use Rattle.edge_uses.specs.ShellRows.{ShellRows}
use Rattle.edge_uses.specs.RowRelations.{StartsAt, Turns}
use Rattle.edge_uses.specs.Mates.{ArePaired}
use Rattle.edge_uses.proofs.Turns.{mates_involute, turns_permute}
use Rattle.solid_faults.specs.Fans.{AreFans}
use Rattle.solid_faults.proofs.TurnBack.{turn_back}
use Rattle.shell_components.specs.Groups.{places_of}
use Rattle.shell_facts.specs.FanFacts.{by_turns, fan_rows, turn_of}
use Rattle.shell_facts.proofs.TurnSteps.{turn_is}
use Rattle.fault_laws.specs.Rounds.{IsRound}
use Rattle.fault_laws.proofs.Listed.{place_has, place_is, places_once}

-- the row that n turns lead to
abbrev turned : ShellRows → ℕ → ℕ → ℕ
turned d zero r = r
turned d (suc n) r = turned d n (turn_of d r)

-- ---- rows of one fan

pub row_there : (d : ShellRows) (leasts : List ℕ) (q f : ℕ) → AreFans d leasts → slice_get leasts q ≡ Some f → (v : ℕ) × StartsAt d v q
row_there d leasts q f fans at =
    let row = get_some d.rows q (omega (arith, slice_get_within leasts q f at, fans.each)) in (row.0.from.0, (row.0, row.1, refl))

pub turns_on : (d : ShellRows) (leasts : List ℕ) (q f : ℕ) → ArePaired d → AreFans d leasts → slice_get leasts q ≡ Some f → Turns d q (turn_of d q)
turns_on d leasts q f whole fans at =
    let here = row_there d leasts q f fans at in
    let next : (t : ℕ) × Turns d q t = (turns_permute d whole).each here.0 q here.1 in
    subst (Turns d q) (turn_is d q next.0 (mates_involute d whole) next.1) next.1

-- a turn stays in the fan
pub same_fan : (d : ShellRows) (leasts : List ℕ) (q t f : ℕ) → ArePaired d → AreFans d leasts → Turns d q t → slice_get leasts q ≡ Some f
    → slice_get leasts t ≡ Some f
same_fan d leasts q t f whole fans turn at =
    let here = row_there d leasts q f fans at in
    let there : StartsAt d here.0 t = (turns_permute d whole).stays here.0 q t here.1 turn in
    let least : (g : ℕ) × (slice_get leasts t ≡ Some g) = get_some leasts t (omega (arith, slice_get_within d.rows t there.0 there.1, fans.each)) in
    let back : LeadsTo (Turns d) t q = turn_back d here.0 q t whole here.1 turn in
    let low = fans.least t least.0 f least.1 (leads_trans (Turns d) t q f back.0 back.1 (fans.down q f at)) in
    let high = fans.least q f least.0 at (leads_one (Turns d) q t least.0 turn (fans.down t least.0 least.1)) in
    let e : least.0 ≡ f = omega (arith, low, high) in
    subst (λ n. slice_get leasts t ≡ Some n) e least.1

pub fan_along : (d : ShellRows) (leasts : List ℕ) (f n q t : ℕ) → ArePaired d → AreFans d leasts → Steps (Turns d) n q t → slice_get leasts q ≡ Some f
    → slice_get leasts t ≡ Some f
fan_along d leasts f zero q t whole fans e at = subst (λ r. slice_get leasts r ≡ Some f) e at
fan_along d leasts f (suc n) q t whole fans (c, turn, rest) at = fan_along d leasts f n c t whole fans rest (same_fan d leasts q c f whole fans turn at)

pub starts_along : (d : ShellRows) (v n q t : ℕ) → ArePaired d → Steps (Turns d) n q t → StartsAt d v q → StartsAt d v t
starts_along d v zero q t whole e at = subst (StartsAt d v) e at
starts_along d v (suc n) q t whole (c, turn, rest) at = starts_along d v n c t whole rest ((turns_permute d whole).stays v q c at turn)

-- chains of turns lead from each row of a fan to each
all_reached : (d : ShellRows) (leasts : List ℕ) (q x f : ℕ) → AreFans d leasts → slice_get leasts q ≡ Some f → slice_get leasts x ≡ Some f
    → LeadsTo (Turns d) q x
all_reached d leasts q x f fans at there = let down = fans.down q f at in leads_trans (Turns d) q f x down.0 down.1 (fans.back x f there)

-- ---- rows by turns

walk_long : (d : ShellRows) (m q : ℕ) → length (by_turns d m q) ≡ m
walk_long d zero q = refl
walk_long d (suc m) q = ap suc (walk_long d m (turn_of d q))

walk_at : (d : ShellRows) (m q x : ℕ) → Has (by_turns d m q) x → (j : ℕ) × (j < m) × (turned d j q ≡ x)
walk_at d zero q x h = absurd h
walk_at d (suc m) q x (inl e) = (0, omega arith, e)
walk_at d (suc m) q x (inr h) = let g = walk_at d m (turn_of d q) x h in (suc g.0, omega (arith, g.1), g.2)

walk_has : (d : ShellRows) (j m q : ℕ) → j < m → Has (by_turns d m q) (turned d j q)
walk_has d j zero q lt = absurd (omega (arith, lt))
walk_has d zero (suc m) q lt = inl refl
walk_has d (suc j) (suc m) q lt = inr (walk_has d j m (turn_of d q) (omega (arith, lt)))

-- where a row of a walk turns to: to one of it, or past it
walk_next : (d : ShellRows) (m q x : ℕ) → Has (by_turns d m q) x → Has (by_turns d m q) (turn_of d x) ⊎ (turn_of d x ≡ turned d m q)
walk_next d zero q x h = absurd h
walk_next d (suc zero) q x (inl e) = inr (ap (turn_of d) (sym e))
walk_next d (suc zero) q x (inr h) = absurd h
walk_next d (suc (suc m)) q x (inl e) = inl (inr (inl (ap (turn_of d) e)))
walk_next d (suc (suc m)) q x (inr h) = ⊎_elim (λ k. inl (inr k)) (λ e. inr e) (walk_next d (suc m) (turn_of d q) x h)

-- a walk that comes back has all that it leads to
round_has : (d : ShellRows) (m q n x y : ℕ) → ArePaired d → turned d (suc m) q ≡ q → Steps (Turns d) n x y → Has (by_turns d (suc m) q) x
    → Has (by_turns d (suc m) q) y
round_has d m q zero x y whole back e h = subst (Has (by_turns d (suc m) q)) e h
round_has d m q (suc n) x y whole back (c, turn, rest) h =
    let is : c ≡ turn_of d x = turn_is d x c (mates_involute d whole) turn in
    let next : Has (by_turns d (suc m) q) (turn_of d x) = ⊎_elim (λ k. k) (λ e. inl (sym (e ∙ back))) (walk_next d (suc m) q x h) in
    round_has d m q n c y whole back rest (subst (Has (by_turns d (suc m) q)) (sym is) next)

walk_within : (d : ShellRows) (leasts : List ℕ) (f m q x : ℕ) → ArePaired d → AreFans d leasts → slice_get leasts q ≡ Some f → Has (by_turns d m q) x
    → slice_get leasts x ≡ Some f
walk_within d leasts f zero q x whole fans at h = absurd h
walk_within d leasts f (suc m) q x whole fans at (inl e) = subst (λ r. slice_get leasts r ≡ Some f) e at
walk_within d leasts f (suc m) q x whole fans at (inr h) =
    walk_within d leasts f m (turn_of d q) x whole fans (same_fan d leasts q (turn_of d q) f whole fans (turns_on d leasts q f whole fans at) at) h

-- ---- a whole fan

-- no walk comes back before it has the whole fan
too_early : (d : ShellRows) (leasts : List ℕ) (f m q : ℕ) → ArePaired d → AreFans d leasts → slice_get leasts q ≡ Some f → turned d (suc m) q ≡ q
    → length (places_of f leasts) ≤ suc m
too_early d leasts f m q whole fans at back =
    let few = no_longer (places_of f leasts) (by_turns d (suc m) q) (places_once f leasts) (λ x h.
    let reached = all_reached d leasts q x f fans at (place_is f x leasts h) in round_has d m q reached.0 q x whole back reached.1 (inl refl)) in
    omega (arith, few, walk_long d (suc m) q)

pub walk_once : (d : ShellRows) (leasts : List ℕ) (f m q : ℕ) → ArePaired d → AreFans d leasts → m ≤ length (places_of f leasts)
    → slice_get leasts q ≡ Some f → NoRepeat (by_turns d m q)
walk_once d leasts f zero q whole fans few at = tt
walk_once d leasts f (suc m) q whole fans few at =
    let next = same_fan d leasts q (turn_of d q) f whole fans (turns_on d leasts q f whole fans at) at in (
      (λ h. let g = walk_at d m (turn_of d q) q h in
          absurd (omega (arith, few, g.1, too_early d leasts f g.0 q whole fans at g.2))),
      walk_once d leasts f m (turn_of d q) whole fans (omega (arith, few)) next,
    )

-- a walk of as many rows as the fan has lists the whole fan
pub walk_whole : (d : ShellRows) (leasts : List ℕ) (f q x : ℕ) → ArePaired d → AreFans d leasts → slice_get leasts q ≡ Some f → slice_get leasts x ≡ Some f
    → Has (by_turns d (length (places_of f leasts)) q) x
walk_whole d leasts f q x whole fans at there =
    let n : ℕ = length (places_of f leasts) in
    let long = walk_long d n q in
    covers (by_turns d n q) (places_of f leasts) (walk_once d leasts f n q whole fans (omega arith) at)
    (λ y h. place_has f y leasts (walk_within d leasts f n q y whole fans at h)) (omega (arith, long)) x (place_has f x leasts there)

-- and then the first row comes again
walk_back : (d : ShellRows) (leasts : List ℕ) (f q : ℕ) → ArePaired d → AreFans d leasts → slice_get leasts q ≡ Some f
    → turned d (length (places_of f leasts)) q ≡ q
walk_back d leasts f q whole fans at =
    let n : ℕ = length (places_of f leasts) in
    let next = same_fan d leasts q (turn_of d q) f whole fans (turns_on d leasts q f whole fans at) at in
    let g = walk_at d n (turn_of d q) q (walk_whole d leasts f (turn_of d q) q whole fans next at) in
    let least = too_early d leasts f g.0 q whole fans at g.2 in
    let e : suc g.0 ≡ n = omega (arith, g.1, least) in
    subst (λ k. turned d k q ≡ q) e g.2

zipped : (d : ShellRows) (leasts : List ℕ) (f m q z : ℕ) → ArePaired d → AreFans d leasts → slice_get leasts q ≡ Some f → turned d (suc m) q ≡ z
    → AllZip (Turns d) (by_turns d (suc m) q) (by_turns d m (turn_of d q) ++ z ∷ [])
zipped d leasts f zero q z whole fans at e = (subst (Turns d q) e (turns_on d leasts q f whole fans at), tt)
zipped d leasts f (suc m) q z whole fans at e =
    let turn = turns_on d leasts q f whole fans at in
    (turn, zipped d leasts f m (turn_of d q) z whole fans (same_fan d leasts q (turn_of d q) f whole fans turn at) e)

round_of : (d : ShellRows) (leasts : List ℕ) (f n q : ℕ) → ArePaired d → AreFans d leasts → slice_get leasts q ≡ Some f → turned d n q ≡ q
    → IsRound d (by_turns d n q)
round_of d leasts f zero q whole fans at e = tt
round_of d leasts f (suc m) q whole fans at e = zipped d leasts f m q q whole fans at e

pub fan_round : (d : ShellRows) (leasts : List ℕ) (f : ℕ) → ArePaired d → AreFans d leasts → slice_get leasts f ≡ Some f → IsRound d (fan_rows d leasts f)
fan_round d leasts f whole fans at = round_of d leasts f (length (places_of f leasts)) f whole fans at (walk_back d leasts f f whole fans at)

pub fan_once : (d : ShellRows) (leasts : List ℕ) (f : ℕ) → ArePaired d → AreFans d leasts → slice_get leasts f ≡ Some f → NoRepeat (fan_rows d leasts f)
fan_once d leasts f whole fans at = walk_once d leasts f (length (places_of f leasts)) f whole fans (omega arith) at

pub fan_within : (d : ShellRows) (leasts : List ℕ) (f x : ℕ) → ArePaired d → AreFans d leasts → slice_get leasts f ≡ Some f → Has (fan_rows d leasts f) x
    → slice_get leasts x ≡ Some f
fan_within d leasts f x whole fans at h = walk_within d leasts f (length (places_of f leasts)) f x whole fans at h
