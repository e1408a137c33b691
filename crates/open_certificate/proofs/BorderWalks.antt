-- One number more of a border line.
use Rattle.std.specs.Prelude.{◌≡◌, ℕ, ◌+◌, ◌<◌, List, ◌∷◌, length, Contains}
use Rattle.std.proofs.Common.{sym, ap, subst, arith}
use Rattle.edge_uses.specs.ShellRows.{ShellRows}
use Rattle.cert_text.specs.Text.{Begins, AreNumbers}
use Rattle.cert_state.specs.Progress.{IsAbove}
use Rattle.cert_state.proofs.Rings.{next_left, none_left}
use Rattle.open_certificate.specs.Progress.{OpenProgress, GoesOnTo, FitsBorder}
use Rattle.open_certificate.specs.Walks.{IsBorderRing, FitsBorderLine}

-- The numbers that are left make the ring whole exactly where all make it.
pub record Walked (d : ShellRows) (lone : List ℕ) (first last : ℕ) (rest : List ℕ) (all : List ℕ) (count : ℕ) : Type 0 where
  pub left : List ℕ
  pub numbers : AreNumbers rest left
  pub here : Contains lone last
  pub on : IsBorderRing d lone first last left → IsBorderRing d lone first first all
  pub back : IsBorderRing d lone first first all → IsBorderRing d lone first last left
  pub whole : count + length left ≡ length all + 1

pub walked_none : (d : ShellRows) (lone : List ℕ) (first : ℕ) (rest all : List ℕ) → AreNumbers rest all → Contains lone first
    → Walked d lone first first rest all 1
walked_none d lone first rest all h here = record { left = all; numbers = h; here = here; on = λ r. r; back = λ r. r; whole = omega arith }

pub walked_step : (d : ShellRows) (lone : List ℕ) (first last next : ℕ) (rest after all : List ℕ) (count : ℕ) → Begins rest next after → first < next
    → Contains lone next → GoesOnTo d last next
    → Walked d lone first last rest all count → Walked d lone first next after all (count + 1)
walked_step d lone first last next rest after all count b above marked goes w =
    let n = next_left rest after next w.left b w.numbers in
    record {
      left = n.0;
      numbers = n.2;
      here = marked;
      on = λ r. w.on (subst (IsBorderRing d lone first last) (sym n.1) ((w.here, r.0), (goes, r.1), (above, r.2)));
      back = λ r. (let k = subst (IsBorderRing d lone first last) n.1 (w.back r) in (k.0.1, k.1.1, k.2.1));
      whole = omega (arith, w.whole, ap (λ xs. length xs) n.1);
    }

-- where the next number doesn't go on, nothing makes the ring whole
pub walked_stop : (d : ShellRows) (lone : List ℕ) (first last next : ℕ) (rest after all : List ℕ) (count : ℕ) → Begins rest next after
    → (first < next → Contains lone next → GoesOnTo d last next → ⊥)
    → Walked d lone first last rest all count → IsBorderRing d lone first first all → ⊥
walked_stop d lone first last next rest after all count b never w r =
    let n = next_left rest after next w.left b w.numbers in
    let k = subst (IsBorderRing d lone first last) n.1 (w.back r) in
    never k.2.0 k.0.1.0 k.1.0

pub walked_whole : (d : ShellRows) (lone : List ℕ) (first last : ℕ) (rest all : List ℕ) (count : ℕ) → ((n : ℕ) (after : List ℕ) → ¬ Begins rest n after)
    → GoesOnTo d last first
    → Walked d lone first last rest all count → IsBorderRing d lone first first all × (count ≡ length (first ∷ all))
walked_whole d lone first last rest all count never goes w =
    let e = none_left rest w.left never w.numbers in
    (w.on (subst (IsBorderRing d lone first last) (sym e) ((w.here, tt), (goes, tt), tt)), omega (arith, w.whole, ap (λ xs. length xs) e))

pub walked_broken : (d : ShellRows) (lone : List ℕ) (first last : ℕ) (rest all : List ℕ) (count : ℕ) → ((n : ℕ) (after : List ℕ) → ¬ Begins rest n after)
    → (GoesOnTo d last first → ⊥)
    → Walked d lone first last rest all count → IsBorderRing d lone first first all → ⊥
walked_broken d lone first last rest all count never broken w r =
    let e = none_left rest w.left never w.numbers in
    let k = subst (IsBorderRing d lone first last) e (w.back r) in
    broken k.1.0

-- a border line whose first number is read
pub border_of : (d : ShellRows) (at : OpenProgress) (text others : List ℕ) (first : ℕ) (rs : List ℕ) → Begins text first others → AreNumbers text rs
    → FitsBorderLine d at rs → (ms : List ℕ) × AreNumbers others ms × FitsBorder d at first ms
border_of d at text others first rs b h fits = let n = next_left text others first rs b h in (n.0, n.2, subst (FitsBorderLine d at) n.1 fits)

pub border_ring : (d : ShellRows) (at : OpenProgress) (first : ℕ) (ms : List ℕ) → FitsBorder d at first ms → IsBorderRing d at.lone first first ms
border_ring d at first ms fits = (fits.lone, fits.goes_on, fits.least)

pub border_fits : (d : ShellRows) (at : OpenProgress) (text others : List ℕ) (first len : ℕ) (rs : List ℕ) → Begins text first others → AreNumbers text rs
    → IsAbove at.last_border first
    → ((ms : List ℕ) → AreNumbers others ms → IsBorderRing d at.lone first first ms × (len ≡ length (first ∷ ms)))
    → (ms : List ℕ) × (rs ≡ first ∷ ms) × FitsBorder d at first ms × (length (first ∷ ms) ≡ len)
border_fits d at text others first len rs b h above ring =
    let n = next_left text others first rs b h in
    let r = ring n.0 n.2 in
    (n.0, n.1, record { lone = r.0.0; goes_on = r.0.1; least = r.0.2; rises = above }, sym r.1)
