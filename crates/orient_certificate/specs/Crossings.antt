-- Rows as steps from face to face, each with the way back.
use Rattle.std.specs.Prelude.{◌≡◌, ℕ, ◌<◌, Bool, true, false, not, List, [], ◌∷◌, length, slice_get, Some, get_or}
use Rattle.solid_data.specs.SolidData.{SolidData, same_flag}
use Rattle.edge_uses.specs.declared.row.Row.{Row}
use Rattle.edge_uses.specs.ShellRows.{ShellRows}
use Rattle.edge_uses.specs.RowRelations.{OnFace}
use Rattle.orient_certificate.specs.Partners.{ArePartners}
use Rattle.orient_certificate.specs.Flags.{rows_at}
use Rattle.orient_certificate.specs.OddRing.{bare_rows}
use Rattle.orient_certificate.specs.declared.crossing.Crossing.{Crossing}

-- the flag on the other side
abbrev pub flipped : Bool → Bool → Bool
flipped true flag = not flag
flipped false flag = flag

-- the step of row r, given which faces are walked as they stand
pub record IsStep (d : ShellRows) (forwards : List Bool) (r : ℕ) (c : Crossing) : Type 0 where
  pub partners : ArePartners d r c.partner
  pub from : OnFace d c.from r
  pub to : OnFace d c.to c.partner
  pub flips : c.flips ≡ same_flag (same_flag partners.row.along (get_or forwards c.from true)) (same_flag partners.partner.along (get_or forwards c.to true))

-- The step of row r of shell k: it flips where the bare directions of the row and its partner are alike.
pub record IsCrossing (s : SolidData) (k r : ℕ) (c : Crossing) : Type 0 where
  pub partners : ArePartners (rows_at s k) r c.partner
  pub from : OnFace (rows_at s k) c.from r
  pub to : OnFace (rows_at s k) c.to c.partner
  pub flips : (a b : Row) → slice_get (bare_rows s k).rows r ≡ Some a → slice_get (bare_rows s k).rows c.partner ≡ Some b → c.flips ≡ same_flag a.along b.along

-- the steps of all rows of shell k
pub record AreCrossings (s : SolidData) (k : ℕ) (cs : List Crossing) : Type 0 where
  pub each : length cs ≡ length (rows_at s k).rows
  pub tell : (r : ℕ) (c : Crossing) → slice_get cs r ≡ Some c → IsCrossing s k r c

-- Steps between n faces, each with the way back.
pub record HasWayBack (cs : List Crossing) (r : ℕ) (c : Crossing) : Type 0 where
  pub back : Crossing
  pub at : slice_get cs c.partner ≡ Some back
  pub partner : back.partner ≡ r
  pub from : back.from ≡ c.to
  pub to : back.to ≡ c.from
  pub flips : back.flips ≡ c.flips

pub record IsGraph (n : ℕ) (cs : List Crossing) : Type 0 where
  pub from_low : (r : ℕ) (c : Crossing) → slice_get cs r ≡ Some c → c.from < n
  pub to_low : (r : ℕ) (c : Crossing) → slice_get cs r ≡ Some c → c.to < n
  pub back : (r : ℕ) (c : Crossing) → slice_get cs r ≡ Some c → HasWayBack cs r c

-- the rows lead from face a with this flag to face b with that one
abbrev pub Walk : List Crossing → ℕ → Bool → List ℕ → ℕ → Bool → Type 0
Walk cs a s [] b t = (a ≡ b) × (s ≡ t)
Walk cs a s (r ∷ rs) b t = (c : Crossing) × (slice_get cs r ≡ Some c) × (c.from ≡ a) × Walk cs c.to (flipped c.flips s) rs b t

-- a step leads from face a to face b
abbrev pub Meets : List Crossing → ℕ → ℕ → Type 0
Meets cs a b = (r : ℕ) × (c : Crossing) × (slice_get cs r ≡ Some c) × (c.from ≡ a) × (c.to ≡ b)

-- each step leads from the flag of its face to the flag of the other one
abbrev pub Agrees : List Bool → Crossing → Type 0
Agrees flags c = get_or flags c.to false ≡ flipped c.flips (get_or flags c.from false)

abbrev pub AllAgree : List Bool → List Crossing → Type 0
AllAgree flags cs = (r : ℕ) (c : Crossing) → slice_get cs r ≡ Some c → Agrees flags c

-- the rows lead from a face with false back to it with true
pub record IsOddWalk (cs : List Crossing) (rows : List ℕ) : Type 0 where
  pub face : ℕ
  pub some : 0 < length rows
  pub walk : Walk cs face false rows face true

-- the last step of a walk first: each leads to a face from the next one's
abbrev pub Climb : List Crossing → ℕ → Bool → List ℕ → ℕ → Bool → Type 0
Climb cs b t [] a s = (b ≡ a) × (t ≡ s)
Climb cs b t (r ∷ rs) a s = (c : Crossing) × (u : Bool) × (slice_get cs r ≡ Some c) × (c.to ≡ b) × (t ≡ flipped c.flips u) × Climb cs c.from u rs a s

-- the other row of each step
abbrev pub no_step : Crossing
no_step = record { from = 0; to = 0; partner = 0; flips = false }

abbrev pub partner_of : List Crossing → ℕ → ℕ
partner_of cs r = (get_or cs r no_step).partner
