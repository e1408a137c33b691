-- A text keeps its place.
use Rattle.std.proofs.Common.{ℕ, ◌<◌, arith}
use Rattle.iges_base.specs.declared.bytes.Held.{Held}
use Rattle.iges_base.specs.declared.bytes.Held.TheVariants as bytes
use Rattle.iges_base.specs.Held.{HasPlace}

pub still_placed : (held : Held) (room more : ℕ) → HasPlace held room → 0 < room → HasPlace held more
still_placed bytes.Nothing room more is some = absurd (omega (arith, is, some))
still_placed (bytes.Text place) room more is some = tt
