-- The heads of the versions, byte by byte.
use Rattle.std.specs.Prelude.{◌≡◌, ◌≢◌, List, ℕ, codes}
use Rattle.std.specs.Fmt.{digits}
use Rattle.std.proofs.Common.{refl}
use Rattle.cert_lines.specs.Line.{head, words}
use Rattle.cert_lines.specs.Parsed.{Spells}
use Rattle.cert_lines.specs.declared.version.Version.{Version}
use Rattle.cert_lines.specs.declared.version.Version.TheVariants.{One, Two, Three}

pub head_one : codes "IGESCERT 1" ≡ words (head One)
unfolding digits
head_one = refl

pub head_two : codes "IGESCERT 2" ≡ words (head Two)
unfolding digits
head_two = refl

pub head_three : codes "IGESCERT 3" ≡ words (head Three)
unfolding digits
head_three = refl

-- a text that is the head of no version
pub no_head : (text : List ℕ) → text ≢ words (head One) → text ≢ words (head Two) → text ≢ words (head Three) → (v : Version) → ¬ Spells text (head v)
no_head text one two three One h = one h.1
no_head text one two three Two h = two h.1
no_head text one two three Three h = three h.1
