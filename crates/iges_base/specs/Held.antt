-- How a text is held.
use Rattle.std.specs.Prelude.{◌≡◌, ℕ, List, []}
use Rattle.iges_base.specs.declared.bytes.Held.{Held}
use Rattle.iges_base.specs.declared.bytes.Held.TheVariants as bytes

-- the bytes of a text
abbrev pub held : Held → List ℕ
held bytes.Nothing = []
held (bytes.Text text) = text.value.items

-- where there is room for bytes, there is a place where they will be held
abbrev pub HasPlace : Held → ℕ → Type 0
HasPlace bytes.Nothing room = room ≡ 0
HasPlace (bytes.Text place) room = Unit {0}
