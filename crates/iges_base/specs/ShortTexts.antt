-- How a short text is kept.
use Rattle.std.specs.Prelude.{ℕ, ◌≤◌, List, take}
use Rattle.iges_base.specs.declared.short_text.TheConstants.{MIDDLE, SHORT}
use Rattle.iges_base.specs.declared.short_text.Kept.{Kept}
use Rattle.iges_base.specs.declared.short_text.Kept.TheVariants as short

-- the bytes of a short text
abbrev pub text_bytes : Kept → List ℕ
text_bytes (short.Short len bytes) = take len bytes
text_bytes (short.Full bytes) = bytes
text_bytes (short.Middle m) = take m.value.len m.value.bytes
text_bytes (short.Long v) = v.value.items

-- a text with its length beside it has no more bytes than there is room for
abbrev pub IsKept : Kept → Type 0
IsKept (short.Short len bytes) = len ≤ SHORT
IsKept (short.Full bytes) = Unit {0}
IsKept (short.Middle m) = m.value.len ≤ MIDDLE
IsKept (short.Long v) = Unit {0}
