-- Where the first line of a text ends.
use Rattle.std.specs.Prelude.{◌≡◌, ◌≢◌, ℕ, ◌<◌, List, ◌∷◌, ◌++◌, IsTrue, length, slice_index}
use Rattle.iges_base.specs.InLine.{is_in_line}
use Rattle.iges_base.specs.Ended.{ended}
use Rattle.cert_lines.specs.Line.{CertLine, HasSpelling, spelling}

-- the first LF
pub record IsFirstEnd (text : List ℕ) (n : ℕ) : Type 0 where
  pub within : n < length text
  pub is_end : slice_index text n ≡ 10
  pub before : (k : ℕ) → k < n → slice_index text k ≢ 10

-- The text begins with this line, which the first LF ends, and this follows it.
pub record EndsFirst (text line after : List ℕ) : Type 0 where
  pub front : List ℕ
  pub in_line : IsTrue (is_in_line front)
  pub line_is : line ≡ ended front
  pub whole : text ≡ front ++ 10 ∷ after

-- The text begins with this line, and this follows it.
pub record BeginsLine (text : List ℕ) (line : CertLine) (after : List ℕ) : Type 0 where
  pub spelled : HasSpelling line
  pub whole : text ≡ spelling line ++ after
