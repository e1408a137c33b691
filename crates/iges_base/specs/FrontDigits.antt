-- The digits at the front of a text.
use Rattle.std.specs.Prelude.{◌≡◌, ◌<◌, ◌≤◌, ◌^◌, ℕ, true, List, length, take}
use Rattle.std.specs.Char.{is_ascii_digit}
use Rattle.std.specs.List.{list_all}
use Rattle.std.specs.Str.Parse.{digits_value}
use Rattle.iges_base.specs.declared.leading_digits.LeadingDigits.{LeadingDigits}

-- so many digits at the front, no more than eighteen, and the number that they write; more may follow
pub record IsDigitsSoFar (text : List ℕ) (len value : ℕ) : Type 0 where
  pub within : len ≤ length text
  pub most : len ≤ 18
  pub all : list_all is_ascii_digit (take len text) ≡ true
  pub is : value ≡ digits_value 10 (take len text)
  pub few : value < 10 ^ len

-- digits at the front, no more than eighteen, and the number that they write
pub record AreLeadingDigits (text : List ℕ) (ds : LeadingDigits) : Type 0 where
  pub within : ds.len ≤ length text
  pub all : list_all is_ascii_digit (take ds.len text) ≡ true
  pub value : ds.value ≡ digits_value 10 (take ds.len text)
  pub few : ds.value < 10 ^ 18
