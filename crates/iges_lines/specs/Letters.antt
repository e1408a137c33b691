-- The letters that name sections, in column 73.
use Rattle.std.specs.Prelude.{ℕ}

abbrev pub letter_S : ℕ
letter_S = 83

abbrev pub letter_G : ℕ
letter_G = 71

abbrev pub letter_D : ℕ
letter_D = 68

abbrev pub letter_P : ℕ
letter_P = 80

abbrev pub letter_T : ℕ
letter_T = 84
