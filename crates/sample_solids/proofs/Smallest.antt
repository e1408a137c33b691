-- Records of the sample of 3.
use Rattle.std.specs.Prelude.{◌≡◌, [], ◌∷◌, length}
use Rattle.std.proofs.Common.{refl}
use Rattle.sample_solids.specs.Sample.{shell_record, edges_listed, loop_record, sample}

pub entries_of_three : length (sample 3).entries ≡ 24
unfolding sample
entries_of_three = refl

pub shell_of_three : shell_record 3 ≡ 9 ∷ 13 ∷ 1 ∷ 17 ∷ 1 ∷ 21 ∷ 1 ∷ 25 ∷ 1 ∷ 29 ∷ 1 ∷ 33 ∷ 1 ∷ 37 ∷ 1 ∷ 41 ∷ 1 ∷ 45 ∷ 1 ∷ []
shell_of_three = refl

-- the edges of the last square lead back to the first column and the first row
pub last_edges_of_three : edges_listed 3 (2, 2) ≡ 9 ∷ 5 ∷ 9 ∷ 5 ∷ 7 ∷ 9 ∷ 5 ∷ 9 ∷ 5 ∷ 3 ∷ []
last_edges_of_three = refl

pub last_loop_of_three : loop_record 3 (2, 2) ≡ 4 ∷ 0 ∷ 7 ∷ 17 ∷ 1 ∷ 0 ∷ 0 ∷ 7 ∷ 14 ∷ 1 ∷ 0 ∷ 0 ∷ 7 ∷ 5 ∷ 0 ∷ 0 ∷ 0 ∷ 7 ∷ 18 ∷ 0 ∷ 0 ∷ []
last_loop_of_three = refl
