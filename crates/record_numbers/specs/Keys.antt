-- Numbers by keys.
use Rattle.std.specs.Prelude.{◌≡◌, ℕ, ◌<◌, List, length, Option, Some}
use Rattle.std.specs.BTreeMap.{BTreeMap, get_by, btree_map_len}
use Rattle.std.specs.Cmp.Lexicographic.{slice_cmp}
use Rattle.std.specs.Ordering.{nat_cmp}
use Rattle.std.specs.declared.vec.Vec.{Vec}

abbrev pub KeyMap : Type 0 → Type 0
KeyMap Z = BTreeMap (Vec ℕ Z) ℕ

-- the number of a key
abbrev pub number_by : {Z : Type 0} → KeyMap Z → List ℕ → Option ℕ
number_by m key = get_by (λ k. slice_cmp nat_cmp key k.items) m

-- the numbers that keys had, they have still
abbrev pub KeepsNumbers : {Z : Type 0} → KeyMap Z → KeyMap Z → Type 0
KeepsNumbers old new = (key : List ℕ) (x : ℕ) → number_by old key ≡ Some x → number_by new key ≡ Some x

-- no two keys have one number, and each number is less than how many there are
pub record AreNumbers {Z : Type 0} (m : KeyMap Z) : Type 0 where
  pub one : (p q : List ℕ) (x : ℕ) → number_by m p ≡ Some x → number_by m q ≡ Some x → p ≡ q
  pub below : (p : List ℕ) (x : ℕ) → number_by m p ≡ Some x → x < btree_map_len m
