-- Whether a record is of a kind is what the test says.
use Rattle.std.specs.Prelude.{◌≡◌, ℕ, ◌<◌, ◌==◌, ◌&&◌, ◌||◌, nat_lt, Bool, true, false, if◌then◌else◌, ◌⊎◌, ℤ, pos, List, [], ◌∷◌}
use Rattle.std.specs.Bool.{Decides}
use Rattle.std.proofs.Common.{refl, ap, inl, inr}
use Rattle.std.proofs.lemmas.Bool.Decides.{Decides-eqb, Decides-int_eq, Decides-ltb}
use Rattle.std.proofs.lemmas.Slice.Eq.{bytes_eq-Decides}
use Rattle.iges_fields.specs.declared.value.Value.{Value}
use Rattle.iges_fields.specs.declared.value.Value.TheVariants.{Default, Int, Real, Text}
use Rattle.brep_lists.specs.DueValues.{DueValue, pointer, number, flag, at_least_one, count, coordinate, IsCoordinate, IsFiller, Meets, MayBeMissing, MeetsAll}
use Rattle.brep_lists.specs.Record.{due, items_of}
use Rattle.brep_lists.specs.OwnValues.{is_int, is_default, is_filler, is_same_coordinate, meets, may_be_missing, meets_all, RecordsAreDecided}

both : (a b : Bool) (P Q : Type 0) → Decides a P → Decides b Q → Decides (a && b) (P × Q)
both true true P Q h k = (λ e. (h.0 refl, k.0 refl), λ p. refl)
both true false P Q h k = (λ e. absurd (let g : false ≡ true = e in cc), λ p. k.1 p.1)
both false b P Q h k = (λ e. absurd (let g : false ≡ true = e in cc), λ p. h.1 p.0)

either : (a b : Bool) (P Q : Type 0) → Decides a P → Decides b Q → Decides (a || b) (P ⊎ Q)
either true b P Q h k = (λ e. inl (h.0 refl), λ p. refl)
either false true P Q h k = (λ e. inr (k.0 refl), λ p. refl)
either false false P Q h k = (λ e. absurd (let g : false ≡ true = e in cc), by_case)
  where
    by_case : P ⊎ Q → false ≡ true
    by_case (inl p) = h.1 p
    by_case (inr q) = k.1 q

never : (P : Type 0) → (P → ⊥) → Decides false P
never P h = (λ e. absurd (let g : false ≡ true = e in cc), λ p. absurd (h p))

always : (P : Type 0) → P → Decides true P
always P h = (λ e. h, λ p. refl)

int_of_same : (m z : ℤ) → Int m ≡ Int z → m ≡ z
int_of_same m z e = cc

int_test : (z : ℤ) (v : Value) → Decides (is_int z v) (v ≡ Int z)
int_test z Default = never (Default ≡ Int z) (λ e. absurd cc)
int_test z (Int m) = let d = Decides-int_eq m z in (λ e. ap (λ n. Int n) (d.0 e), λ e. d.1 (int_of_same m z e))
int_test z (Real r) = never (Real r ≡ Int z) (λ e. absurd cc)
int_test z (Text t) = never (Text t ≡ Int z) (λ e. absurd cc)

default_test : (v : Value) → Decides (is_default v) (v ≡ Default)
default_test Default = always (Default ≡ Default) refl
default_test (Int m) = never (Int m ≡ Default) (λ e. absurd cc)
default_test (Real r) = never (Real r ≡ Default) (λ e. absurd cc)
default_test (Text t) = never (Text t ≡ Default) (λ e. absurd cc)

filler_test : (v : Value) → Decides (is_filler v) (IsFiller v)
filler_test Default = always (IsFiller Default) tt
filler_test (Int m) = always (IsFiller (Int m)) tt
filler_test (Real r) = never (IsFiller (Real r)) (λ h. h)
filler_test (Text t) = never (IsFiller (Text t)) (λ h. h)

real_of_same : (a b : List ℕ) → Real a ≡ Real b → a ≡ b
real_of_same a b e = cc

coordinate_test : (v w : Value) → Decides (is_same_coordinate v w) ((v ≡ w) × IsCoordinate w)
coordinate_test Default Default = always ((Default ≡ Default) × IsCoordinate Default) (refl, tt)
coordinate_test Default (Int n) = never ((Default ≡ Int n) × IsCoordinate (Int n)) (λ h. let e = h.0 in absurd cc)
coordinate_test Default (Real b) = never ((Default ≡ Real b) × IsCoordinate (Real b)) (λ h. let e = h.0 in absurd cc)
coordinate_test Default (Text b) = never ((Default ≡ Text b) × IsCoordinate (Text b)) (λ h. h.1)
coordinate_test (Int m) Default = never ((Int m ≡ Default) × IsCoordinate Default) (λ h. let e = h.0 in absurd cc)
coordinate_test (Int m) (Int n) = let d = Decides-int_eq m n in (λ e. (ap (λ z. Int z) (d.0 e), tt), λ h. d.1 (int_of_same m n h.0))
coordinate_test (Int m) (Real b) = never ((Int m ≡ Real b) × IsCoordinate (Real b)) (λ h. let e = h.0 in absurd cc)
coordinate_test (Int m) (Text b) = never ((Int m ≡ Text b) × IsCoordinate (Text b)) (λ h. h.1)
coordinate_test (Real a) Default = never ((Real a ≡ Default) × IsCoordinate Default) (λ h. let e = h.0 in absurd cc)
coordinate_test (Real a) (Int n) = never ((Real a ≡ Int n) × IsCoordinate (Int n)) (λ h. let e = h.0 in absurd cc)
coordinate_test (Real a) (Real b) = let d = bytes_eq-Decides a b in (λ e. (ap (λ z. Real z) (d.0 e), tt), λ h. d.1 (real_of_same a b h.0))
coordinate_test (Real a) (Text b) = never ((Real a ≡ Text b) × IsCoordinate (Text b)) (λ h. h.1)
coordinate_test (Text a) Default = never ((Text a ≡ Default) × IsCoordinate Default) (λ h. let e = h.0 in absurd cc)
coordinate_test (Text a) (Int n) = never ((Text a ≡ Int n) × IsCoordinate (Int n)) (λ h. let e = h.0 in absurd cc)
coordinate_test (Text a) (Real b) = never ((Text a ≡ Real b) × IsCoordinate (Real b)) (λ h. let e = h.0 in absurd cc)
coordinate_test (Text a) (Text b) = never ((Text a ≡ Text b) × IsCoordinate (Text b)) (λ h. h.1)

meets_test : (d : DueValue) (v : Value) → Decides (meets d v) (Meets d v)
meets_test (pointer z) v = int_test z v
meets_test (number z) v = int_test z v
meets_test (flag b) v = int_test (if b then pos 1 else pos 0) v
meets_test (at_least_one n) v = both (is_int (pos n) v) (nat_lt 0 n) (v ≡ Int (pos n)) (0 < n) (int_test (pos n) v) (Decides-ltb 0 n)
meets_test (count n) v =
    either (is_int (pos n) v) (is_default v && n == 0) (v ≡ Int (pos n)) ((v ≡ Default) × (n ≡ 0)) (int_test (pos n) v)
    (both (is_default v) (n == 0) (v ≡ Default) (n ≡ 0) (default_test v) (Decides-eqb n 0))
meets_test (coordinate w) v = coordinate_test v w

missing_test : (d : DueValue) (ds : List DueValue) → Decides (may_be_missing (d ∷ ds)) (MayBeMissing (d ∷ ds))
missing_test (pointer z) ds = never (MayBeMissing (pointer z ∷ ds)) (λ h. h)
missing_test (number z) ds = never (MayBeMissing (number z ∷ ds)) (λ h. h)
missing_test (flag b) ds = never (MayBeMissing (flag b ∷ ds)) (λ h. h)
missing_test (at_least_one n) ds = never (MayBeMissing (at_least_one n ∷ ds)) (λ h. h)
missing_test (count n) [] = Decides-eqb n 0
missing_test (count n) (d ∷ ds) = never (MayBeMissing (count n ∷ d ∷ ds)) (λ h. h)
missing_test (coordinate w) ds = never (MayBeMissing (coordinate w ∷ ds)) (λ h. h)

spells_test : (ds : List DueValue) (vs : List Value) → Decides (meets_all ds vs) (MeetsAll ds vs)
spells_test [] [] = always (MeetsAll [] []) tt
spells_test [] (v ∷ vs) = both (is_filler v) (meets_all [] vs) (IsFiller v) (MeetsAll [] vs) (filler_test v) (spells_test [] vs)
spells_test (d ∷ ds) [] = missing_test d ds
spells_test (d ∷ ds) (v ∷ vs) = both (meets d v) (meets_all ds vs) (Meets d v) (MeetsAll ds vs) (meets_test d v) (spells_test ds vs)

pub decided : RecordsAreDecided
decided kind values = spells_test (due kind (items_of kind values)) values
