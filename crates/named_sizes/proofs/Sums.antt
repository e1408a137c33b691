-- Sums of sizes.
use Rattle.std.specs.Prelude.{◌≡◌, ◌⊎◌, ◌<◌, ◌≤◌, ◌+◌, ℕ, zero, suc, ℤ, pos, Bool, true, false, List, [], ◌∷◌, ◌++◌, length, take, Option, Some, IsSome, slice_get}
use Rattle.std.specs.List.{sum_by}
use Rattle.std.proofs.Common.{refl, sym, ap, ◌∙◌, subst, arith, inl, inr, length-append}
use Rattle.std.proofs.lemmas.List.Sums.{sum_by_more}
use Rattle.std.proofs.lemmas.Option.{none-some, same_Some, get_or_from_slice_get, slice_get_within}
use Rattle.std.proofs.lemmas.List.{take_all}
use Rattle.std.proofs.Math.Nat.{min-le_right}
use Rattle.solid_data.proofs.Members.{get_some}
use Rattle.named_sizes.specs.declared.TheConstants.{MOST}
use Rattle.iges_fields.specs.declared.value.Value.{Value}
use Rattle.iges_params.specs.Contents.{Contents}
use Rattle.iges_params.specs.Named.{values_of}
use Rattle.brep_lists.specs.Record.{FaceItems, Fits, Items, SolidItems, items_of}
use Rattle.brep_lists.specs.OwnValues.{is_record_of}
use Rattle.brep_lists.specs.declared.entity_kind.EntityKind.{EntityKind}
use Rattle.brep_lists.specs.declared.entity_kind.EntityKind.TheVariants.{Solid as solid, Shell as shell, Face as face}
use Rattle.brep_lists.proofs.Decided.{decided}
use Rattle.brep_lists.proofs.Views.{fits}
use Rattle.brep_walk.specs.Places.{faces, loops, shells}
use Rattle.named_sizes.specs.Sizes.{AreSizes, capped, face_size, items_if, loop_size, record_size, shell_size, solid_size}

bool_or : (b : Bool) → (b ≡ true → ⊥) → b ≡ false
bool_or true never = absurd (never refl)
bool_or false never = refl

-- the sum so far, and one item more
pub sum_more : {A : Type 0} (size : A → ℕ) (xs : List A) (i : ℕ) (x : A) → slice_get xs i ≡ Some x → sum_by size (take i xs) + size x ≡ sum_by size (take (i + 1) xs)
sum_more size xs i x at =
    let lt = slice_get_within xs i x at in sym (sum_by_more size xs i x lt ∙ ap (λ y. sum_by size (take i xs) + size y) (get_or_from_slice_get xs i x x at))

pub sum_all : {A : Type 0} (size : A → ℕ) (xs : List A) (i : ℕ) → length xs ≤ i → sum_by size (take i xs) ≡ sum_by size xs
sum_all size xs i past = ap (sum_by size) (take_all i xs past)

-- the size of the entry that an item names
abbrev pub sized : (ℤ → ℕ) → ℤ × Bool → ℕ
sized size t = size t.0

-- a value of a list with one more is among those before, or it is the last
get_pushed : (xs : List ℕ) (x y : ℕ) (i : ℕ) → slice_get (xs ++ x ∷ []) i ≡ Some y → (slice_get xs i ≡ Some y) ⊎ ((i ≡ length xs) × (x ≡ y))
get_pushed [] x y zero h = inr (refl, same_Some x y h)
get_pushed [] x y (suc i) h = absurd (none-some y h)
get_pushed (z ∷ zs) x y zero h = inl h
get_pushed (z ∷ zs) x y (suc i) h = elim (get_pushed zs x y i h) [ inl old ↦ inl old | inr last ↦ inr (ap suc last.0, last.1) ]

-- ---- records that fit, and others

yes_record : (kind : EntityKind) (vs : List Value) (items : Items kind) → Fits kind vs items → items ≡ items_of kind vs → is_record_of kind vs ≡ true
yes_record kind vs items fit read = (decided kind vs).1 (subst (λ (i : Items kind). Fits kind vs i) read fit)

no_record : (kind : EntityKind) (vs : List Value) → ((items : Items kind) → Fits kind vs items → ⊥) → is_record_of kind vs ≡ false
no_record kind vs never = bool_or (is_record_of kind vs) (λ yes. never (items_of kind vs) (fits kind vs yes))

module _ (f : Contents) (z : ℤ) (vs : List Value) (at : values_of f z ≡ vs) where
  -- of a face
  pub face_is : (items : FaceItems) → Fits face vs items → items ≡ items_of face vs → sum_by (loop_size f) items.loops ≡ face_size f z
  unfolding face_size
  face_is items fit read =
      ap (λ (i : FaceItems). sum_by (loop_size f) i.loops) read
      ∙ sym (ap (λ ws. sum_by (loop_size f) (items_if (is_record_of face ws) (let i = items_of face ws in i.loops))) at
      ∙ ap (λ b. sum_by (loop_size f) (items_if b (let i = items_of face vs in i.loops))) (yes_record face vs items fit read))

  pub face_none : ((items : Items face) → Fits face vs items → ⊥) → 0 ≡ face_size f z
  unfolding face_size
  face_none never =
      sym (ap (λ b. sum_by (loop_size f) (items_if b (loops f z))) (ap (is_record_of face) at ∙ no_record face vs never))

  -- of a shell
  pub shell_is : (items : List (ℤ × Bool)) → Fits shell vs items → items ≡ items_of shell vs → sum_by (sized (face_size f)) items ≡ shell_size f z
  unfolding shell_size
  shell_is items fit read =
      ap (sum_by (sized (face_size f))) read
      ∙ sym (ap (λ ws. sum_by (sized (face_size f)) (items_if (is_record_of shell ws) (items_of shell ws))) at
      ∙ ap (λ b. sum_by (sized (face_size f)) (items_if b (items_of shell vs))) (yes_record shell vs items fit read))

  pub shell_none : ((items : Items shell) → Fits shell vs items → ⊥) → 0 ≡ shell_size f z
  unfolding shell_size
  shell_none never =
      sym (ap (λ b. sum_by (sized (face_size f)) (items_if b (faces f z))) (ap (is_record_of shell) at ∙ no_record shell vs never))

  -- of a solid
  pub solid_is : (items : SolidItems) → Fits solid vs items → items ≡ items_of solid vs
      → sum_by (sized (shell_size f)) (items.outer ∷ items.voids) ≡ solid_size f z
  unfolding solid_size
  solid_is items fit read =
      ap (λ (i : SolidItems). sum_by (sized (shell_size f)) (i.outer ∷ i.voids)) read
      ∙ sym (ap (λ ws. sum_by (sized (shell_size f)) (items_if (is_record_of solid ws) (let i = items_of solid ws in i.outer ∷ i.voids))) at
      ∙ ap (λ b. sum_by (sized (shell_size f)) (items_if b (let i = items_of solid vs in i.outer ∷ i.voids))) (yes_record solid vs items fit read))

  pub solid_none : ((items : Items solid) → Fits solid vs items → ⊥) → 0 ≡ solid_size f z
  unfolding solid_size
  solid_none never =
      sym (ap (λ b. sum_by (sized (shell_size f)) (items_if b (shells f z))) (ap (is_record_of solid) at ∙ no_record solid vs never))

-- of no entry
pub face_of_none : (f : Contents) (z : ℤ) → values_of f z ≡ [] → 0 ≡ face_size f z
unfolding face_size
face_of_none f z at = sym (ap (λ ws. sum_by (loop_size f) (items_if (is_record_of face ws) (loops f z))) at)

pub shell_of_none : (f : Contents) (z : ℤ) → values_of f z ≡ [] → 0 ≡ shell_size f z
unfolding shell_size
shell_of_none f z at = sym (ap (λ ws. sum_by (sized (face_size f)) (items_if (is_record_of shell ws) (faces f z))) at)

pub solid_of_none : (f : Contents) (z : ℤ) → values_of f z ≡ [] → 0 ≡ solid_size f z
unfolding solid_size
solid_of_none f z at = sym (ap (λ ws. sum_by (sized (shell_size f)) (items_if (is_record_of solid ws) (shells f z))) at)

pub loop_of_none : (f : Contents) (z : ℤ) → values_of f z ≡ [] → 0 ≡ loop_size f z
unfolding loop_size
loop_of_none f z at = sym (ap (λ (ws : List Value). record_size (length ws)) at)

pub loop_is : (f : Contents) (z : ℤ) (vs : List Value) (n : ℕ) → values_of f z ≡ vs → n ≡ length vs → record_size n ≡ loop_size f z
unfolding loop_size
loop_is f z vs n at is = ap record_size is ∙ sym (ap (λ (ws : List Value). record_size (length ws)) at)

-- ---- what is counted at most

pub capped_zero : 0 ≡ capped 0
unfolding capped
capped_zero = refl

pub zero_within : 0 ≤ MOST
zero_within = omega arith

pub capped_within : (x n : ℕ) → x ≡ capped n → x ≤ MOST
unfolding capped
capped_within x n is = subst (λ y. y ≤ MOST) (sym is) (min-le_right n MOST)

-- an item within a list is there
pub is_there : {A : Type 0} (xs : List A) (i : ℕ) (o : Option A) → o ≡ slice_get xs i → i < length xs → IsSome o
is_there {A = A} xs i o is lt = let x = get_some xs i lt in subst (λ (o : Option A). IsSome o) (sym (is ∙ x.1)) refl

-- ---- tables

pub sizes_none : (size : ℤ → ℕ) → AreSizes size []
sizes_none size n x at = absurd (none-some x at)

pub sizes_more : (size : ℤ → ℕ) (n x : ℕ) (old new : List ℕ) → length old ≡ n → new ≡ old ++ x ∷ [] → x ≡ capped (size (pos n)) → AreSizes size old
    → AreSizes size new
sizes_more size n x old new long is last each m y at =
    by_place (get_pushed old x y m (subst (λ (xs : List ℕ). slice_get xs m ≡ Some y) is at))
  where
    by_place : (slice_get old m ≡ Some y) ⊎ ((m ≡ length old) × (x ≡ y)) → y ≡ capped (size (pos m))
    by_place (inl before) = each m y before
    by_place (inr (there, same)) = sym same ∙ (last ∙ ap (λ k. capped (size (pos k))) (sym (there ∙ long)))

pub longer : (old new : List ℕ) (x n : ℕ) → length old ≡ n → new ≡ old ++ x ∷ [] → length new ≡ n + 1
longer old new x n long is = let more = length-append old (x ∷ []) in omega (arith, more, long, ap (λ (xs : List ℕ). length xs) is)
