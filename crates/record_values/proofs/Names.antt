-- The places that name a number, one after the other.
use Rattle.std.specs.Prelude.{◌≡◌, ◌≢◌, ◌≤◌, ◌<◌, ℕ, zero, suc, IsSome, length, ◌+◌, Bool, true, false, ℤ, List, [], ◌∷◌, ◌++◌, drop, flat_map, IfSome, IfNone}
use Rattle.std.specs.Prelude.{MatchOption, Option, Some, None, slice_get, if◌then◌else◌}
use Rattle.std.specs.List.{enumerate_from}
use Rattle.std.specs.Ordering.{int_eq}
use Rattle.std.proofs.Common.{refl, sym, ◌∙◌, ap, subst, inl, inr, to_z, of_z, arith}
use Rattle.std.proofs.lemmas.Bool.{cases_Bool}
use Rattle.std.proofs.lemmas.Int.{to_z-of_z}
use mir.Val.{SFits}
use mir.Syntax.{w64}
use Rattle.std.proofs.lemmas.Bool.Decides.{Decides-int_eq}
use Rattle.std.proofs.lemmas.Option.{slice_get_past}
use Rattle.iges_base.proofs.Lists.{open_at}
use Rattle.iges_fields.specs.declared.value.Value.{Value}
use Rattle.iges_params.specs.Contents.{Contents}
use Rattle.iges_params.specs.Named.{values_of}
use Rattle.brep_lists.specs.Record.{Items, items_of, Fits, SolidItems, FaceItems}
use Rattle.brep_lists.specs.declared.entity_kind.EntityKind.{EntityKind}
use Rattle.brep_lists.specs.declared.entity_kind.EntityKind.TheVariants.{Solid as solid, Shell as shell, Face as face}
use Rattle.brep_lists.specs.OwnValues.{is_record_of}
use Rattle.brep_lists.proofs.Decided.{decided}
use Rattle.brep_lists.proofs.Places.{none_at}
use Rattle.record_values.specs.declared.naming.Naming.{Naming}
use Rattle.record_values.specs.Naming.{Names, first_of, shells_in, faces_in, loops_in, shells_told, faces_told, loops_told}
use Rattle.record_values.specs.Told.{told_in}

-- ---- what a record tells

abbrev told_if : (kind : EntityKind) → List Value → Bool → Option (Items kind)
told_if kind vs b = if b then Some (items_of kind vs) else None

pub told : (kind : EntityKind) (vs : List Value) (r : Option (Items kind)) → IfSome r (λ items. Fits kind vs items)
    → IfSome r (λ items. items ≡ items_of kind vs)
    → IfNone r ((items : Items kind) → ¬ Fits kind vs items) → r ≡ told_in kind vs
told kind vs None fit is none =
    elim (cases_Bool (is_record_of kind vs)) [
      | inl e ↦ absurd (none (items_of kind vs) ((decided kind vs).0 e))
      | inr e ↦ sym (ap (told_if kind vs) e)
    ]
told kind vs (Some items) fit is none =
    elim (cases_Bool (is_record_of kind vs)) [
      | inl e ↦ ap Some is ∙ sym (ap (told_if kind vs) e)
      | inr e ↦ absurd (let t : is_record_of kind vs ≡ true = (decided kind vs).1 (subst (λ (i : Items kind). Fits kind vs i) is fit)
          in let g : false ≡ true = sym e ∙ t in cc)
    ]

-- ---- the places from one on

abbrev pub items_from : {A : Type 0} → (ℕ × A → List Names) → List A → ℕ → List Names
items_from g xs i = flat_map g (enumerate_from (i + 1) (drop i xs))

pub one_item : {A : Type 0} (g : ℕ × A → List Names) (xs : List A) (i : ℕ) (a : A) → Some a ≡ slice_get xs i
    → items_from g xs i ≡ g (i + 1, a) ++ items_from g xs (i + 1)
one_item {A} g xs i a e = ap (λ ys. flat_map g (enumerate_from (i + 1) ys)) (open_at xs i a (sym e))

pub no_item : {A : Type 0} (g : ℕ × A → List Names) (xs : List A) (i : ℕ) → None ≡ slice_get xs i → items_from g xs i ≡ []
no_item {A} g xs i e = ap (λ ys. flat_map g (enumerate_from (i + 1) ys)) (none_at xs i (sym e))

-- ---- the first that names a number

pub found : (z : ℤ) (x : Names) (xs : List Names) → x.number ≡ z → first_of z (x ∷ xs) ≡ Some x.naming
found z x xs e = ap (λ b. if b then Some x.naming else first_of z xs) ((Decides-int_eq x.number z).1 e)

pub passed : (z : ℤ) (x : Names) (xs : List Names) → x.number ≢ z → first_of z (x ∷ xs) ≡ first_of z xs
passed z x xs ne =
    elim (cases_Bool (int_eq x.number z)) [
      | inl e ↦ absurd (ne ((Decides-int_eq x.number z).0 e))
      | inr e ↦ ap (λ b. if b then Some x.naming else first_of z xs) e
    ]

pub found_among : (z : ℤ) (xs ys : List Names) (n : Naming) → first_of z xs ≡ Some n → first_of z (xs ++ ys) ≡ Some n
found_among z [] ys n e = absurd cc
found_among z (x ∷ xs) ys n e = by_test (int_eq x.number z) (found_among z xs ys n) e
  where
    by_test : (b : Bool) → (first_of z xs ≡ Some n → first_of z (xs ++ ys) ≡ Some n) → (if b then Some x.naming else first_of z xs) ≡ Some n
        → (if b then Some x.naming else first_of z (xs ++ ys)) ≡ Some n
    by_test true more e = e
    by_test false more e = more e

pub none_among : (z : ℤ) (xs ys : List Names) → first_of z xs ≡ None → first_of z (xs ++ ys) ≡ first_of z ys
none_among z [] ys e = refl
none_among z (x ∷ xs) ys e = by_test (int_eq x.number z) (none_among z xs ys) e
  where
    by_test : (b : Bool) → (first_of z xs ≡ None → first_of z (xs ++ ys) ≡ first_of z ys) → (if b then Some x.naming else first_of z xs) ≡ None
        → (if b then Some x.naming else first_of z (xs ++ ys)) ≡ first_of z ys
    by_test true more e = absurd cc
    by_test false more e = more e

-- ---- in the items from one on

pub is_there : {A : Type 0} (xs : List A) (i : ℕ) → i < length xs → IsSome (slice_get xs i)
is_there {A} [] i h = absurd (omega (arith, h))
is_there {A} (x ∷ xs) zero h = refl
is_there {A} (x ∷ xs) (suc i) h = is_there xs i (omega (arith, h))

pub named_here : {A : Type 0} (g : ℕ × A → List Names) (xs : List A) (i : ℕ) (a : A) (z : ℤ) (x : Names) (more : List Names) → Some a ≡ slice_get xs i
    → g (i + 1, a) ≡ x ∷ more → x.number ≡ z → first_of z (items_from g xs i) ≡ Some x.naming
named_here {A} g xs i a z x more e is k =
    ap (first_of z) (one_item g xs i a e) ∙ ap (λ ys. first_of z (ys ++ items_from g xs (i + 1))) is ∙ found z x (more ++ items_from g xs (i + 1)) k

pub named_within : {A : Type 0} (g : ℕ × A → List Names) (xs : List A) (i : ℕ) (a : A) (z : ℤ) (x : Names) (more : List Names) (n : Naming)
    → Some a ≡ slice_get xs i → g (i + 1, a) ≡ x ∷ more → x.number ≢ z → first_of z more ≡ Some n → first_of z (items_from g xs i) ≡ Some n
named_within {A} g xs i a z x more n e is ne k =
    ap (first_of z) (one_item g xs i a e) ∙ ap (λ ys. first_of z (ys ++ items_from g xs (i + 1))) is ∙ passed z x (more ++ items_from g xs (i + 1)) ne
    ∙ found_among z more (items_from g xs (i + 1)) n k

pub not_named : {A : Type 0} (g : ℕ × A → List Names) (xs : List A) (i : ℕ) (a : A) (z : ℤ) (x : Names) (more : List Names) → Some a ≡ slice_get xs i
    → g (i + 1, a) ≡ x ∷ more → x.number ≢ z → first_of z more ≡ None → first_of z (items_from g xs i) ≡ first_of z (items_from g xs (i + 1))
not_named {A} g xs i a z x more e is ne k =
    ap (first_of z) (one_item g xs i a e) ∙ ap (λ ys. first_of z (ys ++ items_from g xs (i + 1))) is ∙ passed z x (more ++ items_from g xs (i + 1)) ne
    ∙ none_among z more (items_from g xs (i + 1)) k

pub named_by_none : {A : Type 0} (g : ℕ × A → List Names) (xs : List A) (z : ℤ) (i : ℕ) → length xs ≤ i → first_of z (items_from g xs i) ≡ None
named_by_none {A} g xs z i past = ap (first_of z) (no_item g xs i (sym (slice_get_past xs i past)))

-- ---- the records of a solid

pub face_told : (f : Contents) (z : ℤ) (vs : List Value) (r : Option FaceItems) → values_of f z ≡ vs → r ≡ told_in face vs
    → MatchOption r (loops_in f z ≡ []) (λ i. loops_in f z ≡ i.loops)
unfolding loops_in
face_told f z vs None e is = ap (λ x. loops_told (told_in face x)) e ∙ sym (ap loops_told is)
face_told f z vs (Some i) e is = ap (λ x. loops_told (told_in face x)) e ∙ sym (ap loops_told is)

pub shell_told : (f : Contents) (z : ℤ) (vs : List Value) (r : Option (List (ℤ × Bool))) → values_of f z ≡ vs → r ≡ told_in shell vs
    → MatchOption r (faces_in f z ≡ []) (λ i. faces_in f z ≡ i)
unfolding faces_in
shell_told f z vs None e is = ap (λ x. faces_told (told_in shell x)) e ∙ sym (ap faces_told is)
shell_told f z vs (Some i) e is = ap (λ x. faces_told (told_in shell x)) e ∙ sym (ap faces_told is)

pub solid_told : (f : Contents) (z : ℤ) (vs : List Value) (r : Option SolidItems) → values_of f z ≡ vs → r ≡ told_in solid vs
    → MatchOption r (shells_in f z ≡ []) (λ i. shells_in f z ≡ i.outer ∷ i.voids)
unfolding shells_in
solid_told f z vs None e is = ap (λ x. shells_told (told_in solid x)) e ∙ sym (ap shells_told is)
solid_told f z vs (Some i) e is = ap (λ x. shells_told (told_in solid x)) e ∙ sym (ap shells_told is)

-- ---- numbers of 64 signed bits

pub alike : (a n : ℤ) → SFits w64 a → of_z w64 a ≡ of_z w64 n → a ≡ to_z w64 (of_z w64 n)
alike a n fits e = sym (to_z-of_z w64 a fits) ∙ ap (to_z w64) e

pub unlike : (a n : ℤ) → SFits w64 n → of_z w64 a ≢ of_z w64 n → a ≢ to_z w64 (of_z w64 n)
unlike a n fits ne e = ne (ap (of_z w64) (e ∙ to_z-of_z w64 n fits))
