-- Of the two lists that fit a shell, each the reverse of the other, one is chosen.
use Rattle.std.specs.Prelude.{◌≡◌, ◌⊎◌, ℕ, suc, Bool, true, false, List, [], ◌∷◌, length, Some, slice_get}
use Rattle.std.proofs.Common.{refl, sym, ◌∙◌, ap, subst, inl, inr, arith}
use Rattle.solid_data.specs.SolidData.{SolidData}
use Rattle.orient_certificate.specs.Flags.{face_flags, FlagsFit}
use Rattle.orient_certificate.proofs.Lawful.{one_fit}
use Rattle.flag_choice.specs.Choice.{reversed, chosen}
use Rattle.flag_choice.specs.Suiting.{FlagsOrient, FlagsSuit}
use Rattle.flag_choice.specs.Laws.{SuitOrients, TwoListsOrient, OwnAreChosen, OneChoice}
use Rattle.flag_choice.proofs.ChosenLists.{length-reversed, twice_reversed, chosen_either, chosen_own}
use Rattle.flag_choice.proofs.Reversing.{reversed_differ}

fit_orients : (s : SolidData) (k : ℕ) (flags : List Bool) → FlagsFit s k flags → FlagsOrient s k flags
fit_orients s k flags fit = record { each = fit.each; differ = fit.differ }

reversed_orients : (s : SolidData) (k : ℕ) (flags : List Bool) → FlagsOrient s k flags → FlagsOrient s k (reversed flags)
reversed_orients s k flags o = record { each = length-reversed flags ∙ o.each; differ = reversed_differ s (slice_get s.shells k) flags o.each o.differ }

pub suit_orients : SuitOrients
suit_orients s k x suit = by_choice (chosen_either (face_flags (slice_get s.shells k)) suit.kept)
  where
    by_choice : (chosen (face_flags (slice_get s.shells k)) suit.kept ≡ suit.kept)
        ⊎ (chosen (face_flags (slice_get s.shells k)) suit.kept ≡ reversed suit.kept) → FlagsOrient s k x
    by_choice (inl e) = subst (FlagsOrient s k) (sym (suit.choice ∙ e)) (fit_orients s k suit.kept suit.fit)
    by_choice (inr e) = subst (FlagsOrient s k) (sym (suit.choice ∙ e)) (reversed_orients s k suit.kept (fit_orients s k suit.kept suit.fit))

-- the first face keeps its flag in a list or in its reverse
first_either : (own flags : List Bool) → length flags ≡ length own → (slice_get flags 0 ≡ slice_get own 0) ⊎ (slice_get (reversed flags) 0 ≡ slice_get own 0)
first_either [] [] e = inl refl
first_either [] (b ∷ flags) e = absurd (omega (arith, e))
first_either (a ∷ own) [] e = absurd (omega (arith, e))
first_either (true ∷ own) (true ∷ flags) e = inl refl
first_either (true ∷ own) (false ∷ flags) e = inr refl
first_either (false ∷ own) (true ∷ flags) e = inr refl
first_either (false ∷ own) (false ∷ flags) e = inl refl

-- a list under which the uses run in opposite directions is the one that fits, or its reverse
of_two : (s : SolidData) (k : ℕ) (x y : List Bool) → (suit : FlagsSuit s k x) → FlagsOrient s k y → (y ≡ suit.kept) ⊎ (y ≡ reversed suit.kept)
of_two s k x y suit o = by_first (first_either (face_flags (slice_get s.shells k)) y o.each)
  where
    by_first : (slice_get y 0 ≡ slice_get (face_flags (slice_get s.shells k)) 0) ⊎ (slice_get (reversed y) 0 ≡ slice_get (face_flags (slice_get s.shells k)) 0)
        → (y ≡ suit.kept) ⊎ (y ≡ reversed suit.kept)
    by_first (inl first) =
        inl (one_fit s k suit.counted suit.reached y suit.kept (record { each = o.each; first = first; differ = o.differ }) suit.fit)
    by_first (inr first) =
        let turned : FlagsOrient s k (reversed y) = reversed_orients s k y o in
        let same : reversed y ≡ suit.kept =
        one_fit s k suit.counted suit.reached (reversed y) suit.kept (record { each = turned.each; first = first; differ = turned.differ }) suit.fit in
        inr (sym (twice_reversed y) ∙ ap reversed same)

pub two_lists : TwoListsOrient
two_lists s k x y suit o = by_both (of_two s k x y suit o) (of_two s k x x suit (suit_orients s k x suit))
  where
    by_both : (y ≡ suit.kept) ⊎ (y ≡ reversed suit.kept) → (x ≡ suit.kept) ⊎ (x ≡ reversed suit.kept) → (y ≡ x) ⊎ (y ≡ reversed x)
    by_both (inl p) (inl q) = inl (p ∙ sym q)
    by_both (inl p) (inr q) = inr (p ∙ (sym (twice_reversed suit.kept) ∙ ap reversed (sym q)))
    by_both (inr p) (inl q) = inr (p ∙ ap reversed (sym q))
    by_both (inr p) (inr q) = inl (p ∙ sym q)

pub own_chosen : OwnAreChosen
own_chosen s k x suit o =
    let same : suit.kept ≡ face_flags (slice_get s.shells k) =
    one_fit s k suit.counted suit.reached suit.kept (face_flags (slice_get s.shells k)) suit.fit (record { each = refl; first = refl; differ = o.differ }) in
    suit.choice ∙ (ap (chosen (face_flags (slice_get s.shells k))) same ∙ chosen_own (face_flags (slice_get s.shells k)))

-- one list is chosen
pub one_list : (s : SolidData) (k : ℕ) (x y : List Bool) → FlagsSuit s k x → FlagsSuit s k y → x ≡ y
one_list s k x y a b =
    a.choice ∙ (ap (chosen (face_flags (slice_get s.shells k))) (one_fit s k a.counted a.reached a.kept b.kept a.fit b.fit) ∙ sym b.choice)

same_lists : {A : Type 0} (xs ys : List A) → length xs ≡ length ys → ((k : ℕ) (x y : A) → slice_get xs k ≡ Some x → slice_get ys k ≡ Some y → x ≡ y) → xs ≡ ys
same_lists [] [] e each = refl
same_lists [] (y ∷ ys) e each = absurd (omega (arith, e))
same_lists (x ∷ xs) [] e each = absurd (omega (arith, e))
same_lists (x ∷ xs) (y ∷ ys) e each =
    ap (λ z. z ∷ xs) (each 0 x y refl refl) ∙ ap (λ zs. y ∷ zs)
    (same_lists xs ys (let less : length xs ≡ length ys = omega (arith, e) in less) (λ k a b p q. each (suc k) a b p q))

pub one_flags : OneChoice
one_flags s x y a b = same_lists x y (a.each ∙ sym b.each) (λ k v w p q. one_list s k v w (a.suit k v p) (b.suit k w q))
