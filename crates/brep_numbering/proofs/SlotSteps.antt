-- The slots of items, step by step.
use Rattle.std.specs.Prelude.{◌≡◌, ◌≢◌, ◌<◌, ◌==◌, ◌⊎◌, ℕ, zero, suc, Bool, true, false, List, [], ◌∷◌, ◌++◌, length, slice_get, slice_index, Option, Some}
use Rattle.std.specs.Prelude.{None, if◌then◌else◌}
use Rattle.std.proofs.Common.{refl, sym, ◌∙◌, ap, subst, inl, inr, arith, get_or}
use Rattle.std.proofs.lemmas.Bool.{cases_eq, eq-eqb, eqb-true}
use Rattle.std.proofs.lemmas.Option.{slice_get_past, slice_get_read, same_Some}
use Rattle.iges_base.specs.declared.entry_no.EntryNo.{EntryNo}
use Rattle.brep_numbering.specs.Slots.{Slots, slot_in, HasSlots, HasNoSlots}

-- where the place is no list's own, nothing is in the slots
unowned : (o : Option (EntryNo × List ℕ)) (l i : ℕ) → ((s : EntryNo × List ℕ) → o ≡ Some s → ¬ (s.0.0 ≡ l)) → slot_in o l i ≡ 0
unowned None l i other = refl
unowned (Some s) l i other = by_test (s.0.0 == l) refl
  where
    by_test : (b : Bool) → (s.0.0 == l) ≡ b → (if b then slice_index s.1 i else 0) ≡ 0
    by_test true same = absurd (other s refl (eqb-true s.0.0 l same))
    by_test false e = refl

empty_slots : (owner : EntryNo) (l i : ℕ) → slot_in (Some (owner, [])) l i ≡ 0
empty_slots owner l i = by_test (owner.0 == l)
  where
    by_test : (b : Bool) → (if b then slice_index [] i else 0) ≡ 0
    by_test true = refl
    by_test false = refl

-- slots that are empty say nothing
one_more : (slots : List (EntryNo × List ℕ)) (owner : EntryNo) (p l i : ℕ) →
    slot_in (slice_get (slots ++ (owner, []) ∷ []) p) l i ≡ slot_in (slice_get slots p) l i
one_more [] owner zero l i = empty_slots owner l i
one_more [] owner (suc p) l i = refl
one_more (s ∷ slots) owner zero l i = refl
one_more (s ∷ slots) owner (suc p) l i = one_more slots owner p l i

-- A list that owned no slots is given the place past the end.
module _ (lists new : List ℕ) (slots : List (EntryNo × List ℕ)) (list : ℕ) (other : (s : EntryNo × List ℕ) → slice_get slots (slice_index lists list) ≡ Some s →
    ¬ (s.0.0 ≡ list))
    (others : (n : ℕ) → n ≢ list → slice_index new n ≡ slice_index lists n) (here : slice_index new list ≡ length slots) where
  pub given_place : (l i : ℕ) → slot_in (slice_get slots (slice_index new l)) l i ≡ slot_in (slice_get slots (slice_index lists l)) l i
  given_place l i = by_case (cases_eq l list)
    where
      past : slice_get slots (length slots) ≡ None
      past = slice_get_past slots (length slots) (omega arith)

      by_case : (l ≡ list) ⊎ (l ≡ list → ⊥) → slot_in (slice_get slots (slice_index new l)) l i ≡ slot_in (slice_get slots (slice_index lists l)) l i
      by_case (inr differs) = ap (λ p. slot_in (slice_get slots p) l i) (others l differs)
      by_case (inl same) =
          subst (λ n. slot_in (slice_get slots (slice_index new n)) n i ≡ slot_in (slice_get slots (slice_index lists n)) n i) (sym same)
          (ap (λ p. slot_in (slice_get slots p) list i) here ∙
          (ap (λ o. slot_in o list i) past ∙ sym (unowned (slice_get slots (slice_index lists list)) list i other)))

  pub given_slots : (owner : EntryNo) (l i : ℕ) → slot_in (slice_get (slots ++ (owner, []) ∷ []) (slice_index new l)) l i ≡ slot_in
      (slice_get slots (slice_index lists l)) l i
  given_slots owner l i = one_more slots owner (slice_index new l) l i ∙ given_place l i

-- The slots at a list's place, where they are its own and where they aren't.
module _ (s : Slots) (lists : List ℕ) (seen : List (EntryNo × List ℕ)) (of_lists : lists ≡ s.lists) (of_slots : seen ≡ s.slots) (list : EntryNo) (p : ℕ)
    (at : p ≡ slice_index lists list.0)
    (x : EntryNo × List ℕ) (within : p < length seen) (is : (d : EntryNo × List ℕ) → x ≡ get_or seen p d) where
  here_at : slice_index s.lists list.0 ≡ p
  here_at = sym (at ∙ ap (λ l. slice_index l list.0) of_lists)

  stands : slice_get s.slots p ≡ Some x
  stands = ap (λ l. slice_get l p) (sym of_slots) ∙ slice_get_read seen (length seen) p x refl within (is x)

  pub has_slots : true ≡ (x.0.0 == list.0) → HasSlots s list p
  has_slots own = (here_at, (x.1, stands ∙ ap (λ (o : EntryNo). Some (o, x.1)) (ap (λ n. record { 0 = n }) (eqb-true x.0.0 list.0 (sym own)))))

  pub has_no_slots : false ≡ (x.0.0 == list.0) → HasNoSlots s list
  has_no_slots other slots there same =
      let one : x ≡ slots = same_Some x slots (sym stands ∙ (ap (slice_get s.slots) (sym here_at) ∙ there)) in
      absurd (let g : false ≡ true = other ∙ eq-eqb x.0.0 list.0 (ap (λ (y : EntryNo × List ℕ). y.0.0) one ∙ same) in cc)
