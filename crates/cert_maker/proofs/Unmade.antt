-- All solids can be certified, or one is the first that can't, for one reason.
use Rattle.std.specs.Prelude.{◌≡◌, ℕ, ◌+◌, ◌<◌, ◌≤◌, ◌⊎◌, [], ◌∷◌}
use Rattle.std.proofs.Common.{refl, sym, ◌∙◌, ap, arith, inl, inr, ⊎_elim}
use Rattle.iges_base.specs.declared.entry_no.EntryNo.{EntryNo}
use Rattle.iges_params.specs.Contents.{Contents}
use Rattle.brep_walk.specs.Places.{places}
use Rattle.brep_walk.specs.SolidOf.{solid_of}
use Rattle.brep_walk.proofs.Decided.{places_decided}
use Rattle.solid_data.specs.Obligations.{AllHold, FirstFalse}
use Rattle.solid_data.specs.declared.verdict.Failing.{Failing}
use Rattle.solid_data.proofs.Decisions.{Decided, decided_within}
use Rattle.solid_data.proofs.ObligationLemmas.{FirstFalse-one, FirstFalse-not_all}
use Rattle.solid_data.proofs.ObligationsDecided.{all_or_first_false}
use Rattle.shell_rules.specs.ShellObligations.{solid_obligations}
use Rattle.shell_rules.proofs.Decided.{solid_decided}
use Rattle.cert_maker.specs.Book.{uses_of, use_limit, IsMade, IsUnmade}
use Rattle.cert_maker.specs.BookLaws.{OneUnmade, NoneUnmadeWhereMade, MadeOrUnmade}
use Rattle.cert_maker.specs.declared.book.BookFault.{BookFault}
use Rattle.cert_maker.specs.declared.book.BookFault.TheVariants.{NoSolid, Fails, TooMany, NoMemory}

-- One solid.

same_entry : (a b : EntryNo) (n : ℕ) → a.0 ≡ n → b.0 ≡ n → a ≡ b
same_entry a b n x y = ap (λ (k : ℕ). record { 0 = k }) (x ∙ sym y)

made_unmade : (f : Contents) (used n : ℕ) (a : BookFault) → IsMade f used n → IsUnmade f used n a → ⊥
made_unmade f used n NoSolid made w = w
made_unmade f used n (Fails m x) made (is, inl place) = FirstFalse-not_all (places f n) x place made.0
made_unmade f used n (Fails m x) made (is, inr (holds, few, shells)) = FirstFalse-not_all (solid_obligations (solid_of f n)) x shells made.2
made_unmade f used n (TooMany m) made (is, holds, many) = omega (arith, many, made.1)
made_unmade f used n NoMemory made w = w

one_failing : (f : Contents) (used n : ℕ) (x y : Failing)
    → FirstFalse (places f n) x ⊎ (AllHold (places f n) × (used + uses_of f n ≤ use_limit) × FirstFalse (solid_obligations (solid_of f n)) x)
    → FirstFalse (places f n) y ⊎ (AllHold (places f n) × (used + uses_of f n ≤ use_limit) × FirstFalse (solid_obligations (solid_of f n)) y) → x ≡ y
one_failing f used n x y (inl p) (inl q) = FirstFalse-one (places f n) x y p q
one_failing f used n x y (inl p) (inr (holds, few, q)) = absurd (FirstFalse-not_all (places f n) x p holds)
one_failing f used n x y (inr (holds, few, p)) (inl q) = absurd (FirstFalse-not_all (places f n) y q holds)
one_failing f used n x y (inr (holds, few, p)) (inr (holds_too, few_too, q)) = FirstFalse-one (solid_obligations (solid_of f n)) x y p q

fails_or_many : (f : Contents) (used n : ℕ) (x : Failing)
    → FirstFalse (places f n) x ⊎ (AllHold (places f n) × (used + uses_of f n ≤ use_limit) × FirstFalse (solid_obligations (solid_of f n)) x)
    → AllHold (places f n) → use_limit < used + uses_of f n → ⊥
fails_or_many f used n x (inl p) holds many = FirstFalse-not_all (places f n) x p holds
fails_or_many f used n x (inr (placed, few, p)) holds many = omega (arith, few, many)

one_reason : (f : Contents) (used n : ℕ) (a b : BookFault) → IsUnmade f used n a → IsUnmade f used n b → a ≡ b
one_reason f used n NoSolid b p q = absurd p
one_reason f used n NoMemory b p q = absurd p
one_reason f used n (Fails m x) NoSolid p q = absurd q
one_reason f used n (Fails m x) NoMemory p q = absurd q
one_reason f used n (Fails m x) (Fails i y) p q = ap (λ (k : EntryNo). Fails k x) (same_entry m i n p.0 q.0) ∙ ap (Fails i) (one_failing f used n x y p.1 q.1)
one_reason f used n (Fails m x) (TooMany i) p q = absurd (fails_or_many f used n x p.1 q.1 q.2)
one_reason f used n (TooMany m) NoSolid p q = absurd q
one_reason f used n (TooMany m) NoMemory p q = absurd q
one_reason f used n (TooMany m) (Fails i y) p q = absurd (fails_or_many f used n y q.1 p.1 p.2)
one_reason f used n (TooMany m) (TooMany i) p q = ap TooMany (same_entry m i n p.0 q.0)

solid_made_or_not : (f : Contents) (used n : ℕ) → IsMade f used n ⊎ ((a : BookFault) × IsUnmade f used n a)
solid_made_or_not f used n = by_places (all_or_first_false (places f n) (places_decided f n)) (decided_within (used + uses_of f n) use_limit)
    (all_or_first_false (solid_obligations (solid_of f n)) (solid_decided (solid_of f n)))
  where
    entry : EntryNo
    entry = record { 0 = n }

    by_places : AllHold (places f n) ⊎ ((x : Failing) × FirstFalse (places f n) x) → Decided (used + uses_of f n ≤ use_limit)
        → AllHold (solid_obligations (solid_of f n)) ⊎ ((x : Failing) × FirstFalse (solid_obligations (solid_of f n)) x)
        → IsMade f used n ⊎ ((a : BookFault) × IsUnmade f used n a)
    by_places (inr (x, place)) few shells = inr (Fails entry x, (refl, inl place))
    by_places (inl holds) (inr many) shells = inr (TooMany entry, (refl, holds, (omega (arith, many))))
    by_places (inl holds) (inl few) (inr (x, false_one)) = inr (Fails entry x, (refl, inr (holds, few, false_one)))
    by_places (inl holds) (inl few) (inl all) = inl (holds, few, all)

-- All solids.

pub one_unmade : OneUnmade
one_unmade f used [] a b p q = absurd p
one_unmade f used (n ∷ ns) a b (inl p) (inl q) = one_reason f used n a b p q
one_unmade f used (n ∷ ns) a b (inl p) (inr (made, q)) = absurd (made_unmade f used n a made p)
one_unmade f used (n ∷ ns) a b (inr (made, p)) (inl q) = absurd (made_unmade f used n b made q)
one_unmade f used (n ∷ ns) a b (inr (made, p)) (inr (made_too, q)) = one_unmade f (used + uses_of f n) ns a b p q

pub none_unmade : NoneUnmadeWhereMade
none_unmade f used [] a made w = w
none_unmade f used (n ∷ ns) a (made, more) (inl w) = made_unmade f used n a made w
none_unmade f used (n ∷ ns) a (made, more) (inr (made_too, w)) = none_unmade f (used + uses_of f n) ns a more w

pub made_or_unmade : MadeOrUnmade
made_or_unmade f used [] = inl tt
made_or_unmade f used (n ∷ ns) =
    ⊎_elim
    (λ made. ⊎_elim (λ more. inl (made, more)) (λ (a, w). inr (a, inr (made, w))) (made_or_unmade f (used + uses_of f n) ns))
    (λ (a, w). inr (a, inl w))
    (solid_made_or_not f used n)
