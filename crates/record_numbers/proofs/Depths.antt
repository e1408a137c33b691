-- Equal records, by depth.
use Rattle.std.specs.Prelude.{◌≡◌, ◌⊎◌, ℕ, zero, suc, ◌+◌, ◌≤◌, ℤ, List, [], ◌∷◌, Option, Some, None}
use Rattle.std.specs.List.{AllZip}
use Rattle.std.proofs.Common.{refl, sym, ap, ◌∙◌, subst, arith, inl, inr}
use Rattle.iges_params.specs.Contents.{Contents}
use Rattle.equal_values.proofs.Texts.{texts_decide}
use Rattle.record_numbers.specs.EqualRecords.{Part, pointer, plain, Told, told, SaySame, AreTold, EqualUpTo}

-- ---- relations that follow from others

module _ (R S : ℤ → ℤ → Type 0) (follows : (a b : ℤ) → R a b → S a b) where
  say_more : (p q : Part) → SaySame R p q → SaySame S p q
  say_more (pointer None) (pointer None) h = h
  say_more (pointer None) (pointer (Some b)) h = absurd h
  say_more (pointer None) (plain w) h = absurd h
  say_more (pointer (Some a)) (pointer None) h = absurd h
  say_more (pointer (Some a)) (pointer (Some b)) h = follows a b h
  say_more (pointer (Some a)) (plain w) h = absurd h
  say_more (plain v) (pointer z) h = absurd h
  say_more (plain v) (plain w) h = h

  all_more : (ps qs : List Part) → AllZip (SaySame R) ps qs → AllZip (SaySame S) ps qs
  all_more [] [] h = h
  all_more [] (q ∷ qs) h = absurd h
  all_more (p ∷ ps) [] h = absurd h
  all_more (p ∷ ps) (q ∷ qs) h = (say_more p q h.0, all_more ps qs h.1)

  pub told_more : (x y : Option Told) → AreTold R x y → AreTold S x y
  told_more (Some x) (Some y) h = (h.0, h.1, all_more x.parts y.parts h.2)
  told_more (Some x) None h = absurd h
  told_more None y h = absurd h

-- ---- depths

pub deeper : (f : Contents) (n m : ℕ) (a b : ℤ) → n ≤ m → EqualUpTo f n a b → EqualUpTo f m a b
deeper f zero m a b le h = absurd h
deeper f (suc n) zero a b le h = absurd (omega (arith, le))
deeper f (suc n) (suc m) a b le (inl h) = inl h
deeper f (suc n) (suc m) a b le (inr h) =
    inr (told_more (EqualUpTo f n) (EqualUpTo f m) (λ c d g. deeper f n m c d (omega (arith, le)) g) (told f a) (told f b) h)

say_up : (f : Contents) (p q : Part) → SaySame (λ a b. (n : ℕ) × EqualUpTo f n a b) p q → (n : ℕ) × SaySame (EqualUpTo f n) p q
say_up f (pointer None) (pointer None) h = (0, h)
say_up f (pointer None) (pointer (Some b)) h = absurd h
say_up f (pointer None) (plain w) h = absurd h
say_up f (pointer (Some a)) (pointer None) h = absurd h
say_up f (pointer (Some a)) (pointer (Some b)) h = h
say_up f (pointer (Some a)) (plain w) h = absurd h
say_up f (plain v) (pointer z) h = absurd h
say_up f (plain v) (plain w) h = (0, h)

-- one depth for all parts
pub all_up : (f : Contents) (ps qs : List Part) → AllZip (SaySame (λ a b. (n : ℕ) × EqualUpTo f n a b)) ps qs → (n : ℕ) × AllZip (SaySame (EqualUpTo f n)) ps qs
all_up f [] [] h = (0, tt)
all_up f [] (q ∷ qs) h = absurd h
all_up f (p ∷ ps) [] h = absurd h
all_up f (p ∷ ps) (q ∷ qs) h = join (say_up f p q h.0) (all_up f ps qs h.1)
  where
    join : ((m : ℕ) × SaySame (EqualUpTo f m) p q) → ((n : ℕ) × AllZip (SaySame (EqualUpTo f n)) ps qs)
        → (n : ℕ) × AllZip (SaySame (EqualUpTo f n)) (p ∷ ps) (q ∷ qs)
    join a b = (
      a.0 + b.0,
      (
        say_more (EqualUpTo f a.0) (EqualUpTo f (a.0 + b.0)) (λ c d g. deeper f a.0 (a.0 + b.0) c d (omega arith) g) p q a.1,
        all_more (EqualUpTo f b.0) (EqualUpTo f (a.0 + b.0)) (λ c d g. deeper f b.0 (a.0 + b.0) c d (omega arith) g) ps qs b.1,
      ),
    )

-- ---- from the other side

say_turned : (R S : ℤ → ℤ → Type 0) → ((a b : ℤ) → R a b → S b a) → (p q : Part) → SaySame R p q → SaySame S q p
say_turned R S turns (pointer None) (pointer None) h = h
say_turned R S turns (pointer None) (pointer (Some b)) h = absurd h
say_turned R S turns (pointer None) (plain w) h = absurd h
say_turned R S turns (pointer (Some a)) (pointer None) h = absurd h
say_turned R S turns (pointer (Some a)) (pointer (Some b)) h = turns a b h
say_turned R S turns (pointer (Some a)) (plain w) h = absurd h
say_turned R S turns (plain v) (pointer z) h = absurd h
say_turned R S turns (plain v) (plain w) h = (texts_decide w v).0 (sym ((texts_decide v w).1 h))

all_turned : (R S : ℤ → ℤ → Type 0) → ((a b : ℤ) → R a b → S b a) → (ps qs : List Part) → AllZip (SaySame R) ps qs → AllZip (SaySame S) qs ps
all_turned R S turns [] [] h = h
all_turned R S turns [] (q ∷ qs) h = absurd h
all_turned R S turns (p ∷ ps) [] h = absurd h
all_turned R S turns (p ∷ ps) (q ∷ qs) h = (say_turned R S turns p q h.0, all_turned R S turns ps qs h.1)

told_turned : (R S : ℤ → ℤ → Type 0) → ((a b : ℤ) → R a b → S b a) → (x y : Option Told) → AreTold R x y → AreTold S y x
told_turned R S turns (Some x) (Some y) h = (sym h.0, sym h.1, all_turned R S turns x.parts y.parts h.2)
told_turned R S turns (Some x) None h = absurd h
told_turned R S turns None y h = absurd h

pub turned : (f : Contents) (n : ℕ) (a b : ℤ) → EqualUpTo f n a b → EqualUpTo f n b a
turned f zero a b h = absurd h
turned f (suc n) a b (inl h) = inl (subst (λ z. told f z ≡ None) h.1 h.0, sym h.1)
turned f (suc n) a b (inr h) = inr (told_turned (EqualUpTo f n) (EqualUpTo f n) (λ c d g. turned f n c d g) (told f a) (told f b) h)
