-- Lists of obligations that fail alike have one verdict.
use Rattle.std.specs.Prelude.{◌↔◌, List, [], ◌∷◌, ◌++◌, map}
use Rattle.std.specs.List.{AllZip}
use Rattle.std.proofs.Common.{refl, sym, subst, inl, inr}
use Rattle.solid_data.specs.Obligations.{Obligation, AllHold, FirstFalse, of_each}
use Rattle.solid_data.specs.declared.verdict.Failing.{Failing}
use Rattle.solid_data.proofs.Members.{Has}
use Rattle.extraction_laws.specs.Alike.{AllAlike, FailAlike, OneAlike}

-- All of the one list hold exactly where all of the other do, and else Q relates the first false ones.
pub record HaveOneVerdict (Q : Failing → Failing → Type 0) (ps qs : List Obligation) : Type 0 where
  pub all : AllHold ps ↔ AllHold qs
  pub fails : (x : Failing) → FirstFalse ps x → (y : Failing) × Q x y × FirstFalse qs y
  pub only : (y : Failing) → FirstFalse qs y → (x : Failing) × Q x y × FirstFalse ps x

all_alike : (Q : Failing → Failing → Type 0) (ps qs : List Obligation) → FailAlike Q ps qs → AllHold ps → AllHold qs
all_alike Q [] [] h a = tt
all_alike Q [] (q ∷ qs) h a = absurd h
all_alike Q (p ∷ ps) [] h a = absurd h
all_alike Q (p ∷ ps) (q ∷ qs) h a = (h.1.0 a.0, all_alike Q ps qs (h.2 a.0) a.1)

all_back : (Q : Failing → Failing → Type 0) (ps qs : List Obligation) → FailAlike Q ps qs → AllHold qs → AllHold ps
all_back Q [] [] h a = tt
all_back Q [] (q ∷ qs) h a = absurd h
all_back Q (p ∷ ps) [] h a = absurd h
all_back Q (p ∷ ps) (q ∷ qs) h a = let here : p.holds = h.1.1 a.0 in (here, all_back Q ps qs (h.2 here) a.1)

first_alike : (Q : Failing → Failing → Type 0) (ps qs : List Obligation) → FailAlike Q ps qs → (x : Failing) → FirstFalse ps x
    → (y : Failing) × Q x y × FirstFalse qs y
first_alike Q [] [] h x bad = absurd bad
first_alike Q [] (q ∷ qs) h x bad = absurd h
first_alike Q (p ∷ ps) [] h x bad = absurd h
first_alike Q (p ∷ ps) (q ∷ qs) h x (inl bad) = (q.failing, subst (λ z. Q z q.failing) (sym bad.1) h.0, inl ((λ holds. bad.0 (h.1.1 holds)), refl))
first_alike Q (p ∷ ps) (q ∷ qs) h x (inr rest) = let k = first_alike Q ps qs (h.2 rest.0) x rest.1 in (k.0, k.1, inr (h.1.0 rest.0, k.2))

first_back : (Q : Failing → Failing → Type 0) (ps qs : List Obligation) → FailAlike Q ps qs → (y : Failing) → FirstFalse qs y
    → (x : Failing) × Q x y × FirstFalse ps x
first_back Q [] [] h y bad = absurd bad
first_back Q [] (q ∷ qs) h y bad = absurd h
first_back Q (p ∷ ps) [] h y bad = absurd h
first_back Q (p ∷ ps) (q ∷ qs) h y (inl bad) = (p.failing, subst (Q p.failing) (sym bad.1) h.0, inl ((λ holds. bad.0 (h.1.0 holds)), refl))
first_back Q (p ∷ ps) (q ∷ qs) h y (inr rest) =
    let here : p.holds = h.1.1 rest.0 in
    let k = first_back Q ps qs (h.2 here) y rest.1 in
    (k.0, k.1, inr (here, k.2))

pub one_verdict : (Q : Failing → Failing → Type 0) (ps qs : List Obligation) → FailAlike Q ps qs → HaveOneVerdict Q ps qs
one_verdict Q ps qs h = record { all = (all_alike Q ps qs h, all_back Q ps qs h); fails = first_alike Q ps qs h; only = first_back Q ps qs h }

pub append_alike : (Q : Failing → Failing → Type 0) (ps ms qs ns : List Obligation) → FailAlike Q ps qs → (AllHold ps → FailAlike Q ms ns)
    → FailAlike Q (ps ++ ms) (qs ++ ns)
append_alike Q [] ms [] ns h f = f tt
append_alike Q [] ms (q ∷ qs) ns h f = absurd h
append_alike Q (p ∷ ps) ms [] ns h f = absurd h
append_alike Q (p ∷ ps) ms (q ∷ qs) ns h f = (h.0, h.1, λ here. append_alike Q ps ms qs ns (h.2 here) (λ all. f (here, all)))

-- alike item by item
pub fails_alike : (Q : Failing → Failing → Type 0) (ps qs : List Obligation) → AllAlike Q ps qs → FailAlike Q ps qs
fails_alike Q [] [] z = tt
fails_alike Q [] (q ∷ qs) z = absurd z
fails_alike Q (p ∷ ps) [] z = absurd z
fails_alike Q (p ∷ ps) (q ∷ qs) z = (z.0.0, z.0.1, λ here. fails_alike Q ps qs z.1)

pub append_all : (Q : Failing → Failing → Type 0) (ps ms qs ns : List Obligation) → AllAlike Q ps qs → AllAlike Q ms ns → AllAlike Q (ps ++ ms) (qs ++ ns)
append_all Q [] ms [] ns z w = w
append_all Q [] ms (q ∷ qs) ns z w = absurd z
append_all Q (p ∷ ps) ms [] ns z w = absurd z
append_all Q (p ∷ ps) ms (q ∷ qs) ns z w = (z.0, append_all Q ps ms qs ns z.1 w)

pub map_alike : {A B : Type 0} (Q : Failing → Failing → Type 0) (Z : A → B → Type 0) (f : A → Obligation) (g : B → Obligation) (xs : List A) (ys : List B)
    → AllZip Z xs ys → ((x : A) (y : B) → Z x y → OneAlike Q (f x) (g y)) → AllAlike Q (map f xs) (map g ys)
map_alike Q Z f g [] [] z h = tt
map_alike Q Z f g [] (y ∷ ys) z h = absurd z
map_alike Q Z f g (x ∷ xs) [] z h = absurd z
map_alike Q Z f g (x ∷ xs) (y ∷ ys) z h = (h x y z.0, map_alike Q Z f g xs ys z.1 h)

-- the obligations of one list, by two readings
pub map_same_alike : {A : Type 0} (Q : Failing → Failing → Type 0) (f g : A → Obligation) (xs : List A) → ((x : A) → Has xs x → OneAlike Q (f x) (g x))
    → AllAlike Q (map f xs) (map g xs)
map_same_alike Q f g [] h = tt
map_same_alike Q f g (x ∷ xs) h = (h x (inl refl), map_same_alike Q f g xs (λ y m. h y (inr m)))

pub of_each_alike : {A B : Type 0} (Q : Failing → Failing → Type 0) (Z : A → B → Type 0) (f : A → List Obligation) (g : B → List Obligation) (xs : List A)
    (ys : List B) → AllZip Z xs ys → ((x : A) (y : B) → Z x y → AllAlike Q (f x) (g y)) → AllAlike Q (of_each f xs) (of_each g ys)
of_each_alike Q Z f g [] [] z h = tt
of_each_alike Q Z f g [] (y ∷ ys) z h = absurd z
of_each_alike Q Z f g (x ∷ xs) [] z h = absurd z
of_each_alike Q Z f g (x ∷ xs) (y ∷ ys) z h =
    append_all Q (f x) (of_each f xs) (g y) (of_each g ys) (h x y z.0) (of_each_alike Q Z f g xs ys z.1 h)
