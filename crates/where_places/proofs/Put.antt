-- The fact, piece by piece.
use Rattle.std.specs.Prelude.{◌≡◌, ℕ, List, ◌++◌, Result, Ok, Err, OnOk, codes}
use Rattle.std.proofs.Common.{ap, ◌∙◌, append_assoc}
use Rattle.where_places.specs.PlaceLines.{lines_words, space_number}

on_ok : {T E : Type 0} {P Q : Type 0} (r : Result T E) → (P → Q) → OnOk r P → OnOk r Q
on_ok (Ok x) f p = f p
on_ok (Err e) f p = tt

more : (old now new xs ys : List ℕ) → now ≡ old ++ xs → new ≡ now ++ ys → new ≡ old ++ (xs ++ ys)
more old now new xs ys e f = f ∙ (ap (λ zs. zs ++ ys) e ∙ append_assoc old xs ys)

pub words_put : {T E : Type 0} (r : Result T E) (entry first last : ℕ) (old one two three four five new : List ℕ) → one ≡ old ++ codes "  lines directory"
    → two ≡ one ++ space_number entry → three ≡ two ++ codes " record" → four ≡ three ++ space_number first → five ≡ four ++ space_number last
    → OnOk r (new ≡ five ++ codes "\n") → OnOk r (new ≡ old ++ lines_words entry first last)
unfolding lines_words
words_put r entry first last old one two three four five new a b c d e f =
    let t1 : List ℕ = codes "  lines directory" in
    let t2 : List ℕ = t1 ++ space_number entry in
    let t3 : List ℕ = t2 ++ codes " record" in
    let t4 : List ℕ = t3 ++ space_number first in
    let t5 : List ℕ = t4 ++ space_number last in
    let s2 : two ≡ old ++ t2 = more old one two t1 (space_number entry) a b in
    let s3 : three ≡ old ++ t3 = more old two three t2 (codes " record") s2 c in
    let s4 : four ≡ old ++ t4 = more old three four t3 (space_number first) s3 d in
    let s5 : five ≡ old ++ t5 = more old four five t4 (space_number last) s4 e in
    on_ok r (λ h. more old five new t5 (codes "\n") s5 h) f
