-- The text of an upgraded certificate, line by line.
use Rattle.std.specs.Prelude.{◌≡◌, ◌≢◌, ℕ, suc, ◌+◌, ◌<◌, ◌≤◌, ◌==◌, ◌&&◌, Bool, true, false, List, [], ◌∷◌, ◌++◌, length, codes, Some, slice_get}
use Rattle.std.specs.Prelude.{if◌then◌else◌}
use Rattle.std.proofs.Common.{refl, sym, ◌∙◌, ap, arith, append_assoc}
use Rattle.std.proofs.lemmas.Bool.{eq-eqb, eqb-true}
use Rattle.std.proofs.lemmas.Grind.{flat_map-append}
use Rattle.solid_data.specs.SolidData.{SolidData}
use Rattle.solid_data.specs.declared.solid.Shell.{Shell}
use Rattle.cert_lines.specs.Line.{head, words, spelling, tally, cut_lines}
use Rattle.cert_lines.specs.declared.version.Version.TheVariants.{One, Two}
use Rattle.topo_certificate.specs.Upgraded.{starts_with, tally_of_shell, tally_lines_of, tally_before, with_tallies, joined, upgraded_from, upgraded}

pub starts_so : (word rest : List ℕ) → starts_with word (word ++ rest) ≡ true
starts_so [] rest = refl
starts_so (w ∷ word) rest = ap (λ b. b && starts_with word (word ++ rest)) (eq-eqb w w refl) ∙ starts_so word rest

pub what_follows : (word text : List ℕ) → starts_with word text ≡ true → (rest : List ℕ) × (text ≡ word ++ rest)
what_follows [] text h = (text, refl)
what_follows (w ∷ word) [] h = absurd cc
what_follows (w ∷ word) (b ∷ text) h = by_test (w == b) refl h (what_follows word text)
  where
    by_test : (t : Bool) → (w == b) ≡ t → (t && starts_with word text) ≡ true → (starts_with word text ≡ true → (rest : List ℕ) × (text ≡ word ++ rest))
        → (rest : List ℕ) × (b ∷ text ≡ w ∷ word ++ rest)
    by_test true e k go = let more = go k in (more.0, ap (λ x. x ∷ text) (sym (eqb-true w b e)) ∙ ap (λ xs. w ∷ xs) more.1)
    by_test false e k go = absurd cc

pub starts_not : (word text : List ℕ) → ((rest : List ℕ) → text ≢ word ++ rest) → false ≡ starts_with word text
starts_not word text never = by_test (starts_with word text) refl
  where
    by_test : (t : Bool) → starts_with word text ≡ t → false ≡ t
    by_test true e = let f = what_follows word text e in absurd (never f.0 f.1)
    by_test false e = refl

pub tally_joined : (s : SolidData) (k : ℕ) (h : Shell) → slice_get s.shells k ≡ Some h → spelling (tally (tally_of_shell s h)) ≡ joined (tally_before s (suc k))
tally_joined s k h at = sym (append_nil (spelling (tally (tally_of_shell s h)))) ∙ ap (λ o. joined (tally_lines_of s o)) (sym at)
  where
    append_nil : (xs : List ℕ) → xs ++ [] ≡ xs
    append_nil [] = refl
    append_nil (x ∷ xs) = ap (λ ys. x ∷ ys) (append_nil xs)

-- what is put for a line
pub line_put : (s : SolidData) (k n : ℕ) (line : List ℕ) (out with new : List ℕ) (ls : List (List ℕ)) → with ≡ out ++ joined (tally_before s k)
    → new ≡ with ++ line
    → joined (with_tallies s k (line ∷ ls)) ≡ joined (tally_before s k ++ line ∷ with_tallies s n ls) → new ++ joined (with_tallies s n ls) ≡ out
    ++ joined (with_tallies s k (line ∷ ls))
line_put s k n line out with new ls h1 h2 e =
    let t = joined (tally_before s k) in
    let f = joined (with_tallies s n ls) in
    let whole : joined (tally_before s k ++ line ∷ with_tallies s n ls) ≡ t ++ (line ++ f) =
    flat_map-append (λ (l : List ℕ). l) (tally_before s k) (line ∷ with_tallies s n ls) in
    ap (λ o. o ++ f) (h2 ∙ ap (λ o. o ++ line) h1) ∙ (append_assoc (out ++ t) line f ∙ (append_assoc out t (line ++ f) ∙ ap (λ x. out ++ x) (sym (e ∙ whole))))

pub shell_line_is : (s : SolidData) (k : ℕ) (line : List ℕ) (ls : List (List ℕ)) → starts_with (codes "SHELL") line ≡ true
    → joined (with_tallies s k (line ∷ ls)) ≡ joined (tally_before s k ++ line ∷ with_tallies s (k + 1) ls)
shell_line_is s k line ls h = ap (λ b. joined (choice b (starts_with (codes "END") line))) h
  where
    choice : Bool → Bool → List (List ℕ)
    choice a b = if a then tally_before s k ++ line
        ∷ with_tallies s (k + 1) ls else (if b then tally_before s k ++ line ∷ with_tallies s k ls else line ∷ with_tallies s k ls)

pub end_line_is : (s : SolidData) (k : ℕ) (line : List ℕ) (ls : List (List ℕ)) → starts_with (codes "SHELL") line ≡ false
    → starts_with (codes "END") line ≡ true → joined (with_tallies s k (line ∷ ls)) ≡ joined (tally_before s k ++ line ∷ with_tallies s k ls)
end_line_is s k line ls h g = ap (λ b. joined (choice b (starts_with (codes "END") line))) h ∙ ap (λ b. joined (choice false b)) g
  where
    choice : Bool → Bool → List (List ℕ)
    choice a b = if a then tally_before s k ++ line
        ∷ with_tallies s (k + 1) ls else (if b then tally_before s k ++ line ∷ with_tallies s k ls else line ∷ with_tallies s k ls)

pub other_line_is : (s : SolidData) (k : ℕ) (line : List ℕ) (ls : List (List ℕ)) → starts_with (codes "SHELL") line ≡ false
    → starts_with (codes "END") line ≡ false → joined (with_tallies s k (line ∷ ls)) ≡ line ++ joined (with_tallies s k ls)
other_line_is s k line ls h g = ap (λ b. joined (choice b (starts_with (codes "END") line))) h ∙ ap (λ b. joined (choice false b)) g
  where
    choice : Bool → Bool → List (List ℕ)
    choice a b = if a then tally_before s k ++ line
        ∷ with_tallies s (k + 1) ls else (if b then tally_before s k ++ line ∷ with_tallies s k ls else line ∷ with_tallies s k ls)

-- a line without anything before it
pub line_alone : (s : SolidData) (k : ℕ) (line out new : List ℕ) (ls : List (List ℕ)) → new ≡ out ++ line → joined (with_tallies s k (line ∷ ls)) ≡ line
    ++ joined (with_tallies s k ls) → new ++ joined (with_tallies s k ls) ≡ out ++ joined (with_tallies s k (line ∷ ls))
line_alone s k line out new ls h e = ap (λ o. o ++ joined (with_tallies s k ls)) h
    ∙ (append_assoc out line (joined (with_tallies s k ls)) ∙ ap (λ x. out ++ x) (sym e))

-- Lines that are left to put, behind those that were put.
pub record ToPut (s : SolidData) (text fn_out out rest : List ℕ) (shells : ℕ) : Type 0 where
  pub text_is : out ++ joined (with_tallies s shells (cut_lines rest)) ≡ fn_out ++ joined (with_tallies s 0 (cut_lines text))
  pub few : shells + length rest ≤ length text

pub put_more : (s : SolidData) (text fn_out out new rest line after : List ℕ) (k n : ℕ) → ToPut s text fn_out out rest k
    → cut_lines rest ≡ line ∷ cut_lines after → length after < length rest
    → ((ls : List (List ℕ)) → new ++ joined (with_tallies s n ls) ≡ out ++ joined (with_tallies s k (line ∷ ls))) → n ≤ k + 1 → ToPut s text fn_out new after n
put_more s text fn_out out new rest line after k n h cut less put few = record {
  text_is = put (cut_lines after) ∙ (ap (λ ls. out ++ joined (with_tallies s k ls)) (sym cut) ∙ h.text_is);
  few = omega (arith, h.few, less, few);
}

-- a certificate that is kept as it is
pub kept_empty : (s : SolidData) (text : List ℕ) → text ≡ [] → text ≡ upgraded s text
unfolding upgraded
kept_empty s text e = e ∙ ap (λ t. upgraded_from s t (cut_lines t)) (sym e)

pub kept_other : (s : SolidData) (text first : List ℕ) (lines : List (List ℕ)) → cut_lines text ≡ first ∷ lines → starts_with (words (head One)) first ≡ false
    → text ≡ upgraded s text
unfolding upgraded
kept_other s text first lines cut no_ =
    sym (ap (λ b. if b then joined (spelling (head Two) ∷ with_tallies s 0 lines) else text) no_) ∙ ap (upgraded_from s text) (sym cut)

-- one of version 1, with another head and TALLY lines
pub upgraded_one : (s : SolidData) (text first : List ℕ) (lines : List (List ℕ)) (o1 o2 : List ℕ) → cut_lines text ≡ first ∷ lines
    → starts_with (words (head One)) first ≡ true → o1 ≡ spelling (head Two) → o2 ≡ o1 ++ joined (with_tallies s 0 lines) → o2 ≡ upgraded s text
unfolding upgraded
upgraded_one s text first lines o1 o2 cut yes_ h1 h2 =
    h2 ∙ (ap (λ o. o ++ joined (with_tallies s 0 lines)) h1
    ∙ (sym (ap (λ b. if b then joined (spelling (head Two) ∷ with_tallies s 0 lines) else text) yes_) ∙ ap (upgraded_from s text) (sym cut)))
