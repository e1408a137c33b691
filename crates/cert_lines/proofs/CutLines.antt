-- Spelled lines, one after another, are cut into these lines.
use Rattle.std.specs.Prelude.{◌≡◌, ◌≢◌, ℕ, ◌+◌, List, [], ◌∷◌, ◌++◌, map, flat_map, if◌then◌else◌}
use Rattle.std.specs.List.{AllByRecursion}
use Rattle.std.proofs.Common.{refl, ◌∙◌, ap, ⊎_elim, append_assoc}
use Rattle.std.proofs.lemmas.Bool.Decides.{eqb_tells}
use Rattle.cert_lines.specs.Line.{CertLine, words, spelling, HasSpelling, cut_lines, put_before}
use Rattle.cert_lines.proofs.LineKinds.{words_no_break}

-- A text without LF is cut behind its LF.
pub cut_piece : (text rest : List ℕ) → AllByRecursion (λ b. b ≢ 10) text → cut_lines (text ++ 10 ∷ rest) ≡ (text ++ 10 ∷ []) ∷ cut_lines rest
cut_piece [] rest h = refl
cut_piece (b ∷ text) rest h =
    let later = cut_piece text rest h.1 in
    ⊎_elim (λ y. absurd (h.0 y.1))
    (λ n. ap (λ t. if t then (b ∷ []) ∷ cut_lines (text ++ 10 ∷ rest) else put_before b (cut_lines (text ++ 10 ∷ rest))) n.0 ∙ ap (put_before b) later)
    (eqb_tells b 10)

-- Spelled lines, one after another, are cut into these lines.
pub cut_spelled : (ls : List CertLine) → AllByRecursion HasSpelling ls → cut_lines (flat_map spelling ls) ≡ map spelling ls
cut_spelled [] h = refl
cut_spelled (l ∷ ls) h =
    ap cut_lines (append_assoc (words l) (10 ∷ []) (flat_map spelling ls))
    ∙ (cut_piece (words l) (flat_map spelling ls) (words_no_break l h.0) ∙ ap (λ ys. spelling l ∷ ys) (cut_spelled ls h.1))
