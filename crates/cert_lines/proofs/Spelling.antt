-- Bytes spell one line at most.
use Rattle.std.specs.Prelude.{◌≡◌, ℕ, ◌+◌, List, [], ◌∷◌, ◌++◌}
use Rattle.std.proofs.Common.{sym, ◌∙◌, ap}
use Rattle.cert_text.specs.Text.{spaced}
use Rattle.cert_lines.specs.Line.{CertLine, spelling, IsSpelled}
use Rattle.cert_text.proofs.Spacing.{spaced_one, same_front}
use Rattle.cert_lines.proofs.LineKinds.{kind_of, numbers_in, prefix_of, line_from, rebuilt, spelling_parts, numbers_short, kind_by, kind_read}

-- Bytes spell one line at most.
pub line_one : (bytes : List ℕ) (l m : CertLine) → IsSpelled bytes l → IsSpelled bytes m → l ≡ m
line_one bytes l m a b =
    let same : spelling l ≡ spelling m = sym a.1 ∙ b.1 in
    let kinds : kind_of l ≡ kind_of m = sym (kind_read l a.0) ∙ (ap kind_by same ∙ kind_read m b.0) in
    let rests : spaced (numbers_in l) ++ 10 ∷ [] ≡ spaced (numbers_in m) ++ 10 ∷ [] =
    same_front (prefix_of (kind_of m)) (spaced (numbers_in l) ++ 10 ∷ []) (spaced (numbers_in m) ++ 10 ∷ [])
    (ap (λ k. prefix_of k ++ (spaced (numbers_in l) ++ 10 ∷ [])) (sym kinds) ∙ (sym (spelling_parts l) ∙ (same ∙ spelling_parts m))) in
    let numbers : numbers_in l ≡ numbers_in m = spaced_one (numbers_in l) (numbers_in m) (numbers_short l a.0) (numbers_short m b.0) rests in
    sym (rebuilt l) ∙ (ap (λ k. line_from k (numbers_in l)) kinds ∙ (ap (line_from (kind_of m)) numbers ∙ rebuilt m))
