-- Bytes spell one line at most, and spelled lines are cut into these lines.
use Rattle.std.specs.Prelude.{◌≡◌, ◌≢◌, ℕ, ◌==◌, List, [], ◌∷◌, ◌++◌, map, flat_map, codes, if◌then◌else◌}
use Rattle.std.specs.List.{AllByRecursion}
use Rattle.std.proofs.Common.{refl, sym, ◌∙◌, ap, arith, append_assoc, get_or}
use Rattle.cert_text.specs.Text.{spaced}
use Rattle.cert_lines.specs.Line.{cut_lines}
use Rattle.cert_text.proofs.Spacing.{spaced_one, same_front}
use Rattle.cert_lines.proofs.CutLines.{cut_piece}
use Rattle.cert_text.proofs.Spacing.{spaced_no_break}
use Rattle.open_certificate.specs.Line.{OpenLine, head, shell, edge, lone, cycle, path, point, reach, border, end, words, spelling, numbers_of, HasSpelling}
use Rattle.open_certificate.specs.Line.{IsSpelled}

-- A line is its kind and its numbers.
abbrev pub kind_of : OpenLine → ℕ
kind_of head = 0
kind_of (shell n rows edges corners faces borders) = 1
kind_of (edge a b) = 2
kind_of (lone a) = 2
kind_of (cycle rs) = 3
kind_of (path rs) = 4
kind_of (point face l) = 5
kind_of (reach r) = 6
kind_of (border rs) = 7
kind_of end = 8

abbrev pub prefix_of : ℕ → List ℕ
prefix_of k = if k == 0 then codes "IGESOPEN 1" else
    (if k == 1 then codes "SHELL" else
    (if k == 2 then codes "E" else
    (if k == 3 then codes "C" else
    (if k == 4 then codes "P" else (if k == 5 then codes "I" else (if k == 6 then codes "R" else (if k == 7 then codes "B" else codes "END")))))))

abbrev edge_from : List ℕ → OpenLine
edge_from [] = end
edge_from (a ∷ []) = lone a
edge_from (a ∷ b ∷ ns) = edge a b

abbrev pub line_from : ℕ → List ℕ → OpenLine
line_from k ns = if k == 0 then head else (if k == 1 then shell (get_or ns 0 0) (get_or ns 1 0) (get_or ns 2 0) (get_or ns 3 0) (get_or ns 4 0) (get_or ns 5 0)
    else (if k == 2 then edge_from ns else
    (if k == 3 then cycle ns else
    (if k == 4 then path ns else
    (if k == 5 then point (get_or ns 0 0) (get_or ns 1 0) else (if k == 6 then reach (get_or ns 0 0) else (if k == 7 then border ns else end)))))))

pub rebuilt : (l : OpenLine) → line_from (kind_of l) (numbers_of l) ≡ l
rebuilt head = refl
rebuilt (shell n rows edges corners faces borders) = refl
rebuilt (edge a b) = refl
rebuilt (lone a) = refl
rebuilt (cycle rs) = refl
rebuilt (path rs) = refl
rebuilt (point face l) = refl
rebuilt (reach r) = refl
rebuilt (border rs) = refl
rebuilt end = refl

pub spelling_parts : (l : OpenLine) → spelling l ≡ prefix_of (kind_of l) ++ (spaced (numbers_of l) ++ 10 ∷ [])
spelling_parts head = refl
spelling_parts (shell n rows edges corners faces borders) = refl
spelling_parts (edge a b) = refl
spelling_parts (lone a) = refl
spelling_parts (cycle rs) = refl
spelling_parts (path rs) = refl
spelling_parts (point face l) = refl
spelling_parts (reach r) = refl
spelling_parts (border rs) = refl
spelling_parts end = refl

-- the kind by the first two bytes
abbrev kind_by : List ℕ → ℕ
kind_by bytes = by_bytes (get_or bytes 0 0) (get_or bytes 1 0)
  where
    by_bytes : ℕ → ℕ → ℕ
    by_bytes a b = if a == 73 then (if b == 71 then 0 else 5) else
        (if a == 83 then 1 else (if a == 69 then (if b == 32 then 2 else 8) else (if a == 67 then 3 else (if a == 80 then 4 else (if a == 82 then 6 else 7)))))

kind_read : (l : OpenLine) → HasSpelling l → kind_by (spelling l) ≡ kind_of l
kind_read head h = refl
kind_read (shell n rows edges corners faces borders) h = refl
kind_read (edge a b) h = refl
kind_read (lone a) h = refl
kind_read (cycle []) h = refl
kind_read (cycle (r ∷ rs)) h = refl
kind_read (path []) h = refl
kind_read (path (r ∷ rs)) h = refl
kind_read (point face l) h = refl
kind_read (reach r) h = refl
kind_read (border []) h = refl
kind_read (border (r ∷ rs)) h = refl
kind_read end h = refl

-- Bytes spell one line at most.
pub line_one : (bytes : List ℕ) (l m : OpenLine) → IsSpelled bytes l → IsSpelled bytes m → l ≡ m
line_one bytes l m a b =
    let same : spelling l ≡ spelling m = sym a.1 ∙ b.1 in
    let kinds : kind_of l ≡ kind_of m = sym (kind_read l a.0) ∙ (ap kind_by same ∙ kind_read m b.0) in
    let rests : spaced (numbers_of l) ++ 10 ∷ [] ≡ spaced (numbers_of m) ++ 10 ∷ [] =
    same_front (prefix_of (kind_of m)) (spaced (numbers_of l) ++ 10 ∷ []) (spaced (numbers_of m) ++ 10 ∷ [])
    (ap (λ k. prefix_of k ++ (spaced (numbers_of l) ++ 10 ∷ [])) (sym kinds) ∙ (sym (spelling_parts l) ∙ (same ∙ spelling_parts m))) in
    let numbers : numbers_of l ≡ numbers_of m = spaced_one (numbers_of l) (numbers_of m) a.0.0 b.0.0 rests in
    sym (rebuilt l) ∙ (ap (λ k. line_from k (numbers_of l)) kinds ∙ (ap (line_from (kind_of m)) numbers ∙ rebuilt m))

words_no_break : (l : OpenLine) → HasSpelling l → AllByRecursion (λ b. b ≢ 10) (words l)
words_no_break head h =
    (omega arith, (omega arith, (omega arith, (omega arith, (omega arith, (omega arith, (omega arith, (omega arith, (omega arith, (omega arith, tt))))))))))
words_no_break (shell n rows edges corners faces borders) h =
    (omega arith, (omega arith, (omega arith, (omega arith, (omega arith, spaced_no_break (n ∷ rows ∷ edges ∷ corners ∷ faces ∷ borders ∷ []) h.0)))))
words_no_break (edge a b) h = (omega arith, spaced_no_break (a ∷ b ∷ []) h.0)
words_no_break (lone a) h = (omega arith, spaced_no_break (a ∷ []) h.0)
words_no_break (cycle rs) h = (omega arith, spaced_no_break rs h.0)
words_no_break (path rs) h = (omega arith, spaced_no_break rs h.0)
words_no_break (point face l) h = (omega arith, spaced_no_break (face ∷ l ∷ []) h.0)
words_no_break (reach r) h = (omega arith, spaced_no_break (r ∷ []) h.0)
words_no_break (border rs) h = (omega arith, spaced_no_break rs h.0)
words_no_break end h = (omega arith, (omega arith, (omega arith, tt)))

-- Spelled lines, one after another, are cut into these lines.
pub cut_spelled : (ls : List OpenLine) → AllByRecursion HasSpelling ls → cut_lines (flat_map spelling ls) ≡ map spelling ls
cut_spelled [] h = refl
cut_spelled (l ∷ ls) h =
    ap cut_lines (append_assoc (words l) (10 ∷ []) (flat_map spelling ls))
    ∙ (cut_piece (words l) (flat_map spelling ls) (words_no_break l h.0) ∙ ap (λ ys. spelling l ∷ ys) (cut_spelled ls h.1))
