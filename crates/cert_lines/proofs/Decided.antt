-- It can be told whether bytes spell a line, and which.
use Rattle.std.specs.Prelude.{◌≡◌, ℕ, ◌<◌, ◌≤◌, ◌^◌, ◌⊎◌, List, [], ◌∷◌, ◌++◌, length, decimal}
use Rattle.std.specs.List.{AllByRecursion}
use Rattle.std.proofs.Common.{refl, sym, ◌∙◌, ap, subst, arith, inl, inr, ⊎_elim, length-append}
use Rattle.std.proofs.lemmas.Slice.Eq.{bytes_eq-Decides}
use Rattle.solid_data.proofs.Decisions.{Decided, decided_alike, decided_by, decided_same, decided_below, decided_within, decided_both, decided_bounded}
use Rattle.solid_data.proofs.Decisions.{decided_list}
use Rattle.cert_text.specs.Text.{spaced, IsShort}
use Rattle.cert_lines.specs.Line.{CertLine, head, solid, end, words, spelling, IsSpelled, EndsWithLf, IsLine, IsLong, IsMisspelt, cut_lines}
use Rattle.cert_lines.specs.Line.{first_limit}
use Rattle.cert_lines.specs.Opening.{Opens, IsHeadLine, IsSolid, IsWrong, IsSecondWrong, IsFirstWrong, IsBadOpening}
use Rattle.cert_lines.specs.declared.version.Version.{Version}
use Rattle.cert_text.specs.declared.fault.Illegal.{Illegal}
use Rattle.cert_text.specs.declared.fault.Illegal.TheVariants.{Misspelt, Unfit, Missing}
use Rattle.cert_lines.proofs.LineKinds.{kind_of, numbers_in, prefix_of, line_from, rebuilt, spelling_parts, numbers_short, has_spelling_decided, kind_below}
use Rattle.cert_lines.proofs.LineKinds.{head_decided, solid_decided}

spelled_decided : (bytes : List ℕ) (l : CertLine) → Decided (IsSpelled bytes l)
spelled_decided bytes l = decided_both (has_spelling_decided l) (decided_by _ (bytes_eq-Decides bytes (spelling l)))

pub spaced_longer : (ns : List ℕ) → length ns ≤ length (spaced ns)
spaced_longer [] = omega arith
spaced_longer (n ∷ ns) = omega (arith, spaced_longer ns, length-append (32 ∷ decimal n) (spaced ns))

-- a line has no more numbers than bytes
few_numbers : (bytes : List ℕ) (l : CertLine) → IsSpelled bytes l → length (numbers_in l) ≤ length bytes
few_numbers bytes l h =
    let front = prefix_of (kind_of l) in
    let numbers = spaced (numbers_in l) in
    omega (
      arith,
      ap (λ (x : List ℕ). length x) (h.1 ∙ spelling_parts l),
      length-append front (numbers ++ 10 ∷ []),
      length-append numbers (10 ∷ []),
      spaced_longer (numbers_in l),
    )

-- The bytes spell the line of this kind and some numbers, no more of them than bytes.
SpellsKind : List ℕ → ℕ → Type 0
SpellsKind bytes k = (ns : List ℕ) × (length ns ≤ length bytes) × AllByRecursion IsShort ns × IsSpelled bytes (line_from k ns)

-- A line is searched for by its kind and its numbers.
some_line_decided : (bytes : List ℕ) → Decided ((l : CertLine) × IsSpelled bytes l)
unfolding SpellsKind
some_line_decided bytes =
    decided_alike (λ (k, lt, (ns, few, short, h)). (line_from k ns, h))
    (λ (l, h). (kind_of l, kind_below l, (numbers_in l, few_numbers bytes l h, numbers_short l h.0, subst (IsSpelled bytes) (sym (rebuilt l)) h)))
    (decided_bounded (SpellsKind bytes) (λ k. decided_list (λ ns. IsSpelled bytes (line_from k ns)) (λ ns. spelled_decided bytes (line_from k ns)) (10 ^ 9)
    (length bytes)) 9)

no_end : (front : List ℕ) → [] ≡ front ++ 10 ∷ [] → ⊥
no_end [] e = cc
no_end (x ∷ xs) e = cc

one_end : (b : ℕ) (front : List ℕ) → b ∷ [] ≡ front ++ 10 ∷ [] → b ≡ 10
one_end b [] e = cc
one_end b (x ∷ xs) e = absurd (no_end xs cc)

more_end : (b c : ℕ) (bs front : List ℕ) → b ∷ c ∷ bs ≡ front ++ 10 ∷ [] → EndsWithLf (c ∷ bs)
more_end b c bs [] e = absurd cc
more_end b c bs (x ∷ xs) e = (xs, cc)

end_decided : (bytes : List ℕ) → Decided (EndsWithLf bytes)
end_decided [] = inr (λ (front, e). no_end front e)
end_decided (b ∷ []) = decided_alike (λ e. ([], ap (λ (x : ℕ). x ∷ []) e)) (λ (front, e). one_end b front e) (decided_same b 10)
end_decided (b ∷ c ∷ bs) = decided_alike (λ (front, e). (b ∷ front, ap (λ (xs : List ℕ). b ∷ xs) e)) (λ (front, e). more_end b c bs front e)
    (end_decided (c ∷ bs))

pub long_decided : (limit : ℕ) (bytes : List ℕ) → Decided (IsLong limit bytes)
long_decided limit bytes = decided_both (decided_below limit (length bytes)) (end_decided bytes)

-- what is spelled has an LF at its end
spelled_long : (limit : ℕ) (bytes : List ℕ) (l : CertLine) → IsSpelled bytes l → limit < length bytes → IsLong limit bytes
spelled_long limit bytes l h longer = (longer, (words l, h.1))

-- Bytes are a line, a line that is too long, or no line.
pub lines_are_decided : (limit : ℕ) (bytes : List ℕ) → ((l : CertLine) × IsLine limit bytes l) ⊎ (IsLong limit bytes ⊎ IsMisspelt limit bytes)
lines_are_decided limit bytes = by_long (long_decided limit bytes) (some_line_decided bytes) (decided_within (length bytes) limit)
  where
    by_long : Decided (IsLong limit bytes) → Decided ((l : CertLine) × IsSpelled bytes l) → Decided (length bytes ≤ limit) →
        ((l : CertLine) × IsLine limit bytes l) ⊎ (IsLong limit bytes ⊎ IsMisspelt limit bytes)
    by_long (inl long) line short = inr (inl long)
    by_long (inr never) (inl (l, h)) (inl short) = inl (l, (short, h))
    by_long (inr never) (inl (l, h)) (inr longer) = absurd (never (spelled_long limit bytes l h (omega (arith, longer))))
    by_long (inr never) (inr none) short = inr (inr (record { not_long = never; none = λ l h. none (l, h) }))

-- The line is the one that is wanted, or something is wrong with it.
wanted_or_wrong : (Wanted : CertLine → Type 0) → ((l : CertLine) → Decided (Wanted l)) → (number : ℕ) (bytes : List ℕ)
    → ((l : CertLine) × IsLine first_limit bytes l × Wanted l) ⊎ ((bad : Illegal) × IsWrong Wanted number bytes bad)
wanted_or_wrong Wanted each number bytes = by_line (lines_are_decided first_limit bytes)
  where
    by_wanted : (l : CertLine) → IsLine first_limit bytes l → Decided (Wanted l) →
        ((l : CertLine) × IsLine first_limit bytes l × Wanted l) ⊎ ((bad : Illegal) × IsWrong Wanted number bytes bad)
    by_wanted l is (inl want) = inl (l, is, want)
    by_wanted l is (inr other) = inr (Unfit number, inr (inr (l, is, other), refl))

    by_line : ((l : CertLine) × IsLine first_limit bytes l) ⊎ (IsLong first_limit bytes ⊎ IsMisspelt first_limit bytes) →
        ((l : CertLine) × IsLine first_limit bytes l × Wanted l) ⊎ ((bad : Illegal) × IsWrong Wanted number bytes bad)
    by_line (inl (l, is)) = by_wanted l is (each l)
    by_line (inr (inl long)) = inr (Unfit number, inr (inl long, refl))
    by_line (inr (inr misspelt)) = inr (Misspelt number, inl (misspelt, refl))

-- the lines behind the first: the one of a solid and others, or a bad one
second_decided : (lines : List (List ℕ)) → ((second : List ℕ) × (rest : List (List ℕ)) × (n : ℕ) × (lines ≡ second ∷ rest) ×
    IsLine first_limit second (solid n)) ⊎ ((bad : Illegal) × IsSecondWrong lines bad)
second_decided [] = inr (Missing 2, refl)
second_decided (second ∷ rest) = ⊎_elim (λ (l, is, (n, e)). inl (second, rest, n, refl, subst (IsLine first_limit second) e is)) inr
    (wanted_or_wrong IsSolid solid_decided 2 second)

opening_of : (certificate : List ℕ) (lines : List (List ℕ)) → cut_lines certificate ≡ lines →
    ((v : Version) × (n : ℕ) × (rest : List (List ℕ)) × Opens certificate v n rest) ⊎ ((bad : Illegal) × IsFirstWrong lines bad)
opening_of certificate [] cut = inr (Missing 1, refl)
opening_of certificate (first ∷ lines) cut = by_first (wanted_or_wrong IsHeadLine head_decided 1 first) (second_decided lines)
  where
    by_first : ((l : CertLine) × IsLine first_limit first l × IsHeadLine l) ⊎ ((bad : Illegal) × IsWrong IsHeadLine 1 first bad)
        → ((second : List ℕ) × (rest : List (List ℕ)) × (n : ℕ) × (lines ≡ second ∷ rest) × IsLine first_limit second (solid n)) ⊎
        ((bad : Illegal) × IsSecondWrong lines bad)
        → ((v : Version) × (n : ℕ) × (rest : List (List ℕ)) × Opens certificate v n rest) ⊎ ((bad : Illegal) × IsFirstWrong (first ∷ lines) bad)
    by_first (inr (bad, wrong)) second = inr (bad, inl wrong)
    by_first (inl (l, is, (v, e))) (inr (bad, wrong)) = inr (bad, inr (v, subst (IsLine first_limit first) e is, wrong))
    by_first (inl (l, is, (v, e))) (inl (second, rest, n, same, names)) =
        inl (
          v,
          n,
          rest,
          record {
            first = first;
            second = second;
            cut = cut ∙ ap (λ ls. first ∷ ls) same;
            is_head =
                subst (IsLine first_limit first) e is;
            names = names;
          },
        )

-- A certificate opens with a head and a solid, or has a first bad line among these two.
pub openings_are_decided : (certificate : List ℕ) → ((v : Version) × (n : ℕ) × (rest : List (List ℕ)) × Opens certificate v n rest) ⊎
    ((bad : Illegal) × IsBadOpening certificate bad)
openings_are_decided certificate = opening_of certificate (cut_lines certificate) refl
