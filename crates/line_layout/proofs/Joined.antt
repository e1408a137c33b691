-- What is noted so far, and what is left.
use Rattle.std.proofs.Common.{◌≡◌, ℕ, zero, suc, ◌+◌, ◌<◌, arith, false, List, [], ◌∷◌, ◌++◌, length, length-append, replicate, Option, Some, None}
use Rattle.std.proofs.Common.{refl, sym, ap, ◌∙◌}
use Rattle.std.specs.Prelude.{◌==◌, if◌then◌else◌}
use Rattle.std.proofs.lemmas.Bool.{cond-false, eqb-true, false_from_ne_true}
use Rattle.std.proofs.lemmas.List.{append-nil, length-replicate}
use Rattle.line_layout.specs.declared.change.Change.{Change}
use Rattle.line_layout.specs.declared.change.ChangeCount.{ChangeCount}
use Rattle.line_layout.specs.declared.counting.LineCounts.{LineCounts}
use Rattle.line_layout.specs.Changes.{Cut, MayCount, changed_from, changed_lines, cuts, dropped, first_cut, going_on, happens, has_feed, is_of_counts}
use Rattle.line_layout.specs.Changes.{noted, once, tally_of}
use Rattle.line_layout.specs.Counts.{no_lines}
use Rattle.line_layout.specs.Judging.{judge, lines_after}
use Rattle.line_layout.specs.Relaid.{end_byte}
use Rattle.line_layout.proofs.Looping.{few_good}

abbrev pub tally_at : ℕ → ℕ → ChangeCount
tally_at times line = record { times = times; first = line }

abbrev pub line_of : ChangeCount → ℕ → ℕ
line_of t n = if t.times == 0 then n else t.first

-- a tally, and these lines after it
abbrev pub joined : ChangeCount → List ℕ → ChangeCount
joined t [] = t
joined t (n ∷ ns) = tally_at (t.times + (length ns + 1)) (line_of t n)

same_tally : (a b x y : ℕ) → a ≡ b → x ≡ y → tally_at a x ≡ tally_at b y
same_tally a b x y p q = ap (λ (k : ℕ). tally_at k x) p ∙ ap (tally_at b) q

nonzero : (n : ℕ) → 0 < n → (n == 0) ≡ false
nonzero n some = false_from_ne_true (n == 0) (λ e. omega (arith, some, eqb-true n 0 e))

noted_some : (t : ChangeCount) (n m : ℕ) → 0 < m → noted t n m ≡ tally_at (t.times + m) (line_of t n)
noted_some t n m some = cond-false (m == 0) t (tally_at (t.times + m) (line_of t n)) (nonzero m some)

length-more : (m n : ℕ) (ns : List ℕ) → length (replicate m n ++ ns) ≡ m + length ns
length-more m n ns = length-append (replicate m n) ns ∙ ap (λ (k : ℕ). k + length ns) (length-replicate {A = ℕ} m n)

joined_first : (ns : List ℕ) → joined (tally_at 0 0) ns ≡ tally_of ns
joined_first [] = refl
joined_first (n ∷ ns) = same_tally (0 + (length ns + 1)) (length ns + 1) n n (omega arith) refl

joined_more : (t : ChangeCount) (n m : ℕ) (ns : List ℕ) → joined t (replicate m n ++ ns) ≡ joined (noted t n m) ns
joined_more t n zero ns = refl
joined_more t n (suc m) [] =
    same_tally (t.times + (length (replicate m n ++ []) + 1)) (t.times + suc m) (line_of t n) (line_of t n) (omega (arith, length-more m n [])) refl
    ∙ sym (noted_some t n (suc m) (omega arith))
joined_more t n (suc m) (x ∷ ns) =
    same_tally (t.times + (length (replicate m n ++ x ∷ ns) + 1)) (t.times + suc m + (length ns + 1)) (line_of t n)
    (line_of (tally_at (t.times + suc m) (line_of t n)) x) (omega (arith, length-more m n (x ∷ ns)))
    (sym (cond-false (t.times + suc m == 0) x (line_of t n) (nonzero (t.times + suc m) (omega arith))))
    ∙ ap (λ (u : ChangeCount). joined u (x ∷ ns)) (sym (noted_some t n (suc m) (omega arith)))

joined_last : (t : ChangeCount) (n m : ℕ) → joined t (replicate m n) ≡ noted t n m
joined_last t n m = ap (joined t) (sym (append-nil (replicate m n))) ∙ joined_more t n m []

pub may_count : (c : LineCounts) (piece : List ℕ) → MayCount c (judge c piece)
may_count c piece s e = few_good c piece s e

module _ (k : Change) (e n : ℕ) (c : LineCounts) (t : ChangeCount) (left piece after : List ℕ) (total : ChangeCount)
    (cut : cuts e left ≡ first_cut e left piece after ∷ cuts e after) (same : joined t (changed_from k (cuts e left) n c) ≡ total)
    (new : ChangeCount) (new-is : new ≡ noted t n (once (happens k c (judge c piece) piece (has_feed e left piece after)))) where
  abbrev further : Option LineCounts → List ℕ
  further o = going_on o (n + 1) (dropped k (judge c piece) after) (changed_from k (cuts e after) (n + 1))

  stepped : joined new (further (lines_after c (judge c piece))) ≡ total
  unfolding changed_from
  stepped =
      ap (λ (u : ChangeCount). joined u (further (lines_after c (judge c piece)))) new-is
      ∙ sym (joined_more t n (once (happens k c (judge c piece) piece (has_feed e left piece after))) (further (lines_after c (judge c piece))))
      ∙ sym (ap (λ (cs : List Cut). joined t (changed_from k cs n c)) cut) ∙ same

  pub goes_on : (d : LineCounts) → lines_after c (judge c piece) ≡ Some d → joined new (changed_from k (cuts e after) (n + 1) d) ≡ total
  goes_on d is = sym (ap (λ (o : Option LineCounts). joined new (further o)) is) ∙ stepped

  pub goes_no_further : lines_after c (judge c piece) ≡ None → noted new (n + 1) (dropped k (judge c piece) after) ≡ total
  goes_no_further is = sym (joined_last new (n + 1) (dropped k (judge c piece) after)) ∙ sym (ap (λ (o : Option LineCounts). joined new (further o)) is)
      ∙ stepped

pub ends_so : (k : Change) (e n : ℕ) (c : LineCounts) (t total : ChangeCount) → joined t (changed_from k (cuts e []) n c) ≡ total
    → noted t n (once (is_of_counts k)) ≡ total
unfolding changed_from cuts
ends_so k e n c t total same = sym (joined_last t n (once (is_of_counts k))) ∙ same

pub begins_so : (k : Change) (bytes : List ℕ) (e : ℕ) → e ≡ end_byte bytes
    → joined (record { times = 0; first = 0 }) (changed_from k (cuts e bytes) 1 no_lines) ≡ tally_of (changed_lines k bytes)
unfolding changed_lines
begins_so k bytes e is = joined_first (changed_from k (cuts e bytes) 1 no_lines) ∙ ap (λ (b : ℕ). tally_of (changed_from k (cuts b bytes) 1 no_lines)) is
