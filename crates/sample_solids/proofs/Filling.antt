-- How many lines parts fill.
use Rattle.std.specs.Prelude.{◌≡◌, ℕ, ◌+◌, ◌<◌, ◌≤◌, Bool, true, false, List, [], ◌∷◌, ◌++◌, length, map, nat_le, MatchBool}
use Rattle.std.specs.Fmt.{decimal}
use Rattle.std.specs.List.{list_all, concat}
use Rattle.std.proofs.Common.{refl, ap, subst, arith, length-append, lit<}
use Rattle.std.proofs.lemmas.Bool.{and_from, cond-true, le-leb}
use Rattle.std.proofs.lemmas.Fmt.{length-decimal-le}
use Rattle.iges_fields.specs.declared.value.Value.{Value}
use Rattle.iges_fields.specs.declared.value.Value.TheVariants as value
use Rattle.iges_fields.specs.Delims.{Delims}
use Rattle.iges_fields.specs.InLine.{is_value}
use Rattle.iges_directory.specs.declared.entry.Entry.{Entry}
use Rattle.iges_write.specs.Parts.{single_parts, value_parts, parts}
use Rattle.iges_write.specs.Filled.{IsFilled}
use Rattle.iges_write.specs.Text.{has_no_record, global_values, IsRecordText}
use Rattle.iges_write.proofs.Filling.{FitLines, fit_behind}
use Rattle.iges_write.proofs.Back.{parts_fit}
use Rattle.sample_solids.specs.Sample.{whole}
use Rattle.sample_solids.proofs.Small.{IsSmall, AreSmall}

-- ---- lines that are filled

-- a line that is ended holds a part
one_more : (n k : ℕ) (ps run rest : List (List ℕ)) (part : List ℕ) → FitLines n ps → ps ≡ run ++ part ∷ rest → n < length (concat run) + length part
    → k ≤ length (part ∷ rest) + 1 → k + 1 ≤ length ps + 1
one_more n k ps [] rest part fit is full few = let short : FitLines n (part ∷ rest) = subst (FitLines n) is fit in absurd (omega (arith, full, short.0))
one_more n k ps (r ∷ run) rest part fit is full few = omega (arith, few, ap (λ xs. length xs) is, length-append (r ∷ run) (part ∷ rest))

-- so there are no more lines than parts, but for a last one
pub few_lines : (n : ℕ) (ps ls : List (List ℕ)) → FitLines n ps → IsFilled n ps ls → length ls ≤ length ps + 1
few_lines n ps [] fit h = absurd h
few_lines n ps (line ∷ []) fit h = omega arith
few_lines n ps (line ∷ next ∷ ls) fit h =
    let run = h.0 in
    let part = h.1 in
    let rest = h.2 in
    let fit_rest : FitLines n (part ∷ rest) = fit_behind n run (part ∷ rest) (subst (FitLines n) h.3 fit) in
    let fewer = few_lines n (part ∷ rest) (next ∷ ls) fit_rest h.7 in
    let more = one_more n (length (next ∷ ls)) ps run rest part fit h.3 h.5 fewer in
    omega (arith, more)

-- ---- small integers

whole_value : (k : ℕ) → IsSmall k → is_value (whole k) ≡ true
whole_value k small = le-leb k 9223372036854775807 (omega (arith, small))

pub are_values : (ns : List ℕ) → AreSmall ns → list_all is_value (map whole ns) ≡ true
are_values [] h = refl
are_values (k ∷ ns) h = and_from _ _ (whole_value k h.0) (are_values ns h.1)

short_word : (k delimiter : ℕ) → IsSmall k → length (decimal k ++ delimiter ∷ []) ≤ 64
short_word k delimiter small =
    let short : length (decimal k) ≤ 7 = length-decimal-le 7 k (lit< tt) (omega (arith, small)) (omega (arith, small)) in
    omega (arith, short, length-append (decimal k) (delimiter ∷ []))

-- each is a part with the delimiter behind it
one_part : (k delimiter : ℕ) → IsSmall k → length (value_parts 64 (whole k) delimiter) ≡ 1
one_part k delimiter small =
    let word = decimal k ++ delimiter ∷ [] in
    ap (λ xs. length xs) (cond-true (nat_le (length word) 64) _ _ (le-leb (length word) 64 (short_word k delimiter small)))

pub length-parts : (d : Delims) (k : ℕ) (ns : List ℕ) → IsSmall k → AreSmall ns → length (parts 64 d (map whole (k ∷ ns))) ≡ 1 + length ns
length-parts d k [] small h = one_part k d.end small
length-parts d k (m ∷ ns) small h =
    omega (arith, length-append (value_parts 64 (whole k) d.param) (parts 64 d (map whole (m ∷ ns))), one_part k d.param small, length-parts d m ns h.0 h.1)

-- ---- texts of one byte

-- the length with H, the byte, and the delimiter
delimiter_parts : (b delimiter : ℕ) → length (value_parts 72 (value.Text (b ∷ [])) delimiter) ≡ 3
delimiter_parts b delimiter =
    let word = decimal 1 ++ 72 ∷ [] in
    let short : length word ≤ 72 = let one = length-decimal-le 1 1 (lit< tt) (lit< tt) (omega arith) in omega (arith, one, length-append (decimal 1) (72 ∷ []))
    in
    ap (λ xs. length (xs ++ single_parts (b ∷ delimiter ∷ []))) (cond-true (nat_le (length word) 72) _ _ (le-leb (length word) 72 short))

-- a global without values has two
pub length-global : (d : Delims) → length (parts 72 d (global_values (record { delims = d; values = [] }))) ≡ 6
length-global d =
    omega (
      arith,
      delimiter_parts d.param d.param,
      delimiter_parts d.end d.end,
      length-append (value_parts 72 (value.Text (d.param ∷ [])) d.param)
          (value_parts 72 (value.Text (d.end ∷ [])) d.end),
    )

-- ---- the lines of a record

pub record_few : (d : Delims) (e : Entry × List Value) (r : List (List ℕ)) → IsRecordText d e r → length r ≤ length (parts 64 d (value.Int e.0.kind ∷ e.1)) + 1
record_few d e r t = by_type (has_no_record e.0) refl
  where
    by_type : (b : Bool) → has_no_record e.0 ≡ b → length r ≤ length (parts 64 d (value.Int e.0.kind ∷ e.1)) + 1
    by_type true h = let none : r ≡ [] = subst (λ (b : Bool). MatchBool b (r ≡ []) (IsFilled 64 (parts 64 d (value.Int e.0.kind ∷ e.1)) r)) h t in omega
        (arith, ap (λ xs. length xs) none)
    by_type false h =
        few_lines 64 (parts 64 d (value.Int e.0.kind ∷ e.1)) r (parts_fit 64 d (value.Int e.0.kind ∷ e.1) (lit< tt))
        (subst (λ (b : Bool). MatchBool b (r ≡ []) (IsFilled 64 (parts 64 d (value.Int e.0.kind ∷ e.1)) r)) h t)
