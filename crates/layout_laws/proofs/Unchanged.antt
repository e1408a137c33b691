-- Where nothing is changed, the file that is made is the bytes themselves.
use Rattle.std.proofs.Common.{◌≡◌, inl, inr, ℕ, zero, suc, ◌+◌, ◌-◌, ◌<◌, ◌≤◌, Bool, true, false, not, List, [], ◌∷◌, ◌++◌, length, get_or, drop, replicate}
use Rattle.std.proofs.Common.{Option, Some, None, Ok, Err, refl, sym, ap, subst, ◌∙◌, append_assoc, arith, length-drop}
use Rattle.std.specs.Prelude.{◌&&◌, ◌||◌, ◌==◌, nat_lt, nat_le, slice_index, if◌then◌else◌}
use Rattle.std.specs.List.{list_all, list_any}
use Rattle.std.proofs.lemmas.Bool.{and_from, and_parts, both_ways, cases_Bool, cases_order, cond-true, cond-false, eqb-true, false_from_ne_true, leb-true}
use Rattle.std.proofs.lemmas.Bool.{lt-ltb, ltb-true, not_from_false, or_parts}
use Rattle.std.proofs.lemmas.List.{append-nil, get_or-drop}
use Rattle.iges_base.specs.Ended.{ended}
use Rattle.line_layout.specs.declared.change.Change.{Change}
use Rattle.line_layout.specs.declared.change.Change.TheVariants as change
use Rattle.line_layout.specs.declared.counting.LineCounts.{LineCounts}
use Rattle.line_layout.specs.declared.judging.Judged.{Judged}
use Rattle.line_layout.specs.declared.judging.Judged.TheVariants.{Blank, Bad, Good}
use Rattle.line_layout.specs.declared.letters.Section.{Section}
use Rattle.line_layout.specs.declared.letters.Section.TheVariants.{Start, Global, Directory, Param, Terminate}
use Rattle.line_layout.specs.Changes.{Cut, changed_from, changed_lines, cuts, dropped, ends_in_CR, going_on, happens, is_changed, once}
use Rattle.line_layout.specs.Columns.{columns, has_number}
use Rattle.line_layout.specs.Counts.{counted, next_number, no_lines}
use Rattle.line_layout.specs.Judging.{judge, letter, lines_after}
use Rattle.line_layout.specs.Letters.{is_last, letter_of}
use Rattle.line_layout.specs.Marks.{begins_with_two, has_letter_at, unmarked}
use Rattle.line_layout.specs.Relaid.{Laid, before, end_byte, laid, pieces, relaid, step}
use Rattle.line_layout.specs.Rows.{content, has_counts, number_field, row}
use Rattle.line_layout.proofs.Cutting.{cut_first, cut_first_cut, cut_last, cut_last_cut, made_cut, no_cuts}
use Rattle.layout_laws.proofs.Parts.{whole_line}
use Rattle.layout_laws.proofs.Rows.{content_same}
use Rattle.layout_laws.proofs.Steps.{before_ok, laid_if, step_more}

-- ---- of lists and bytes

none_first : (m n : ℕ) (xs : List ℕ) → replicate m n ++ xs ≡ [] → (m ≡ 0) × (xs ≡ [])
none_first zero n xs e = (refl, e)
none_first (suc m) n xs e = absurd cc

no_times : (m n : ℕ) → replicate m n ≡ [] → m ≡ 0
no_times m n e = (none_first m n [] (append-nil (replicate m n) ∙ e)).0

no_bytes : (xs : List ℕ) → length xs ≡ 0 → xs ≡ []
no_bytes [] e = refl
no_bytes (x ∷ xs) e = absurd (omega (arith, e))

not_once : (b : Bool) → once b ≡ 0 → b ≡ false
not_once true e = absurd cc
not_once false e = refl

is_true : (b : Bool) → not b ≡ false → b ≡ true
is_true true e = refl
is_true false e = absurd cc

drop_whole : (n : ℕ) (xs : List ℕ) → length xs ≤ length (drop n xs) → drop n xs ≡ xs
drop_whole zero xs h = refl
drop_whole (suc n) [] h = refl
drop_whole (suc n) (x ∷ xs) h = absurd (omega (arith, h, length-drop n xs))

all_CR : (xs : List ℕ) (i : ℕ) → i < length xs → list_any (λ b. not (b == 13)) xs ≡ false → (get_or xs i 0 == 13) ≡ true
all_CR [] i lt h = absurd (omega arith)
all_CR (x ∷ xs) zero lt h = is_true (x == 13) (or_parts (not (x == 13)) (list_any (λ b. not (b == 13)) xs) h).0
all_CR (x ∷ xs) (suc i) lt h = all_CR xs i (omega arith) (or_parts (not (x == 13)) (list_any (λ b. not (b == 13)) xs) h).1

-- a line with nothing but CRs after column 80, which doesn't end in one
short : (xs : List ℕ) → list_any (λ b. not (b == 13)) (drop 80 xs) ≡ false → ends_in_CR xs ≡ false → length xs ≤ 80
short xs none plain = elim (cases_order (length xs) 80) [
  | inl e ↦ omega (arith, e)
  | inr (inl lt) ↦ omega (arith, lt)
  | inr (inr gt) ↦
      let i : ℕ = length xs - 81 in
      let at : 80 + i ≡ length xs - 1 = omega (arith, gt) in
      let cr : (slice_index xs (length xs - 1) == 13) ≡ true =
      ap (λ (j : ℕ). get_or xs j 0 == 13) (sym at) ∙ ap (λ (b : ℕ). b == 13) (sym (get_or-drop 80 xs i 0))
      ∙ all_CR (drop 80 xs) i (omega (arith, gt, length-drop 80 xs)) none in
      absurd (both_ways (ends_in_CR xs) plain
      (and_from (nat_lt 0 (length xs)) (slice_index xs (length xs - 1) == 13) (lt-ltb 0 (length xs) (omega (arith, gt))) cr))
]

unmarked_whole : (piece : List ℕ) → length piece ≤ length (unmarked piece) → unmarked piece ≡ piece
unfolding unmarked
unmarked_whole piece h =
    let bom = has_letter_at piece 75 && begins_with_two piece 239 187 && slice_index piece 2 == 191 in
    let feed = has_letter_at piece 73 && slice_index piece 0 == 12 in
    elim (cases_Bool bom) [
      | inl t ↦
          let is = cond-true bom (drop 3 piece) (if feed then drop 1 piece else piece) t in
          is ∙ drop_whole 3 piece (subst (λ (l : List ℕ). length piece ≤ length l) is h)
      | inr f ↦
          let is = cond-false bom (drop 3 piece) (if feed then drop 1 piece else piece) f in
          elim (cases_Bool feed) [
            | inl t ↦
                let one = is ∙ cond-true feed (drop 1 piece) piece t in
                one ∙ drop_whole 1 piece (subst (λ (l : List ℕ). length piece ≤ length l) one h)
            | inr g ↦ is ∙ cond-false feed (drop 1 piece) piece g
          ]
    ]

-- ---- a line of which nothing is changed

module _ (c : LineCounts) (s : Section) (piece : List ℕ) (feed : Bool) (none : (k : Change) → is_changed k c s piece feed ≡ false) where
  end_kept : (feed ≡ true) × (ends_in_CR piece ≡ false)
  unfolding is_changed
  end_kept = let p = or_parts (not feed) (ends_in_CR piece) (none change.End) in (is_true feed p.0, p.1)

  same : unmarked piece ≡ piece
  unfolding is_changed
  same = unmarked_whole piece (at_least (length piece) (length (unmarked piece)) (none change.Mark))
    where
      at_least : (a b : ℕ) → nat_lt b a ≡ false → a ≤ b
      at_least a b f = elim (cases_order b a) [
        | inl e ↦ omega (arith, e)
        | inr (inl lt) ↦ absurd (both_ways (nat_lt b a) f (lt-ltb b a lt))
        | inr (inr gt) ↦ omega (arith, gt)
      ]

  letter_kept : letter piece ≡ letter_of s
  unfolding is_changed
  letter_kept =
      let p = and_parts (nat_lt 72 (length piece)) (letter piece == letter_of s)
      (is_true (nat_lt 72 (length piece) && letter piece == letter_of s)
      (ap (λ (l : List ℕ). not (nat_lt 72 (length l) && slice_index l 72 == letter_of s)) (sym same) ∙ none change.Letter)) in
      eqb-true (letter piece) (letter_of s) p.1

  number_kept : nat_le 80 (length piece) && has_number (columns 74 80 piece) (next_number c s) ≡ true
  unfolding is_changed
  number_kept = is_true (nat_le 80 (length piece) && has_number (columns 74 80 piece) (next_number c s))
      (ap (λ (l : List ℕ). not (nat_le 80 (length l) && has_number (columns 74 80 l) (next_number c s))) (sym same) ∙ none change.Number)

  long : length piece ≡ 80
  unfolding is_changed
  long =
      let few = short piece (ap (λ (l : List ℕ). list_any (λ b. not (b == 13)) (drop 80 l)) (sym same) ∙ none change.Past) end_kept.1 in
      let many = leb-true 80 (length piece) (and_parts (nat_le 80 (length piece)) (has_number (columns 74 80 piece) (next_number c s)) number_kept).0 in
      omega (arith, few, many)

  counts_kept : s ≡ Terminate → has_counts c piece ≡ true
  unfolding is_changed
  counts_kept e =
      is_true (has_counts c piece)
      (ap (λ (t : Section). is_last t && not (has_counts c piece)) (sym e)
      ∙ ap (λ (l : List ℕ). is_last s && not (has_counts c l)) (sym same) ∙ none change.Counts)

  pub row_kept : row c s (unmarked piece) ≡ piece
  unfolding row number_field
  row_kept =
      let n = next_number c s in
      ap (λ (l : List ℕ). content c s l ++ letter_of s ∷ number_field n l) same
      ∙ ap (λ (f : List ℕ). f ++ letter_of s ∷ number_field n piece) (content_same c s piece counts_kept)
      ∙ ap (λ (f : List ℕ). columns 1 72 piece ++ letter_of s ∷ f) (cond-true _ _ _ number_kept)
      ∙ ap (λ (b : ℕ). columns 1 72 piece ++ b ∷ columns 74 80 piece) (sym letter_kept)
      ∙ sym (whole_line piece long)

-- ---- bytes as their first piece and the rest

data Parted (e : ℕ) : List ℕ → Type 0 where
  nothing : Parted e []
  unended : (bytes : List ℕ) → 0 < length bytes → list_all (λ b. not (b == e)) bytes ≡ true → Parted e bytes
  cut_off : (bytes piece after : List ℕ) → bytes ≡ piece ++ e ∷ after → list_all (λ b. not (b == e)) piece ≡ true → Parted e after → Parted e bytes

module _ (e : ℕ) where
  put_before : (b : ℕ) (bytes : List ℕ) → not (b == e) ≡ true → Parted e bytes → Parted e (b ∷ bytes)
  put_before b [] off nothing = unended (b ∷ []) (omega arith) (and_from (not (b == e)) true off refl)
  put_before b bytes off (unended _ some on) = unended (b ∷ bytes) (omega arith) (and_from (not (b == e)) (list_all (λ x. not (x == e)) bytes) off on)
  put_before b bytes off (cut_off _ piece after is on more) =
      cut_off (b ∷ bytes) (b ∷ piece) after (ap (λ (l : List ℕ). b ∷ l) is) (and_from (not (b == e)) (list_all (λ x. not (x == e)) piece) off on) more

  parted : (bytes : List ℕ) → Parted e bytes
  parted [] = nothing
  parted (b ∷ bytes) = elim (cases_Bool (b == e)) [
    | inl t ↦ cut_off (b ∷ bytes) [] bytes (ap (λ (x : ℕ). x ∷ bytes) (eqb-true b e t)) refl (parted bytes)
    | inr f ↦ put_before b bytes (not_from_false (b == e) f) (parted bytes)
  ]

-- ---- a piece of which nothing is changed

step_end : (n : ℕ) (c : LineCounts) (line : List ℕ) (s : Section) (go : LineCounts → Laid) → is_last s ≡ true → step n c line (Good s) go
    ≡ Ok (ended (row c s line))
step_end n c line Terminate go e = refl
step_end n c line Start go e = absurd cc
step_end n c line Global go e = absurd cc
step_end n c line Directory go e = absurd cc
step_end n c line Param go e = absurd cc

abbrev Nothing : LineCounts → Judged → List ℕ → Bool → Type 0
Nothing c j piece feed = (k : Change) → once (happens k c j piece feed) ≡ 0

record IsKept (c : LineCounts) (j : Judged) (piece : List ℕ) (feed : Bool) : Type 0 where
  section : Section
  good : j ≡ Good section
  same : (k : Change) → is_changed k c section piece feed ≡ false

kept_if : (n : ℕ) (c : LineCounts) (piece out : List ℕ) (feed : Bool) (j : Judged) (go : LineCounts → Laid) → step n c (unmarked piece) j go ≡ Ok out
    → Nothing c j piece feed → IsKept c j piece feed
kept_if n c piece out feed Blank go is none = let no : 1 ≡ 0 = none change.Blank in absurd (omega (arith, no))
kept_if n c piece out feed (Bad reason) go is none = absurd cc
kept_if n c piece out feed (Good s) go is none =
    record { section = s; good = refl; same = λ k. not_once (is_changed k c s piece feed) (none k) }

module _ (n : ℕ) (c : LineCounts) (cut : Cut) (rest : List Cut) (ps : List (List ℕ)) (out : List ℕ) (made : laid (cut.piece ∷ ps) n c ≡ Ok out)
    (none : (k : Change) → changed_from k (cut ∷ rest) n c ≡ []) where
  abbrev piece : List ℕ
  piece = cut.piece

  abbrev further : Change → Judged → List ℕ
  further k j = going_on (lines_after c j) (n + 1) (dropped k j cut.after) (changed_from k rest (n + 1))

  split : (k : Change) → (once (happens k c (judge c piece) piece cut.feed) ≡ 0) × (further k (judge c piece) ≡ [])
  unfolding changed_from
  split k = none_first (once (happens k c (judge c piece) piece cut.feed)) n (further k (judge c piece)) (none k)

  stepped : step n c (unmarked piece) (judge c piece) (laid ps (n + 1)) ≡ Ok out
  unfolding laid
  stepped = made

  kept : IsKept c (judge c piece) piece cut.feed
  kept = kept_if n c piece out cut.feed (judge c piece) (laid ps (n + 1)) stepped (λ k. (split k).0)

  pub has_feed : cut.feed ≡ true
  has_feed = (end_kept c kept.section piece cut.feed kept.same).0

  good_step : step n c (unmarked piece) (Good kept.section) (laid ps (n + 1)) ≡ Ok out
  good_step = ap (λ (j : Judged). step n c (unmarked piece) j (laid ps (n + 1))) (sym kept.good) ∙ stepped

  line_is : ended (row c kept.section (unmarked piece)) ≡ ended piece
  line_is = ap ended (row_kept c kept.section piece cut.feed kept.same)

  further_none : (k : Change) (o : Option LineCounts) → lines_after c (Good kept.section) ≡ o
      → going_on o (n + 1) (dropped k (Good kept.section) cut.after) (changed_from k rest (n + 1)) ≡ []
  further_none k o is =
      ap (λ (x : Option LineCounts). going_on x (n + 1) (dropped k (Good kept.section) cut.after) (changed_from k rest (n + 1))) (sym is)
      ∙ ap (further k) (sym kept.good) ∙ (split k).1

  -- what is made of the piece, and of those after it
  pub stays_so : ((d : LineCounts) (more : List ℕ) → laid ps (n + 1) d ≡ Ok more → ((k : Change) → changed_from k rest (n + 1) d ≡ []) → more ≡ cut.after)
      → out ≡ piece ++ 10 ∷ cut.after
  stays_so next = elim (cases_Bool (is_last kept.section)) [
    | inl t ↦
        let written : Ok (ended (row c kept.section (unmarked piece))) ≡ Ok out = sym (step_end n c (unmarked piece) kept.section (laid ps (n + 1)) t) ∙ good_step in
        let out_is : ended (row c kept.section (unmarked piece)) ≡ out = cc in
        let behind : cut.after ≡ [] = no_bytes cut.after (no_times (length cut.after) (n + 1)
        (further_none change.After None (cond-true (is_last kept.section) None (Some (counted c kept.section)) t))) in
        sym out_is ∙ line_is ∙ ap (λ (l : List ℕ). piece ++ 10 ∷ l) (sym behind)
    | inr f ↦
        let b = before_ok (ended (row c kept.section (unmarked piece))) (laid ps (n + 1) (counted c kept.section)) out
        (sym (step_more n c (unmarked piece) kept.section (laid ps (n + 1)) f) ∙ good_step) in
        let rest_is = next (counted c kept.section) b.0 b.1
        (λ k. further_none k (Some (counted c kept.section)) (cond-false (is_last kept.section) None (Some (counted c kept.section)) f)) in
        b.2 ∙ ap (λ (l : List ℕ). l ++ b.0) line_is ∙ append_assoc piece (10 ∷ []) b.0 ∙ ap (λ (l : List ℕ). piece ++ 10 ∷ l) rest_is
  ]

-- ---- all pieces

module _ (e : ℕ) where
  no_end : (n : ℕ) (c : LineCounts) → changed_from change.Counts (cuts e []) n c ≡ [] → ⊥
  unfolding changed_from cuts
  no_end n c h = let no : n ∷ [] ≡ [] = h in absurd cc

  stays : (bytes : List ℕ) → Parted e bytes → (n : ℕ) (c : LineCounts) (out : List ℕ) → laid (pieces e bytes) n c ≡ Ok out
      → ((k : Change) → changed_from k (cuts e bytes) n c ≡ []) → out ≡ bytes
  stays [] nothing n c out made none = absurd (no_end n c (none change.Counts))
  stays bytes (unended _ some on) n c out made none =
      let cut = made_cut bytes false [] in
      let feed : false ≡ true = has_feed n c cut [] [] out (ap (λ (ps : List (List ℕ)). laid ps n c) (sym (cut_last e bytes on some)) ∙ made)
      (λ k. ap (λ (cs : List Cut). changed_from k cs n c) (sym (cut_last_cut e bytes on some)) ∙ none k) in
      absurd cc
  stays bytes (cut_off _ piece after is on more) n c out made none =
      let cut = made_cut piece (e == 10) after in
      let made_so : laid (piece ∷ pieces e after) n c ≡ Ok out =
      ap (λ (ps : List (List ℕ)). laid ps n c) (sym (ap (pieces e) is ∙ cut_first e piece after on)) ∙ made in
      let none_so : (k : Change) → changed_from k (cut ∷ cuts e after) n c ≡ [] =
      λ k. ap (λ (cs : List Cut). changed_from k cs n c) (sym (ap (cuts e) is ∙ cut_first_cut e piece after on)) ∙ none k in
      let lf : e ≡ 10 = eqb-true e 10 (has_feed n c cut (cuts e after) (pieces e after) out made_so none_so) in
      stays_so n c cut (cuts e after) (pieces e after) out made_so none_so (λ d rest m r. stays after more (n + 1) d rest m r)
      ∙ ap (λ (b : ℕ). piece ++ b ∷ after) (sym lf) ∙ sym is

pub unchanged_stays : (bytes out : List ℕ) → relaid bytes ≡ Ok out → ((k : Change) → changed_lines k bytes ≡ []) → out ≡ bytes
unfolding changed_lines
unchanged_stays bytes out made none = stays (end_byte bytes) bytes (parted (end_byte bytes) bytes) 1 no_lines out (laid_if bytes out made) none
