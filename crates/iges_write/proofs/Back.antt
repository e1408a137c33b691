-- Parts filled into lines are the values of free text, with spaces before some of them.
use Rattle.std.proofs.Common.{◌≡◌, inl, inr, ℕ, ◌+◌, ◌-◌, ◌<◌, ◌≤◌, true, List, [], ◌∷◌, ◌++◌, length, take, drop, refl, sym, ap, subst, ◌∙◌, append_assoc}
use Rattle.std.proofs.Common.{arith, length-append}
use Rattle.std.specs.Prelude.{nat_le}
use Rattle.std.specs.Fmt.{decimal}
use Rattle.std.specs.List.{concat, AllZip, AllByRecursion, list_all}
use Rattle.std.proofs.lemmas.Bool.Decides.{leb_tells}
use Rattle.std.proofs.lemmas.Bool.{cond-true, cond-false, and_parts}
use Rattle.std.proofs.lemmas.List.{append-nil, take-append-drop, length-take}
use Rattle.iges_fields.specs.declared.value.Value.{Value}
use Rattle.iges_fields.specs.declared.value.Value.TheVariants as value
use Rattle.iges_fields.specs.Delims.{Delims}
use Rattle.iges_base.specs.Word.{spaces}
use Rattle.iges_fields.specs.FreeText.{Spells, IsItem, delimited, FreeText}
use Rattle.iges_fields.specs.Spelled.{spelling}
use Rattle.iges_base.proofs.Lists.{all_append}
use Rattle.iges_fields.proofs.Whole.{few_items}
use Rattle.iges_write.specs.Parts.{single_parts, word_parts, value_parts, parts}
use Rattle.iges_write.specs.Filled.{padded, IsFilled}
use Rattle.iges_write.specs.Filling.{fill}
use Rattle.iges_fields.specs.InLine.{is_value}
use Rattle.iges_write.proofs.Spelled.{Spells-spelling}
use Rattle.iges_write.proofs.Filling.{FitLines, fill-fits, fill-new, IsFilled-fill}

-- Filling these parts behind a line puts out a text, and leaves a line. Before the parts stand spaces.
record Puts (n : ℕ) (line : List ℕ) (ps : List (List ℕ)) (text : List ℕ) : Type 0 where
  out : List ℕ
  left : List ℕ
  gap : ℕ
  short : length left ≤ n
  fills : (rest : List (List ℕ)) → concat (fill n line (ps ++ rest)) ≡ out ++ concat (fill n left rest)
  whole : out ++ left ≡ line ++ spaces gap ++ text

-- one part, which fits an empty line
part_puts : (n : ℕ) (line part : List ℕ) → length line ≤ n → length part ≤ n → Puts n line (part ∷ []) part
part_puts n line part fits part_fits =
    elim (leb_tells (length line + length part) n) [
      | inl t ↦ record {
        out = [];
        left = line ++ part;
        gap = 0;
        short = omega (arith, t.1, length-append line part);
        fills = λ rest. ap concat (fill-fits n line part rest t.1);
        whole = ap (λ (l : List ℕ). l ++ part) (sym (append-nil line));
      }
      | inr t ↦ record {
        out = padded n line;
        left = part;
        gap = n - length line;
        short = part_fits;
        fills = λ rest. ap concat (fill-new n line part rest t.1);
        whole = refl;
      }
    ]

-- single bytes need no spaces before them
single_puts : (n : ℕ) (line bytes : List ℕ) → 0 < n → length line ≤ n → (p : Puts n line (single_parts bytes) bytes) × (p.gap ≡ 0)
single_puts n line [] some fits =
    (record { out = []; left = line; gap = 0; short = fits; fills = λ rest. refl; whole = sym (append-nil (line ++ []) ∙ append-nil line) }, refl)
single_puts n line (b ∷ bytes) some fits =
    elim (leb_tells (length line + length (b ∷ [])) n) [
      | inl t ↦
          let more = single_puts n (line ++ b ∷ []) bytes some (omega (arith, t.1, length-append line (b ∷ []))) in (
            record {
              out = more.0.out;
              left = more.0.left;
              gap = 0;
              short = more.0.short;
              fills = λ rest. ap concat (fill-fits n line (b ∷ []) (single_parts bytes ++ rest) t.1) ∙ more.0.fills rest;
              whole = more.0.whole ∙ ap (λ (k : ℕ). (line ++ b ∷ []) ++ spaces k ++ bytes) more.1
                  ∙ ap (λ (l : List ℕ). l ++ bytes) (append-nil (line ++ b ∷ []))
                  ∙ append_assoc line (b ∷ []) bytes ∙ ap (λ (l : List ℕ). l ++ b ∷ bytes) (sym (append-nil line));
            },
            refl,
          )
      | inr t ↦
          let more = single_puts n (b ∷ []) bytes some (omega arith) in
          let room : n - length line ≡ 0 = omega (arith, t.1, fits) in
          let full : padded n line ≡ line = ap (λ (k : ℕ). line ++ spaces k) room ∙ append-nil line in (
            record {
              out = padded n line ++ more.0.out;
              left = more.0.left;
              gap = 0;
              short = more.0.short;
              fills = λ rest. ap concat (fill-new n line (b ∷ []) (single_parts bytes ++ rest) t.1) ∙ ap (λ (l : List ℕ). padded n line ++ l)
                  (more.0.fills rest) ∙ sym (append_assoc (padded n line) more.0.out (concat (fill n more.0.left rest)));
              whole = append_assoc (padded n line) more.0.out more.0.left ∙ ap (λ (l : List ℕ). padded n line ++ l)
                  (more.0.whole ∙ ap (λ (k : ℕ). (b ∷ []) ++ spaces k ++ bytes) more.1)
                  ∙ ap (λ (l : List ℕ). l ++ b ∷ bytes) (full ∙ sym (append-nil line));
            },
            refl,
          )
    ]

-- parts, and single bytes behind them
then_singles : (n : ℕ) (line : List ℕ) (ps : List (List ℕ)) (text bytes : List ℕ) → 0 < n → Puts n line ps text
    → Puts n line (ps ++ single_parts bytes) (text ++ bytes)
then_singles n line ps text bytes some p =
    let s = single_puts n p.left bytes some p.short in
    record {
      out = p.out ++ s.0.out;
      left = s.0.left;
      gap = p.gap;
      short = s.0.short;
      fills = λ rest. ap (λ (l : List (List ℕ)). concat (fill n line l)) (append_assoc ps (single_parts bytes) rest) ∙ p.fills (single_parts bytes ++ rest)
          ∙ ap (λ (l : List ℕ). p.out ++ l) (s.0.fills rest) ∙ sym (append_assoc p.out s.0.out (concat (fill n s.0.left rest)));
      whole = append_assoc p.out s.0.out s.0.left
          ∙ ap (λ (l : List ℕ). p.out ++ l) (s.0.whole ∙ ap (λ (k : ℕ). p.left ++ spaces k ++ bytes) s.1 ∙ ap (λ (l : List ℕ). l ++ bytes) (append-nil p.left))
          ∙ sym (append_assoc p.out p.left bytes) ∙ ap (λ (l : List ℕ). l ++ bytes) p.whole ∙ append_assoc (line ++ spaces p.gap) text bytes;
    }

word_puts : (n : ℕ) (line word : List ℕ) → 0 < n → length line ≤ n → Puts n line (word_parts n word) word
word_puts n line word some fits =
    elim (leb_tells (length word) n) [
      | inl t ↦ subst (λ (ps : List (List ℕ)). Puts n line ps word) (sym (cond-true (nat_le (length word) n) _ _ t.0)) (part_puts n line word fits t.1)
      | inr t ↦
          let long = then_singles n line (take n word ∷ []) (take n word) (drop n word) some
          (part_puts n line (take n word) fits (omega (arith, length-take n word))) in
          subst (λ (ps : List (List ℕ)). Puts n line ps word) (sym (cond-false (nat_le (length word) n) _ _ t.0))
          (subst (λ (w : List ℕ). Puts n line (take n word ∷ single_parts (drop n word)) w) (take-append-drop n word) long)
    ]

value_puts : (n : ℕ) (line : List ℕ) (v : Value) (delimiter : ℕ) → 0 < n → length line ≤ n
    → Puts n line (value_parts n v delimiter) (spelling v ++ delimiter ∷ [])
value_puts n line value.Default delimiter some fits = word_puts n line (delimiter ∷ []) some fits
value_puts n line (value.Int z) delimiter some fits = word_puts n line (spelling (value.Int z) ++ delimiter ∷ []) some fits
value_puts n line (value.Real word) delimiter some fits = word_puts n line (word ++ delimiter ∷ []) some fits
value_puts n line (value.Text text) delimiter some fits =
    let p = then_singles n line _ _ (text ++ delimiter ∷ []) some (word_puts n line (decimal (length text) ++ 72 ∷ []) some fits) in
    subst (λ (w : List ℕ). Puts n line (value_parts n (value.Text text) delimiter) w)
    (append_assoc (decimal (length text)) (72 ∷ []) (text ++ delimiter ∷ []) ∙ sym (append_assoc (decimal (length text)) (72 ∷ text) (delimiter ∷ []))) p

-- values whose spelling spells them
abbrev pub AreSpelled : List Value → Type 0
AreSpelled values = AllByRecursion (λ (v : Value). Spells v (spelling v)) values

-- the spelling with spaces before it
abbrev pub IsSpaced : List ℕ → Value → Type 0
IsSpaced item v = (gap : ℕ) × (item ≡ spaces gap ++ spelling v)

pub record Written (n : ℕ) (line : List ℕ) (d : Delims) (values : List Value) : Type 0 where
  pub first : List ℕ
  pub others : List (List ℕ)
  pub behind : ℕ
  pub each : AllZip IsSpaced (first ∷ others) values
  pub whole : concat (fill n line (parts n d values)) ≡ line ++ (delimited d (first ∷ others) ++ spaces behind)

item_of : (item : List ℕ) (v : Value) → IsSpaced item v → Spells v (spelling v) → IsItem item v
item_of item v i h = (i.0, 0, spelling v, h, i.1 ∙ sym (append-nil (spaces i.0 ++ spelling v)))

pub items_of : (items : List (List ℕ)) (values : List Value) → AllZip IsSpaced items values → AreSpelled values → AllZip IsItem items values
items_of [] [] h k = tt
items_of [] (v ∷ values) h k = absurd h
items_of (item ∷ items) [] h k = absurd h
items_of (item ∷ items) (v ∷ values) h k = (item_of item v h.0 k.0, items_of items values h.1 k.1)

pub written : (n : ℕ) (line : List ℕ) (d : Delims) (v : Value) (values : List Value) → 0 < n → length line ≤ n → Written n line d (v ∷ values)
written n line d v [] some fits =
    let p = value_puts n line v d.end some fits in
    let vp = value_parts n v d.end in
    let item = spaces p.gap ++ spelling v in
    record {
      first = item;
      others = [];
      behind = n - length p.left;
      each = ((p.gap, refl), tt);
      whole =
          ap (λ (ps : List (List ℕ)). concat (fill n line ps)) (sym (append-nil vp)) ∙ p.fills []
          ∙ ap (λ (l : List ℕ). p.out ++ l) (append-nil (padded n p.left)) ∙ sym (append_assoc p.out p.left (spaces (n - length p.left)))
          ∙ ap (λ (l : List ℕ). l ++ spaces (n - length p.left))
          (p.whole ∙ append_assoc line (spaces p.gap) (spelling v ++ d.end ∷ [])
          ∙ ap (λ (l : List ℕ). line ++ l) (sym (append_assoc (spaces p.gap) (spelling v) (d.end ∷ []))))
          ∙ append_assoc line (item ++ d.end ∷ []) (spaces (n - length p.left));
    }
written n line d v (w ∷ values) some fits =
    let p = value_puts n line v d.param some fits in
    let vp = value_parts n v d.param in
    let item = spaces p.gap ++ spelling v in
    let more = written n p.left d w values some p.short in
    let tail = delimited d (more.first ∷ more.others) in
    record {
      first = item;
      others = more.first ∷ more.others;
      behind = more.behind;
      each = ((p.gap, refl), more.each);
      whole =
          p.fills (parts n d (w ∷ values)) ∙ ap (λ (l : List ℕ). p.out ++ l) more.whole ∙ sym (append_assoc p.out p.left (tail ++ spaces more.behind))
          ∙ ap (λ (l : List ℕ). l ++ (tail ++ spaces more.behind))
          (p.whole ∙ append_assoc line (spaces p.gap) (spelling v ++ d.param ∷ [])
          ∙ ap (λ (l : List ℕ). line ++ l) (sym (append_assoc (spaces p.gap) (spelling v) (d.param ∷ []))))
          ∙ append_assoc line (item ++ d.param ∷ []) (tail ++ spaces more.behind)
          ∙ ap (λ (l : List ℕ). line ++ l)
          (sym (append_assoc (item ++ d.param ∷ []) tail (spaces more.behind)) ∙ ap (λ (l : List ℕ). l ++ spaces more.behind)
          (append_assoc item (d.param ∷ []) tail));
    }

-- what is filled reads back as free text
pub fill-FreeText : (n : ℕ) (d : Delims) (v : Value) (values : List Value) → 0 < n → AreSpelled (v ∷ values)
    → (used : ℕ) × FreeText d (concat (fill n [] (parts n d (v ∷ values)))) (v ∷ values) used
fill-FreeText n d v values some h =
    let w = written n [] d v values some (omega arith) in (
      length (delimited d (w.first ∷ w.others)),
      record {
        items = w.first ∷ w.others;
        rest = spaces w.behind;
        each = items_of (w.first ∷ w.others) (v ∷ values) w.each h;
        parts = w.whole;
        length_is =
            refl;
        some = omega (arith, few_items d (w.first ∷ w.others));
      },
    )

-- and so do lines that are filled
pub IsFilled-FreeText : (n : ℕ) (d : Delims) (v : Value) (values : List Value) (lines : List (List ℕ)) → 0 < n → AreSpelled (v ∷ values)
    → FitLines n (parts n d (v ∷ values))
    → IsFilled n (parts n d (v ∷ values)) lines → (used : ℕ) × FreeText d (concat lines) (v ∷ values) used
IsFilled-FreeText n d v values lines some h fit filled =
    subst (λ (ls : List (List ℕ)). (used : ℕ) × FreeText d (concat ls) (v ∷ values) used) (sym (IsFilled-fill n (parts n d (v ∷ values)) lines fit filled))
    (fill-FreeText n d v values some h)

-- ---- no part is longer than a line

singles_fit : (n : ℕ) (bytes : List ℕ) → 0 < n → FitLines n (single_parts bytes)
singles_fit n [] some = tt
singles_fit n (b ∷ bytes) some = (omega arith, singles_fit n bytes some)

word_fits : (n : ℕ) (word : List ℕ) → 0 < n → FitLines n (word_parts n word)
word_fits n word some =
    elim (leb_tells (length word) n) [
      | inl t ↦ subst (FitLines n) (sym (cond-true (nat_le (length word) n) _ _ t.0)) (t.1, tt)
      | inr t ↦ subst (FitLines n) (sym (cond-false (nat_le (length word) n) _ _ t.0)) (omega (arith, length-take n word), singles_fit n (drop n word) some)
    ]

value_fits : (n : ℕ) (v : Value) (delimiter : ℕ) → 0 < n → FitLines n (value_parts n v delimiter)
value_fits n value.Default delimiter some = word_fits n (delimiter ∷ []) some
value_fits n (value.Int z) delimiter some = word_fits n (spelling (value.Int z) ++ delimiter ∷ []) some
value_fits n (value.Real word) delimiter some = word_fits n (word ++ delimiter ∷ []) some
value_fits n (value.Text text) delimiter some = all_append (λ (p : List ℕ). length p ≤ n) _ _ (word_fits n (decimal (length text) ++ 72 ∷ []) some)
    (singles_fit n (text ++ delimiter ∷ []) some)

pub parts_fit : (n : ℕ) (d : Delims) (values : List Value) → 0 < n → FitLines n (parts n d values)
parts_fit n d [] some = tt
parts_fit n d (v ∷ []) some = value_fits n v d.end some
parts_fit n d (v ∷ w ∷ values) some = all_append (λ (p : List ℕ). length p ≤ n) (value_parts n v d.param) (parts n d (w ∷ values))
    (value_fits n v d.param some) (parts_fit n d (w ∷ values) some)

pub values_spelled : (values : List Value) → list_all is_value values ≡ true → AreSpelled values
values_spelled [] h = tt
values_spelled (v ∷ values) h = let p = and_parts (is_value v) (list_all is_value values) h in (Spells-spelling v p.0, values_spelled values p.1)
