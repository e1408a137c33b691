-- The text of a global names its delimiters and has its values.
use Rattle.std.proofs.Common.{◌≡◌, ℕ, suc, true, false, cond, ◌&&◌, List, [], ◌∷◌, ◌++◌, length, drop, Option, Some, None, refl, ap, ◌∙◌, append_assoc, arith}
use Rattle.std.proofs.Common.{lit<}
use Rattle.std.specs.Prelude.{nat_eq, nat_lt, codes, slice_index, ◌==◌}
use Rattle.std.specs.Fmt.{digits}
use Rattle.std.specs.List.{AllZip, starts_with}
use Rattle.std.proofs.lemmas.Bool.{cond-true, cond-false, eq-eqb, lt-ltb}
use Rattle.iges_fields.specs.declared.value.Value.{Value}
use Rattle.iges_fields.specs.declared.value.Value.TheVariants as value
use Rattle.iges_base.specs.Word.{spaces, after_spaces}
use Rattle.iges_fields.specs.Delims.{Delims, are_permitted}
use Rattle.iges_fields.specs.FreeText.{is_delimiter_of, begins_with, delimited}
use Rattle.iges_base.proofs.Spaces.{after_spaces-spaces, after_spaces-other}
use Rattle.iges_fields.proofs.Whole.{few_items}
use Rattle.iges_fields.proofs.Words.{stop_no_space, end_stops, param_stops, param_is_no_end}
use Rattle.iges_params.specs.declared.global.Global26.{Global26}
use Rattle.iges_params.specs.Global.{Head, delimiter_at, behind_byte, head_end, head_with, head_start, any_head, if_permitted, head, have_kinds, GlobalText}
use Rattle.iges_fields.specs.Spelled.{spelling}
use Rattle.iges_write.specs.Parts.{parts}
use Rattle.iges_write.specs.Filling.{fill}
use Rattle.iges_write.specs.Text.{global_values}
use Rattle.iges_write.proofs.Back.{IsSpaced, Written, written, items_of, AreSpelled}
use Rattle.std.specs.List.{concat}

one_H : (b : ℕ) → spelling (value.Text (b ∷ [])) ≡ 49 ∷ 72 ∷ b ∷ []
unfolding digits
one_H b = refl

-- `1Hb` behind spaces names b
names : (default g b : ℕ) (rest : List ℕ) → delimiter_at default (spaces g ++ 49 ∷ 72 ∷ b ∷ rest) ≡ (b, rest)
names default g b rest =
    let front : after_spaces (spaces g ++ 49 ∷ 72 ∷ b ∷ rest) ≡ 49 ∷ 72 ∷ b ∷ rest = after_spaces-spaces g (49 ∷ 72 ∷ b ∷ rest)
    ∙ after_spaces-other 49 (72 ∷ b ∷ rest) refl in
    ap (λ (f : List ℕ). cond (starts_with nat_eq f (codes "1H") && nat_lt 2 (length f)) (slice_index f 2, drop 3 f) (default, f)) front
    ∙ cond-true (nat_lt 2 (length (49 ∷ 72 ∷ b ∷ rest))) _ _ (lt-ltb 2 (suc (suc (suc (length rest)))) (omega arith))

module _ (d : Delims) (ok : are_permitted d ≡ true) where
  -- a delimiter stands there, or another byte
  behind_yes : (b : ℕ) (rest : List ℕ) → is_delimiter_of d b ≡ true → behind_byte b (b ∷ rest) ≡ Some rest
  behind_yes b rest stop =
      ap (λ (f : List ℕ). cond (begins_with (nat_eq b) f) (Some (drop 1 f)) None) (after_spaces-other b rest (stop_no_space d ok b stop))
      ∙ cond-true (nat_eq b b) _ _ (eq-eqb b b refl)

  behind_no : (b c : ℕ) (rest : List ℕ) → is_delimiter_of d c ≡ true → (b == c) ≡ false → behind_byte b (c ∷ rest) ≡ None
  behind_no b c rest stop ne =
      ap (λ (f : List ℕ). cond (begins_with (nat_eq b) f) (Some (drop 1 f)) None) (after_spaces-other c rest (stop_no_space d ok c stop))
      ∙ cond-false (nat_eq b c) _ _ ne

  abbrev head_of : Option (List ℕ) → Head
  head_of values = record { delims = d; values = values }

  permitted_head : (values : Option (List ℕ)) → if_permitted (Some (head_of values)) ≡ Some (head_of values)
  permitted_head values = cond-true (are_permitted d) _ None ok

  -- the text begins with `1Hp`, p, `1Hr`
  start_is : (g : ℕ) (rest : List ℕ) → any_head (spaces g ++ 49 ∷ 72 ∷ d.param ∷ d.param ∷ rest) ≡ head_with d.param rest
  start_is g rest =
      ap (λ (p : ℕ × List ℕ). head_start p.0 (behind_byte p.0 p.1) (behind_byte 59 p.1)) (names 44 g d.param (d.param ∷ rest))
      ∙ ap (λ (o : Option (List ℕ)). head_start d.param o (behind_byte 59 (d.param ∷ rest))) (behind_yes d.param rest (param_stops d ok))

  with_values : (h : ℕ) (more : List ℕ) → head_with d.param (spaces h ++ 49 ∷ 72 ∷ d.end ∷ d.param ∷ more) ≡ Some (head_of (Some more))
  with_values h more =
      ap (λ (r : ℕ × List ℕ). head_end d.param r.0 (behind_byte d.param r.1) (behind_byte r.0 r.1)) (names 59 h d.end (d.param ∷ more))
      ∙ ap (λ (o : Option (List ℕ)). head_end d.param d.end o (behind_byte d.end (d.param ∷ more))) (behind_yes d.param more (param_stops d ok))

  without_values : (h : ℕ) (more : List ℕ) → head_with d.param (spaces h ++ 49 ∷ 72 ∷ d.end ∷ d.end ∷ more) ≡ Some (head_of None)
  without_values h more =
      ap (λ (r : ℕ × List ℕ). head_end d.param r.0 (behind_byte d.param r.1) (behind_byte r.0 r.1)) (names 59 h d.end (d.end ∷ more))
      ∙ ap (λ (o : Option (List ℕ)). head_end d.param d.end o (behind_byte d.end (d.end ∷ more)))
      (behind_no d.param d.end more (end_stops d ok) (param_is_no_end d ok))
      ∙ ap (λ (o : Option (List ℕ)). head_end d.param d.end None o) (behind_yes d.end more (end_stops d ok))

  -- an item of a delimiter, behind its spaces
  item_is : (item : List ℕ) (b : ℕ) (i : IsSpaced item (value.Text (b ∷ []))) (rest : List ℕ) → item ++ rest ≡ spaces i.0 ++ 49 ∷ 72 ∷ b ∷ rest
  item_is item b i rest = ap (λ (x : List ℕ). x ++ rest) (i.1 ∙ ap (λ (x : List ℕ). spaces i.0 ++ x) (one_H b)) ∙ append_assoc (spaces i.0) (49 ∷ 72 ∷ b ∷ [])
      rest

  text_global : (values : List Value) (text : List ℕ) (one two : List ℕ) (items : List (List ℕ)) (behind : ℕ)
      → IsSpaced one (value.Text (d.param ∷ [])) → IsSpaced two (value.Text (d.end ∷ [])) → AllZip IsSpaced items values → AreSpelled values
      → have_kinds values ≡ true
      → text ≡ delimited d (one ∷ two ∷ items) ++ spaces behind → GlobalText text (record { delims = d; values = values })
  text_global [] text one two [] behind i j each spelled kinds is =
      let flat : text ≡ spaces i.0 ++ 49 ∷ 72 ∷ d.param ∷ d.param ∷ (spaces j.0 ++ 49 ∷ 72 ∷ d.end ∷ d.end ∷ spaces behind) =
      is ∙ append_assoc one (d.param ∷ (two ++ d.end ∷ [])) (spaces behind) ∙ item_is one d.param i (d.param ∷ ((two ++ d.end ∷ []) ++ spaces behind))
      ∙ ap (λ (x : List ℕ). spaces i.0 ++ 49 ∷ 72 ∷ d.param ∷ d.param ∷ x)
      (append_assoc two (d.end ∷ []) (spaces behind) ∙ item_is two d.end j (d.end ∷ spaces behind)) in
      record {
        start = head_of None;
        head_is = ap head flat ∙ ap if_permitted (start_is i.0 (spaces j.0 ++ 49 ∷ 72 ∷ d.end ∷ d.end ∷ spaces behind) ∙ without_values j.0 (spaces behind))
            ∙ permitted_head None;
        delims = refl;
        values = refl;
        kinds_fit = kinds;
      }
  text_global [] text one two (item ∷ items) behind i j each spelled kinds is = absurd each
  text_global (v ∷ values) text one two [] behind i j each spelled kinds is = absurd each
  text_global (v ∷ values) text one two (item ∷ items) behind i j each spelled kinds is =
      let more = delimited d (item ∷ items) ++ spaces behind in
      let flat : text ≡ spaces i.0 ++ 49 ∷ 72 ∷ d.param ∷ d.param ∷ (spaces j.0 ++ 49 ∷ 72 ∷ d.end ∷ d.param ∷ more) =
      is ∙ append_assoc one (d.param ∷ delimited d (two ∷ item ∷ items)) (spaces behind)
      ∙ item_is one d.param i (d.param ∷ (delimited d (two ∷ item ∷ items) ++ spaces behind))
      ∙ ap (λ (x : List ℕ). spaces i.0 ++ 49 ∷ 72 ∷ d.param ∷ d.param ∷ x)
      (append_assoc two (d.param ∷ delimited d (item ∷ items)) (spaces behind) ∙ item_is two d.end j (d.param ∷ more)) in
      record {
        start = head_of (Some more);
        head_is = ap head flat ∙ ap if_permitted (start_is i.0 (spaces j.0 ++ 49 ∷ 72 ∷ d.end ∷ d.param ∷ more) ∙ with_values j.0 more)
            ∙ permitted_head (Some more);
        delims = refl;
        values = (
          length (delimited d (item ∷ items)),
          record {
            items = item ∷ items;
            rest = spaces behind;
            each = items_of (item ∷ items) (v ∷ values) each spelled;
            parts = refl;
            length_is =
                refl;
            some = omega (arith, few_items d (item ∷ items));
          },
        );
        kinds_fit = kinds;
      }

-- the filled global is the global's text
pub filled_global : (g : Global26) → are_permitted g.delims ≡ true → AreSpelled g.values → have_kinds g.values ≡ true
    → GlobalText (concat (fill 72 [] (parts 72 g.delims (global_values g)))) g
filled_global g ok spelled kinds = by_others w.others w.each w.whole
  where
    w : Written 72 [] g.delims (global_values g)
    w = written 72 [] g.delims (value.Text (g.delims.param ∷ [])) (value.Text (g.delims.end ∷ []) ∷ g.values) (lit< tt) (omega arith)

    by_others : (others : List (List ℕ)) → AllZip IsSpaced (w.first ∷ others) (global_values g) → concat (fill 72 [] (parts 72 g.delims (global_values g)))
        ≡ delimited g.delims (w.first ∷ others) ++ spaces w.behind
        → GlobalText (concat (fill 72 [] (parts 72 g.delims (global_values g)))) g
    by_others [] each is = absurd each.1
    by_others (two ∷ items) each is = text_global g.delims ok g.values _ w.first two items w.behind each.0 each.1.0 each.1.1 spelled kinds is
