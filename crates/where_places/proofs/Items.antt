-- What comes behind items of known values.
use Rattle.std.proofs.Common.{◌≡◌, ℕ, zero, suc, ◌+◌, Bool, true, false, not, List, [], ◌∷◌, ◌++◌, length, take, drop, refl, sym, ap, subst, ◌∙◌, append_assoc}
use Rattle.std.specs.Prelude.{◌==◌, flat_map}
use Rattle.std.specs.List.{AllZip, list_all, prefix_len}
use Rattle.std.specs.Char.{is_ascii_digit}
use Rattle.std.proofs.lemmas.Bool.{and_parts, and_from, not_from_true}
use Rattle.std.proofs.lemmas.List.{drop_at}
use Rattle.std.proofs.lemmas.List.Folds.{list_all-append}
use Rattle.iges_base.specs.Word.{is_empty, spaces, are_digits}
use Rattle.iges_base.proofs.Lists.{prefix_len-front, list_all-implies}
use Rattle.iges_fields.specs.declared.value.Value.{Value}
use Rattle.iges_fields.specs.declared.value.Value.TheVariants as value
use Rattle.iges_fields.specs.Delims.{Delims, are_permitted}
use Rattle.iges_fields.specs.FreeText.{IsItem, delimited, is_delimiter_of}
use Rattle.iges_fields.proofs.Words.{is_number_byte, number_byte_no_stop, number_byte_no_H, digit_number_byte, space_no_stop, param_stops, end_stops, integer_is}
use Rattle.iges_fields.proofs.Words.{integer_number_bytes, real_number_bytes}
use Rattle.where_places.specs.ItemEnds.{behind_item, behind_items, from_delimiter, from_h}
use Rattle.where_places.specs.Spans.{parted}

all_spaces : (p : ℕ → Bool) (n : ℕ) → p 32 ≡ true → list_all p (spaces n) ≡ true
all_spaces p zero e = refl
all_spaces p (suc n) e = and_from (p 32) (list_all p (spaces n)) e (all_spaces p n e)

-- a list without the front that passes a test
without_front : (p : ℕ → Bool) (xs : List ℕ) (y : ℕ) (ys : List ℕ) → list_all p xs ≡ true → p y ≡ false
    → drop (prefix_len p (xs ++ y ∷ ys)) (xs ++ y ∷ ys) ≡ y ∷ ys
without_front p xs y ys all e =
    ap (λ (n : ℕ). drop n (xs ++ y ∷ ys)) (prefix_len-front p xs y ys all e) ∙ drop_at xs (y ∷ ys) (length xs) refl

pub from_first_h : (front behind : List ℕ) → list_all (λ b. not (b == 72)) front ≡ true → from_h (front ++ 72 ∷ behind) ≡ 72 ∷ behind
unfolding from_h
from_first_h front behind all = without_front (λ b. not (b == 72)) front 72 behind all refl

module _ (d : Delims) (ok : are_permitted d ≡ true) where
  abbrev no_stop : ℕ → Bool
  no_stop b = not (is_delimiter_of d b)

  -- an item of a word has no delimiter
  word_stops : (before after : ℕ) (word : List ℕ) → list_all is_number_byte word ≡ true → list_all no_stop (spaces before ++ word ++ spaces after) ≡ true
  word_stops before after word bytes =
      list_all-append no_stop (spaces before ++ word) (spaces after)
      ∙ and_from _ _ (list_all-append no_stop (spaces before) word
      ∙ and_from _ _ (all_spaces no_stop before (space_no_stop d ok)) (list_all-implies is_number_byte no_stop (number_byte_no_stop d ok) word bytes))
      (all_spaces no_stop after (space_no_stop d ok))

  module _ (x : ℕ) (rest : List ℕ) (stop : is_delimiter_of d x ≡ true) where
    from_stop : (front : List ℕ) → list_all no_stop front ≡ true → from_delimiter d (front ++ x ∷ rest) ≡ x ∷ rest
    unfolding from_delimiter
    from_stop front all = without_front no_stop front x rest all (not_from_true _ stop)

    behind_word : (item : List ℕ) (before after : ℕ) (word : List ℕ) → list_all is_number_byte word ≡ true → item ≡ spaces before ++ word ++ spaces after
        → from_delimiter d (item ++ x ∷ rest) ≡ x ∷ rest
    behind_word item before after word bytes is = from_stop item (ap (list_all no_stop) is ∙ word_stops before after word bytes)

    behind_text : (before after : ℕ) (digits t : List ℕ) → are_digits digits ≡ true
        → behind_item d (value.Text t) ((spaces before ++ (digits ++ 72 ∷ t) ++ spaces after) ++ x ∷ rest) ≡ x ∷ rest
    behind_text before after digits t are =
        let more : List ℕ = spaces after ++ x ∷ rest in
        let front : List ℕ = spaces before ++ digits in
        let no_h : list_all (λ b. not (b == 72)) front ≡ true =
        list_all-append (λ b. not (b == 72)) (spaces before) digits
        ∙ and_from _ _ (all_spaces (λ b. not (b == 72)) before refl)
        (list_all-implies is_ascii_digit (λ b. not (b == 72)) (λ b e. number_byte_no_H b (digit_number_byte b e)) digits
        (and_parts (not (is_empty digits)) (list_all is_ascii_digit digits) are).1) in
        let shape : (spaces before ++ (digits ++ 72 ∷ t) ++ spaces after) ++ x ∷ rest ≡ front ++ 72 ∷ (t ++ more) =
        append_assoc (spaces before ++ (digits ++ 72 ∷ t)) (spaces after) (x ∷ rest)
        ∙ append_assoc (spaces before) (digits ++ 72 ∷ t) more
        ∙ ap (λ (ys : List ℕ). spaces before ++ ys) (append_assoc digits (72 ∷ t) more)
        ∙ sym (append_assoc (spaces before) digits (72 ∷ (t ++ more))) in
        ap (λ (ys : List ℕ). from_delimiter d (drop (length t) (drop 1 (from_h ys)))) shape
        ∙ ap (λ (ys : List ℕ). from_delimiter d (drop (length t) (drop 1 ys))) (from_first_h front (t ++ more) no_h)
        ∙ ap (from_delimiter d) (drop_at t more (length t) refl)
        ∙ from_stop (spaces after) (all_spaces no_stop after (space_no_stop d ok))

    -- behind an item its delimiter comes
    pub behind_is : (item : List ℕ) (v : Value) → IsItem item v → behind_item d v (item ++ x ∷ rest) ≡ x ∷ rest
    behind_is item value.Default h =
        behind_word item h.0 h.1 [] refl (h.4 ∙ ap (λ (w : List ℕ). spaces h.0 ++ w ++ spaces h.1) h.3)
    behind_is item (value.Int n) h = behind_word item h.0 h.1 h.2 (integer_number_bytes h.2 (integer_is h.2 n h.3.0).0) h.4
    behind_is item (value.Real spelling) h = behind_word item h.0 h.1 h.2 (real_number_bytes h.2 h.3.0) h.4
    behind_is item (value.Text t) h =
        ap (λ (i : List ℕ). behind_item d (value.Text t) (i ++ x ∷ rest)) (h.4 ∙ ap (λ (w : List ℕ). spaces h.0 ++ w ++ spaces h.1) h.3.3)
        ∙ behind_text h.0 h.1 h.3.0 t h.3.1

  -- behind items with the parameter delimiter comes what follows them
  pub behind_all : (items : List (List ℕ)) (vs : List Value) (rest : List ℕ) → AllZip IsItem items vs → behind_items d vs (parted d items ++ rest) ≡ rest
  behind_all [] [] rest each = refl
  behind_all (i ∷ items) (v ∷ vs) rest each =
      let next : List ℕ = parted d items ++ rest in
      let shape : (parted d (i ∷ items)) ++ rest ≡ i ++ d.param ∷ next =
      append_assoc (i ++ d.param ∷ []) (parted d items) rest ∙ append_assoc i (d.param ∷ []) next in
      ap (λ (t : List ℕ). behind_items d vs (drop 1 (behind_item d v t))) shape
      ∙ ap (λ (t : List ℕ). behind_items d vs (drop 1 t)) (behind_is d.param next (param_stops d ok) i v each.0)
      ∙ behind_all items vs rest each.1
  behind_all [] (v ∷ vs) rest each = absurd each
  behind_all (i ∷ items) [] rest each = absurd each

  -- behind all items comes what follows the record delimiter
  pub behind_delimited : (items : List (List ℕ)) (vs : List Value) (rest : List ℕ) → AllZip IsItem items vs
      → behind_items d vs (delimited d items ++ rest) ≡ rest
  behind_delimited [] [] rest each = refl
  behind_delimited (i ∷ []) (v ∷ []) rest each =
      ap (λ (t : List ℕ). drop 1 (behind_item d v t)) (append_assoc i (d.end ∷ []) rest)
      ∙ ap (drop 1) (behind_is d.end rest (end_stops d ok) i v each.0)
  behind_delimited (i ∷ j ∷ items) (v ∷ vs) rest each =
      let next : List ℕ = delimited d (j ∷ items) ++ rest in
      ap (λ (t : List ℕ). behind_items d vs (drop 1 (behind_item d v t))) (append_assoc i (d.param ∷ delimited d (j ∷ items)) rest)
      ∙ ap (λ (t : List ℕ). behind_items d vs (drop 1 t)) (behind_is d.param next (param_stops d ok) i v each.0)
      ∙ behind_delimited (j ∷ items) vs rest each.1
  behind_delimited [] (v ∷ vs) rest each = absurd each
  behind_delimited (i ∷ items) [] rest each = absurd each
  behind_delimited (i ∷ []) (v ∷ w ∷ vs) rest each = absurd each.1
