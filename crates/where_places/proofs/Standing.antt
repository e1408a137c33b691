-- The span that is found is that of the value.
use Rattle.std.proofs.Common.{◌≡◌, ℕ, zero, suc, ◌+◌, ◌-◌, ◌≤◌, ◌<◌, Bool, true, false, not, ◌||◌, List, [], ◌∷◌, ◌++◌, length, take, drop, ℤ, Some, None, refl, sym, ap}
use Rattle.std.proofs.Common.{subst, ◌∙◌, append_assoc, arith, length-append}
use Rattle.std.specs.Prelude.{◌==◌, Option, slice_get}
use Rattle.std.specs.Char.{is_ascii_digit}
use Rattle.std.specs.List.{AllZip, list_all, prefix_len}
use Rattle.std.proofs.lemmas.Bool.{and_parts, or_right, or_left, not_from_true, not_from_false, not-true, false_from_ne_true, both_ways, eqb-true, or_from}
use Rattle.std.proofs.lemmas.Option.{slice_get_past}
use Rattle.std.proofs.lemmas.List.{take_all, drop_at, append-nil, replicate-append-replicate, length-replicate}
use Rattle.iges_base.specs.Word.{after_spaces, are_digits, is_empty, is_space, spaces}
use Rattle.iges_base.proofs.Spaces.{after_spaces-other, after_spaces-spaces}
use Rattle.iges_base.proofs.Lists.{list_all-implies, prefix_len-front, prefix_len-stop}
use Rattle.iges_fields.specs.declared.value.Value.{Value}
use Rattle.iges_fields.specs.declared.value.Value.TheVariants as value
use Rattle.iges_fields.specs.Delims.{Delims, are_permitted}
use Rattle.iges_fields.specs.FreeText.{FreeText, IsItem, Spells, delimited, is_delimiter_of}
use Rattle.iges_fields.proofs.Words.{digit_number_byte, end_stops, integer_is, integer_number_bytes, is_number_byte, number_byte_no_H, number_byte_no_space}
use Rattle.iges_fields.proofs.Words.{number_byte_no_stop, param_stops, real_number_bytes, stop_no_space}
use Rattle.where_places.specs.ItemEnds.{behind_counted, behind_items, from_delimiter, from_h}
use Rattle.where_places.specs.Spans.{StandsAt, is_of_word, parted, span_at, span_in, span_past, value_span, word_len}
use Rattle.where_places.specs.declared.span.Span.{Span}
use Rattle.where_places.proofs.Items.{behind_all, behind_delimited, from_first_h}

-- ---- the word of an item

-- the item's word, where this delimiter and this rest are behind the item
record Worded (d : Delims) (item : List ℕ) (v : Value) (x : ℕ) (rest : List ℕ) : Type 0 where
  before : ℕ
  word : List ℕ
  after : ℕ
  spells : Spells v word
  shape : item ≡ spaces before ++ word ++ spaces after
  body : after_spaces (item ++ x ∷ rest) ≡ word ++ (spaces after ++ x ∷ rest)
  width : word_len d v (word ++ (spaces after ++ x ∷ rest)) ≡ length word

module _ (d : Delims) (ok : are_permitted d ≡ true) (x : ℕ) (rest : List ℕ) (stop : is_delimiter_of d x ≡ true) where
  grouped : (before after : ℕ) (w : List ℕ) → after_spaces ((spaces before ++ w ++ spaces after) ++ x ∷ rest) ≡ after_spaces (w ++ (spaces after ++ x ∷ rest))
  grouped before after w =
      ap after_spaces (append_assoc (spaces before ++ w) (spaces after) (x ∷ rest) ∙ append_assoc (spaces before) w (spaces after ++ x ∷ rest))
      ∙ after_spaces-spaces before (w ++ (spaces after ++ x ∷ rest))

  ends_at : (after : ℕ) (w : List ℕ) → list_all (is_of_word d) w ≡ true → prefix_len (is_of_word d) (w ++ (spaces after ++ x ∷ rest)) ≡ length w
  ends_at zero w all = prefix_len-front (is_of_word d) w x rest all (not_from_true (is_space x || is_delimiter_of d x) (or_right (is_space x) _ stop))
  ends_at (suc n) w all = prefix_len-front (is_of_word d) w 32 (spaces n ++ x ∷ rest) all refl

  of_word : (b : ℕ) → is_number_byte b ≡ true → is_of_word d b ≡ true
  of_word b h = not_from_false (is_space b || is_delimiter_of d b)
      (or_from (is_space b) (is_delimiter_of d b) (not-true _ (number_byte_no_space b h)) (not-true _ (number_byte_no_stop d ok b h)))

  numbered : (v : Value) → ((body : List ℕ) → word_len d v body ≡ prefix_len (is_of_word d) body) → (item : List ℕ) (before after : ℕ) (word : List ℕ)
      → list_all is_number_byte word ≡ true → Spells v word → item ≡ spaces before ++ word ++ spaces after → Worded d item v x rest
  numbered v plain item before after [] bytes spells is = record {
    before = before + after;
    word = [];
    after = 0;
    spells = spells;
    shape = is ∙ append_assoc (spaces before) [] (spaces after) ∙ replicate-append-replicate before after 32
        ∙ sym (append-nil (spaces (before + after))) ∙ sym (append-nil (spaces (before + after) ++ []));
    body = ap (λ (i : List ℕ). after_spaces (i ++ x ∷ rest)) is ∙ grouped before after []
        ∙ (after_spaces-spaces after (x ∷ rest) ∙ after_spaces-other x rest (stop_no_space d ok x stop));
    width = plain (x ∷ rest) ∙ ends_at 0 [] refl;
  }
  numbered v plain item before after (c ∷ w) bytes spells is =
      let first : is_space c ≡ false = not-true _ (number_byte_no_space c (and_parts (is_number_byte c) (list_all is_number_byte w) bytes).0) in
      record {
        before = before;
        word = c ∷ w;
        after = after;
        spells = spells;
        shape = is;
        body = ap (λ (i : List ℕ). after_spaces (i ++ x ∷ rest)) is ∙ grouped before after (c ∷ w)
            ∙ after_spaces-other c (w ++ (spaces after ++ x ∷ rest)) first;
        width = plain ((c ∷ w) ++ (spaces after ++ x ∷ rest)) ∙ ends_at after (c ∷ w) (list_all-implies is_number_byte (is_of_word d) of_word (c ∷ w) bytes);
      }

  counted : (item : List ℕ) (before after : ℕ) (digits t : List ℕ) → are_digits digits ≡ true → Spells (value.Text t) (digits ++ 72 ∷ t)
      → item ≡ spaces before ++ (digits ++ 72 ∷ t) ++ spaces after → Worded d item (value.Text t) x rest
  counted item before after [] t are spells is = absurd (let e : false ≡ true = are in cc)
  counted item before after (c ∷ ds) t are spells is =
      let digits : List ℕ = c ∷ ds in
      let more : List ℕ = spaces after ++ x ∷ rest in
      let digit = (and_parts (is_ascii_digit c) (list_all is_ascii_digit ds) are).0 in
      let first : is_space c ≡ false = not-true _ (number_byte_no_space c (digit_number_byte c digit)) in
      let whole : (digits ++ 72 ∷ t) ++ more ≡ digits ++ 72 ∷ (t ++ more) = append_assoc digits (72 ∷ t) more in
      let behind : behind_counted (length t) ((digits ++ 72 ∷ t) ++ more) ≡ more =
      ap (behind_counted (length t)) whole
      ∙ ap (λ (ys : List ℕ). drop (length t) (drop 1 ys)) (from_first_h digits (t ++ more) (list_all-implies is_ascii_digit (λ b. not (b == 72))
      (λ b e. number_byte_no_H b (digit_number_byte b e)) digits are)) ∙ drop_at t more (length t) refl in
      record {
        before = before;
        word = digits ++ 72 ∷ t;
        after = after;
        spells = spells;
        shape = is;
        body = ap (λ (i : List ℕ). after_spaces (i ++ x ∷ rest)) is ∙ grouped before after (digits ++ 72 ∷ t)
            ∙ after_spaces-other c ((ds ++ 72 ∷ t) ++ more) first;
        width = omega (arith, ap length behind, length-append (digits ++ 72 ∷ t) more);
      }

  worded : (item : List ℕ) (v : Value) → IsItem item v → Worded d item v x rest
  worded item value.Default h =
      numbered value.Default (λ body. refl) item h.0 h.1 [] refl refl (h.4 ∙ ap (λ (w : List ℕ). spaces h.0 ++ w ++ spaces h.1) h.3)
  worded item (value.Int n) h = numbered (value.Int n) (λ body. refl) item h.0 h.1 h.2 (integer_number_bytes h.2 (integer_is h.2 n h.3.0).0) h.3 h.4
  worded item (value.Real spelling) h = numbered (value.Real spelling) (λ body. refl) item h.0 h.1 h.2 (real_number_bytes h.2 h.3.0) h.3 h.4
  worded item (value.Text t) h =
      counted item h.0 h.1 h.3.0 t h.3.1 (h.3.0, h.3.1, h.3.2, refl) (h.4 ∙ ap (λ (w : List ℕ). spaces h.0 ++ w ++ spaces h.1) h.3.3)

-- ---- items before a value

-- the item of a value in delimited items, those before it, and what is behind it
record Split (d : Delims) (items : List (List ℕ)) (vs : List Value) (k : ℕ) (v : Value) : Type 0 where
  fronts : List (List ℕ)
  each : AllZip IsItem fronts (take k vs)
  item : List ℕ
  is_item : IsItem item v
  stop : ℕ
  stops : is_delimiter_of d stop ≡ true
  more : List ℕ
  parts : delimited d items ≡ parted d fronts ++ (item ++ stop ∷ more)

none_here : (v : Value) → ◌≡◌ {A = Option Value} None (Some v) → ⊥
none_here v e = cc

same_value : (v w : Value) → Some v ≡ Some w → v ≡ w
same_value v w e = cc

split : (d : Delims) → are_permitted d ≡ true → (items : List (List ℕ)) (vs : List Value) (k : ℕ) (v : Value) → AllZip IsItem items vs
    → slice_get vs k ≡ Some v → Split d items vs k v
split d ok (i ∷ []) (w ∷ []) zero v each at = record {
  fronts = [];
  each = tt;
  item = i;
  is_item = subst (IsItem i) (same_value w v at) each.0;
  stop = d.end;
  stops = end_stops d ok;
  more = [];
  parts = refl;
}
split d ok (i ∷ j ∷ items) (w ∷ vs) zero v each at = record {
  fronts = [];
  each = tt;
  item = i;
  is_item = subst (IsItem i) (same_value w v at) each.0;
  stop = d.param;
  stops = param_stops d ok;
  more = delimited d (j ∷ items);
  parts = refl;
}
split d ok (i ∷ []) (w ∷ []) (suc k) v each at = absurd (none_here v at)
split d ok (i ∷ j ∷ items) (w ∷ vs) (suc k) v each at =
    let s = split d ok (j ∷ items) vs k v each.1 at in
    record {
      fronts = i ∷ s.fronts;
      each = (each.0, s.each);
      item = s.item;
      is_item = s.is_item;
      stop = s.stop;
      stops = s.stops;
      more = s.more;
      parts =
          ap (λ (t : List ℕ). i ++ d.param ∷ t) s.parts
          ∙ sym (append_assoc (i ++ d.param ∷ []) (parted d s.fronts) (s.item ++ s.stop ∷ s.more)
          ∙ append_assoc i (d.param ∷ []) (parted d s.fronts ++ (s.item ++ s.stop ∷ s.more)));
    }
split d ok [] [] k v each at = absurd (none_here v at)
split d ok [] (w ∷ vs) k v each at = absurd each
split d ok (i ∷ items) [] k v each at = absurd each
split d ok (i ∷ []) (w ∷ u ∷ vs) k v each at = absurd each.1

-- ---- the span

pub stands : (d : Delims) (text : List ℕ) (vs : List Value) (k : ℕ) (n : ℤ) (used : ℕ) (v : Value) → are_permitted d ≡ true
    → FreeText d text (value.Int n ∷ vs) used → slice_get vs k ≡ Some v → StandsAt d text (value.Int n ∷ take k vs) v (value_span d vs k text)
unfolding value_span
stands d text vs k n used v ok free at =
    let s = split d ok free.items (value.Int n ∷ vs) (suc k) v free.each at in
    let rest : List ℕ = s.more ++ free.rest in
    let w = worded d ok s.stop rest s.stops s.item v s.is_item in
    let tail : List ℕ = spaces w.after ++ s.stop ∷ rest in
    let item_rest : (s.item ++ s.stop ∷ s.more) ++ free.rest ≡ s.item ++ s.stop ∷ rest = append_assoc s.item (s.stop ∷ s.more) free.rest in
    let whole : text ≡ parted d s.fronts ++ (s.item ++ s.stop ∷ rest) =
    free.parts ∙ ap (λ (t : List ℕ). t ++ free.rest) s.parts ∙ append_assoc (parted d s.fronts) (s.item ++ s.stop ∷ s.more) free.rest
    ∙ ap (λ (t : List ℕ). parted d s.fronts ++ t) item_rest in
    let left : behind_items d (take k vs) (drop 1 (from_delimiter d text)) ≡ s.item ++ s.stop ∷ rest =
    ap (behind_items d (value.Int n ∷ take k vs)) whole ∙ behind_all d ok s.fronts (value.Int n ∷ take k vs) (s.item ++ s.stop ∷ rest) s.each in
    let body : after_spaces (behind_items d (take k vs) (drop 1 (from_delimiter d text))) ≡ w.word ++ tail = ap after_spaces left ∙ w.body in
    let found : value_span d vs k text ≡ span_at d text v (w.word ++ tail) =
    ap (λ o. span_in d text o (behind_items d (take k vs) (drop 1 (from_delimiter d text)))) at ∙ ap (span_at d text v) body in
    subst (StandsAt d text (value.Int n ∷ take k vs) v) (sym found) (record {
      items = s.fronts;
      each = s.each;
      before = w.before;
      word = w.word;
      spells = w.spells;
      after = w.after;
      rest = s.stop ∷ rest;
      delimiter = s.stops;
      parts = whole ∙ ap (λ (i : List ℕ). parted d s.fronts ++ (i ++ s.stop ∷ rest)) w.shape
          ∙ sym (append_assoc (parted d s.fronts) (spaces w.before ++ w.word ++ spaces w.after) (s.stop ∷ rest));
      at_is =
          omega (
            arith,
            ap length whole,
            length-append (parted d s.fronts) (s.item ++ s.stop ∷ rest),
            length-append s.item (s.stop ∷ rest),
            ap length w.shape,
            length-append (spaces w.before ++ w.word) (spaces w.after),
            length-append (spaces w.before) w.word,
            length-replicate {A = ℕ} w.before 32,
            length-append w.word tail,
            length-append (spaces w.after) (s.stop ∷ rest),
          );
      width_is = w.width;
    })

pub ends : (d : Delims) (text : List ℕ) (vs : List Value) (k : ℕ) (n : ℤ) (used : ℕ) → are_permitted d ≡ true → FreeText d text (value.Int n ∷ vs) used
    → length vs ≤ k → (value_span d vs k text).at + 1 ≡ used
unfolding value_span
ends d text vs k n used ok free past =
    let left : behind_items d (value.Int n ∷ take k vs) text ≡ free.rest =
    ap (λ ws. behind_items d (value.Int n ∷ ws) text) (take_all k vs past) ∙ ap (behind_items d (value.Int n ∷ vs)) free.parts
    ∙ behind_delimited d ok free.items (value.Int n ∷ vs) free.rest free.each in
    let found : value_span d vs k text ≡ span_past text free.rest =
    ap (λ o. span_in d text o (behind_items d (value.Int n ∷ take k vs) text)) (slice_get_past vs k past) ∙ ap (span_past text) left in
    ap (λ (s : Span). s.at + 1) found
    ∙ omega (arith, free.some, free.length_is, ap length free.parts, length-append (delimited d free.items) free.rest)
