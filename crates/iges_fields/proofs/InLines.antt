-- What holds of a whole text without LF holds of its parts.
use Rattle.std.proofs.Common.{◌≡◌, ℕ, ◌<◌, ◌^◌, not, true, List, [], ◌∷◌, ◌++◌, length, Option, Some, None, refl, sym, ap, subst, ◌∙◌, arith, length-append}
use Rattle.std.proofs.Common.{Bor}
use Rattle.std.specs.Prelude.{IfSome, IsTrue, slice_get, option_copied, nat_lt, ◌==◌}
use Rattle.std.specs.List.{list_all, AllZip}
use Rattle.std.proofs.lemmas.Bool.{and_from, and_parts, lt-ltb}
use Rattle.iges_fields.specs.declared.value.Value.{Value}
use Rattle.iges_fields.specs.declared.value.Value.TheVariants as value
use Rattle.iges_fields.specs.Delims.{Delims}
use Rattle.iges_fields.specs.FreeText.{Spells, IsItem, FreeText, delimited}
use Rattle.iges_base.specs.InLine.{is_in_line}
use Rattle.iges_base.proofs.InLines.{slice_get-all, front_in_line}
use Rattle.iges_fields.specs.InLine.{stays_in_line, is_value}
use Rattle.iges_base.specs.Word.{spaces}
use Rattle.iges_base.specs.Reals.{is_real}

-- ---- what is got of a list

pub got_value : (values : List Value) (i : ℕ) (r : Option (Bor Value)) → option_copied r ≡ slice_get values i → list_all is_value values ≡ true →
    IfSome r (λ v. IsTrue (is_value v.now))
got_value values i None is all = tt
got_value values i (Some v) is all = slice_get-all is_value values i v.now (sym is) all

-- ---- parts of a text

spelled_in_line : (v : Value) (word : List ℕ) → Spells v word → is_in_line word ≡ true → stays_in_line v ≡ true
spelled_in_line value.Default word s h = refl
spelled_in_line (value.Int n) word s h = refl
spelled_in_line (value.Real spelling) word s h = refl
spelled_in_line (value.Text text) word s h = (front_in_line s.0 (72 ∷ text) (ap is_in_line (sym s.3) ∙ h)).1

-- an item without LF has a value without one
pub item_in_line : (item : List ℕ) (v : Value) → IsItem item v → is_in_line item ≡ true → stays_in_line v ≡ true
item_in_line item v is h =
    let front = front_in_line (spaces is.0 ++ is.2) (spaces is.1) (ap is_in_line (sym is.4) ∙ h) in
    spelled_in_line v is.2 is.3 (front_in_line (spaces is.0) is.2 front.0).1

item_is_value : (item : List ℕ) (v : Value) → IsItem item v → is_in_line item ≡ true → length item < 2 ^ 64 → is_value v ≡ true
item_is_value item value.Default is h few = refl
item_is_value item (value.Int n) is h few = is.3.1
item_is_value item (value.Real spelling) is h few = subst (λ (w : List ℕ). is_real w ≡ true) is.3.1 is.3.0
item_is_value item (value.Text text) is h few =
    let long = ap length is.4 in
    let word = ap length is.3.3 in
    and_from (is_in_line text) (nat_lt (length text) (2 ^ 64)) (item_in_line item (value.Text text) is h)
    (lt-ltb (length text) (2 ^ 64) (omega (
      arith,
      few,
      long,
      word,
      length-append (spaces is.0 ++ is.2) (spaces is.1),
      length-append (spaces is.0) is.2,
      length-append is.3.0 (72 ∷ text),
    )))

-- ---- the values of a text

delimited_values : (d : Delims) (items : List (List ℕ)) (values : List Value) → AllZip IsItem items values → is_in_line (delimited d items) ≡ true →
    length (delimited d items) < 2 ^ 64
    → list_all is_value values ≡ true
delimited_values d [] [] each h few = refl
delimited_values d [] (v ∷ values) each h few = absurd each
delimited_values d (item ∷ items) [] each h few = absurd each
delimited_values d (item ∷ []) (v ∷ []) each h few =
    and_from (is_value v) true (item_is_value item v each.0 (front_in_line item (d.end ∷ []) h).0 (omega (arith, few, length-append item (d.end ∷ [])))) refl
delimited_values d (item ∷ []) (v ∷ w ∷ values) each h few = absurd each.1
delimited_values d (item ∷ next ∷ items) (v ∷ values) each h few =
    let parts = front_in_line item (d.param ∷ delimited d (next ∷ items)) h in
    let long = length-append item (d.param ∷ delimited d (next ∷ items)) in
    and_from (is_value v) (list_all is_value values) (item_is_value item v each.0 parts.0 (omega (arith, few, long)))
    (delimited_values d (next ∷ items) values each.1 (and_parts (not (d.param == 10)) (is_in_line (delimited d (next ∷ items))) parts.1).1
    (omega (arith, few, long)))

pub free_text_values : (d : Delims) (text : List ℕ) (values : List Value) (used : ℕ) → FreeText d text values used → is_in_line text ≡ true →
    length text < 2 ^ 64 → list_all is_value values ≡ true
free_text_values d text values used f h few =
    delimited_values d f.items values f.each (front_in_line (delimited d f.items) f.rest (ap is_in_line (sym f.parts) ∙ h)).0
    (omega (arith, few, ap length f.parts, length-append (delimited d f.items) f.rest))
