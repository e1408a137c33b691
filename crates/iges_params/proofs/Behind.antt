-- The values of the global stand at the end of its text.
use Rattle.std.proofs.Common.{◌≡◌, ℕ, zero, suc, ◌≤◌, Bool, true, false, List, [], ◌∷◌, ◌++◌, length, drop, Option, Some, None, refl, sym, ap, subst, ◌∙◌}
use Rattle.std.proofs.Common.{arith, append_assoc, length-append}
use Rattle.std.specs.Prelude.{codes, nat_eq, nat_lt, if◌then◌else◌, ◌&&◌, slice_index}
use Rattle.std.specs.List.{starts_with}
use Rattle.std.proofs.lemmas.Option.{same_Some}
use Rattle.iges_fields.specs.Delims.{are_permitted}
use Rattle.iges_fields.specs.FreeText.{begins_with}
use Rattle.iges_base.specs.InLine.{is_in_line}
use Rattle.iges_base.specs.Word.{spaces, after_spaces}
use Rattle.iges_base.proofs.InLines.{front_in_line}
use Rattle.iges_base.proofs.Spaces.{after_spaces-is}
use Rattle.iges_params.specs.Global.{Head, delimiter_at, behind_byte, head_end, head_with, head_start, any_head, if_permitted, head}

-- a text without some bytes at its front
abbrev Behind : List ℕ → List ℕ → Type 0
Behind text rest = (front : List ℕ) × (text ≡ front ++ rest)

behind_all : (text : List ℕ) → Behind text text
behind_all text = ([], refl)

behind_trans : (a b c : List ℕ) → Behind a b → Behind b c → Behind a c
behind_trans a b c (f, p) (g, q) = (f ++ g, p ∙ ap (λ x. f ++ x) q ∙ sym (append_assoc f g c))

behind_spaces : (text : List ℕ) → Behind text (after_spaces text)
behind_spaces text = let a = after_spaces-is text in (spaces a.0, a.1)

behind_drop : (n : ℕ) (text : List ℕ) → Behind text (drop n text)
behind_drop zero text = ([], refl)
behind_drop (suc n) [] = ([], refl)
behind_drop (suc n) (b ∷ text) = let h = behind_drop n text in (b ∷ h.0, ap (λ x. b ∷ x) h.1)

delimiter_behind : (default : ℕ) (text : List ℕ) → Behind text (delimiter_at default text).1
delimiter_behind default text = by_test (starts_with nat_eq (after_spaces text) (codes "1H") && nat_lt 2 (length (after_spaces text)))
  where
    by_test : (b : Bool) → (let at : ℕ × List ℕ = if b then (slice_index (after_spaces text) 2, drop 3 (after_spaces text)) else
        (default, after_spaces text) in Behind text at.1)
    by_test true = behind_trans text (after_spaces text) (drop 3 (after_spaces text)) (behind_spaces text) (behind_drop 3 (after_spaces text))
    by_test false = behind_spaces text

byte_behind : (b : ℕ) (text rest : List ℕ) → behind_byte b text ≡ Some rest → Behind text rest
byte_behind b text rest e = by_test (begins_with (nat_eq b) (after_spaces text)) e
  where
    by_test : (t : Bool) → (if t then Some (drop 1 (after_spaces text)) else None) ≡ Some rest → Behind text rest
    by_test true k = behind_trans text (after_spaces text) rest (behind_spaces text)
        (subst (Behind (after_spaces text)) (same_Some (drop 1 (after_spaces text)) rest k) (behind_drop 1 (after_spaces text)))
    by_test false k = absurd cc

abbrev ValuesBehind : List ℕ → Option Head → Type 0
ValuesBehind text None = Unit {0}
ValuesBehind text (Some h) = (rest : List ℕ) → h.values ≡ Some rest → Behind text rest

further_behind : (a b : List ℕ) (o : Option Head) → Behind a b → ValuesBehind b o → ValuesBehind a o
further_behind a b None p h = tt
further_behind a b (Some x) p h = λ rest e. behind_trans a b rest p (h rest e)

with_behind : (p : ℕ) (text : List ℕ) → ValuesBehind text (head_with p text)
with_behind p text = by_two (behind_byte p r.1) (behind_byte r.0 r.1) refl
  where
    r : ℕ × List ℕ
    r = delimiter_at 59 text

    by_two : (a b : Option (List ℕ)) → behind_byte p (delimiter_at 59 text).1 ≡ a → ValuesBehind text (head_end p (delimiter_at 59 text).0 a b)
    by_two (Some vs) b e = λ rest same. behind_trans text (delimiter_at 59 text).1 rest (delimiter_behind 59 text)
        (subst (Behind (delimiter_at 59 text).1) (same_Some vs rest same) (byte_behind p (delimiter_at 59 text).1 vs e))
    by_two None (Some comment) e = λ rest same. absurd (let no : None ≡ Some rest = same in cc)
    by_two None None e = tt

start_behind : (text : List ℕ) → ValuesBehind text (any_head text)
start_behind text = by_two (behind_byte (delimiter_at 44 text).0 (delimiter_at 44 text).1) (behind_byte 59 (delimiter_at 44 text).1) refl
  where
    by_two : (a b : Option (List ℕ)) → behind_byte (delimiter_at 44 text).0 (delimiter_at 44 text).1 ≡ a →
        ValuesBehind text (head_start (delimiter_at 44 text).0 a b)
    by_two (Some rest) b e =
        further_behind text rest (head_with (delimiter_at 44 text).0 rest)
        (behind_trans text (delimiter_at 44 text).1 rest (delimiter_behind 44 text) (byte_behind (delimiter_at 44 text).0 (delimiter_at 44 text).1 rest e))
        (with_behind (delimiter_at 44 text).0 rest)
    by_two None (Some comment) e = λ rest same. absurd (let no : None ≡ Some rest = same in cc)
    by_two None None e = tt

permitted_is : (o : Option Head) (h : Head) → if_permitted o ≡ Some h → o ≡ Some h
permitted_is None h e = e
permitted_is (Some x) h e = by_test (are_permitted x.delims) e
  where
    by_test : (b : Bool) → (if b then Some x else None) ≡ Some h → Some x ≡ Some h
    by_test true k = k
    by_test false k = absurd cc

pub head_after : (text : List ℕ) (h : Head) (rest : List ℕ) → head text ≡ Some h → h.values ≡ Some rest → Behind text rest
head_after text h rest e v = let all : ValuesBehind text (Some h) =
    subst (ValuesBehind text) (permitted_is (any_head text) h e) (start_behind text) in all rest v

pub behind_in_line : (text rest : List ℕ) → Behind text rest → is_in_line text ≡ true → is_in_line rest ≡ true
behind_in_line text rest (front, is) h = (front_in_line front rest (subst (λ x. is_in_line x ≡ true) is h)).1

pub behind_length : (text rest : List ℕ) → Behind text rest → length rest ≤ length text
behind_length text rest (front, is) = let l : length text ≡ length (front ++ rest) = ap length is in omega (arith, l, length-append front rest)
