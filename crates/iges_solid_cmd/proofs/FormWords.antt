-- Words and the forms that they have.
use Rattle.std.proofs.Common.{◌≡◌, ◌∙◌, ℕ, ◌+◌, ◌≤◌, ◌&&◌, Bool, not, true, false, cond, List, [], ◌∷◌, ◌++◌, append_assoc, codes, length, map, Option, Some}
use Rattle.std.proofs.Common.{None, refl, sym, ap, subst, arith, nat_eq, nat_le, nat_lt, rules, slice_get, suc, zero, String, string_bytes, Global}
use Rattle.std.specs.Prelude.{option_map, option_and_then, unwrap_or, zip, find, position}
use Rattle.std.specs.List.{list_all, list_any, position_or_len, prefix_len}
use Rattle.std.specs.Str.Parse.{digits_value}
use Rattle.std.proofs.lemmas.List.{length-map}
use Rattle.std.proofs.lemmas.Simd.{map-map}
use Rattle.std.proofs.lemmas.List.Folds.{list_all-map}
use Rattle.std.proofs.lemmas.Bool.{and_from, and_parts, eqb-true, le-leb, leb-true}
use Rattle.std.proofs.lemmas.Option.{slice_get-map}
use Rattle.iges_base.specs.Word.{are_digits}
use Prim.Native.Nat.compare
use Rattle.iges_solid_cmd.specs.declared.form.Command.{Command}
use Rattle.iges_solid_cmd.specs.declared.form_slot.Operand.{Operand}
use Rattle.iges_solid_cmd.specs.declared.form_slot.Operand.TheVariants as operand
use Rattle.iges_solid_cmd.specs.declared.form_slot.FormSlot.{FormSlot as CodeSlot}
use Rattle.iges_solid_cmd.specs.declared.form.Form.{Form as Row}
use Rattle.iges_solid_cmd.specs.Forms.{Form, IsSized, FormSlot, all_fit, certificate, command_of, file, fits, form_of, form_text, forms, holds, join_with}
use Rattle.iges_solid_cmd.specs.Forms.{number}
use Rattle.iges_solid_cmd.specs.Forms.{number_among, reads_certificate, reads_file, slot_text, takes_certificate, takes_file, usage_line, word, word_in}
use Rattle.iges_solid_cmd.specs.FormTable.{command_for, form_meant, slot_meant}

some_is : {A : Type 0} (x y : A) → Some x ≡ Some y → x ≡ y
some_is x y e = cc

-- ---- lists of pairs, and what is found in a list

-- both lists mapped, the pairs are
zip-maps : {A B C D : Type 0} (f : A → C) (g : B → D) (xs : List A) (ys : List B) → zip (map f xs) (map g ys) ≡ map (λ (p : A × B). (f p.0, g p.1)) (zip xs ys)
zip-maps f g [] ys = refl
zip-maps f g (x ∷ xs) [] = refl
zip-maps f g (x ∷ xs) (y ∷ ys) = ap (λ ps. (f x, g y) ∷ ps) (zip-maps f g xs ys)

find_next : {A B : Type 0} (t : Bool) (f : A → B) (x : A) (found : Option B) (there : Option A) → found ≡ option_map f there
    → cond t (Some (f x)) found ≡ option_map f (cond t (Some x) there)
find_next true f x found there same = refl
find_next false f x found there same = same

-- what is found in a mapped list is what is found there by the mapped test
find-map : {A B : Type 0} (p : B → Bool) (f : A → B) (xs : List A) → find p (map f xs) ≡ option_map f (find (λ x. p (f x)) xs)
find-map p f [] = refl
find-map p f (x ∷ xs) = find_next (p (f x)) f x (find p (map f xs)) (find (λ x. p (f x)) xs) (find-map p f xs)

found_next : {A : Type 0} (p : A → Bool) (t : Bool) (x y : A) (there : Option A) → p x ≡ t → (there ≡ Some y → p y ≡ true) → cond t (Some x) there ≡ Some y
    → p y ≡ true
found_next p true x y there is later e = let same : x ≡ y = some_is x y e in ap p (sym same) ∙ is
found_next p false x y there is later e = later e

-- what is found passes the test
found_passes : {A : Type 0} (p : A → Bool) (xs : List A) (y : A) → find p xs ≡ Some y → p y ≡ true
found_passes p [] y e = absurd cc
found_passes p (x ∷ xs) y e = found_next p (p x) x y (find p xs) refl (found_passes p xs y) e

prefix-map : {A B : Type 0} (p : B → Bool) (f : A → B) (xs : List A) → prefix_len p (map f xs) ≡ prefix_len (λ x. p (f x)) xs
prefix-map p f [] = refl
prefix-map p f (x ∷ xs) = ap (λ n. cond (p (f x)) (1 + n) 0) (prefix-map p f xs)

abbrev place_within : ℕ → ℕ → Option ℕ
place_within i n = cond (nat_lt i n) (Some i) None

position-map : {A B : Type 0} (p : B → Bool) (f : A → B) (xs : List A) → position p (map f xs) ≡ position (λ x. p (f x)) xs
position-map p f xs = ap (λ i. place_within i (length (map f xs))) (prefix-map (λ x. not (p x)) f xs) ∙ ap (place_within (position_or_len (λ x. p (f x)) xs))
    (length-map xs f)

one_more : (n : ℕ) → 1 + n ≡ suc n
one_more n = omega arith

place_next : (t : Bool) (i : ℕ) → cond t (Some (suc i)) None ≡ option_map suc (cond t (Some i) None)
place_next true i = refl
place_next false i = refl

less_next : (i n : ℕ) → nat_lt (suc i) (suc n) ≡ nat_lt i n
less_next i n = rw compare.suc-suc refl

-- behind an element that does not pass, the place is one further
position_later : {A : Type 0} (p : A → Bool) (x : A) (xs : List A) → p x ≡ false → position p (x ∷ xs) ≡ option_map suc (position p xs)
position_later p x xs other =
    let i = position_or_len p xs in
    ap (λ t. place_within (cond (not t) (1 + i) 0) (suc (length xs))) other ∙ ap (λ k. place_within k (suc (length xs))) (one_more i)
    ∙ ap (λ t. cond t (Some (suc i)) None) (less_next i (length xs)) ∙ place_next (nat_lt i (length xs)) i

stops_next : {A : Type 0} (p : A → Bool) (t : Bool) (x y : A) (xs : List A) (n : ℕ) → p x ≡ t → (slice_get xs n ≡ Some y → p y ≡ true)
    → slice_get (x ∷ xs) (cond (not t) (1 + n) 0) ≡ Some y → p y ≡ true
stops_next p true x y xs n is later e = let same : x ≡ y = some_is x y e in ap p (sym same) ∙ is
stops_next p false x y xs n is later e = later (subst (λ i. slice_get (x ∷ xs) i ≡ Some y) (one_more n) e)

stops_where : {A : Type 0} (p : A → Bool) (xs : List A) (y : A) → slice_get xs (position_or_len p xs) ≡ Some y → p y ≡ true
stops_where p [] y e = absurd cc
stops_where p (x ∷ xs) y e = stops_next p (p x) x y xs (position_or_len p xs) refl (stops_where p xs y) e

place_is : (t : Bool) (n i : ℕ) → cond t (Some n) None ≡ Some i → n ≡ i
place_is true n i e = cc
place_is false n i e = absurd cc

-- the element at the first place passes the test
placed_passes : {A : Type 0} (p : A → Bool) (xs : List A) (i : ℕ) (y : A) → position p xs ≡ Some i → slice_get xs i ≡ Some y → p y ≡ true
placed_passes p xs i y place there =
    stops_where p xs y (ap (slice_get xs) (place_is (nat_lt (position_or_len p xs) (length xs)) (position_or_len p xs) i place) ∙ there)

-- ---- words that stand in slots

abbrev Given : Type 0
Given = List (String Global)

abbrev bytes_of : Given → List (List ℕ)
bytes_of words = map string_bytes words

abbrev meant : List CodeSlot → List FormSlot
meant slots = map slot_meant slots

abbrev pub each_fits : List CodeSlot → Given → Bool
each_fits slots words = list_all (λ (p : CodeSlot × String Global). fits (slot_meant p.0) (string_bytes p.1)) (zip slots words)

each_meant : (slots : List CodeSlot) (words : Given) → list_all (λ p. fits p.0 p.1) (zip (meant slots) (bytes_of words)) ≡ each_fits slots words
each_meant slots words = ap (list_all (λ p. fits p.0 p.1)) (zip-maps slot_meant string_bytes slots words)
    ∙ list_all-map (λ p. fits p.0 p.1) (λ (p : CodeSlot × String Global). (slot_meant p.0, string_bytes p.1)) (zip slots words)

lengths_meant : (slots : List CodeSlot) (words : Given) → nat_eq (length (meant slots)) (length (bytes_of words)) ≡ nat_eq (length slots) (length words)
lengths_meant slots words = ap (λ n. nat_eq n (length (bytes_of words))) (length-map slots slot_meant)
    ∙ ap (nat_eq (length slots)) (length-map words string_bytes)

pub fit_meant : (slots : List CodeSlot) (words : Given)
    → all_fit (meant slots) (bytes_of words) ≡ (nat_eq (length slots) (length words) && each_fits slots words)
fit_meant slots words =
    ap (λ b. b && list_all (λ p. fits p.0 p.1) (zip (meant slots) (bytes_of words))) (lengths_meant slots words)
    ∙ ap (λ b. nat_eq (length slots) (length words) && b) (each_meant slots words)

abbrev others_fit : List FormSlot → List (List ℕ) → Bool
others_fit slots words = list_all (λ p. fits p.0 p.1) (zip slots words)

each_at : (slots : List FormSlot) (words : List (List ℕ)) (i : ℕ) (slot : FormSlot) (w : List ℕ) → others_fit slots words ≡ true → slice_get slots i ≡ Some slot
    → slice_get words i ≡ Some w → fits slot w ≡ true
each_at [] words i slot w each there at = absurd cc
each_at (s ∷ slots) [] i slot w each there at = absurd cc
each_at (s ∷ slots) (v ∷ words) zero slot w each there at =
    ap (λ x. fits x w) (sym (some_is s slot there)) ∙ ap (fits s) (sym (some_is v w at)) ∙ (and_parts (fits s v) (others_fit slots words) each).0
each_at (s ∷ slots) (v ∷ words) (suc i) slot w each there at = each_at slots words i slot w (and_parts (fits s v) (others_fit slots words) each).1 there at

-- the word at a place fits the slot there
pub fit_at : (slots : List CodeSlot) (words : List (List ℕ)) (i : ℕ) (slot : CodeSlot) (w : List ℕ) → all_fit (meant slots) words ≡ true
    → Some slot ≡ slice_get slots i → slice_get words i ≡ Some w → fits (slot_meant slot) w ≡ true
fit_at slots words i slot w fit there =
    each_at (meant slots) words i (slot_meant slot) w (and_parts (nat_eq (length (meant slots)) (length words)) (others_fit (meant slots) words) fit).1
    (slice_get-map slot_meant slots i ∙ ap (option_map slot_meant) (sym there))

-- the word in the first slot for such, by the code's slots
pub word_meant : (what : Operand) (slots : List CodeSlot) (words : List (List ℕ)) (place : Option ℕ)
    → place ≡ position (λ slot. holds what (slot_meant slot)) slots → word_in what (meant slots) words ≡ option_and_then (slice_get words) place
word_meant what slots words place is = ap (option_and_then (slice_get words)) (position-map (holds what) slot_meant slots ∙ sym is)

pub slot_holds : (what : Operand) (slots : List CodeSlot) (i : ℕ) (slot : CodeSlot) → Some i ≡ position (λ slot. holds what (slot_meant slot)) slots
    → Some slot ≡ slice_get slots i → holds what (slot_meant slot) ≡ true
slot_holds what slots i slot is there = placed_passes (λ slot. holds what (slot_meant slot)) slots i slot (sym is) (sym there)

-- ---- the table

pub form_is : (rows : List Row) (words : List (List ℕ)) → map form_meant rows ≡ forms
    → option_map form_meant (find (λ (row : Row). all_fit (form_meant row).slots words) rows) ≡ form_of words
form_is rows words listed = sym (find-map (λ (form : Form). all_fit form.slots words) form_meant rows) ∙ ap (find (λ (form : Form). all_fit form.slots words))
    listed

abbrev command_by : List (List ℕ) → Option Form → Option Command
command_by words form = option_map (λ (form : Form). form.command (number_among form.slots words)) form

pub command_is : (words : List (List ℕ)) (found : Option Row) (row : Row) (there : Option ℕ) (n : ℕ) (command : Command) → found ≡ Some row
    → option_map form_meant found ≡ form_of words
    → (all_fit (form_meant row).slots words ≡ true → there ≡ option_map (digits_value 10) (word_in operand.Number (form_meant row).slots words))
    → n ≡ unwrap_or there 0 → command ≡ command_for row.kind n → Some command ≡ command_of words
command_is words found row there n command is meant_is number_is n_is made =
    let form : form_of words ≡ Some (form_meant row) = sym meant_is ∙ ap (option_map form_meant) is in
    let fit = found_passes (λ (form : Form). all_fit form.slots words) forms (form_meant row) form in
    let n_among : n ≡ number_among (form_meant row).slots words = n_is ∙ ap (λ o. unwrap_or o 0) (number_is fit) in
    ap Some (made ∙ ap (command_for row.kind) n_among) ∙ sym (ap (command_by words) form)

-- ---- what a form reads, and what its command takes

-- the number is in the range of the first slot for one
abbrev InRange : List FormSlot → ℕ → Type 0
InRange [] n = Unit {0}
InRange (number digits least greatest ∷ slots) n = (least ≤ n) × (n ≤ greatest)
InRange (_ ∷ slots) n = InRange slots n

lengths_next : (n m : ℕ) → nat_eq (suc n) (suc m) ≡ true → nat_eq n m ≡ true
lengths_next n m same = rw compare.suc-suc at same

-- of words that fit, the first does, and so do the others
first_fit : (s : FormSlot) (slots : List FormSlot) (w : List ℕ) (words : List (List ℕ)) → all_fit (s ∷ slots) (w ∷ words) ≡ true → fits s w ≡ true
first_fit s slots w words fit =
    (and_parts (fits s w) (others_fit slots words) (and_parts (nat_eq (suc (length slots)) (suc (length words))) (fits s w && others_fit slots words) fit).1).0

rest_fit : (s : FormSlot) (slots : List FormSlot) (w : List ℕ) (words : List (List ℕ)) → all_fit (s ∷ slots) (w ∷ words) ≡ true → all_fit slots words ≡ true
rest_fit s slots w words fit =
    let parts = and_parts (nat_eq (suc (length slots)) (suc (length words))) (fits s w && others_fit slots words) fit in
    and_from (nat_eq (length slots) (length words)) (others_fit slots words) (lengths_next (length slots) (length words) parts.0)
    (and_parts (fits s w) (others_fit slots words) parts.1).1

in_range : (digits least greatest : ℕ) (w : List ℕ) → fits (number digits least greatest) w ≡ true
    → (least ≤ digits_value 10 w) × (digits_value 10 w ≤ greatest)
in_range digits least greatest w fit =
    let outer = and_parts (are_digits w && nat_le (length w) digits && nat_le least (digits_value 10 w)) (nat_le (digits_value 10 w) greatest) fit in
    let inner = and_parts (are_digits w && nat_le (length w) digits) (nat_le least (digits_value 10 w)) outer.0 in
    (leb-true least (digits_value 10 w) inner.1, leb-true (digits_value 10 w) greatest outer.1)

later_word : (w : List ℕ) (words : List (List ℕ)) (place : Option ℕ) → option_and_then (slice_get (w ∷ words)) (option_map suc place)
    ≡ option_and_then (slice_get words) place
later_word w words None = refl
later_word w words (Some i) = refl

-- the number among words behind a slot that is for none
later_number : (s : FormSlot) (slots : List FormSlot) (w : List ℕ) (words : List (List ℕ)) (n : ℕ) → holds operand.Number s ≡ false
    → number_among (s ∷ slots) (w ∷ words) ≡ n → number_among slots words ≡ n
later_number s slots w words n other is =
    let later = ap (option_and_then (slice_get (w ∷ words))) (position_later (holds operand.Number) s slots other)
    ∙ later_word w words (position (holds operand.Number) slots) in
    sym (ap (λ o. unwrap_or (option_map (digits_value 10) o) 0) later) ∙ is

first_number : (digits least greatest : ℕ) (slots : List FormSlot) (w : List ℕ) (words : List (List ℕ))
    → number_among (number digits least greatest ∷ slots) (w ∷ words) ≡ digits_value 10 w
first_number digits least greatest slots w words =
    ap (λ t. unwrap_or (option_map (digits_value 10) (option_and_then (slice_get (w ∷ words)) (cond t (Some 0) None))) 0)
    (le-leb 1 (suc (length slots)) (omega arith))

all_in_range : (slots : List FormSlot) (words : List (List ℕ)) (n : ℕ) → all_fit slots words ≡ true → number_among slots words ≡ n → InRange slots n
all_in_range [] words n fit is = tt
all_in_range (s ∷ slots) [] n fit is = absurd (omega (arith, eqb-true (suc (length slots)) 0 (and_parts (nat_eq (suc (length slots)) 0) true fit).0))
all_in_range (word text ∷ slots) (w ∷ words) n fit is = all_in_range slots words n (rest_fit (word text) slots w words fit)
    (later_number (word text) slots w words n refl is)
all_in_range (file ∷ slots) (w ∷ words) n fit is = all_in_range slots words n (rest_fit file slots w words fit) (later_number file slots w words n refl is)
all_in_range (certificate ∷ slots) (w ∷ words) n fit is = all_in_range slots words n (rest_fit certificate slots w words fit)
    (later_number certificate slots w words n refl is)
all_in_range (number digits least greatest ∷ slots) (w ∷ words) n fit is =
    subst (λ m. (least ≤ m) × (m ≤ greatest)) (sym (first_number digits least greatest slots w words) ∙ is)
    (in_range digits least greatest w (first_fit (number digits least greatest) slots w words fit))

-- that the sources of the form and of its command are the same, and a sample's size is one
abbrev AgreesAt : Form → ℕ → Type 0
AgreesAt form n = (list_any (holds operand.File) form.slots ≡ takes_file (form.command n))
    × (list_any (holds operand.Certificate) form.slots ≡ takes_certificate (form.command n)) × IsSized (form.command n)

abbrev AllAgree : List Form → Type 0
AllAgree [] = Unit {0}
AllAgree (form ∷ rest) = ((n : ℕ) → InRange form.slots n → AgreesAt form n) × AllAgree rest

listed_agree : AllAgree forms
listed_agree = search rules

agree_next : (t : Bool) (form y : Form) (there : Option Form) → ((n : ℕ) → InRange form.slots n → AgreesAt form n)
    → (there ≡ Some y → (n : ℕ) → InRange y.slots n → AgreesAt y n) → cond t (Some form) there ≡ Some y → (n : ℕ) → InRange y.slots n → AgreesAt y n
agree_next true form y there first later e = let same : form ≡ y = some_is form y e in subst (λ (f : Form). (n : ℕ) → InRange f.slots n → AgreesAt f n) same
    first
agree_next false form y there first later e = later e

found_agrees : (p : Form → Bool) (all : List Form) (y : Form) → AllAgree all → find p all ≡ Some y → (n : ℕ) → InRange y.slots n → AgreesAt y n
found_agrees p [] y agree e = absurd cc
found_agrees p (form ∷ rest) y agree e = agree_next (p form) form y (find p rest) agree.0 (found_agrees p rest y agree.1) e

abbrev has_by : Operand → Option Form → Bool
has_by what o = elim o [ Some form ↦ list_any (holds what) form.slots | None ↦ false ]

-- words that ask for a command agree with it
abbrev Agree : Option Form → Command → Type 0
Agree o c = (has_by operand.File o ≡ takes_file c) × (has_by operand.Certificate o ≡ takes_certificate c) × IsSized c

agree_by : (words : List (List ℕ)) (o : Option Form) (c : Command) → form_of words ≡ o → command_by words o ≡ Some c → Agree o c
agree_by words None c e is = absurd cc
agree_by words (Some form) c e is =
    let same = some_is (form.command (number_among form.slots words)) c is in
    let fit = found_passes (λ (form : Form). all_fit form.slots words) forms form e in
    subst (Agree (Some form)) same
    (found_agrees (λ (form : Form). all_fit form.slots words) forms form listed_agree e (number_among form.slots words)
    (all_in_range form.slots words (number_among form.slots words) fit refl))

agree : (words : List (List ℕ)) (c : Command) → command_of words ≡ Some c → Agree (form_of words) c
agree words c is = agree_by words (form_of words) c refl is

pub reads : (words : List (List ℕ)) (c : Command) → command_of words ≡ Some c → reads_file words ≡ takes_file c
reads words c is = (agree words c is).0

pub reads_too : (words : List (List ℕ)) (c : Command) → command_of words ≡ Some c → reads_certificate words ≡ takes_certificate c
reads_too words c is = (agree words c is).1

pub sized : (words : List (List ℕ)) (c : Command) → command_of words ≡ Some c → IsSized c
sized words c is = (agree words c is).2

-- ---- the usage line

pub slot_texts : (slots : List CodeSlot) → map (λ slot. slot_text (slot_meant slot)) slots ≡ map slot_text (meant slots)
slot_texts slots = sym (map-map slot_text slot_meant slots)

pub usage_is : (rows : List Row) (start joined line : List ℕ) → map form_meant rows ≡ forms → start ≡ codes "usage: igesolid "
    → joined ≡ start ++ join_with (codes " | ") (map (λ row. form_text (form_meant row)) rows) → line ≡ joined ++ 10 ∷ [] → line ≡ usage_line
usage_is rows start joined line listed start_is joined_is line_is =
    line_is ∙ ap (λ text. text ++ 10 ∷ [])
    (joined_is ∙ ap (λ text. text ++ join_with (codes " | ") (map (λ row. form_text (form_meant row)) rows)) start_is
    ∙ ap (λ texts. codes "usage: igesolid " ++ join_with (codes " | ") texts) (sym (map-map form_text form_meant rows) ∙ ap (map form_text) listed))
    ∙ append_assoc (codes "usage: igesolid ") (join_with (codes " | ") (map form_text forms)) (10 ∷ [])
