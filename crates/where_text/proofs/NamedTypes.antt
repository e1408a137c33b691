-- The words of types, and the table of them in the code.
use Rattle.std.specs.Prelude.{◌≡◌, ℕ, ℤ, pos, Bool, true, false, List, [], ◌∷◌, ◌++◌, Option, Some, None, find, map, option_map, codes, if◌then◌else◌}
use Rattle.std.specs.Ordering.{int_eq}
use Rattle.std.proofs.Common.{refl, sym, ap, ◌∙◌}
use Rattle.std.proofs.lemmas.Option.{same_Some}
use Rattle.iges_fields.specs.declared.value.Value.{Value}
use Rattle.iges_directory.specs.declared.entry.Entry.{Entry}
use Rattle.iges_params.specs.Contents.{Contents}
use Rattle.iges_params.specs.Named.{named}
use Rattle.where_text.specs.Spelled.{signed}
use Rattle.where_text.specs.Types.{name_or_number, type_names, type_of, type_word, word_of_entry}
use Rattle.where_text.specs.TypeTable.{name_meant}
use Rattle.where_text.specs.declared.type_names.TypeName.{TypeName}

abbrev row_in : ℤ → List TypeName → Option TypeName
row_in kind rows = find (λ (r : TypeName). int_eq kind r.0) rows

abbrev name_in : ℤ → List (ℤ × List ℕ) → Option (ℤ × List ℕ)
name_in kind names = find (λ (row : ℤ × List ℕ). int_eq kind row.0) names

find_next : (t : Bool) (r : TypeName) (here : Option TypeName) (there : Option (ℤ × List ℕ)) → option_map name_meant here ≡ there
    → option_map name_meant (if t then Some r else here) ≡ (if t then Some (name_meant r) else there)
find_next true r here there h = refl
find_next false r here there h = h

found : (kind : ℤ) (rows : List TypeName) → option_map name_meant (row_in kind rows) ≡ name_in kind (map name_meant rows)
found kind [] = refl
found kind (r ∷ rows) = find_next (int_eq kind r.0) r (row_in kind rows) (name_in kind (map name_meant rows)) (found kind rows)

word_is : (k kind : ℤ) (rows : List TypeName) → k ≡ kind → map name_meant rows ≡ type_names → name_or_number kind (option_map name_meant (row_in k rows))
    ≡ type_word kind
unfolding type_word
word_is k kind rows same listed =
    ap (name_or_number kind) (ap (λ z. option_map name_meant (row_in z rows)) same ∙ found kind rows ∙ ap (name_in kind) listed)

pub known_is : (k kind : ℤ) (rows : List TypeName) (r : TypeName) → k ≡ kind → map name_meant rows ≡ type_names → Some r ≡ row_in k rows
    → type_word kind ≡ r.1.now
known_is k kind rows r same listed at = sym (word_is k kind rows same listed) ∙ ap (λ o. name_or_number kind (option_map name_meant o)) (sym at)

pub unknown_is : (k kind : ℤ) (rows : List TypeName) → k ≡ kind → map name_meant rows ≡ type_names → None ≡ row_in k rows
    → type_word kind ≡ codes "type-" ++ signed kind
unknown_is k kind rows same listed at = sym (word_is k kind rows same listed) ∙ ap (λ o. name_or_number kind (option_map name_meant o)) (sym at)

word_there : (o : Option (Entry × List Value)) (e : Entry) → Some e ≡ option_map (λ (r : Entry × List Value). r.0) o → type_word e.kind ≡ word_of_entry o
word_there None e h = absurd (let none : Some e ≡ None = h in cc)
word_there (Some r) e h = ap (λ (x : Entry). type_word x.kind) (same_Some e r.0 h)

-- the word for an entry that is there
pub type_there : (f : Contents) (number : ℤ) (n : ℕ) (e : Entry) → number ≡ pos n → Some e ≡ option_map (λ (r : Entry × List Value). r.0) (named f (pos n))
    → type_word e.kind ≡ type_of f number
unfolding type_of
type_there f number n e is at = word_there (named f (pos n)) e at ∙ ap (type_of f) (sym is)
