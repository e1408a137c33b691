-- The listed types.
use Rattle.std.specs.Prelude.{◌≡◌, Bool, false, ℤ, pos, ℕ, List, [], ◌∷◌, Option, Some, None, find, option_map}
use Rattle.std.specs.List.{AllByRecursion}
use Rattle.std.specs.Ordering.{int_eq}
use Rattle.std.proofs.Common.{refl, sym, ap, ◌∙◌}
use Rattle.std.proofs.lemmas.Bool.{cond-false}
use Rattle.entry_references.specs.Layout.{Layout, layout_of, listed, is_other_property}
use Rattle.entry_references.specs.Rows.{layout_of_row, layout_in_form}
use Rattle.iges_directory.specs.declared.entry.Entry.{Entry}
use Rattle.entry_references.specs.declared.layout.Layout.{Layout as Named}
use Rattle.entry_references.specs.declared.layout.Forms.{Forms}

abbrev pub listed_in : ℤ → ℤ → Option Layout
listed_in kind form = option_map (λ (x : ℕ × Layout). x.1) (find (λ (x : ℕ × Layout). int_eq kind (pos x.0)) (listed form))

not_other : (e : Entry) (k f : ℤ) (b : Bool) → k ≡ e.kind → f ≡ e.form → b ≡ is_other_property e → b ≡ false → listed_in k f ≡ layout_of e
not_other e k f b ek ef eb gone =
    ap (λ (x : ℤ). listed_in x f) ek ∙ ap (listed_in e.kind) ef
    ∙ sym (cond-false (is_other_property e) None (listed_in e.kind e.form) (sym eb ∙ gone))

pub layout_some : (e : Entry) (k f : ℤ) (b : Bool) (forms : Forms) (l : Named) → k ≡ e.kind → f ≡ e.form → b ≡ is_other_property e → b ≡ false
    → layout_of_row l ≡ layout_in_form f forms
    → ((form : ℤ) → Some (layout_in_form form forms) ≡ listed_in k form) → Some (layout_of_row l) ≡ layout_of e
layout_some e k f b forms l ek ef eb gone is h = ap (λ (x : Layout). Some x) is ∙ h f ∙ not_other e k f b ek ef eb gone

pub layout_none : (e : Entry) (k : ℤ) (b : Bool) → k ≡ e.kind → b ≡ is_other_property e → b ≡ false → ((form : ℤ) → None ≡ listed_in k form)
    → None ≡ layout_of e
layout_none e k b ek eb gone h = h e.form ∙ not_other e k e.form b ek refl eb gone

pub unlisted : (z : ℤ) (xs : List (ℕ × Layout)) → AllByRecursion (λ (x : ℕ × Layout). int_eq z (pos x.0) ≡ false) xs
    → find (λ (x : ℕ × Layout). int_eq z (pos x.0)) xs ≡ None
unlisted z [] h = refl
unlisted z (x ∷ xs) h =
    cond-false (int_eq z (pos x.0)) (Some x) (find (λ (y : ℕ × Layout). int_eq z (pos y.0)) xs) h.0 ∙ unlisted z xs h.1
