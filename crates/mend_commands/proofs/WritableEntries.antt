-- Entries of a file that is in memory, as their types hold them.
use Rattle.std.specs.Prelude.{◌≡◌, ℕ, ◌+◌, ◌*◌, ◌≤◌, Bool, true, pos, List, [], ◌∷◌, ◌++◌, length, take, Option, Some, None, slice_get, option_map, IsTrue}
use Rattle.std.specs.List.{AllByRecursion, list_all}
use Rattle.std.proofs.Common.{refl, sym, ◌∙◌, ap, subst}
use Rattle.std.proofs.lemmas.List.{take_all}
use Rattle.std.proofs.lemmas.Option.{none-some, same_Some}
use Rattle.iges_fields.specs.InLine.{is_value}
use Rattle.iges_fields.specs.declared.value.Value.{Value}
use Rattle.iges_directory.specs.declared.entry.Entry.{Entry}
use Rattle.iges_params.specs.Contents.{Contents}
use Rattle.iges_params.specs.Made.{IsMade}
use Rattle.iges_params.specs.Named.{named}
use Rattle.iges_write.specs.Writable.{IsHeld}
use Rattle.entry_references.specs.Refs.{Record}
use Rattle.iges_params.proofs.Copies.{one_more}
use Rattle.changed_file.proofs.EntrySteps.{at_named, at_unnamed}

pub held_named : (f : Contents) (i m : ℕ) (r : Record) (vs : List Value) → m ≡ 2 * i + 1 → Some vs ≡ option_map (λ (e : Record). e.1) (named f (pos m))
    → IsTrue (list_all is_value vs) → slice_get f.entries i ≡ Some r → IsTrue (list_all is_value r.1)
held_named f i m r vs odd is held at = by_name (named f (pos m)) refl
  where
    by_name : (n : Option Record) → named f (pos m) ≡ n → IsTrue (list_all is_value r.1)
    by_name None e = absurd (none-some vs (sym (ap (option_map (λ (x : Record). x.1)) e) ∙ sym is))
    by_name (Some q) e =
        let one : q ≡ r = same_Some q r (sym (at_named f i q (ap (λ k. named f (pos k)) (sym odd) ∙ e)) ∙ at) in
        let two : vs ≡ q.1 = same_Some vs q.1 (is ∙ ap (option_map (λ (x : Record). x.1)) e) in
        subst (λ (ws : List Value). IsTrue (list_all is_value ws)) (two ∙ ap (λ (x : Record). x.1) one) held

pub held_unnamed : (f : Contents) (i m : ℕ) (r : Record) → IsMade f → m ≡ 2 * i + 1 → None ≡ option_map (λ (e : Record). e.1) (named f (pos m))
    → slice_get f.entries i ≡ Some r → IsTrue (list_all is_value r.1)
held_unnamed f i m r made odd is at = by_name (named f (pos m)) refl
  where
    by_name : (n : Option Record) → named f (pos m) ≡ n → IsTrue (list_all is_value r.1)
    by_name (Some q) e = absurd (none-some q.1 (is ∙ ap (option_map (λ (x : Record). x.1)) e))
    by_name None e =
        subst (λ (ws : List Value). IsTrue (list_all is_value ws)) (sym (at_unnamed f i r made at (ap (λ k. named f (pos k)) (sym odd) ∙ e))) refl

pub held_so : (f : Contents) (i : ℕ) (r : Record) (e : Entry) → slice_get f.entries i ≡ Some r
    → Some e ≡ option_map (λ (x : Record). x.0) (slice_get f.entries i) → length e.status ≡ 8 → length e.label ≡ 8 → IsTrue (list_all is_value r.1) → IsHeld r
held_so f i r e at is status label values =
    let one : e ≡ r.0 = same_Some e r.0 (is ∙ ap (option_map (λ (x : Record). x.0)) at) in
    record {
      status = ap (λ (x : Entry). length x.status) (sym one) ∙ status;
      label = ap (λ (x : Entry). length x.label) (sym one) ∙ label;
      values = values;
    }

all_more : {X : Type 0} (P : X → Type 0) (xs : List X) (x : X) → AllByRecursion P xs → P x → AllByRecursion P (xs ++ x ∷ [])
all_more P [] x all p = (p, tt)
all_more P (y ∷ ys) x all p = (all.0, all_more P ys x all.1 p)

pub next_held : (es : List Record) (i : ℕ) (r : Record) → slice_get es i ≡ Some r → IsHeld r → AllByRecursion IsHeld (take i es)
    → AllByRecursion IsHeld (take (i + 1) es)
next_held es i r at held all = subst (AllByRecursion IsHeld) (sym (one_more es i r at)) (all_more IsHeld (take i es) r all held)

pub all_held : (es : List Record) (i : ℕ) → length es ≤ i → AllByRecursion IsHeld (take i es) → AllByRecursion IsHeld es
all_held es i past all = subst (AllByRecursion IsHeld) (take_all i es past) all
