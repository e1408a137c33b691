-- Numbers in lists of values.
use Rattle.std.specs.Prelude.{◌≡◌, ℕ, zero, suc, ◌+◌, ◌-◌, ◌<◌, Bool, false, ◌||◌, ℤ, List, [], ◌∷◌, ◌++◌, length, take, drop, Option, Some, None, slice_get}
use Rattle.std.specs.Prelude.{filter, filter_map, is_some, option_map}
use Rattle.std.specs.List.{cons_option}
use Rattle.std.specs.Option.{option_to_list}
use Rattle.std.proofs.Common.{refl, sym, ap, ◌∙◌, arith, get_or, append_assoc}
use Rattle.std.proofs.lemmas.List.{take_more}
use Rattle.std.proofs.lemmas.List.Elements.{filter-append, filter_map-append}
use Rattle.iges_fields.specs.declared.value.Value.{Value}
use Rattle.iges_directory.specs.declared.entry.Entry.{Entry}
use Rattle.brep_lists.specs.Record.{kind_of_type}
use Rattle.brep_lists.specs.declared.entity_kind.EntityKind.{EntityKind}
use Rattle.brep_lists.proofs.Places.{open_at}
use Rattle.entry_references.specs.Layout.{Layout, layout_of}
use Rattle.entry_references.specs.Refs.{is_listed}
use Rattle.entry_references.specs.Rows.{layout_of_row}
use Rattle.entry_references.specs.declared.layout.Layout.{Layout as Named}

cons_is : {X : Type 0} (o : Option X) (xs : List X) → cons_option o xs ≡ option_to_list o ++ xs
cons_is None xs = refl
cons_is (Some x) xs = refl

one_option : {Y : Type 0} (o : Option Y) → cons_option o [] ≡ option_to_list o
one_option None = refl
one_option (Some y) = refl

one_is : {X Y : Type 0} (h : X → Option Y) (x : X) → filter_map h (x ∷ []) ≡ option_to_list (h x)
one_is h x = one_option (h x)

pub next_number : {Y : Type 0} (h : ℕ → Option Y) (xs ys : List ℕ) (i x : ℕ) (old new : List Y) (o : Option Y) → xs ≡ ys → i < length xs → x ≡ get_or xs i 0
    → o ≡ h x → old ≡ filter_map h (take i ys) → new ≡ old ++ option_to_list o
    → new ≡ filter_map h (take (i + 1) ys)
next_number {Y} h xs ys i x old new o same lt ex eo inv en =
    let first : filter_map h (take (i + 1) xs) ≡ filter_map h (take i xs) ++ option_to_list (h x) =
    ap (filter_map h) (take_more xs i 0 lt)
    ∙ (filter_map-append h (take i xs) (get_or xs i 0 ∷ [])
    ∙ (ap (λ (ns : List Y). filter_map h (take i xs) ++ ns) (one_is h (get_or xs i 0) ∙ ap (λ (k : ℕ). option_to_list (h k)) (sym ex)))) in
    en ∙ (ap (λ (ns : List Y). ns ++ option_to_list o) (inv ∙ ap (λ (zs : List ℕ). filter_map h (take i zs)) (sym same))
    ∙ (ap (λ (p : Option Y). filter_map h (take i xs) ++ option_to_list p) eo ∙ (sym first ∙ ap (λ (zs : List ℕ). filter_map h (take (i + 1) zs)) same)))

module _ (p : ℤ → Bool) (h : Value → Option ℤ) (vs : List Value) where
  opened : (n i : ℕ) (v : Value) → 0 < n → Some v ≡ slice_get vs i → filter p (filter_map h (take n (drop i vs))) ≡ filter p (option_to_list (h v))
      ++ filter p (filter_map h (take (n - 1) (drop (i + 1) vs)))
  opened zero i v some e = absurd (omega (arith, some))
  opened (suc n) i v some e =
      let less : n ≡ suc n - 1 = omega arith in
      ap (λ (xs : List Value). filter p (filter_map h (take (suc n) xs))) (open_at vs i v (sym e))
      ∙ (ap (filter p) (cons_is (h v) (filter_map h (take n (drop (i + 1) vs))))
      ∙ (filter-append p (option_to_list (h v)) (filter_map h (take n (drop (i + 1) vs)))
      ∙ ap (λ (m : ℕ). filter p (option_to_list (h v)) ++ filter p (filter_map h (take m (drop (i + 1) vs)))) less))

  pub next_name : (before count i : ℕ) (v : Value) (old new all : List ℤ) (number named : Option ℤ) → i < count → Some v ≡ slice_get vs (before + i)
      → number ≡ h v → option_to_list named ≡ filter p (option_to_list number)
      → new ≡ old ++ option_to_list named → old ++ filter p (filter_map h (take (count - i) (drop (before + i) vs))) ≡ all
      → new ++ filter p (filter_map h (take (count - (i + 1)) (drop (before + (i + 1)) vs))) ≡ all
  next_name before count i v old new all number named lt e en eo ew inv =
      let less : count - (i + 1) ≡ (count - i) - 1 = omega (arith, lt) in
      let on : before + (i + 1) ≡ (before + i) + 1 = omega arith in
      let rest : List ℤ = filter p (filter_map h (take ((count - i) - 1) (drop ((before + i) + 1) vs))) in
      let one : option_to_list named ≡ filter p (option_to_list (h v)) = eo ∙ ap (λ (o : Option ℤ). filter p (option_to_list o)) en in
      ap (λ (m : ℕ). new ++ filter p (filter_map h (take m (drop (before + (i + 1)) vs)))) less
      ∙ (ap (λ (m : ℕ). new ++ filter p (filter_map h (take ((count - i) - 1) (drop m vs)))) on
      ∙ (ap (λ (ns : List ℤ). ns ++ filter p (filter_map h (take ((count - i) - 1) (drop ((before + i) + 1) vs)))) (ew ∙ ap (λ (ns : List ℤ). old ++ ns) one)
      ∙ (append_assoc old (filter p (option_to_list (h v))) (filter p (filter_map h (take ((count - i) - 1) (drop ((before + i) + 1) vs))))
      ∙ (ap (λ (ns : List ℤ). old ++ ns) (sym (opened (count - i) (before + i) v (omega (arith, lt)) e)) ∙ inv))))

-- ---- types

pub layout_known : (e : Entry) (o : Option Named) (l : Named) → option_map layout_of_row o ≡ layout_of e → o ≡ Some l → layout_of e ≡ Some (layout_of_row l)
layout_known e o l is s = sym is ∙ ap (option_map layout_of_row) s

pub layout_unknown : (e : Entry) (o : Option Named) → option_map layout_of_row o ≡ layout_of e → o ≡ None → layout_of e ≡ None
layout_unknown e o is s = sym is ∙ ap (option_map layout_of_row) s

pub unlisted : (e : Entry) → kind_of_type e.kind ≡ None → layout_of e ≡ None → is_listed (e, []) ≡ false
unlisted e k l =
    ap (λ (o : Option EntityKind). is_some o || is_some (layout_of e)) k ∙ ap (λ (o : Option Layout). is_some o) l
