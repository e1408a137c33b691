-- The global is read as it is defined, and so is its fault.
use Rattle.std.proofs.Common.{◌≡◌, ◌⊎◌, inl, inr, ℕ, ◌+◌, ◌-◌, true, false, List, [], length, Option, Some, None, Result, Ok, Err, refl, sym, ap, subst, ◌∙◌}
use Rattle.std.proofs.lemmas.Bool.{cases_Bool, cond-true, cond-false}
use Rattle.std.proofs.lemmas.Option.{same_Some}
use Rattle.iges_fields.specs.declared.value.Value.{Value}
use Rattle.iges_fields.specs.declared.fault.FieldFault.{FieldFault}
use Rattle.iges_fields.specs.Delims.{Delims, are_permitted}
use Rattle.iges_fields.specs.FreeText.{FreeText, IsFieldFault}
use Rattle.iges_fields.specs.Reading.{◌>>=◌, read_values}
use Rattle.iges_fields.proofs.Whole.{read_values-FreeText, FreeText-read_values, read_values-IsFieldFault, IsFieldFault-read_values}
use Rattle.iges_lines.specs.declared.reason.Reason.{Reason}
use Rattle.iges_lines.specs.declared.reason.Reason.TheVariants.{Delimiter, GlobalValue, GlobalKind}
use Rattle.iges_lines.specs.declared.fault.LineFault.{LineFault}
use Rattle.iges_lines.specs.Lines.{SectionLines}
use Rattle.iges_params.specs.declared.global.Global26.{Global26}
use Rattle.iges_params.specs.Global.{Head, any_head, if_permitted, head, have_kinds, global_text, HasValues, GlobalText, line_of_byte, GlobalFault}
use Rattle.iges_params.specs.Reading.{at_line, with_kinds, global_with, global_of_head, read_global}
use Rattle.iges_params.proofs.Answers.{done, failed, ok_is, err_is, clash}

if_permitted-is : (o : Option Head) (h : Head) → if_permitted o ≡ Some h → are_permitted h.delims ≡ true
if_permitted-is None h e = absurd cc
if_permitted-is (Some x) h e =
    elim (cases_Bool (are_permitted x.delims)) [
      | inl t ↦ let same : Some x ≡ Some h = sym (cond-true (are_permitted x.delims) (Some x) None t) ∙ e in subst (λ (y : Head). are_permitted y.delims ≡ true)
          (same_Some x h same) t
      | inr t ↦ let no : None ≡ Some h = sym (cond-false (are_permitted x.delims) (Some x) None t) ∙ e in absurd cc
    ]

pub permitted : (text : List ℕ) (h : Head) → head text ≡ Some h → are_permitted h.delims ≡ true
permitted text h e = if_permitted-is (any_head text) h e

module _ (first : ℕ) (text : List ℕ) (d : Delims) (ok : are_permitted d ≡ true) where
  abbrev kind_fault : LineFault
  kind_fault = record { line = first; reason = GlobalKind }

  abbrev value_fault : List ℕ → FieldFault → LineFault
  value_fault rest fault = record { line = first + line_of_byte 72 text (length text - length rest + fault.at); reason = GlobalValue }

  kinds_ok : (values : List Value) (g : Global26) → with_kinds first d values ≡ Ok g → (g.delims ≡ d) × (g.values ≡ values) × (have_kinds values ≡ true)
  kinds_ok values g e =
      elim (cases_Bool (have_kinds values)) [
        | inl t ↦
            let same : record { delims = d; values = values } ≡ g =
            ok_is (record { delims = d; values = values }) g (sym (cond-true (have_kinds values) _ _ t) ∙ e) in
            (ap (λ (x : Global26). x.delims) (sym same), ap (λ (x : Global26). x.values) (sym same), t)
        | inr t ↦ absurd (clash kind_fault g (sym (cond-false (have_kinds values) _ _ t) ∙ e))
      ]

  kinds_err : (values : List Value) (f : LineFault) → with_kinds first d values ≡ Err f → (f ≡ kind_fault) × (have_kinds values ≡ false)
  kinds_err values f e =
      elim (cases_Bool (have_kinds values)) [
        | inl t ↦ absurd (clash f (record { delims = d; values = values }) (sym e ∙ cond-true (have_kinds values) _ _ t))
        | inr t ↦ (err_is {X = Global26} f kind_fault (sym e ∙ cond-false (have_kinds values) _ _ t), t)
      ]

  pub with_ok : (vs : Option (List ℕ)) (g : Global26) → global_with first text d vs ≡ Ok g →
      (g.delims ≡ d) × HasValues d vs g.values × (have_kinds g.values ≡ true)
  with_ok None g e = let k = kinds_ok [] g e in (k.0, k.1, ap have_kinds k.1)
  with_ok (Some rest) g e = by_read (read_values d rest) refl e
    where
      by_read : (r : Result (List Value × ℕ) FieldFault) → read_values d rest ≡ r →
          (at_line first 72 text (length text - length rest) GlobalValue r >>= λ x. with_kinds first d x.0) ≡ Ok g
          → (g.delims ≡ d) × HasValues d (Some rest) g.values × (have_kinds g.values ≡ true)
      by_read (Ok x) is e =
          let k = kinds_ok x.0 g e in
          (k.0, (x.1, subst (λ (vs : List Value). FreeText d rest vs x.1) (sym k.1) (read_values-FreeText d ok rest x is)), ap have_kinds k.1 ∙ k.2)
      by_read (Err f) is e = absurd (clash (value_fault rest f) g e)

  pub ok_with : (vs : Option (List ℕ)) (g : Global26) → g.delims ≡ d → HasValues d vs g.values → have_kinds g.values ≡ true → global_with first text d vs ≡ Ok g
  ok_with None g e h k =
      ap (λ (x : Delims). done {X = Global26} (record { delims = x; values = [] })) (sym e) ∙ ap
      (λ (x : List Value). done {X = Global26} (record { delims = g.delims; values = x })) (sym h)
  ok_with (Some rest) g e h k =
      ap (λ (r : Result (List Value × ℕ) FieldFault). at_line first 72 text (length text - length rest) GlobalValue r >>= λ x. with_kinds first d x.0)
      (FreeText-read_values d ok rest g.values h.0 h.1)
      ∙ cond-true (have_kinds g.values) _ _ k ∙ ap (λ (x : Delims). done {X = Global26} (record { delims = x; values = g.values })) (sym e)

  -- what a fault behind the delimiters is
  pub WithFault : Option (List ℕ) → LineFault → Type 0
  WithFault vs f =
      ((values : List Value) × HasValues d vs values × (have_kinds values ≡ false) × (f ≡ kind_fault))
      ⊎ ((rest : List ℕ) × (fault : FieldFault) × (vs ≡ Some rest) × IsFieldFault d rest fault × (f ≡ value_fault rest fault))

  pub with_err : (vs : Option (List ℕ)) (f : LineFault) → global_with first text d vs ≡ Err f → WithFault vs f
  unfolding WithFault
  with_err None f e = let k = kinds_err [] f e in inl ([], refl, k.1, k.0)
  with_err (Some rest) f e = by_read (read_values d rest) refl e
    where
      by_read : (r : Result (List Value × ℕ) FieldFault) → read_values d rest ≡ r →
          (at_line first 72 text (length text - length rest) GlobalValue r >>= λ x. with_kinds first d x.0) ≡ Err f → WithFault (Some rest) f
      by_read (Ok x) is e = let k = kinds_err x.0 f e in inl (x.0, (x.1, read_values-FreeText d ok rest x is), k.1, k.0)
      by_read (Err fault) is e = inr (rest, fault, refl, read_values-IsFieldFault d ok rest fault is, err_is {X = Global26} f (value_fault rest fault) (sym e))

  pub kind_read : (vs : Option (List ℕ)) (values : List Value) → HasValues d vs values → have_kinds values ≡ false →
      global_with first text d vs ≡ Err kind_fault
  kind_read None values h k = let no : true ≡ false = ap have_kinds (sym h) ∙ k in absurd cc
  kind_read (Some rest) values h k =
      ap (λ (r : Result (List Value × ℕ) FieldFault). at_line first 72 text (length text - length rest) GlobalValue r >>= λ x. with_kinds first d x.0)
      (FreeText-read_values d ok rest values h.0 h.1)
      ∙ cond-false (have_kinds values) _ _ k

  pub value_read : (rest : List ℕ) (fault : FieldFault) → IsFieldFault d rest fault → global_with first text d (Some rest) ≡ Err (value_fault rest fault)
  value_read rest fault h =
      ap (λ (r : Result (List Value × ℕ) FieldFault). at_line first 72 text (length text - length rest) GlobalValue r >>= λ x. with_kinds first d x.0)
      (IsFieldFault-read_values d ok rest fault h)

module _ (s : SectionLines) where
  abbrev text : List ℕ
  text = global_text s

  abbrev first : ℕ
  first = length s.start + 1

  by_head_ok : (o : Option Head) → head text ≡ o → (g : Global26) → global_of_head first text o ≡ Ok g → GlobalText text g
  by_head_ok None is g e = absurd (clash (record { line = first; reason = Delimiter }) g e)
  by_head_ok (Some h) is g e =
      let w = with_ok first text h.delims (permitted text h is) h.values g e in
      record { start = h; head_is = is; delims = w.0; values = w.1; kinds_fit = w.2 }

  pub read_global-GlobalText : (g : Global26) → read_global s ≡ Ok g → GlobalText text g
  unfolding read_global
  read_global-GlobalText g e = by_head_ok (head text) refl g e

  pub GlobalText-read_global : (g : Global26) → GlobalText text g → read_global s ≡ Ok g
  unfolding read_global
  GlobalText-read_global g t = ap (global_of_head first text) t.head_is ∙ ok_with first text t.start.delims
      (permitted text t.start t.head_is) t.start.values g t.delims t.values t.kinds_fit

  fault_by : (f g : LineFault) → f ≡ g → GlobalFault s g.reason g.line → GlobalFault s f.reason f.line
  fault_by f g e h = subst (λ (x : LineFault). GlobalFault s x.reason x.line) (sym e) h

  by_head_err : (o : Option Head) → head text ≡ o → (f : LineFault) → global_of_head first text o ≡ Err f → GlobalFault s f.reason f.line
  unfolding WithFault
  by_head_err None is f e = fault_by f (record { line = first; reason = Delimiter }) (err_is {X = Global26} f _ (sym e)) (is, refl)
  by_head_err (Some h) is f e =
      elim (with_err first text h.delims (permitted text h is) h.values f e) [
        | inl w ↦ fault_by f (record { line = first; reason = GlobalKind }) w.3 (h, w.0, is, w.1, w.2, refl)
        | inr w ↦ fault_by f (record { line = first + line_of_byte 72 text (length text - length w.0 + w.1.at); reason = GlobalValue }) w.4
            (h, w.0, w.1, is, w.2, w.3, refl)
      ]

  pub read_global-GlobalFault : (f : LineFault) → read_global s ≡ Err f → GlobalFault s f.reason f.line
  unfolding read_global
  read_global-GlobalFault f e = by_head_err (head text) refl f e

  by_reason : (reason : Reason) (line : ℕ) → GlobalFault s reason line → read_global s ≡ Err (record { line = line; reason = reason })
  unfolding read_global
  by_reason Delimiter line h = ap (global_of_head first text) h.0 ∙ ap (λ (n : ℕ). failed {X = Global26} (record { line = n; reason = Delimiter })) (sym h.1)
  by_reason GlobalValue line h =
      ap (global_of_head first text) h.3 ∙ ap (global_with first text h.0.delims) h.4 ∙ value_read first text h.0.delims (permitted text h.0 h.3) h.1 h.2 h.5
      ∙ ap (λ (n : ℕ). failed {X = Global26} (record { line = n; reason = GlobalValue })) (sym h.6)
  by_reason GlobalKind line h =
      ap (global_of_head first text) h.2 ∙ kind_read first text h.0.delims (permitted text h.0 h.2) h.0.values h.1 h.3 h.4
      ∙ ap (λ (n : ℕ). failed {X = Global26} (record { line = n; reason = GlobalKind })) (sym h.5)
  by_reason _ line h = absurd h

  pub GlobalFault-read_global : (f : LineFault) → GlobalFault s f.reason f.line → read_global s ≡ Err f
  GlobalFault-read_global f h = by_reason f.reason f.line h
