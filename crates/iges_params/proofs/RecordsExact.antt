-- The records are read as they are defined, and so is the first fault among them.
use Rattle.std.proofs.Common.{◌≡◌, inl, inr, ℕ, zero, suc, ◌+◌, ◌*◌, ◌<◌, Bool, true, false, not, List, [], ◌∷◌, length, ℤ, pos, Option, Some, None, Result}
use Rattle.std.proofs.Common.{Ok, Err, refl, sym, ap, subst, ◌∙◌, zero-add, arith}
use Rattle.std.specs.Prelude.{MatchBool, slice_get, unsigned_abs}
use Rattle.std.specs.List.{AllZip, list_all, position_from}
use Rattle.std.specs.Ordering.{int_eq}
use Rattle.std.specs.Cmp.{signed_Decides}
use Rattle.std.proofs.lemmas.Bool.{cases_Bool, cond-true, cond-false, and_parts, and_from, not-false, not_from_true}
use Rattle.std.proofs.lemmas.Option.{same_Some}
use Rattle.iges_fields.specs.declared.value.Value.{Value}
use Rattle.iges_fields.specs.declared.value.Value.TheVariants as value
use Rattle.iges_fields.specs.declared.fault.FieldFault.{FieldFault}
use Rattle.iges_fields.specs.Delims.{Delims, are_permitted}
use Rattle.iges_fields.specs.FreeText.{IsItem, delimited, FreeText}
use Rattle.iges_fields.specs.Reading.{◌>>=◌, read_values}
use Rattle.iges_fields.proofs.Whole.{read_values-FreeText, FreeText-read_values, read_values-IsFieldFault, IsFieldFault-read_values}
use Rattle.iges_lines.specs.declared.reason.Reason.{Reason}
use Rattle.iges_lines.specs.declared.reason.Reason.TheVariants.{BackPointer, RecordValue, RecordType}
use Rattle.iges_lines.specs.declared.fault.LineFault.{LineFault}
use Rattle.iges_directory.specs.declared.entry.Entry.{Entry}
use Rattle.iges_directory.specs.declared.entry.Placed.{Placed}
use Rattle.iges_params.specs.Global.{line_of_byte}
use Rattle.iges_params.specs.Records.{record_lines, record_text, points_back, IsRecord, HasRecord, AreRecords, is_number, RecordFault}
use Rattle.iges_params.specs.Reading.{at_line, without_type, values_unless, read_record, read_records}
use Rattle.iges_params.proofs.Answers.{Read, done, failed, ok_is, err_is, clash, bind_ok, bind_err}

-- ---- places that don't pass

module _ {X : Type 0} (p : X → Bool) where
  none_all : (i : ℕ) (xs : List X) → position_from (λ x. not (p x)) i xs ≡ None → list_all p xs ≡ true
  none_all i [] e = refl
  none_all i (x ∷ xs) e =
      elim (cases_Bool (not (p x))) [
        | inl t ↦ let no : Some i ≡ None = sym (cond-true (not (p x)) (Some i) (position_from (λ y. not (p y)) (i + 1) xs) t) ∙ e in absurd cc
        | inr t ↦ and_from (p x) (list_all p xs) (not-false _ t)
            (none_all (i + 1) xs (sym (cond-false (not (p x)) (Some i) (position_from (λ y. not (p y)) (i + 1) xs) t) ∙ e))
      ]

  all_none : (i : ℕ) (xs : List X) → list_all p xs ≡ true → position_from (λ x. not (p x)) i xs ≡ None
  all_none i [] h = refl
  all_none i (x ∷ xs) h =
      let parts = and_parts (p x) (list_all p xs) h in
      cond-false (not (p x)) _ _ (not_from_true _ parts.0) ∙ all_none (i + 1) xs parts.1

-- ---- the first value

is_number-is : (k : ℤ) (v : Value) → is_number k v ≡ true → v ≡ value.Int k
is_number-is k value.Default e = absurd cc
is_number-is k (value.Int m) e = ap (λ (z : ℤ). value.Int z) ((signed_Decides m k).0 e)
is_number-is k (value.Real w) e = absurd cc
is_number-is k (value.Text t) e = absurd cc

no_items : (d : Delims) (items : List (List ℕ)) (used : ℕ) → AllZip IsItem items [] → used ≡ length (delimited d items) → 0 < used → ⊥
no_items d [] used h is some = omega (arith, is)
no_items d (item ∷ items) used h is some = h

-- free text has a value
no_values : (d : Delims) (text : List ℕ) (used : ℕ) → FreeText d text [] used → ⊥
no_values d text used t = no_items d t.items used t.each t.length_is t.some

module _ (above : ℕ) (params : List (List ℕ)) (d : Delims) (ok : are_permitted d ≡ true) (number : ℕ) (p : Placed) where
  abbrev first : ℕ
  first = above + unsigned_abs p.first

  abbrev text : List ℕ
  text = record_text params p

  abbrev bad_line : Option ℕ
  bad_line = position_from (λ l. not (points_back number l)) 0 (record_lines params p)

  abbrev type_fault : LineFault
  type_fault = record { line = first; reason = RecordType }

  abbrev value_fault : FieldFault → LineFault
  value_fault f = record { line = first + line_of_byte 64 text (0 + f.at); reason = RecordValue }

  -- ---- a record

  type_ok : (vs values : List Value) → without_type first p.entry.kind vs ≡ Ok values → vs ≡ value.Int p.entry.kind ∷ values
  type_ok [] values e = absurd (clash type_fault values e)
  type_ok (v ∷ vs) values e =
      elim (cases_Bool (is_number p.entry.kind v)) [
        | inl t ↦
            let same : vs ≡ values = ok_is vs values (sym (cond-true (is_number p.entry.kind v) _ _ t) ∙ e) in
            ap (λ (x : Value). x ∷ vs) (is_number-is p.entry.kind v t) ∙ ap (λ (x : List Value). value.Int p.entry.kind ∷ x) same
        | inr t ↦ absurd (clash type_fault values (sym (cond-false (is_number p.entry.kind v) _ _ t) ∙ e))
      ]

  values_ok : (values : List Value) → values_unless params d first p bad_line ≡ Ok values → IsRecord params d number p values
  values_ok values e = by_line bad_line refl e
    where
      by_read : list_all (points_back number) (record_lines params p) ≡ true → (r : Result (List Value × ℕ) FieldFault) → read_values d text ≡ r
          → (at_line first 64 text 0 RecordValue r >>= λ x. without_type first p.entry.kind x.0) ≡ Ok values → IsRecord params d number p values
      by_read all (Ok x) is e =
          record {
            pointers = all;
            used = x.1;
            text = subst (λ (vs : List Value). FreeText d text vs x.1) (type_ok x.0 values e)
                (read_values-FreeText d ok text x is);
          }
      by_read all (Err f) is e = absurd (clash (value_fault f) values e)

      by_line : (o : Option ℕ) → bad_line ≡ o → values_unless params d first p o ≡ Ok values → IsRecord params d number p values
      by_line (Some line) is e = absurd (clash (record { line = first + line; reason = BackPointer }) values e)
      by_line None is e = by_read (none_all (points_back number) 0 (record_lines params p) is) (read_values d text) refl e

  ok_values : (values : List Value) → IsRecord params d number p values → values_unless params d first p bad_line ≡ Ok values
  ok_values values r =
      ap (values_unless params d first p) (all_none (points_back number) 0 (record_lines params p) r.pointers)
      ∙ ap (λ (x : Result (List Value × ℕ) FieldFault). at_line first 64 text 0 RecordValue x >>= λ y. without_type first p.entry.kind y.0)
      (FreeText-read_values d ok text (value.Int p.entry.kind ∷ values) r.used r.text)
      ∙ cond-true (is_number p.entry.kind (value.Int p.entry.kind)) _ _ ((signed_Decides p.entry.kind p.entry.kind).1 refl)

  -- a fault of the record, in one of its lines
  abbrev pub Faulty : LineFault → Type 0
  Faulty f = (line : ℕ) × RecordFault params d number p f.reason line × (f.line ≡ first + line)

  faulty_as : (f g : LineFault) → f ≡ g → Faulty g → Faulty f
  faulty_as f g e h = subst Faulty (sym e) h

  values_err : (f : LineFault) → values_unless params d first p bad_line ≡ Err f → Faulty f
  values_err f e = by_line bad_line refl e
    where
      by_type : list_all (points_back number) (record_lines params p) ≡ true → (vs : List Value) (used : ℕ) → FreeText d text vs used →
          without_type first p.entry.kind vs ≡ Err f → Faulty f
      by_type all [] used t e = absurd (no_values d text used t)
      by_type all (v ∷ vs) used t e =
          elim (cases_Bool (is_number p.entry.kind v)) [
            | inl yes' ↦ absurd (clash f vs (sym e ∙ cond-true (is_number p.entry.kind v) _ _ yes'))
            | inr no' ↦ faulty_as f type_fault (err_is {X = List Value} f type_fault (sym e ∙ cond-false (is_number p.entry.kind v) _ _ no'))
                (0, (all, v, vs, used, t, no', refl), omega arith)
          ]

      by_read : list_all (points_back number) (record_lines params p) ≡ true → (r : Result (List Value × ℕ) FieldFault) → read_values d text ≡ r
          → (at_line first 64 text 0 RecordValue r >>= λ x. without_type first p.entry.kind x.0) ≡ Err f → Faulty f
      by_read all (Ok x) is e = by_type all x.0 x.1 (read_values-FreeText d ok text x is) e
      by_read all (Err g) is e =
          faulty_as f (value_fault g) (err_is {X = List Value} f (value_fault g) (sym e))
          (line_of_byte 64 text (0 + g.at), (all, g, read_values-IsFieldFault d ok text g is, ap (line_of_byte 64 text) (zero-add g.at)), refl)

      by_line : (o : Option ℕ) → bad_line ≡ o → values_unless params d first p o ≡ Err f → Faulty f
      by_line (Some line) is e = faulty_as f (record { line = first + line; reason = BackPointer }) (err_is {X = List Value} f _ (sym e)) (line, is, refl)
      by_line None is e = by_read (none_all (points_back number) 0 (record_lines params p) is) (read_values d text) refl e

  err_values : (reason : Reason) (line : ℕ) → RecordFault params d number p reason line →
      values_unless params d first p bad_line ≡ Err (record { line = first + line; reason = reason })
  err_values BackPointer line h = ap (values_unless params d first p) h
  err_values RecordValue line h =
      ap (values_unless params d first p) (all_none (points_back number) 0 (record_lines params p) h.0)
      ∙ ap (λ (x : Result (List Value × ℕ) FieldFault). at_line first 64 text 0 RecordValue x >>= λ y. without_type first p.entry.kind y.0)
      (IsFieldFault-read_values d ok text h.1 h.2)
      ∙ ap (λ (n : ℕ). failed {X = List Value} (record { line = first + n; reason = RecordValue })) (ap (line_of_byte 64 text) (zero-add h.1.at) ∙ sym h.3)
  err_values RecordType line h =
      ap (values_unless params d first p) (all_none (points_back number) 0 (record_lines params p) h.0)
      ∙ ap (λ (x : Result (List Value × ℕ) FieldFault). at_line first 64 text 0 RecordValue x >>= λ y. without_type first p.entry.kind y.0)
      (FreeText-read_values d ok text (h.1 ∷ h.2) h.3 h.4)
      ∙ cond-false (is_number p.entry.kind h.1) _ _ h.5
      ∙ ap (λ (n : ℕ). failed {X = List Value} (record { line = n; reason = RecordType })) (omega (arith, h.6))
  err_values _ line h = absurd h

  -- ---- an entry

  pub read_record-HasRecord : (values : List Value) → read_record above params d number p ≡ Ok values → HasRecord params d number p values
  unfolding read_record
  read_record-HasRecord values e =
      elim (cases_Bool (int_eq p.entry.kind (pos 0))) [
        | inl t ↦ subst (λ (b : Bool). MatchBool b (values ≡ []) (IsRecord params d number p values)) (sym t)
            (ok_is values [] (sym e ∙ cond-true (int_eq p.entry.kind (pos 0)) _ _ t))
        | inr t ↦ subst (λ (b : Bool). MatchBool b (values ≡ []) (IsRecord params d number p values)) (sym t)
            (values_ok values (sym (cond-false (int_eq p.entry.kind (pos 0)) _ _ t) ∙ e))
      ]

  pub HasRecord-read_record : (values : List Value) → HasRecord params d number p values → read_record above params d number p ≡ Ok values
  unfolding read_record
  HasRecord-read_record values h =
      elim (cases_Bool (int_eq p.entry.kind (pos 0))) [
        | inl t ↦
            let none : values ≡ [] = subst (λ (b : Bool). MatchBool b (values ≡ []) (IsRecord params d number p values)) t h in
            cond-true (int_eq p.entry.kind (pos 0)) _ _ t ∙ ap (λ (vs : List Value). done vs) (sym none)
        | inr t ↦ cond-false (int_eq p.entry.kind (pos 0)) _ _ t ∙ ok_values values
            (subst (λ (b : Bool). MatchBool b (values ≡ []) (IsRecord params d number p values)) t h)
      ]

  pub read_record-Faulty : (f : LineFault) → read_record above params d number p ≡ Err f → (int_eq p.entry.kind (pos 0) ≡ false) × Faulty f
  unfolding read_record
  read_record-Faulty f e =
      elim (cases_Bool (int_eq p.entry.kind (pos 0))) [
        | inl t ↦ absurd (clash {X = List Value} f [] (sym e ∙ cond-true (int_eq p.entry.kind (pos 0)) _ _ t))
        | inr t ↦ (t, values_err f (sym (cond-false (int_eq p.entry.kind (pos 0)) _ _ t) ∙ e))
      ]

  pub Faulty-read_record : (f : LineFault) → int_eq p.entry.kind (pos 0) ≡ false → Faulty f → read_record above params d number p ≡ Err f
  unfolding read_record
  Faulty-read_record f t h =
      cond-false (int_eq p.entry.kind (pos 0)) _ _ t ∙ err_values f.reason h.0 h.1 ∙ ap
      (λ (n : ℕ). failed {X = List Value} (record { line = n; reason = f.reason })) (sym h.2)

-- ---- all entries

module _ (above : ℕ) (params : List (List ℕ)) (d : Delims) (ok : are_permitted d ≡ true) where
  cons : Placed → List Value → List (Entry × List Value) → Read (List (Entry × List Value))
  cons p values others = Ok ((p.entry, values) ∷ others)

  pub read_records-AreRecords : (ps : List Placed) (number : ℕ) (es : List (Entry × List Value)) → read_records above params d number ps ≡ Ok es →
      AreRecords params d number ps es
  unfolding read_records
  read_records-AreRecords [] number es e = subst (λ (x : List (Entry × List Value)). AreRecords params d number [] x) (ok_is [] es e) tt
  read_records-AreRecords (p ∷ ps) number es e =
      let a = bind_ok (read_record above params d number p) (λ values. read_records above params d (number + 2) ps >>= λ others. Ok
      ((p.entry, values) ∷ others)) es e in
      let b = bind_ok (read_records above params d (number + 2) ps) (λ others. Ok ((p.entry, a.0) ∷ others)) es a.2 in
      subst (λ (x : List (Entry × List Value)). AreRecords params d number (p ∷ ps) x) (ok_is ((p.entry, a.0) ∷ b.0) es b.2)
      (refl, read_record-HasRecord above params d ok number p a.0 a.1, read_records-AreRecords ps (number + 2) b.0 b.1)

  pub AreRecords-read_records : (ps : List Placed) (number : ℕ) (es : List (Entry × List Value)) → AreRecords params d number ps es →
      read_records above params d number ps ≡ Ok es
  unfolding read_records
  AreRecords-read_records [] number [] h = refl
  AreRecords-read_records [] number (e ∷ es) h = absurd h
  AreRecords-read_records (p ∷ ps) number [] h = absurd h
  AreRecords-read_records (p ∷ ps) number (e ∷ es) h =
      ap (λ (r : Read (List Value)). r >>= λ values. read_records above params d (number + 2) ps >>= λ others. Ok ((p.entry, values) ∷ others))
      (HasRecord-read_record above params d ok number p e.1 h.1)
      ∙ ap (λ (r : Read (List (Entry × List Value))). r >>= λ others. Ok ((p.entry, e.1) ∷ others)) (AreRecords-read_records ps (number + 2) es h.2)
      ∙ ap (λ (x : Entry). done {X = List (Entry × List Value)} ((x, e.1) ∷ es)) (sym h.0)

  -- the first entry that fails, where the first has this number
  pub record FirstFaulty (number : ℕ) (ps : List Placed) (f : LineFault) : Type 0 where
    pub place : ℕ
    pub entry : Placed
    pub entry_is : slice_get ps place ≡ Some entry
    pub has_type : int_eq entry.entry.kind (pos 0) ≡ false
    pub line : ℕ
    pub here : RecordFault params d (2 * place + number) entry f.reason line
    pub line_is : f.line ≡ above + unsigned_abs entry.first + line
    pub before : (i : ℕ) (p : Placed) → i < place → slice_get ps i ≡ Some p → (values : List Value) × HasRecord params d (2 * i + number) p values

  pub read_records-FirstFaulty : (ps : List Placed) (number : ℕ) (f : LineFault) → read_records above params d number ps ≡ Err f → FirstFaulty number ps f
  unfolding read_records
  read_records-FirstFaulty [] number f e = absurd (clash {X = List (Entry × List Value)} f [] (sym e))
  read_records-FirstFaulty (p ∷ ps) number f e =
      elim (bind_err (read_record above params d number p) (λ values. read_records above params d (number + 2) ps >>= λ others. Ok ((p.entry, values) ∷ others))
      f e) [
        | inl a ↦
            let t = read_record-Faulty above params d ok number p f a in
            record {
              place = 0;
              entry = p;
              entry_is = refl;
              has_type = t.0;
              line = t.1.0;
              here = subst (λ (n : ℕ). RecordFault params d n p f.reason t.1.0) (omega arith) t.1.1;
              line_is = t.1.2;
              before = λ i q lt is. absurd (omega arith);
            }
        | inr a ↦
            elim (bind_err (read_records above params d (number + 2) ps) (λ others. Ok ((p.entry, a.0) ∷ others)) f a.2) [
              | inr b ↦ absurd (clash f ((p.entry, a.0) ∷ b.0) (sym b.2))
              | inl b ↦
                  let t = read_records-FirstFaulty ps (number + 2) f b in
                  record {
                    place = suc t.place;
                    entry = t.entry;
                    entry_is = t.entry_is;
                    has_type = t.has_type;
                    line = t.line;
                    here = subst (λ (n : ℕ). RecordFault params d n t.entry f.reason t.line) (omega arith) t.here;
                    line_is = t.line_is;
                    before = λ i q lt is. earlier p ps number a.0 (read_record-HasRecord above params d ok number p a.0 a.1) t.place t.before i q lt is;
                  }
            ]
      ]
    where
      earlier : (p : Placed) (ps : List Placed) (number : ℕ) (values : List Value) → HasRecord params d number p values → (place : ℕ)
          → ((i : ℕ) (q : Placed) → i < place → slice_get ps i ≡ Some q → (vs : List Value) × HasRecord params d (2 * i + (number + 2)) q vs)
          → (i : ℕ) (q : Placed) → i < suc place → slice_get (p ∷ ps) i ≡ Some q → (vs : List Value) × HasRecord params d (2 * i + number) q vs
      earlier p ps number values h place more zero q lt is = (
        values,
        subst (λ (x : Placed). HasRecord params d (2 * 0 + number) x values) (same_Some p q is)
            (subst (λ (n : ℕ). HasRecord params d n p values) (omega arith) h),
      )
      earlier p ps number values h place more (suc i) q lt is =
          let m = more i q (omega arith) is in (m.0, subst (λ (n : ℕ). HasRecord params d n q m.0) (omega arith) m.1)

  fault_read : (ps : List Placed) (number place : ℕ) (entry : Placed) (line : ℕ) (f : LineFault) → slice_get ps place ≡ Some entry →
      int_eq entry.entry.kind (pos 0) ≡ false
      → RecordFault params d (2 * place + number) entry f.reason line → f.line ≡ above + unsigned_abs entry.first + line
      → ((i : ℕ) (p : Placed) → i < place → slice_get ps i ≡ Some p → (values : List Value) × HasRecord params d (2 * i + number) p values)
      → read_records above params d number ps ≡ Err f
  unfolding read_records
  fault_read [] number place entry line f is type here line_is before = absurd cc
  fault_read (p ∷ ps) number zero entry line f is type here line_is before =
      let same : entry ≡ p = same_Some entry p (sym is) in
      let t : int_eq p.entry.kind (pos 0) ≡ false = subst (λ (x : Placed). int_eq x.entry.kind (pos 0) ≡ false) same type in
      let h : RecordFault params d number p f.reason line = subst (λ (x : Placed). RecordFault params d number x f.reason line) same
      (subst (λ (n : ℕ). RecordFault params d n entry f.reason line) (omega arith) here) in
      let l : f.line ≡ above + unsigned_abs p.first + line = subst (λ (x : Placed). f.line ≡ above + unsigned_abs x.first + line) same line_is in
      ap (λ (r : Read (List Value)). r >>= λ values. read_records above params d (number + 2) ps >>= λ others. Ok ((p.entry, values) ∷ others))
      (Faulty-read_record above params d ok number p f t (line, h, l))
  fault_read (p ∷ ps) number (suc place) entry line f is type here line_is before =
      let first = before 0 p (omega arith) refl in
      let read : read_record above params d number p ≡ Ok first.0 =
      HasRecord-read_record above params d ok number p first.0 (subst (λ (n : ℕ). HasRecord params d n p first.0) (omega arith) first.1) in
      let more : read_records above params d (number + 2) ps ≡ Err f =
      fault_read ps (number + 2) place entry line f is type (subst (λ (n : ℕ). RecordFault params d n entry f.reason line) (omega arith) here) line_is
      (λ i q lt e. let b = before (suc i) q (omega arith) e in (b.0, subst (λ (n : ℕ). HasRecord params d n q b.0) (omega arith) b.1)) in
      ap (λ (r : Read (List Value)). r >>= λ values. read_records above params d (number + 2) ps >>= λ others. Ok ((p.entry, values) ∷ others)) read
      ∙ ap (λ (r : Read (List (Entry × List Value))). r >>= λ others. Ok ((p.entry, first.0) ∷ others)) more

  pub FirstFaulty-read_records : (ps : List Placed) (number : ℕ) (f : LineFault) → FirstFaulty number ps f → read_records above params d number ps ≡ Err f
  FirstFaulty-read_records ps number f h = fault_read ps number h.place h.entry h.line f h.entry_is h.has_type h.here h.line_is h.before
