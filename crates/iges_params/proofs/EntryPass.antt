-- The pass over the records, from the last to the first: its steps, and the file of what was read.
use Rattle.std.proofs.Common.{◌≡◌, ℕ, zero, suc, ◌+◌, ◌*◌, ◌≤◌, true, List, [], ◌∷◌, ◌++◌, length, drop, reverse, Option, Some, None, Result, Ok, Err, refl}
use Rattle.std.proofs.Common.{sym, ap, subst, ◌∙◌, arith, length-append, pos}
use Rattle.std.specs.Prelude.{IsTrue, MatchBool, slice_get}
use Rattle.std.specs.List.{AllByRecursion}
use Rattle.std.specs.Ordering.{int_eq}
use Rattle.std.proofs.Math.ListN.{drop_of_length-le}
use Rattle.std.proofs.Math.Seq.{drop-cons}
use Rattle.std.proofs.lemmas.List.{reverse-append}
use Rattle.std.proofs.lemmas.List.Sums.{sum_by-cons}
use Rattle.std.proofs.lemmas.Option.{get_or_from_slice_get, slice_get_within}
use Rattle.iges_base.specs.declared.TheConstants.{FILE_LIMIT}
use Rattle.iges_fields.specs.declared.value.Value.{Value}
use Rattle.iges_fields.specs.Delims.{Delims, are_permitted}
use Rattle.iges_fields.specs.Reading.{◌>>=◌}
use Rattle.iges_lines.specs.declared.fault.LineFault.{LineFault}
use Rattle.iges_lines.specs.declared.fault.PassFault.{PassFault}
use Rattle.iges_lines.specs.declared.fault.PassFault.TheVariants as faults
use Rattle.iges_lines.specs.Gives.{Gives}
use Rattle.iges_directory.specs.Bounds.{IsBounded, AreBounded}
use Rattle.iges_directory.specs.declared.entry.Entry.{Entry}
use Rattle.iges_directory.specs.declared.entry.Placed.{Placed}
use Rattle.iges_directory.specs.Entries.{has_record, AreEntries}
use Rattle.iges_params.specs.Contents.{Contents, value_count}
use Rattle.iges_params.specs.declared.records_read.RecordsRead.{RecordsRead}
use Rattle.iges_params.specs.FromLast.{IsReading, AreRead, IsPut}
use Rattle.iges_params.specs.Limits.{FitsLimits}
use Rattle.iges_params.specs.Made.{IsMadeEntry}
use Rattle.iges_directory.specs.Paired.{Pairs, paired}
use Rattle.iges_params.specs.Records.{HasRecord, IsRecord, AreRecords}
use Rattle.iges_params.specs.Reading.{read_record, read_records, read_entries, with_entries}
use Rattle.iges_params.proofs.Owned.{all_owned, all_owned-few, record_few}
use Rattle.iges_params.proofs.RecordsExact.{read_records-AreRecords}

-- the record of an entry lies among the P lines
pub entry_record : (n : ℕ) (lines : List (List ℕ)) (ps : List Placed) (i : ℕ) (p : Placed) → AreEntries n lines ps → slice_get ps i ≡ Some p →
    IsTrue (has_record n p.entry.kind p.first p.count)
entry_record n [] [] i p h is = absurd cc
entry_record n [] (q ∷ ps) i p h is = absurd h
entry_record n (first ∷ []) ps i p h is = absurd h
entry_record n (first ∷ second ∷ lines) [] i p h is = absurd h
entry_record n (first ∷ second ∷ lines) (q ∷ ps) zero p h is = let same : q ≡ p =
    cc in subst (λ (x : Placed). IsTrue (has_record n x.entry.kind x.first x.count)) same h.1
entry_record n (first ∷ second ∷ lines) (q ∷ ps) (suc i) p h is = entry_record n lines ps i p h.2 is

-- ---- steps

abbrev behind : Placed → List Value → Pairs → Result Pairs LineFault
behind p values others = Ok ((p.entry, values) ∷ others)

-- the entry with the values of its record, before the others
good_step : (p : Placed) (ps here : List Placed) → here ≡ p ∷ ps → (values : List Value) (more : List (List Value)) (fault : Option LineFault)
    (others now : Result Pairs LineFault) → now ≡ (others >>= behind p values) → IsReading ps more fault others → IsReading here (more ++ values ∷ []) fault now
good_step p ps here e values more None others now n h = (
  omega (arith, h.0, length-append more (values ∷ []), ap length e),
  n ∙ ap (λ (r : Result Pairs LineFault). r >>= behind p values) h.1
      ∙ sym (ap (λ (l : List Placed). Ok (paired l (reverse (more ++ values ∷ [])))) e ∙ ap (λ (l : List (List Value)). Ok (paired (p ∷ ps) l))
      (reverse-append more (values ∷ []))),
)
good_step p ps here e values more (Some fault) others now n h = n ∙ ap (λ (r : Result Pairs LineFault). r >>= behind p values) h

module _ (above : ℕ) (params : List (List ℕ)) (d : Delims) (ps : List Placed) where
  abbrev reading : ℕ → Result Pairs LineFault
  reading i = read_records above params d (2 * i + 1) (drop i ps)

  pub none_read : (left : ℕ) → length ps ≡ left → (values : List (List Value)) → values ≡ [] → IsReading (drop left ps) values None (reading left)
  unfolding read_records
  none_read left e values none =
      let past : drop left ps ≡ [] = drop_of_length-le ps (let k : length ps ≤ left = omega (arith, e) in k) in
      subst (λ (l : List Placed). IsReading l values None (read_records above params d (2 * left + 1) l)) (sym past)
      (subst (λ (vs : List (List Value)). IsReading [] vs None (Ok [])) (sym none) (refl, refl))

  module _ (i left : ℕ) (left_is : left ≡ i + 1) (p : Placed) (is : slice_get ps i ≡ Some p) where
    abbrev rest : Result Pairs LineFault
    rest = read_records above params d (2 * i + 1 + 2) (drop (i + 1) ps)

    next_is : drop i ps ≡ p ∷ drop (i + 1) ps
    next_is =
        drop-cons ps i p (slice_get_within ps i p is) ∙ ap (λ (x : Placed). x ∷ drop (suc i) ps) (get_or_from_slice_get ps i p p is)
        ∙ ap (λ (k : ℕ). p ∷ drop k ps) (let k : suc i ≡ i + 1 = omega arith in k)

    step : reading i ≡ (read_record above params d (2 * i + 1) p >>= λ values. rest >>= behind p values)
    unfolding read_records
    step = ap (λ (l : List Placed). read_records above params d (2 * i + 1) l) next_is

    pub good_read : (values : List Value) (more new : List (List Value)) (fault : Option LineFault) → read_record above params d (2 * i + 1) p ≡ Ok values →
        new ≡ more ++ values ∷ [] → IsReading (drop left ps) more fault (reading left) → IsReading (drop i ps) new fault (reading i)
    good_read values more new fault read new_is h =
        let number : 2 * (i + 1) + 1 ≡ 2 * i + 1 + 2 = omega arith in
        let h1 : IsReading (drop (i + 1) ps) more fault (reading (i + 1)) = subst (λ (k : ℕ). IsReading (drop k ps) more fault (reading k)) left_is h in
        let h2 : IsReading (drop (i + 1) ps) more fault rest = subst
        (λ (n : ℕ). IsReading (drop (i + 1) ps) more fault (read_records above params d n (drop (i + 1) ps))) number h1 in
        subst (λ (vs : List (List Value)). IsReading (drop i ps) vs fault (reading i)) (sym new_is)
        (good_step p (drop (i + 1) ps) (drop i ps) next_is values more fault rest (reading i)
        (step ∙ ap (λ (r : Result (List Value) LineFault). r >>= λ vs. rest >>= behind p vs) read) h2)

    pub bad_read : (fault : LineFault) → read_record above params d (2 * i + 1) p ≡ Err fault → reading i ≡ Err fault
    bad_read fault read = step ∙ ap (λ (r : Result (List Value) LineFault). r >>= λ vs. rest >>= behind p vs) read

    pub answer_read : (answer : Result (List Value) PassFault) (old new : RecordsRead) → IsPut answer old new → old.left ≡ i → new.left ≡ old.left →
        Gives answer (read_record above params d (2 * i + 1) p) → IsReading (drop left ps) old.values.items old.fault (reading left) →
        AreRead above params d ps new
    answer_read (Ok values) old new put o n read h =
        subst (λ (k : ℕ). IsReading (drop k ps) new.values.items new.fault (reading k)) (sym (n ∙ o))
        (subst (λ (f : Option LineFault). IsReading (drop i ps) new.values.items f (reading i)) (sym put.1)
        (good_read values old.values.items new.values.items old.fault read put.0 h))
    answer_read (Err (faults.Bad fault)) old new put o n read h =
        subst (λ (k : ℕ). IsReading (drop k ps) new.values.items new.fault (reading k)) (sym (n ∙ o))
        (subst (λ (f : Option LineFault). IsReading (drop i ps) new.values.items f (reading i)) (sym put) (bad_read fault read))
    answer_read (Err faults.NoMemory) old new put o n read h = absurd put

  -- ---- the file

  module _ (left : ℕ) (none : left ≡ 0) (values : List (List Value)) (file : Contents) (file_is : file.global.delims ≡ d) where
    all_read : (fault : Option LineFault) → IsReading (drop left ps) values fault (reading left) → IsReading ps values fault (read_records above params d 1 ps)
    all_read fault h = subst (λ (k : ℕ). IsReading (drop k ps) values fault (reading k)) none h

    entries_from : read_entries above params file ps ≡ (read_records above params d 1 ps >>= with_entries file)
    entries_from = ap (λ (x : Delims). read_records above params x 1 ps >>= with_entries file) file_is

    pub file_fails : (fault : LineFault) → IsReading (drop left ps) values (Some fault) (reading left) → read_entries above params file ps ≡ Err fault
    file_fails fault h = entries_from ∙ ap (λ (r : Result Pairs LineFault). r >>= with_entries file) (all_read (Some fault) h)

    pub file_read : IsReading (drop left ps) values None (reading left) → read_entries above params file ps ≡ Ok
        (record { start = file.start; global = file.global; entries = paired ps (reverse values) })
    file_read h = entries_from ∙ ap (λ (r : Result Pairs LineFault). r >>= with_entries file) (all_read None h).1

-- ---- what holds of the entries

module _ (params : List (List ℕ)) (d : Delims) where
  abbrev bounded : List Placed → Type 0
  bounded ps = (i : ℕ) (p : Placed) → slice_get ps i ≡ Some p → IsBounded p.entry

  unused_has_none : (number : ℕ) (p : Placed) (values : List Value) → HasRecord params d number p values → int_eq p.entry.kind (pos 0) ≡ true → values ≡ []
  unused_has_none number p values h t = subst (λ b. MatchBool b (values ≡ []) (IsRecord params d number p values)) t h

  made_entries : (ps : List Placed) (number : ℕ) (es : Pairs) → AreRecords params d number ps es → bounded ps → AllByRecursion IsMadeEntry es
  made_entries [] number [] h b = tt
  made_entries [] number (e ∷ es) h b = absurd h
  made_entries (p ∷ ps) number [] h b = absurd h
  made_entries (p ∷ ps) number (e ∷ es) h b = (
    record {
      bounded = subst IsBounded (sym h.0) (b 0 p refl);
      unused = λ t. unused_has_none number p e.1 h.1 (ap (λ (x : Entry). int_eq x.kind (pos 0)) (sym h.0) ∙ t);
    },
    made_entries ps (number + 2) es h.2 (λ i q is. b (suc i) q is),
  )

  records_few : (ps : List Placed) (number : ℕ) (es : Pairs) → AreRecords params d number ps es → value_count es ≤ 64 * all_owned number (length ps) params
  records_few [] number [] h = omega arith
  records_few [] number (e ∷ es) h = absurd h
  records_few (p ∷ ps) number [] h = absurd h
  records_few (p ∷ ps) number (e ∷ es) h =
      let sum : value_count (e ∷ es) ≡ length e.1 + value_count es = sum_by-cons (λ (x : Entry × List Value). length x.1) e es in
      omega (arith, sum, record_few params d number p e.1 h.1, records_few ps (number + 2) es h.2)

  records_long : (ps : List Placed) (number : ℕ) (es : Pairs) → AreRecords params d number ps es → length es ≡ length ps
  records_long [] number [] h = refl
  records_long [] number (e ∷ es) h = absurd h
  records_long (p ∷ ps) number [] h = absurd h
  records_long (p ∷ ps) number (e ∷ es) h = omega (arith, records_long ps (number + 2) es h.2)

module _ (above : ℕ) (params : List (List ℕ)) (d : Delims) (ok : are_permitted d ≡ true) (ps : List Placed) (are : AreBounded ps) (left : ℕ)
    (none : left ≡ 0) (values : List (List Value)) (h : IsReading (drop left ps) values None (reading above params d ps left)) where
  all_here : IsReading ps values None (read_records above params d 1 ps)
  all_here = subst (λ (k : ℕ). IsReading (drop k ps) values None (reading above params d ps k)) none h

  abbrev es : Pairs
  es = paired ps (reverse values)

  records : AreRecords params d 1 ps es
  records = read_records-AreRecords above params d ok ps 1 es all_here.1

  pub as_long : length values ≡ length ps
  as_long = all_here.0

  pub each_made : AllByRecursion IsMadeEntry es
  each_made = made_entries params d ps 1 es records are.each

  pub within_limits : 80 * length params ≤ FILE_LIMIT → (file : Contents) → file.entries ≡ es → FitsLimits file
  within_limits few file e =
      let n : length file.entries ≡ length es = ap length e in
      let v : value_count file.entries ≡ value_count es = ap value_count e in
      record {
        entries = omega (arith, n, records_long params d ps 1 es records, are.few);
        values = omega (arith, v, few, records_few params d ps 1 es records, all_owned-few 1 (length ps) params);
      }
