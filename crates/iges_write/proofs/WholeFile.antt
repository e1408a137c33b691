-- The sections of a file one after the other are its text.
use Rattle.std.proofs.Common.{◌≡◌, ℕ, ◌-◌, ◌<◌, ◌≤◌, List, [], ◌∷◌, ◌++◌, length, refl, sym, ap, subst, ◌∙◌, arith, length-append, Result, Ok, Err}
use Rattle.std.specs.Prelude.{IfErr, IfOk, OnOk}
use Rattle.std.specs.Result.{IsErrAnd}
use Rattle.std.proofs.lemmas.Result.{err_from_is_err_and}
use Rattle.iges_base.specs.declared.TheConstants.{FILE_LIMIT}
use Rattle.iges_params.specs.IsFile.{IsFile}
use Rattle.iges_write.specs.Writable.{IsWritable}
use Rattle.iges_params.specs.Contents.{Contents}
use Rattle.iges_write.specs.declared.counts.Counts.{Counts}
use Rattle.iges_write.specs.declared.fault.WriteFileFault.{WriteFileFault}
use Rattle.iges_write.specs.declared.fault.WriteFileFault.TheVariants as fault
use Rattle.iges_write.specs.FileSheet.{blank, with_front, with_directory, params_sheet, with_records, with_counts, file_sheet, ArePages, Writes}
use Rattle.iges_write.specs.Gives.{Gives}
use Rattle.iges_write.specs.Filling.{global_lines, records_lines, text_of}
use Rattle.iges_write.specs.Sheet.{Sheet, Fails, FailsBoth, append_text, page_lines}
use Rattle.iges_write.specs.Text.{counts_columns, directory_lines, param_lines, IsText}
use Rattle.iges_write.proofs.FileBack.{reads_back, IsText-text_of, text_of-IsText}
use Rattle.iges_write.proofs.Pages.{text_pages}

-- what holds of the fault that a call passes on
pub passed_on : {A : Type 0} (o : Result A WriteFileFault) (fault : WriteFileFault) (P : WriteFileFault → Type 0) → P fault → IsErrAnd o (λ y. y ≡ fault)
    → IfErr o P
passed_on {A} o fault P h e =
    let p = err_from_is_err_and o e in
    subst (λ (x : Result A WriteFileFault). IfErr x P) (sym p.1) (subst P (sym p.2) h)

-- what is too large stays it, as the text grows
fails_further : (fault : WriteFileFault) (s t : Sheet) → t.limit ≡ s.limit → length s.text ≤ length t.text → Fails fault s → Fails fault t
fails_further fault.TooLarge s t limit long h = omega (arith, limit, long, h)
fails_further fault.NoMemory s t limit long h = tt

same_columns : (a b c d s g e p : ℕ) → a ≡ s → b ≡ g → c ≡ e → d ≡ p → counts_columns a b c d ≡ counts_columns s g e p
same_columns a b c d s g e p h i j k = cc

module _ (limit : ℕ) (f : Contents) where
  abbrev directory : List (List ℕ)
  directory = directory_lines 1 f.entries (records_lines f)

  abbrev params : List (List ℕ)
  params = param_lines (records_lines f)

  abbrev front : Sheet
  front = with_front (blank limit 83 72) f

  abbrev records : Sheet
  records = with_records front f

  -- the last line
  abbrev last : List (List ℕ)
  last = counts_columns (length f.start) (length (global_lines f.global)) (length directory) (length params) ∷ []

  abbrev finished : List ℕ → Sheet
  finished text = record { text = text; line = []; tail = []; letter = 84; number = 2; width = 72; limit = limit }

  text_is : records.text ++ page_lines [] 84 1 last ≡ text_of f
  text_is = sym (text_pages f (global_lines f.global) (records_lines f))

  records_short : length records.text ≤ length (text_of f)
  records_short = omega (arith, ap length text_is, length-append records.text (page_lines [] 84 1 last))

  front_short : length front.text ≤ length records.text
  front_short = omega (
    arith,
    length-append (with_directory front f).text (params_sheet front.limit f).text,
    length-append front.text
        (page_lines [] 68 1 directory),
  )

  pub front_fails : (fault : WriteFileFault) (start : Sheet) → start ≡ blank limit 83 72 → Fails fault (with_front start f) → Fails fault (file_sheet limit f)
  front_fails fault start is h =
      fails_further fault front (file_sheet limit f) refl (omega (arith, front_short, records_short)) (subst (λ (s : Sheet). Fails fault (with_front s f)) is h)

  -- the directory and the records are on two pages
  module _ (start s : Sheet) (start_is : start ≡ blank limit 83 72) (s_is : s ≡ with_front start f) where
    both_is : s ≡ front
    both_is = s_is ∙ ap (λ (x : Sheet). with_front x f) start_is

    joined_fails : (fault : WriteFileFault) → FailsBoth fault (with_directory front f) (params_sheet limit f) → Fails fault records
    joined_fails fault.TooLarge h = omega (arith, h, length-append (with_directory front f).text (params_sheet limit f).text)
    joined_fails fault.NoMemory h = tt

    pub records_fail : (fault : WriteFileFault) → FailsBoth fault (with_directory s f) (params_sheet s.limit f) → Fails fault (file_sheet limit f)
    records_fail fault h =
        fails_further fault records (file_sheet limit f) refl records_short
        (joined_fails fault (subst (λ (x : Sheet). FailsBoth fault (with_directory x f) (params_sheet x.limit f)) both_is h))

    pub pages_done : (t u : Sheet) (counts : Counts) → t ≡ with_directory s f → u ≡ params_sheet s.limit f
        → counts.start ≡ length f.start → counts.global ≡ s.number - 1 → counts.directory ≡ t.number - 1 → counts.params ≡ u.number - 1
        → ArePages limit f t u counts
    pages_done t u counts t_is u_is start_count global_count directory_count params_count =
        let t_whole : t ≡ with_directory front f = t_is ∙ ap (λ (x : Sheet). with_directory x f) both_is in
        let u_whole : u ≡ params_sheet limit f = u_is ∙ ap (λ (x : Sheet). params_sheet x.limit f) both_is in
        record {
          front_is = t_whole;
          behind_is = u_whole;
          start = start_count;
          global = omega (arith, global_count, ap (λ (x : Sheet). x.number) both_is);
          directory = omega (arith, directory_count, ap (λ (x : Sheet). x.number) t_whole);
          params = omega (arith, params_count, ap (λ (x : Sheet). x.number) u_whole);
        }

  pub pages_joined : (t u : Sheet) (counts : Counts) → ArePages limit f t u counts → with_counts (append_text t u.text) counts ≡ file_sheet limit f
  pages_joined t u counts h =
      let put : with_counts (append_text t u.text) counts ≡ with_counts records counts =
      ap (λ (x : Sheet). with_counts (append_text x u.text) counts) h.front_is
      ∙ ap (λ (x : Sheet). with_counts (append_text (with_directory front f) x.text) counts) h.behind_is in
      let counted : finished (records.text ++ page_lines [] 84 1 (counts_columns counts.start counts.global counts.directory counts.params ∷ []))
      ≡ finished (records.text ++ page_lines [] 84 1 last) =
      ap (λ (columns : List ℕ). finished (records.text ++ page_lines [] 84 1 (columns ∷ [])))
      (same_columns counts.start counts.global counts.directory counts.params _ _ _ _ h.start h.global h.directory h.params) in
      put ∙ counted ∙ ap finished text_is

  pub writes_failed : (o : Result (List ℕ) WriteFileFault) (e : WriteFileFault) → Fails e (file_sheet limit f) → IsErrAnd o (λ y. y ≡ e)
      → Writes limit o (text_of f)
  writes_failed o e h is =
      let p = err_from_is_err_and o is in
      subst (λ (x : Result (List ℕ) WriteFileFault). Writes limit x (text_of f)) (sym p.1)
      (by_fault p.0 (subst (λ (x : WriteFileFault). Fails x (file_sheet limit f)) (sym p.2) h))
    where
      by_fault : (x : WriteFileFault) → Fails x (file_sheet limit f) → Writes limit (Err x) (text_of f)
      by_fault fault.TooLarge k = k
      by_fault fault.NoMemory k = tt

-- the last line, behind the records
pub end_fails : (fault : WriteFileFault) (s : Sheet) (counts : Counts) → Fails fault s → Fails fault (with_counts s counts)
end_fails fault s counts h =
    fails_further fault s (with_counts s counts) refl
    (omega (arith, length-append s.text (page_lines [] 84 1 (counts_columns counts.start counts.global counts.directory counts.params ∷ [])))) h

-- ---- what a file's text within a limit is, by its definition

module _ (limit : ℕ) (f : Contents) where
  abbrev Answer : Type 0
  Answer = Result (List ℕ) WriteFileFault

  pub found_text : (r : Answer) → Writes limit r (text_of f) → IfOk r (IsText f)
  found_text (Ok bytes) h = subst (IsText f) (sym h.0) (text_of-IsText f)
  found_text (Err fault) h = tt

  pub only_text : (r : Answer) → Writes limit r (text_of f) → (bytes : List ℕ) → IsText f bytes → length bytes ≤ limit → Gives r (Ok bytes)
  only_text (Ok got) h bytes t le = ap (λ (x : List ℕ). Ok x) (h.0 ∙ sym (IsText-text_of f bytes t))
  only_text (Err fault.TooLarge) h bytes t le = absurd (let e = ap length (IsText-text_of f bytes t) in omega (arith, h, e, le))
  only_text (Err fault.NoMemory) h bytes t le = tt

  pub large_text : (r : Answer) → Writes limit r (text_of f) → r ≡ Err fault.TooLarge → (bytes : List ℕ) → IsText f bytes → limit < length bytes
  large_text r h e bytes t =
      let large : limit < length (text_of f) = subst (λ (x : Answer). Writes limit x (text_of f)) e h in
      omega (arith, large, ap length (IsText-text_of f bytes t))

  pub only_large_text : (r : Answer) → Writes limit r (text_of f) → (bytes : List ℕ) → IsText f bytes → limit < length bytes → Gives r (Err fault.TooLarge)
  only_large_text (Ok got) h bytes t lt = absurd (let e = ap length (IsText-text_of f bytes t) in omega (arith, h.1, e, lt))
  only_large_text (Err fault.TooLarge) h bytes t lt = refl
  only_large_text (Err fault.NoMemory) h bytes t lt = tt

  pub text_back : limit ≤ FILE_LIMIT → (r : Answer) → Writes limit r (text_of f) → OnOk r (IsWritable f) → IfOk r (λ bytes. IsFile bytes f)
  text_back most (Ok bytes) h w =
      let long : length bytes ≤ limit = omega (arith, h.1, ap length h.0) in
      reads_back f bytes w (subst (IsText f) (sym h.0) (text_of-IsText f)) (omega (arith, long, most))
  text_back most (Err fault) h w = tt
