-- Sections are read as they are defined, and so is the first fault.
use Rattle.std.proofs.Common.{◌≡◌, inl, inr, ℕ, ◌+◌, ◌≤◌, List, length, Option, Some, None, Ok, Err, refl, sym, ap, subst, ◌∙◌, arith}
use Rattle.std.proofs.lemmas.Bool.{cases_lt}
use Rattle.iges_base.proofs.Answers.{ok_is, err_is, clash}
use Rattle.iges_lines.specs.declared.reason.Reason.{Reason}
use Rattle.iges_lines.specs.declared.fault.LineFault.{LineFault}
use Rattle.iges_lines.specs.Lines.{SectionLines, lines}
use Rattle.iges_lines.specs.Sectioned.{AreSectioned, IsSectioned}
use Rattle.iges_lines.specs.LineFaults.{sections_of, line_fault, IsLineFault}
use Rattle.iges_lines.specs.Reading.{first_from, sections_unless, read_sections}
use Rattle.iges_lines.proofs.First.{first_from-none, first_from-some, first_from-faultless, first_from-at}
use Rattle.iges_lines.proofs.Walk.{faultless_sectioned, sectioned_faultless, fault_of_end, sections_of-AreSectioned}

module _ (bytes : List ℕ) where
  abbrev ls : List (List ℕ)
  ls = lines bytes

  abbrev found : Option (ℕ × Reason)
  found = first_from (line_fault (lines bytes)) (length (lines bytes) + 1) 0

  by_found_ok : (o : Option (ℕ × Reason)) → found ≡ o → (s : SectionLines) → sections_unless ls o ≡ Ok s → IsSectioned bytes s
  by_found_ok None e s h =
      let all = faultless_sectioned ls (λ j le. first_from-none (line_fault ls) (length ls + 1) 0 e j (omega arith) (omega arith)) in
      subst (λ (t : SectionLines). AreSectioned ls t) (ok_is (sections_of ls) s h) all
  by_found_ok (Some x) e s h = absurd (clash (record { line = x.0 + 1; reason = x.1 }) s h)

  pub read_sections-IsSectioned : (s : SectionLines) → read_sections bytes ≡ Ok s → IsSectioned bytes s
  unfolding read_sections
  read_sections-IsSectioned s e = by_found_ok found refl s e

  pub IsSectioned-read_sections : (s : SectionLines) → IsSectioned bytes s → read_sections bytes ≡ Ok s
  unfolding read_sections
  IsSectioned-read_sections s h =
      ap (sections_unless ls) (first_from-faultless (line_fault ls) (length ls + 1) 0 (λ j low high. sectioned_faultless ls s h j))
      ∙ ap (λ (t : SectionLines). Ok t) (sections_of-AreSectioned ls s h)

  by_found_err : (o : Option (ℕ × Reason)) → found ≡ o → (f : LineFault) → sections_unless ls o ≡ Err f → IsLineFault bytes f
  by_found_err None e f h = absurd (clash f (sections_of ls) (sym h))
  by_found_err (Some x) e f h =
      let t = first_from-some (line_fault ls) (length ls + 1) 0 x e in
      subst (IsLineFault bytes) (err_is (record { line = x.0 + 1; reason = x.1 }) f h)
      (x.0, refl, record { here = t.1; before = λ i lt. t.2 i (omega arith) lt })

  pub read_sections-IsLineFault : (f : LineFault) → read_sections bytes ≡ Err f → IsLineFault bytes f
  unfolding read_sections
  read_sections-IsLineFault f e = by_found_err found refl f e

  pub IsLineFault-read_sections : (f : LineFault) → IsLineFault bytes f → read_sections bytes ≡ Err f
  unfolding read_sections
  IsLineFault-read_sections f h =
      let first = h.2 in
      let within : h.0 ≤ length ls = elim (cases_lt (length ls) h.0) [
        | inl lt ↦ let no : Some f.reason ≡ None = sym first.here ∙ fault_of_end ls h.0 (omega arith) ∙ first.before (length ls) lt in absurd cc
        | inr le ↦ le
      ] in
      ap (sections_unless ls) (first_from-at (line_fault ls) (length ls + 1) 0 h.0 f.reason (omega arith) (omega arith) first.here
      (λ j low lt. first.before j lt))
      ∙ ap (λ (n : ℕ). Err (record { line = n; reason = f.reason })) (sym h.1)
