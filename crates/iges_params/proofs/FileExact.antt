-- A file is read as it is defined, and so is its refusal: every text has one reading.
use Rattle.std.proofs.Common.{true, ◌≡◌, inl, inr, ℕ, ◌+◌, List, length, map, Ok, Err, refl, sym, ap, subst, ◌∙◌}
use Rattle.iges_fields.specs.declared.value.Value.{Value}
use Rattle.iges_fields.specs.Delims.{are_permitted}
use Rattle.iges_fields.specs.Reading.{◌>>=◌}
use Rattle.iges_lines.specs.declared.fault.LineFault.{LineFault}
use Rattle.iges_lines.specs.Lines.{SectionLines, columns}
use Rattle.iges_lines.specs.Reading.{read_sections}
use Rattle.iges_lines.proofs.Exact.{read_sections-IsSectioned, IsSectioned-read_sections, read_sections-IsLineFault, IsLineFault-read_sections}
use Rattle.iges_directory.specs.declared.entry.Entry.{Entry}
use Rattle.iges_directory.specs.declared.entry.Placed.{Placed}
use Rattle.iges_directory.specs.Reading.{read_directory}
use Rattle.iges_directory.proofs.Exact.{read_directory-AreEntries, AreEntries-read_directory, read_directory-IsDirectoryFault, IsDirectoryFault-read_directory}
use Rattle.iges_params.specs.declared.global.Global26.{Global26}
use Rattle.iges_params.specs.Contents.{Contents}
use Rattle.iges_params.specs.Global.{global_text, GlobalText}
use Rattle.iges_params.specs.IsFile.{IsFile}
use Rattle.iges_params.specs.Refusal.{Refusal, in_lines, in_global, in_directory, in_records, HasOneReading}
use Rattle.iges_params.specs.Reading.{read_global, read_records, read_lines, read_file}
use Rattle.iges_params.proofs.Answers.{Read, done, ok_is, err_is, clash, bind_ok, bind_err}
use Rattle.iges_params.proofs.GlobalExact.{permitted, read_global-GlobalText, GlobalText-read_global, read_global-GlobalFault, GlobalFault-read_global}
use Rattle.iges_params.proofs.RecordsExact.{read_records-AreRecords, AreRecords-read_records, read_records-FirstFaulty, FirstFaulty-read_records}

global_permitted : (s : SectionLines) (g : Global26) → GlobalText (global_text s) g → are_permitted g.delims ≡ true
global_permitted s g t = ap are_permitted t.delims ∙ permitted (global_text s) t.start t.head_is

abbrev pub above : SectionLines → ℕ
above s = length s.start + length s.global + length s.directory

abbrev pub Records : Type 0
Records = List (Entry × List Value)

unfoldable pub made : SectionLines → Global26 → Records → Read Contents
made s g es = Ok (record { start = map (columns 1 72) s.start; global = g; entries = es })

unfoldable pub after_directory : SectionLines → Global26 → List Placed → Read Contents
after_directory s g ps = read_records (above s) s.param g.delims 1 ps >>= made s g

unfoldable pub after_global : SectionLines → Global26 → Read Contents
after_global s g = read_directory s >>= after_directory s g

unfoldable pub after_sections : SectionLines → Read Contents
after_sections s = read_global s >>= after_global s

pub read_file-IsFile : (bytes : List ℕ) (f : Contents) → read_file bytes ≡ Ok f → IsFile bytes f
unfolding read_file read_lines made after_directory after_global after_sections
read_file-IsFile bytes f e =
    let a = bind_ok (read_sections bytes) after_sections f e in
    let b = bind_ok (read_global a.0) (after_global a.0) f a.2 in
    let c = bind_ok (read_directory a.0) (after_directory a.0 b.0) f b.2 in
    let r = bind_ok (read_records (above a.0) a.0.param b.0.delims 1 c.0) (made a.0 b.0) f c.2 in
    let g = read_global-GlobalText a.0 b.0 b.1 in
    subst (IsFile bytes) (ok_is (record { start = map (columns 1 72) a.0.start; global = b.0; entries = r.0 }) f r.2)
    (record {
      sections = a.0;
      placed = c.0;
      sectioned = read_sections-IsSectioned bytes a.0 a.1;
      start = refl;
      global = g;
      directory = read_directory-AreEntries a.0 c.0 c.1;
      records = read_records-AreRecords (above a.0) a.0.param b.0.delims (global_permitted a.0 b.0 g) c.0 1 r.0 r.1;
    })

pub IsFile-read_file : (bytes : List ℕ) (f : Contents) → IsFile bytes f → read_file bytes ≡ Ok f
unfolding read_file read_lines made after_directory after_global after_sections
IsFile-read_file bytes f h =
    let s = h.sections in
    ap (λ (r : Read SectionLines). r >>= after_sections) (IsSectioned-read_sections bytes s h.sectioned)
    ∙ ap (λ (r : Read Global26). r >>= after_global s) (GlobalText-read_global s f.global h.global)
    ∙ ap (λ (r : Read (List Placed)). r >>= after_directory s f.global) (AreEntries-read_directory s h.placed h.directory)
    ∙ ap (λ (r : Read Records). r >>= made s f.global) (AreRecords-read_records (above s) s.param f.global.delims
    (global_permitted s f.global h.global) h.placed 1 f.entries h.records)
    ∙ ap (λ (x : List (List ℕ)). done {X = Contents} (record { start = x; global = f.global; entries = f.entries })) (sym h.start)

pub read_file-Refusal : (bytes : List ℕ) (f : LineFault) → read_file bytes ≡ Err f → Refusal bytes f
unfolding read_file read_lines made after_directory after_global after_sections
read_file-Refusal bytes f e =
    elim (bind_err (read_sections bytes) after_sections f e) [
      | inl a ↦ in_lines (read_sections-IsLineFault bytes f a)
      | inr a ↦
          let sectioned = read_sections-IsSectioned bytes a.0 a.1 in
          elim (bind_err (read_global a.0) (after_global a.0) f a.2) [
            | inl b ↦ in_global a.0 sectioned (read_global-GlobalFault a.0 f b)
            | inr b ↦
                let g = read_global-GlobalText a.0 b.0 b.1 in
                elim (bind_err (read_directory a.0) (after_directory a.0 b.0) f b.2) [
                  | inl c ↦ in_directory a.0 b.0 sectioned g (read_directory-IsDirectoryFault a.0 f c)
                  | inr c ↦
                      let entries = read_directory-AreEntries a.0 c.0 c.1 in
                      elim (bind_err (read_records (above a.0) a.0.param b.0.delims 1 c.0) (made a.0 b.0) f c.2) [
                        | inl r ↦
                            let t = read_records-FirstFaulty (above a.0) a.0.param b.0.delims (global_permitted a.0 b.0 g) c.0 1 f r in
                            in_records a.0 b.0 c.0 sectioned g entries
                            (record {
                              place = t.place;
                              entry = t.entry;
                              entry_is = t.entry_is;
                              has_type = t.has_type;
                              line = t.line;
                              here =
                                  t.here;
                              line_is = t.line_is;
                              before = t.before;
                            })
                        | inr r ↦ absurd (clash f (record { start = map (columns 1 72) a.0.start; global = b.0; entries = r.0 }) (sym r.2))
                      ]
                ]
          ]
    ]

pub Refusal-read_file : (bytes : List ℕ) (f : LineFault) → Refusal bytes f → read_file bytes ≡ Err f
unfolding read_file read_lines made after_directory after_global after_sections
Refusal-read_file bytes f (in_lines h) = ap (λ (r : Read SectionLines). r >>= after_sections) (IsLineFault-read_sections bytes f h)
Refusal-read_file bytes f (in_global s a h) =
    ap (λ (r : Read SectionLines). r >>= after_sections) (IsSectioned-read_sections bytes s a) ∙ ap (λ (r : Read Global26). r >>= after_global s)
    (GlobalFault-read_global s f h)
Refusal-read_file bytes f (in_directory s g a b h) =
    ap (λ (r : Read SectionLines). r >>= after_sections) (IsSectioned-read_sections bytes s a) ∙ ap (λ (r : Read Global26). r >>= after_global s)
    (GlobalText-read_global s g b)
    ∙ ap (λ (r : Read (List Placed)). r >>= after_directory s g) (IsDirectoryFault-read_directory s f h)
Refusal-read_file bytes f (in_records s g ps a b c h) =
    ap (λ (r : Read SectionLines). r >>= after_sections) (IsSectioned-read_sections bytes s a) ∙ ap (λ (r : Read Global26). r >>= after_global s)
    (GlobalText-read_global s g b)
    ∙ ap (λ (r : Read (List Placed)). r >>= after_directory s g) (AreEntries-read_directory s ps c)
    ∙ ap (λ (r : Read Records). r >>= made s g) (FirstFaulty-read_records (above s) s.param g.delims (global_permitted s g b) ps 1 f
    (record {
      place = h.place;
      entry = h.entry;
      entry_is = h.entry_is;
      has_type = h.has_type;
      line = h.line;
      here = h.here;
      line_is = h.line_is;
      before =
          h.before;
    }))

pub one_reading : (bytes : List ℕ) → HasOneReading bytes
one_reading bytes = by_reading (read_file bytes) refl
  where
    by_reading : (r : Read Contents) → read_file bytes ≡ r → HasOneReading bytes
    by_reading (Ok f) e = inl (
      f,
      (read_file-IsFile bytes f e, λ g h. ok_is g f (sym (IsFile-read_file bytes g h) ∙ e)),
      (λ fault h. clash fault f (sym (Refusal-read_file bytes fault h) ∙ e)),
    )
    by_reading (Err fault) e = inr (
      fault,
      (read_file-Refusal bytes fault e, λ g h. err_is {X = Contents} g fault (sym (Refusal-read_file bytes g h) ∙ e)),
      (λ f h. clash fault f (sym e ∙ IsFile-read_file bytes f h)),
    )
