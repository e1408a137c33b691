-- The four passes joined.
use Rattle.std.proofs.Common.{◌≡◌, true, List, [], ℕ, length, map, Result, Ok, Err, sym, ap, subst, ◌∙◌}
use Rattle.std.specs.Prelude.{IfOk}
use Rattle.iges_fields.specs.Reading.{◌>>=◌}
use Rattle.iges_lines.specs.declared.fault.LineFault.{LineFault}
use Rattle.iges_lines.specs.declared.fault.PassFault.{PassFault}
use Rattle.iges_lines.specs.declared.fault.PassFault.TheVariants as faults
use Rattle.iges_lines.specs.Gives.{Fails, Gives, IfBad}
use Rattle.iges_lines.specs.Lines.{SectionLines, columns}
use Rattle.iges_lines.specs.LineFaults.{IsLineFault}
use Rattle.iges_lines.specs.Reading.{read_sections}
use Rattle.iges_lines.specs.Sectioned.{IsSectioned}
use Rattle.iges_lines.proofs.Exact.{IsSectioned-read_sections, IsLineFault-read_sections}
use Rattle.iges_directory.specs.declared.entry.Placed.{Placed}
use Rattle.iges_directory.specs.DirectoryFaults.{IsDirectoryFault}
use Rattle.iges_directory.specs.Entries.{AreEntries}
use Rattle.iges_directory.specs.Reading.{read_directory}
use Rattle.iges_directory.proofs.Exact.{AreEntries-read_directory, IsDirectoryFault-read_directory}
use Rattle.iges_params.specs.declared.global.Global26.{Global26}
use Rattle.iges_fields.specs.declared.value.Value.{Value}
use Rattle.iges_directory.specs.declared.entry.Entry.{Entry}
use Rattle.iges_params.specs.Begun.{IsBegunFile}
use Rattle.iges_params.specs.Contents.{Contents}
use Rattle.iges_params.specs.Global.{have_kinds}
use Rattle.iges_params.specs.IsFile.{IsFile}
use Rattle.iges_params.specs.Refusal.{Refusal}
use Rattle.iges_params.specs.Reading.{read_global, read_entries, read_lines, read_file}
use Rattle.iges_params.proofs.Passes.{fault_passes}
use Rattle.iges_params.proofs.GlobalExact.{read_global-GlobalText}
use Rattle.iges_params.proofs.FileExact.{above, made, after_directory, after_global, read_file-IsFile, read_file-Refusal}

pub kinds_fit : (s : SectionLines) (g : Global26) → read_global s ≡ Ok g → have_kinds g.values ≡ true
kinds_fit s g e = (read_global-GlobalText s g e).kinds_fit

module _ (s : SectionLines) where
  pub global_fails : (e : PassFault) → Fails e (read_global s) → Fails e (read_lines s)
  unfolding read_lines after_global after_directory made
  global_fails e f = fault_passes e (read_global s) (after_global s) f

  module _ (g : Global26) (global : read_global s ≡ Ok g) where
    behind_global : read_lines s ≡ after_global s g
    unfolding read_lines after_global after_directory made
    behind_global = ap (λ (r : Result Global26 LineFault). r >>= after_global s) global

    from_directory : (e : PassFault) → Fails e (read_directory s) → Fails e (read_lines s)
    unfolding after_global
    from_directory e f = subst (Fails e) (sym behind_global) (fault_passes e (read_directory s) (after_directory s g) f)

    pub directory_fails : (e : PassFault) → IfBad {X = List Placed} (Err e) (IsDirectoryFault s) → Fails e (read_lines s)
    directory_fails faults.NoMemory h = tt
    directory_fails (faults.Bad f) h = from_directory (faults.Bad f) (IsDirectoryFault-read_directory s f h)

    pub entries_go_on : (ps : List Placed) → AreEntries (length s.param) s.directory ps → (file : Contents) →
        file ≡ record { start = map (columns 1 72) s.start; global = g; entries = [] }
        → (above_is : ℕ) → above_is ≡ above s → (params : List (List ℕ)) → params ≡ s.param → (r : Result Contents PassFault) →
        Gives r (read_entries above_is params file ps) → Gives r (read_lines s)
    unfolding after_global after_directory made
    entries_go_on ps h file is n n-is params params-is r gives =
        subst (Gives r) (sym (behind_global ∙ ap (λ (x : Result (List Placed) LineFault). x >>= after_directory s g) (AreEntries-read_directory s ps h)))
        (subst (λ (f : Contents). Gives r (read_entries (above s) s.param f ps)) is
        (subst (λ (k : ℕ). Gives r (read_entries k s.param file ps)) n-is
        (subst (λ (ls : List (List ℕ)). Gives r (read_entries n ls file ps)) params-is gives)))

begun_is : (s : SectionLines) (file : Contents) (ps : List Placed) → IsBegunFile s file ps →
    file ≡ record { start = map (columns 1 72) s.start; global = file.global; entries = [] }
begun_is s file ps b =
    ap (λ (x : List (List ℕ)). record file { start = x }) b.start ∙ ap
    (λ (es : List (Entry × List Value)). record { start = map (columns 1 72) s.start; global = file.global; entries = es }) b.entries

-- the records behind what was begun
pub begun_go_on : (s : SectionLines) (file : Contents) (ps : List Placed) → IsBegunFile s file ps → (n : ℕ) → n ≡ above s → (params : List (List ℕ)) →
    params ≡ s.param
    → (r : Result Contents PassFault) → Gives r (read_entries n params file ps) → Gives r (read_lines s)
begun_go_on s file ps b n n-is params params-is r gives = entries_go_on s file.global b.global ps b.directory file
    (begun_is s file ps b) n n-is params params-is r gives

module _ (bytes : List ℕ) where
  from_lines : (e : PassFault) → Fails e (read_sections bytes) → Fails e (read_file bytes)
  unfolding read_file
  from_lines e f = fault_passes e (read_sections bytes) read_lines f

  pub lines_fail : (e : PassFault) → IfBad {X = SectionLines} (Err e) (IsLineFault bytes) → Fails e (read_file bytes)
  lines_fail faults.NoMemory h = tt
  lines_fail (faults.Bad f) h = from_lines (faults.Bad f) (IsLineFault-read_sections bytes f h)

  pub lines_go_on : (s : SectionLines) → IsSectioned bytes s → (r : Result Contents PassFault) → Gives r (read_lines s) → Gives r (read_file bytes)
  unfolding read_file
  lines_go_on s sectioned r gives = subst (Gives r) (sym (ap (λ (x : Result SectionLines LineFault). x >>= read_lines)
      (IsSectioned-read_sections bytes s sectioned))) gives

  pub found_from : (r : Result Contents PassFault) → Gives r (read_file bytes) → IfOk r (IsFile bytes)
  found_from (Ok f) e = read_file-IsFile bytes f e
  found_from (Err e) h = tt

  pub fault_from : (r : Result Contents PassFault) → Gives r (read_file bytes) → IfBad r (Refusal bytes)
  fault_from (Ok f) e = tt
  fault_from (Err (faults.Bad fault)) e = read_file-Refusal bytes fault e
  fault_from (Err faults.NoMemory) e = tt
