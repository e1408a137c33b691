-- The file that is made of one that is read has the same sections.
use Rattle.std.proofs.Common.{◌≡◌, ℕ, ◌+◌, ◌≤◌, true, false, not, List, [], ◌∷◌, ◌++◌, length, map, Ok, refl, sym, ap, subst, ◌∙◌}
use Rattle.std.specs.Prelude.{◌==◌, flat_map}
use Rattle.std.specs.List.{AllByRecursion, list_all}
use Rattle.std.specs.Str.Lines.{strip_carriage_return}
use Rattle.std.proofs.lemmas.Bool.{and_parts, and_from}
use Rattle.iges_base.specs.declared.TheConstants.{FILE_LIMIT}
use Rattle.iges_base.specs.Ended.{ended}
use Rattle.iges_base.specs.InLine.{is_in_line}
use Rattle.iges_base.proofs.Lists.{all_append, list_all-parts}
use Rattle.iges_lines.specs.Lines.{SectionLines, joined, lines}
use Rattle.iges_lines.specs.Lines as read
use Rattle.iges_lines.specs.Sectioned.{IsNumbered, AreSectioned, IsSectioned, AreSections}
use Rattle.iges_lines.proofs.Kept.{sections_kept}
use Rattle.iges_write.proofs.Columns.{IsLine, lines-text}
use Rattle.line_layout.specs.declared.letters.Section.{Section}
use Rattle.line_layout.specs.declared.letters.Section.TheVariants.{Start, Global, Directory, Param, Terminate}
use Rattle.line_layout.specs.Counts.{no_lines}
use Rattle.line_layout.specs.Letters.{letter_of, is_last}
use Rattle.line_layout.specs.Relaid.{relaid}
use Rattle.layout_laws.specs.Counted.{counts_of}
use Rattle.layout_laws.proofs.GoodFile.{numbered_row, strip_tail, with_count, number_is_next, same_pieces, same_file}
use Rattle.layout_laws.proofs.PieceBytes.{pieces_all, either_way}
use Rattle.layout_laws.proofs.Rows.{terminate_holds}
use Rattle.layout_laws.proofs.Steps.{Lines, Numbered, row_line}

numbered_lines : (s : Section) → is_last s ≡ false → (m : ℕ) (ls : Lines) → Numbered (letter_of s) (m + 1) ls → list_all is_in_line ls ≡ true
    → AllByRecursion IsLine ls
numbered_lines s other m [] h k = tt
numbered_lines s other m (l ∷ ls) h k =
    let p = and_parts (is_in_line l) (list_all is_in_line ls) k in
    let c = with_count no_lines s m in
    let w = numbered_row c s l (subst (λ (n : ℕ). IsNumbered (letter_of s) n l) (sym (number_is_next no_lines m s other)) h.0)
    (λ e. let no : false ≡ true = sym other ∙ ap is_last e in absurd cc) in
    (row_line c s l w p.0, numbered_lines s other (m + 1) ls h.1 p.1)

strip_in_line : (ps : Lines) → list_all is_in_line ps ≡ true → list_all is_in_line (map strip_carriage_return ps) ≡ true
strip_in_line [] h = refl
strip_in_line (p ∷ ps) h =
    let k = and_parts (is_in_line p) (list_all is_in_line ps) h in
    let tail = strip_tail p in
    let front : is_in_line (strip_carriage_return p) ≡ true = (list_all-parts (λ b. not (b == 10)) (strip_carriage_return p) tail.0 (ap is_in_line (sym tail.1)
    ∙ k.0)).0 in
    and_from (is_in_line (strip_carriage_return p)) (list_all is_in_line (map strip_carriage_return ps)) front (strip_in_line ps k.1)

lines_in_line : (bytes : List ℕ) → list_all is_in_line (lines bytes) ≡ true
lines_in_line bytes = strip_in_line (read.pieces bytes) (ap (list_all is_in_line) (sym (same_pieces bytes))
    ∙ pieces_all (λ b. not (b == 10)) 10 bytes (either_way bytes))

module _ (bytes : List ℕ) (s : SectionLines) (within : length bytes ≤ FILE_LIMIT) (h : IsSectioned bytes s) where
  kept : AreSections s
  kept = sections_kept bytes s within h

  last_in_line : is_in_line h.last ≡ true
  last_in_line =
      let all = list_all-parts is_in_line (joined s) (h.last ∷ h.after) (ap (list_all is_in_line) (sym h.whole) ∙ lines_in_line bytes) in
      (and_parts (is_in_line h.last) (list_all is_in_line h.after) all.1).0

  are_lines : AllByRecursion IsLine (joined s ++ h.last ∷ [])
  are_lines =
      let d = list_all-parts is_in_line (s.start ++ s.global ++ s.directory) s.param kept.in_line in
      let c = list_all-parts is_in_line (s.start ++ s.global) s.directory d.0 in
      let b = list_all-parts is_in_line s.start s.global c.0 in
      let last = row_line (counts_of s) Terminate h.last
      (numbered_row (counts_of s) Terminate h.last h.terminate.numbered (λ e. terminate_holds s h.last h.terminate)) last_in_line in
      all_append IsLine (joined s) (h.last ∷ [])
      (all_append IsLine (s.start ++ s.global ++ s.directory) s.param
      (all_append IsLine (s.start ++ s.global) s.directory
      (all_append IsLine s.start s.global (numbered_lines Start refl 0 s.start h.start b.0) (numbered_lines Global refl 0 s.global h.global b.1))
      (numbered_lines Directory refl 0 s.directory h.directory c.1)) (numbered_lines Param refl 0 s.param h.param d.1))
      (last, tt)

  same_sections : AreSectioned (lines (flat_map ended (joined s ++ h.last ∷ []))) s
  same_sections = record {
    last = h.last;
    after = [];
    whole = lines-text (joined s ++ h.last ∷ []) are_lines;
    some_start = h.some_start;
    some_global = h.some_global;
    start = h.start;
    global = h.global;
    directory = h.directory;
    param = h.param;
    terminate = h.terminate;
    blank = refl;
  }

  pub kept_sections : (out : List ℕ) × (relaid bytes ≡ Ok out) × IsSectioned out s
  kept_sections = (flat_map ended (joined s ++ h.last ∷ []), same_file bytes s within h, same_sections)

  pub same_bytes : bytes ≡ flat_map ended (joined s ++ h.last ∷ []) → relaid bytes ≡ Ok bytes
  same_bytes is = same_file bytes s within h ∙ ap (λ (x : List ℕ). Ok x) (sym is)
