-- The file that is made is read, and making it again changes nothing.
use Rattle.std.proofs.Common.{◌≡◌, ℕ, true, List, [], ◌∷◌, ◌++◌, map, Ok, refl, sym, ap, ◌∙◌, arith}
use Rattle.std.specs.Prelude.{flat_map}
use Rattle.std.specs.List.{AllByRecursion, list_all}
use Rattle.std.proofs.lemmas.Bool.{and_from}
use Rattle.iges_base.specs.Ended.{ended}
use Rattle.iges_base.specs.InLine.{is_in_line}
use Rattle.iges_lines.specs.Lines.{SectionLines, lines}
use Rattle.iges_lines.specs.LineFaults.{IsLineFault}
use Rattle.iges_lines.specs.Sectioned.{AreSectioned}
use Rattle.iges_lines.specs.declared.fault.LineFault.{LineFault}
use Rattle.iges_base.proofs.Answers.{clash}
use Rattle.iges_lines.proofs.Exact.{IsSectioned-read_sections, IsLineFault-read_sections}
use Rattle.iges_write.proofs.Columns.{IsLine, lines-text}
use Rattle.line_layout.specs.declared.change.Change.{Change}
use Rattle.line_layout.specs.Changes.{changed_from, changed_lines, cuts}
use Rattle.line_layout.specs.Counts.{no_lines}
use Rattle.line_layout.specs.Relaid.{pieces, end_byte, laid, relaid}
use Rattle.line_layout.specs.Strays.{strays_from}
use Rattle.line_layout.proofs.Looping.{none_few}
use Rattle.layout_laws.specs.Kept.{content_of, IsMadeOf}
use Rattle.layout_laws.proofs.Making.{Made, made}
use Rattle.layout_laws.proofs.PieceBytes.{pieces_in_line, pieces_text, text_has_end}
use Rattle.layout_laws.proofs.Steps.{Lines, Begun, laid_if, relaid_if}

abbrev nothing : SectionLines
nothing = record { start = []; global = []; directory = []; param = [] }

nothing_begun : Begun nothing
nothing_begun = record {
  start = tt;
  global = tt;
  directory = tt;
  param = tt;
  before_global = λ h. absurd (omega (arith, h));
  before_param = λ h. absurd (omega (arith, h));
  few = none_few;
}

in_line_all : (ls : Lines) → AllByRecursion IsLine ls → list_all is_in_line ls ≡ true
in_line_all [] h = refl
in_line_all (l ∷ ls) h = and_from (is_in_line l) (list_all is_in_line ls) h.0.no_end (in_line_all ls h.1)

abbrev pieces_of : List ℕ → Lines
pieces_of bytes = pieces (end_byte bytes) bytes

module _ (bytes out : List ℕ) (e : relaid bytes ≡ Ok out) where
  made_all : Made nothing (pieces_of bytes) out
  made_all = made (pieces_of bytes) 1 nothing out nothing_begun (pieces_in_line bytes) (laid_if bytes out e)

  sectioned : AreSectioned (lines out) made_all.sections
  sectioned =
      let m = made_all in
      record {
        last = m.last;
        after = [];
        whole = ap lines m.text_is ∙ lines-text (m.rows ++ m.last ∷ []) m.are_lines ∙ ap (λ (x : Lines). x ++ m.last ∷ []) (sym m.join);
        some_start = m.begun.before_global m.some_global;
        some_global = m.some_global;
        start = m.begun.start;
        global = m.begun.global;
        directory = m.begun.directory;
        param = m.begun.param;
        terminate = m.terminate;
        blank = refl;
      }

  pub is_made_of : IsMadeOf bytes out
  is_made_of = let m = made_all in record { sections = m.sections; is_read = sectioned; contents = ap (λ (ls : Lines). map content_of ls) m.join ∙ m.contents }

  pub passes_lines : (fault : LineFault) → ¬ IsLineFault out fault
  passes_lines fault h = clash fault made_all.sections (sym (IsLineFault-read_sections out fault h) ∙ IsSectioned-read_sections out made_all.sections sectioned)

  has_end : (ls : Lines) (last : List ℕ) → end_byte (flat_map ended (ls ++ last ∷ [])) ≡ 10
  has_end [] last = text_has_end last []
  has_end (l ∷ ls) last = text_has_end l (ls ++ last ∷ [])

  rows_again : (rows : Lines) (last : List ℕ) → out ≡ flat_map ended (rows ++ last ∷ []) → list_all is_in_line (rows ++ last ∷ []) ≡ true
      → pieces_of out ≡ rows ++ last ∷ []
  rows_again rows last is h =
      ap (λ (b : ℕ). pieces b out) (ap end_byte is ∙ has_end rows last) ∙ ap (pieces 10) is ∙ pieces_text (rows ++ last ∷ []) h

  pub same_again : relaid out ≡ Ok out
  same_again =
      let m = made_all in
      let again = rows_again m.rows m.last m.text_is (in_line_all (m.rows ++ m.last ∷ []) m.are_lines) in
      relaid_if out out (ap (λ (ps : Lines). strays_from ps 1 no_lines) again ∙ m.placed 1) (ap (λ (ps : Lines). laid ps 1 no_lines) again ∙ m.again 1)

  none_changed : (k : Change) → changed_lines k out ≡ []
  unfolding changed_lines
  none_changed k =
      let m = made_all in
      ap (λ (b : ℕ). changed_from k (cuts b out) 1 no_lines) (ap end_byte m.text_is ∙ has_end m.rows m.last)
      ∙ ap (λ (text : List ℕ). changed_from k (cuts 10 text) 1 no_lines) m.text_is
      ∙ m.unchanged k 1

pub stays_unchanged : (bytes out : List ℕ) → relaid bytes ≡ Ok out → out ≡ bytes → (k : Change) → changed_lines k bytes ≡ []
stays_unchanged bytes out e is k = ap (changed_lines k) (sym is) ∙ none_changed bytes out e k
