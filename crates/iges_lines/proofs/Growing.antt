-- Sections that grew, and that are cut back.
use Rattle.std.proofs.Common.{◌≡◌, ℕ, Bool, true, false, List, [], ◌∷◌, ◌++◌, length, take, refl, sym, ap, ◌∙◌, append_assoc}
use Rattle.std.proofs.lemmas.List.{append-nil, take_at}
use Rattle.iges_lines.specs.declared.kind.Kind.{Kind}
use Rattle.iges_lines.specs.declared.kind.Kind.TheVariants as kind
use Rattle.iges_lines.specs.declared.section_table.LineCounts.{LineCounts}
use Rattle.iges_lines.specs.declared.taken_lines.Mark.{Mark}
use Rattle.iges_lines.specs.Extending.{with_lines, Extends, counts_of, mark_of}
use Rattle.iges_lines.specs.Feeding.{Taken}
use Rattle.iges_lines.specs.Judged.{IsAdded}
use Rattle.iges_lines.specs.Kinds.{added}
use Rattle.iges_lines.specs.Lines.{SectionLines}
use Rattle.iges_lines.proofs.Walk.{record_of, all_four}

abbrev Lines : Type 0
Lines = List (List ℕ)

nil : (ls : Lines) → ls ≡ ls ++ []
nil ls = sym (append-nil ls)

pub extends_same : (s new : SectionLines) → new ≡ s → Extends s new
extends_same s new is = (record_of [] [] [] [], is ∙ all_four (nil s.start) (nil s.global) (nil s.directory) (nil s.param))

pub extends_more : (s mid new : SectionLines) → Extends s mid → Extends mid new → Extends s new
extends_more s mid new h k =
    let m = h.0 in
    let n = k.0 in (
      with_lines m n,
      k.1 ∙ ap (λ (x : SectionLines). with_lines x n) h.1
          ∙ all_four (append_assoc s.start m.start n.start) (append_assoc s.global m.global n.global) (append_assoc s.directory m.directory n.directory)
          (append_assoc s.param m.param n.param),
    )

by_kind : (k : Kind) (s : SectionLines) (line : List ℕ) → Extends s (added s k line)
by_kind kind.Start s line = (record_of (line ∷ []) [] [] [], all_four refl (nil s.global) (nil s.directory) (nil s.param))
by_kind kind.Global s line = (record_of [] (line ∷ []) [] [], all_four (nil s.start) refl (nil s.directory) (nil s.param))
by_kind kind.Directory s line = (record_of [] [] (line ∷ []) [], all_four (nil s.start) (nil s.global) refl (nil s.param))
by_kind kind.Param s line = (record_of [] [] [] (line ∷ []), all_four (nil s.start) (nil s.global) (nil s.directory) refl)
by_kind kind.Terminate s line = extends_same s s refl
by_kind kind.Other s line = extends_same s s refl

pub extends_added : (s new : SectionLines) (t now : Bool) (line : List ℕ) → IsAdded s t line new now → Extends s new
extends_added s new true now line h = extends_same s new h.0
extends_added s new false now line h = extends_more s (added s h.0 line) new (by_kind h.0 s line) (extends_same (added s h.0 line) new h.2)

abbrev cut_to : LineCounts → SectionLines → SectionLines
cut_to c s = record { start = take c.start s.start; global = take c.global s.global; directory = take c.directory s.directory; param = take c.param s.param }

front : (ls more : Lines) → take (length ls) (ls ++ more) ≡ ls
front ls more = take_at ls more (length ls) refl

pub cut_back : (s new : SectionLines) → Extends s new → cut_to (counts_of s) new ≡ s
cut_back s new h =
    let m = h.0 in
    ap (cut_to (counts_of s)) h.1 ∙ all_four (front s.start m.start) (front s.global m.global) (front s.directory m.directory) (front s.param m.param)

pub gone_back : (t : Taken) (m : Mark) (old : SectionLines) → m ≡ mark_of t → Extends t.sections old
    → record { sections = cut_to m.counts old; terminated = m.terminated; number = m.number; fault = m.fault } ≡ t
gone_back t m old is h =
    ap (λ (x : Mark). record { sections = cut_to x.counts old; terminated = x.terminated; number = x.number; fault = x.fault }) is
    ∙ ap (λ (s : SectionLines). record t { sections = s }) (cut_back t.sections old h)
