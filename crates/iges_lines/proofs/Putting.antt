-- What is known of lines behind one that was put to them.
use Rattle.std.proofs.Common.{◌≡◌, ℕ, ◌+◌, Bool, true, false, List, length, Option, Some, None, refl, sym, ap, subst, ◌∙◌}
use Rattle.std.specs.Prelude.{MatchOption, IfSome, IsFalse}
use Rattle.iges_base.specs.First.{first_failing}
use Rattle.iges_lines.specs.declared.kind.Kind.{Kind}
use Rattle.iges_lines.specs.Feeding.{Taken}
use Rattle.iges_lines.specs.Foretold.{Foretells, IsForetold, IsNextEnding}
use Rattle.iges_lines.specs.Judged.{tests_behind, IsAdded}
use Rattle.iges_lines.specs.Kinds.{IsKind, added, is_last}
use Rattle.iges_lines.specs.Lines.{SectionLines, columns, letter}
use Rattle.iges_lines.specs.LineFaults.{line_tests}
use Rattle.iges_lines.proofs.Foretelling.{foretold}
use Rattle.iges_lines.proofs.Going.{NextTaken, taken_next}

pub due_passes : (t : Taken) (due : Option (List ℕ)) (line : List ℕ) → IsForetold t due →
    MatchOption due ⊥ (λ e. (length line ≡ 80) × (columns 73 80 line ≡ e)) → None ≡ first_failing (line_tests t.sections line)
due_passes t None line h e = absurd e
due_passes t (Some ending) line h e = h.2 line e.0 e.1

pub put_foretold : (t : Taken) (s : SectionLines) (k : Kind) (line : List ℕ) (due : Option (List ℕ)) (now : Bool) (n : ℕ) → t.fault ≡ None →
    None ≡ first_failing (line_tests t.sections line) → IsKind k (letter line)
    → s ≡ added t.sections k line → now ≡ is_last k → IfSome due (λ ending. IsFalse (is_last k) × IsNextEnding (columns 73 80 line) ending)
    → IsForetold (record { sections = s; terminated = now; number = n; fault = t.fault }) due
put_foretold t s k line None now n none passes is s-is now-is h = tt
put_foretold t s k line (Some ending) now n none passes is s-is now-is h =
    (now-is ∙ h.0, none, subst (λ (x : SectionLines). Foretells x ending) (sym s-is) (foretold t.sections line k ending is h.0 passes h.1))

pub added_open : (s new : SectionLines) (t now : Bool) (k : Kind) (line : List ℕ) → t ≡ false → IsKind k (letter line) → new ≡ added s k line →
    now ≡ is_last k → IsAdded s t line new now
added_open s new t now k line e is new-is now-is = subst (λ (u : Bool). IsAdded s u line new now) (sym e) (k, is, new-is, now-is)

pub added_blank : (s : SectionLines) (t : Bool) (line : List ℕ) → t ≡ true → IsAdded s t line s t
added_blank s t line e = subst (λ (u : Bool). IsAdded s u line s t) (sym e) (refl, e)

pub put_ok : (old new : Taken) (k : Kind) (line : List ℕ) → old.fault ≡ None → old.terminated ≡ false → None ≡ first_failing (line_tests old.sections line) →
    IsKind k (letter line)
    → new.sections ≡ added old.sections k line → new.terminated ≡ is_last k → new.number ≡ old.number + 1 → new.fault ≡ None → NextTaken old line new
put_ok old new k line none still passes is s-is now-is next fault = λ ls h.
    taken_next ls old new line none (passes ∙ ap (λ (u : Bool). first_failing (tests_behind u old.sections line)) (sym still))
    (added_open old.sections new.sections old.terminated new.terminated k line still is s-is now-is) next fault h
