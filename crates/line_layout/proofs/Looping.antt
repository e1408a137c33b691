-- What is written so far, and what is left.
use Rattle.std.proofs.Common.{◌≡◌, ℕ, ◌+◌, ◌<◌, arith, List, [], ◌∷◌, ◌++◌, Option, Some, None, Result, Ok, Err, true, false, refl, sym, ap, subst, ◌∙◌, append_assoc}
use Rattle.std.specs.Option.{option_map_or}
use Rattle.std.proofs.lemmas.List.{append-nil}
use Rattle.line_layout.specs.declared.counting.LineCounts.{LineCounts}
use Rattle.line_layout.specs.declared.fault.LayoutFault.{LayoutFault}
use Rattle.line_layout.specs.declared.fault.RelaidFault.{RelaidFault}
use Rattle.line_layout.specs.declared.fault.RelaidFault.TheVariants as faults
use Rattle.line_layout.specs.declared.judging.Judged.TheVariants.{Good}
use Rattle.line_layout.specs.declared.letters.Section.{Section}
use Rattle.line_layout.specs.declared.letters.Section.TheVariants.{Start, Global, Directory, Param, Terminate}
use Rattle.line_layout.specs.declared.relaying.Next.TheVariants.{More, Nothing}
use Rattle.line_layout.specs.declared.strays.Stray.{Stray}
use Rattle.iges_base.specs.Ended.{ended}
use Rattle.line_layout.specs.Counts.{AreFew, count_of, counted, no_lines}
use Rattle.line_layout.specs.Judging.{judge, lines_after}
use Rattle.line_layout.specs.Letters.{is_last}
use Rattle.line_layout.specs.Marks.{unmarked}
use Rattle.line_layout.specs.Relaid.{Laid, Gives, pieces, end_byte, before, at_end, step, laid, relaid, unless_shuffled}
use Rattle.line_layout.specs.Rows.{row}
use Rattle.line_layout.specs.Strays.{shuffled_line, stray_at, strays_from}
use Rattle.line_layout.specs.Taking.{Takes}
use Rattle.line_layout.proofs.Cutting.{no_pieces}
use Rattle.line_layout.proofs.GoodLines.{good_line, few_before}

pub few_good : (c : LineCounts) (piece : List ℕ) (s : Section) → judge c piece ≡ Good s → count_of c s < 9999999
few_good c piece s e = few_before c s (good_line c piece s e).fits

pub before_none : (r : Laid) → before [] r ≡ r
before_none (Ok more) = refl
before_none (Err fault) = refl

pub before_both : (a b : List ℕ) (r : Laid) → before a (before b r) ≡ before (a ++ b) r
before_both a b (Ok more) = ap (λ (t : List ℕ). Ok t) (sym (append_assoc a b more))
before_both a b (Err fault) = refl

-- a line that isn't the last
pub takes_line : (n : ℕ) (c : LineCounts) (line old new : List ℕ) (s : Section) (go : LineCounts → Laid) → is_last s ≡ false → new ≡ old ++ ended (row c s line)
    → before old (step n c line (Good s) go) ≡ before new (go (counted c s))
takes_line n c line old new Start go e is = before_both old (ended (row c Start line)) (go (counted c Start))
    ∙ ap (λ (t : List ℕ). before t (go (counted c Start))) (sym is)
takes_line n c line old new Global go e is = before_both old (ended (row c Global line)) (go (counted c Global))
    ∙ ap (λ (t : List ℕ). before t (go (counted c Global))) (sym is)
takes_line n c line old new Directory go e is = before_both old (ended (row c Directory line)) (go (counted c Directory))
    ∙ ap (λ (t : List ℕ). before t (go (counted c Directory))) (sym is)
takes_line n c line old new Param go e is = before_both old (ended (row c Param line)) (go (counted c Param))
    ∙ ap (λ (t : List ℕ). before t (go (counted c Param))) (sym is)
takes_line n c line old new Terminate go e is = absurd cc

-- the last line
pub takes_last : (n : ℕ) (c : LineCounts) (line old new : List ℕ) (s : Section) (go : LineCounts → Laid) → is_last s ≡ true → new ≡ old ++ ended (row c s line)
    → before old (step n c line (Good s) go) ≡ Ok new
takes_last n c line old new Terminate go e is = ap (λ (t : List ℕ). Ok t) (sym is)
takes_last n c line old new Start go e is = absurd cc
takes_last n c line old new Global go e is = absurd cc
takes_last n c line old new Directory go e is = absurd cc
takes_last n c line old new Param go e is = absurd cc

-- what is made of the lines by themselves
abbrev pub laid_lines : List ℕ → Laid
laid_lines bytes = laid (pieces (end_byte bytes) bytes) 1 no_lines

abbrev pub strays_in : List ℕ → List Stray
strays_in bytes = strays_from (pieces (end_byte bytes) bytes) 1 no_lines

module _ (e n : ℕ) (c : LineCounts) (out left piece after : List ℕ) (total : Laid) (cut : pieces e left ≡ piece ∷ pieces e after)
    (same : before out (laid (pieces e left) n c) ≡ total) where
  stepped : before out (step n c (unmarked piece) (judge c piece) (laid (pieces e after) (n + 1))) ≡ total
  unfolding laid
  stepped = sym (ap (λ (ps : List (List ℕ)). before out (laid ps n c)) cut) ∙ same

  pub loop_more : (new : List ℕ) (d : LineCounts)
      → Takes (Ok (More d)) out new (step n c (unmarked piece) (judge c piece) (laid (pieces e after) (n + 1))) (laid (pieces e after) (n + 1))
      → before new (laid (pieces e after) (n + 1) d) ≡ total
  loop_more new d t = sym t ∙ stepped

  pub loop_done : (new : List ℕ) → Takes (Ok Nothing) out new (step n c (unmarked piece) (judge c piece) (laid (pieces e after) (n + 1)))
      (laid (pieces e after) (n + 1)) → total ≡ Ok new
  loop_done new t = sym stepped ∙ t

  pub loop_failed : (new : List ℕ) (f : RelaidFault)
      → Takes (Err f) out new (step n c (unmarked piece) (judge c piece) (laid (pieces e after) (n + 1))) (laid (pieces e after) (n + 1)) → Gives (Err f) total
  loop_failed new (faults.Bad fault) t = sym stepped ∙ ap (before out) t
  loop_failed new faults.NoMemory t = tt

pub loop_end : (e n : ℕ) (c : LineCounts) (out : List ℕ) (total : Laid) → before out (laid (pieces e []) n c) ≡ total → before out (at_end n c) ≡ total
unfolding laid
loop_end e n c out total same = sym (ap (λ (ps : List (List ℕ)). before out (laid ps n c)) (no_pieces e)) ∙ same

pub loop_begins : (bytes : List ℕ) (e : ℕ) → e ≡ end_byte bytes → before [] (laid (pieces e bytes) 1 no_lines) ≡ laid_lines bytes
loop_begins bytes e is = before_none (laid (pieces e bytes) 1 no_lines) ∙ ap (λ (b : ℕ). laid (pieces b bytes) 1 no_lines) is

-- ---- the lines whose number isn't their place

module _ (e n : ℕ) (c : LineCounts) (found : List Stray) (left piece after : List ℕ) (total : List Stray) (cut : pieces e left ≡ piece ∷ pieces e after)
    (same : found ++ strays_from (pieces e left) n c ≡ total) (new : List Stray) (new-is : new ≡ found ++ stray_at n c (unmarked piece) (judge c piece)) where
  abbrev further : Option LineCounts → List Stray
  further o = option_map_or (strays_from (pieces e after) (n + 1)) o []

  noted : new ++ further (lines_after c (judge c piece)) ≡ total
  unfolding strays_from
  noted =
      ap (λ (rs : List Stray). rs ++ further (lines_after c (judge c piece))) new-is
      ∙ append_assoc found (stray_at n c (unmarked piece) (judge c piece)) (further (lines_after c (judge c piece)))
      ∙ sym (ap (λ (ps : List (List ℕ)). found ++ strays_from ps n c) cut) ∙ same

  pub noted_more : (d : LineCounts) → lines_after c (judge c piece) ≡ Some d → new ++ strays_from (pieces e after) (n + 1) d ≡ total
  noted_more d is = sym (ap (λ (o : Option LineCounts). new ++ further o) is) ∙ noted

  pub noted_all : lines_after c (judge c piece) ≡ None → new ≡ total
  noted_all is = sym (append-nil new) ∙ sym (ap (λ (o : Option LineCounts). new ++ further o) is) ∙ noted

pub noted_end : (e n : ℕ) (c : LineCounts) (found total : List Stray) → found ++ strays_from (pieces e []) n c ≡ total → found ≡ total
unfolding strays_from
noted_end e n c found total same =
    sym (append-nil found) ∙ sym (ap (λ (ps : List (List ℕ)). found ++ strays_from ps n c) (no_pieces e)) ∙ same

-- ---- the file

error_stays : (o : Option ℕ) (fault : LayoutFault) → unless_shuffled o (Err fault) ≡ Err fault
error_stays None fault = refl
error_stays (Some n) fault = refl

module _ (bytes : List ℕ) where
  pub fails_so : (f : RelaidFault) → Gives (Err f) (laid_lines bytes) → Gives (Err f) (relaid bytes)
  unfolding relaid
  fails_so (faults.Bad fault) h = ap (unless_shuffled (shuffled_line (strays_in bytes))) h ∙ error_stays (shuffled_line (strays_in bytes)) fault
  fails_so faults.NoMemory h = tt

  pub gives_so : (r : Result (List ℕ) RelaidFault) (text : List ℕ) (found : List Stray) → found ≡ strays_in bytes → laid_lines bytes ≡ Ok text
      → Gives r (unless_shuffled (shuffled_line found) (Ok text)) → Gives r (relaid bytes)
  unfolding relaid
  gives_so r text found all laid h =
      subst (Gives r) (ap (λ (rs : List Stray). unless_shuffled (shuffled_line rs) (Ok text)) all
      ∙ ap (unless_shuffled (shuffled_line (strays_in bytes))) (sym laid)) h

pub none_few : AreFew no_lines
none_few = record { start = omega arith; global = omega arith; directory = omega arith; param = omega arith }
