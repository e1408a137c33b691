-- What is known of the sections of a file, and of each of their lines.
use Rattle.std.proofs.Common.{◌≡◌, ℕ, zero, suc, ◌+◌, ◌*◌, ◌≤◌, true, List, [], ◌∷◌, ◌++◌, length, take, Option, Some, None, refl, sym, ap, ◌∙◌, arith}
use Rattle.std.proofs.Common.{length-append, Bor}
use Rattle.std.specs.Prelude.{slice_get, option_copied, IfSome, IsTrue}
use Rattle.std.specs.List.{AllByRecursion, enumerate_from, list_all}
use Rattle.std.proofs.lemmas.Bool.{and_from}
use Rattle.std.proofs.lemmas.List.{length-take}
use Rattle.std.proofs.lemmas.List.Folds.{list_all-append}
use Rattle.iges_base.specs.InLine.{is_in_line}
use Rattle.iges_base.specs.declared.TheConstants.{FILE_LIMIT}
use Rattle.iges_base.proofs.InLines.{slice_get-all}
use Rattle.iges_base.proofs.Lists.{list_all-parts, list_all-take}
use Rattle.iges_lines.specs.Lines.{SectionLines, joined, lines}
use Rattle.iges_lines.specs.Sectioned.{IsNumbered, IsSectioned, AreSections}
use Rattle.iges_lines.proofs.InLines.{size, lines_in_line, lines_size}

abbrev Lines : Type 0
Lines = List (List ℕ)

-- ---- the bytes of numbered lines

size_append : (xs ys : Lines) → size (xs ++ ys) ≡ size xs + size ys
size_append [] ys = omega arith
size_append (x ∷ xs) ys = omega (arith, size_append xs ys)

numbered_size : (section n : ℕ) (ls : Lines) → AllByRecursion (λ (l : ℕ × List ℕ). IsNumbered section l.0 l.1) (enumerate_from n ls) → size ls ≡ 80 * length ls
numbered_size section n [] h = refl
numbered_size section n (l ∷ ls) h = let long = h.0.long in omega (arith, long, numbered_size section (n + 1) ls h.1)

-- ---- lines without LF

all_in_line : (ls : Lines) → AllByRecursion (λ l. is_in_line l ≡ true) ls → list_all is_in_line ls ≡ true
all_in_line [] h = refl
all_in_line (l ∷ ls) h = and_from (is_in_line l) (list_all is_in_line ls) h.0 (all_in_line ls h.1)

-- ---- the sections

pub sections_kept : (bytes : List ℕ) (s : SectionLines) → length bytes ≤ FILE_LIMIT → IsSectioned bytes s → AreSections s
sections_kept bytes s limit h =
    let long : size (joined s ++ h.last ∷ h.after) ≤ length bytes = omega (arith, ap size (sym h.whole), lines_size bytes) in
    record {
      some_start = h.some_start;
      some_global = h.some_global;
      start = h.start;
      global = h.global;
      directory = h.directory;
      param = h.param;
      in_line = (list_all-parts is_in_line (joined s) (h.last ∷ h.after)
          (ap (list_all is_in_line) (sym h.whole) ∙ all_in_line (lines bytes) (lines_in_line bytes))).0;
      within = omega (
        arith,
        limit,
        long,
        size_append (joined s) (h.last ∷ h.after),
        size_append (s.start ++ s.global ++ s.directory) s.param,
        size_append (s.start ++ s.global) s.directory,
        size_append s.start s.global,
        numbered_size 83 1 s.start h.start,
        numbered_size 71 1 s.global h.global,
        numbered_size 68 1 s.directory h.directory,
        numbered_size 80 1 s.param h.param,
        length-append (s.start ++ s.global ++ s.directory) s.param,
        length-append (s.start ++ s.global) s.directory,
        length-append s.start s.global,
      );
    }

-- ---- sections whose last lines are taken off

take_numbered : (section n k : ℕ) (ls : Lines) → AllByRecursion (λ (l : ℕ × List ℕ). IsNumbered section l.0 l.1) (enumerate_from n ls)
    → AllByRecursion (λ (l : ℕ × List ℕ). IsNumbered section l.0 l.1) (enumerate_from n (take k ls))
take_numbered section n zero ls h = tt
take_numbered section n (suc k) [] h = tt
take_numbered section n (suc k) (l ∷ ls) h = (h.0, take_numbered section (n + 1) k ls h.1)

pub params_cut : (s : SectionLines) (k : ℕ) → AreSections s → AreSections (record s { param = take k s.param })
params_cut s k h =
    let upper = s.start ++ s.global ++ s.directory in
    let parts = list_all-parts is_in_line upper s.param h.in_line in
    record {
      some_start = h.some_start;
      some_global = h.some_global;
      start = h.start;
      global = h.global;
      directory = h.directory;
      param = take_numbered 80 1 k s.param h.param;
      in_line = list_all-append is_in_line upper (take k s.param) ∙ and_from (list_all is_in_line upper) (list_all is_in_line (take k s.param)) parts.0
          (list_all-take is_in_line k s.param parts.1);
      within = omega (arith, h.within, length-append upper s.param, length-append upper (take k s.param), length-take k s.param);
    }

-- ---- a line of a section

some_in_line : (o : Option (Bor (List ℕ))) (xs : Lines) (i : ℕ) → option_copied o ≡ slice_get xs i → list_all is_in_line xs ≡ true →
    IfSome o (λ line. IsTrue (is_in_line line.now))
some_in_line None xs i e h = tt
some_in_line (Some line) xs i e h = slice_get-all is_in_line xs i line.now (sym e) h

module _ (s : SectionLines) (kept : AreSections s) (o : Option (Bor (List ℕ))) (i : ℕ) where
  upper : list_all is_in_line (s.start ++ s.global ++ s.directory) ≡ true
  upper = (list_all-parts is_in_line (s.start ++ s.global ++ s.directory) s.param kept.in_line).0

  pub start_in_line : option_copied o ≡ slice_get s.start i → IfSome o (λ line. IsTrue (is_in_line line.now))
  start_in_line e = some_in_line o s.start i e (list_all-parts is_in_line s.start s.global
      (list_all-parts is_in_line (s.start ++ s.global) s.directory upper).0).0

  pub global_in_line : option_copied o ≡ slice_get s.global i → IfSome o (λ line. IsTrue (is_in_line line.now))
  global_in_line e = some_in_line o s.global i e (list_all-parts is_in_line s.start s.global
      (list_all-parts is_in_line (s.start ++ s.global) s.directory upper).0).1

  pub directory_in_line : option_copied o ≡ slice_get s.directory i → IfSome o (λ line. IsTrue (is_in_line line.now))
  directory_in_line e = some_in_line o s.directory i e (list_all-parts is_in_line (s.start ++ s.global) s.directory upper).1

  pub param_in_line : option_copied o ≡ slice_get s.param i → IfSome o (λ line. IsTrue (is_in_line line.now))
  param_in_line e = some_in_line o s.param i e (list_all-parts is_in_line (s.start ++ s.global ++ s.directory) s.param kept.in_line).1
