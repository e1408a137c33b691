-- The text of an orientation, line after line.
use Rattle.std.specs.Prelude.{◌≡◌, ◌≢◌, ◌⊎◌, ℕ, suc, ◌+◌, ◌<◌, ◌^◌, Bool, true, false, List, [], ◌∷◌, ◌++◌, length, map}
use Rattle.std.specs.Bool.{MatchBool}
use Rattle.std.specs.List.{AllByRecursion, enumerate_from}
use Rattle.std.proofs.Common.{refl, sym, ◌∙◌, ap, subst, arith, inl, inr, ⊎_elim, append_assoc, length-append}
use Rattle.std.proofs.lemmas.List.{append-nil}
use Rattle.iges_base.specs.declared.entry_no.EntryNo.{EntryNo}
use Rattle.solid_data.specs.SolidData.{SolidData}
use Rattle.cert_lines.specs.Line.{cut_lines}
use Rattle.cert_lines.proofs.CutLines.{cut_piece}
use Rattle.cert_text.proofs.Spacing.{spaced_no_break}
use Rattle.orient_certificate.specs.Line.{HasSpelling, flag_number, words, spelling}
use Rattle.orient_certificate.specs.declared.line.OrientLine.{OrientLine}
use Rattle.orient_certificate.specs.declared.line.OrientLine.TheVariants.{Head, Flags, Ring, End}
use Rattle.orient_certificate.proofs.Lines.{line_one, flags_short}
use Rattle.command_replies.specs.declared.answer.Answer.{Answer}
use Rattle.command_replies.specs.declared.answer.Answer.TheVariants as answer
use Rattle.orient_commands.specs.Due.{IsRingLine, HasRing, IsOriented}
use Rattle.orient_commands.specs.Reading.{IsBegun}
use Rattle.orient_commands.specs.Text.{FitsAs, Fits}

words_no_break : (l : OrientLine) → HasSpelling l → AllByRecursion (λ b. b ≢ 10) (words l)
words_no_break (Head solid) h = (omega arith, (omega arith, (omega arith, (omega arith, (omega arith, (omega arith, spaced_no_break (solid.0 ∷ []) (h, tt)))))))
words_no_break (Flags shell flags) h = (omega arith, spaced_no_break (shell ∷ map flag_number flags) (h.0, flags_short flags))
words_no_break (Ring shell rows) h = (omega arith, spaced_no_break (shell ∷ rows) h.0)
words_no_break End h = (omega arith, (omega arith, (omega arith, tt)))

-- a spelled line is cut off what follows it
pub cut_line : (l : OrientLine) (more : List ℕ) → HasSpelling l → cut_lines (spelling l ++ more) ≡ spelling l ∷ cut_lines more
cut_line l more h = ap cut_lines (append_assoc (words l) (10 ∷ []) more) ∙ cut_piece (words l) more (words_no_break l h)

all_join : (s : SolidData) (i : ℕ) (ls : List (List ℕ)) (l : List ℕ) → AllByRecursion (Fits s) (enumerate_from i ls) → Fits s (i + length ls, l)
    → AllByRecursion (Fits s) (enumerate_from i (ls ++ l ∷ []))
all_join s i [] l all fit = (subst (λ k. Fits s (k, l)) (let same : i + 0 ≡ i = omega arith in same) fit, tt)
all_join s i (x ∷ ls) l all fit =
    (all.0, all_join s (i + 1) ls l all.1 (subst (λ k. Fits s (k, l)) (let same : i + suc (length ls) ≡ (i + 1) + length ls = omega arith in same) fit))

ring_before : (ls : List (List ℕ)) (l : List ℕ) → HasRing ls → HasRing (ls ++ l ∷ [])
ring_before [] l h = absurd h
ring_before (x ∷ ls) l (inl r) = inl r
ring_before (x ∷ ls) l (inr h) = inr (ring_before ls l h)

ring_last : (ls : List (List ℕ)) (l : List ℕ) → IsRingLine l → HasRing (ls ++ l ∷ [])
ring_last [] l r = inl r
ring_last (x ∷ ls) l r = inr (ring_last ls l r)

ring_of : (ls : List (List ℕ)) (l : List ℕ) → HasRing (ls ++ l ∷ []) → HasRing ls ⊎ IsRingLine l
ring_of [] l (inl r) = inr r
ring_of [] l (inr h) = absurd h
ring_of (x ∷ ls) l (inl r) = inl (inl r)
ring_of (x ∷ ls) l (inr h) = ⊎_elim (λ g. inl (inr g)) (λ r. inr r) (ring_of ls l h)

begun_head : (s : SolidData) (n : ℕ) (text : List ℕ) → n < 10 ^ 9 → text ≡ spelling (Head (record { 0 = n })) → IsBegun s n 0 false text
begun_head s n text short e = record {
  head = spelling (Head (record { 0 = n }));
  lines = [];
  cut = λ more. ap (λ (t : List ℕ). cut_lines (t ++ more)) e ∙ cut_line (Head (record { 0 = n })) more short;
  names = (short, refl);
  each = tt;
  counted = refl;
  rings = λ h. h;
}

pub begun_first : (s : SolidData) (number : EntryNo) (old text : List ℕ) → number ≡ s.entity → s.entity.0 < 10 ^ 9 → old ≡ []
    → text ≡ old ++ spelling (Head number) → IsBegun s s.entity.0 0 false text
begun_first s number old text named short none e =
    begun_head s s.entity.0 text short (e ∙ ap (λ (t : List ℕ). t ++ spelling (Head number)) none ∙ ap (λ (x : EntryNo). spelling (Head x)) named)

-- One line more.
module _ (s : SolidData) (n count : ℕ) (ringed : Bool) (text new : List ℕ) (line : OrientLine) (b : IsBegun s n count ringed text) (spells : HasSpelling line)
    (e : new ≡ text ++ spelling line) (fit : FitsAs s (count + 2) line) where
  abbrev longer : List (List ℕ)
  longer = b.lines ++ spelling line ∷ []

  cut_longer : (more : List ℕ) → cut_lines (new ++ more) ≡ b.head ∷ longer ++ cut_lines more
  cut_longer more =
      ap (λ (t : List ℕ). cut_lines (t ++ more)) e ∙ ap cut_lines (append_assoc text (spelling line) more) ∙ b.cut (spelling line ++ more)
      ∙ ap (λ (ls : List (List ℕ)). b.head ∷ b.lines ++ ls) (cut_line line more spells)
      ∙ ap (λ (ls : List (List ℕ)). b.head ∷ ls) (sym (append_assoc b.lines (spelling line ∷ []) (cut_lines more)))

  each_longer : AllByRecursion (Fits s) (enumerate_from 2 longer)
  each_longer =
      let at : count + 2 ≡ 2 + length b.lines = (let long = b.counted in omega (arith, long)) in
      all_join s 2 b.lines (spelling line) b.each (line, (spells, refl), subst (λ k. FitsAs s k line) at fit)

  long_longer : length longer ≡ count + 1
  long_longer = let long = b.counted in omega (arith, long, length-append b.lines (spelling line ∷ []))

  pub begun_ring : IsRingLine (spelling line) → IsBegun s n (count + 1) true new
  begun_ring ring = record {
    head = b.head;
    lines = longer;
    cut = cut_longer;
    names = b.names;
    each = each_longer;
    counted = long_longer;
    rings =
        ring_last b.lines (spelling line) ring;
  }

  kept_rings : (r : Bool) → MatchBool r (HasRing b.lines) (HasRing b.lines → ⊥) → (IsRingLine (spelling line) → ⊥)
      → MatchBool r (HasRing longer) (HasRing longer → ⊥)
  kept_rings true h never = ring_before b.lines (spelling line) h
  kept_rings false h never = λ g. ⊎_elim h never (ring_of b.lines (spelling line) g)

  pub begun_flags : (IsRingLine (spelling line) → ⊥) → IsBegun s n (count + 1) ringed new
  begun_flags never = record {
    head = b.head;
    lines = longer;
    cut = cut_longer;
    names = b.names;
    each = each_longer;
    counted = long_longer;
    rings =
        kept_rings ringed b.rings never;
  }

-- the line of no ring: other lines spell none
pub no_ring : (line : OrientLine) → HasSpelling line → ((shell : ℕ) (rows : List ℕ) → line ≢ Ring shell rows) → IsRingLine (spelling line) → ⊥
no_ring line h other (shell, rows, is) = other shell rows (line_one (spelling line) line (Ring shell rows) (h, refl) is)

-- END is the last
pub oriented : (s : SolidData) (n count : ℕ) (ringed : Bool) (text new : List ℕ) (a : Answer) → IsBegun s n count ringed text → count ≡ length s.shells
    → new ≡ text ++ spelling End → MatchBool ringed (a ≡ answer.No) (a ≡ answer.Done) → IsOriented s n a new
oriented s n count ringed text new a b long e is =
    by_rings (begun_flags s n count ringed text new End b tt e (let at : count + 2 ≡ length s.shells + 2 = omega (arith, long) in at)
    (no_ring End tt (λ shell rows same. cc)))
  where
    answered : (r : Bool) (lines : List (List ℕ)) → MatchBool r (HasRing lines) (HasRing lines → ⊥) → MatchBool r (a ≡ answer.No) (a ≡ answer.Done)
        → (HasRing lines × (a ≡ answer.No)) ⊎ ((HasRing lines → ⊥) × (a ≡ answer.Done))
    answered true lines h x = inl (h, x)
    answered false lines h x = inr (h, x)

    by_rings : IsBegun s n (count + 1) ringed new → IsOriented s n a new
    by_rings whole = record {
      lines = whole.lines;
      names = record { head = whole.head; cut = cut_alone whole; names = whole.names };
      whole = (let more = whole.counted in record { each = whole.each; ended = omega (arith, more, long) });
      answer = answered ringed whole.lines whole.rings is;
    }
      where
        cut_alone : (w : IsBegun s n (count + 1) ringed new) → cut_lines new ≡ w.head ∷ w.lines
        cut_alone w = ap cut_lines (sym (append-nil new)) ∙ w.cut [] ∙ ap (λ (ls : List (List ℕ)). w.head ∷ ls) (append-nil w.lines)
