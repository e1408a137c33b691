-- A solid that has no flags isn't oriented.
use Rattle.std.specs.Prelude.{◌≡◌, ℕ, zero, suc, ◌+◌, ◌<◌, Bool, List, [], ◌∷◌, length, Some, slice_get, option_map}
use Rattle.std.specs.List.{enumerate_from}
use Rattle.std.proofs.Common.{refl, sym, ◌∙◌, ap, subst, inl, inr, arith}
use Rattle.std.proofs.lemmas.Option.{none-some, same_Some}
use Rattle.iges_base.proofs.Lists.{some_at}
use Rattle.solid_data.specs.SolidData.{SolidData}
use Rattle.brep_walk.specs.SolidOf.{solid_of}
use Rattle.solid_extract.proofs.Copies.{all_at}
use Rattle.orient_certificate.specs.Flags.{face_flags, FlagsFit}
use Rattle.orient_certificate.specs.Line.{IsSpelled}
use Rattle.orient_certificate.specs.declared.line.OrientLine.{OrientLine}
use Rattle.orient_certificate.specs.declared.line.OrientLine.TheVariants.{Head, Flags, Ring, End}
use Rattle.orient_certificate.proofs.Lawful as lawful
use Rattle.flag_choice.specs.Choice.{chosen}
use Rattle.flag_choice.specs.Suiting.{FlagsSuit, AllSuit}
use Rattle.command_replies.specs.declared.answer.Answer.TheVariants.{No}
use Rattle.orient_commands.specs.Due.{IsRingLine, HasRing, IsAnswerOf, misplaced, unready, oriented}
use Rattle.orient_commands.specs.Shells.{IsReady, OfAllShells}
use Rattle.orient_commands.specs.Text.{Fits, FitsAs, AreWhole}
use Rattle.solid_reorient.proofs.Entries.{get_enumerated}
use Rattle.repair_commands.specs.SolidLaws.{UnorientedIsNo}

ring_among : (lines : List (List ℕ)) (k : ℕ) (line : List ℕ) → slice_get lines k ≡ Some line → IsRingLine line → HasRing lines
ring_among [] k line at ring = absurd (none-some line at)
ring_among (x ∷ lines) zero line at ring = inl (subst IsRingLine (sym (same_Some x line at)) ring)
ring_among (x ∷ lines) (suc k) line at ring = inr (ring_among lines k line at ring)

module _ (s : SolidData) (lines : List (List ℕ)) (whole : AreWhole s 2 lines) (ready : OfAllShells IsReady s) (never : ¬ HasRing lines) where
  -- flags that suit a shell are those of its line
  of_line : (k : ℕ) → k < length s.shells → (line : List ℕ) → slice_get lines k ≡ Some line → (l : OrientLine) → IsSpelled line l → FitsAs s (2 + k) l
      → (x : List Bool) × FlagsSuit s k x
  of_line k lt line at (Head solid) spelled fits = absurd fits
  of_line k lt line at (Flags shell flags) spelled (j, is, fit) =
      let same : j ≡ k = omega (arith, is.at) in
      let here : IsReady s k = ready k lt in (
        chosen (face_flags (slice_get s.shells k)) flags,
        record { counted = here.counted; reached = here.reached; kept = flags; fit = subst (λ i. FlagsFit s i flags) same fit; choice = refl },
      )
  of_line k lt line at (Ring shell numbers) spelled fits = absurd (never (ring_among lines k line at (shell, numbers, spelled)))
  of_line k lt line at End spelled fits = absurd (omega (arith, lt, fits))

  of_shell : (k : ℕ) → k < length s.shells → (x : List Bool) × FlagsSuit s k x
  of_shell k lt =
      let line = some_at lines k (omega (arith, lt, whole.ended)) in
      let fits : Fits s (2 + k, line.0) =
      all_at (Fits s) (enumerate_from 2 lines) k (2 + k, line.0) whole.each
      (get_enumerated 2 lines k ∙ ap (option_map (λ (x : List ℕ). (2 + k, x))) line.1) in
      of_line k lt line.0 line.1 fits.0 fits.1 fits.2

  pub all_suit : (flags : List (List Bool)) × AllSuit s flags
  all_suit = let xs = lawful.chosen (FlagsSuit s) (length s.shells) of_shell in (xs.0, record { each = xs.1; suit = xs.2 })

pub unoriented_no : UnorientedIsNo
unoriented_no n f a t none (misplaced x first) = refl
unoriented_no n f a t none (unready all x first) = refl
unoriented_no n f a t none (oriented all ready is) = by_answer is.answer
  where
    by_answer : IsAnswerOf is.lines a → a ≡ No
    by_answer (inl (ring, says)) = says
    by_answer (inr (never, says)) =
        let flags = all_suit (solid_of f n) is.lines is.whole ready never in
        absurd (none flags.0 (record { places = all; suit = flags.1 }))
