-- Lines that are judged one after the other.
use Rattle.std.specs.Prelude.{◌≡◌, ℕ, true, false, List, [], ◌∷◌, Some, Result, Ok, Err, MatchResult}
use Rattle.std.proofs.Common.{refl, sym, ◌∙◌, subst, inl, inr}
use Rattle.solid_data.specs.SolidData.{SolidData}
use Rattle.cert_lines.specs.Line.{cut_lines}
use Rattle.cert_text.specs.declared.fault.Illegal.{Illegal}
use Rattle.cert_text.specs.declared.fault.Illegal.TheVariants.{Missing}
use Rattle.open_certificate.specs.CheckState.{OpenCheckerState, IsAt}
use Rattle.open_certificate.specs.Line.{OpenLine, IsSpelled}
use Rattle.open_certificate.specs.Progress.{progress_from_latest, FitsLine}
use Rattle.open_certificate.specs.Legal.{IsLegalAfter, IsFirstBadAfter, IsBadLine, IsOpenLegal, IsOpenFirstBad}

-- Some lines were judged, which all fit: what is legal or bad behind them is so of the whole text.
pub record IsJudgedSoFar (s : SolidData) (text : List ℕ) (now : OpenCheckerState) (rest : List ℕ) : Type 0 where
  pub lines : List OpenLine
  pub stands : IsAt now lines
  pub solid : now.solid ≡ s
  pub legal : IsLegalAfter s lines (cut_lines rest) → IsLegalAfter s [] (cut_lines text)
  pub bad : (x : Illegal) → IsFirstBadAfter s lines (cut_lines rest) x → IsFirstBadAfter s [] (cut_lines text) x

pub none_judged : (now : OpenCheckerState) (text : List ℕ) → IsAt now [] → IsJudgedSoFar now.solid text now text
none_judged now text stands = record { lines = []; stands = stands; solid = refl; legal = λ h. h; bad = λ x h. h }

module _ (s : SolidData) (text : List ℕ) (now : OpenCheckerState) (rest : List ℕ) (j : IsJudgedSoFar s text now rest) where
  module _ (line after : List ℕ) (cut : cut_lines rest ≡ line ∷ cut_lines after) where
    pub one_more : (new : OpenCheckerState) → new.solid ≡ now.solid
        → (l : OpenLine) × IsSpelled line l × FitsLine now.solid (progress_from_latest now.solid j.lines) l × IsAt new (l ∷ j.lines)
        → IsJudgedSoFar s text new after
    one_more new same (l, spelled, fits, stands) =
        let fits_here : FitsLine s (progress_from_latest s j.lines) l = subst (λ t. FitsLine t (progress_from_latest t j.lines) l) j.solid fits in
        record {
          lines = l ∷ j.lines;
          stands = stands;
          solid = same ∙ j.solid;
          legal = λ h. j.legal (subst (IsLegalAfter s j.lines) (sym cut) (l, spelled, fits_here, h));
          bad = λ x h. j.bad x (subst (λ ls. IsFirstBadAfter s j.lines ls x) (sym cut) (inr (l, spelled, fits_here, h)));
        }

    pub bad_one : (x : Illegal) → IsBadLine now.solid j.lines line x → IsOpenFirstBad s (cut_lines text) x
    unfolding IsOpenFirstBad
    bad_one x h = j.bad x (subst (λ ls. IsFirstBadAfter s j.lines ls x) (sym cut) (inl (subst (λ t. IsBadLine t j.lines line x) j.solid h)))

  module _ (none : rest ≡ []) where
    -- the text has ended
    pub ended : (new : OpenCheckerState) (result : Result (Unit {0}) Illegal)
        → MatchResult result (λ _. ((progress_from_latest now.solid j.lines).ended ≡ true) × (new ≡ now))
        (λ x. ((progress_from_latest now.solid j.lines).ended ≡ false) × (x ≡ Missing (progress_from_latest now.solid j.lines).number) × (new.failed ≡ Some x))
        → MatchResult result (λ _. IsOpenLegal s (cut_lines text)) (λ x. IsOpenFirstBad s (cut_lines text) x)
    unfolding IsOpenLegal IsOpenFirstBad
    ended new (Ok u) (is_ended, same) =
        j.legal (subst (λ r. IsLegalAfter s j.lines (cut_lines r)) (sym none) (subst (λ t. (progress_from_latest t j.lines).ended ≡ true) j.solid is_ended))
    ended new (Err x) (goes_on, missing, failed) =
        j.bad x (subst (λ r. IsFirstBadAfter s j.lines (cut_lines r) x) (sym none)
        (subst (λ t. ((progress_from_latest t j.lines).ended ≡ false) × (x ≡ Missing (progress_from_latest t j.lines).number)) j.solid (goes_on, missing)))
