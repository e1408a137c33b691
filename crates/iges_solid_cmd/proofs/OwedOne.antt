-- Of each command at most one answer is owed, with one text.
use Rattle.std.proofs.Common.{◌≡◌, ◌<◌, length, ℕ, List, [], refl, ap, subst, arith}
use Rattle.std.specs.Prelude.{◌<◌}
use Rattle.iges_params.specs.Contents.{Contents}
use Rattle.solid_data.proofs.ObligationLemmas.{FirstFalse-one, FirstFalse-not_all}
use Rattle.brep_walk.specs.Places.{places}
use Rattle.iges_params.specs.Solids.{solids_of}
use Rattle.cert_maker.specs.Book.{FirstUnmade}
use Rattle.cert_maker.specs.declared.book.BookFault.{BookFault}
use Rattle.cert_maker.proofs.BookMade.{one_text_of_book}
use Rattle.cert_maker.proofs.Unmade.{none_unmade, one_unmade}
use Rattle.solid_verdict.specs.Closed.{obligations}
use Rattle.cert_maker.proofs.OneText.{one_text as one_certificate}
use Rattle.command_replies.specs.Texts.{fail_line, solid_fail_text}
use Rattle.iges_solid_cmd.specs.Due.{OfShow, unplaced, shown, OfCertify, fails, certified, OfCertifyAll, no_solid, one_fails, too_many, all_certified}
use Rattle.command_replies.proofs.One.{IsOne}
use Rattle.cert_maker.specs.declared.book.BookFault.TheVariants as maker

pub show_one : (n : ℕ) (f : Contents) → IsOne (OfShow n f)
show_one n f a b t u (unplaced x p) (unplaced y q) = (refl, ap fail_line (FirstFalse-one (places f n) x y p q))
show_one n f a b t u (unplaced x p) (shown all) = absurd (FirstFalse-not_all (places f n) x p all)
show_one n f a b t u (shown all) (unplaced y q) = absurd (FirstFalse-not_all (places f n) y q all)
show_one n f a b t u (shown all) (shown every) = (refl, refl)

pub certify_one : (n : ℕ) (f : Contents) → IsOne (OfCertify n f)
certify_one n f a b t u (fails x p) (fails y q) = (refl, ap fail_line (FirstFalse-one (obligations f n) x y p q))
certify_one n f a b t u (fails x p) (certified text all made) = absurd (FirstFalse-not_all (obligations f n) x p all)
certify_one n f a b t u (certified text all made) (fails y q) = absurd (FirstFalse-not_all (obligations f n) y q all)
certify_one n f a b t u (certified text all made) (certified same every other) = (refl, one_certificate f n text same made other)

fault_text : BookFault → List ℕ
fault_text (maker.Fails n x) = solid_fail_text n.0 x
fault_text _ = []

module _ (f : Contents) where
  unmade_some : (fault : BookFault) → solids_of f ≡ [] → FirstUnmade f 0 (solids_of f) fault → ⊥
  unmade_some fault none first = subst (λ (ns : List ℕ). FirstUnmade f 0 ns fault) none first

  made_some : solids_of f ≡ [] → 0 < length (solids_of f) → ⊥
  made_some none some = omega (arith, some, ap (λ (ns : List ℕ). length ns) none)

  pub all_one : IsOne (OfCertifyAll f)
  unfolding fault_text
  all_one a b t u (no_solid none) (no_solid never) = (refl, refl)
  all_one a b t u (no_solid none) (one_fails m y q) = absurd (unmade_some (maker.Fails m y) none q)
  all_one a b t u (no_solid none) (too_many m q) = absurd (unmade_some (maker.TooMany m) none q)
  all_one a b t u (no_solid none) (all_certified text some made book) = absurd (made_some none some)
  all_one a b t u (one_fails n x p) (no_solid none) = absurd (unmade_some (maker.Fails n x) none p)
  all_one a b t u (one_fails n x p) (one_fails m y q) = (refl, ap fault_text (one_unmade f 0 (solids_of f) (maker.Fails n x) (maker.Fails m y) p q))
  all_one a b t u (one_fails n x p) (too_many m q) =
      absurd (let same : maker.Fails n x ≡ maker.TooMany m = one_unmade f 0 (solids_of f) (maker.Fails n x) (maker.TooMany m) p q in cc)
  all_one a b t u (one_fails n x p) (all_certified text some made book) = absurd (none_unmade f 0 (solids_of f) (maker.Fails n x) made p)
  all_one a b t u (too_many n p) (no_solid none) = absurd (unmade_some (maker.TooMany n) none p)
  all_one a b t u (too_many n p) (one_fails m y q) =
      absurd (let same : maker.TooMany n ≡ maker.Fails m y = one_unmade f 0 (solids_of f) (maker.TooMany n) (maker.Fails m y) p q in cc)
  all_one a b t u (too_many n p) (too_many m q) = (refl, refl)
  all_one a b t u (too_many n p) (all_certified text some made book) = absurd (none_unmade f 0 (solids_of f) (maker.TooMany n) made p)
  all_one a b t u (all_certified text some made book) (no_solid none) = absurd (made_some none some)
  all_one a b t u (all_certified text some made book) (one_fails m y q) = absurd (none_unmade f 0 (solids_of f) (maker.Fails m y) made q)
  all_one a b t u (all_certified text some made book) (too_many m q) = absurd (none_unmade f 0 (solids_of f) (maker.TooMany m) made q)
  all_one a b t u (all_certified text some made book) (all_certified same more every other) = (refl, one_text_of_book f text same book other)
