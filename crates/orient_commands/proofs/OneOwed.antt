-- What is owed of orienting and of verifying is one.
use Rattle.std.specs.Prelude.{◌≡◌, ℕ, ◌+◌, List, [], ◌∷◌, length, Err}
use Rattle.std.specs.List.{AllByRecursion, AllZip, enumerate_from}
use Rattle.std.proofs.Common.{refl, sym, ◌∙◌, ap, subst, arith, inl, inr, ⊎_elim}
use Rattle.std.proofs.lemmas.Bool.{cases_order}
use Rattle.iges_params.specs.Contents.{Contents}
use Rattle.solid_data.specs.SolidData.{SolidData}
use Rattle.solid_data.proofs.ObligationLemmas.{FirstFalse-not_all, FirstFalse-one}
use Rattle.brep_walk.specs.Places.{places}
use Rattle.brep_walk.specs.SolidOf.{solid_of}
use Rattle.cert_lines.specs.Line.{cut_lines}
use Rattle.cert_text.specs.declared.fault.Illegal.{Illegal}
use Rattle.orient_certificate.specs.Flags.{FlagsFit}
use Rattle.orient_certificate.specs.Line.{IsSpelled, spelling}
use Rattle.orient_certificate.specs.OddRing.{OddRing}
use Rattle.orient_certificate.specs.Outcome.{IsFirstFailing, CountFails}
use Rattle.orient_certificate.specs.declared.fault.OrientFailing.{OrientFailing}
use Rattle.orient_certificate.specs.declared.fault.OrientFault.TheVariants as faults
use Rattle.orient_certificate.specs.declared.line.OrientLine.{OrientLine}
use Rattle.orient_certificate.specs.declared.line.OrientLine.TheVariants.{Head, Flags, Ring, End}
use Rattle.orient_certificate.proofs.Answered.{first_not_all, first_not_one, only_memory, fails_so, count_memory, count_so}
use Rattle.orient_certificate.proofs.Lawful.{one_fit, refuses}
use Rattle.orient_certificate.proofs.Lines.{line_one}
use Rattle.command_replies.specs.declared.answer.Answer.{Answer}
use Rattle.command_replies.specs.declared.answer.Answer.TheVariants as answer
use Rattle.command_replies.specs.Texts.{accepted_line, fail_line, illegal_line}
use Rattle.command_replies.proofs.One.{IsOne}
use Rattle.orient_commands.specs.Due.{IsRingLine, HasRing, IsAnswerOf, IsOriented, OfOrientLines, orient_fail_line, misplaced, unready, oriented, place_fails}
use Rattle.orient_commands.specs.Due.{uncounted, line_bad, lines_accepted, text_too_large, head_bad, named}
use Rattle.orient_commands.specs.Laws.{AreSameOrRings, OneOrientation, OneVerifying, OrientationIsAccepted}
use Rattle.orient_commands.specs.Shells.{IsReady, IsCounted, OfAllShells, FailsInShell}
use Rattle.orient_commands.specs.Text.{FitsAs, Fits, AreWhole, IsWrong, IsFirstBad, Names, IsBadFirst, IsBadHead}

-- What first fails of a shell.

failing_one : (s : SolidData) (k : ℕ) (x y : OrientFailing) → IsFirstFailing s k x → IsFirstFailing s k y → x ≡ y
failing_one s k x y p q = fails_so s k (Err (faults.Fails x)) p tt tt y q

failing_not : (s : SolidData) (k : ℕ) (x : OrientFailing) → IsFirstFailing s k x → IsReady s k → ⊥
failing_not s k x p ready = only_memory s k (Err (faults.Fails x)) p ready.counted ready.reached

count_one : (s : SolidData) (k : ℕ) (x y : OrientFailing) → CountFails s k x → CountFails s k y → x ≡ y
count_one s k x y p q = count_so {A = ℕ} s k (Err (faults.Fails x)) p tt y q

count_not : (s : SolidData) (k : ℕ) (x : OrientFailing) → CountFails s k x → IsCounted s k → ⊥
count_not s k x p two = count_memory {A = ℕ} s k (Err (faults.Fails x)) p two

module _ (Holds : SolidData → ℕ → Type 0) (FailsOf : SolidData → ℕ → OrientFailing → Type 0)
    (one : (s : SolidData) (k : ℕ) (x y : OrientFailing) → FailsOf s k x → FailsOf s k y → x ≡ y)
    (never : (s : SolidData) (k : ℕ) (x : OrientFailing) → FailsOf s k x → Holds s k → ⊥) where
  shells_one : (s : SolidData) (x y : OrientFailing) → FailsInShell Holds FailsOf s x → FailsInShell Holds FailsOf s y → x ≡ y
  shells_one s x y p q =
      ⊎_elim (λ e. one s q.shell x y (subst (λ k. FailsOf s k x) e p.fails) q.fails)
      (λ other. ⊎_elim (λ lt. absurd (never s p.shell x p.fails (q.before p.shell lt))) (λ gt. absurd (never s q.shell y q.fails (p.before q.shell gt))) other)
      (cases_order p.shell q.shell)

  shells_none : (s : SolidData) (x : OrientFailing) → FailsInShell Holds FailsOf s x → OfAllShells Holds s → ⊥
  shells_none s x p all = never s p.shell x p.fails (all p.shell p.within)

-- What is first bad of lines.

wrong_one : (l : ℕ × List ℕ) (a b : Illegal) → IsWrong l a → IsWrong l b → a ≡ b
wrong_one l a b (inl p) (inl q) = p.1 ∙ sym q.1
wrong_one l a b (inl p) (inr q) = absurd (p.0 q.0 q.1)
wrong_one l a b (inr p) (inl q) = absurd (q.0 p.0 p.1)
wrong_one l a b (inr p) (inr q) = p.2 ∙ sym q.2

bad_one : (s : SolidData) (i : ℕ) (ls : List (List ℕ)) (a b : Illegal) → IsFirstBad s i ls a → IsFirstBad s i ls b → a ≡ b
bad_one s i ls a b (inl p) (inl q) =
    let same : p.line ≡ q.line = first_not_one (Fits s) (enumerate_from i ls) p.line q.line p.is_first q.is_first in
    wrong_one q.line a b (subst (λ (l : ℕ × List ℕ). IsWrong l a) same p.wrong) q.wrong
bad_one s i ls a b (inl p) (inr q) = absurd (first_not_all (Fits s) (enumerate_from i ls) p.line p.is_first q.each)
bad_one s i ls a b (inr p) (inl q) = absurd (first_not_all (Fits s) (enumerate_from i ls) q.line q.is_first p.each)
bad_one s i ls a b (inr p) (inr q) = p.missing ∙ sym q.missing

bad_not : (s : SolidData) (i : ℕ) (ls : List (List ℕ)) (a : Illegal) → IsFirstBad s i ls a → AreWhole s i ls → ⊥
bad_not s i ls a (inl p) w = first_not_all (Fits s) (enumerate_from i ls) p.line p.is_first w.each
bad_not s i ls a (inr p) w = let few = p.unended in let all = w.ended in omega (arith, few, all)

-- The first line.

number_in : OrientLine → ℕ
number_in (Head solid) = solid.0
number_in (Flags shell flags) = shell
number_in (Ring shell rows) = shell
number_in End = 0

head_one : (bytes : List ℕ) (n m : ℕ) → IsSpelled bytes (Head (record { 0 = n })) → IsSpelled bytes (Head (record { 0 = m })) → n ≡ m
unfolding number_in
head_one bytes n m p q = ap number_in (line_one bytes (Head (record { 0 = n })) (Head (record { 0 = m })) p q)

names_one : (text : List ℕ) (n m : ℕ) (ls ms : List (List ℕ)) → Names text n ls → Names text m ms → (n ≡ m) × (ls ≡ ms)
names_one text n m ls ms p q =
    let same : p.head ∷ ls ≡ q.head ∷ ms = sym p.cut ∙ q.cut in
    let heads : p.head ≡ q.head = cc in
    (head_one q.head n m (subst (λ b. IsSpelled b (Head (record { 0 = n }))) heads p.names) q.names, cc)

first_one : (ls : List (List ℕ)) (a b : Illegal) → IsBadFirst ls a → IsBadFirst ls b → a ≡ b
first_one [] a b p q = p ∙ sym q
first_one (l ∷ ls) a b (inl p) (inl q) = p.1 ∙ sym q.1
first_one (l ∷ ls) a b (inl p) (inr q) = absurd (p.0 q.0 q.1)
first_one (l ∷ ls) a b (inr p) (inl q) = absurd (q.0 p.0 p.1)
first_one (l ∷ ls) a b (inr p) (inr q) = p.3 ∙ sym q.3

first_not : (n : ℕ) (head : List ℕ) (ls : List (List ℕ)) (a : Illegal) → IsBadFirst (head ∷ ls) a → IsSpelled head (Head (record { 0 = n })) → ⊥
first_not n head ls a (inl p) is = p.0 (Head (record { 0 = n })) is
first_not n head ls a (inr p) is = p.2 (n, line_one head p.0 (Head (record { 0 = n })) p.1 is)

names_not : (text : List ℕ) (n : ℕ) (ls : List (List ℕ)) (a : Illegal) → Names text n ls → IsBadHead text a → ⊥
names_not text n ls a p bad = first_not n p.head ls a (subst (λ (x : List (List ℕ)). IsBadFirst x a) p.cut bad) p.names

-- Verifying.

lines_one : (n : ℕ) (ls : List (List ℕ)) (f : Contents) → IsOne (OfOrientLines n ls f)
lines_one n ls f a b t u (place_fails x p) (place_fails y q) = (refl, ap fail_line (FirstFalse-one (places f n) x y p q))
lines_one n ls f a b t u (place_fails x p) (uncounted all y q) = absurd (FirstFalse-not_all (places f n) x p all)
lines_one n ls f a b t u (place_fails x p) (line_bad all two bad q) = absurd (FirstFalse-not_all (places f n) x p all)
lines_one n ls f a b t u (place_fails x p) (lines_accepted all two w) = absurd (FirstFalse-not_all (places f n) x p all)
lines_one n ls f a b t u (uncounted all x p) (place_fails y q) = absurd (FirstFalse-not_all (places f n) y q all)
lines_one n ls f a b t u (uncounted all x p) (uncounted every y q) =
    (refl, ap orient_fail_line (shells_one IsCounted CountFails count_one count_not (solid_of f n) x y p q))
lines_one n ls f a b t u (uncounted all x p) (line_bad every two bad q) = absurd (shells_none IsCounted CountFails count_one count_not (solid_of f n) x p two)
lines_one n ls f a b t u (uncounted all x p) (lines_accepted every two w) = absurd (shells_none IsCounted CountFails count_one count_not (solid_of f n) x p two)
lines_one n ls f a b t u (line_bad all two bad p) (place_fails y q) = absurd (FirstFalse-not_all (places f n) y q all)
lines_one n ls f a b t u (line_bad all two bad p) (uncounted every y q) = absurd (shells_none IsCounted CountFails count_one count_not (solid_of f n) y q two)
lines_one n ls f a b t u (line_bad all two bad p) (line_bad every both worse q) = (refl, ap illegal_line (bad_one (solid_of f n) 2 ls bad worse p q))
lines_one n ls f a b t u (line_bad all two bad p) (lines_accepted every both w) = absurd (bad_not (solid_of f n) 2 ls bad p w)
lines_one n ls f a b t u (lines_accepted all two w) (place_fails y q) = absurd (FirstFalse-not_all (places f n) y q all)
lines_one n ls f a b t u (lines_accepted all two w) (uncounted every y q) = absurd (shells_none IsCounted CountFails count_one count_not (solid_of f n) y q two)
lines_one n ls f a b t u (lines_accepted all two w) (line_bad every both bad q) = absurd (bad_not (solid_of f n) 2 ls bad q w)
lines_one n ls f a b t u (lines_accepted all two w) (lines_accepted every both v) = (refl, refl)

pub verifying_one : OneVerifying
verifying_one text f a b t u (text_too_large p) (text_too_large q) = (refl, refl)
verifying_one text f a b t u (text_too_large p) (head_bad few bad q) = absurd (omega (arith, p, few))
verifying_one text f a b t u (text_too_large p) (named few m ms names q) = absurd (omega (arith, p, few))
verifying_one text f a b t u (head_bad few bad p) (text_too_large q) = absurd (omega (arith, few, q))
verifying_one text f a b t u (head_bad few bad p) (head_bad less worse q) = (refl, ap illegal_line (first_one (cut_lines text) bad worse p q))
verifying_one text f a b t u (head_bad few bad p) (named less m ms names q) = absurd (names_not text m ms bad names p)
verifying_one text f a b t u (named few n ls names p) (text_too_large q) = absurd (omega (arith, few, q))
verifying_one text f a b t u (named few n ls names p) (head_bad less bad q) = absurd (names_not text n ls bad names q)
verifying_one text f a b t u (named few n ls names p) (named less m ms other q) =
    let same = names_one text n m ls ms names other in
    lines_one m ms f a b t u (subst (λ k. OfOrientLines k ms f a t) same.0 (subst (λ (x : List (List ℕ)). OfOrientLines n x f a t) same.1 p)) q

-- Orienting.

rings_same : (l : List ℕ) → AreSameOrRings l l
rings_same l = inl refl

zip_same : (ls : List (List ℕ)) → AllZip AreSameOrRings ls ls
zip_same [] = tt
zip_same (l ∷ ls) = (inl refl, zip_same ls)

spelled_same : (l m : List ℕ) (x y : OrientLine) → IsSpelled l x → IsSpelled m y → x ≡ y → l ≡ m
spelled_same l m x y p q e = p.1 ∙ ap spelling e ∙ sym q.1

module _ (s : SolidData) (ready : OfAllShells IsReady s) where
  as_one : (i : ℕ) (l m : List ℕ) (x y : OrientLine) → IsSpelled l x → IsSpelled m y → FitsAs s i x → FitsAs s i y → AreSameOrRings l m
  as_one i l m (Head n) y p q fit git = absurd fit
  as_one i l m (Flags shell flags) (Head n) p q fit git = absurd git
  as_one i l m (Flags shell flags) (Flags other more) p q (k, of, fit) (j, on, git) =
      let a = of.at in let b = on.at in let c = of.numbered in let d = on.numbered in
      let same : j ≡ k = omega (arith, a, b) in
      let shells : shell ≡ other = omega (arith, c, d, same) in
      let one : flags ≡ more = one_fit s k (ready k of.within).counted (ready k of.within).reached flags more fit (subst (λ h. FlagsFit s h more) same git) in
      inl (spelled_same l m (Flags shell flags) (Flags other more) p q (ap (λ h. Flags h flags) shells ∙ ap (Flags other) one))
  as_one i l m (Flags shell flags) (Ring other rows) p q (k, of, fit) (j, on, (numbers, e, ring)) =
      let a = of.at in let b = on.at in
      let same : j ≡ k = omega (arith, a, b) in
      absurd (refuses s k numbers flags (ready k of.within).counted (subst (λ h. OddRing s h numbers) same ring) fit)
  as_one i l m (Flags shell flags) End p q (k, of, fit) git = let a = of.at in let lt = of.within in absurd (omega (arith, a, lt, git))
  as_one i l m (Ring shell rows) (Head n) p q fit git = absurd git
  as_one i l m (Ring shell rows) (Flags other more) p q (k, of, (numbers, e, ring)) (j, on, git) =
      let a = of.at in let b = on.at in
      let same : k ≡ j = omega (arith, a, b) in
      absurd (refuses s j numbers more (ready j on.within).counted (subst (λ h. OddRing s h numbers) same ring) git)
  as_one i l m (Ring shell rows) (Ring other more) p q fit git = inr ((shell, rows, p), (other, more, q))
  as_one i l m (Ring shell rows) End p q (k, of, fit) git = let a = of.at in let lt = of.within in absurd (omega (arith, a, lt, git))
  as_one i l m End (Head n) p q fit git = absurd git
  as_one i l m End (Flags other more) p q fit (k, of, git) = let a = of.at in let lt = of.within in absurd (omega (arith, a, lt, fit))
  as_one i l m End (Ring other more) p q fit (k, of, git) = let a = of.at in let lt = of.within in absurd (omega (arith, a, lt, fit))
  as_one i l m End End p q fit git = inl (spelled_same l m End End p q refl)

  zip_fits : (i : ℕ) (ls ms : List (List ℕ)) → length ls ≡ length ms → AllByRecursion (Fits s) (enumerate_from i ls)
      → AllByRecursion (Fits s) (enumerate_from i ms) → AllZip AreSameOrRings ls ms
  zip_fits i [] [] e p q = tt
  zip_fits i [] (m ∷ ms) e p q = absurd (omega (arith, e))
  zip_fits i (l ∷ ls) [] e p q = absurd (omega (arith, e))
  zip_fits i (l ∷ ls) (m ∷ ms) e ((x, is, fit), p) ((y, also, git), q) = (as_one i l m x y is also fit git, zip_fits (i + 1) ls ms (omega (arith, e)) p q)

ring_over : (ls ms : List (List ℕ)) → AllZip AreSameOrRings ls ms → HasRing ls → HasRing ms
ring_over [] ms z h = absurd h
ring_over (l ∷ ls) [] z h = absurd z
ring_over (l ∷ ls) (m ∷ ms) (inl e, z) (inl r) = inl (subst IsRingLine e r)
ring_over (l ∷ ls) (m ∷ ms) (inr b, z) (inl r) = inl b.1
ring_over (l ∷ ls) (m ∷ ms) (a, z) (inr h) = inr (ring_over ls ms z h)

ring_back : (ls ms : List (List ℕ)) → AllZip AreSameOrRings ls ms → HasRing ms → HasRing ls
ring_back [] [] z h = h
ring_back [] (m ∷ ms) z h = absurd z
ring_back (l ∷ ls) [] z h = absurd z
ring_back (l ∷ ls) (m ∷ ms) (inl e, z) (inl r) = inl (subst IsRingLine (sym e) r)
ring_back (l ∷ ls) (m ∷ ms) (inr b, z) (inl r) = inl b.0
ring_back (l ∷ ls) (m ∷ ms) (a, z) (inr h) = inr (ring_back ls ms z h)

answer_one : (ls ms : List (List ℕ)) (a b : Answer) → AllZip AreSameOrRings ls ms → IsAnswerOf ls a → IsAnswerOf ms b → a ≡ b
answer_one ls ms a b z (inl p) (inl q) = p.1 ∙ sym q.1
answer_one ls ms a b z (inl p) (inr q) = absurd (q.0 (ring_over ls ms z p.0))
answer_one ls ms a b z (inr p) (inl q) = absurd (p.0 (ring_back ls ms z q.0))
answer_one ls ms a b z (inr p) (inr q) = p.1 ∙ sym q.1

oriented_one : (s : SolidData) (n : ℕ) (a b : Answer) (t u : List ℕ) → OfAllShells IsReady s → IsOriented s n a t → IsOriented s n b u
    → (a ≡ b) × AllZip AreSameOrRings (cut_lines t) (cut_lines u)
oriented_one s n a b t u ready p q =
    let x = p.whole.ended in
    let y = q.whole.ended in
    let z = zip_fits s ready 2 p.lines q.lines (omega (arith, x, y)) p.whole.each q.whole.each in
    let heads : p.names.head ≡ q.names.head = spelled_same p.names.head q.names.head (Head (record { 0 = n })) (Head (record { 0 = n })) p.names.names
    q.names.names refl in (
      answer_one p.lines q.lines a b z p.answer q.answer,
      subst (λ (ls : List (List ℕ)). AllZip AreSameOrRings ls (cut_lines u)) (sym p.names.cut)
          (subst (AllZip AreSameOrRings (p.names.head ∷ p.lines)) (sym q.names.cut) (inl heads, z)),
    )

same_text : (t u : List ℕ) → t ≡ u → AllZip AreSameOrRings (cut_lines t) (cut_lines u)
same_text t u e = subst (λ (x : List ℕ). AllZip AreSameOrRings (cut_lines t) (cut_lines x)) e (zip_same (cut_lines t))

pub orienting_one : OneOrientation
orienting_one n f a b t u (misplaced x p) (misplaced y q) = (refl, same_text t u (ap fail_line (FirstFalse-one (places f n) x y p q)))
orienting_one n f a b t u (misplaced x p) (unready all y q) = absurd (FirstFalse-not_all (places f n) x p all)
orienting_one n f a b t u (misplaced x p) (oriented all ready q) = absurd (FirstFalse-not_all (places f n) x p all)
orienting_one n f a b t u (unready all x p) (misplaced y q) = absurd (FirstFalse-not_all (places f n) y q all)
orienting_one n f a b t u (unready all x p) (unready every y q) =
    (refl, same_text t u (ap orient_fail_line (shells_one IsReady IsFirstFailing failing_one failing_not (solid_of f n) x y p q)))
orienting_one n f a b t u (unready all x p) (oriented every ready q) =
    absurd (shells_none IsReady IsFirstFailing failing_one failing_not (solid_of f n) x p ready)
orienting_one n f a b t u (oriented all ready p) (misplaced y q) = absurd (FirstFalse-not_all (places f n) y q all)
orienting_one n f a b t u (oriented all ready p) (unready every y q) =
    absurd (shells_none IsReady IsFirstFailing failing_one failing_not (solid_of f n) y q ready)
orienting_one n f a b t u (oriented all ready p) (oriented every also q) = oriented_one (solid_of f n) n a b t u ready p q

-- What is owed is accepted.

pub orientation_accepted : OrientationIsAccepted
orientation_accepted n f a text all ready (misplaced x p) few = absurd (FirstFalse-not_all (places f n) x p all)
orientation_accepted n f a text all ready (unready holds x p) few = absurd (shells_none IsReady IsFirstFailing failing_one failing_not (solid_of f n) x p ready)
orientation_accepted n f a text all ready (oriented holds also o) few =
    named few n o.lines o.names (lines_accepted all (λ k lt. (ready k lt).counted) o.whole)
