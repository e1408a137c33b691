-- Two accepted certificates of one shell differ in reach lines alone.
use Rattle.std.specs.Prelude.{◌≡◌, ◌⊎◌, ℕ, suc, ◌-◌, ◌==◌, Bool, true, false, cond, List, [], ◌∷◌, length, map, filter, find, Some}
use Rattle.std.specs.List.{AllZip}
use Rattle.std.proofs.Common.{refl, sym, ◌∙◌, ap, subst, arith, inl, inr, ⊎_elim}
use Rattle.std.proofs.lemmas.Bool.{eq-eqb, eqb-true}
use Rattle.brep_walk.specs.OpenPlaces.{shell_solid_of}
use Rattle.brep_walk.proofs.ShellSolids.{shell_is_numbered}
use Rattle.solid_data.specs.SolidData.{SolidData}
use Rattle.solid_data.proofs.Members.{Has}
use Rattle.cert_state.proofs.Segment.{AreGoodRows}
use Rattle.open_certificate.specs.Line.{OpenLine, head, shell, edge, lone, cycle, path, point, reach, border, end, spelling, IsSpelled}
use Rattle.open_certificate.specs.Progress.{progress_from_latest, shell_of, FitsLine, is_shell, is_edge, is_corner, is_reach, is_border, is_last, asked}
use Rattle.open_certificate.specs.Legal.{IsLegalAfter, IsOpenLegal}
use Rattle.open_certificate.proofs.Borders.{turned}
use Rattle.open_certificate.proofs.Facts.{AllFit, FitsAll, fits_all}
use Rattle.open_certificate.proofs.Sound.{good_shell}
use Rattle.cert_lines.specs.Line.{cut_lines}
use Rattle.open_commands.proofs.Shells.{open_shell}
use Rattle.open_laws.specs.AlikeLines.{AlikeButReach, AcceptedDifferInReach}
use Rattle.open_laws.proofs.LineLists.{some_here, some_later}
use Rattle.open_laws.proofs.SameLines.{kind, next_kind, kind_at, kind_due, waits_for_shell, tests_tell, kinds_count, kinds_any, the_shell, shell_is}
use Rattle.open_laws.proofs.SameLines.{edge_lines}
use Rattle.open_laws.proofs.SameLines.{corner_lines, border_lines}
use Rattle.open_laws.proofs.SameParts.{fit_at, no_test}

-- the same, or both reach lines
abbrev Alike : OpenLine → OpenLine → Type 0
Alike x y = (x ≡ y) ⊎ ((r t : ℕ) × (x ≡ reach r) × (y ≡ reach t))

-- ---- lines in order

-- each fits behind those before it, and END came
abbrev IsRun : SolidData → List OpenLine → List OpenLine → Type 0
IsRun s before [] = (progress_from_latest s before).ended ≡ true
IsRun s before (l ∷ ls) = FitsLine s (progress_from_latest s before) l × IsRun s (l ∷ before) ls

run_of : (s : SolidData) (before : List OpenLine) (texts : List (List ℕ)) → IsLegalAfter s before texts
    → (ls : List OpenLine) × AllZip IsSpelled texts ls × IsRun s before ls
run_of s before [] ended = ([], tt, ended)
run_of s before (t ∷ texts) (l, is_l, fits, more) = let k = run_of s (l ∷ before) texts more in (l ∷ k.0, (is_l, k.1), (fits, k.2))

run_fits : (s : SolidData) (before ls : List OpenLine) → AllFit s before → IsRun s before ls
    → AllFit s (turned ls before) × ((progress_from_latest s (turned ls before)).ended ≡ true)
run_fits s before [] fit ended = (fit, ended)
run_fits s before (l ∷ ls) fit run = run_fits s (l ∷ before) ls (run.0, fit) run.1

in_turned : (ls before : List OpenLine) (x : OpenLine) → Has ls x ⊎ Has before x → Has (turned ls before) x
in_turned [] before x (inl m) = absurd m
in_turned [] before x (inr m) = m
in_turned (l ∷ ls) before x (inl (inl e)) = in_turned ls (l ∷ before) x (inr (inl e))
in_turned (l ∷ ls) before x (inl (inr m)) = in_turned ls (l ∷ before) x (inl m)
in_turned (l ∷ ls) before x (inr m) = in_turned ls (l ∷ before) x (inr (inr m))

zip_turned : (R : OpenLine → OpenLine → Type 0) (ls ms us ws : List OpenLine) → length ls ≡ length ms → AllZip R (turned ls us) (turned ms ws)
    → AllZip R ls ms × AllZip R us ws
zip_turned R [] [] us ws e z = (tt, z)
zip_turned R [] (m ∷ ms) us ws e z = absurd (omega (arith, e))
zip_turned R (l ∷ ls) [] us ws e z = absurd (omega (arith, e))
zip_turned R (l ∷ ls) (m ∷ ms) us ws e z =
    let k = zip_turned R ls ms (l ∷ us) (m ∷ ws) (omega (arith, e)) z in ((k.1.0, k.0), k.1.1)

-- ---- the kinds of both are the same

kind_of_shell : (x : OpenLine) → is_shell x ≡ true → kind x ≡ 0
kind_of_shell x t = eqb-true (kind x) 0 (sym (tests_tell x).0 ∙ t)

module _ (s : SolidData) where
  ends_same : (us ws : List OpenLine) → map kind us ≡ map kind ws → (progress_from_latest s us).ended ≡ (progress_from_latest s ws).ended
  unfolding progress_from_latest
  ends_same us ws same = kinds_any is_last 5 (λ x. (tests_tell x).5) us ws same

  due_same : (us ws : List OpenLine) → map kind us ≡ map kind ws → find is_shell us ≡ find is_shell ws
      → kind_at (progress_from_latest s us) ≡ kind_at (progress_from_latest s ws)
  unfolding progress_from_latest
  due_same us ws same heads = λ i. next_kind (kinds_any is_shell 0 (λ x. (tests_tell x).0) us ws same i)
      ((asked (heads i)).0 - kinds_count is_edge 1 (λ x. (tests_tell x).1) us ws same i)
      ((asked (heads i)).1 - kinds_count is_corner 2 (λ x. (tests_tell x).2) us ws same i)
      ((asked (heads i)).2 - kinds_count is_reach 3 (λ x. (tests_tell x).3) us ws same i)
      ((asked (heads i)).3 - kinds_count is_border 4 (λ x. (tests_tell x).4) us ws same i)

  kinds_same : (us ws ls ms : List OpenLine) → IsRun s us ls → IsRun s ws ms
      → ((x y : OpenLine) → Has ls x → Has ms y → is_shell x ≡ true → is_shell y ≡ true → x ≡ y) → map kind us ≡ map kind ws
      → find is_shell us ≡ find is_shell ws → (map kind (turned ls us) ≡ map kind (turned ms ws)) × (length ls ≡ length ms)
  kinds_same us ws [] [] run go one same heads = (same, refl)
  kinds_same us ws [] (m ∷ ms) run go one same heads = absurd (no_test (sym go.0.0 ∙ (sym (ends_same us ws same) ∙ run)))
  kinds_same us ws (l ∷ ls) [] run go one same heads = absurd (no_test (sym run.0.0 ∙ (ends_same us ws same ∙ go)))
  kinds_same us ws (l ∷ ls) (m ∷ ms) run go one same heads =
      let next : kind l ≡ kind m = kind_due s (progress_from_latest s us) (waits_for_shell s us) l run.0.1
      ∙ (due_same us ws same heads ∙ sym (kind_due s (progress_from_latest s ws) (waits_for_shell s ws) m go.0.1)) in
      let shells : is_shell l ≡ is_shell m = (tests_tell l).0 ∙ (ap (λ k. k == 0) next ∙ sym (tests_tell m).0) in
      let k = kinds_same (l ∷ us) (m ∷ ws) ls ms run.1 go.1 (λ x y a b. one x y (inr a) (inr b)) (λ i. next i ∷ same i)
      (by_test (is_shell l) (is_shell m) refl refl shells) in
      (k.0, ap suc k.1)
    where
      by_test : (b c : Bool) → is_shell l ≡ b → is_shell m ≡ c → b ≡ c → cond b (Some l) (find is_shell us) ≡ cond c (Some m) (find is_shell ws)
      by_test true true p q e = ap Some (one l m (inl refl) (inl refl) p q)
      by_test true false p q e = absurd cc
      by_test false true p q e = absurd cc
      by_test false false p q e = heads

-- ---- lines of the same kinds, by kind

abbrev of_kind : ℕ → List OpenLine → List OpenLine
of_kind k xs = filter (λ x. kind x == k) xs

-- edge, vertex and border lines
abbrev IsTold : ℕ → Type 0
IsTold k = (k ≡ 1) ⊎ ((k ≡ 2) ⊎ (k ≡ 4))

by_kinds : (xs ys : List OpenLine) → map kind xs ≡ map kind ys → ((x y : OpenLine) → Has xs x → Has ys y → kind x ≡ kind y → Alike x y ⊎ IsTold (kind x))
    → ((k : ℕ) → IsTold k → of_kind k xs ≡ of_kind k ys) → AllZip Alike xs ys
by_kinds [] [] e pairs told = tt
by_kinds [] (y ∷ ys) e pairs told = absurd cc
by_kinds (x ∷ xs) [] e pairs told = absurd cc
by_kinds (x ∷ xs) (y ∷ ys) e pairs told =
    let same : kind x ≡ kind y = some_here (kind x) (kind y) (map kind xs) (map kind ys) e in (
      ⊎_elim (λ a. a) (λ t. inl (first (of_kind (kind x) xs) (of_kind (kind x) ys) (kind x == kind x) (kind y == kind x) (eq-eqb (kind x) (kind x) refl)
          (eq-eqb (kind y) (kind x) (sym same)) (told (kind x) t))) (pairs x y (inl refl) (inl refl) same),
      by_kinds xs ys (some_later (kind x) (kind y) (map kind xs) (map kind ys) e) (λ u w m n. pairs u w (inr m) (inr n))
          (λ k t. others (of_kind k xs) (of_kind k ys) (kind x == k) (kind y == k) (ap (λ n. n == k) same) (told k t)),
    )
  where
    first : (us ws : List OpenLine) (b c : Bool) → b ≡ true → c ≡ true → cond b (x ∷ us) us ≡ cond c (y ∷ ws) ws → x ≡ y
    first us ws true true p q e = cc
    first us ws true false p q e = absurd cc
    first us ws false c p q e = absurd cc

    others : (us ws : List OpenLine) (b c : Bool) → b ≡ c → cond b (x ∷ us) us ≡ cond c (y ∷ ws) ws → us ≡ ws
    others us ws true true p e = cc
    others us ws true false p e = absurd cc
    others us ws false true p e = absurd cc
    others us ws false false p e = e

end_of_kind : (y : OpenLine) → kind y ≡ 5 → y ≡ end
end_of_kind head e = absurd cc
end_of_kind (shell n a b c d f) e = absurd cc
end_of_kind (edge a b) e = absurd cc
end_of_kind (lone a) e = absurd cc
end_of_kind (cycle rs) e = absurd cc
end_of_kind (path rs) e = absurd cc
end_of_kind (point face l) e = absurd cc
end_of_kind (reach r) e = absurd cc
end_of_kind (border rs) e = absurd cc
end_of_kind end e = refl

reach_of_kind : (y : OpenLine) → kind y ≡ 3 → (r : ℕ) × (y ≡ reach r)
reach_of_kind head e = absurd cc
reach_of_kind (shell n a b c d f) e = absurd cc
reach_of_kind (edge a b) e = absurd cc
reach_of_kind (lone a) e = absurd cc
reach_of_kind (cycle rs) e = absurd cc
reach_of_kind (path rs) e = absurd cc
reach_of_kind (point face l) e = absurd cc
reach_of_kind (reach r) e = (r, refl)
reach_of_kind (border rs) e = absurd cc
reach_of_kind end e = absurd cc

module _ (s : SolidData) (good : AreGoodRows (shell_of s)) (f g : FitsAll s) where
  told_lines : (k : ℕ) → IsTold k → of_kind k f.lines ≡ of_kind k g.lines
  told_lines k (inl e) = subst (λ n. of_kind n f.lines ≡ of_kind n g.lines) (sym e)
      (subst (λ test. filter test f.lines ≡ filter test g.lines) (λ i x. (tests_tell x).1 i) (edge_lines s good f g))
  told_lines k (inr (inl e)) = subst (λ n. of_kind n f.lines ≡ of_kind n g.lines) (sym e)
      (subst (λ test. filter test f.lines ≡ filter test g.lines) (λ i x. (tests_tell x).2 i) (corner_lines s good f g))
  told_lines k (inr (inr e)) = subst (λ n. of_kind n f.lines ≡ of_kind n g.lines) (sym e)
      (subst (λ test. filter test f.lines ≡ filter test g.lines) (λ i x. (tests_tell x).4 i) (border_lines s good f g))

  one_shell : (x y : OpenLine) → Has f.lines x → Has g.lines y → is_shell x ≡ true → is_shell y ≡ true → x ≡ y
  one_shell x y m n p q =
      shell_is s f x m p ∙ (ap (λ (ls : List OpenLine). the_shell s (length ls)) (border_lines s good f g) ∙ sym (shell_is s g y n q))

  pairs : (x y : OpenLine) → Has f.lines x → Has g.lines y → kind x ≡ kind y → Alike x y ⊎ IsTold (kind x)
  pairs head y m n e = absurd (let k = fit_at s f.lines f.fit head m in k.fits.1)
  pairs (shell a b c d r p) y m n e =
      inl (inl (one_shell (shell a b c d r p) y m n refl ((tests_tell y).0 ∙ ap (λ k. k == 0) (sym e))))
  pairs (edge a b) y m n e = inr (inl refl)
  pairs (lone a) y m n e = inr (inl refl)
  pairs (cycle rs) y m n e = inr (inr (inl refl))
  pairs (path rs) y m n e = inr (inr (inl refl))
  pairs (point face l) y m n e = inr (inr (inl refl))
  pairs (reach r) y m n e = let k = reach_of_kind y (sym e) in inl (inr (r, k.0, refl, k.1))
  pairs (border rs) y m n e = inr (inr (inr refl))
  pairs end y m n e = inl (inl (sym (end_of_kind y (sym e))))

  alike_but_end : map kind (end ∷ f.lines) ≡ map kind (end ∷ g.lines) → AllZip Alike (end ∷ f.lines) (end ∷ g.lines)
  alike_but_end e = (inl refl, by_kinds f.lines g.lines (some_later 5 5 (map kind f.lines) (map kind g.lines) e) pairs told_lines)

end_no_shell : (x : OpenLine) → end ≡ x → is_shell x ≡ true → ⊥
end_no_shell x e t = no_test (ap is_shell e ∙ t)

-- The lines of two runs for one shell are alike.
runs_alike : (s : SolidData) → AreGoodRows (shell_of s) → (ls ms : List OpenLine) → IsRun s [] ls → IsRun s [] ms → AllZip Alike ls ms
runs_alike s good ls ms run go =
    let a = run_fits s [] ls tt run in
    let b = run_fits s [] ms tt go in
    let f = fits_all s good (turned ls []) a.0 a.1 in
    let g = fits_all s good (turned ms []) b.0 b.1 in
    let in_f : (x : OpenLine) → Has ls x → is_shell x ≡ true → Has f.0.lines x =
    λ x m t. ⊎_elim (λ e. absurd (end_no_shell x e t)) (λ k. k) (subst (λ zs. Has zs x) f.1 (in_turned ls [] x (inl m))) in
    let in_g : (x : OpenLine) → Has ms x → is_shell x ≡ true → Has g.0.lines x =
    λ x m t. ⊎_elim (λ e. absurd (end_no_shell x e t)) (λ k. k) (subst (λ zs. Has zs x) g.1 (in_turned ms [] x (inl m))) in
    let kinds = kinds_same s [] [] ls ms run go (λ x y m n p q. one_shell s good f.0 g.0 x y (in_f x m p) (in_g y n q) p q) refl refl in
    let same : map kind (end ∷ f.0.lines) ≡ map kind (end ∷ g.0.lines) = ap (map kind) (sym f.1) ∙ (kinds.0 ∙ ap (map kind) g.1) in
    let all : AllZip Alike (turned ls []) (turned ms []) =
    subst (λ zs. AllZip Alike zs (turned ms [])) (sym f.1) (subst (AllZip Alike (end ∷ f.0.lines)) (sym g.1) (alike_but_end s good f.0 g.0 same)) in
    (zip_turned Alike ls ms [] [] kinds.1 all).0

spelled_alike : (x y : List ℕ) (l m : OpenLine) → IsSpelled x l → IsSpelled y m → Alike l m → AlikeButReach x y
spelled_alike x y l m p q (inl e) = inl (p.1 ∙ (ap spelling e ∙ sym q.1))
spelled_alike x y l m p q (inr (r, t, is_r, is_t)) = inr ((r, subst (IsSpelled x) is_r p), (t, subst (IsSpelled y) is_t q))

texts_alike : (xs ys : List (List ℕ)) (ls ms : List OpenLine) → AllZip IsSpelled xs ls → AllZip IsSpelled ys ms → AllZip Alike ls ms
    → AllZip AlikeButReach xs ys
texts_alike [] [] ls ms p q z = tt
texts_alike [] (y ∷ ys) [] [] p q z = absurd q
texts_alike [] (y ∷ ys) [] (m ∷ ms) p q z = absurd z
texts_alike [] (y ∷ ys) (l ∷ ls) ms p q z = absurd p
texts_alike (x ∷ xs) ys [] ms p q z = absurd p
texts_alike (x ∷ xs) [] (l ∷ ls) [] p q z = absurd z
texts_alike (x ∷ xs) [] (l ∷ ls) (m ∷ ms) p q z = absurd q
texts_alike (x ∷ xs) (y ∷ ys) (l ∷ ls) [] p q z = absurd q
texts_alike (x ∷ xs) (y ∷ ys) (l ∷ ls) (m ∷ ms) p q z = (spelled_alike x y l m p.0 q.0 z.0, texts_alike xs ys ls ms p.1 q.1 z.1)

legal_alike : (s : SolidData) → AreGoodRows (shell_of s) → (xs ys : List (List ℕ)) → IsOpenLegal s xs → IsOpenLegal s ys → AllZip AlikeButReach xs ys
unfolding IsOpenLegal
legal_alike s good xs ys p q =
    let a = run_of s [] xs p in
    let b = run_of s [] ys q in
    texts_alike xs ys a.0 b.0 a.1 b.1 (runs_alike s good a.0 b.0 a.2 b.2)

pub differ_in_reach : AcceptedDifferInReach
differ_in_reach f n a b limits p q =
    let s : SolidData = shell_solid_of f n in
    let good : AreGoodRows (shell_of s) = good_shell s (open_shell f n).shell (shell_is_numbered f n limits p.placed) (open_shell f n).alone p.joined in
    subst (λ ls. AllZip AlikeButReach ls (cut_lines b)) (sym p.opens.cut)
    (subst (λ ls. AllZip AlikeButReach (p.opens.first ∷ p.lines) ls) (sym q.opens.cut)
    (inl (p.opens.is_head.1 ∙ sym q.opens.is_head.1), legal_alike s good p.lines q.lines p.legal q.legal))
