-- Two lists of legal lines for one shell are the same, line by line, but for reach lines.
use Rattle.std.specs.Prelude.{◌≡◌, ℕ, zero, suc, ◌-◌, ◌≤◌, ◌<◌, ◌==◌, ◌||◌, Bool, true, false, cond, List, [], ◌∷◌, length, map, filter, filter_map}
use Rattle.std.specs.Prelude.{flat_map, find, Contains, Some, None}
use Rattle.std.specs.List.{AllByRecursion, list_any}
use Rattle.std.proofs.Common.{refl, sym, ◌∙◌, ap, subst, arith, inl, inr, ⊎_elim}
use Rattle.solid_data.specs.SolidData.{SolidData}
use Rattle.solid_data.specs.Chain.{LeadsTo}
use Rattle.solid_data.proofs.Members.{Has, Has-from_Contains, Contains-from_Has, All-at, All-from, covers, has_flat_map, has_map}
use Rattle.solid_data.proofs.Trail.{Trail, leads_on, next_on}
use Rattle.edge_uses.specs.ShellRows.{ShellRows}
use Rattle.cert_state.proofs.Segment.{AreGoodRows}
use Rattle.open_certificate.specs.Sound.{IsOnce}
use Rattle.open_certificate.specs.Line.{OpenLine, head, shell, edge, lone, cycle, path, point, reach, border, end}
use Rattle.open_certificate.specs.Progress.{OpenProgress, progress_from_latest, shell_of, FitsOpen, lone_in, mates_in, edge_in, vertex_in, border_in}
use Rattle.open_certificate.specs.Progress.{border_rows, is_shell, is_edge, is_corner, is_reach, is_border, is_last, number_of, asked}
use Rattle.open_certificate.proofs.Borders.{AreBorder, StartApart, Goes, RingFacts, start_apart, goes_one, keeps_steps, no_rings, ring_step, rings_of}
use Rattle.open_certificate.proofs.Facts.{AllFit, FitsAll, facts_listed, proper_of}
use Rattle.open_certificate.proofs.Once.{AreListed, once_rows, lone_border}
use Rattle.open_laws.proofs.LineLists.{all_of_one, falls_same, keyed_same, keys_of_passing, passing, least_of, some_here, some_later}
use Rattle.open_laws.proofs.SameParts.{EdgeIs, CornerIs, BorderIs, ring, one_edge, one_corner, one_border, edge_line_is, corner_line_is, border_line_is}
use Rattle.open_laws.proofs.SameParts.{FitsAt, fit_at}

-- ---- the border lines, the latest first

-- a border line of this first row
first_line : (lines : List OpenLine) (r : ℕ) → Has (filter_map border_in lines) r → (rs : List ℕ) × Has lines (border (r ∷ rs))
first_line [] r m = absurd m
first_line (head ∷ ls) r m = let k = first_line ls r m in (k.0, inr k.1)
first_line (shell n a b c e f ∷ ls) r m = let k = first_line ls r m in (k.0, inr k.1)
first_line (edge a b ∷ ls) r m = let k = first_line ls r m in (k.0, inr k.1)
first_line (lone a ∷ ls) r m = let k = first_line ls r m in (k.0, inr k.1)
first_line (cycle qs ∷ ls) r m = let k = first_line ls r m in (k.0, inr k.1)
first_line (path qs ∷ ls) r m = let k = first_line ls r m in (k.0, inr k.1)
first_line (point face l ∷ ls) r m = let k = first_line ls r m in (k.0, inr k.1)
first_line (reach q ∷ ls) r m = let k = first_line ls r m in (k.0, inr k.1)
first_line (border [] ∷ ls) r m = let k = first_line ls r m in (k.0, inr k.1)
first_line (border (q ∷ qs) ∷ ls) r (inl e) = (qs, inl (ap (λ n. border (n ∷ qs)) e))
first_line (border (q ∷ qs) ∷ ls) r (inr m) = let k = first_line ls r m in (k.0, inr k.1)
first_line (end ∷ ls) r m = let k = first_line ls r m in (k.0, inr k.1)

-- a ring of border rows keeps what goes on from it
kept_by_ring : (d : ShellRows) (alone : List ℕ) → StartApart d alone → (r : ℕ) (rs : List ℕ) → Trail (Goes d alone) r rs r → (x y : ℕ) → Has (r ∷ rs) x
    → Goes d alone x y → Has (r ∷ rs) y
kept_by_ring d alone apart r rs trail x y m g =
    let k = next_on (Goes d alone) r rs r trail x m in
    subst (Has (r ∷ rs)) (goes_one d alone apart x k.0 y k.1 g) (⊎_elim (λ j. inr j) (λ e. inl (sym e)) k.2)

is_ring : (d : ShellRows) (alone : List ℕ) (r q : ℕ) (rs : List ℕ) → BorderIs d alone q (border (r ∷ rs))
    → Trail (Goes d alone) r rs r × AllByRecursion (λ x. r < x) rs
is_ring d alone r q rs (ring ws t above) = (t, above)

-- ---- the kinds of lines

abbrev pub kind : OpenLine → ℕ
kind head = 6
kind (shell n a b c e f) = 0
kind (edge a b) = 1
kind (lone a) = 1
kind (cycle rs) = 2
kind (path rs) = 2
kind (point face l) = 2
kind (reach r) = 3
kind (border rs) = 4
kind end = 5

-- each test of the stands asks for one kind
pub tests_tell : (x : OpenLine) → (is_shell x ≡ (kind x == 0)) × (is_edge x ≡ (kind x == 1)) × (is_corner x ≡ (kind x == 2)) × (is_reach x ≡ (kind x == 3))
    × (is_border x ≡ (kind x == 4)) × (is_last x ≡ (kind x == 5))
tests_tell head = (refl, refl, refl, refl, refl, refl)
tests_tell (shell n a b c e f) = (refl, refl, refl, refl, refl, refl)
tests_tell (edge a b) = (refl, refl, refl, refl, refl, refl)
tests_tell (lone a) = (refl, refl, refl, refl, refl, refl)
tests_tell (cycle rs) = (refl, refl, refl, refl, refl, refl)
tests_tell (path rs) = (refl, refl, refl, refl, refl, refl)
tests_tell (point face l) = (refl, refl, refl, refl, refl, refl)
tests_tell (reach r) = (refl, refl, refl, refl, refl, refl)
tests_tell (border rs) = (refl, refl, refl, refl, refl, refl)
tests_tell end = (refl, refl, refl, refl, refl, refl)

-- lists of the same kinds have as many lines of each
pub kinds_count : (test : OpenLine → Bool) (k : ℕ) → ((x : OpenLine) → test x ≡ (kind x == k)) → (xs ys : List OpenLine) → map kind xs ≡ map kind ys
    → length (filter test xs) ≡ length (filter test ys)
kinds_count test k h [] [] e = refl
kinds_count test k h [] (y ∷ ys) e = absurd cc
kinds_count test k h (x ∷ xs) [] e = absurd cc
kinds_count test k h (x ∷ xs) (y ∷ ys) e =
    step (test x) (test y) (h x ∙ (ap (λ n. n == k) (some_here (kind x) (kind y) (map kind xs) (map kind ys) e) ∙ sym (h y)))
    (kinds_count test k h xs ys (some_later (kind x) (kind y) (map kind xs) (map kind ys) e))
  where
    step : (b c : Bool) → b ≡ c → length (filter test xs) ≡ length (filter test ys)
        → length (cond b (x ∷ filter test xs) (filter test xs)) ≡ length (cond c (y ∷ filter test ys) (filter test ys))
    step true true e same = ap suc same
    step true false e same = absurd cc
    step false true e same = absurd cc
    step false false e same = same

pub kinds_any : (test : OpenLine → Bool) (k : ℕ) → ((x : OpenLine) → test x ≡ (kind x == k)) → (xs ys : List OpenLine) → map kind xs ≡ map kind ys
    → list_any test xs ≡ list_any test ys
kinds_any test k h [] [] e = refl
kinds_any test k h [] (y ∷ ys) e = absurd cc
kinds_any test k h (x ∷ xs) [] e = absurd cc
kinds_any test k h (x ∷ xs) (y ∷ ys) e =
    let here : kind x ≡ kind y = cc in
    let later : map kind xs ≡ map kind ys = cc in
    ap (λ b. b || list_any test xs) (h x ∙ (ap (λ n. n == k) here ∙ sym (h y))) ∙ ap (λ b. test y || b) (kinds_any test k h xs ys later)

-- ---- which kind is due

abbrev pub next_kind : Bool → ℕ → ℕ → ℕ → ℕ → ℕ
next_kind begun (suc e) c r b = 1
next_kind begun zero (suc c) r b = 2
next_kind begun zero zero (suc r) b = 3
next_kind begun zero zero zero (suc b) = 4
next_kind true zero zero zero zero = 5
next_kind false zero zero zero zero = 0

due_edge : (begun : Bool) (e c r b : ℕ) → 0 < e → next_kind begun e c r b ≡ 1
due_edge begun zero c r b h = absurd (omega (arith, h))
due_edge begun (suc e) c r b h = refl

due_corner : (begun : Bool) (e c r b : ℕ) → e ≡ 0 → 0 < c → next_kind begun e c r b ≡ 2
due_corner begun zero zero r b z h = absurd (omega (arith, h))
due_corner begun zero (suc c) r b z h = refl
due_corner begun (suc e) c r b z h = absurd (omega (arith, z))

due_reach : (begun : Bool) (e c r b : ℕ) → e ≡ 0 → c ≡ 0 → 0 < r → next_kind begun e c r b ≡ 3
due_reach begun zero zero zero b y z h = absurd (omega (arith, h))
due_reach begun zero zero (suc r) b y z h = refl
due_reach begun zero (suc c) r b y z h = absurd (omega (arith, z))
due_reach begun (suc e) c r b y z h = absurd (omega (arith, y))

due_border : (begun : Bool) (e c r b : ℕ) → e ≡ 0 → c ≡ 0 → r ≡ 0 → 0 < b → next_kind begun e c r b ≡ 4
due_border begun zero zero zero zero x y z h = absurd (omega (arith, h))
due_border begun zero zero zero (suc b) x y z h = refl
due_border begun zero zero (suc r) b x y z h = absurd (omega (arith, z))
due_border begun zero (suc c) r b x y z h = absurd (omega (arith, y))
due_border begun (suc e) c r b x y z h = absurd (omega (arith, x))

none_due : (begun now : Bool) (e c r b : ℕ) → begun ≡ now → e ≡ 0 → c ≡ 0 → r ≡ 0 → b ≡ 0 → next_kind begun e c r b ≡ next_kind now 0 0 0 0
none_due begun now e c r b p x y z w = λ i. next_kind (p i) (x i) (y i) (z i) (w i)

abbrev pub kind_at : OpenProgress → ℕ
kind_at at = next_kind at.begun at.edges_due at.corners_due at.reach_due at.borders_due

-- nothing is due before the SHELL line
abbrev pub WaitsForShell : OpenProgress → Type 0
WaitsForShell at = at.begun ≡ false → (at.edges_due ≡ 0) × (at.corners_due ≡ 0) × (at.reach_due ≡ 0) × (at.borders_due ≡ 0)

pub kind_due : (s : SolidData) (at : OpenProgress) → WaitsForShell at → (x : OpenLine) → FitsOpen s at x → kind x ≡ kind_at at
kind_due s at waits head fits = absurd fits
kind_due s at waits (shell n a b c e f) fits =
    let z = waits fits.0 in sym (none_due at.begun false at.edges_due at.corners_due at.reach_due at.borders_due fits.0 z.0 z.1 z.2 z.3)
kind_due s at waits (edge a b) fits = sym (due_edge at.begun at.edges_due at.corners_due at.reach_due at.borders_due fits.0)
kind_due s at waits (lone a) fits = sym (due_edge at.begun at.edges_due at.corners_due at.reach_due at.borders_due fits.0)
kind_due s at waits (cycle []) fits = absurd fits
kind_due s at waits (cycle (r ∷ rs)) fits = sym (due_corner at.begun at.edges_due at.corners_due at.reach_due at.borders_due fits.0.0 fits.0.1)
kind_due s at waits (path []) fits = absurd fits
kind_due s at waits (path (r ∷ rs)) fits = sym (due_corner at.begun at.edges_due at.corners_due at.reach_due at.borders_due fits.0.0 fits.0.1)
kind_due s at waits (point face l) fits = sym (due_corner at.begun at.edges_due at.corners_due at.reach_due at.borders_due fits.0.0 fits.0.1)
kind_due s at waits (reach r) fits = sym (due_reach at.begun at.edges_due at.corners_due at.reach_due at.borders_due fits.0.0 fits.0.1 fits.0.2)
kind_due s at waits (border []) fits = absurd fits
kind_due s at waits (border (r ∷ rs)) fits =
    sym (due_border at.begun at.edges_due at.corners_due at.reach_due at.borders_due fits.0.0 fits.0.1 fits.0.2 fits.0.3)
kind_due s at waits end fits =
    sym (none_due at.begun true at.edges_due at.corners_due at.reach_due at.borders_due fits.begun fits.no_edge fits.no_corner fits.no_reach fits.no_border)

none_found : (test : OpenLine → Bool) (xs : List OpenLine) → list_any test xs ≡ false → find test xs ≡ None
none_found test [] e = refl
none_found test (x ∷ xs) e = by_test (test x) e (none_found test xs)
  where
    by_test : (b : Bool) → (b || list_any test xs) ≡ false → (list_any test xs ≡ false → find test xs ≡ None) → cond b (Some x) (find test xs) ≡ None
    by_test true e more = absurd cc
    by_test false e more = more e

pub waits_for_shell : (s : SolidData) (lines : List OpenLine) → WaitsForShell (progress_from_latest s lines)
unfolding progress_from_latest
waits_for_shell s lines e =
    let none = none_found is_shell lines e in (
      ap (λ o. (asked o).0 - number_of is_edge lines) none ∙ omega arith,
      ap (λ o. (asked o).1 - number_of is_corner lines) none ∙ omega arith,
      ap (λ o. (asked o).2 - number_of is_reach lines) none ∙ omega arith,
      ap (λ o. (asked o).3 - number_of is_border lines) none ∙ omega arith,
    )

-- ---- the SHELL line

shell_found : (s : SolidData) (lines : List OpenLine) → AllFit s lines → (n a b c e f : ℕ) → Has lines (shell n a b c e f)
    → find is_shell lines ≡ Some (shell n a b c e f)
unfolding progress_from_latest
shell_found s [] fit n a b c e f m = absurd m
shell_found s (x ∷ ls) fit n a b c e f (inl same) = ap (λ y. cond (is_shell y) (Some y) (find is_shell ls)) same
shell_found s (x ∷ ls) fit n a b c e f (inr m) = by_test (is_shell x) refl (shell_found s ls fit.1 n a b c e f m)
  where
    no_more : (y : OpenLine) → is_shell y ≡ true → FitsOpen s (progress_from_latest s ls) y → list_any is_shell ls ≡ false
    no_more head t fits = absurd fits
    no_more (shell n a b c e f) t fits = fits.0
    no_more (edge a b) t fits = absurd cc
    no_more (lone a) t fits = absurd cc
    no_more (cycle rs) t fits = absurd cc
    no_more (path rs) t fits = absurd cc
    no_more (point face l) t fits = absurd cc
    no_more (reach r) t fits = absurd cc
    no_more (border rs) t fits = absurd cc
    no_more end t fits = absurd cc

    by_test : (t : Bool) → is_shell x ≡ t → find is_shell ls ≡ Some (shell n a b c e f) → cond t (Some x) (find is_shell ls) ≡ Some (shell n a b c e f)
    by_test true t found =
        let none : None ≡ Some (shell n a b c e f) = sym (none_found is_shell ls (no_more x t fit.0.1)) ∙ found in absurd cc
    by_test false t found = found

-- no more border lines than it asks for
borders_asked : (s : SolidData) (lines : List OpenLine) → AllFit s lines → number_of is_border lines ≤ (asked (find is_shell lines)).3
unfolding progress_from_latest
borders_asked s [] fit = omega arith
borders_asked s (head ∷ ls) fit = absurd fit.0.1
borders_asked s (shell n a b c e f ∷ ls) fit =
    let none = ap (λ o. (asked o).3) (none_found is_shell ls fit.0.1.0) in
    let before = borders_asked s ls fit.1 in
    omega (arith, none, before)
borders_asked s (edge a b ∷ ls) fit = borders_asked s ls fit.1
borders_asked s (lone a ∷ ls) fit = borders_asked s ls fit.1
borders_asked s (cycle rs ∷ ls) fit = borders_asked s ls fit.1
borders_asked s (path rs ∷ ls) fit = borders_asked s ls fit.1
borders_asked s (point face l ∷ ls) fit = borders_asked s ls fit.1
borders_asked s (reach r ∷ ls) fit = borders_asked s ls fit.1
borders_asked s (border [] ∷ ls) fit = absurd fit.0.1
borders_asked s (border (r ∷ rs) ∷ ls) fit = let due = fit.0.1.0.3 in omega (arith, due)
borders_asked s (end ∷ ls) fit = borders_asked s ls fit.1

-- the SHELL line of all lines
abbrev pub the_shell : (s : SolidData) → ℕ → OpenLine
the_shell s borders = shell s.entity.0 (length (shell_of s).rows) (length (shell_of s).edges) (length (shell_of s).vertices) (shell_of s).face_count borders

pub shell_is : (s : SolidData) (f : FitsAll s) (x : OpenLine) → Has f.lines x → is_shell x ≡ true → x ≡ the_shell s (number_of is_border f.lines)
unfolding progress_from_latest
shell_is s f x m t = at_line x m t (fit_at s f.lines f.fit x m)
  where
    at_line : (x : OpenLine) → Has f.lines x → is_shell x ≡ true → FitsAt s f.lines x → x ≡ the_shell s (number_of is_border f.lines)
    at_line head m t k = absurd cc
    at_line (shell n a b c e p) m t k =
        let h = k.fits.1.1 in
        let found : (asked (find is_shell f.lines)).3 ≡ p = ap (λ o. (asked o).3) (shell_found s f.lines f.fit n a b c e p m) in
        let most = borders_asked s f.lines f.fit in
        let done = f.done.no_border in
        let borders : p ≡ number_of is_border f.lines = omega (arith, found, most, done) in
        λ i. shell (h.names i) (h.rows_counted i) (h.edges_counted i) (h.corners_counted i) (h.faces_counted i) (borders i)
    at_line (edge a b) m t k = absurd cc
    at_line (lone a) m t k = absurd cc
    at_line (cycle rs) m t k = absurd cc
    at_line (path rs) m t k = absurd cc
    at_line (point face l) m t k = absurd cc
    at_line (reach r) m t k = absurd cc
    at_line (border rs) m t k = absurd cc
    at_line end m t k = absurd cc

-- ---- the lines of each kind

not_edge : (x : OpenLine) → is_edge x ≡ false → (d : ShellRows) → (edge_in d x ≡ None) × (mates_in x ≡ None) × (lone_in x ≡ None)
not_edge head t d = (refl, refl, refl)
not_edge (shell n a b c e f) t d = (refl, refl, refl)
not_edge (edge a b) t d = absurd cc
not_edge (lone a) t d = absurd cc
not_edge (cycle rs) t d = (refl, refl, refl)
not_edge (path rs) t d = (refl, refl, refl)
not_edge (point face l) t d = (refl, refl, refl)
not_edge (reach r) t d = (refl, refl, refl)
not_edge (border rs) t d = (refl, refl, refl)
not_edge end t d = (refl, refl, refl)

not_corner : (d : ShellRows) (x : OpenLine) → is_corner x ≡ false → vertex_in d x ≡ None
not_corner d head t = refl
not_corner d (shell n a b c e f) t = refl
not_corner d (edge a b) t = refl
not_corner d (lone a) t = refl
not_corner d (cycle rs) t = absurd cc
not_corner d (path rs) t = absurd cc
not_corner d (point face l) t = absurd cc
not_corner d (reach r) t = refl
not_corner d (border rs) t = refl
not_corner d end t = refl

not_border : (x : OpenLine) → is_border x ≡ false → border_in x ≡ None
not_border head t = refl
not_border (shell n a b c e f) t = refl
not_border (edge a b) t = refl
not_border (lone a) t = refl
not_border (cycle rs) t = refl
not_border (path rs) t = refl
not_border (point face l) t = refl
not_border (reach r) t = refl
not_border (border rs) t = absurd cc
not_border end t = refl

-- the rings of some border lines, which have all border rows: each begins one of the others too
abbrev begins_ring : (d : ShellRows) (alone firsts rows : List ℕ) → Type 0
begins_ring d alone firsts rows = (r : ℕ) → Has firsts r → (rs : List ℕ) × Has rows r × Trail (Goes d alone) r rs r × AllByRecursion (λ x. r < x) rs

firsts_in : (d : ShellRows) (alone firsts rows others there : List ℕ) → StartApart d alone → begins_ring d alone firsts rows → begins_ring d alone others there
    → RingFacts d alone others there → ((x : ℕ) → Has rows x → Has there x) → (r : ℕ) → Has firsts r → Has others r
firsts_in d alone firsts rows others there apart rings more facts into r m =
    let a = rings r m in
    let b = facts.first r (into r a.1) in
    let f : ℕ = b.0 in
    let in_ring : Has (r ∷ a.0) f = keeps_steps (Goes d alone) (Has (r ∷ a.0)) (λ x y k g. kept_by_ring d alone apart r a.0 a.2 x y k g) b.2.0 r f b.2.1
    (inl refl) in
    let back : LeadsTo (Goes d alone) f r = leads_on (Goes d alone) r a.0 r a.2 f in_ring in
    let c = more f b.1 in
    let in_other : Has (f ∷ c.0) r = keeps_steps (Goes d alone) (Has (f ∷ c.0))
    (λ x y k g. kept_by_ring d alone apart f c.0 c.2 x y k g) back.0 f r back.1 (inl refl) in
    let same : f ≡ r = omega (arith, least_of r a.0 f a.3 in_ring, least_of f c.0 r c.3 in_other) in
    subst (Has others) same b.1

module _ (s : SolidData) (good : AreGoodRows (shell_of s)) where
  abbrev d : ShellRows
  d = shell_of s

  abbrev mates_of : FitsAll s → List (ℕ × ℕ)
  mates_of h = filter_map mates_in h.lines

  abbrev alone_of : FitsAll s → List ℕ
  alone_of h = filter_map lone_in h.lines

  listed_in : (h : FitsAll s) → AreListed d (mates_of h) (alone_of h) (filter_map (edge_in d) h.lines) (number_of is_edge h.lines)
  listed_in h = facts_listed s h.lines d h.facts h.done.no_edge

  borders_in : (h : FitsAll s) → AreBorder d (alone_of h)
  borders_in h a c = lone_border d (mates_of h) (alone_of h) (filter_map (edge_in d) h.lines) (number_of is_edge h.lines) a (listed_in h) c

  edge_known : (h : FitsAll s) (e : ℕ) → Has (filter_map (edge_in d) h.lines) e → Has d.edges e
  edge_known h e m =
      let facts = (listed_in h).facts in
      let x = has_map (λ (x : ℕ × ℕ). x.0) facts.entries e (subst (λ es. Has es e) (sym facts.edges_are) m) in
      subst (Has d.edges) x.2 (facts.each x.0 x.1).known

  all_edges : (h : FitsAll s) → length d.edges ≤ length (filter_map (edge_in d) h.lines)
  all_edges h = omega (arith, (listed_in h).facts.number, (listed_in h).each_edge)

  all_vertices : (h : FitsAll s) → length d.vertices ≤ length (filter_map (vertex_in d) h.lines)
  unfolding progress_from_latest
  all_vertices h = let none = h.done.no_corner in omega (arith, none, h.facts.asks_corners, h.facts.fan_facts.number)

  all_bordered : (h : FitsAll s) → length (flat_map border_rows h.lines) ≡ length (alone_of h)
  unfolding progress_from_latest
  all_bordered h = h.done.all_bordered

  -- two lists of lines for the shell
  module _ (f g : FitsAll s) where
    once : (e : ℕ) → Has d.edges e → IsOnce d e
    once = (proper_of s f).once

    edges_same : filter_map (edge_in d) f.lines ≡ filter_map (edge_in d) g.lines
    edges_same = all_of_one d.edges (filter_map (edge_in d) f.lines) (filter_map (edge_in d) g.lines) (listed_in f).facts.falls (listed_in g).facts.falls
        (edge_known f) (edge_known g) (all_edges f) (all_edges g)

    edge_told : (h : FitsAll s) (x : OpenLine) → Has (filter is_edge h.lines) x → (e : ℕ) × (edge_in d x ≡ Some e) × EdgeIs d e x
    edge_told h x m =
        let k = passing is_edge h.lines x m in
        edge_line_is s (mates_of h) (alone_of h) h.lines h.fit (borders_in h) (λ p c. c) (λ a c. c) x k.0 k.1

    pub edge_lines : filter is_edge f.lines ≡ filter is_edge g.lines
    edge_lines =
        keyed_same (edge_in d) (λ x e. EdgeIs d e x) (λ x y e p q. one_edge d good once x y e p q) (filter is_edge f.lines) (filter is_edge g.lines)
        (edge_told f) (edge_told g)
        (keys_of_passing is_edge (edge_in d) (λ x t. (not_edge x t d).0) f.lines
        ∙ (edges_same ∙ sym (keys_of_passing is_edge (edge_in d) (λ x t. (not_edge x t d).0) g.lines)))

    mates_same : mates_of f ≡ mates_of g
    mates_same =
        sym (keys_of_passing is_edge mates_in (λ x t. (not_edge x t d).1) f.lines)
        ∙ (ap (filter_map mates_in) edge_lines ∙ keys_of_passing is_edge mates_in (λ x t. (not_edge x t d).1) g.lines)

    alone_same : alone_of f ≡ alone_of g
    alone_same =
        sym (keys_of_passing is_edge lone_in (λ x t. (not_edge x t d).2) f.lines)
        ∙ (ap (filter_map lone_in) edge_lines ∙ keys_of_passing is_edge lone_in (λ x t. (not_edge x t d).2) g.lines)

    mates_there : (p : ℕ × ℕ) → Contains (mates_of g) p → Contains (mates_of f) p
    mates_there p c = subst (λ ms. Contains ms p) (sym mates_same) c

    alone_there : (a : ℕ) → Contains (alone_of g) a → Contains (alone_of f) a
    alone_there a c = subst (λ ns. Contains ns a) (sym alone_same) c

    pub corner_lines : filter is_corner f.lines ≡ filter is_corner g.lines
    corner_lines =
        keyed_same (vertex_in d) (λ x v. CornerIs d (mates_of f) (alone_of f) v x)
        (λ x y v p q. one_corner d (mates_of f) (alone_of f) good (listed_in f).facts.hold (once_rows d good once) (borders_in f) x y v p q)
        (filter is_corner f.lines) (filter is_corner g.lines)
        (λ x m. let k = passing is_corner f.lines x m in
        corner_line_is s (mates_of f) (alone_of f) f.lines f.fit (borders_in f) (λ p c. c) (λ a c. c) x k.0 k.1)
        (λ x m. let k = passing is_corner g.lines x m in
        corner_line_is s (mates_of f) (alone_of f) g.lines g.fit (borders_in f) mates_there alone_there x k.0 k.1)
        (keys_of_passing is_corner (vertex_in d) (not_corner d) f.lines
        ∙ (all_of_one d.vertices (filter_map (vertex_in d) f.lines) (filter_map (vertex_in d) g.lines) f.facts.fan_facts.falls g.facts.fan_facts.falls
        (λ v m. (f.facts.fan_facts.each v m).0) (λ v m. (g.facts.fan_facts.each v m).0) (all_vertices f) (all_vertices g)
        ∙ sym (keys_of_passing is_corner (vertex_in d) (not_corner d) g.lines)))

    starts : StartApart d (alone_of f)
    starts = start_apart d (alone_of f) good (proper_of s f).fanned (borders_in f)

    -- the lines of the one or the other, by the border rows of the first
    module _ (h : FitsAll s) (named : (p : ℕ × ℕ) → Contains (mates_of h) p → Contains (mates_of f) p)
        (listed : (a : ℕ) → Contains (alone_of h) a → Contains (alone_of f) a) (count : length (alone_of f) ≡ length (alone_of h)) where
      border_told : (x : OpenLine) → Has h.lines x → is_border x ≡ true → (r : ℕ) × (border_in x ≡ Some r) × BorderIs d (alone_of f) r x
      border_told x m t = border_line_is s (mates_of f) (alone_of f) h.lines h.fit (borders_in f) named listed x m t

      rings : RingFacts d (alone_of f) (filter_map border_in h.lines) (flat_map border_rows h.lines)
      rings = rings_of s (alone_of f) h.lines starts h.fit listed

      begin_rings : begins_ring d (alone_of f) (filter_map border_in h.lines) (flat_map border_rows h.lines)
      begin_rings r m =
          let l = first_line h.lines r m in
          let b = border_told (border (r ∷ l.0)) l.1 refl in
          let k = is_ring d (alone_of f) r b.0 l.0 b.2 in
          (l.0, has_flat_map border_rows h.lines (border (r ∷ l.0)) r l.1 (inl refl), k.0, k.1)

      rows_whole : (a : ℕ) → Contains (alone_of f) a → Has (flat_map border_rows h.lines) a
      rows_whole a c = covers (flat_map border_rows h.lines) (alone_of f) rings.apart (λ x m. Has-from_Contains (alone_of f) x (rings.within x m))
          (omega (arith, all_bordered h, count)) a (Has-from_Contains (alone_of f) a c)

    firsts_same : filter_map border_in f.lines ≡ filter_map border_in g.lines
    firsts_same =
        let here = begin_rings f (λ p c. c) (λ a c. c) refl in
        let long : length (alone_of f) ≡ length (alone_of g) = ap (λ (ns : List ℕ). length ns) alone_same in
        let there = begin_rings g mates_there alone_there long in
        let facts_f = rings f (λ p c. c) (λ a c. c) refl in
        let facts_g = rings g mates_there alone_there long in
        falls_same (filter_map border_in f.lines) (filter_map border_in g.lines) facts_f.falls facts_g.falls
        (firsts_in d (alone_of f) (filter_map border_in f.lines) (flat_map border_rows f.lines) (filter_map border_in g.lines) (flat_map border_rows g.lines)
        starts here there facts_g (λ x m. rows_whole g mates_there alone_there long x (facts_f.within x m)))
        (firsts_in d (alone_of f) (filter_map border_in g.lines) (flat_map border_rows g.lines) (filter_map border_in f.lines) (flat_map border_rows f.lines)
        starts there here facts_f (λ x m. rows_whole f (λ p c. c) (λ a c. c) refl x (facts_g.within x m)))

    pub border_lines : filter is_border f.lines ≡ filter is_border g.lines
    border_lines =
        keyed_same border_in (λ x r. BorderIs d (alone_of f) r x) (one_border d (alone_of f) starts) (filter is_border f.lines) (filter is_border g.lines)
        (λ x m. let k = passing is_border f.lines x m in border_told f (λ p c. c) (λ a c. c) refl x k.0 k.1)
        (λ x m. let k = passing is_border g.lines x m in border_told g mates_there alone_there (ap (λ (ns : List ℕ). length ns) alone_same) x k.0 k.1)
        (keys_of_passing is_border border_in not_border f.lines ∙ (firsts_same ∙ sym (keys_of_passing is_border border_in not_border g.lines)))
