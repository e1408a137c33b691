-- The parts of a solid's shells are determined, and so is the text of its certificate.
use Rattle.std.specs.Prelude.{◌≡◌, ◌≤◌, ◌<◌, ◌==◌, ℕ, Bool, true, false, cond, List, [], ◌∷◌, ◌++◌, length, Contains, Some}
use Rattle.std.specs.List.{AllZip}
use Rattle.std.proofs.Common.{refl, sym, ◌∙◌, ap, subst, arith, inl, inr, ⊎_elim, get_or, drop}
use Rattle.std.proofs.lemmas.Bool.{eq-eqb}
use Rattle.iges_base.specs.declared.entry_no.EntryNo.{EntryNo}
use Rattle.brep_walk.specs.SolidOf.{solid_of}
use Rattle.solid_data.specs.SolidData.{SolidData}
use Rattle.solid_data.specs.declared.solid.LoopAt.{LoopAt}
use Rattle.solid_data.specs.declared.solid.RowId.{RowId}
use Rattle.solid_data.specs.declared.solid.Shell.{Shell}
use Rattle.solid_data.proofs.Members.{Has, Has-from_Contains, All-at, total, count_by-total}
use Rattle.edge_uses.specs.ShellRows.{ShellRows, shell_rows}
use Rattle.edge_uses.specs.RowRelations.{IsPaired, Turns, point_count}
use Rattle.edge_uses.specs.Mates.{ArePaired, RunsOn}
use Rattle.edge_uses.proofs.Turn.{one_of_edge, pair_counts, paired_rows, turns_to_one}
use Rattle.vertex_link.specs.Corners.{IsCycle, IsCycleOf, LiesAt}
use Rattle.shell_reach.specs.Reaching.{row_numbers}
use Rattle.shell_reach.proofs.OneOrder.{one_order}
use Rattle.cert_state.specs.Progress.{loops_of}
use Rattle.cert_lines.specs.Written.{certificate_lines, text_of}
use Rattle.cert_lines.specs.declared.version.Version.{Version}
use Rattle.cert_lines.specs.declared.version.Version.TheVariants.{Two}
use Rattle.cert_lines.specs.declared.parts.Certificate.{Certificate}
use Rattle.solid_data.specs.declared.linked.Corner.{Corner}
use Rattle.solid_data.specs.declared.linked.Corner.TheVariants.{Cycle, Point}
use Rattle.cert_lines.specs.declared.parts.ShellPart.{ShellPart}
use Rattle.cert_accept.specs.Accepted.{IsAccepted}
use Rattle.vertex_link.specs.Corners.{LiesAt}
use Rattle.cert_maker.specs.Certified.{AreItsRows, IsPart}
use Rattle.cert_maker.specs.Certified.{IsCertificate}
use Rattle.cert_maker.specs.Certified.{CertificateTextIsAccepted, OneCertificateText}
use Rattle.cert_maker.proofs.Certifying.{certificate_accepted}

row_is : (a b : RowId) → a.0 ≡ b.0 → a ≡ b
row_is a b e = ap (λ n. record { 0 = n }) e

rows_are : (a b : List RowId) → row_numbers a ≡ row_numbers b → a ≡ b
rows_are [] [] e = refl
rows_are [] (y ∷ b) e = absurd cc
rows_are (x ∷ a) [] e = absurd cc
rows_are (x ∷ a) (y ∷ b) e = ap (λ z. z ∷ a) (row_is x y (ap (λ l. get_or l 0 0) e)) ∙ ap (λ l. y ∷ l) (rows_are a b (ap (drop 1) e))

-- Where each item has one that agrees with it, a list has one that agrees with it.
pub one_zip : {A B : Type 0} (R : A → B → Type 0) → ((x : A) (y z : B) → R x y → R x z → y ≡ z) → (xs : List A) (ys zs : List B) → AllZip R xs ys
    → AllZip R xs zs → ys ≡ zs
one_zip R one [] [] [] h k = refl
one_zip R one [] [] (z ∷ zs) h k = absurd k
one_zip R one [] (y ∷ ys) zs h k = absurd h
one_zip R one (x ∷ xs) [] zs h k = absurd h
one_zip R one (x ∷ xs) (y ∷ ys) [] h k = absurd k
one_zip R one (x ∷ xs) (y ∷ ys) (z ∷ zs) h k = ap (λ w. w ∷ ys) (one x y z h.0 k.0) ∙ ap (λ l. z ∷ l) (one_zip R one xs ys zs h.1 k.1)

counted : {A : Type 0} (test : A → Bool) (xs : List A) (a : A) → Has xs a → test a ≡ true → 1 ≤ total (λ x. cond (test x) 1 0) xs
counted test [] a h e = absurd h
counted test (x ∷ xs) a (inl same) e = let here : ◌≡◌ {A = ℕ} (cond (test x) 1 0) 1 = ap (λ t. cond t 1 0) (ap test same ∙ e) in omega (arith, here)
counted test (x ∷ xs) a (inr h) e = omega (arith, counted test xs a h e)

-- a list of whose items one passes a test has one that does
one_passes : {A : Type 0} (test : A → Bool) (xs : List A) (a b : A) → total (λ x. cond (test x) 1 0) xs ≡ 1 → Has xs a → Has xs b → test a ≡ true
    → test b ≡ true → a ≡ b
one_passes test [] a b one h k e g = absurd h
one_passes test (x ∷ xs) a b one (inl h) (inl k) e g = sym h ∙ k
one_passes test (x ∷ xs) a b one (inl h) (inr k) e g = let here : ◌≡◌ {A = ℕ} (cond (test x) 1 0) 1 = ap (λ t. cond t 1 0) (ap test h ∙ e) in absurd
    (omega (arith, here, one, counted test xs b k g))
one_passes test (x ∷ xs) a b one (inr h) (inl k) e g = let here : ◌≡◌ {A = ℕ} (cond (test x) 1 0) 1 = ap (λ t. cond t 1 0) (ap test k ∙ g) in absurd
    (omega (arith, here, one, counted test xs a h e))
one_passes test (x ∷ xs) a b one (inr h) (inr k) e g = one_passes test xs a b (omega (arith, one, counted test xs a h e)) h k e g

module _ (d : ShellRows) (whole : ArePaired d) where
  one_row : (e : ℕ) (way : Bool) (n m : ℕ) → RunsOn d e way n → RunsOn d e way m → n ≡ m
  one_row e way n m a b = one_of_edge d e way n m a.row b.row (pair_counts d e way (subst (IsPaired d) a.edge (paired_rows d whole n a.row a.at))) a.at b.at
      a.edge b.edge a.along b.along

  one_pair : (e : ℕ) (p q : RowId × RowId) → AreItsRows d e p → AreItsRows d e q → p ≡ q
  one_pair e p q h k = ap (λ r. (r, p.1)) (row_is p.0 q.0 (one_row e true p.0.0 q.0.0 h.0 k.0))
      ∙ ap (λ r. (q.0, r)) (row_is p.1 q.1 (one_row e false p.1.0 q.1.0 h.1 k.1))

  -- turns from one row on give one list of rows
  one_walk : (xs ys : List ℕ) (at u w : ℕ) → length xs ≡ length ys → AllZip (Turns d) (at ∷ xs) (xs ++ u ∷ []) → AllZip (Turns d) (at ∷ ys) (ys ++ w ∷ [])
      → xs ≡ ys
  one_walk [] [] at u w long h k = refl
  one_walk [] (y ∷ ys) at u w long h k = absurd (omega (arith, long))
  one_walk (x ∷ xs) [] at u w long h k = absurd (omega (arith, long))
  one_walk (x ∷ xs) (y ∷ ys) at u w long h k =
      let same : y ≡ x = turns_to_one d (paired_rows d whole) at y x k.0 h.0 in
      ap (λ l. x ∷ l) (one_walk xs ys x u w (omega (arith, long)) h.1 (subst (λ z. AllZip (Turns d) (z ∷ ys) (ys ++ w ∷ [])) same k.1))
      ∙ ap (λ z. z ∷ ys) (sym same)

  least_of : (v r q : ℕ) (rs qs : List ℕ) → IsCycle d v r rs → IsCycle d v q qs → q ≤ r
  least_of v r q rs qs h k = ⊎_elim (λ e. omega (arith, e)) (λ m. let later : q < r = All-at (λ x. q < x) qs k.least r m in omega (arith, later))
      (Has-from_Contains (q ∷ qs) r (k.all r h.starts.0))

  one_cycle : (v : ℕ) (xs ys : List ℕ) → IsCycleOf d v xs → IsCycleOf d v ys → xs ≡ ys
  one_cycle v [] ys h k = absurd h
  one_cycle v (r ∷ rs) [] h k = absurd k
  one_cycle v (r ∷ rs) (q ∷ qs) h k =
      let same : q ≡ r = omega (arith, least_of v r q rs qs h k, least_of v q r qs rs k h) in
      ap (λ l. r ∷ l) (one_walk rs qs r r q (omega (arith, h.once, k.once)) h.turns (subst (λ z. AllZip (Turns d) (z ∷ qs) (qs ++ q ∷ [])) same k.turns))
      ∙ ap (λ z. z ∷ qs) (sym same)

  no_point : (v : ℕ) (xs : List ℕ) → IsCycleOf d v xs → point_count d v ≡ 0
  no_point v [] h = absurd h
  no_point v (r ∷ rs) h = h.no_point

  one_point : (v : ℕ) (a b : LoopAt) → point_count d v ≡ 1 → Contains d.points (a, v) → Contains d.points (b, v) → a ≡ b
  one_point v a b one h k =
      let test : LoopAt × ℕ → Bool = λ p. p.1 == v in
      ap (λ (p : LoopAt × ℕ). p.0)
      (one_passes test d.points (a, v) (b, v) (sym (count_by-total test d.points) ∙ one) (Has-from_Contains d.points (a, v) h)
      (Has-from_Contains d.points (b, v) k) (eq-eqb v v refl) (eq-eqb v v refl))

  one_corner : (v : ℕ) (a b : Corner) → LiesAt d v a → LiesAt d v b → a ≡ b
  one_corner v (Cycle xs) (Cycle ys) h k = ap Cycle (rows_are xs ys (one_cycle v (row_numbers xs) (row_numbers ys) h k))
  one_corner v (Cycle xs) (Point b) h k = absurd (omega (arith, no_point v (row_numbers xs) h, k.0.one_point))
  one_corner v (Point a) (Cycle ys) h k = absurd (omega (arith, no_point v (row_numbers ys) k, h.0.one_point))
  one_corner v (Point a) (Point b) h k = ap Point (one_point v a b h.0.one_point h.1 k.1)

-- A part is given by its fields.
same_part : (p q : ShellPart) → p.rows ≡ q.rows → p.edges ≡ q.edges → p.corners ≡ q.corners → p.faces ≡ q.faces → p.reach ≡ q.reach → p.vertices ≡ q.vertices
    → p.loops ≡ q.loops → p ≡ q
same_part p q rows edges corners faces reach vertices loops =
    ap (λ x. record { rows = x; edges = p.edges; corners = p.corners; faces = p.faces; reach = p.reach; vertices = p.vertices; loops = p.loops }) rows
    ∙ (ap (λ x. record { rows = q.rows; edges = x; corners = p.corners; faces = p.faces; reach = p.reach; vertices = p.vertices; loops = p.loops }) edges
    ∙ (ap (λ x. record { rows = q.rows; edges = q.edges; corners = x; faces = p.faces; reach = p.reach; vertices = p.vertices; loops = p.loops }) corners
    ∙ (ap (λ x. record { rows = q.rows; edges = q.edges; corners = q.corners; faces = x; reach = p.reach; vertices = p.vertices; loops = p.loops }) faces
    ∙ (ap (λ x. record { rows = q.rows; edges = q.edges; corners = q.corners; faces = q.faces; reach = x; vertices = p.vertices; loops = p.loops }) reach
    ∙ (ap (λ x. record { rows = q.rows; edges = q.edges; corners = q.corners; faces = q.faces; reach = q.reach; vertices = x; loops = p.loops }) vertices
    ∙ ap (λ x. record { rows = q.rows; edges = q.edges; corners = q.corners; faces = q.faces; reach = q.reach; vertices = q.vertices; loops = x }) loops)))))

one_part : (d : ShellRows) (n : ℕ) (p q : ShellPart) → IsPart d n p → IsPart d n q → p ≡ q
one_part d n p q h k =
    let whole : ArePaired d = h.order.paired.whole in
    same_part p q
    (h.rows ∙ sym k.rows)
    (one_zip (AreItsRows d) (one_pair d whole) d.edges p.edges q.edges h.edges k.edges)
    (one_zip (LiesAt d) (one_corner d whole) d.vertices p.corners q.corners h.corners k.corners)
    (h.faces ∙ sym k.faces)
    (rows_are p.reach q.reach (one_order d (row_numbers p.reach) (row_numbers q.reach) h.reach h.order k.reach k.order))
    (h.vertices ∙ sym k.vertices)
    (h.loops ∙ sym k.loops)

-- a solid has one certificate of those that are made
pub one_certificate : (s : SolidData) (a b : Certificate) → IsCertificate s a → IsCertificate s b → a ≡ b
one_certificate s a b h k =
    let shells : a.shells ≡ b.shells = one_zip (λ (x : Shell) (part : ShellPart). IsPart (shell_rows s x) (loops_of (Some x)) part)
    (λ x p q. one_part (shell_rows s x) (loops_of (Some x)) p q) s.shells a.shells b.shells h.parts k.parts in
    ap (λ (v : Version). record { version = v; solid = a.solid; shells = a.shells }) (h.version ∙ sym k.version)
    ∙ (ap (λ (e : EntryNo). record { version = b.version; solid = e; shells = a.shells }) (h.names ∙ sym k.names)
    ∙ ap (λ x. record { version = b.version; solid = b.solid; shells = x }) shells)

pub text_accepted : CertificateTextIsAccepted
text_accepted f n text placed (c, made, same) = subst (λ t. IsAccepted f t Two (n ∷ [])) (sym same) (certificate_accepted (solid_of f n) c made f n placed refl)

pub one_text : OneCertificateText
one_text f n a b (c, made_a, same_a) (e, made_b, same_b) =
    same_a ∙ (ap (λ x. text_of (certificate_lines x)) (one_certificate (solid_of f n) c e made_a made_b) ∙ sym same_b)
