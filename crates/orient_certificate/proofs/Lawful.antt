-- Exactly one list of flags, or an odd ring.
use Rattle.std.specs.Prelude.{◌≡◌, ◌<◌, ◌⊎◌, ℕ, zero, suc, Bool, true, false, List, [], ◌∷◌, ◌++◌, length, map, reverse, slice_get, Some, None}
use Rattle.std.specs.List.{AllByRecursion}
use Rattle.std.proofs.Common.{refl, sym, ◌∙◌, ap, subst, arith, inl, inr, ⊎_elim, get_or, length-append}
use Rattle.std.proofs.lemmas.Option.{same_Some}
use Rattle.solid_data.specs.Chain.{LeadsTo}
use Rattle.solid_data.specs.Ring.{numbers_from}
use Rattle.solid_data.specs.SolidData.{SolidData}
use Rattle.solid_data.proofs.Members.{Has, All-at}
use Rattle.solid_data.proofs.Occurring.{number_within}
use Rattle.edge_uses.specs.declared.row.Row.{Row}
use Rattle.edge_uses.specs.ShellRows.{rows_of}
use Rattle.edge_uses.proofs.RowFacts.{edges_known}
use Rattle.orient_certificate.specs.declared.crossing.Crossing.{Crossing}
use Rattle.orient_certificate.specs.Partners.{AllHaveTwoRows, AllReached, IsReached}
use Rattle.orient_certificate.specs.Flags.{face_flags, rows_at, FlagsFit}
use Rattle.orient_certificate.specs.OddRing.{OddRing}
use Rattle.orient_certificate.specs.Crossings.{flipped, IsCrossing, AreCrossings, IsGraph, Climb, Meets, Agrees, AllAgree, partner_of}
use Rattle.orient_certificate.specs.Laws.{RingsRefuseFlags, FlagsOrRing, ExactlyOne}
use Rattle.solid_data.specs.SolidData.{same_flag}
use Rattle.solid_data.specs.declared.solid.Shell.{Shell}
use Rattle.std.specs.Prelude.{Option}
use Rattle.orient_certificate.proofs.Places.{has_partner}
use Rattle.orient_certificate.proofs.Walks.{climb_steps, odd_walk, none_agree, alike_along}
use Rattle.orient_certificate.proofs.Crossed.{bare_at, graph_made, faces_counted, leads_from, fits_made, fits_agree, ring_walk, walk_ring}
use Rattle.orient_certificate.proofs.Stepping.{pushed_all}

-- a list of choices, one for each number below n
pub chosen : {A : Type 0} (P : ℕ → A → Type 0) (n : ℕ) → ((k : ℕ) → k < n → (x : A) × P k x)
    → (xs : List A) × (length xs ≡ n) × ((k : ℕ) (x : A) → slice_get xs k ≡ Some x → P k x)
chosen P zero f = ([], refl, λ k x at. absurd cc)
chosen P (suc n) f =
    let xs = chosen P n (λ k lt. f k (omega (arith, lt))) in
    let x = f n (omega arith) in
    (xs.0 ++ x.0 ∷ [], omega (arith, length-append xs.0 (x.0 ∷ []), xs.1), pushed_all P xs.0 (xs.0 ++ x.0 ∷ []) x.0 n refl xs.1 xs.2 x.1)

known : (s : SolidData) (o : Option Shell) → AllByRecursion (λ (r : Row). Has (rows_of s o).edges r.edge.0) (rows_of s o).rows
known s None = tt
known s (Some h) = edges_known s h

row_at : (rows : List Row) (r : ℕ) → r < length rows → (row : Row) × (slice_get rows r ≡ Some row)
row_at [] r lt = absurd (omega (arith, lt))
row_at (x ∷ rows) zero lt = (x, refl)
row_at (x ∷ rows) (suc r) lt = row_at rows r (omega (arith, lt))

-- each row is a step
crossing : (s : SolidData) (k : ℕ) → AllHaveTwoRows (rows_at s k) → (r : ℕ) → r < length (rows_at s k).rows → (c : Crossing) × IsCrossing s k r c
crossing s k two r lt =
    let row = row_at (rows_at s k).rows r lt in
    let p = has_partner (rows_at s k) two (known s (slice_get s.shells k)) r row.0 row.1 in
    let a = bare_at s k r p.1.row p.1.at_r in
    let b = bare_at s k p.0 p.1.partner p.1.at_m in (
      record { from = p.1.row.at.face.0; to = p.1.partner.at.face.0; partner = p.0; flips = same_flag a.0.along b.0.along },
      record {
        partners = p.1;
        from = (p.1.row, p.1.at_r, refl);
        to = (p.1.partner, p.1.at_m, refl);
        flips = λ x y at_x at_y.
            ap (λ (w : Row). same_flag w.along b.0.along) (same_Some a.0 x (sym a.1 ∙ at_x)) ∙ ap (λ (w : Row). same_flag x.along w.along)
            (same_Some b.0 y (sym b.1 ∙ at_y));
      },
    )

pub crossings : (s : SolidData) (k : ℕ) → AllHaveTwoRows (rows_at s k) → (cs : List Crossing) × AreCrossings s k cs
crossings s k two =
    let cs = chosen (IsCrossing s k) (length (rows_at s k).rows) (crossing s k two) in
    (cs.0, record { each = cs.1; tell = cs.2 })

pub refuses : RingsRefuseFlags
refuses s k rows flags two ring fit =
    let cs = crossings s k two in
    let graph : IsGraph (rows_at s k).face_count cs.0 = graph_made s k cs.0 (rows_at s k).face_count cs.1 refl in
    none_agree cs.0 flags rows (fits_agree s k cs.0 (rows_at s k).face_count flags cs.1 graph (faces_counted s (slice_get s.shells k)) fit)
    (ring_walk s k cs.0 cs.1 rows ring)

-- two lists that are alike at each place
same_lists : (xs ys : List Bool) → length xs ≡ length ys → ((i : ℕ) → i < length xs → get_or xs i false ≡ get_or ys i false) → xs ≡ ys
same_lists [] [] e h = refl
same_lists [] (y ∷ ys) e h = absurd (omega (arith, e))
same_lists (x ∷ xs) [] e h = absurd (omega (arith, e))
same_lists (x ∷ xs) (y ∷ ys) e h =
    let rest : xs ≡ ys = same_lists xs ys (omega (arith, e)) (λ i lt. h (suc i) (omega (arith, lt))) in
    ap (λ z. z ∷ xs) (h zero (omega arith)) ∙ ap (λ zs. y ∷ zs) rest

first_same : (xs ys : List Bool) → length xs ≡ length ys → (0 < length xs → get_or xs 0 false ≡ get_or ys 0 false) → slice_get xs 0 ≡ slice_get ys 0
first_same [] [] e h = refl
first_same [] (y ∷ ys) e h = absurd (omega (arith, e))
first_same (x ∷ xs) [] e h = absurd (omega (arith, e))
first_same (x ∷ xs) (y ∷ ys) e h = ap Some (h (omega arith))

same_first : (xs ys : List Bool) → slice_get xs 0 ≡ slice_get ys 0 → get_or xs 0 false ≡ get_or ys 0 false
same_first [] [] e = refl
same_first [] (y ∷ ys) e = absurd cc
same_first (x ∷ xs) [] e = absurd cc
same_first (x ∷ xs) (y ∷ ys) e = same_Some x y e

-- what can be told of each is told of all, or of one it isn't so
every_or_one : {A : Type 0} (P : A → Type 0) → ((x : A) → P x ⊎ (P x → ⊥)) → (xs : List A) → ((r : ℕ) (x : A) → slice_get xs r ≡ Some x → P x)
    ⊎ ((r : ℕ) × (x : A) × (slice_get xs r ≡ Some x) × (P x → ⊥))
every_or_one P dec [] = inl (λ r x at. absurd cc)
every_or_one {A = A} P dec (y ∷ ys) = ⊎_elim (λ p. ⊎_elim (λ all. inl (each p all)) (λ one. inr (suc one.0, one.1, one.2, one.3)) (every_or_one P dec ys))
    (λ ne. inr (zero, y, refl, ne)) (dec y)
  where
    each : P y → ((r : ℕ) (x : A) → slice_get ys r ≡ Some x → P x) → (r : ℕ) (x : A) → slice_get (y ∷ ys) r ≡ Some x → P x
    each p all zero x at = subst P (same_Some y x at) p
    each p all (suc r) x at = all r x at

flag_or : (a b : Bool) → (a ≡ b) ⊎ (a ≡ b → ⊥)
flag_or true true = inl refl
flag_or true false = inr (λ e. let k : true ≡ false = e in absurd (cc))
flag_or false true = inr (λ e. let k : false ≡ true = e in absurd (cc))
flag_or false false = inl refl

get_at : (xs : List Bool) (i : ℕ) → i < length xs → slice_get xs i ≡ Some (get_or xs i false)
get_at [] i lt = absurd (omega (arith, lt))
get_at (x ∷ xs) zero lt = refl
get_at (x ∷ xs) (suc i) lt = get_at xs i (omega (arith, lt))

-- the flag that a chain of steps gives a face, the first face's its own
abbrev Given : List Crossing → Bool → ℕ → Bool → Type 0
Given cs first f flag = (path : List ℕ) × Climb cs f flag path 0 first

given : (cs : List Crossing) (first : Bool) (f : ℕ) → LeadsTo (Meets cs) 0 f → (flag : Bool) × ((f ≡ 0 → flag ≡ first) × Given cs first f flag)
given cs first zero chain = (first, ((λ e. refl), ([], (refl, refl))))
given cs first (suc f) chain = let t = climb_steps cs chain.0 0 (suc f) first chain.1 in (t.0, ((λ e. absurd (omega (arith, e))), (t.1, t.2)))

-- two lists of flags that fit are one
pub one_fit : (s : SolidData) (k : ℕ) → AllHaveTwoRows (rows_at s k) → AllReached (rows_at s k) → (x y : List Bool) → FlagsFit s k x → FlagsFit s k y → x ≡ y
one_fit s k two reached x y fx fy =
    let cs = crossings s k two in
    let n : ℕ = (rows_at s k).face_count in
    let graph : IsGraph n cs.0 = graph_made s k cs.0 n cs.1 refl in
    let counted : n ≡ length (face_flags (slice_get s.shells k)) = faces_counted s (slice_get s.shells k) in
    let ax : AllAgree x cs.0 = fits_agree s k cs.0 n x cs.1 graph counted fx in
    let ay : AllAgree y cs.0 = fits_agree s k cs.0 n y cs.1 graph counted fy in
    same_lists x y (fx.each ∙ sym fy.each) (λ f lt.
    let chain = leads_from s k cs.0 cs.1 f
    (All-at (IsReached (rows_at s k)) (numbers_from 0 n) reached f (number_within 0 n f (omega arith) (omega (arith, lt, fx.each, counted)))) in
    alike_along cs.0 x y ax ay chain.0 0 f chain.1 (same_first x y (fx.first ∙ sym fy.first)))

pub flags_or : FlagsOrRing
flags_or s k two reached = by_all (every_or_one (Agrees x) (λ c. flag_or (get_or x c.to false) (flipped c.flips (get_or x c.from false))) cs.0)
  where
    cs : (cs : List Crossing) × AreCrossings s k cs
    cs = crossings s k two

    n : ℕ
    n = (rows_at s k).face_count

    graph : IsGraph n cs.0
    graph = graph_made s k cs.0 n cs.1 refl

    counted : n ≡ length (face_flags (slice_get s.shells k))
    counted = faces_counted s (slice_get s.shells k)

    first : Bool
    first = get_or (face_flags (slice_get s.shells k)) 0 false

    all : (xs : List Bool) × (length xs ≡ n) × ((f : ℕ) (b : Bool) → slice_get xs f ≡ Some b → ((f ≡ 0 → b ≡ first) × Given cs.0 first f b))
    all = chosen (λ f b. ((f ≡ 0 → b ≡ first) × Given cs.0 first f b)) n
        (λ f lt. given cs.0 first f
        (leads_from s k cs.0 cs.1 f (All-at (IsReached (rows_at s k)) (numbers_from 0 n) reached f (number_within 0 n f (omega arith) (omega (arith, lt))))))

    x : List Bool
    x = all.0

    by_all : AllAgree x cs.0 ⊎ ((r : ℕ) × (c : Crossing) × (slice_get cs.0 r ≡ Some c) × (Agrees x c → ⊥))
        → ExactlyOne (FlagsFit s k) ⊎ ((rows : List ℕ) × OddRing s k rows)
    by_all (inl agree) =
        let own : slice_get x 0 ≡ slice_get (face_flags (slice_get s.shells k)) 0 = first_same x (face_flags (slice_get s.shells k)) (all.1 ∙ counted)
        (λ lt. (all.2 0 (get_or x 0 false) (get_at x 0 lt)).0 refl) in
        let fit : FlagsFit s k x = fits_made s k cs.0 n x cs.1 graph counted all.1 own agree in
        inl (x, fit, λ y fy. one_fit s k two reached y x fy fit)
    by_all (inr (r, c, at, ne)) =
        let from = (all.2 c.from (get_or x c.from false) (get_at x c.from (omega (arith, graph.from_low r c at, all.1)))).1 in
        let to = (all.2 c.to (get_or x c.to false) (get_at x c.to (omega (arith, graph.to_low r c at, all.1)))).1 in
        inr (
          reverse from.0 ++ r ∷ map (partner_of cs.0) to.0,
          walk_ring s k cs.0 cs.1 (reverse from.0 ++ r ∷ map (partner_of cs.0) to.0)
              (odd_walk n cs.0 graph r c (get_or x c.from false) (get_or x c.to false) from.0 to.0 0 first at from.1 to.1 ne),
        )
