-- What the edge lines show: each edge has one row, or two that are mates.
use Rattle.std.specs.Prelude.{◌≡◌, ℕ, zero, suc, ◌+◌, ◌*◌, ◌≤◌, ◌==◌, ◌&&◌, ◌⊎◌, Bool, true, false, not, List, [], ◌∷◌, length, map, Contains, Some, None}
use Rattle.std.specs.Prelude.{slice_get}
use Rattle.std.specs.List.{cons_option}
use Rattle.std.proofs.Common.{refl, sym, ◌∙◌, ap, subst, arith, inl, inr, ⊎_elim}
use Rattle.std.proofs.lemmas.Bool.{eq-eqb, and_from}
use Rattle.solid_data.specs.declared.solid.EdgeId.{EdgeId}
use Rattle.solid_data.proofs.Members.{Has, NoRepeat, total, Has-from_Contains, Contains-from_Has, covers, count_by-total}
use Rattle.edge_uses.specs.declared.row.Row.{Row}
use Rattle.edge_uses.specs.ShellRows.{ShellRows}
use Rattle.edge_uses.specs.RowRelations.{row_count}
use Rattle.edge_uses.proofs.Counting.{uses_of_edge, uses-most, counts_of_edge, one_place}
use Rattle.cert_state.specs.Progress.{Progress, FitsEdge, IsAbove, first_of, row_named, row_edge}
use Rattle.cert_state.proofs.Corner.{AreNamedMates, MatesHold}
use Rattle.cert_state.proofs.Segment.{AreGoodRows, Falls, falls_none, falls_more, named_has, row_has, counted_named, mates_of_line}
use Rattle.open_certificate.specs.Sound.{IsOnce, IsBorder, row_total}
use Rattle.open_certificate.specs.Progress.{OpenProgress, FitsLone}

-- Numbers that are at least what is listed for them, and whose sum is no more, are as listed.
least_listed : (f : ℕ → ℕ) (xs : List (ℕ × ℕ)) → ((x : ℕ × ℕ) → Has xs x → x.1 ≤ f x.0) → total (λ (x : ℕ × ℕ). x.1) xs ≤ total f (map (λ (x : ℕ × ℕ). x.0) xs)
least_listed f [] low = omega arith
least_listed f (x ∷ xs) low = omega (arith, low x (inl refl), least_listed f xs (λ y m. low y (inr m)))

all_listed : (f : ℕ → ℕ) (xs : List (ℕ × ℕ)) → ((x : ℕ × ℕ) → Has xs x → x.1 ≤ f x.0) → total f (map (λ (x : ℕ × ℕ). x.0) xs) ≤ total (λ (x : ℕ × ℕ). x.1) xs
    → (x : ℕ × ℕ) → Has xs x → f x.0 ≡ x.1
all_listed f [] low high x m = absurd m
all_listed f (y ∷ xs) low high x (inl e) =
    subst (λ (z : ℕ × ℕ). f z.0 ≡ z.1) e (omega (arith, low y (inl refl), high, least_listed f xs (λ z n. low z (inr n))))
all_listed f (y ∷ xs) low high x (inr m) = all_listed f xs (λ z n. low z (inr n)) (omega (arith, low y (inl refl), high)) x m

-- the edge of a line, and how many rows it lists
pub record IsEntry (d : ShellRows) (x : ℕ × ℕ) : Type 0 where
  pub known : Has d.edges x.0
  pub ways : ((x.1 ≡ 1) × (1 ≤ row_count d x.0 true + row_count d x.0 false)) ⊎ ((x.1 ≡ 2) × (1 ≤ row_count d x.0 true) × (1 ≤ row_count d x.0 false))

-- the row is there, and its edge was listed with one row
abbrev pub IsListedAlone : ShellRows → List (ℕ × ℕ) → ℕ → Type 0
IsListedAlone d entries a = (row : Row) × (row_named d a ≡ Some row) × Has entries (row.edge.0, 1)

-- one of the rows is on the edge
abbrev pub IsListedBy : ShellRows → List ℕ → ℕ → Type 0
IsListedBy d alone e = (a : ℕ) × (row : Row) × Contains alone a × (row_named d a ≡ Some row) × (row.edge.0 ≡ e)

pub record EdgeFacts (d : ShellRows) (mates : List (ℕ × ℕ)) (alone : List ℕ) (es : List ℕ) (n : ℕ) : Type 0 where
  pub falls : Falls es
  pub number : length es ≡ n
  pub hold : MatesHold d mates
  pub entries : List (ℕ × ℕ)
  pub edges_are : map (λ (x : ℕ × ℕ). x.0) entries ≡ es
  pub listed_is : total (λ (x : ℕ × ℕ). x.1) entries ≡ 2 * length mates + length alone
  pub each : (x : ℕ × ℕ) → Has entries x → IsEntry d x
  pub lone : (a : ℕ) → Contains alone a → IsListedAlone d entries a
  pub by_lone : (x : ℕ × ℕ) → Has entries x → x.1 ≡ 1 → IsListedBy d alone x.0

pub no_edges : (d : ShellRows) → EdgeFacts d [] [] [] 0
no_edges d = record {
  falls = tt;
  number = refl;
  hold = λ r m c. absurd (omega (arith, c.1));
  entries = [];
  edges_are = refl;
  listed_is = omega arith;
  each = λ x m. absurd m;
  lone = λ a c. absurd (omega (arith, c.1));
  by_lone = λ x m. absurd m;
}

along_here : (d : ShellRows) (a : ℕ) (row : Row) (e : ℕ) → row_named d a ≡ Some row → row.edge.0 ≡ e → row.along ≡ true → 1 ≤ row_count d e true
along_here d a row e at is_e way = counted_named (λ (r : Row). (r.edge.0 == e) && r.along) d a row at
    (and_from (row.edge.0 == e) row.along (eq-eqb row.edge.0 e is_e) way)

against_here : (d : ShellRows) (a : ℕ) (row : Row) (e : ℕ) → row_named d a ≡ Some row → row.edge.0 ≡ e → row.along ≡ false → 1 ≤ row_count d e false
against_here d a row e at is_e way = counted_named (λ (r : Row). (r.edge.0 == e) && not r.along) d a row at
    (and_from (row.edge.0 == e) (not row.along) (eq-eqb row.edge.0 e is_e) (ap not way))

pub edge_step : (d : ShellRows) (at : Progress) (mates : List (ℕ × ℕ)) (alone es : List ℕ) (n a b : ℕ) → AreGoodRows d → EdgeFacts d mates alone es n
    → at.last_edge ≡ first_of es
    → FitsEdge d at a b → EdgeFacts d ((a, b) ∷ mates) alone (cons_option (row_edge (row_named d a)) es) (suc n)
edge_step d at mates alone es n a b good facts last h =
    let e : ℕ = h.along_row.edge.0 in
    let listed : row_edge (row_named d a) ≡ Some e = ap row_edge h.at_a in
    let here : IsEntry d (e, 2) = record {
      known = named_has (λ (r : Row). Has d.edges r.edge.0) d a h.along_row good.edges h.at_a;
      ways = inr (
        refl,
        along_here d a h.along_row e h.at_a refl h.along,
        against_here d b h.against_row e h.at_b (ap (λ (x : EdgeId). x.0) (sym h.one_edge))
            h.against,
      );
    } in
    subst (λ o. EdgeFacts d ((a, b) ∷ mates) alone (cons_option o es) (suc n)) (sym listed) (record {
      falls = (falls_more es e (subst (λ o. IsAbove o e) last h.rises) facts.falls, facts.falls);
      number = ap suc facts.number;
      hold = λ r m c. ⊎_elim (λ same. subst (λ (p : ℕ × ℕ). AreNamedMates d p.0 p.1) same (mates_of_line d at a b h))
          (λ k. facts.hold r m (Contains-from_Has mates (r, m) k)) (Has-from_Contains ((a, b) ∷ mates) (r, m) c);
      entries = (e, 2) ∷ facts.entries;
      edges_are = ap (λ xs. e ∷ xs) facts.edges_are;
      listed_is = omega (arith, facts.listed_is);
      each = λ x m. ⊎_elim (λ same. subst (IsEntry d) same here) (λ k. facts.each x k) m;
      lone = λ x c. (let l = facts.lone x c in (l.0, l.1, inr l.2));
      by_lone = λ x m one. ⊎_elim (λ same. absurd (let k : ◌≡◌ {A = ℕ} 2 x.1 = ap (λ (y : ℕ × ℕ). y.1) same in omega (arith, k, one)))
          (λ k. facts.by_lone x k one) m;
    })

pub lone_step : (d : ShellRows) (at : OpenProgress) (mates : List (ℕ × ℕ)) (alone es : List ℕ) (n a : ℕ) → AreGoodRows d → EdgeFacts d mates alone es n
    → at.last_edge ≡ first_of es
    → FitsLone d at a → EdgeFacts d mates (a ∷ alone) (cons_option (row_edge (row_named d a)) es) (suc n)
lone_step d at mates alone es n a good facts last h =
    let e : ℕ = h.row.edge.0 in
    let listed : row_edge (row_named d a) ≡ Some e = ap row_edge h.at_a in
    let here : IsEntry d (e, 1) = record {
      known = named_has (λ (r : Row). Has d.edges r.edge.0) d a h.row good.edges h.at_a;
      ways = inl (refl, one_way h.row.along refl);
    } in
    subst (λ o. EdgeFacts d mates (a ∷ alone) (cons_option o es) (suc n)) (sym listed) (record {
      falls = (falls_more es e (subst (λ o. IsAbove o e) last h.rises) facts.falls, facts.falls);
      number = ap suc facts.number;
      hold = facts.hold;
      entries = (e, 1) ∷ facts.entries;
      edges_are = ap (λ xs. e ∷ xs) facts.edges_are;
      listed_is = omega (arith, facts.listed_is);
      each = λ x m. ⊎_elim (λ same. subst (IsEntry d) same here) (λ k. facts.each x k) m;
      lone = λ x c. ⊎_elim (λ same. subst (IsListedAlone d ((e, 1) ∷ facts.entries)) same (h.row, h.at_a, inl refl))
          (λ k. (let l = facts.lone x (Contains-from_Has alone x k) in (l.0, l.1, inr l.2))) (Has-from_Contains (a ∷ alone) x c);
      by_lone = λ x m one. ⊎_elim (λ same. (a, h.row, Contains-from_Has (a ∷ alone) a (inl refl), h.at_a, ap (λ (y : ℕ × ℕ). y.0) same))
          (λ k. (let l = facts.by_lone x k one in (l.0, l.1, Contains-from_Has (a ∷ alone) l.0 (inr (Has-from_Contains alone l.0 l.2)), l.3, l.4))) m;
    })
  where
    one_way : (b : Bool) → h.row.along ≡ b → 1 ≤ row_count d h.row.edge.0 true + row_count d h.row.edge.0 false
    one_way true way = let k = along_here d a h.row h.row.edge.0 h.at_a refl way in omega (arith, k)
    one_way false way = let k = against_here d a h.row h.row.edge.0 h.at_a refl way in omega (arith, k)

-- as many rows as there are, where a line came for each edge
pub record AreListed (d : ShellRows) (mates : List (ℕ × ℕ)) (alone : List ℕ) (es : List ℕ) (n : ℕ) : Type 0 where
  pub facts : EdgeFacts d mates alone es n
  pub each_edge : length d.edges ≤ n
  pub each_row : 2 * length mates + length alone ≡ length d.rows

entry_low : (d : ShellRows) (x : ℕ × ℕ) → IsEntry d x → x.1 ≤ uses_of_edge d.rows x.0
entry_low d x h = ⊎_elim (λ one. omega (arith, one.0, one.1, counts_of_edge d x.0)) (λ two. omega (arith, two.0, two.1, two.2, counts_of_edge d x.0)) h.ways

-- each listed edge has as many rows as were listed
exact : (d : ShellRows) (mates : List (ℕ × ℕ)) (alone es : List ℕ) (n : ℕ) → (h : AreListed d mates alone es n) → (x : ℕ × ℕ) → Has h.facts.entries x
    → uses_of_edge d.rows x.0 ≡ x.1
exact d mates alone es n h x m =
    let none : NoRepeat (map (λ (y : ℕ × ℕ). y.0) h.facts.entries) = subst NoRepeat (sym h.facts.edges_are) (falls_none es h.facts.falls) in
    let most = uses-most d.rows (map (λ (y : ℕ × ℕ). y.0) h.facts.entries) none in
    all_listed (uses_of_edge d.rows) h.facts.entries (λ y k. entry_low d y (h.facts.each y k)) (omega (arith, most, h.facts.listed_is, h.each_row)) x m

pub total_uses : (d : ShellRows) (e : ℕ) → row_total d e ≡ uses_of_edge d.rows e
total_uses d e = count_by-total (λ (r : Row). r.edge.0 == e) d.rows

from_map : (xs : List (ℕ × ℕ)) (e : ℕ) → Has (map (λ (x : ℕ × ℕ). x.0) xs) e → (x : ℕ × ℕ) × Has xs x × (x.0 ≡ e)
from_map [] e h = absurd h
from_map (x ∷ xs) e (inl same) = (x, inl refl, same)
from_map (x ∷ xs) e (inr h) = let k = from_map xs e h in (k.0, inr k.1, k.2)

-- Where all rows are listed, each edge is used once, or by mates.
pub all_once : (d : ShellRows) (mates : List (ℕ × ℕ)) (alone es : List ℕ) (n : ℕ) → AreListed d mates alone es n → (e : ℕ) → Has d.edges e → IsOnce d e
all_once d mates alone es n h e m =
    let into : (x : ℕ) → Has es x
    → Has d.edges x = λ x k.
    (let y = from_map h.facts.entries x (subst (λ xs. Has xs x) (sym h.facts.edges_are) k) in subst (Has d.edges) y.2 (h.facts.each y.0 y.1).known) in
    let listed : Has es e = covers es d.edges (falls_none es h.facts.falls) into (omega (arith, h.facts.number, h.each_edge)) e m in
    let x = from_map h.facts.entries e (subst (λ xs. Has xs e) (sym h.facts.edges_are) listed) in
    subst (IsOnce d) x.2 (by_ways x.0 (exact d mates alone es n h x.0 x.1) (h.facts.each x.0 x.1).ways)
  where
    by_ways : (x : ℕ × ℕ) → uses_of_edge d.rows x.0 ≡ x.1 → ((x.1 ≡ 1) × (1 ≤ row_count d x.0 true + row_count d x.0 false))
        ⊎ ((x.1 ≡ 2) × (1 ≤ row_count d x.0 true) × (1 ≤ row_count d x.0 false)) → IsOnce d x.0
    by_ways x same (inl one) = inl (total_uses d x.0 ∙ (same ∙ one.0))
    by_ways x same (inr two) =
        let c = counts_of_edge d x.0 in
        inr (omega (arith, same, two.0, two.1, two.2, c), omega (arith, same, two.0, two.1, two.2, c))

-- The rows that were listed as the only ones of their edges are.
pub lone_border : (d : ShellRows) (mates : List (ℕ × ℕ)) (alone es : List ℕ) (n a : ℕ) → AreListed d mates alone es n → Contains alone a
    → (row : Row) × (row_named d a ≡ Some row) × (row_total d row.edge.0 ≡ 1)
lone_border d mates alone es n a h c =
    let l = h.facts.lone a c in
    (l.0, l.1, total_uses d l.0.edge.0 ∙ exact d mates alone es n h (l.0.edge.0, 1) l.2)

-- each row's edge is used once or by mates
abbrev pub OnceRows : ShellRows → Type 0
OnceRows d = (n : ℕ) (a : Row) → slice_get d.rows n ≡ Some a → IsOnce d a.edge.0

pub once_rows : (d : ShellRows) → AreGoodRows d → ((e : ℕ) → Has d.edges e → IsOnce d e) → OnceRows d
once_rows d good once n a at = once a.edge.0 (row_has (λ (r : Row). Has d.edges r.edge.0) d.rows n a good.edges at)

-- an edge that is used once or by mates has one row at most in each direction
pub way_one : (d : ShellRows) (e : ℕ) (b : Bool) → IsOnce d e → 1 ≤ row_count d e b → row_count d e b ≡ 1
way_one d e true (inl one) some = omega (arith, one, some, total_uses d e, counts_of_edge d e)
way_one d e false (inl one) some = omega (arith, one, some, total_uses d e, counts_of_edge d e)
way_one d e true (inr pair) some = pair.0
way_one d e false (inr pair) some = pair.1

-- Each border row is among the rows that were listed as the only ones of their edges.
pub border_listed : (d : ShellRows) (mates : List (ℕ × ℕ)) (alone es : List ℕ) (n : ℕ) → AreGoodRows d → AreListed d mates alone es n → (r : ℕ) → IsBorder d r
    → Contains alone (suc r)
border_listed d mates alone es n good h r (row, at, one) =
    let e : ℕ = row.edge.0 in
    let into : (x : ℕ) → Has es x
    → Has d.edges x = λ x k.
    (let y = from_map h.facts.entries x (subst (λ xs. Has xs x) (sym h.facts.edges_are) k) in subst (Has d.edges) y.2 (h.facts.each y.0 y.1).known) in
    let known : Has d.edges e = row_has (λ (x : Row). Has d.edges x.edge.0) d.rows r row good.edges at in
    let listed : Has es e = covers es d.edges (falls_none es h.facts.falls) into (omega (arith, h.facts.number, h.each_edge)) e known in
    let x = from_map h.facts.entries e (subst (λ xs. Has xs e) (sym h.facts.edges_are) listed) in
    let count : uses_of_edge d.rows x.0.0 ≡ 1 = ap (uses_of_edge d.rows) x.2 ∙ (sym (total_uses d e) ∙ one) in
    let l = h.facts.by_lone x.0 x.1 (sym (exact d mates alone es n h x.0 x.1) ∙ count) in
    subst (Contains alone) (same_row l.0 l.1 l.3 (l.4 ∙ x.2)) l.2
  where
    same_row : (a : ℕ) (x : Row) → row_named d a ≡ Some x → x.edge.0 ≡ row.edge.0 → a ≡ suc r
    same_row zero x at_a is_e = absurd (let k : None ≡ Some x = at_a in cc)
    same_row (suc k) x at_a is_e =
        let p : Row → Bool = λ y. y.edge.0 == row.edge.0 in
        ap suc (one_place p d.rows (sym (count_by-total p d.rows) ∙ one) k r x row at_a at (eq-eqb x.edge.0 row.edge.0 is_e)
        (eq-eqb row.edge.0 row.edge.0 refl))
