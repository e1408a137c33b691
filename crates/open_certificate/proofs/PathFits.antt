-- When a path line fits.
use Rattle.std.specs.Prelude.{◌≡◌, ℕ, List, ◌∷◌, length, Option, Some, None, Contains}
use Rattle.std.proofs.Common.{sym, ◌∙◌, ap, subst, arith}
use Rattle.std.proofs.lemmas.Option.{same_Some}
use Rattle.edge_uses.specs.declared.row.Row.{Row}
use Rattle.edge_uses.specs.ShellRows.{ShellRows}
use Rattle.edge_uses.specs.RowRelations.{point_count}
use Rattle.cert_text.specs.Text.{Begins, AreNumbers}
use Rattle.cert_state.specs.Progress.{IsAbove, TurnsTo, row_named, row_start, start_count}
use Rattle.cert_state.specs.CheckState.{corner_size}
use Rattle.cert_state.proofs.Rings.{next_left}
use Rattle.cert_state.proofs.CornerFits.{size_tells, size_of}
use Rattle.open_certificate.specs.Line.{path}
use Rattle.open_certificate.specs.Progress.{OpenProgress, FitsPath, IsChain, last_of, vertex_in}
use Rattle.open_certificate.specs.Walks.{FitsPathLine}

-- the rest of a fitting line whose first number is read
pub path_of : (d : ShellRows) (at : OpenProgress) (text others : List ℕ) (first : ℕ) (rs : List ℕ) → Begins text first others → AreNumbers text rs
    → FitsPathLine d at rs → (ms : List ℕ) × AreNumbers others ms × FitsPath d at first ms
path_of d at text others first rs b h fits = let n = next_left text others first rs b h in (n.0, n.2, subst (FitsPathLine d at) n.1 fits)

pub path_no_row : (d : ShellRows) (at : OpenProgress) (first : ℕ) (ms : List ℕ) → row_named d first ≡ None → FitsPath d at first ms → ⊥
path_no_row d at first ms none fits = let e : None ≡ Some fits.vertex = sym (ap row_start none) ∙ fits.lies_at in cc

pub path_vertex : (d : ShellRows) (at : OpenProgress) (first : ℕ) (ms : List ℕ) (row : Row) → row_named d first ≡ Some row → (fits : FitsPath d at first ms)
    → fits.vertex ≡ row.from.0
path_vertex d at first ms row h fits = same_Some fits.vertex row.from.0 (sym fits.lies_at ∙ ap row_start h)

pub path_low : (d : ShellRows) (at : OpenProgress) (first : ℕ) (ms : List ℕ) (row : Row) (last : Option ℕ) → row_named d first ≡ Some row
    → at.last_vertex ≡ last
    → (IsAbove last row.from.0 → ⊥) → FitsPath d at first ms → ⊥
path_low d at first ms row last h same low fits =
    low (subst (λ o. IsAbove o row.from.0) same (subst (IsAbove at.last_vertex) (path_vertex d at first ms row h fits) fits.rises))

pub path_fits : (d : ShellRows) (at : OpenProgress) (text others : List ℕ) (first end : ℕ) (rs : List ℕ) (row : Row) (last : Option ℕ) (len : ℕ)
    → Begins text first others → AreNumbers text rs → row_named d first ≡ Some row → at.last_vertex ≡ last → IsAbove last row.from.0
    → Contains at.lone end → ((ms : List ℕ) → AreNumbers others ms → IsChain (TurnsTo d at.mates) first ms × (end ≡ last_of first ms)
    × (len ≡ length (first ∷ ms))) → corner_size d row.from.0 ≡ len
    → FitsPathLine d at rs × (vertex_in d (path rs) ≡ Some row.from.0)
path_fits d at text others first end rs row last len b h is_row same above lone chain size =
    let n = next_left text others first rs b h in
    let r = chain n.0 n.2 in
    let s = size_tells d row.from.0 len size (omega (arith, r.2)) in
    let fits : FitsPath d at first n.0 = record {
      vertex = row.from.0;
      lies_at = ap row_start is_row;
      turns = r.0;
      ends = subst (Contains at.lone) r.1 lone;
      whole = sym r.2 ∙ s.1;
      no_point = s.0;
      rises = subst (λ o. IsAbove o row.from.0) (sym same) above;
    } in
    (subst (FitsPathLine d at) (sym n.1) fits, ap (λ xs. vertex_in d (path xs)) n.1 ∙ ap row_start is_row)

pub path_other_size : (d : ShellRows) (at : OpenProgress) (first : ℕ) (ms : List ℕ) (row : Row) (len : ℕ) → row_named d first ≡ Some row
    → (corner_size d row.from.0 ≡ len → ⊥) → len ≡ length (first ∷ ms) → FitsPath d at first ms → ⊥
path_other_size d at first ms row len h differ is fits =
    let v = path_vertex d at first ms row h fits in
    let none : point_count d row.from.0 ≡ 0 = subst (λ x. point_count d x ≡ 0) v fits.no_point in
    let whole : length (first ∷ ms) ≡ start_count d row.from.0 = subst (λ x. length (first ∷ ms) ≡ start_count d x) v fits.whole in
    differ (size_of d row.from.0 none ∙ (sym whole ∙ sym is))
