-- Where paths and borders begin, also where the vertices lie far apart.
use Rattle.std.specs.Prelude.{◌≡◌, ◌<◌, ◌≤◌, ◌+◌, ◌-◌, ◌⊎◌, ℕ, Contains, Option, Some, None, MatchOption, length, replicate, slice_get, slice_set, get_or}
use Rattle.std.proofs.Common.{refl, sym, ◌∙◌, ap, subst}
use Rattle.solid_data.proofs.Members.{All-at, has_get}
use Rattle.solid_data.specs.Cells.{Celled, cell_of, with_cell}
use Rattle.solid_data.specs.Ranges.{IsWithin, IsSpanOf}
use Rattle.edge_uses.specs.ShellRows.{ShellRows, AreRows}
use Rattle.edge_uses.specs.RowRelations.{AreMates, Follows}
use Rattle.edge_uses.specs.declared.row.Row.{Row}
use Rattle.open_certificate.specs.Sound.{IsBorder}
use Rattle.open_shells.specs.Mating.{AreOnce}
use Rattle.open_shells.specs.FanParts.{IsHeadOf, AreHeadCells}
use Rattle.open_shells.specs.BorderParts.{IsStartOf, AreBorderCells}
use Rattle.shell_tables.proofs.StartCells.{IsOnVertices, blank_there, member_within, with_kept}
use Rattle.open_shells.proofs.HeadRows.{HeadBefore, head_none, heads_kept, heads_noted, head_done}
use Rattle.open_shells.proofs.BorderRows.{StartBefore, start_none, starts_step, start_done}

pub ends_of_row : (d : ShellRows) (i : ℕ) (row : Row) → AreRows d → slice_get d.rows i ≡ Some row
    → Contains d.vertices row.from.0 × Contains d.vertices row.to.0
ends_of_row d i row rows at = All-at (λ (r : Row). Contains d.vertices r.from.0 × Contains d.vertices r.to.0) d.rows rows.vertices_hold row
    (has_get d.rows i row at)

pub to_within : (d : ShellRows) (c : Celled (Option ℕ)) (i : ℕ) (row : Row) → AreRows d → IsSpanOf c.span d.vertices → slice_get d.rows i ≡ Some row
    → IsWithin c.span row.to.0
to_within d c i row rows is at = member_within d.vertices c.span row.to.0 is.holds (ends_of_row d i row rows at).1

-- the heads that follow the first i rows
pub record HeadsNoted (d : ShellRows) (i : ℕ) (c : Celled (Option ℕ)) : Type 0 where
  pub on : IsOnVertices {T = Option ℕ} d None c
  pub each : (v : ℕ) → IsWithin c.span v → HeadBefore d i v (get_or c.cells (v - c.span.least) None)

pub heads_first : (d : ShellRows) (c : Celled (Option ℕ)) → IsOnVertices {T = Option ℕ} d None c → c.cells ≡ replicate c.span.count None → HeadsNoted d 0 c
heads_first d c on cells = record { on = on; each = λ v within. head_none d v (get_or c.cells (v - c.span.least) None) (blank_there None c v cells within) }

pub head_known : (d : ShellRows) (i : ℕ) (c : Celled (Option ℕ)) (row : Row) → HeadsNoted d i c → slice_get d.rows i ≡ Some row → Contains c.numbers row.to.0
head_known d i c row t at = subst (λ ns. Contains ns row.to.0) (sym t.on.numbers) (ends_of_row d i row t.on.rows at).1

pub heads_more : (d : ShellRows) (i : ℕ) (c new : Celled (Option ℕ)) (row : Row) (o : Option ℕ) (P : Type 0) → HeadsNoted d i c → slice_get d.rows i ≡ Some row
    → (o ≡ None → IsBorder d i → ⊥) → MatchOption o P (λ h. IsBorder d i × Follows d i h)
    → MatchOption o (new ≡ c) (λ h. new ≡ with_cell c row.to.0 (Some h)) → HeadsNoted d (i + 1) new
heads_more d i c new row None P t at no_border is_border e =
    subst (HeadsNoted d (i + 1)) (sym e) (record { on = t.on; each = heads_kept d i c.span c.cells c.cells (no_border refl) refl t.each })
heads_more d i c new row (Some h) P t at no_border is_border e = subst (HeadsNoted d (i + 1)) (sym e) (record {
  on = with_kept d None (Some h) c row.to.0 t.on;
  each = heads_noted d i c.span row h c.cells (slice_set c.cells (row.to.0 - c.span.least) (Some h)) at (to_within d c i row t.on.rows t.on.span at) t.on.long
      is_border.0 is_border.1 refl t.each;
})

pub heads_all : (d : ShellRows) (i : ℕ) (c : Celled (Option ℕ)) → AreOnce d → length d.rows ≤ i → HeadsNoted d i c
    → ((m : ℕ) (a : Row) → slice_get d.rows m ≡ Some a → IsBorder d m ⊎ ((t : ℕ) × AreMates d m t)) → AreHeadCells d c
heads_all d i c whole past t decide =
    record {
      span = t.on.span;
      blank = t.on.blank_is;
      all = λ v within. head_done d i v (get_or c.cells (v - c.span.least) None) whole past (t.each v within)
          decide;
    }

pub head_there : (d : ShellRows) (c : Celled (Option ℕ)) (v : ℕ) (o : Option ℕ) → AreHeadCells d c → IsWithin c.span v → o ≡ cell_of c v → IsHeadOf d v o
head_there d c v o h within e = subst (IsHeadOf d v) (sym (e ∙ ap (λ b. get_or c.cells (v - c.span.least) b) h.blank)) (h.all v within)

-- the border rows among the first i rows
pub record BordersNoted (d : ShellRows) (i : ℕ) (c : Celled (Option ℕ)) : Type 0 where
  pub on : IsOnVertices {T = Option ℕ} d None c
  pub each : (v : ℕ) → IsWithin c.span v → StartBefore d i v (get_or c.cells (v - c.span.least) None)

pub borders_first : (d : ShellRows) (c : Celled (Option ℕ)) → IsOnVertices {T = Option ℕ} d None c → c.cells ≡ replicate c.span.count None → BordersNoted d 0 c
borders_first d c on cells = record { on = on; each = λ v within. start_none d v (get_or c.cells (v - c.span.least) None) (blank_there None c v cells within) }

pub border_known : (d : ShellRows) (i : ℕ) (c : Celled (Option ℕ)) (row : Row) → BordersNoted d i c → slice_get d.rows i ≡ Some row
    → Contains c.numbers row.from.0
border_known d i c row t at = subst (λ ns. Contains ns row.from.0) (sym t.on.numbers) (ends_of_row d i row t.on.rows at).0

pub borders_more : (d : ShellRows) (i : ℕ) (c new : Celled (Option ℕ)) (row : Row) (o : Option ℕ) (P : Type 0) → BordersNoted d i c
    → slice_get d.rows i ≡ Some row → (o ≡ None → IsBorder d i → ⊥) → MatchOption o P (λ b. IsBorder d i × (b ≡ i))
    → MatchOption o (new ≡ c) (λ h. new ≡ with_cell c row.from.0 (Some h)) → BordersNoted d (i + 1) new
borders_more d i c new row None P t at none some e = subst (BordersNoted d (i + 1)) (sym e) (record {
  on = t.on;
  each = starts_step d i c.span row None c.cells c.cells P at (member_within d.vertices c.span row.from.0 t.on.span.holds (ends_of_row d i row t.on.rows at).0)
      t.on.long none some refl t.each;
})
borders_more d i c new row (Some h) P t at none some e = subst (BordersNoted d (i + 1)) (sym e) (record {
  on = with_kept d None (Some h) c row.from.0 t.on;
  each = starts_step d i c.span row (Some h) c.cells (slice_set c.cells (row.from.0 - c.span.least) (Some h)) P at
      (member_within d.vertices c.span row.from.0 t.on.span.holds (ends_of_row d i row t.on.rows at).0) t.on.long none some refl t.each;
})

pub borders_all : (d : ShellRows) (i : ℕ) (c : Celled (Option ℕ)) → length d.rows ≤ i → BordersNoted d i c → AreBorderCells d c
borders_all d i c past t =
    record { span = t.on.span; blank = t.on.blank_is; all = λ v within. start_done d i v (get_or c.cells (v - c.span.least) None) past (t.each v within) }

pub border_there : (d : ShellRows) (c : Celled (Option ℕ)) (v : ℕ) (o : Option ℕ) → AreBorderCells d c → IsWithin c.span v → o ≡ cell_of c v → IsStartOf d v o
border_there d c v o h within e = subst (IsStartOf d v) (sym (e ∙ ap (λ b. get_or c.cells (v - c.span.least) b) h.blank)) (h.all v within)
