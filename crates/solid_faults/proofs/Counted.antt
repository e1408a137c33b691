-- What is pushed for an edge is what its rows are counted to be.
use Rattle.std.specs.Prelude.{◌≡◌, ◌++◌, ℕ, List, Some, slice_get, true}
use Rattle.std.proofs.Common.{sym, ◌∙◌, ap, subst}
use Rattle.std.proofs.lemmas.Option.{slice_get_within, get_or_from_slice_get}
use Rattle.solid_data.specs.Ranges.{IsWithin, IsSpanOf}
use Rattle.solid_data.specs.declared.spanning.Span.{Span}
use Rattle.edge_uses.specs.RowRelations.{row_count}
use Rattle.edge_uses.specs.ShellRows.{ShellRows}
use Rattle.edge_uses.specs.Tally.{IsTally, IsSeen, seen_of}
use Rattle.edge_uses.specs.declared.tally.Seen.{Seen}
use Rattle.solid_faults.specs.declared.edge.Unpaired.{Unpaired}
use Rattle.solid_faults.specs.Edges.{edge_unpaired, unpaired_at}

pub counted_edge : (d : ShellRows) (span : Span) (tally : List Seen) (i e : ℕ) (seen : Seen) (old new : List Unpaired) → IsSpanOf span d.edges
    → IsTally d span tally
    → slice_get d.edges i ≡ Some e → seen ≡ seen_of span tally e → new ≡ old ++ unpaired_at e seen.along seen.against → new ≡ old ++ edge_unpaired d e
counted_edge d span tally i e seen old new is_span is_tally at is_seen h =
    let within : IsWithin span e = subst (IsWithin span) (get_or_from_slice_get d.edges i e e at) (is_span.holds i e (slice_get_within d.edges i e at)) in
    let k : IsSeen d e seen = subst (IsSeen d e) (sym is_seen) (is_tally e within) in
    h ∙ (ap (λ n. old ++ unpaired_at e n seen.against) k.along ∙ ap (λ n. old ++ unpaired_at e (row_count d e true) n) k.against)
