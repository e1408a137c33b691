use Rattle.std.specs.Prelude.{All, Contains}
use Rattle.std.proofs.Common.{ℕ, ◌≡◌, ◌<◌, ◌^◌, ◌∙◌, ap, sym, subst, arith, Some, length, slice_get, option_copied}
use Rattle.std.proofs.lemmas.List.{length-map}
use Rattle.solid_data.proofs.Members.{has_get}
use Rattle.solid_data.specs.Ranges.{IsSpanOf}
use Rattle.edge_uses.specs.Before.{faces_vertices}
use Rattle.edge_uses.proofs.Made.{rows_known}
use Rattle.solid_faults.specs.declared.edge.Unpaired.{Unpaired}
use Rattle.shell_facts.proofs.PartSteps.{firsts_low, the_shell, unpaired_within, unpaired_few, vertices_occur, vertices_within, firsts_each}
use Rattle.shell_facts.proofs.parting.part_tables.Goals as goal

pub by_least-requires-clause-low : goal.by_least-requires-clause-low
by_least-requires-clause-low c = firsts_low c.args.rows.now c.args.firsts.now c.requires.parts

pub grouped-requires-clause-within : goal.grouped-requires-clause-within
grouped-requires-clause-within c = unpaired_within c.args.rows.now c.args.unpaired.now c.in_ok-numbers.numbers.items c.edge_span.result
    c.requires.unpaired c.in_ok-numbers.ensures c.edge_span.ensures.span

pub grouped-requires-clause-few : goal.grouped-requires-clause-few
grouped-requires-clause-few c =
    let at : slice_get c.args.solid.now.shells c.args.shell.0 ≡ Some c.unwrap-shell.result.now = sym c.shell.ensures.item
    ∙ ap option_copied c.unwrap-shell.ensures in
    let few : length c.args.unpaired.now < 2 ^ 32 = unpaired_few c.args.solid.now c.unwrap-shell.result.now c.args.rows.now c.args.unpaired.now
    c.shell.ensures.numbered (the_shell c.args.solid.now c.args.shell.0 c.unwrap-shell.result.now c.args.rows.now at c.requires.rows) c.requires.unpaired
    in
    omega (arith, few, ap (length {A = ℕ}) c.in_ok-numbers.ensures, length-map c.args.unpaired.now (λ (u : Unpaired). u.edge.0))

pub lowest_parts-requires-clause-known : goal.lowest_parts-requires-clause-known
lowest_parts-requires-clause-known c =
    let at : slice_get c.args.solid.now.shells c.args.shell.0 ≡ Some c.unwrap-shell.result.now = sym c.shell.ensures.item
    ∙ ap option_copied c.unwrap-shell.ensures in
    subst (λ ns. All (Contains ns) (faces_vertices c.args.solid.now c.unwrap-shell.result.now)) (sym c.vertex_slice.ensures.items)
    (vertices_occur c.args.solid.now c.unwrap-shell.result.now c.args.rows.now c.shell.ensures.numbered
    (has_get c.args.solid.now.shells c.args.shell.0 c.unwrap-shell.result.now at)
    (the_shell c.args.solid.now c.args.shell.0 c.unwrap-shell.result.now c.args.rows.now at c.requires.rows))

pub lowest_parts-requires-clause-each : goal.lowest_parts-requires-clause-each
lowest_parts-requires-clause-each c =
    let at : slice_get c.args.solid.now.shells c.args.shell.0 ≡ Some c.unwrap-shell.result.now = sym c.shell.ensures.item
    ∙ ap option_copied c.unwrap-shell.ensures in
    firsts_each c.args.solid.now c.unwrap-shell.result.now c.args.rows.now c.args.firsts.now
    (the_shell c.args.solid.now c.args.shell.0 c.unwrap-shell.result.now c.args.rows.now at c.requires.rows) c.requires.parts

pub invariant_of-result : goal.invariant_of-result
invariant_of-result c =
    let at : slice_get c.args.solid.now.shells c.args.shell.0 ≡ Some c.unwrap-shell.result.now = sym c.shell.ensures.item
    ∙ ap option_copied c.unwrap-shell.ensures in
    record {
      parts = c.in-Ok.ensures;
      edges = c.in_ok-by_edge.ensures ∙ c.in_ok-numbers.ensures;
      lows = c.in_ok-lows.ensures.lows;
      each = firsts_each c.args.solid.now c.unwrap-shell.result.now c.args.rows.now c.args.firsts.now
          (the_shell c.args.solid.now c.args.shell.0 c.unwrap-shell.result.now c.args.rows.now at c.requires.rows) c.requires.parts;
      within = vertices_within c.args.rows.now.vertices (faces_vertices c.args.solid.now c.unwrap-shell.result.now) c.in_ok-lows.lows.span
          (subst (IsSpanOf c.in_ok-lows.lows.span) c.vertex_slice.ensures.items c.in_ok-lows.ensures.span)
          (vertices_occur c.args.solid.now c.unwrap-shell.result.now c.args.rows.now c.shell.ensures.numbered
          (has_get c.args.solid.now.shells c.args.shell.0 c.unwrap-shell.result.now at)
          (the_shell c.args.solid.now c.args.shell.0 c.unwrap-shell.result.now c.args.rows.now at c.requires.rows));
      known = rows_known c.args.solid.now c.args.shell.0 c.unwrap-shell.result.now c.shell.ensures.numbered at;
    }
