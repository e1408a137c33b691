use Rattle.std.proofs.Common.{◌≡◌, ◌++◌, drop, flat_map}
use Rattle.where_shells.specs.Pair.{edge_named, edge_text}
use Rattle.where_shells.proofs.pairs.put_edges.Given as goal

abbrev pub invariant-edges : goal.invariant-edges
invariant-edges l = record {
  text : l.page.out ++ flat_map (edge_text l.view.listing l.view.file.now l.view.solid.now l.known.flag l.known.rows.now l.known.places.items)
      (drop l.i l.unpaired) ≡ l.fn.page.out
      ++ flat_map (edge_text l.view.listing l.view.file.now l.view.solid.now l.known.flag l.known.rows.now l.known.places.items) l.unpaired;
  named : l.page.named ++ flat_map (edge_named l.view.listing l.known.rows.now l.known.places.items) (drop l.i l.unpaired) ≡ l.fn.page.named
      ++ flat_map (edge_named l.view.listing l.known.rows.now l.known.places.items) l.unpaired;
}
