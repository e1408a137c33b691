use Rattle.std.proofs.Common.{◌≡◌, ◌++◌, drop, flat_map}
use Rattle.where_shells.specs.Link.{unlinked_text, unlinked_named}
use Rattle.where_shells.proofs.link.put_each_unlinked.Given as goal

abbrev pub invariant-vertices : goal.invariant-vertices
invariant-vertices l = record {
  text : l.page.out ++ flat_map (unlinked_text l.view.listing l.view.file.now l.view.solid.now l.fans.faces.now l.fans.paired.now l.fans.places.now
      l.fans.leasts.now) (drop l.i l.vertices) ≡ l.fn.page.out
      ++ flat_map (unlinked_text l.view.listing l.view.file.now l.view.solid.now l.fans.faces.now l.fans.paired.now l.fans.places.now
      l.fans.leasts.now) l.vertices;
  named : l.page.named ++ flat_map (unlinked_named l.view.listing l.fans.faces.now l.fans.paired.now l.fans.places.now l.fans.leasts.now) (drop l.i
      l.vertices) ≡ l.fn.page.named
      ++ flat_map (unlinked_named l.view.listing l.fans.faces.now l.fans.paired.now l.fans.places.now l.fans.leasts.now) l.vertices;
}
