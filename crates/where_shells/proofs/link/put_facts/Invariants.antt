use Rattle.std.proofs.Common.{◌≡◌, ◌++◌, drop, flat_map}
use Rattle.where_shells.specs.Link.{fact_line, fact_faces}
use Rattle.where_shells.proofs.link.put_facts.Given as goal

abbrev pub invariant-facts : goal.invariant-facts
invariant-facts l = record {
  text : l.page.out ++ flat_map (fact_line l.view.file.now l.view.solid.now l.fans.faces.now l.fans.paired.now l.fans.places.now) (drop l.i l.facts)
      ≡ l.fn.page.out
      ++ flat_map (fact_line l.view.file.now l.view.solid.now l.fans.faces.now l.fans.paired.now l.fans.places.now) l.facts;
  named : l.page.named ++ flat_map (fact_faces l.fans.faces.now l.fans.places.now) (drop l.i l.facts) ≡ l.fn.page.named
      ++ flat_map (fact_faces l.fans.faces.now l.fans.places.now) l.facts;
}
