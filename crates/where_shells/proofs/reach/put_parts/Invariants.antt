use Rattle.std.proofs.Common.{◌≡◌, ◌++◌}
use Rattle.std.specs.Prelude.{flat_map}
use Rattle.std.specs.List.{enumerate_from}
use Rattle.where_shells.specs.Reach.{part_text, part_named}
use Rattle.where_shells.proofs.ItemSteps.{items_left}
use Rattle.where_shells.proofs.reach.put_parts.Given as goal

abbrev pub invariant-parts : goal.invariant-parts
invariant-parts l = record {
  text : l.page.out ++ items_left (part_text l.view.listing l.view.file.now l.view.solid.now l.tables.shell l.tables.firsts l.tables.unpaired)
      l.parts l.i ≡ l.fn.page.out
      ++ flat_map (part_text l.view.listing l.view.file.now l.view.solid.now l.tables.shell l.tables.firsts l.tables.unpaired) (enumerate_from 1 l.parts);
  named : l.page.named ++ items_left (part_named l.view.listing l.tables.shell l.tables.firsts) l.parts l.i ≡ l.fn.page.named
      ++ flat_map (part_named l.view.listing l.tables.shell l.tables.firsts) (enumerate_from 1 l.parts);
}
