use Rattle.std.proofs.Common.{◌≡◌, ◌++◌, drop, flat_map}
use Rattle.where_shells.specs.Apart.{shared_text, shared_named}
use Rattle.where_shells.proofs.apart.put_each_shared.Given as goal

abbrev pub invariant-vertices : goal.invariant-vertices
invariant-vertices l = record {
  text : l.page.out ++ flat_map (shared_text l.view.file.now l.view.solid.now l.view.at.0) (drop l.i l.shared) ≡ l.fn.page.out
      ++ flat_map (shared_text l.view.file.now l.view.solid.now l.view.at.0) l.shared;
  named : l.page.named ++ flat_map (shared_named l.view.solid.now l.view.at.0) (drop l.i l.shared) ≡ l.fn.page.named
      ++ flat_map (shared_named l.view.solid.now l.view.at.0) l.shared;
}
