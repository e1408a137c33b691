use Rattle.std.proofs.Common.{◌≡◌, ◌++◌, drop, flat_map}
use Rattle.where_solids.specs.ShellTexts.{named_at, paragraphs_at}
use Rattle.where_solids.proofs.shell_texts.put_each.Given as goal

abbrev pub invariant-shells : goal.invariant-shells
invariant-shells l = record {
  paragraphs : l.page.out ++ flat_map (paragraphs_at l.view.listing l.view.file.now l.view.solid.now l.view.all.now) (drop l.i l.shells)
      ≡ l.fn.page.out ++ flat_map (paragraphs_at l.view.listing l.view.file.now l.view.solid.now l.view.all.now) l.shells;
  named : l.page.named ++ flat_map (named_at l.view.listing l.view.solid.now l.view.all.now) (drop l.i l.shells)
      ≡ l.fn.page.named ++ flat_map (named_at l.view.listing l.view.solid.now l.view.all.now) l.shells;
}
