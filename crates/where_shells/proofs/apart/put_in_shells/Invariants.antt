use Rattle.std.proofs.Common.{◌≡◌, ◌++◌, ℕ, drop, map, flat_map, take}
use Rattle.iges_base.specs.declared.entry_no.EntryNo.{EntryNo}
use Rattle.where_shells.specs.Apart.{in_shell_line}
use Rattle.where_shells.proofs.apart.put_in_shells.Given as goal

abbrev pub invariant-faces : goal.invariant-faces
invariant-faces l = record {
  text : l.page.out ++ flat_map (in_shell_line l.view.file.now) (drop l.i (take l.count l.faces)) ≡ l.fn.page.out
      ++ flat_map (in_shell_line l.view.file.now) (take l.count l.faces);
  named : l.page.named ++ map (λ (x : ℕ × EntryNo). x.1) (drop l.i (take l.count l.faces)) ≡ l.fn.page.named
      ++ map (λ (x : ℕ × EntryNo). x.1) (take l.count l.faces);
}
