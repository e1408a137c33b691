use Rattle.std.specs.Prelude.{pos}
use Rattle.std.proofs.Common.{◌≡◌, ◌∙◌, ◌+◌, ◌-◌, ◌*◌, ◌<◌, SFits, w64, rules, get_or, length, drop, sym, ap, subst, arith}
use Rattle.std.proofs.lemmas.Int.{to_z-of_z}
use Rattle.std.proofs.lemmas.List.{length-replicate}
use Rattle.solid_reorient.specs.Reflagged.{flags_for}
use Rattle.solid_reorient.specs.Steps.{list_numbered, noted}
use Rattle.solid_reorient.proofs.Noting.{none_told, more_told, int_at}
use Rattle.solid_reorient.proofs.table.table_of.Goals as goal

pub shells-init : goal.shells-init
shells-init c = record {
  few = omega arith;
  long = ap length c.in_ok-table.ensures ∙ length-replicate c.args.count 0;
  told = λ flags p lt.
      none_told flags c.args.shells.now c.args.count (length c.args.shells.now) p (get_or c.in_ok-table.table.items p 0) lt (omega arith)
      (ap (λ xs. get_or xs p 0) c.in_ok-table.ensures);
}

pub shells-preserved : goal.shells-preserved
shells-preserved c =
    let inv = c.shells.invariant in
    let next : (c.shells.k - 1) + 1 ≡ c.shells.k = omega (arith, c.shells-test.true) in
    let lt : c.shells.k - 1 < length c.args.shells.now = omega (arith, c.shells-test.true, inv.few) in
    let fits : SFits w64 (get_or c.args.shells.now (c.shells.k - 1) (pos 0)) = search rules in
    record {
      few = omega (arith, inv.few);
      long = c.note.ensures.long ∙ inv.long;
      told = λ flags p below.
          more_told flags c.args.shells.now (c.shells.k - 1) p (get_or c.args.shells.now (c.shells.k - 1) (pos 0)) (get_or c.shells.table.items p 0)
          (get_or c.note.new.table.items p 0) lt (int_at c.args.shells.now (c.shells.k - 1) lt)
          (subst (λ j. list_numbered flags (get_or c.shells.table.items p 0) ≡ flags_for (drop j flags) (drop j c.args.shells.now) (2 * p + 1)) (sym next)
          (inv.told flags p below))
          (c.note.ensures.noted p (omega (arith, below, inv.long))
          ∙ ap (λ z. noted z (c.shells.k - 1 + 1) p (get_or c.shells.table.items p 0))
          (to_z-of_z w64 (get_or c.args.shells.now (c.shells.k - 1) (pos 0)) fits));
    }
