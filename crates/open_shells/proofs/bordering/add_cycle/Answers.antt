use Rattle.std.proofs.Common.{arith, sym, ap, subst, ◌∙◌, ◌≡◌, ◌++◌, ◌∷◌, [], ◌<◌, ℕ, List, true, false, get_or, vec_len}
use Rattle.std.specs.Prelude.{map, ◌↔◌, ◌⊎◌}
use Rattle.solid_data.proofs.Members.{Has}
use Rattle.std.specs.List.{AllByRecursion}
use Rattle.std.proofs.lemmas.List.{map-append}
use Rattle.solid_data.specs.declared.solid.RowId.{RowId}
use Rattle.edge_uses.proofs.Steps.{default_apart}
use Rattle.open_certificate.specs.Sound.{IsBorder}
use Rattle.shell_reach.specs.Reaching.{row_numbers}
use Rattle.open_shells.specs.BorderParts.{IsLoop}
use Rattle.open_shells.proofs.BorderLoops.{bordering_adds, loop_below}
use Rattle.open_shells.proofs.bordering.add_cycle.Goals as goal

pub mark_all-requires : goal.mark_all-requires
mark_all-requires c =
    subst (AllByRecursion (λ (r : RowId). r.0 < vec_len c.args.seen.now)) (sym c.as_slice.ensures)
    (loop_below c.args.mated.now c.in-Some.first c.in_ok-cycle.cycle (vec_len c.args.seen.now) (omega (arith, c.requires.cycles.long))
    (subst (IsBorder c.args.mated.now) (sym c.in-Some.ensures.some.1) c.in-Some.ensures.some.0) c.in_ok-cycle.ensures)

pub returns : goal.returns
returns c =
    let e : map row_numbers c.push.new.self ≡ map row_numbers c.args.cycles.now ++ row_numbers c.in_ok-cycle.cycle ∷ [] =
    ap (map row_numbers) c.in_ok-push.ensures.ok ∙ map-append row_numbers c.args.cycles.now (c.in_ok-cycle.cycle ∷ []) in
    let marks = subst (λ (rows : List RowId). (x : ℕ)
    → (get_or c.mark_all.new.seen.items x false ≡ true) ↔ ((get_or c.args.seen.now.items x false ≡ true) ⊎ Has (row_numbers rows) x)) c.as_slice.ensures
    c.mark_all.ensures.marks in
    bordering_adds c.args.mated.now c.args.r c.args.seen.now.items c.mark_all.new.seen.items (map row_numbers c.args.cycles.now)
    (map row_numbers c.push.new.self) (row_numbers c.in_ok-cycle.cycle) c.requires.whole c.requires.fanned c.in-Some.ensures.some.0
    (λ m. let k : false ≡ true = sym c.if-index.false
    ∙ (c.index.ensures ∙ (default_apart c.args.seen.now.items c.args.r _ false (omega (arith, c.requires.there, c.requires.cycles.long)) ∙ m))
    in cc)
    (subst (λ i. IsLoop c.args.mated.now i (row_numbers c.in_ok-cycle.cycle)) c.in-Some.ensures.some.1 c.in_ok-cycle.ensures) e
    (omega (arith, c.mark_all.ensures.len)) marks c.requires.cycles
