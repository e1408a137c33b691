use Rattle.std.proofs.Common.{refl, sym, ◌∙◌, slice_get}
use Rattle.solid_faults.proofs.Assembled.{meet_without_gap, as_linkings, assembled}
use Rattle.solid_faults.proofs.failing.faults_of.Goals as goal

pub judge_links-requires : goal.judge_links-requires
judge_links-requires c no_gap =
    meet_without_gap c.args.solid.now c.args.shell.0 (slice_get c.args.solid.now.shells c.args.shell.0) c.args.rows.now c.in_ok-gaps.gaps.items refl
    c.requires.rows c.in_ok-gaps.ensures (sym c.as_slice.ensures.value ∙ c.has_gap.ensures.none no_gap)

pub returns : goal.returns
returns c h at =
    assembled c.args.solid.now c.args.shell.0 h c.args.rows.now _ at c.requires.rows c.in_ok-gaps.ensures c.in_ok-unpaired.ensures c.in_ok-firsts.ensures
    (as_linkings c.args.rows.now c.in_ok-gaps.gaps.items c.in_ok-unpaired.unpaired.items c.has_gap.result c.in_ok-linking.linking c.in_ok-unpaired.ensures
    (λ e. sym c.as_slice.ensures.value ∙ c.has_gap.ensures.none e) (λ e none. c.has_gap.ensures.some e (c.as_slice.ensures.value ∙ none))
    c.in_ok-linking.ensures)
    (c.in_ok-shared.ensures c.args.solid.now c.args.shell.0 c.requires.below)
