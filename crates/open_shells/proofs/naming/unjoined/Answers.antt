use Rattle.std.proofs.Common.{sym, ◌∙◌, ap, option_copied}
use Rattle.solid_data.specs.declared.solid.Loop.{Loop}
use Rattle.open_certificate.specs.declared.verdict.OpenRule.TheVariants.{Join}
use Rattle.open_certificate.specs.Obligations.{open_failing}
use Rattle.shell_rules.proofs.Placed.{face_below, loop_below, named_loop}
use Rattle.open_shells.proofs.naming.unjoined.Goals as goal

pub unwrap-face-requires : goal.unwrap-face-requires
unwrap-face-requires c = c.get.ensures.within.1 (face_below c.args.shell.now c.args.gap.at c.requires)

pub unwrap-walk-requires : goal.unwrap-walk-requires
unwrap-walk-requires c =
    c.get-2.ensures.within.1
    (loop_below c.args.shell.now c.args.gap.at c.unwrap-face.result.now c.requires (sym c.get.ensures.item ∙ ap option_copied c.unwrap-face.ensures))

pub returns : goal.returns
returns c p m same =
    ap (λ (l : Loop). open_failing Join l.entity c.args.gap.place)
    (named_loop c.args.shell.now c.args.gap.at c.unwrap-face.result.now c.unwrap-walk.result.now
    (sym c.get.ensures.item ∙ ap option_copied c.unwrap-face.ensures) (sym c.get-2.ensures.item ∙ ap option_copied c.unwrap-walk.ensures) p m same)
