use Rattle.std.proofs.Common.{◌≡◌, ◌∙◌, ap, sym, subst, get_or, slice_set}
use Rattle.shell_components.specs.Trees.{AreRehung, AreTopsKept}
use Rattle.shell_components.proofs.Joined.{climbed, climbed_tops}
use Rattle.shell_components.proofs.joining.climb.Goals as goal

pub returns-clause-rehung : goal.returns-clause-rehung
returns-clause-rehung c =
    let to : c.label_of-to.result ≡ get_or c.args.labels.now.items (get_or c.args.labels.now.items c.args.x 0) 0 = c.label_of-to.ensures
    ∙ ap (λ n. get_or c.args.labels.now.items n 0) c.label_of-label.ensures in
    subst (AreRehung c.args.labels.now.items) (sym (c.hang.ensures ∙ ap (λ n. slice_set c.args.labels.now.items c.args.x n) to))
    (climbed c.args.labels.now.items c.args.x c.requires.trees c.requires.inside)

pub returns-clause-tops : goal.returns-clause-tops
returns-clause-tops c =
    let to : c.label_of-to.result ≡ get_or c.args.labels.now.items (get_or c.args.labels.now.items c.args.x 0) 0 = c.label_of-to.ensures
    ∙ ap (λ n. get_or c.args.labels.now.items n 0) c.label_of-label.ensures in
    subst (AreTopsKept c.args.labels.now.items) (sym (c.hang.ensures ∙ ap (λ n. slice_set c.args.labels.now.items c.args.x n) to))
    (climbed_tops c.args.labels.now.items c.args.x c.requires.inside)
