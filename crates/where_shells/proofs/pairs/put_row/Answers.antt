use Rattle.std.proofs.Common.{◌≤◌, sym, ap, ◌∙◌, ◌++◌, length, rules}
use Rattle.std.proofs.lemmas.List.{append-nil}
use Rattle.std.proofs.lemmas.Option.{slice_get_past}
use Rattle.where_shells.specs.Pair.{row_named}
use Rattle.where_shells.proofs.pairs.put_row.Goals as goal

pub returns-in-None-clause-named : goal.returns-in-None-clause-named
returns-in-None-clause-named c =
    let past : length c.args.places.now ≤ c.args.row = search rules in
    sym (append-nil c.args.page.now.named) ∙ ap (λ o. c.args.page.now.named ++ row_named o) (sym (slice_get_past c.args.places.now c.args.row past))
