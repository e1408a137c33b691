use Rattle.std.proofs.Common.{sym, ap, ◌∙◌, ◌++◌, option_copied}
use Rattle.edge_uses.proofs.Few.{few_shell}
use Rattle.shell_facts.specs.RowPlaces.{row_places_of}
use Rattle.shell_facts.proofs.Placed.{found_places, found_ways, found_each}
use Rattle.shell_facts.proofs.placing.row_places.Goals as goal

pub push_shell_places-requires : goal.push_shell_places-requires
push_shell_places-requires c =
    few_shell c.args.solid.now c.args.shell.0 c.unwrap-shell.result.now c.shell.ensures.numbered
    (sym c.shell.ensures.item ∙ ap option_copied c.unwrap-shell.ensures)

pub returns-clause-places : goal.returns-clause-places
returns-clause-places c =
    found_places c.args.solid.now _ c.unwrap-shell.result.now c.push_shell_places.new.out.items
    (sym c.shell.ensures.item ∙ ap option_copied c.unwrap-shell.ensures)
    (c.in_ok-push_shell_places.ensures ∙ ap (λ ps. ps ++ row_places_of c.args.solid.now c.unwrap-shell.result.now) c.new-out.ensures.items)

pub returns-clause-rows : goal.returns-clause-rows
returns-clause-rows c =
    found_ways c.args.solid.now _ c.unwrap-shell.result.now c.push_shell_places.new.out.items
    (sym c.shell.ensures.item ∙ ap option_copied c.unwrap-shell.ensures)
    (c.in_ok-push_shell_places.ensures ∙ ap (λ ps. ps ++ row_places_of c.args.solid.now c.unwrap-shell.result.now) c.new-out.ensures.items)

pub returns-clause-each : goal.returns-clause-each
returns-clause-each c =
    found_each c.args.solid.now _ c.unwrap-shell.result.now c.push_shell_places.new.out.items
    (sym c.shell.ensures.item ∙ ap option_copied c.unwrap-shell.ensures)
    (c.in_ok-push_shell_places.ensures ∙ ap (λ ps. ps ++ row_places_of c.args.solid.now c.unwrap-shell.result.now) c.new-out.ensures.items)
