use Rattle.std.proofs.Common.{◌∙◌, ap, Err}
use Rattle.record_paths.proofs.PlaceSteps.{no_solid, some_path, not_none, not_lost}
use Rattle.record_paths.proofs.TupleNames.{not_true}
use Rattle.record_paths.proofs.search.path_of.Goals as goal

pub returns-then-asks_for_solid : goal.returns-then-asks_for_solid
returns-then-asks_for_solid c = no_solid c.args.file.now c.args.no.0 c.args.failing ((c.asks_for_solid.ensures c.args.file.now).0 c.if-asks_for_solid.true)

pub returns-in-Err-Found : goal.returns-in-Err-Found
returns-in-Err-Found c =
    some_path c.args.file.now c.args.no.0 c.args.failing (not_true c.asks_for_solid.result (c.asks_for_solid.ensures c.args.file.now) c.if-asks_for_solid.false)
    c.search_solid.result c.search_solid.ensures c.in-Err-Found.path (c.in-Err-Found.is ∙ ap Err c.in-Err-Found.field-0-is)

pub returns-in-Err-Lost : goal.returns-in-Err-Lost
returns-in-Err-Lost c =
    absurd (not_lost c.args.file.now c.args.no.0 c.args.failing
    (not_true c.asks_for_solid.result (c.asks_for_solid.ensures c.args.file.now) c.if-asks_for_solid.false) c.requires
    c.search_solid.result c.search_solid.ensures (c.in-Err-Lost.is ∙ ap Err c.in-Err-Lost.field-0-is))

pub returns-in-Ok : goal.returns-in-Ok
returns-in-Ok c =
    absurd (not_none c.args.file.now c.args.no.0 c.args.failing
    (not_true c.asks_for_solid.result (c.asks_for_solid.ensures c.args.file.now) c.if-asks_for_solid.false) c.requires
    c.search_solid.result c.search_solid.ensures _ c.in-Ok.is)
