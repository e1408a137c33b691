use Rattle.std.proofs.Common.{drop, ◌≡◌}
use Rattle.where_places.specs.ItemEnds.{behind_items}
use Rattle.where_places.proofs.item_end.behind_items.Given as goal

abbrev pub invariant-values : goal.invariant-values
invariant-values l = behind_items l.delims (drop l.value-index l.values) l.rest ≡ behind_items l.delims l.values l.text
