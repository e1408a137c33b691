use Rattle.std.proofs.Common.{◌∙◌, ap}
use Rattle.where_text.specs.Places.{vertex_words}
use Rattle.spelled_solid.specs.Words.{vertex_named}
use Rattle.spelled_solid.proofs.tables.vertex_table.Goals as goal

pub vertices-preserved : goal.vertices-preserved
vertices-preserved c =
    c.in_ok-keep.ensures (vertex_named c.args.file.now c.args.solid.now) (c.in_ok-told.ensures ∙ ap (vertex_words c.args.file.now) c.vertex_key-key.ensures)
    c.vertices.invariant
