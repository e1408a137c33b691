use Rattle.std.proofs.Common.{◌≡◌, ◌∙◌, refl, rules, length, map, take, vec_len}
use Rattle.list_compact.specs.Marking.{ranks_of}
use Rattle.list_compact.specs.Rows.{rows_from}
use Rattle.list_compact.proofs.RankSteps.{next_row}
use Rattle.list_compact.proofs.RowSteps.{ends_put, row_put}
use Rattle.list_compact.proofs.rank_table.ranks_by.Goals as goal

pub rows-preserved : goal.rows-preserved
rows-preserved c =
    let inv = c.rows.invariant in
    let items : vec_len c.push_ranks.new.ranks ≡ length c.push_ranks.new.ranks.items = search rules in
    record {
      rows = next_row (ranks_of 0) c.args.marks.now c.rows.i c.row.result.now (ranks_of 0 c.row.result.now) (map (ranks_of 0) (take c.rows.i c.args.marks.now))
          (rows_from 0 c.push.new.self.items c.push_ranks.new.ranks.items) c.row.ensures refl refl
          (row_put c.rows.ends.items c.push.new.self.items c.rows.ranks.items c.push_ranks.new.ranks.items (ranks_of 0 c.row.result.now)
          (map (ranks_of 0) (take c.rows.i c.args.marks.now)) c.len.result inv.rows inv.ends c.in_ok-push_ranks.ensures (c.len.ensures ∙ items)
          c.in_ok-push.ensures.items);
      ends = ends_put c.rows.ends.items c.push.new.self.items c.rows.ranks.items c.push_ranks.new.ranks.items (ranks_of 0 c.row.result.now) c.len.result
          inv.ends c.in_ok-push_ranks.ensures (c.len.ensures ∙ items) c.in_ok-push.ensures.items;
    }
