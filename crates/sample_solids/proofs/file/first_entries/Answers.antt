use Rattle.std.proofs.Common.{◌∷◌, [], ◌∙◌, ◌++◌, take, drop}
use Rattle.sample_solids.specs.Sample.{shell_record, vertex_record, edge_record, first_entries}
use Rattle.sample_solids.proofs.Growing.{put_more, put_fits, later, first_whole, first_stage}
use Rattle.sample_solids.proofs.file.first_entries.Goals as goal

pub put-requires-2-clause-few : goal.put-requires-2-clause-few
put-requires-2-clause-few c =
    let n = c.args.n in
    let f1 = put_more c.in_ok-file.file c.put.new.file (take 0 (first_entries n)) 186 0 c.in_ok-values_of.field-0 (3 ∷ 1 ∷ 0 ∷ []) c.in_ok-file.ensures
    c.in_ok-put.ensures c.in_ok-values_of.ensures in
    (put_fits n c.put.new.file (take 1 (first_entries n)) (drop 2 (first_entries n) ++ later n) 514 1 c.in_ok-shell_values.field-0 (shell_record n)
    c.requires.few f1 c.in_ok-shell_values.ensures (first_whole n)).1

pub put-requires-3-clause-few : goal.put-requires-3-clause-few
put-requires-3-clause-few c =
    let n = c.args.n in
    let f1 = put_more c.in_ok-file.file c.put.new.file (take 0 (first_entries n)) 186 0 c.in_ok-values_of.field-0 (3 ∷ 1 ∷ 0 ∷ []) c.in_ok-file.ensures
    c.in_ok-put.ensures c.in_ok-values_of.ensures in
    let f2 = put_more c.put.new.file c.put-2.new.file (take 1 (first_entries n)) 514 1 c.in_ok-shell_values.field-0 (shell_record n) f1 c.in_ok-put-2.ensures
    c.in_ok-shell_values.ensures in
    (put_fits n c.put-2.new.file (take 2 (first_entries n)) (drop 3 (first_entries n) ++ later n) 502 1 c.in_ok-vertex_values.field-0 (vertex_record n)
    c.requires.few f2 c.in_ok-vertex_values.ensures (first_whole n)).1

pub put-requires-4-clause-few : goal.put-requires-4-clause-few
put-requires-4-clause-few c =
    let n = c.args.n in
    let f1 = put_more c.in_ok-file.file c.put.new.file (take 0 (first_entries n)) 186 0 c.in_ok-values_of.field-0 (3 ∷ 1 ∷ 0 ∷ []) c.in_ok-file.ensures
    c.in_ok-put.ensures c.in_ok-values_of.ensures in
    let f2 = put_more c.put.new.file c.put-2.new.file (take 1 (first_entries n)) 514 1 c.in_ok-shell_values.field-0 (shell_record n) f1 c.in_ok-put-2.ensures
    c.in_ok-shell_values.ensures in
    let f3 = put_more c.put-2.new.file c.put-3.new.file (take 2 (first_entries n)) 502 1 c.in_ok-vertex_values.field-0 (vertex_record n) f2
    c.in_ok-put-3.ensures c.in_ok-vertex_values.ensures in
    (put_fits n c.put-3.new.file (take 3 (first_entries n)) (drop 4 (first_entries n) ++ later n) 504 1 c.in_ok-edge_values.field-0 (edge_record n)
    c.requires.few f3 c.in_ok-edge_values.ensures (first_whole n)).1

pub put-requires-5-clause-few : goal.put-requires-5-clause-few
put-requires-5-clause-few c =
    let n = c.args.n in
    let f1 = put_more c.in_ok-file.file c.put.new.file (take 0 (first_entries n)) 186 0 c.in_ok-values_of.field-0 (3 ∷ 1 ∷ 0 ∷ []) c.in_ok-file.ensures
    c.in_ok-put.ensures c.in_ok-values_of.ensures in
    let f2 = put_more c.put.new.file c.put-2.new.file (take 1 (first_entries n)) 514 1 c.in_ok-shell_values.field-0 (shell_record n) f1 c.in_ok-put-2.ensures
    c.in_ok-shell_values.ensures in
    let f3 = put_more c.put-2.new.file c.put-3.new.file (take 2 (first_entries n)) 502 1 c.in_ok-vertex_values.field-0 (vertex_record n) f2
    c.in_ok-put-3.ensures c.in_ok-vertex_values.ensures in
    let f4 = put_more c.put-3.new.file c.put-4.new.file (take 3 (first_entries n)) 504 1 c.in_ok-edge_values.field-0 (edge_record n) f3 c.in_ok-put-4.ensures
    c.in_ok-edge_values.ensures in
    (put_fits n c.put-4.new.file (take 4 (first_entries n)) (drop 5 (first_entries n) ++ later n) 110 0 c.in_ok-values_of-2.field-0
    (0 ∷ 0 ∷ 0 ∷ 1 ∷ 0 ∷ 0 ∷ []) c.requires.few f4 c.in_ok-values_of-2.ensures (first_whole n)).1

pub put-requires-6-clause-few : goal.put-requires-6-clause-few
put-requires-6-clause-few c =
    let n = c.args.n in
    let f1 = put_more c.in_ok-file.file c.put.new.file (take 0 (first_entries n)) 186 0 c.in_ok-values_of.field-0 (3 ∷ 1 ∷ 0 ∷ []) c.in_ok-file.ensures
    c.in_ok-put.ensures c.in_ok-values_of.ensures in
    let f2 = put_more c.put.new.file c.put-2.new.file (take 1 (first_entries n)) 514 1 c.in_ok-shell_values.field-0 (shell_record n) f1 c.in_ok-put-2.ensures
    c.in_ok-shell_values.ensures in
    let f3 = put_more c.put-2.new.file c.put-3.new.file (take 2 (first_entries n)) 502 1 c.in_ok-vertex_values.field-0 (vertex_record n) f2
    c.in_ok-put-3.ensures c.in_ok-vertex_values.ensures in
    let f4 = put_more c.put-3.new.file c.put-4.new.file (take 3 (first_entries n)) 504 1 c.in_ok-edge_values.field-0 (edge_record n) f3 c.in_ok-put-4.ensures
    c.in_ok-edge_values.ensures in
    let f5 = put_more c.put-4.new.file c.put-5.new.file (take 4 (first_entries n)) 110 0 c.in_ok-values_of-2.field-0 (0 ∷ 0 ∷ 0 ∷ 1 ∷ 0 ∷ 0 ∷ []) f4
    c.in_ok-put-5.ensures c.in_ok-values_of-2.ensures in
    (put_fits n c.put-5.new.file (take 5 (first_entries n)) (drop 6 (first_entries n) ++ later n) 108 0 c.in_ok-values_of-3.field-0
    (0 ∷ 0 ∷ 1 ∷ 0 ∷ 0 ∷ 0 ∷ 0 ∷ 0 ∷ 0 ∷ []) c.requires.few f5 c.in_ok-values_of-3.ensures (first_whole n)).1

pub returns : goal.returns
returns c =
    let n = c.args.n in
    let f1 = put_more c.in_ok-file.file c.put.new.file (take 0 (first_entries n)) 186 0 c.in_ok-values_of.field-0 (3 ∷ 1 ∷ 0 ∷ []) c.in_ok-file.ensures
    c.in_ok-put.ensures c.in_ok-values_of.ensures in
    let f2 = put_more c.put.new.file c.put-2.new.file (take 1 (first_entries n)) 514 1 c.in_ok-shell_values.field-0 (shell_record n) f1 c.in_ok-put-2.ensures
    c.in_ok-shell_values.ensures in
    let f3 = put_more c.put-2.new.file c.put-3.new.file (take 2 (first_entries n)) 502 1 c.in_ok-vertex_values.field-0 (vertex_record n) f2
    c.in_ok-put-3.ensures c.in_ok-vertex_values.ensures in
    let f4 = put_more c.put-3.new.file c.put-4.new.file (take 3 (first_entries n)) 504 1 c.in_ok-edge_values.field-0 (edge_record n) f3 c.in_ok-put-4.ensures
    c.in_ok-edge_values.ensures in
    let f5 = put_more c.put-4.new.file c.put-5.new.file (take 4 (first_entries n)) 110 0 c.in_ok-values_of-2.field-0 (0 ∷ 0 ∷ 0 ∷ 1 ∷ 0 ∷ 0 ∷ []) f4
    c.in_ok-put-5.ensures c.in_ok-values_of-2.ensures in
    let f6 = put_more c.put-5.new.file c.put-6.new.file (take 5 (first_entries n)) 108 0 c.in_ok-values_of-3.field-0 (0 ∷ 0 ∷ 1 ∷ 0 ∷ 0 ∷ 0 ∷ 0 ∷ 0 ∷ 0 ∷ [])
    f5 c.in_ok-put-6.ensures c.in_ok-values_of-3.ensures in
    f6 ∙ first_stage n
