use Rattle.std.proofs.Common.{◌∷◌, ◌++◌, [], ◌∙◌}
use Rattle.std.proofs.lemmas.Result.{on_ok_weaker}
use Rattle.sample_solids.specs.Sample.{face_record, loop_record}
use Rattle.sample_solids.proofs.Squares.{at_place}
use Rattle.sample_solids.proofs.Growing.{put_more, put_fits, front, is_front, face_of, loop_of, after, square_front, loop_front, square_more}
use Rattle.sample_solids.proofs.file.put_square.Goals as goal

pub put-requires-clause-entries : goal.put-requires-clause-entries
put-requires-clause-entries c =
    let n = c.args.n in
    let k = c.args.k in
    (put_fits n c.args.file.now (front n k) (loop_of n k ∷ after n k) 510 1 c.in_ok-face_values.field-0 (face_record n (at_place n k)) c.requires.few
    (c.requires.stage ∙ is_front n k) c.in_ok-face_values.ensures
    (square_front n k c.requires.some c.requires.within)).0

pub put-requires-clause-few : goal.put-requires-clause-few
put-requires-clause-few c =
    let n = c.args.n in
    let k = c.args.k in
    (put_fits n c.args.file.now (front n k) (loop_of n k ∷ after n k) 510 1 c.in_ok-face_values.field-0 (face_record n (at_place n k)) c.requires.few
    (c.requires.stage ∙ is_front n k) c.in_ok-face_values.ensures
    (square_front n k c.requires.some c.requires.within)).1

pub put-requires-2-clause-entries : goal.put-requires-2-clause-entries
put-requires-2-clause-entries c =
    let n = c.args.n in
    let k = c.args.k in
    let put_one = put_more c.args.file.now c.put.new.file (front n k) 510 1 c.in_ok-face_values.field-0 (face_record n (at_place n k))
    (c.requires.stage ∙ is_front n k) c.in_ok-put.ensures c.in_ok-face_values.ensures in
    (put_fits n c.put.new.file (front n k ++ face_of n k ∷ []) (after n k) 508 1 c.in_ok-loop_values.field-0 (loop_record n (at_place n k)) c.requires.few
    put_one c.in_ok-loop_values.ensures
    (loop_front n k c.requires.some c.requires.within)).0

pub put-requires-2-clause-few : goal.put-requires-2-clause-few
put-requires-2-clause-few c =
    let n = c.args.n in
    let k = c.args.k in
    let put_one = put_more c.args.file.now c.put.new.file (front n k) 510 1 c.in_ok-face_values.field-0 (face_record n (at_place n k))
    (c.requires.stage ∙ is_front n k) c.in_ok-put.ensures c.in_ok-face_values.ensures in
    (put_fits n c.put.new.file (front n k ++ face_of n k ∷ []) (after n k) 508 1 c.in_ok-loop_values.field-0 (loop_record n (at_place n k)) c.requires.few
    put_one c.in_ok-loop_values.ensures
    (loop_front n k c.requires.some c.requires.within)).1

pub returns : goal.returns
returns c =
    let n = c.args.n in
    let k = c.args.k in
    let put_one = put_more c.args.file.now c.put.new.file (front n k) 510 1 c.in_ok-face_values.field-0 (face_record n (at_place n k))
    (c.requires.stage ∙ is_front n k) c.in_ok-put.ensures c.in_ok-face_values.ensures in
    on_ok_weaker c.put-2.result
    (λ d. put_more c.put.new.file c.put-2.new.file (front n k ++ face_of n k ∷ []) 508 1 c.in_ok-loop_values.field-0 (loop_record n (at_place n k)) put_one d
    c.in_ok-loop_values.ensures ∙ square_more n k c.requires.some c.requires.within)
    c.put-2.ensures
