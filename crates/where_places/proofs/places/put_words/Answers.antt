use Rattle.where_places.proofs.Put.{words_put}
use Rattle.where_places.proofs.places.put_words.Goals as goal

pub returns : goal.returns
returns c = words_put c.put-3.result c.args.entry c.args.first c.args.last c.args.out.now c.put.new.self c.put_number.new.out c.put-2.new.self
    c.put_number-2.new.out c.put_number-3.new.out c.put-3.new.self c.in_ok-put.ensures.ok c.in_ok-put_number.ensures c.in_ok-put-2.ensures.ok
    c.in_ok-put_number-2.ensures c.in_ok-put_number-3.ensures c.put-3.ensures.ok
