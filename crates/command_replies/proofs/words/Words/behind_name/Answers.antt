use Rattle.std.proofs.Common.{rules, sym, ap, ◌∙◌, ◌≡◌, map, string_bytes, length}
use Rattle.std.proofs.lemmas.List.{drop-map, map-id}
use Rattle.std.proofs.lemmas.Iterator.{items_from_drains}
use Rattle.std.proofs.lemmas.Iterator.Adapters.{YieldsList-from_skip, YieldsList-from_vec}
use Rattle.std.specs.Vec.Iter.{into_iter_items, into_iter_len}
use Rattle.command_replies.proofs.words.Words.behind_name.Goals as goal

pub returns : goal.returns
returns c =
    let same : into_iter_len c.args.args ≡ length (into_iter_items c.args.args) = search rules in
    let ran = (c.in_ok-words.ensures {u = tt}).ran in
    let all = YieldsList-from_skip 1
    (YieldsList-from_vec (into_iter_items c.args.args) (ap into_iter_items c.skip.ensures.source) (ap into_iter_len c.skip.ensures.source ∙ same))
    c.skip.ensures.count in
    let items = sym (map-id ran.0) ∙ items_from_drains ran.0 ran.1 all in
    ap (map string_bytes) (ran.2.0 ∙ items) ∙ sym (drop-map string_bytes 1 (into_iter_items c.args.args))
