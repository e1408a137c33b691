use Rattle.solid_hints.proofs.ToldHints.{are_remedies, below_known, put_so}
use Rattle.solid_hints.proofs.remedies.put_tried.Goals as goal

pub remedies_of-requires : goal.remedies_of-requires
remedies_of-requires c =
    below_known c.args.view.now.on.now.solid.now c.args.k c.args.view.now.belows.now c.below_at-below.result c.below_at-below.ensures c.requires.belows

pub returns : goal.returns
returns c =
    let on = c.args.view.now.on.now in
    put_so on.listing on.file.now on.solid.now c.args.k c.in_ok-remedies.remedies c.as_slice.result.now c.put_remedies-put.result c.args.out.now
    c.put_remedies-put.new.out c.args.named.now c.put_remedies-put.new.named
    (are_remedies on.file.now on.solid.now c.args.view.now.known.now.geometry c.args.k c.in_ok-remedies.remedies c.requires.known c.in_ok-remedies.ensures)
    c.as_slice.ensures c.put_remedies-put.ensures.text c.put_remedies-put.ensures.named
