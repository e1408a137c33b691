use Rattle.where_unjudged.proofs.Told.{lines_put}
use Rattle.where_unjudged.proofs.telling.put_lines.Goals as goal

pub returns : goal.returns
returns c = lines_put c.put_types-2.result c.args.file.now c.args.shells.now c.args.faces.now c.args.out.now c.put_members.new.out c.put_members-2.new.out
    c.put_types.new.out c.put_types-2.new.out c.requires.shells c.requires.faces c.in_ok-put_members.ensures c.in_ok-put_members-2.ensures
    (c.in_ok-put_types.ensures c.args.file.now c.requires.counts) (c.put_types-2.ensures c.args.file.now c.requires.counts)
