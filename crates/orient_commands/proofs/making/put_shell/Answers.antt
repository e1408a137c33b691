use Rattle.orient_commands.proofs.WholeText.{begun_ring, begun_flags}
use Rattle.orient_commands.proofs.making.put_shell.Goals as goal

pub returns-then-is_ring : goal.returns-then-is_ring
returns-then-is_ring c s n count begun fit = begun_ring s n count c.args.ringed c.args.out.now c.put_line.new.out c.args.line.now begun c.requires
    c.in_ok-put_line.ensures fit c.if-is_ring.ensures

pub returns : goal.returns
returns c s n count begun fit = begun_flags s n count c.args.ringed c.args.out.now c.put_line.new.out c.args.line.now begun c.requires c.in_ok-put_line.ensures
    fit c.if-is_ring.ensures
