use Rattle.iges_write.proofs.BothPages.{ArePut}
use Rattle.iges_write.proofs.entries.put_entries.Given as goal

abbrev pub invariant-entries : goal.invariant-entries
invariant-entries l = ArePut l.file.global.delims l.file.entries l.page l.params l.fn.page l.fn.params l.i
