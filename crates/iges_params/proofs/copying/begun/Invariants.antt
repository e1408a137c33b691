use Rattle.std.proofs.Common.{◌≡◌, take, []}
use Rattle.iges_params.proofs.copying.begun.Given as goal

abbrev pub invariant-lines : goal.invariant-lines
invariant-lines l = record {
  start : l.new.start ≡ take l.i l.file.start;
  global : l.new.global ≡ l.file.global;
  entries : l.new.entries ≡ [];
}
