use Rattle.std.proofs.Common.{◌≡◌, vec_len}
use Rattle.cert_maker.specs.Along.{RunAlong}
use Rattle.cert_maker.proofs.pairs.rows_along.Given as goal

abbrev pub invariant-rows : goal.invariant-rows
invariant-rows l = record {
  len : vec_len l.along ≡ l.span.count;
  along : RunAlong l.rows l.span l.i l.along.items;
}
