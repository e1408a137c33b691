use Rattle.std.proofs.Common.{arith, refl, ap, ◌∙◌}
use Rattle.iges_base.specs.declared.entry_no.EntryNo.{EntryNo}
use Rattle.cert_state.proofs.Arrays.{no_mates, none_in_zeros, zeros, length_zeros}
use Rattle.open_certificate.proofs.Marks.{no_rows_marked, marks_long}
use Rattle.open_certificate.proofs.Telling.{fresh_tells}
use Rattle.open_certificate.proofs.state.OpenState.of.Goals as goal

pub invariant_of-result : goal.invariant_of-result
invariant_of-result c = record {
  sizes = c.in_ok-sizes.ensures.rows;
  alone = c.in_ok-sizes.ensures.alone;
  in_order = c.requires.order;
  some_face = c.requires.some;
  each_row = length_zeros c.in_ok-mates.mates.items _ c.in_ok-mates.ensures ∙ c.len.ensures.count;
  each_lone = marks_long c.in_ok-lone.lone.items _ c.in_ok-lone.ensures ∙ c.len-2.ensures.count;
  each_face = c.in_ok-reached.ensures.len ∙ c.face_count.ensures;
  few_dues = omega arith;
  few_listed = omega arith;
  few_lone = omega arith;
  unbegun = λ e. (omega arith, refl, refl);
  passed = λ r m is. absurd (none_in_zeros c.in_ok-mates.mates.items r m (zeros c.in_ok-mates.mates.items _ c.in_ok-mates.ensures) is);
}

pub returns-clause-tells : goal.returns-clause-tells
returns-clause-tells c = λ s named is.
    fresh_tells _ s (ap (λ (e : EntryNo). e.0) named) is refl (no_mates c.in_ok-mates.mates.items (zeros c.in_ok-mates.mates.items _ c.in_ok-mates.ensures))
    (no_rows_marked c.in_ok-lone.lone.items _ c.in_ok-lone.ensures) refl c.in_ok-reached.ensures.first
    (omega arith) refl refl refl refl refl
