use Rattle.std.proofs.Common.{◌<◌, ◌^◌, ◌∙◌, ℤ, ap, rules, sym, w64}
use mir.Val.{SFits}
use Rattle.std.proofs.lemmas.Int.{to_z-of_z}
use Rattle.record_numbers.specs.Keys.{number_by}
use Rattle.solid_geometry.specs.Lines.{point_key}
use Rattle.solid_geometry.proofs.lines.number_of_line.Goals as goal

pub returns-clause-number : goal.returns-clause-number
returns-clause-number c p =
    let fits : SFits w64 c.args.line = search rules in
    let same = to_z-of_z w64 c.args.line fits in
    let f = c.args.file.now in
    let keeps = c.in_ok-end.ensures.kept (c.in_ok-start.ensures.numbers p) in
    record {
      start = c.in_ok-start.start;
      end = c.in_ok-end.end;
      start_is = keeps (point_key f c.args.line 0) c.in_ok-start.start
          (ap (number_by c.number_by_key.new.keys) (sym (c.in_ok-point_key.ensures ∙ ap (λ (z : ℤ). point_key f z 0) same)) ∙ c.in_ok-start.ensures.number);
      end_is = ap (number_by c.number_by_key-2.new.keys) (sym (c.in_ok-point_key-2.ensures ∙ ap (λ (z : ℤ). point_key f z 3) same)) ∙ c.in_ok-end.ensures.number;
      small_start = search rules;
      small_end = search rules;
      pair = ap (number_by c.number_by_key-3.new.keys) (sym c.in_ok-ends_key.ensures) ∙ c.in_ok-number.ensures.number;
    }

pub returns-clause-points : goal.returns-clause-points
returns-clause-points c p =
    let one = c.in_ok-start.ensures.numbers p in (
      λ key x h. c.in_ok-end.ensures.kept one key x (c.in_ok-start.ensures.kept p key x h),
      c.in_ok-end.ensures.numbers one,
    )

pub returns-clause-pairs : goal.returns-clause-pairs
returns-clause-pairs c q = (c.in_ok-number.ensures.kept q, c.in_ok-number.ensures.numbers q)
