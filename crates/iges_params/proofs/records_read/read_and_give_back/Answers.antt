use Rattle.std.proofs.Common.{◌≡◌, ◌-◌, ◌/◌, ◌<◌, ◌≤◌, Some, List, ℕ, length, take, min, refl, sym, ap, subst, ◌∙◌, arith}
use Rattle.std.specs.Prelude.{slice_get}
use Rattle.std.proofs.lemmas.List.{length-take}
use Rattle.std.proofs.lemmas.Option.{slice_get_read}
use Rattle.iges_lines.specs.Lines.{SectionLines}
use Rattle.iges_params.specs.FromLast.{LieWithin}
use Rattle.iges_params.proofs.Needs.{front_less, within_both, within_fewer}
use Rattle.iges_params.proofs.records_read.read_and_give_back.Goals as goal

pub block_needs-requires : goal.block_needs-requires
block_needs-requires c = (length c.args.lines.now.param, omega (arith, c.requires.few), c.requires.records)

pub down-preserved : goal.down-preserved
down-preserved c =
    let before = c.down.invariant in
    let block : ℕ = (c.down.records.left - 1) / 64 in
    let params : List (List ℕ) = c.down.lines.param in
    let need : ℕ = c.index.result.now in
    let down = c.in_ok-read_down.ensures {u = tt} in
    let needs = c.in_ok-needs.ensures {u = tt} in
    let kept : c.keep_params.new.self.param ≡ take need params = ap (λ (s : SectionLines). s.param) c.keep_params.ensures in
    let long : length c.keep_params.new.self.param ≡ min need (length params) = ap length kept ∙ length-take need params in
    let fewer : c.read_down.new.self.left ≤ c.down.records.left = omega (arith, down.left, c.down-test.true) in
    let within : block < length c.in_ok-needs.needs.items = omega (arith, needs.many, c.in_ok-needs.needs.ok.0, before.left, c.down-test.true) in
    let at : slice_get c.in_ok-needs.needs.items block ≡ Some need = slice_get_read c.in_ok-needs.needs.items _ block need refl within c.index.ensures in
    record {
      few = omega (arith, long, before.few);
      left = omega (arith, fewer, before.left);
      spare_empty = down.spare_empty;
      front = front_less need params c.args.lines.now.param c.keep_params.new.self.param before.front kept;
      records = within_both c.args.entries.now c.read_down.new.self.left need (length params) (length c.keep_params.new.self.param)
          (subst (λ (k : ℕ). LieWithin need k c.args.entries.now) (sym down.left) (needs.needs block need at))
          (within_fewer c.args.entries.now c.read_down.new.self.left c.down.records.left (length params) fewer before.records) long;
      read = down.read c.args.lines.now.param before.front before.read;
    }
