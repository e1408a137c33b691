use Rattle.std.proofs.Common.{◌≡◌, ◌∙◌, ◌+◌, ◌-◌, ap, sym, arith, length, rules}
use Rattle.iges_write.proofs.LineTexts.{line_long, pushed_fits}
use Rattle.iges_write.proofs.line_text.LineText.push.Goals as goal

pub invariant_of-self : goal.invariant_of-self
invariant_of-self c =
    let bytes = c.self.inside.bytes in
    let len = c.self.inside.len in
    let long : length c.self.inside.bytes ≡ 96 = search rules in
    let stands : length c.args.self.now ≡ c.self.inside.len = sym (ap length c.self.view_is) ∙ line_long bytes len 0 c.self.invariant long in
    let size : length c.copy_from_slice.new.self ≡ c.self.inside.len + length c.args.piece.now - c.self.inside.len =
    omega (arith, ap length c.copy_from_slice.ensures.after) in
    pushed_fits bytes c.copy_from_slice.new.self len (c.self.inside.len + length c.args.piece.now - c.self.inside.len) c.self.invariant long size
    (omega (arith, stands, c.requires)) (c.self.inside.len + length c.args.piece.now) (omega arith)
