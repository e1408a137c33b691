use Rattle.std.proofs.Common.{◌≡◌, ◌≤◌, ◌∙◌, ◌+◌, ◌-◌, ◌++◌, List, ℕ, ap, sym, arith, length, rules}
use Rattle.iges_write.proofs.LineTexts.{line_long, halves_fit, halves_are}
use Rattle.iges_write.proofs.line_text.LineText.push_halves.Goals as goal

pub invariant_of-self : goal.invariant_of-self
invariant_of-self c =
    let bytes = c.self.inside.bytes in
    let piece = c.args.piece.now in
    let len = c.self.inside.len in
    let half = c.args.half in
    let long : length c.self.inside.bytes ≡ 96 = search rules in
    let stands : length c.args.self.now ≡ c.self.inside.len = sym (ap length c.self.view_is) ∙ line_long bytes len 0 c.self.invariant long in
    let room : c.self.inside.len + length c.args.piece.now ≤ 96 = omega (arith, stands, c.requires.room) in
    halves_fit bytes piece c.copy_from_slice.new.self c.copy_from_slice-2.new.self len half (len + half - len)
    (len + length piece - (len + length piece - half)) (len + length piece - half) c.self.invariant long room c.requires.few c.requires.many
    (c.copy_from_slice.ensures.after ∙ c.split_at.ensures.front) (c.copy_from_slice-2.ensures.after ∙ c.split_at-2.ensures.back) (omega arith)
    (omega (arith, c.requires.few)) (omega (arith, c.requires.few)) (len + length piece) (omega arith)

pub returns-clause-is : goal.returns-clause-is
returns-clause-is c =
    let bytes = c.self.inside.bytes in
    let piece = c.args.piece.now in
    let len = c.self.inside.len in
    let half = c.args.half in
    let long : length c.self.inside.bytes ≡ 96 = search rules in
    let stands : length c.args.self.now ≡ c.self.inside.len = sym (ap length c.self.view_is) ∙ line_long bytes len 0 c.self.invariant long in
    let room : c.self.inside.len + length c.args.piece.now ≤ 96 = omega (arith, stands, c.requires.room) in
    halves_are bytes piece c.copy_from_slice.new.self c.copy_from_slice-2.new.self len half (len + half - len)
    (len + length piece - (len + length piece - half)) (len + length piece - half) c.self.invariant long room c.requires.few c.requires.many
    (c.copy_from_slice.ensures.after ∙ c.split_at.ensures.front) (c.copy_from_slice-2.ensures.after ∙ c.split_at-2.ensures.back) (omega arith)
    (omega (arith, c.requires.few)) (omega (arith, c.requires.few)) (len + length piece) (omega arith)
    ∙ ap (λ (x : List ℕ). x ++ c.args.piece.now) c.self.view_is
