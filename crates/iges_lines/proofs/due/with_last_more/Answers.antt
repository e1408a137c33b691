use Rattle.std.proofs.Common.{rules, ap, ◌∙◌, ◌+◌, ℕ}
use Rattle.std.specs.Int.{to_le_bytes, w64}
use Rattle.iges_lines.proofs.Foretelling.{last_more}
use Rattle.iges_lines.proofs.due.with_last_more.Goals as goal

pub returns : goal.returns
returns c =
    c.to_le_bytes.ensures ∙ ap (λ (n : ℕ). to_le_bytes w64 (n + 72057594037927936)) c.from_le_bytes.ensures ∙ last_more c.args.bytes (search rules)
    (search rules) c.requires
