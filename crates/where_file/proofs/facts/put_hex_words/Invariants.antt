use Rattle.std.proofs.Common.{◌≡◌, ◌++◌, drop, flat_map}
use Rattle.where_text.specs.Spelled.{space_word}
use Rattle.where_file.specs.LineFacts.{hex_byte}
use Rattle.where_file.proofs.facts.put_hex_words.Given as goal

abbrev pub invariant-bytes : goal.invariant-bytes
invariant-bytes l = l.out ++ flat_map (λ b. space_word (hex_byte b)) (drop l.byte-index l.bytes) ≡ l.fn.out ++ flat_map (λ b. space_word (hex_byte b)) l.bytes
