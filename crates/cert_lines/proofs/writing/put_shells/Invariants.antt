use Rattle.std.proofs.Common.{◌≡◌, drop, ◌++◌}
use Rattle.std.specs.Prelude.{flat_map, ◌+◌}
use Rattle.std.specs.List.{enumerate_from}
use Rattle.cert_lines.specs.Written.{shell_lines, text_of}
use Rattle.cert_lines.proofs.writing.put_shells.Given as goal

abbrev pub invariant-shells : goal.invariant-shells
invariant-shells l = l.out ++ flat_map (λ h. text_of (shell_lines l.version h)) (enumerate_from (l.i + 1) (drop l.i l.parts)) ≡ l.fn.out ++ flat_map
    (λ h. text_of (shell_lines l.version h)) (enumerate_from 1 l.parts)
