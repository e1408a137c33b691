-- Private: what a piece gives, with any continuation.
use Rattle.std.specs.Prelude.{◌≡◌, ℕ, List, Option, Some, None, Result, Ok, Err}
use Rattle.line_layout.specs.declared.counting.LineCounts.{LineCounts}
use Rattle.line_layout.specs.declared.fault.RelaidFault.{RelaidFault}
use Rattle.line_layout.specs.declared.relaying.Next.{Next}
use Rattle.line_layout.specs.declared.relaying.Next.TheVariants.{More, Nothing}
use Rattle.line_layout.specs.Counts.{AreFew}
use Rattle.line_layout.specs.Relaid.{Laid, Fails, before}

-- the text before the piece and what follows is the new text and what follows it
abbrev pub Takes : Result Next RelaidFault → List ℕ → List ℕ → Laid → (LineCounts → Laid) → Type 0
Takes (Ok (More c)) old new read go = before old read ≡ before new (go c)
Takes (Ok Nothing) old new read go = before old read ≡ Ok new
Takes (Err e) old new read go = Fails e read

abbrev pub KeepsFew : Result Next RelaidFault → Type 0
KeepsFew (Ok (More c)) = AreFew c
KeepsFew (Ok Nothing) = Unit {0}
KeepsFew (Err e) = Unit {0}

-- how the lines go on
abbrev pub GoesOn : Result Next RelaidFault → Option LineCounts → Type 0
GoesOn (Ok (More c)) after = after ≡ Some c
GoesOn (Ok Nothing) after = after ≡ None
GoesOn (Err e) after = Unit {0}
