-- What is known of the faults of a shell that is there.
use Rattle.std.proofs.Common.{subst, sym, Bor}
use Rattle.std.specs.Prelude.{◌≡◌, List, [], Option, Some, None, IfSome, IsSome, option_copied}
use Rattle.edge_uses.specs.ShellRows.{ShellRows}
use Rattle.solid_faults.specs.declared.edge.Unpaired.{Unpaired}
use Rattle.solid_faults.specs.declared.gap.Gap.{Gap}
use Rattle.solid_faults.specs.Fans.{AreFans}
use Rattle.solid_faults.specs.Faults.{Linking, AreLinkings}

-- where fans are judged no loop has a gap
pub gapless : (d : ShellRows) (gaps : List Gap) (us : List Unpaired) (r : Option (Bor Linking)) (o : Option Linking) → option_copied r ≡ o
    → AreLinkings d gaps us o → IsSome r → gaps ≡ []
gapless d gaps us None o is l some = absurd cc
gapless d gaps us (Some b) o is l some = let j = subst (AreLinkings d gaps us) (sym is) l in j.0

-- and the fans are those of the rows
pub fans_at : (e d : ShellRows) (gaps : List Gap) (us : List Unpaired) (r : Option (Bor Linking)) (o : Option Linking) → e ≡ d → option_copied r ≡ o
    → AreLinkings d gaps us o → IfSome r (λ l. AreFans e l.now.leasts)
fans_at e d gaps us None o same is l = tt
fans_at e d gaps us (Some b) o same is l =
    let j = subst (AreLinkings d gaps us) (sym is) l in subst (λ (t : ShellRows). AreFans t b.now.leasts) (sym same) j.2
