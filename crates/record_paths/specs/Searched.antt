-- Private: what a search for the obligation of a name answers.
use Rattle.std.specs.Prelude.{◌≡◌, List, [], ◌∷◌, ◌⊎◌, Some, Result, Ok, Err}
use Rattle.solid_data.specs.Obligations.{Obligation, AllHold, FirstFalse}
use Rattle.solid_data.specs.declared.verdict.Failing.{Failing}
use Rattle.record_paths.specs.declared.ended.Ended.{Ended}
use Rattle.record_paths.specs.declared.ended.Ended.TheVariants.{Found, Lost}
use Rattle.record_paths.specs.Paths.{Sited, all_owed, IsPathTo}

-- one of them bears the name
abbrev pub Bears : List Obligation → Failing → Type 0
Bears [] name = ⊥
Bears (o ∷ os) name = (name ≡ o.failing) ⊎ Bears os name

-- None bears the name; or the path is that of the first that does; or not all hold, and the first false one bears another name.
abbrev pub Searched : {T : Type 0} → List Sited → Failing → Result T Ended → Type 0
Searched ss name (Ok _) = ¬ Bears (all_owed ss) name
Searched ss name (Err (Found path)) = IsPathTo name ss (Some path)
Searched ss name (Err Lost) = (¬ AllHold (all_owed ss)) × (¬ FirstFalse (all_owed ss) name)
