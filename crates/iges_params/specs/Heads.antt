-- Private: the head of a global as the code has it.
use Rattle.std.specs.Prelude.{◌≡◌, Option, Some, None, option_copied}
use Rattle.iges_params.specs.Global as global
use Rattle.iges_params.specs.declared.head.Head.{Head}

-- the same head, or none
abbrev pub IsHead : Option Head → Option global.Head → Type 0
IsHead None h = h ≡ None
IsHead (Some x) h = h ≡ Some (record { delims = x.delims; values = option_copied x.values })
