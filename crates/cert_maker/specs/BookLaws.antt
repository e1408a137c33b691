-- What follows for the book of all solids of a file.
use Rattle.std.specs.Prelude.{◌≡◌, ℕ, ◌<◌, ◌⊎◌, List, length}
use Rattle.iges_params.specs.Contents.{Contents}
use Rattle.iges_params.specs.Limits.{FitsLimits}
use Rattle.cert_lines.specs.declared.version.Version.TheVariants.{Three}
use Rattle.cert_accept.specs.Accepted.{IsAccepted}
use Rattle.iges_params.specs.Solids.{solids_of}
use Rattle.cert_maker.specs.Book.{AllMade, FirstUnmade, IsBookText}
use Rattle.cert_maker.specs.declared.book.BookFault.{BookFault}

-- A file with a solid has its book accepted, which names all of its solids.
abbrev pub BookTextIsAccepted : Type 0
BookTextIsAccepted = (f : Contents) (text : List ℕ) → 0 < length (solids_of f) → IsBookText f text → IsAccepted f text Three (solids_of f)

-- A file has one such text.
abbrev pub OneBookText : Type 0
OneBookText = (f : Contents) (a b : List ℕ) → IsBookText f a → IsBookText f b → a ≡ b

-- In a file within its limits whose solids can all be certified, there is one at least.
abbrev pub MadeHasBook : Type 0
MadeHasBook = (f : Contents) → FitsLimits f → AllMade f 0 (solids_of f) → (text : List ℕ) × IsBookText f text

-- Of solids, taken in this order after others with so many loop uses, one is the first that can't be certified, for one reason.
abbrev pub OneUnmade : Type 0
OneUnmade = (f : Contents) (used : ℕ) (ns : List ℕ) (a b : BookFault) → FirstUnmade f used ns a → FirstUnmade f used ns b → a ≡ b

-- Where all can be, there is none.
abbrev pub NoneUnmadeWhereMade : Type 0
NoneUnmadeWhereMade = (f : Contents) (used : ℕ) (ns : List ℕ) (a : BookFault) → AllMade f used ns → ¬ FirstUnmade f used ns a

-- Whatever the solids are, one of the two is so.
abbrev pub MadeOrUnmade : Type 0
MadeOrUnmade = (f : Contents) (used : ℕ) (ns : List ℕ) → AllMade f used ns ⊎ ((a : BookFault) × FirstUnmade f used ns a)
