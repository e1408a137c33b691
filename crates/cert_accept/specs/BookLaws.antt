-- What holds of books by their definition. The lines are those after the head.
use Rattle.std.specs.Prelude.{◌≡◌, ℕ, ◌⊎◌, List}
use Rattle.iges_params.specs.Contents.{Contents}
use Rattle.cert_lines.specs.Opening.{IsHeaded}
use Rattle.cert_lines.specs.declared.version.Version.TheVariants.{Three}
use Rattle.cert_accept.specs.Accepted.{Part, IsAcceptedBook}
use Rattle.cert_accept.specs.Book.{BookRefusal, IsBookBad}

-- One thing is the first bad one.
abbrev pub OneRefusal : Type 0
OneRefusal = (f : Contents) (certificate : List ℕ) (lines : List (List ℕ)) (a b : BookRefusal) → IsHeaded certificate Three lines → IsBookBad f lines a
    → IsBookBad f lines b → a ≡ b

-- In an accepted book nothing is bad.
abbrev pub NoneBadWhereAccepted : Type 0
NoneBadWhereAccepted = (f : Contents) (certificate : List ℕ) (lines : List (List ℕ)) (parts : List Part) (a : BookRefusal) → IsHeaded certificate Three lines
    → IsAcceptedBook f certificate parts → ¬ IsBookBad f lines a

-- Whatever comes after the head, the book is accepted or something is the first bad one.
abbrev pub AcceptedOrBad : Type 0
AcceptedOrBad = (f : Contents) (certificate : List ℕ) (lines : List (List ℕ)) → IsHeaded certificate Three lines
    → ((parts : List Part) × IsAcceptedBook f certificate parts) ⊎ ((a : BookRefusal) × IsBookBad f lines a)

-- An accepted book has its parts in one way.
abbrev pub OneReading : Type 0
OneReading = (f : Contents) (certificate : List ℕ) (p q : List Part) → IsAcceptedBook f certificate p → IsAcceptedBook f certificate q → p ≡ q
