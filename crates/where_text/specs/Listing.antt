-- How many members of a list are written.
use Rattle.std.specs.Prelude.{ℕ, ◌-◌, ◌==◌, min, List, [], ◌++◌, length, take, codes, decimal, if◌then◌else◌}
use Rattle.where_text.specs.declared.listing.Listing.{Listing}
use Rattle.where_text.specs.declared.listing.Listing.TheVariants.{Few, All}

abbrev pub shown_count : Listing → ℕ → ℕ
shown_count Few n = min n 20
shown_count All n = n

-- the members that are written, the first ones
abbrev pub shown : {A : Type 0} → Listing → List A → List A
shown listing xs = take (shown_count listing (length xs)) xs

-- how many aren't written, after an indent; nothing where all are
unfoldable pub left_line : List ℕ → ℕ → List ℕ
left_line indent left = if left == 0 then [] else indent ++ codes "more " ++ decimal left ++ codes "\n"

-- after paragraphs, and after facts, of which there are n
abbrev pub more_items : Listing → ℕ → List ℕ
more_items listing n = left_line [] (n - shown_count listing n)

abbrev pub more_facts : Listing → ℕ → List ℕ
more_facts listing n = left_line (codes "  ") (n - shown_count listing n)

-- the same at the end of a line of words
unfoldable pub left_words : ℕ → List ℕ
left_words left = if left == 0 then [] else codes " more " ++ decimal left

abbrev pub more_words : Listing → ℕ → List ℕ
more_words listing n = left_words (n - shown_count listing n)
