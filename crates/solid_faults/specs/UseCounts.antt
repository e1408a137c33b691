-- How many of the edges that aren't paired are used once, twice and more often.
use Rattle.std.specs.Prelude.{ℕ, ◌+◌, ◌==◌, nat_lt, List, count_by}
use Rattle.solid_faults.specs.declared.edge.Unpaired.{Unpaired}

-- how many rows run on the edge
abbrev pub use_count : Unpaired → ℕ
use_count u = u.along + u.against

abbrev pub once_count : List Unpaired → ℕ
once_count us = count_by (λ (u : Unpaired). use_count u == 1) us

-- Both rows of an edge that isn't paired run the same way.
abbrev pub same_way_count : List Unpaired → ℕ
same_way_count us = count_by (λ (u : Unpaired). use_count u == 2) us

abbrev pub many_count : List Unpaired → ℕ
many_count us = count_by (λ (u : Unpaired). nat_lt 2 (use_count u)) us
