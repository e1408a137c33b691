-- The hints on the solids of a file, each with its sentence in lines of at most 78 columns.
use Rattle.std.specs.Prelude.{ℕ, List, [], ◌∷◌, ◌++◌, flat_map, length, codes, decimal}
use Rattle.iges_base.specs.declared.entry_no.EntryNo.{EntryNo}
use Rattle.where_text.specs.declared.listing.Listing.TheVariants.{Few}
use Rattle.where_text.specs.Listing.{more_words, shown}
use Rattle.where_text.specs.Spelled.{space_word}

unfoldable pub solids_sentence : List ℕ
solids_sentence = codes "  The solids of this file are these. Take one of their numbers.\n"

unfoldable pub no_solid_hint : List ℕ
no_solid_hint = codes "hint no-solid\n  This file holds no solid (entity 186 of form 0).\n"

-- the first 20 of these solids, or that there is none
unfoldable pub solids_hint : List EntryNo → List ℕ
solids_hint [] = no_solid_hint
solids_hint (n ∷ ns) = codes "hint solids" ++ flat_map (λ (m : EntryNo). space_word (decimal m.0)) (shown Few (n ∷ ns))
    ++ more_words Few (length (n ∷ ns)) ++ codes "\n" ++ solids_sentence
