-- The paragraphs on the remedies of a shell.
use Rattle.std.specs.Prelude.{ℕ, ◌+◌, ◌==◌, Bool, List, [], ◌++◌, codes, if◌then◌else◌}
use Rattle.iges_params.specs.Contents.{Contents}
use Rattle.solid_data.specs.SolidData.{SolidData}
use Rattle.where_text.specs.declared.listing.Listing.{Listing}
use Rattle.shell_change.specs.declared.change.Change.{Change}
use Rattle.remedy_text.specs.declared.remedy.Heading.{Heading}
use Rattle.remedy_text.specs.Lines.{number_words}
use Rattle.remedy_text.specs.Sentences.{remedy_sentence, stuck_sentence}
use Rattle.remedy_text.specs.Steps.{steps_text}

-- the sentence, if it is told
unfoldable pub explanation : Bool → List ℕ
explanation told = if told then remedy_sentence else []

-- the head of a remedy of shell k, from 0, with its sentence if that is told
unfoldable pub remedy_head : Heading → ℕ → List ℕ
remedy_head h k =
    number_words (codes "hint remedy") h.number ++ number_words (codes " shell") (k + 1) ++ codes "\n" ++ explanation h.explained

-- a remedy, and its steps
abbrev pub remedy_text : Listing → Contents → SolidData → Heading → Change → List ℕ
remedy_text listing f s h c = remedy_head h c.shell.0 ++ steps_text listing f s c

-- how many remedies of a shell aren't written; nothing where all are
unfoldable pub more_remedies : ℕ → List ℕ
more_remedies left = if left == 0 then [] else number_words (codes "hint more") left ++ codes "\n"

-- of shell k, from 0, which has no remedy
unfoldable pub stuck_text : ℕ → List ℕ
stuck_text k = number_words (codes "hint stuck shell") (k + 1) ++ codes "\n" ++ stuck_sentence
