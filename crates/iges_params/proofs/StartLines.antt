-- The start lines of a file, put one after the other.
use Rattle.std.proofs.Common.{◌≡◌, ℕ, ◌+◌, List, [], ◌∷◌, ◌++◌, take, map, Some, sym, ap, ◌∙◌}
use Rattle.std.specs.Prelude.{slice_get}
use Rattle.std.proofs.lemmas.List.{take_more, map-append}
use Rattle.std.proofs.lemmas.Option.{slice_get_within, get_or_from_slice_get}
use Rattle.iges_lines.specs.Lines.{SectionLines, columns}
use Rattle.iges_params.specs.declared.global.Global26.{Global26}
use Rattle.iges_params.specs.Contents.{Contents}

map_more : {X Y : Type 0} (f : X → Y) (xs : List X) (i : ℕ) (x : X) → slice_get xs i ≡ Some x → map f (take (i + 1) xs) ≡ map f (take i xs) ++ f x ∷ []
map_more {X} {Y} f xs i x is =
    ap (map f) (take_more xs i x (slice_get_within xs i x is) ∙ ap (λ (y : X). take i xs ++ y ∷ []) (get_or_from_slice_get xs i x x is)) ∙ map-append f
    (take i xs) (x ∷ [])

-- the file with so many start lines
abbrev pub started : SectionLines → Global26 → ℕ → Contents
started s g i = record { start = map (columns 1 72) (take i s.start); global = g; entries = [] }

module _ (s : SectionLines) (g : Global26) (line field : List ℕ) (field_is : field ≡ columns 1 72 line) where
  pub started_first : (file : Contents) → file ≡ record { start = field ∷ []; global = g; entries = [] } → slice_get s.start 0 ≡ Some line →
      file ≡ started s g 1
  started_first file e is =
      e ∙ ap (λ (x : List (List ℕ)). record { start = x; global = g; entries = [] })
      (ap (λ (f : List ℕ). f ∷ []) field_is ∙ sym (map_more (columns 1 72) s.start 0 line is))

  pub started_next : (i : ℕ) (file next : Contents) → file ≡ started s g i → next ≡ record file { start = file.start ++ field ∷ [] } →
      slice_get s.start i ≡ Some line → next ≡ started s g (i + 1)
  started_next i file next h e is =
      e ∙ ap (λ (f : Contents). record f { start = f.start ++ field ∷ [] }) h
      ∙ ap (λ (x : List (List ℕ)). record { start = x; global = g; entries = [] })
      (ap (λ (f : List ℕ). map (columns 1 72) (take i s.start) ++ f ∷ []) field_is ∙ sym (map_more (columns 1 72) s.start i line is))
