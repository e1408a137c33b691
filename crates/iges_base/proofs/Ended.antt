-- Cutting a text that grows at its end is cutting what is behind the last LF.
use Rattle.std.proofs.Common.{◌≡◌, ℕ, true, List, [], ◌∷◌, ◌++◌, map, refl, sym, ap, ◌∙◌, append_assoc}
use Rattle.std.specs.Prelude.{flat_map}
use Rattle.std.specs.List.{list_all}
use Rattle.std.proofs.lemmas.Bool.{and_parts, and_from}
use Rattle.std.proofs.lemmas.List.{append-nil}
use Rattle.iges_base.specs.InLine.{is_in_line}
use Rattle.iges_base.specs.Ended.{ended, IsBegun}
use Rattle.iges_base.proofs.Lists.{list_all-both}

abbrev Pieces : Type 0
Pieces = List (List ℕ)

ended_first : (p : List ℕ) (ps : Pieces) (rest : List ℕ) → flat_map ended (p ∷ ps) ++ rest ≡ p ++ 10 ∷ (flat_map ended ps ++ rest)
ended_first p ps rest = append_assoc (ended p) (flat_map ended ps) rest ∙ append_assoc p (10 ∷ []) (flat_map ended ps ++ rest)

ended_last : (ps : Pieces) (p : List ℕ) → flat_map ended (ps ++ p ∷ []) ≡ flat_map ended ps ++ ended p
ended_last [] p = append-nil (ended p)
ended_last (q ∷ ps) p = ap (λ (x : List ℕ). ended q ++ x) (ended_last ps p) ∙ sym (append_assoc (ended q) (flat_map ended ps) (ended p))

pub begun_none : IsBegun [] [] []
begun_none = record { whole = refl; in_line = refl }

-- the text grows
pub begun_more : (text : List ℕ) (ps : Pieces) (more x : List ℕ) → IsBegun text ps more → IsBegun (text ++ x) ps (more ++ x)
begun_more text ps more x b = record { whole = ap (λ (t : List ℕ). t ++ x) b.whole ∙ append_assoc (flat_map ended ps) more x; in_line = b.in_line }

-- what is behind the pieces is a piece too, once it has ended
pub begun_end : (text : List ℕ) (ps : Pieces) (p : List ℕ) → IsBegun text ps p → is_in_line p ≡ true → IsBegun (text ++ 10 ∷ []) (ps ++ p ∷ []) []
begun_end text ps p b h = record {
  whole = ap (λ (t : List ℕ). t ++ 10 ∷ []) b.whole ∙ append_assoc (flat_map ended ps) p (10 ∷ []) ∙ sym (ended_last ps p) ∙ sym
      (append-nil (flat_map ended (ps ++ p ∷ [])));
  in_line = list_all-both is_in_line ps (p ∷ []) b.in_line (and_from (is_in_line p) true h refl);
}

-- a way to cut a text that takes the first piece off
module _ (cut : List ℕ → Pieces) (line : List ℕ → List ℕ) (one : (p rest : List ℕ) → is_in_line p ≡ true → cut (p ++ 10 ∷ rest) ≡ line p ∷ cut rest) where
  cut_all : (ps : Pieces) (rest : List ℕ) → list_all is_in_line ps ≡ true → cut (flat_map ended ps ++ rest) ≡ map line ps ++ cut rest
  cut_all [] rest h = refl
  cut_all (p ∷ ps) rest h =
      let k = and_parts (is_in_line p) (list_all is_in_line ps) h in
      ap cut (ended_first p ps rest) ∙ one p (flat_map ended ps ++ rest) k.0 ∙ ap (λ (x : Pieces). line p ∷ x) (cut_all ps rest k.1)

  pub begun_cut : (text : List ℕ) (ps : Pieces) (more : List ℕ) → IsBegun text ps more → cut text ≡ map line ps ++ cut more
  begun_cut text ps more b = ap cut b.whole ∙ cut_all ps more b.in_line
