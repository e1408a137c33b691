-- Paragraphs that are put together of their pieces.
use Rattle.std.specs.Prelude.{◌≡◌, ◌-◌, ℕ, Bool, List, [], ◌∷◌, ◌++◌, length, flat_map, slice_get}
use Rattle.std.proofs.Common.{refl, ◌∙◌, ap, append_assoc}
use Rattle.iges_params.specs.Contents.{Contents}
use Rattle.solid_data.specs.SolidData.{SolidData}
use Rattle.solid_data.specs.declared.solid.FaceUse.{FaceUse}
use Rattle.solid_data.specs.declared.verdict.Rule.TheVariants.{Unpaired as RuleUnpaired}
use Rattle.edge_uses.specs.ShellRows.{ShellRows, rows_of}
use Rattle.solid_faults.specs.declared.edge.Unpaired.{Unpaired}
use Rattle.solid_faults.specs.declared.fan.Unlinked.{Unlinked}
use Rattle.shell_facts.specs.RowPlaces.{places_in}
use Rattle.shell_facts.specs.declared.placing.RowPlace.{RowPlace}
use Rattle.where_text.specs.declared.listing.Listing.{Listing}
use Rattle.where_text.specs.Listing.{left_line, shown, shown_count}
use Rattle.where_text.specs.Sentences.{rule_sentence}
use Rattle.where_shells.specs.Lines.{faces_in, rule_words}
use Rattle.where_shells.specs.Link.{link_lines, link_text}
use Rattle.where_shells.specs.Pair.{edge_text, pair_lines, usage_words}

two : (o p q a b : List ℕ) → p ≡ o ++ a → q ≡ p ++ b → q ≡ o ++ (a ++ b)
two o p q a b h k = k ∙ (ap (λ x. x ++ b) h ∙ append_assoc o a b)

five : (o p q r s t a b c d e : List ℕ) → p ≡ o ++ a → q ≡ p ++ b → r ≡ q ++ c → s ≡ r ++ d → t ≡ s ++ e → t ≡ o ++ (a ++ b ++ c ++ d ++ e)
five o p q r s t a b c d e h1 h2 h3 h4 h5 = two o s t (a ++ b ++ c ++ d) e (two o r s (a ++ b ++ c) d (two o q r (a ++ b) c (two o p q a b h1 h2) h3) h4) h5

-- the paragraph on edges that aren't paired, of which so many are written
pub pair_told : (listing : Listing) (f : Contents) (s : SolidData) (k : ℕ) (flag : Bool) (d : ShellRows) (places : List RowPlace) (us written : List Unpaired)
    (n : ℕ) (o p q r t all : List ℕ) → n ≡ shown_count listing (length us) → written ≡ shown listing us
    → p ≡ o ++ rule_words RuleUnpaired k (length us) → q ≡ p ++ usage_words us → r ≡ q ++ rule_sentence RuleUnpaired
    → t ≡ r ++ flat_map (edge_text listing f s flag d places) written → all ≡ t ++ left_line [] (length us - n)
    → all ≡ o ++ pair_lines listing f s k flag d places us
unfolding pair_lines
pair_told listing f s k flag d places us written n o p q r t all few are a b c e g =
    five o p q r t all (rule_words RuleUnpaired k (length us)) (usage_words us) (rule_sentence RuleUnpaired)
    (flat_map (edge_text listing f s flag d places) (shown listing us)) (left_line [] (length us - shown_count listing (length us))) a b c
    (e ∙ ap (λ ws. r ++ flat_map (edge_text listing f s flag d places) ws) are) (g ∙ ap (λ m. t ++ left_line [] (length us - m)) few)

-- the paragraph on vertices that aren't linked, where there are some
pub link_told : (listing : Listing) (f : Contents) (s : SolidData) (k : ℕ) (faces : List FaceUse) (d : ShellRows) (places : List RowPlace)
    (given leasts : List ℕ) (told us : List Unlinked) → (told ≡ [] → ⊥) → faces ≡ faces_in (slice_get s.shells k) → d ≡ rows_of s (slice_get s.shells k)
    → places ≡ places_in s (slice_get s.shells k) → given ≡ leasts → told ≡ us
    → link_lines listing f s k faces d places given told ≡ link_text listing f s k leasts us
link_told listing f s k faces d places given leasts [] us some a b c e g = absurd (some refl)
link_told listing f s k faces d places given leasts (u ∷ told) us some a b c e g =
    let vs : List Unlinked = u ∷ told in
    ap (λ x. link_lines listing f s k x d places given vs) a
    ∙ (ap (λ x. link_lines listing f s k (faces_in (slice_get s.shells k)) x places given vs) b
    ∙ (ap (λ x. link_lines listing f s k (faces_in (slice_get s.shells k)) (rows_of s (slice_get s.shells k)) x given vs) c
    ∙ (ap (λ x. link_text listing f s k x vs) e ∙ ap (λ x. link_text listing f s k leasts x) g)))
