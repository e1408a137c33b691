-- The words that are given.
use Rattle.std.proofs.Common.{◌≡◌, ◌∙◌, ℕ, ◌<◌, ◌≤◌, List, [], ◌∷◌, length, map, Option, Some, None, refl, sym, ap, arith, get_or, String, string_bytes, Global}
use Rattle.std.specs.Prelude.{option_map}
use Rattle.repair_commands.specs.declared.request.Request.{Request}
use Rattle.repair_commands.specs.declared.request.Request.TheVariants as request
use Rattle.repair_commands.specs.Request.{request_of, choice_of, chosen_request, command_named, numbered_request, second}

pub second_is : (words : List (String Global)) (x : String Global) (name : List ℕ) → 2 ≤ length words → x ≡ get_or words 1 x → name ≡ string_bytes x
    → second (map string_bytes words) ≡ Some name
second_is [] x name some at is = absurd (omega (arith, some))
second_is (w ∷ []) x name some at is = absurd (omega (arith, some))
second_is (w ∷ v ∷ words) x name some at is = ap (λ (t : List ℕ). Some t) (sym (is ∙ ap string_bytes at))

pub few_words : (words : List (String Global)) → length words < 2 → None ≡ request_of (map string_bytes words)
few_words [] few = refl
few_words (w ∷ []) few = refl
few_words (w ∷ v ∷ words) few = absurd (omega (arith, few))

pub two_words : (words : List (String Global)) (x : String Global) (name : List ℕ) (r : Option Request) → 2 ≤ length words → length words < 3
    → x ≡ get_or words 0 x → name ≡ string_bytes x → r ≡ option_map request.Lines (command_named name) → r ≡ request_of (map string_bytes words)
two_words [] x name r some few at is given = absurd (omega (arith, some))
two_words (w ∷ []) x name r some few at is given = absurd (omega (arith, some))
two_words (w ∷ v ∷ []) x name r some few at is given = given ∙ ap (λ (t : List ℕ). option_map request.Lines (command_named t)) (is ∙ ap string_bytes at)
two_words (w ∷ v ∷ u ∷ words) x name r some few at is given = absurd (omega (arith, few))

pub three_words : (words : List (String Global)) (x y : String Global) (name number : List ℕ) (r : Option Request) → 3 ≤ length words → length words < 4
    → x ≡ get_or words 0 x → name ≡ string_bytes x → y ≡ get_or words 2 y → number ≡ string_bytes y → r ≡ numbered_request name number
    → r ≡ request_of (map string_bytes words)
three_words [] x y name number r some few at is there as_read given = absurd (omega (arith, some))
three_words (w ∷ []) x y name number r some few at is there as_read given = absurd (omega (arith, some))
three_words (w ∷ v ∷ []) x y name number r some few at is there as_read given = absurd (omega (arith, some))
three_words (w ∷ v ∷ u ∷ []) x y name number r some few at is there as_read given =
    given ∙ ap (λ (t : List ℕ). numbered_request t number) (is ∙ ap string_bytes at)
    ∙ ap (λ (t : List ℕ). numbered_request (string_bytes w) t) (as_read ∙ ap string_bytes there)
three_words (w ∷ v ∷ u ∷ t ∷ words) x y name number r some few at is there as_read given = absurd (omega (arith, few))

pub four_words : (words : List (String Global)) (x y z : String Global) (name number choice : List ℕ) (r : Option Request) → 4 ≤ length words
    → length words < 5 → x ≡ get_or words 0 x → name ≡ string_bytes x → y ≡ get_or words 2 y → number ≡ string_bytes y → z ≡ get_or words 3 z
    → choice ≡ string_bytes z → r ≡ chosen_request name number (choice_of choice) → r ≡ request_of (map string_bytes words)
four_words [] x y z name number choice r some few at is there as_read by so given = absurd (omega (arith, some))
four_words (w ∷ []) x y z name number choice r some few at is there as_read by so given = absurd (omega (arith, some))
four_words (w ∷ v ∷ []) x y z name number choice r some few at is there as_read by so given = absurd (omega (arith, some))
four_words (w ∷ v ∷ u ∷ []) x y z name number choice r some few at is there as_read by so given = absurd (omega (arith, some))
four_words (w ∷ v ∷ u ∷ t ∷ []) x y z name number choice r some few at is there as_read by so given =
    given ∙ ap (λ (n : List ℕ). chosen_request n number (choice_of choice)) (is ∙ ap string_bytes at)
    ∙ ap (λ (n : List ℕ). chosen_request (string_bytes w) n (choice_of choice)) (as_read ∙ ap string_bytes there)
    ∙ ap (λ (n : List ℕ). chosen_request (string_bytes w) (string_bytes u) (choice_of n)) (so ∙ ap string_bytes by)
four_words (w ∷ v ∷ u ∷ t ∷ s ∷ words) x y z name number choice r some few at is there as_read by so given = absurd (omega (arith, few))

pub many_words : (words : List (String Global)) → 5 ≤ length words → None ≡ request_of (map string_bytes words)
many_words [] many = absurd (omega (arith, many))
many_words (w ∷ []) many = absurd (omega (arith, many))
many_words (w ∷ v ∷ []) many = absurd (omega (arith, many))
many_words (w ∷ v ∷ u ∷ []) many = absurd (omega (arith, many))
many_words (w ∷ v ∷ u ∷ t ∷ []) many = absurd (omega (arith, many))
many_words (w ∷ v ∷ u ∷ t ∷ s ∷ words) many = refl
