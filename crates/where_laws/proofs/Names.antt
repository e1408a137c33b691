-- It can be told whether two names of obligations are one, and so which path leads to the first of a name.
use Rattle.std.specs.Prelude.{◌≡◌, ℕ, List, [], ◌∷◌, ◌⊎◌, Option}
use Rattle.std.proofs.Common.{refl, sym, ◌∙◌, ap, inl, inr, ⊎_elim, get_or}
use Rattle.solid_data.specs.Obligations.{Obligation}
use Rattle.solid_data.specs.declared.verdict.Failing.{Failing}
use Rattle.solid_data.specs.declared.verdict.Rule.{Rule}
use Rattle.solid_data.specs.declared.verdict.Rule.TheVariants as rule
use Rattle.solid_data.proofs.Decisions.{Decided, decided_alike, decided_same, decided_three}
use Rattle.record_paths.specs.declared.path.Path.{Path}
use Rattle.record_paths.specs.Paths.{AreSame, IsPathTo, Sited, all_owed}
use Rattle.record_paths.specs.Searched.{Bears}

abbrev rule_at : Rule → ℕ
rule_at rule.NoEntry = 0
rule_at rule.WrongKind = 1
rule_at rule.BadLayout = 2
rule_at rule.Twice = 3
rule_at rule.BadIndex = 4
rule_at rule.BadGeometry = 5
rule_at rule.Unjoined = 6
rule_at rule.Unpaired = 7
rule_at rule.Unreached = 8
rule_at rule.Unlinked = 9
rule_at rule.Shared = 10

abbrev all_rules : List Rule
all_rules =
    rule.NoEntry ∷ rule.WrongKind ∷ rule.BadLayout ∷ rule.Twice ∷ rule.BadIndex ∷ rule.BadGeometry ∷ rule.Unjoined ∷ rule.Unpaired ∷ rule.Unreached
    ∷ rule.Unlinked ∷ rule.Shared ∷ []

abbrev rule_of : ℕ → Rule
rule_of n = get_or all_rules n rule.NoEntry

rule_again : (r : Rule) → rule_of (rule_at r) ≡ r
rule_again rule.NoEntry = refl
rule_again rule.WrongKind = refl
rule_again rule.BadLayout = refl
rule_again rule.Twice = refl
rule_again rule.BadIndex = refl
rule_again rule.BadGeometry = refl
rule_again rule.Unjoined = refl
rule_again rule.Unpaired = refl
rule_again rule.Unreached = refl
rule_again rule.Unlinked = refl
rule_again rule.Shared = refl

rule_decided : (r s : Rule) → Decided (r ≡ s)
rule_decided r s = decided_alike (λ e. sym (rule_again r) ∙ (ap rule_of e ∙ rule_again s)) (λ e. ap rule_at e) (decided_same (rule_at r) (rule_at s))

abbrev name_of : Rule → ℕ → ℕ → Failing
name_of r entity place = record { rule = r; entity = record { 0 = entity }; place = place }

same_name : (r s : Rule) (m n i j : ℕ) → r ≡ s → m ≡ n → i ≡ j → name_of r m i ≡ name_of s n j
same_name r s m n i j a b c = ap (λ q. name_of q m i) a ∙ (ap (λ q. name_of s q i) b ∙ ap (λ q. name_of s n q) c)

pub name_decided : (x y : Failing) → Decided (x ≡ y)
name_decided x y =
    decided_alike (λ (a, b, c). same_name x.rule y.rule x.entity.0 y.entity.0 x.place y.place a b c)
    (λ e. (ap (λ (z : Failing). z.rule) e, ap (λ (z : Failing). z.entity.0) e, ap (λ (z : Failing). z.place) e))
    (decided_three (rule_decided x.rule y.rule) (decided_same x.entity.0 y.entity.0) (decided_same x.place y.place))

pub same_bears : (os ps : List Obligation) (x : Failing) → AreSame os ps → Bears ps x → Bears os x
same_bears [] [] x h k = absurd k
same_bears [] (p ∷ ps) x h k = absurd h
same_bears (o ∷ os) [] x h k = absurd k
same_bears (o ∷ os) (p ∷ ps) x h k = ⊎_elim (λ e. inl (e ∙ sym h.0)) (λ r. inr (same_bears os ps x h.2 r)) k

-- where an obligation bears the name, a path leads to the first one that does
pub some_path : (x : Failing) (ss : List Sited) → Bears (all_owed ss) x → (path : Option Path) × IsPathTo x ss path
some_path x [] h = absurd h
some_path x (s ∷ ss) h = by_name (name_decided x s.owed.failing) (some_path x ss)
  where
    by_name : Decided (x ≡ s.owed.failing) → (Bears (all_owed ss) x → (path : Option Path) × IsPathTo x ss path)
        → (path : Option Path) × IsPathTo x (s ∷ ss) path
    by_name (inl e) later = (s.path, ((λ e. refl), inl e))
    by_name (inr never) later = let there = later (⊎_elim (λ e. absurd (never e)) (λ r. r) h) in (there.0, ((λ e. absurd (never e)), inr there.1))
