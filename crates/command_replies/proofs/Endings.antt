-- From a reply to the outcome of a run.
use Rattle.std.proofs.Common.{◌≡◌, inl, inr, ℕ, List, [], Option, Some, None, refl, sym, subst, ◌∙◌}
use Rattle.std.specs.Prelude.{IsSome}
use Rattle.std.specs.Io.KnownBytes.{Appends}
use Rattle.iges_io.specs.Faults.{Rose}
use Rattle.iges_io.specs.Reading.{Told}
use Rattle.command_replies.specs.Due.{Owed}
use Rattle.command_replies.specs.Ending.{Finishes, IsComplete, Outcome}
use Rattle.command_replies.specs.declared.answer.Answer.{Answer}
use Rattle.command_replies.specs.declared.answer.Answer.TheVariants.{Done, No, Usage, BadFile, ReadFault, WriteFault, NoMemory, NoExtract, TooLarge}

-- whatever a source told, it told some bytes
pub some_told : (left : Option (List ℕ)) → (bytes : List ℕ) × Told left bytes
some_told None = ([], tt)
some_told (Some bytes) = (bytes, refl)

-- the answers that may be owed to words of a listed form
abbrev pub IsJudgement : Answer → Type 0
IsJudgement Usage = ⊥
IsJudgement ReadFault = ⊥
IsJudgement WriteFault = ⊥
IsJudgement NoMemory = ⊥
IsJudgement _ = Unit {0}

-- the answers that words may owe
abbrev pub IsJudged : {C : Type 0} → Option C → Answer → Type 0
IsJudged None a = a ≡ Usage
IsJudged (Some c) a = IsJudgement a

no_fault : {C : Type 0} (o : Option C) (a : Answer) → IsJudged o a → (a ≡ ReadFault → ⊥) × (a ≡ WriteFault → ⊥) × (a ≡ NoMemory → ⊥)
no_fault None a is = (λ e. let usage = is in cc, λ e. let usage = is in cc, λ e. let usage = is in cc)
no_fault (Some c) a is = (λ e. subst IsJudgement e is, λ e. subst IsJudgement e is, λ e. subst IsJudgement e is)

complete_judgement : (a : Answer) → IsJudgement a → IsComplete a
complete_judgement Done is = tt
complete_judgement No is = tt
complete_judgement Usage is = absurd is
complete_judgement BadFile is = tt
complete_judgement ReadFault is = absurd is
complete_judgement WriteFault is = absurd is
complete_judgement NoMemory is = absurd is
complete_judgement NoExtract is = tt
complete_judgement TooLarge is = tt

complete_judged : {C : Type 0} (o : Option C) (a : Answer) → IsSome o → IsJudged o a → IsComplete a
complete_judged None a some is = absurd (let there = some in cc)
complete_judged (Some c) a some is = complete_judgement a is

module _ (owes : Owed) (before after : Option (List ℕ)) where
  whole_text : (answer : Answer) (text : List ℕ) → owes answer text → (answer ≡ ReadFault → ⊥) × (answer ≡ WriteFault → ⊥) × (answer ≡ NoMemory → ⊥)
      → Appends before after text → Outcome owes before after answer
  whole_text Done text owed sound appended = record { text = text; owed = owed; appended = appended }
  whole_text No text owed sound appended = record { text = text; owed = owed; appended = appended }
  whole_text Usage text owed sound appended = record { text = text; owed = owed; appended = appended }
  whole_text BadFile text owed sound appended = record { text = text; owed = owed; appended = appended }
  whole_text ReadFault text owed sound appended = absurd (sound.0 refl)
  whole_text WriteFault text owed sound appended = absurd (sound.1 refl)
  whole_text NoMemory text owed sound appended = absurd (sound.2 refl)
  whole_text NoExtract text owed sound appended = record { text = text; owed = owed; appended = appended }
  whole_text TooLarge text owed sound appended = record { text = text; owed = owed; appended = appended }

  -- of the words' form, if they have one, and of what is owed to them
  module _ {C : Type 0} (form : Option C) (faults now : ℕ) (answer : Answer) (text : List ℕ) (result : Answer) (owed : owes answer text)
      (judged : IsJudged form answer) where
    -- what is owed was written, or a part of it
    pub finished : Finishes before after faults now answer text result → Outcome owes before after result
    finished (inl h) = subst (Outcome owes before after) (sym h.0) (whole_text answer text owed (no_fault form answer judged) h.1)
    finished (inr h) =
        subst (Outcome owes before after) (sym h.0)
        (record { answer = answer; text = text; owed = owed; count = h.1.count; shorter = h.1.shorter; appended = h.1.appended })

    pub no_read_fault : Finishes before after faults now answer text result → result ≡ ReadFault → ⊥
    no_read_fault (inl h) e = let sound = no_fault form answer judged in sound.0 (sym h.0 ∙ e)
    no_read_fault (inr h) e = let fault = h.0 in cc

    pub write_fault : Finishes before after faults now answer text result → result ≡ WriteFault → Rose faults now
    write_fault (inl h) e = let sound = no_fault form answer judged in absurd (sound.1 (sym h.0 ∙ e))
    write_fault (inr h) e = h.1.rose

    -- the answer to words of a listed form where no write failed
    pub complete : Finishes before after faults now answer text result → IsSome form → (Rose faults now → ⊥) → IsComplete result
    complete (inl h) some no_rise = subst IsComplete (sym h.0) (complete_judged form answer some judged)
    complete (inr h) some no_rise = absurd (no_rise h.1.rose)
