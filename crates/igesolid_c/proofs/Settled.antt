-- Of sources and a sink in memory: what a run answers is due, with the text that was written.
use Rattle.std.proofs.Common.{◌≡◌, ◌⊎◌, ℕ, List, [], Option, Some, inl, inr, sym, subst}
use Rattle.std.specs.Prelude.{Result, Ok, Err, IfOk, MatchResult}
use Rattle.command_replies.specs.declared.answer.Answer.{Answer}
use Rattle.command_replies.specs.declared.answer.Answer.TheVariants.{Done, No, Usage, BadFile, ReadFault, WriteFault, NoMemory, NoExtract, TooLarge}
use Rattle.iges_solid_cmd.specs.Due.{Due}
use Rattle.iges_solid_cmd.specs.Owed.{IsOwed}
use Rattle.repair_commands.specs.Due as of_repair
use Rattle.repair_commands.specs.Owed as repair_owed
use Rattle.where_command.specs.Due as of_where
use Rattle.where_command.specs.Owed as where_owed
use Rattle.iges_base.specs.declared.no_memory.NoMemory.{NoMemory as OutOfMemory}
use Rattle.command_replies.specs.Answer.{code_of}
use Rattle.command_replies.specs.Due.{Owed}
use Rattle.command_replies.specs.Ending.{Answers, Outcome}
use Rattle.igesolid_c.specs.Replies.{IsDue, IsDueOfRepair, IsDueOfWhere, IsNone, IsSettled}
use Rattle.igesolid_c.specs.Text.{Text}
use Rattle.igesolid_c.specs.Words.{AreWords}
use Rattle.igesolid_c.specs.declared.replying.Replied.{Replied}

-- with an answer that is settled, a text that is owed is all that was written
settled_text : (owes : Owed) (before after : Option (List ℕ)) (a : Answer) → IsSettled a → Outcome owes before after a → Answers owes before after a
settled_text owes before after Done is r = r
settled_text owes before after No is r = r
settled_text owes before after Usage is r = r
settled_text owes before after BadFile is r = r
settled_text owes before after NoExtract is r = r
settled_text owes before after TooLarge is r = r
settled_text owes before after ReadFault is r = absurd is
settled_text owes before after WriteFault is r = absurd is
settled_text owes before after NoMemory is r = absurd is

answered : (ws : List (List ℕ)) (f c t : List ℕ) (a : Answer) → Answers (IsOwed ws (Some f) (Some c)) (Some []) (Some t) a → Due ws f c a t
answered ws f c t a r =
    subst (λ (x : List ℕ). Due ws x c a t) (sym r.owed.file_told)
    (subst (λ (x : List ℕ). Due ws r.owed.file_bytes x a t) (sym r.owed.certificate_told)
    (subst (λ (x : List ℕ). Due ws r.owed.file_bytes r.owed.certificate_bytes a x) (sym r.appended) r.owed.due))

pub settled : (ws : List (List ℕ)) (f c t : List ℕ) (a : Answer) → IsSettled a → Outcome (IsOwed ws (Some f) (Some c)) (Some []) (Some t) a → Due ws f c a t
settled ws f c t a is r = answered ws f c t a (settled_text (IsOwed ws (Some f) (Some c)) (Some []) (Some t) a is r)

answered_where : (ws : List (List ℕ)) (f t : List ℕ) (a : Answer) → Answers (where_owed.IsOwed ws (Some f)) (Some []) (Some t) a → of_where.Due ws f a t
answered_where ws f t a r =
    subst (λ (x : List ℕ). of_where.Due ws x a t) (sym r.owed.told)
    (subst (λ (x : List ℕ). of_where.Due ws r.owed.bytes a x) (sym r.appended) r.owed.due)

pub settled_where : (ws : List (List ℕ)) (f t : List ℕ) (a : Answer) → IsSettled a → Outcome (where_owed.IsOwed ws (Some f)) (Some []) (Some t) a
    → of_where.Due ws f a t
settled_where ws f t a is r = answered_where ws f t a (settled_text (where_owed.IsOwed ws (Some f)) (Some []) (Some t) a is r)

answered_repair : (ws : List (List ℕ)) (f t : List ℕ) (a : Answer) → Answers (repair_owed.IsOwed ws (Some f)) (Some []) (Some t) a → of_repair.Due ws f a t
answered_repair ws f t a r =
    subst (λ (x : List ℕ). of_repair.Due ws x a t) (sym r.owed.told)
    (subst (λ (x : List ℕ). of_repair.Due ws r.owed.bytes a x) (sym r.appended) r.owed.due)

pub settled_repair : (ws : List (List ℕ)) (f t : List ℕ) (a : Answer) → IsSettled a → Outcome (repair_owed.IsOwed ws (Some f)) (Some []) (Some t) a
    → of_repair.Due ws f a t
settled_repair ws f t a is r = answered_repair ws f t a (settled_text (repair_owed.IsOwed ws (Some f)) (Some []) (Some t) a is r)

-- the same outcome, of what the source and the sink are known to be
pub told_where : (ws : List (List ℕ)) (given f before t : List ℕ) (a : Answer) → given ≡ f → before ≡ []
    → Outcome (where_owed.IsOwed ws (Some given)) (Some before) (Some t) a → Outcome (where_owed.IsOwed ws (Some f)) (Some []) (Some t) a
told_where ws given f before t a file empty r =
    subst (λ (x : List ℕ). Outcome (where_owed.IsOwed ws (Some x)) (Some []) (Some t) a) file
    (subst (λ (x : List ℕ). Outcome (where_owed.IsOwed ws (Some given)) (Some x) (Some t) a) empty r)

pub told_repair : (ws : List (List ℕ)) (given f before t : List ℕ) (a : Answer) → given ≡ f → before ≡ []
    → Outcome (repair_owed.IsOwed ws (Some given)) (Some before) (Some t) a → Outcome (repair_owed.IsOwed ws (Some f)) (Some []) (Some t) a
told_repair ws given f before t a file empty r =
    subst (λ (x : List ℕ). Outcome (repair_owed.IsOwed ws (Some x)) (Some []) (Some t) a) file
    (subst (λ (x : List ℕ). Outcome (repair_owed.IsOwed ws (Some given)) (Some x) (Some t) a) empty r)

pub told : (ws : List (List ℕ)) (given f kept c before t : List ℕ) (a : Answer) → given ≡ f → kept ≡ c → before ≡ []
    → Outcome (IsOwed ws (Some given) (Some kept)) (Some before) (Some t) a → Outcome (IsOwed ws (Some f) (Some c)) (Some []) (Some t) a
told ws given f kept c before t a file certificate empty r =
    subst (λ (x : List ℕ). Outcome (IsOwed ws (Some x) (Some c)) (Some []) (Some t) a) file
    (subst (λ (x : List ℕ). Outcome (IsOwed ws (Some given) (Some x)) (Some []) (Some t) a) certificate
    (subst (λ (x : List ℕ). Outcome (IsOwed ws (Some given) (Some kept)) (Some x) (Some t) a) empty r))

-- what is replied is due
pub replied : (words f k : List ℕ) (ws : List (List ℕ)) (a : Answer) (t : Text) → AreWords words ws → Outcome (IsOwed ws (Some f) (Some k)) (Some []) (Some t.text) a
    → (r : Result Replied OutOfMemory) → IfOk r (λ x. IsSettled a × (x.status ≡ code_of a) × (x.text ≡ t)) → IfOk r (λ x. IsDue words f k x.status x.text.text)
replied words f k ws a t are out (Ok x) is =
    (ws, are, a, is.1, subst (λ (u : Text). Due ws f k a u.text) (sym is.2) (settled ws f k t.text a is.0 out))
replied words f k ws a t are out (Err e) is = tt

pub replied_where : (words f : List ℕ) (ws : List (List ℕ)) (a : Answer) (t : Text) → AreWords words ws → Outcome (where_owed.IsOwed ws (Some f)) (Some []) (Some t.text) a
    → (r : Result Replied OutOfMemory) → IfOk r (λ x. IsSettled a × (x.status ≡ code_of a) × (x.text ≡ t)) → IfOk r (λ x. IsDueOfWhere words f x.status x.text.text)
replied_where words f ws a t are out (Ok x) is =
    (ws, are, a, is.1, subst (λ (u : Text). of_where.Due ws f a u.text) (sym is.2) (settled_where ws f t.text a is.0 out))
replied_where words f ws a t are out (Err e) is = tt

pub replied_repair : (words f : List ℕ) (ws : List (List ℕ)) (a : Answer) (t : Text) → AreWords words ws → Outcome (repair_owed.IsOwed ws (Some f)) (Some []) (Some t.text) a
    → (r : Result Replied OutOfMemory) → IfOk r (λ x. IsSettled a × (x.status ≡ code_of a) × (x.text ≡ t)) → IfOk r (λ x. IsDueOfRepair words f x.status x.text.text)
replied_repair words f ws a t are out (Ok x) is =
    (ws, are, a, is.1, subst (λ (u : Text). of_repair.Due ws f a u.text) (sym is.2) (settled_repair ws f t.text a is.0 out))
replied_repair words f ws a t are out (Err e) is = tt

-- what is handed over is due where there is a reply, and else there is none
pub handed : (P : ℕ → List ℕ → Type 0) (r : Result Replied OutOfMemory) (status : ℕ) (text : List ℕ)
    → MatchResult r (λ x. (status ≡ x.status) × (text ≡ x.text.text)) (λ _. IsNone status text)
    → IfOk r (λ x. P x.status x.text.text) → IsNone status text ⊎ P status text
handed P (Ok x) status text same is =
    inr (subst (λ (s : ℕ). P s text) (sym same.0) (subst (λ (t : List ℕ). P x.status t) (sym same.1) is))
handed P (Err e) status text none is = inl none
