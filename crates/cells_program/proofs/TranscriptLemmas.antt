-- What the program's loop writes, line by line.
use Rattle.std.proofs.Common.{◌≡◌, ◌∙◌, ℕ, Bool, true, false, not, List, [], ◌∷◌, ◌++◌, Option, refl, sym, ap, subst, append_assoc, append-nil, ◌⊎◌, inl, inr}
use Rattle.std.specs.Prelude.{Result, Ok, Err, OnOk, OnErr, ◌||◌, string_bytes, if◌then◌else◌}
use Rattle.std.specs.Io.KnownBytes.{Appends, Keeps}
use Rattle.kernel_core.specs.Runs.{Machine, IsRefusal}
use Rattle.kernel_core.specs.Request.{Request, RunCell}
use Rattle.kernel_core.specs.post.PostFault.{PostFault}
use Rattle.kernel_core.specs.post.PostFault.TheVariants.{Memory}
use Rattle.kernel_core.specs.outcome.Outcome.{Outcome}
use Rattle.kernel_core.specs.outcome.Outcome.TheVariants as outcome
use Rattle.kernel_core.specs.outcome.Refusal.{Refusal}
use Rattle.kernel_core.proofs.Posts.{some_refusal}
use Rattle.cells_program.specs.declared.command.Command.{Command}
use Rattle.cells_program.specs.declared.command.Command.TheVariants.{Run, Undo, Redo, Goto, Show, Unknown}
use Rattle.cells_program.specs.declared.command.Command.TheVariants as command
use Rattle.cells_program.specs.declared.gathered.Gathered.{Gathered}
use Rattle.cells_program.specs.Command.{command_of}
use Rattle.cells_program.specs.Gathering.{IsGathered}
use Rattle.cells_program.specs.Lines.{ended_line, is_blank, is_command_line, lines, trimmed}
use Rattle.exact_write.specs.Sent.{SentSome}
use Rattle.cells_program.specs.Served.{Came, Serves, NotPosted, not_posted}
use Rattle.cells_program.specs.Shown.{world_text}
use Rattle.cells_program.specs.Script.{script}
use Rattle.cells_program.specs.declared.choice.Choice.{Choice}
use Rattle.cells_program.specs.Transcript.{ActionsServe, came_line, told, told_cell, told_outcome, told_refusal, Answers, bad_command_line}
use Rattle.kernel_text.specs.Lines.{post_fault_line}
use Rattle.cells_program.specs.Loop.{RestAt, RunsRest, Does, DoesAfterRest, CommandServes, LineAt, LineServes, text_after, LinesServe}
use Rattle.cells_program.proofs.LinesLemmas.{blank_more}
use Rattle.exact_write.proofs.SendLemmas.{appends_none, appends_join, appends_kept, sent_first, sent_then}
use Rattle.cells_program.proofs.ScriptLemmas.{script_serves}

not_true : (b : Bool) → not b ≡ true → b ≡ false
not_true true h = sym h
not_true false h = refl

-- there was no memory for the text
pub lost_ok : (choice : Choice) → {E : Type 0} (a b : Option (List ℕ)) (old : Machine) (fault : PostFault) (G : Gathered) (res : Result (Unit {0}) E) →
    IsRefusal old fault → OnOk res (Appends a b (ended_line (post_fault_line fault)))
    → OnOk res ((text : List ℕ) → IsGathered G text → (came : Came) × Serves choice.steps old (RunCell text false true) came old ×
    Appends a b (told_cell choice.explains text came))
lost_ok choice a b old fault G (Ok x) r p = λ text h. (NotPosted fault, not_posted {f = fault} (r, refl), p)
lost_ok choice a b old fault G (Err f) r p = tt

-- there was no memory for the text
pub lost_err : (choice : Choice) → {E : Type 0} (a b : Option (List ℕ)) (old : Machine) (fault : PostFault) (G : Gathered) (res : Result (Unit {0}) E) →
    IsRefusal old fault → OnErr res (SentSome a b (ended_line (post_fault_line fault)))
    → OnErr res ((text : List ℕ) → IsGathered G text → (came : Came) × Serves choice.steps old (RunCell text false true) came old ×
    SentSome a b (told_cell choice.explains text came))
lost_err choice a b old fault G (Ok x) r p = tt
lost_err choice a b old fault G (Err f) r p = λ text h. (NotPosted fault, not_posted {f = fault} (r, refl), p)

-- the same of one whose text could not be kept to explain it
pub refused_ok : (choice : Choice) → {E : Type 0} (a b : Option (List ℕ)) (old : Machine) (code : List ℕ) (fault : PostFault) (res : Result (Unit {0}) E) →
    IsRefusal old fault → OnOk res (Appends a b (ended_line (post_fault_line fault)))
    → OnOk res ((came : Came) × Serves choice.steps old (RunCell code false true) came old × Appends a b (told_cell choice.explains code came))
refused_ok choice a b old code fault (Ok x) r p = (NotPosted fault, not_posted {f = fault} (r, refl), p)
refused_ok choice a b old code fault (Err f) r p = tt

pub refused_err : (choice : Choice) → {E : Type 0} (a b : Option (List ℕ)) (old : Machine) (code : List ℕ) (fault : PostFault) (res : Result (Unit {0}) E) →
    IsRefusal old fault → OnErr res (SentSome a b (ended_line (post_fault_line fault)))
    → OnErr res ((came : Came) × Serves choice.steps old (RunCell code false true) came old × SentSome a b (told_cell choice.explains code came))
refused_err choice a b old code fault (Ok x) r p = tt
refused_err choice a b old code fault (Err f) r p = (NotPosted fault, not_posted {f = fault} (r, refl), p)

-- a refusal that is explained
pub explained_err : {E : Type 0} (a b : Option (List ℕ)) (explains : Bool) (text : List ℕ) (o : Outcome) (r : Refusal) (res : Result (Unit {0}) E) →
    explains ≡ true → o ≡ outcome.Refused r → OnErr res (SentSome a b (told_refusal true text r)) → OnErr res (SentSome a b (told_outcome explains text o))
explained_err a b explains text o r res e is p =
    subst (λ b'. OnErr res (SentSome a b (told_outcome b' text o))) (sym e)
    (subst (λ (q : Outcome). OnErr res (SentSome a b (told_outcome true text q))) (sym is) p)

pub rest_ok : (choice : Choice) → {E : Type 0} (a b : Option (List ℕ)) (old new : Machine) (G : Gathered) (res : Result (Unit {0}) E) → G.has_text ≡ true
    → OnOk res ((text : List ℕ) → IsGathered G text → (came : Came) × Serves choice.steps old (RunCell text false true) came new ×
    Appends a b (told_cell choice.explains text came))
    → OnOk res ((text : List ℕ) → IsGathered G text → (out : List ℕ) × RunsRest choice old text out new × Appends a b out)
rest_ok choice a b old new G (Ok x) e p = λ text h.
    let s = p text h in (
      told_cell choice.explains text s.0,
      subst (λ k. RestAt choice k old text (told_cell choice.explains text s.0) new) (sym (not_true (is_blank text) (sym h.0 ∙ e)))
          (s.0, s.1, refl),
      s.2,
    )
rest_ok choice a b old new G (Err f) e p = tt

rest_err_gathered : (choice : Choice) (a b : Option (List ℕ)) (old new : Machine) (G : Gathered) (text : List ℕ) → G.has_text ≡ true → IsGathered G text
    → (came : Came) × Serves choice.steps old (RunCell text false true) came new × SentSome a b (told_cell choice.explains text came)
    → (out : List ℕ) × RunsRest choice old text out new × SentSome a b out
rest_err_gathered choice a b old new G text e h (came, s, p) = (
  told_cell choice.explains text came,
  subst (λ k. RestAt choice k old text (told_cell choice.explains text came) new) (sym (not_true (is_blank text) (sym h.0 ∙ e)))
      (came, s, refl),
  p,
)

pub rest_err : (choice : Choice) → {E : Type 0} (a b : Option (List ℕ)) (old new : Machine) (G : Gathered) (res : Result (Unit {0}) E) → G.has_text ≡ true
    → OnErr res ((text : List ℕ) → IsGathered G text → (came : Came) × Serves choice.steps old (RunCell text false true) came new ×
    SentSome a b (told_cell choice.explains text came))
    → OnErr res ((text : List ℕ) → IsGathered G text → (out : List ℕ) × RunsRest choice old text out new × SentSome a b out)
rest_err choice a b old new G (Ok x) e p = tt
rest_err choice a b old new G (Err f) e p = λ text h. rest_err_gathered choice a b old new G text e h (p text h)

-- ---- any request may be refused, so whatever was served before, the rest of an input has a transcript

-- the request is refused, if for nothing else then for want of memory
refuses_some : (choice : Choice) (old : Machine) (r : Request) → (out : List ℕ) × (new : Machine) × Answers choice old r out new
refuses_some choice old r =
    let refusal = some_refusal old in
    (told choice.explains r (NotPosted refusal.0), old, (NotPosted refusal.0, not_posted {f = refusal.0} (refusal.1, refl), refl))

any_rest_at : (choice : Choice) (b : Bool) (old : Machine) (text : List ℕ) → (out : List ℕ) × (new : Machine) × RestAt choice b old text out new
any_rest_at choice true old text = ([], old, (refl, refl))
any_rest_at choice false old text = refuses_some choice old _

pub any_rest : (choice : Choice) (old : Machine) (text : List ℕ) → (out : List ℕ) × (new : Machine) × RunsRest choice old text out new
any_rest choice old text = any_rest_at choice (is_blank text) old text

any_does : (choice : Choice) (command : Command) (old : Machine) → (command ≡ Run → ⊥) → (out : List ℕ) × (new : Machine) × Does choice command old out new
any_does choice Run old other = absurd (other refl)
any_does choice (Undo k) old other = refuses_some choice old _
any_does choice (Redo k) old other = refuses_some choice old _
any_does choice (Goto n) old other = refuses_some choice old _
any_does choice Show old other = (world_text old.state.past, old, (refl, refl))
any_does choice command.List old other = (ended_line (post_fault_line Memory), old, (inr refl, refl))
any_does choice Unknown old other = (bad_command_line, old, (refl, refl))

after_rest : (choice : Choice) (command : Command) (old : Machine) (text : List ℕ) → (command ≡ Run → ⊥) → (out : List ℕ) × (new : Machine) ×
    DoesAfterRest choice command old text out new
after_rest choice command old text other =
    let r = any_rest choice old text in
    let d = any_does choice command r.1 other in
    (r.0 ++ d.0, d.1, (r.1, r.0, d.0, r.2, d.2, refl))

any_command : (choice : Choice) (command : Command) (old : Machine) (text : List ℕ) → (out : List ℕ) × (new : Machine) × CommandServes choice command old text out new
any_command choice Run old text = refuses_some choice old _
any_command choice (Undo k) old text = after_rest choice (Undo k) old text (λ e. cc e)
any_command choice (Redo k) old text = after_rest choice (Redo k) old text (λ e. cc e)
any_command choice (Goto n) old text = after_rest choice (Goto n) old text (λ e. cc e)
any_command choice Show old text = after_rest choice Show old text (λ e. cc e)
any_command choice command.List old text = after_rest choice command.List old text (λ e. cc e)
any_command choice Unknown old text = after_rest choice Unknown old text (λ e. cc e)

any_line_at : (choice : Choice) (b : Bool) (old : Machine) (text line : List ℕ) → (out : List ℕ) × (new : Machine) × LineAt choice b old text line out new
any_line_at choice false old text line = ([], old, (refl, refl))
any_line_at choice true old text line = any_command choice (command_of (trimmed line)) old text

pub any_lines : (choice : Choice) (old : Machine) (text : List ℕ) (ls : List (List ℕ)) → (out : List ℕ) × (new : Machine) × LinesServe choice old text ls out new
any_lines choice old text [] = any_rest choice old text
any_lines choice old text (line ∷ more) =
    let l = any_line_at choice (is_command_line line) old text line in
    let m = any_lines choice l.1 (text_after text line) more in
    (l.0 ++ m.0, m.1, (l.1, l.0, m.0, l.2, m.2, refl))

-- ---- a line

other_serves : (choice : Choice) (command : Command) (old new : Machine) (text out : List ℕ) → (command ≡ Run → ⊥) → DoesAfterRest choice command old text out new →
    CommandServes choice command old text out new
other_serves choice Run old new text out other h = absurd (other refl)
other_serves choice (Undo k) old new text out other h = h
other_serves choice (Redo k) old new text out other h = h
other_serves choice (Goto n) old new text out other h = h
other_serves choice Show old new text out other h = h
other_serves choice command.List old new text out other h = h
other_serves choice Unknown old new text out other h = h

run_serves : (choice : Choice) (command : Command) (old new : Machine) (text : List ℕ) (came : Came) → command ≡ Run →
    Serves choice.steps old (RunCell text false true) came new → CommandServes choice command old text (told_cell choice.explains text came) new
run_serves choice command old new text came run s =
    subst (λ k. CommandServes choice k old text (told_cell choice.explains text came) new) (sym run) (came, s, refl)

-- `%%`
pub ran_ok : (choice : Choice) → {E : Type 0} (a b : Option (List ℕ)) (command : Command) (old new : Machine) (G : Gathered) (res : Result (Unit {0}) E) →
    command ≡ Run
    → OnOk res ((text : List ℕ) → IsGathered G text → (came : Came) × Serves choice.steps old (RunCell text false true) came new ×
    Appends a b (told_cell choice.explains text came))
    → OnOk res ((text : List ℕ) → IsGathered G text → (out : List ℕ) × CommandServes choice command old text out new × Appends a b out)
ran_ok choice a b command old new G (Ok x) run p = λ text h. let s =
    p text h in (told_cell choice.explains text s.0, run_serves choice command old new text s.0 run s.1, s.2)
ran_ok choice a b command old new G (Err f) run p = tt

pub ran_err : (choice : Choice) → {E : Type 0} (a b : Option (List ℕ)) (command : Command) (old new : Machine) (G : Gathered) (res : Result (Unit {0}) E) →
    command ≡ Run
    → OnErr res ((text : List ℕ) → IsGathered G text → (came : Came) × Serves choice.steps old (RunCell text false true) came new ×
    SentSome a b (told_cell choice.explains text came))
    → OnErr res ((text : List ℕ) → IsGathered G text → (out : List ℕ) × (new : Machine) × CommandServes choice command old text out new × SentSome a b out)
ran_err choice a b command old new G (Ok x) run p = tt
ran_err choice a b command old new G (Err f) run p = λ text h. let s =
    p text h in (told_cell choice.explains text s.0, new, run_serves choice command old new text s.0 run s.1, s.2)

-- another command
pub obeyed_ok : (choice : Choice) → {E : Type 0} (a b c : Option (List ℕ)) (command : Command) (old mid new : Machine) (G : Gathered) (res : Result (Unit {0}) E) →
    (command ≡ Run → ⊥)
    → ((text : List ℕ) → IsGathered G text → (out : List ℕ) × RunsRest choice old text out mid × Appends a b out)
    → OnOk res ((out : List ℕ) × Does choice command mid out new × Appends b c out)
    → OnOk res ((text : List ℕ) → IsGathered G text → (out : List ℕ) × CommandServes choice command old text out new × Appends a c out)
obeyed_ok choice a b c command old mid new G (Ok x) other p (second, d, q) = λ text h.
    let s = p text h in
    (s.0 ++ second, other_serves choice command old new text (s.0 ++ second) other (mid, s.0, second, s.1, d, refl), appends_join a b c s.0 second s.2 q)
obeyed_ok choice a b c command old mid new G (Err f) other p q = tt

pub obeyed_err : (choice : Choice) → {E : Type 0} (a b c : Option (List ℕ)) (command : Command) (old mid new : Machine) (G : Gathered) (res : Result (Unit {0}) E) →
    (command ≡ Run → ⊥)
    → ((text : List ℕ) → IsGathered G text → (out : List ℕ) × RunsRest choice old text out mid × Appends a b out)
    → OnErr res ((out : List ℕ) × Does choice command mid out new × SentSome b c out)
    → OnErr res ((text : List ℕ) → IsGathered G text → (out : List ℕ) × (new : Machine) × CommandServes choice command old text out new × SentSome a c out)
obeyed_err choice a b c command old mid new G (Ok x) other p q = tt
obeyed_err choice a b c command old mid new G (Err f) other p (second, d, q) = λ text h.
    let s = p text h in
    (s.0 ++ second, new, other_serves choice command old new text (s.0 ++ second) other (mid, s.0, second, s.1, d, refl), sent_then a b c s.0 second s.2 q)

-- the gathered text that another command runs could not be told
pub rest_failed : (choice : Choice) → {E : Type 0} (a b : Option (List ℕ)) (command : Command) (old mid : Machine) (G : Gathered) (res : Result (Unit {0}) E) →
    (command ≡ Run → ⊥)
    → ((text : List ℕ) → IsGathered G text → (out : List ℕ) × RunsRest choice old text out mid × SentSome a b out)
    → OnErr res ((text : List ℕ) → IsGathered G text → (out : List ℕ) × (new : Machine) × CommandServes choice command old text out new × SentSome a b out)
rest_failed choice a b command old mid G (Ok x) other p = tt
rest_failed choice a b command old mid G (Err f) other p = λ text h.
    let s = p text h in
    let d = any_does choice command mid other in
    (s.0 ++ d.0, d.1, other_serves choice command old d.1 text (s.0 ++ d.0) other (mid, s.0, d.0, s.1, d.2, refl), sent_first a b s.0 d.0 s.2)

as_command : (choice : Choice) (command : Command) (old new : Machine) (text line out : List ℕ) → is_command_line line ≡ true → command ≡ command_of (trimmed line) →
    CommandServes choice command old text out new → LineServes choice old text line out new
as_command choice command old new text line out e r h =
    subst (λ b. LineAt choice b old text line out new) (sym e) (subst (λ k. CommandServes choice k old text out new) r h)

-- a line that is a command
pub command_ok : (choice : Choice) → {E : Type 0} (a b : Option (List ℕ)) (command : Command) (old new : Machine) (G : Gathered) (line : List ℕ)
    (res : Result (Unit {0}) E) → is_command_line line ≡ true → command ≡ command_of (trimmed line)
    → OnOk res ((text : List ℕ) → IsGathered G text → (out : List ℕ) × CommandServes choice command old text out new × Appends a b out)
    → OnOk res ((text : List ℕ) → IsGathered G text → (out : List ℕ) × LineServes choice old text line out new × Appends a b out)
command_ok choice a b command old new G line (Ok x) e r p = λ text h. let s = p text h in (s.0, as_command choice command old new text line s.0 e r s.1, s.2)
command_ok choice a b command old new G line (Err f) e r p = tt

pub command_err : (choice : Choice) → {E : Type 0} (a b : Option (List ℕ)) (command : Command) (old : Machine) (G : Gathered) (line : List ℕ)
    (res : Result (Unit {0}) E) → is_command_line line ≡ true → command ≡ command_of (trimmed line)
    → OnErr res ((text : List ℕ) → IsGathered G text → (out : List ℕ) × (new : Machine) × CommandServes choice command old text out new × SentSome a b out)
    → OnErr res ((text : List ℕ) → IsGathered G text → (out : List ℕ) × (new : Machine) × LineServes choice old text line out new × SentSome a b out)
command_err choice a b command old G line (Ok x) e r p = tt
command_err choice a b command old G line (Err f) e r p = λ text h. let s = p text h in (s.0, s.1, as_command choice command old s.1 text line s.0 e r s.2, s.3)

-- a line that is no command
pub gathered_line : (choice : Choice) (a : Option (List ℕ)) (old : Machine) (G : Gathered) (line : List ℕ) → is_command_line line ≡ false
    → (text : List ℕ) → IsGathered G text → (out : List ℕ) × LineServes choice old text line out old × Appends a a out
gathered_line choice a old G line e text h = ([], subst (λ b. LineAt choice b old text line [] old) (sym e) (refl, refl), appends_none a)

pub gathers_none : (G H : Gathered) (line : List ℕ) → is_command_line line ≡ true → IsGathered H [] → (text : List ℕ) → IsGathered G text →
    IsGathered H (text_after text line)
gathers_none G H line e h text g = subst (λ b. IsGathered H (if b then [] else text ++ (line ++ 10 ∷ []))) (sym e) h

pub gathers_line : (G H : Gathered) (line : List ℕ) → is_command_line line ≡ false → H.has_text ≡ (G.has_text || not (is_blank line)) →
    (H.lost ≡ false → G.lost ≡ false)
    → (H.lost ≡ false → string_bytes H.text ≡ string_bytes G.text ++ (line ++ 10 ∷ [])) → (text : List ℕ) → IsGathered G text →
    IsGathered H (text_after text line)
gathers_line G H line e some kept more text g =
    subst (λ b. IsGathered H (if b then [] else text ++ (line ++ 10 ∷ []))) (sym e)
    (some ∙ ap (λ b. b || not (is_blank line)) g.0 ∙ sym (blank_more text line), λ l. more l ∙ ap (λ t. t ++ (line ++ 10 ∷ [])) (g.1 (kept l)))

-- all was written, and then the writer failed
all_some : (a b : Option (List ℕ)) (xs : List ℕ) → Appends a b xs → SentSome a b xs
all_some a b xs p = (xs, [], sym (append-nil xs), p)

-- ---- line after line

-- what is served so far: what the lines that are left come to is what the whole input comes to, behind what was written
abbrev pub Served : Choice → Machine → List ℕ → Machine → Gathered → List (List ℕ) → Option (List ℕ) → Option (List ℕ) → Type 0
Served choice start input now G left a b =
    (text : List ℕ) × (out : List ℕ) × IsGathered G text × Appends a b out
    × ((second : List ℕ) (new : Machine) → LinesServe choice now text left second new → ActionsServe choice (script input) start (out ++ second) new)

pub served_none : (choice : Choice) (start : Machine) (input : List ℕ) (G : Gathered) (a : Option (List ℕ)) → IsGathered G [] →
    Served choice start input start G (lines input) a a
served_none choice start input G a h = ([], [], h, appends_none a, λ second new s. script_serves choice input start new second s)

pub served_line : (choice : Choice) (start : Machine) (input : List ℕ) (now next : Machine) (G H : Gathered) (line : List ℕ) (left more : List (List ℕ))
    (a b c : Option (List ℕ)) → left ≡ line ∷ more
    → Served choice start input now G left a b
    → ((text : List ℕ) → IsGathered G text → IsGathered H (text_after text line))
    → ((text : List ℕ) → IsGathered G text → (out : List ℕ) × LineServes choice now text line out next × Appends b c out)
    → Served choice start input next H more a c
served_line choice start input now next G H line left more a b c e (text, out, h, p, k) g s =
    let l = s text h in (
      text_after text line,
      out ++ l.0,
      g text h,
      appends_join a b c out l.0 p l.2,
      λ second new m. subst (λ o. ActionsServe choice (script input) start o new) (sym (append_assoc out l.0 second))
          (k (l.0 ++ second) new (subst (λ ls. LinesServe choice now text ls (l.0 ++ second) new) (sym e) (next, l.0, second, l.1, m, refl))),
    )

pub line_failed : (choice : Choice) → {E : Type 0} (start : Machine) (input : List ℕ) (now : Machine) (G : Gathered) (line : List ℕ) (left more : List (List ℕ))
    (a b c : Option (List ℕ)) (res : Result (Unit {0}) E) → left ≡ line ∷ more
    → Served choice start input now G left a b
    → ((text : List ℕ) → IsGathered G text → (out : List ℕ) × (new : Machine) × LineServes choice now text line out new × SentSome b c out)
    → OnErr res ((out : List ℕ) × (new : Machine) × ActionsServe choice (script input) start out new × SentSome a c out)
line_failed choice start input now G line left more a b c (Ok x) e h s = tt
line_failed choice start input now G line left more a b c (Err f) e (text, out, h, p, k) s =
    let l = s text h in
    let m = any_lines choice l.1 (text_after text line) more in (
      out ++ (l.0 ++ m.0),
      m.1,
      k (l.0 ++ m.0) m.1 (subst (λ ls. LinesServe choice now text ls (l.0 ++ m.0) m.1) (sym e) (l.1, l.0, m.0, l.2, m.2, refl)),
      sent_then a b c out (l.0 ++ m.0) p (sent_first b c l.0 m.0 l.3),
    )

pub served_all : (choice : Choice) (start : Machine) (input : List ℕ) (now new : Machine) (G : Gathered) (left : List (List ℕ)) (a b c d : Option (List ℕ))
    → Served choice start input now G left a b
    → ((text : List ℕ) → IsGathered G text → (out : List ℕ) × LinesServe choice now text left out new × Appends b c out) → Keeps c d
    → (out : List ℕ) × ActionsServe choice (script input) start out new × Appends a d out
served_all choice start input now new G left a b c d (text, out, h, p, k) s kept =
    let l = s text h in
    (out ++ l.0, k l.0 new l.1, appends_kept a c d (out ++ l.0) (appends_join a b c out l.0 p l.2) kept)

pub served_some : (choice : Choice) (start : Machine) (input : List ℕ) (now new : Machine) (G : Gathered) (left : List (List ℕ)) (a b c d : Option (List ℕ))
    → Served choice start input now G left a b
    → ((text : List ℕ) → IsGathered G text → (out : List ℕ) × LinesServe choice now text left out new × Appends b c out) → Keeps c d
    → (out : List ℕ) × (new : Machine) × ActionsServe choice (script input) start out new × SentSome a d out
served_some choice start input now new G left a b c d h s kept =
    let w = served_all choice start input now new G left a b c d h s kept in
    (w.0, new, w.1, all_some a d w.0 w.2)

pub end_failed : (choice : Choice) → {E : Type 0} (start : Machine) (input : List ℕ) (now : Machine) (G : Gathered) (left : List (List ℕ)) (a b c : Option (List ℕ))
    (res : Result (Unit {0}) E)
    → Served choice start input now G left a b
    → ((text : List ℕ) → IsGathered G text → (out : List ℕ) × (new : Machine) × LinesServe choice now text left out new × SentSome b c out)
    → OnErr res ((out : List ℕ) × (new : Machine) × ActionsServe choice (script input) start out new × SentSome a c out)
end_failed choice start input now G left a b c (Ok x) h s = tt
end_failed choice start input now G left a b c (Err f) (text, out, h, p, k) s =
    let l = s text h in
    (out ++ l.0, l.1, k l.0 l.1 l.2, sent_then a b c out l.0 p l.3)

-- ---- the end of the input

-- nothing is behind the last LF
pub empty_ok : (choice : Choice) → {E : Type 0} (old new : Machine) (G : Gathered) (left : List (List ℕ)) (a b : Option (List ℕ)) (res : Result (Unit {0}) E) →
    left ≡ []
    → OnOk res ((text : List ℕ) → IsGathered G text → (out : List ℕ) × RunsRest choice old text out new × Appends a b out)
    → OnOk res ((text : List ℕ) → IsGathered G text → (out : List ℕ) × LinesServe choice old text left out new × Appends a b out)
empty_ok choice old new G left a b (Ok x) e s = λ text h. let r = s text h in (r.0, subst (λ ls. LinesServe choice old text ls r.0 new) (sym e) r.1, r.2)
empty_ok choice old new G left a b (Err f) e s = tt

pub empty_err : (choice : Choice) → {E : Type 0} (old new : Machine) (G : Gathered) (left : List (List ℕ)) (a b : Option (List ℕ)) (res : Result (Unit {0}) E) →
    left ≡ []
    → OnErr res ((text : List ℕ) → IsGathered G text → (out : List ℕ) × RunsRest choice old text out new × SentSome a b out)
    → OnErr res ((text : List ℕ) → IsGathered G text → (out : List ℕ) × (new : Machine) × LinesServe choice old text left out new × SentSome a b out)
empty_err choice old new G left a b (Ok x) e s = tt
empty_err choice old new G left a b (Err f) e s = λ text h. let r = s text h in (r.0, new, subst (λ ls. LinesServe choice old text ls r.0 new) (sym e) r.1, r.2)

-- a line is behind it
last_serves : (choice : Choice) (old mid new : Machine) (text line first second : List ℕ) (left : List (List ℕ)) → left ≡ line ∷ [] →
    LineServes choice old text line first mid → RunsRest choice mid (text_after text line) second new → LinesServe choice old text left (first ++ second) new
last_serves choice old mid new text line first second left e l r =
    subst (λ ls. LinesServe choice old text ls (first ++ second) new) (sym e) (mid, first, second, l, r, refl)

pub last_ok : (choice : Choice) → {E : Type 0} (old mid new : Machine) (G H : Gathered) (line : List ℕ) (left : List (List ℕ)) (a b c : Option (List ℕ))
    (res : Result (Unit {0}) E) → left ≡ line ∷ []
    → ((text : List ℕ) → IsGathered G text → IsGathered H (text_after text line))
    → ((text : List ℕ) → IsGathered G text → (out : List ℕ) × LineServes choice old text line out mid × Appends a b out)
    → OnOk res ((text : List ℕ) → IsGathered H text → (out : List ℕ) × RunsRest choice mid text out new × Appends b c out)
    → OnOk res ((text : List ℕ) → IsGathered G text → (out : List ℕ) × LinesServe choice old text left out new × Appends a c out)
last_ok choice old mid new G H line left a b c (Ok x) e g s t = λ text h.
    let l = s text h in
    let r = t (text_after text line) (g text h) in
    (l.0 ++ r.0, last_serves choice old mid new text line l.0 r.0 left e l.1 r.1, appends_join a b c l.0 r.0 l.2 r.2)
last_ok choice old mid new G H line left a b c (Err f) e g s t = tt

pub last_err : (choice : Choice) → {E : Type 0} (old mid new : Machine) (G H : Gathered) (line : List ℕ) (left : List (List ℕ)) (a b c : Option (List ℕ))
    (res : Result (Unit {0}) E) → left ≡ line ∷ []
    → ((text : List ℕ) → IsGathered G text → IsGathered H (text_after text line))
    → ((text : List ℕ) → IsGathered G text → (out : List ℕ) × LineServes choice old text line out mid × Appends a b out)
    → OnErr res ((text : List ℕ) → IsGathered H text → (out : List ℕ) × RunsRest choice mid text out new × SentSome b c out)
    → OnErr res ((text : List ℕ) → IsGathered G text → (out : List ℕ) × (new : Machine) × LinesServe choice old text left out new × SentSome a c out)
last_err choice old mid new G H line left a b c (Ok x) e g s t = tt
last_err choice old mid new G H line left a b c (Err f) e g s t = λ text h.
    let l = s text h in
    let r = t (text_after text line) (g text h) in
    (l.0 ++ r.0, new, last_serves choice old mid new text line l.0 r.0 left e l.1 r.1, sent_then a b c l.0 r.0 l.2 r.2)

pub last_failed : (choice : Choice) → {E : Type 0} (old : Machine) (G : Gathered) (line : List ℕ) (left : List (List ℕ)) (a b : Option (List ℕ))
    (res : Result (Unit {0}) E) → left ≡ line ∷ []
    → ((text : List ℕ) → IsGathered G text → (out : List ℕ) × (new : Machine) × LineServes choice old text line out new × SentSome a b out)
    → OnErr res ((text : List ℕ) → IsGathered G text → (out : List ℕ) × (new : Machine) × LinesServe choice old text left out new × SentSome a b out)
last_failed choice old G line left a b (Ok x) e s = tt
last_failed choice old G line left a b (Err f) e s = λ text h.
    let l = s text h in
    let r = any_rest choice l.1 (text_after text line) in
    (l.0 ++ r.0, r.1, last_serves choice old l.1 r.1 text line l.0 r.0 left e l.2 r.2, sent_first a b l.0 r.0 l.3)

-- ---- a command

-- one that makes a request
pub does_err : (choice : Choice) → {E : Type 0} (a b : Option (List ℕ)) (old new : Machine) (command : Command) (r : Request) (res : Result (Unit {0}) E) →
    ((came : Came) → told choice.explains r came ≡ ended_line (came_line came))
    → ((out : List ℕ) → Answers choice old r out new → Does choice command old out new)
    → OnErr res ((came : Came) × Serves choice.steps old r came new × SentSome a b (ended_line (came_line came))) →
    OnErr res ((out : List ℕ) × Does choice command old out new × SentSome a b out)
does_err choice a b old new command r (Ok x) e d p = tt
does_err choice a b old new command r (Err f) e d (came, s, p) =
    (ended_line (came_line came), d (ended_line (came_line came)) (came, s, sym (e came)), p)

-- one that writes the same always
pub does_same_err : (choice : Choice) → {E : Type 0} (a b : Option (List ℕ)) (old new : Machine) (command : Command) (xs : List ℕ) (res : Result (Unit {0}) E) →
    Does choice command old xs new
    → OnErr res (SentSome a b xs) → OnErr res ((out : List ℕ) × Does choice command old out new × SentSome a b out)
does_same_err choice a b old new command xs (Ok x) d p = tt
does_same_err choice a b old new command xs (Err f) d p = (xs, d, p)

pub unknown_does : (choice : Choice) (command : Command) (old : Machine) → (command ≡ Run) ⊎ (command ≡ Unknown) → (command ≡ Run → ⊥) →
    Does choice command old bad_command_line old
unknown_does choice command old (inl e) other = absurd (other e)
unknown_does choice command old (inr e) other = subst (λ k. Does choice k old bad_command_line old) (sym e) (refl, refl)
