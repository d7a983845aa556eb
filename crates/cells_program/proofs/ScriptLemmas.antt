-- What the program's loop writes, line by line, is the transcript of the actions that the input asks for.
use Rattle.std.proofs.Common.{◌≡◌, ◌∙◌, ℕ, Bool, true, false, cond, List, [], ◌∷◌, ◌++◌, map, refl, sym, ap, subst, append_assoc, append-nil}
use Rattle.std.specs.Prelude.{filter, if◌then◌else◌}
use Rattle.std.specs.List.{slice_split, onto_first}
use Rattle.kernel_core.specs.Runs.{Machine}
use Rattle.cells_program.specs.declared.command.Command.{Command}
use Rattle.cells_program.specs.declared.command.Command.TheVariants.{Run, Undo, Redo, Goto, Show, Unknown}
use Rattle.cells_program.specs.declared.command.Command.TheVariants as command
use Rattle.cells_program.specs.Command.{command_of}
use Rattle.cells_program.specs.Lines.{is_blank, is_command_line, lines, trimmed}
use Rattle.cells_program.specs.Loop.{RestAt, RunsRest, Does, DoesAfterRest, CommandServes, LineAt, text_after, LinesServe}
use Rattle.cells_program.specs.Script.{Action, RunText, UndoCells, RedoCells, GoToNode, ShowWorld, ListProcedures, BadCommand, text_of, run_unless_blank, asked}
use Rattle.cells_program.specs.Script.{texts, commands, actions, script}
use Rattle.cells_program.specs.declared.choice.Choice.{Choice}
use Rattle.cells_program.specs.Transcript.{ActionServes, ActionsServe}
use Rattle.cells_program.proofs.LinesLemmas.{some_part}

-- ---- actions one after the other

one_serves : (choice : Choice) (action : Action) (old new : Machine) (out : List ℕ) → ActionServes choice action old out new →
    ActionsServe choice (action ∷ []) old out new
one_serves choice action old new out h = (new, out, [], h, (refl, refl), sym (append-nil out))

ActionsServe-append : (choice : Choice) (xs ys : List Action) (old mid new : Machine) (first second : List ℕ) → ActionsServe choice xs old first mid →
    ActionsServe choice ys mid second new
    → ActionsServe choice (xs ++ ys) old (first ++ second) new
ActionsServe-append choice [] ys old mid new first second (e, m) k =
    subst (λ o. ActionsServe choice ys old (o ++ second) new) (sym e) (subst (λ s. ActionsServe choice ys s second new) m k)
ActionsServe-append choice (x ∷ xs) ys old mid new first second (between, one, more, h, r, e) k =
    (between, one, more ++ second, h, ActionsServe-append choice xs ys between mid new more second r k, ap (λ o. o ++ second) e ∙ append_assoc one more second)

-- ---- a command with the text before it

rest_at : (choice : Choice) (b : Bool) (old new : Machine) (text out : List ℕ) → RestAt choice b old text out new →
    ActionsServe choice (if b then [] else RunText text ∷ []) old out new
rest_at choice true old new text out h = h
rest_at choice false old new text out h = one_serves choice (RunText text) old new out h

rest_serves : (choice : Choice) (old new : Machine) (text out : List ℕ) → RunsRest choice old text out new → ActionsServe choice (run_unless_blank text) old out new
rest_serves choice old new text out h = rest_at choice (is_blank text) old new text out h

-- a command other than `%%`, by its own action
after_rest_serves : (choice : Choice) (command : Command) (action : Action) (old new : Machine) (text out : List ℕ) →
    ((mid : Machine) (o : List ℕ) → Does choice command mid o new → ActionServes choice action mid o new)
    → DoesAfterRest choice command old text out new → ActionsServe choice (run_unless_blank text ++ action ∷ []) old out new
after_rest_serves choice command action old new text out does (mid, first, second, r, d, e) =
    subst (λ o. ActionsServe choice (run_unless_blank text ++ action ∷ []) old o new) (sym e)
    (ActionsServe-append choice (run_unless_blank text) (action ∷ []) old mid new first second (rest_serves choice old mid text first r)
    (one_serves choice action mid new second (does mid second d)))

command_serves : (choice : Choice) (command : Command) (old new : Machine) (text out : List ℕ) → CommandServes choice command old text out new →
    ActionsServe choice (asked text command) old out new
command_serves choice Run old new text out h = one_serves choice (RunText text) old new out h
command_serves choice (Undo k) old new text out h = after_rest_serves choice (Undo k) (UndoCells k) old new text out (λ m o d. d) h
command_serves choice (Redo k) old new text out h = after_rest_serves choice (Redo k) (RedoCells k) old new text out (λ m o d. d) h
command_serves choice (Goto n) old new text out h = after_rest_serves choice (Goto n) (GoToNode n) old new text out (λ m o d. d) h
command_serves choice Show old new text out h = after_rest_serves choice Show ShowWorld old new text out (λ m o d. d) h
command_serves choice command.List old new text out h = after_rest_serves choice command.List ListProcedures old new text out (λ m o d. d) h
command_serves choice Unknown old new text out h = after_rest_serves choice Unknown BadCommand old new text out (λ m o d. d) h

-- ---- line after line

-- the first of some texts with more text before it
abbrev onto_text : List ℕ → List (List ℕ) → List (List ℕ)
onto_text text [] = text ∷ []
onto_text text (t ∷ ts) = (text ++ t) ∷ ts

step : (choice : Choice) (b : Bool) (old mid new : Machine) (text line first second : List ℕ) (part : List (List ℕ)) (parts : List (List (List ℕ)))
    (found : List (List ℕ)) → LineAt choice b old text line first mid
    → ActionsServe choice
    (actions (onto_text (if b then [] else text ++ (line ++ 10 ∷ [])) (map text_of (part ∷ parts))) (map (λ l. command_of (trimmed l)) found))
    mid second new
    → ActionsServe choice
    (actions (onto_text text (map text_of (cond b ([] ∷ part ∷ parts) (onto_first line (part ∷ parts)))))
    (map (λ l. command_of (trimmed l)) (cond b (line ∷ found) found))) old (first ++ second) new
step choice true old mid new text line first second part parts found l h =
    ActionsServe-append choice (asked (text ++ []) (command_of (trimmed line))) _ old mid new first second
    (subst (λ t. ActionsServe choice (asked t (command_of (trimmed line))) old first mid) (sym (append-nil text))
    (command_serves choice (command_of (trimmed line)) old mid text first l)) h
step choice false old mid new text line first second part parts found (e, m) h =
    subst (λ t. ActionsServe choice (actions (t ∷ map text_of parts) (map (λ l. command_of (trimmed l)) found)) old (first ++ second) new)
    (append_assoc text (line ++ 10 ∷ []) (text_of part))
    (subst (λ o. ActionsServe choice (actions (onto_text (text ++ (line ++ 10 ∷ [])) (map text_of (part ∷ parts))) (map (λ l. command_of (trimmed l)) found)) old
    (o ++ second) new) (sym e)
    (subst (λ s. ActionsServe choice (actions (onto_text (text ++ (line ++ 10 ∷ [])) (map text_of (part ∷ parts))) (map (λ l. command_of (trimmed l)) found))
    s second new) m h))

-- the same, where the parts are not yet known to have a first
step_on : (choice : Choice) (b : Bool) (old mid new : Machine) (text line first second : List ℕ) (parts : List (List (List ℕ))) (found : List (List ℕ)) →
    (part : List (List ℕ)) × (rest : List (List (List ℕ))) × (parts ≡ part ∷ rest) → LineAt choice b old text line first mid
    → ActionsServe choice (actions (onto_text (if b then [] else text ++ (line ++ 10 ∷ [])) (map text_of parts)) (map (λ l. command_of (trimmed l)) found))
    mid second new
    → ActionsServe choice
    (actions (onto_text text (map text_of (cond b ([] ∷ parts) (onto_first line parts)))) (map (λ l. command_of (trimmed l)) (cond b (line ∷ found) found)))
    old (first ++ second) new
step_on choice b old mid new text line first second parts found (part, rest, e) l h =
    subst (λ ps. ActionsServe choice
    (actions (onto_text text (map text_of (cond b ([] ∷ ps) (onto_first line ps)))) (map (λ l. command_of (trimmed l)) (cond b (line ∷ found) found))) old
    (first ++ second) new) (sym e)
    (step choice b old mid new text line first second part rest found l
    (subst (λ ps. ActionsServe choice
    (actions (onto_text (if b then [] else text ++ (line ++ 10 ∷ [])) (map text_of ps)) (map (λ l. command_of (trimmed l)) found)) mid second new) e h))

-- what lines come to behind a gathered text is what they ask for with that text before them
lines_serve : (choice : Choice) (ls : List (List ℕ)) (old new : Machine) (text out : List ℕ) → LinesServe choice old text ls out new →
    ActionsServe choice (actions (onto_text text (texts ls)) (commands ls)) old out new
lines_serve choice [] old new text out h =
    subst (λ t. ActionsServe choice (run_unless_blank t) old out new) (sym (append-nil text)) (rest_serves choice old new text out h)
lines_serve choice (line ∷ more) old new text out (mid, first, second, l, r, e) =
    subst (λ o. ActionsServe choice (actions (onto_text text (texts (line ∷ more))) (commands (line ∷ more))) old o new) (sym e)
    (step_on choice (is_command_line line) old mid new text line first second (slice_split is_command_line more) (filter is_command_line more)
    (some_part is_command_line more) l
    (lines_serve choice more mid new (text_after text line) second r))

none_onto : (parts : List (List ℕ)) → (part : List ℕ) × (rest : List (List ℕ)) × (parts ≡ part ∷ rest) → onto_text [] parts ≡ parts
none_onto parts (part, rest, e) = subst (λ ps. onto_text [] ps ≡ ps) (sym e) refl

mapped_part : (parts : List (List (List ℕ))) → (part : List (List ℕ)) × (rest : List (List (List ℕ))) × (parts ≡ part ∷ rest) → (part : List ℕ) ×
    (rest : List (List ℕ)) × (map text_of parts ≡ part ∷ rest)
mapped_part parts (part, rest, e) = (text_of part, map text_of rest, ap (map text_of) e)

-- what the lines of an input come to is its script served
pub script_serves : (choice : Choice) (input : List ℕ) (old new : Machine) (out : List ℕ) → LinesServe choice old [] (lines input) out new →
    ActionsServe choice (script input) old out new
script_serves choice input old new out h =
    subst (λ ts. ActionsServe choice (actions ts (commands (lines input))) old out new)
    (none_onto (texts (lines input)) (mapped_part (slice_split is_command_line (lines input)) (some_part is_command_line (lines input))))
    (lines_serve choice (lines input) old new [] out h)
