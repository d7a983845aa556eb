use Rattle.std.proofs.Common.{◌≤◌, ℕ, Result, Ok, Err, IfOk, IfErr, ap, subst}
use Rattle.janus_meaning.specs.Store.{Store}
use Rattle.janus_meaning.specs.World.{declare}
use Rattle.kernel_machine.specs.State.{here}
use Rattle.janus_slots.specs.Slots.{names_in}
use Rattle.kernel_loader.specs.StoreState.{StoreState}
use Rattle.kernel_loader.specs.Program.{IsReady, declarations_of}
use Rattle.kernel_loader.specs.Runner.{over}
use Rattle.kernel_history.specs.Fields.{past_of}
use Rattle.kernel_history.proofs.Standing.{if_ok_map, here_sound}
use Rattle.kernel_history.proofs.history.prepare.Goals as goal

if_err_map : {A E : Type 0} {P Q : E → Type 0} (r : Result A E) → ((x : E) → P x → Q x) → IfErr r P → IfErr r Q
if_err_map (Ok x) f h = tt
if_err_map (Err e) f h = f e h

pub load-requires : goal.load-requires
load-requires g c = (over c.requires.is.0 (here (past_of c.args._tree.now)), c.requires.is.1, here_sound c.args._tree.now c.requires.legal)

-- a text is loaded over the world of the position
pub returns-clause-accepts : goal.returns-clause-accepts
returns-clause-accepts g c =
    if_ok_map c.load.result
    (λ program accepts. accepts (over c.requires.is.0 (here (past_of c.args._tree.now))) c.requires.is.1 (here_sound c.args._tree.now c.requires.legal))
    c.load.ensures.accepts

pub returns-clause-refuses : goal.returns-clause-refuses
returns-clause-refuses g c =
    if_err_map c.load.result
    (λ refusal refuses. refuses (over c.requires.is.0 (here (past_of c.args._tree.now))) c.requires.is.1 (here_sound c.args._tree.now c.requires.legal))
    c.load.ensures.refuses

-- the runner shows the world of the position
pub returns-clause-ready : goal.returns-clause-ready
returns-clause-ready g c =
    if_ok_map c.load.result
    (λ program ready.
    subst (λ (s : Store). IsReady c.load.new.runner.entries (names_in (declare (declarations_of program) s))
    c.load.new.runner.procedures program) c.requires.is.1.0.store ready)
    c.load.ensures.ready

pub returns-clause-counts : goal.returns-clause-counts
returns-clause-counts g c = record { writes = ap (λ (h : StoreState). h.writes) c.load.ensures.kept; steps = c.load.ensures.steps }

if_ok_both : {A E : Type 0} {P Q R : A → Type 0} (r : Result A E) → ((x : A) → P x → Q x → R x) → IfOk r P → IfOk r Q → IfOk r R
if_ok_both (Ok x) f p q = f x p q
if_ok_both (Err e) f p q = tt

-- what came into the table is of its procedures
pub returns-clause-own_names : goal.returns-clause-own_names
returns-clause-own_names g c =
    if_ok_both c.load.result (λ program only first. (λ k x le at. only k x (subst (λ (n : ℕ). n ≤ k) first le) at)) c.load.ensures.only
    c.load.ensures.first_name
