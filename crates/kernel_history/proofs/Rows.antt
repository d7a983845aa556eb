-- Procedures in a row, the newest first.
use Rattle.std.proofs.Common.{◌≡◌, ◌<◌, ℕ, zero, suc, length, get_or, map, drop, append_assoc, arith, List, [], ◌∷◌, ◌++◌, refl, sym, ap, ◌∙◌}
use Rattle.std.proofs.lemmas.List.{append-nil, map-append}
use Rattle.std.proofs.lemmas.Option.{slice_get_within}
use Rattle.std.specs.Borrow.{Bor}
use Rattle.janus_meaning.specs.Syntax.{Name, Proc}
use Rattle.janus_meaning.specs.Store.{Store}
use Rattle.janus_meaning.specs.World.{World, define}
use Rattle.janus_syntax.specs.Tree.{procedure_view, procedures_view}
use Rattle.janus_syntax.specs.View.{plain_procedure}
use Rattle.janus_syntax.specs.declared.tree.Procedure.{Procedure}
use Rattle.janus_slots.specs.Slots.{procedures_in}
use Rattle.kernel_loader.specs.Bodies.{AreBodies}
use Rattle.kernel_loader.specs.linked_procedure.LinkedProcedure as kept
use Rattle.kernel_loader.specs.Defined.{in_a_row}
use Rattle.kernel_loader.specs.Runner.{ShownWorld, Shows, world_of}
use Rattle.kernel_loader.specs.runner.Runner.{Runner}
use Rattle.kernel_machine.specs.State as state
use Rattle.kernel_machine.specs.State.{Past, node_at, world_at, here, below, code_of}
use Rattle.kernel_machine.specs.declared.travel.Travel.{Travel}
use Rattle.kernel_machine.specs.declared.travel.Way.TheVariants.{Down}
use Rattle.kernel_machine.specs.Travel.{next_way}
use Rattle.kernel_machine.specs.Language.{start_of}
use Rattle.kernel_machine.specs.Legal.{IsLegal, IsRun}
use Rattle.kernel_machine.proofs.LanguageLaws.{exec_procedures}

pub over : (more qs : List Proc) → define more qs ≡ define more [] ++ qs
over [] qs = refl
over (p ∷ more) qs = over more (p ∷ qs) ∙ sym (ap (λ ps. ps ++ qs) (over more (p ∷ [])) ∙ append_assoc (define more []) (p ∷ []) qs)

-- those of a cell from a place on, and one more
pub row_more : (ys : List Procedure) (i : ℕ) (y : Procedure) → i < length ys → get_or ys i y ≡ y →
    define (map plain_procedure (procedures_view (drop i ys))) [] ≡ define (map plain_procedure (procedures_view (drop (suc i) ys))) [] ++ plain_procedure
    (procedure_view y) ∷ []
row_more [] i y l e = absurd (omega arith)
row_more (z ∷ ys) zero y l e =
    over (map plain_procedure (procedures_view ys)) (plain_procedure (procedure_view z) ∷ [])
    ∙ ap (λ (z : Procedure). define (map plain_procedure (procedures_view ys)) [] ++ plain_procedure (procedure_view z) ∷ []) e
row_more (z ∷ ys) (suc i) y l e = row_more ys i y (omega arith) e

pub pushed : (all : List (Bor Procedure)) (b : Bor Procedure) → in_a_row (all ++ b ∷ []) ≡ in_a_row all ++ plain_procedure (procedure_view b.now) ∷ []
pushed all b = map-append (λ (p : Bor Procedure). plain_procedure (procedure_view p.now)) all (b ∷ [])

-- ---- along the path

-- the world's procedures are those of the node's cell over those of the world above
world_procedures : (s : Past) (n : ℕ) → IsLegal s → 0 < n → n < length s.nodes → (world_at s n).procedures ≡ define (node_at s n).cell.procedures
    (world_at s (node_at s n).parent).procedures
world_procedures s n g some known =
    let run : IsRun s.nodes s.worlds n = g.ran n some known in
    exec_procedures (node_at s n).cell (world_at s (node_at s n).parent) (node_at s n).steps (world_at s n) run.ran

-- what was added, and the world's procedures behind it
pub climbed : (s : Past) (n up : ℕ) (ps all told new : List Proc) → IsLegal s → 0 < n → n < length s.nodes → ps ≡ (node_at s n).cell.procedures →
    up ≡ (node_at s n).parent →
    told ++ (world_at s n).procedures ≡ all → new ≡ told ++ define ps [] → new ++ (world_at s up).procedures ≡ all
climbed s n up ps all told new legal some known own parent h made =
    ap (λ l. l ++ (world_at s up).procedures) made
    ∙ append_assoc told (define ps []) (world_at s up).procedures
    ∙ ap (λ l. told ++ l)
    (sym (over ps (world_at s up).procedures) ∙ ap (λ (qs : List Proc). define qs (world_at s up).procedures) own
    ∙ ap (λ (k : ℕ). define (node_at s n).cell.procedures (world_at s k).procedures) parent ∙ sym (world_procedures s n legal some known))
    ∙ h

pub at_root : (s : Past) (n : ℕ) (told all : List Proc) → IsLegal s → n ≡ 0 → told ++ (world_at s n).procedures ≡ all → told ≡ all
at_root s n told all legal e h =
    let none : (world_at s n).procedures ≡ [] = ap (λ (k : ℕ). (world_at s k).procedures) e ∙ ap (λ (w : World). w.procedures) legal.nothing_at_root in
    sym (append-nil told) ∙ ap (λ l. told ++ l) (sym none) ∙ h

-- a cell that is gone down to begins with its procedures over those of the position
pub started_down : (s : Past) (work : state.Work) (travel : Travel) → work ≡ state.Move travel → next_way travel ≡ Down →
    (start_of (code_of s work) (here s)).procedures ≡ define (node_at s (below s travel)).cell.procedures (here s).procedures
started_down s work travel e way = rw e (rw (way, code_of) refl)

-- ---- where no body is kept

-- there is no procedure
pub none_kept : (es : List Name) (bodies : List kept.LinkedProcedure) (stack : List ℕ) (ps : List Proc) → length bodies ≡ 0 →
    AreBodies bodies stack (procedures_in es ps) → ps ≡ []
none_kept es bodies [] [] e h = refl
none_kept es bodies [] (p ∷ ps) e h = absurd h
none_kept es bodies (i ∷ stack) [] e h = absurd h
none_kept es bodies (i ∷ stack) (p ∷ ps) e h = absurd (let within = slice_get_within bodies i h.0.body h.0.there in omega arith)

-- ---- procedures that are lent

-- with the procedures of the world that it shows a runner shows that world
pub world_lent : {L : Type 0} (runner : Runner L) (shown : ShownWorld) (ps : List Proc) → Shows runner shown → ps ≡ shown.world.procedures →
    world_of ps runner ≡ shown.world
world_lent runner shown ps h e = ap (λ (qs : List Proc). world_of qs runner) e
    ∙ ap (λ (s : Store). record { store = s; procedures = shown.world.procedures }) h.store
