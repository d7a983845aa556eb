-- What is shown stays shown while names of procedures are added and bodies are kept; and what is made of a cell is ready.
use Rattle.std.proofs.Common.{◌≡◌, ℕ, zero, suc, ◌+◌, List, [], ◌∷◌, length, take, Some, refl, sym, ap, ◌∙◌, subst, arith}
use Rattle.std.specs.Prelude.{slice_get}
use Rattle.std.proofs.lemmas.Option.{slice_get_within}
use Rattle.janus_meaning.specs.Syntax.{Name, Blk, Proc}
use Rattle.janus_meaning.specs.World.{World}
use Rattle.janus_meaning.specs.Shape.{Shape, Heads, shape_of, heads_of}
use Rattle.janus_meaning.specs.Formed.{IsBlk, AreProcs}
use Rattle.janus_slots.specs.Numbers.{GoOn}
use Rattle.janus_slots.specs.Slots as slots
use Rattle.janus_slots.specs.Slots.{procedures_in}
use Rattle.janus_slots.specs.Law.{AreListed}
use Rattle.janus_syntax.specs.Tree as tree
use Rattle.janus_syntax.specs.Tree.{procedures_view}
use Rattle.janus_syntax.specs.View.{plain_cell}
use Rattle.janus_check.specs.Names.{Known, heads_in}
use Rattle.janus_check.specs.WellFormed.{IsWellFormed, IsWellFormedOver}
use Rattle.janus_check.proofs.SameHeads.{formed_same}
use Rattle.janus_code.specs.Slotted.{HasEntries}
use Rattle.kernel_runner.specs.StoreState.{StoreState, IsWhole, shown_store}
use Rattle.kernel_runner.specs.Bodies.{AreBelow, IsBodyAt, AreBodies, AreBodiesFrom, AreDefined}
use Rattle.kernel_runner.specs.Procedures.{kept_in}
use Rattle.kernel_runner.specs.Places.{block_in, names_under}
use Rattle.kernel_runner.specs.direction.Direction.TheVariants.{Forward}
use Rattle.kernel_runner.specs.linked_procedure.LinkedProcedure.{LinkedProcedure}
use Rattle.kernel_runner.specs.procedures.Procedures.{Procedures}
use Rattle.kernel_machine.specs.Language.{IsSound}
use Rattle.kernel_runner.specs.Program.{cell_of_program, procedures_of, IsReady}
use Rattle.kernel_runner.specs.Runner.{ShownWorld, Shows, Is, Between}
use Rattle.kernel_runner.specs.declared.program.Program.{Program}
use Rattle.kernel_runner.specs.declared.runner.Runner.{Runner}
use Rattle.kernel_loader.specs.Known.{IsKnownOf}
use Rattle.kernel_loader.proofs.Listed.{block_calls, bodies_call, block_stays, procedures_stay, listed_still}
use Rattle.kernel_loader.proofs.Unlisted.{shown_same}

-- ---- indices of bodies

-- the bodies that are defined are kept
pub bodies_within : (bodies : List LinkedProcedure) (stack : List ℕ) (ps : List Proc) → AreBodies bodies stack ps → AreBelow (length bodies) stack
bodies_within bodies [] [] h = tt
bodies_within bodies [] (p ∷ ps) h = absurd h
bodies_within bodies (i ∷ stack) [] h = absurd h
bodies_within bodies (i ∷ stack) (p ∷ ps) h = (slice_get_within bodies i h.0.body h.0.there, bodies_within bodies stack ps h.1)

get_taken : (n : ℕ) (xs : List LinkedProcedure) (i : ℕ) (b : LinkedProcedure) → slice_get (take n xs) i ≡ Some b → slice_get xs i ≡ Some b
get_taken zero xs i b e = absurd (let l = slice_get_within {A = LinkedProcedure} [] i b e in omega arith)
get_taken (suc n) [] i b e = e
get_taken (suc n) (x ∷ xs) zero b e = e
get_taken (suc n) (x ∷ xs) (suc i) b e = get_taken n xs i b e

-- they are at their indices among more
body_of_more : (n : ℕ) (bodies : List LinkedProcedure) (i : ℕ) (p : Proc) → IsBodyAt (take n bodies) i p → IsBodyAt bodies i p
body_of_more n bodies i p h = record { body = h.body; there = get_taken n bodies i h.body h.there; name = h.name; is = h.is }

bodies_of_more : (n : ℕ) (bodies : List LinkedProcedure) (stack : List ℕ) (ps : List Proc) → AreBodies (take n bodies) stack ps → AreBodies bodies stack ps
bodies_of_more n bodies [] [] h = tt
bodies_of_more n bodies [] (p ∷ ps) h = absurd h
bodies_of_more n bodies (i ∷ stack) [] h = absurd h
bodies_of_more n bodies (i ∷ stack) (p ∷ ps) h = (body_of_more n bodies i p h.0, bodies_of_more n bodies stack ps h.1)

-- ---- what is shown

-- there may be more names of procedures, and more bodies behind the others
pub shows_more : {L : Type 0} (old new : Runner L) (shown : ShownWorld) → new.counted.store ≡ old.counted.store → GoOn old.entries new.entries →
    take (length (kept_in old.procedures)) (kept_in new.procedures) ≡ kept_in old.procedures →
    (AreDefined old.procedures shown.bodies → AreDefined new.procedures shown.bodies) → IsSound shown.world → Is old (Between shown) → Is new (Between shown)
shows_more old new shown sight onward kept still sound is =
    let h = is.0 in
    let ps : List Proc = shown.world.procedures in
    let same : procedures_in new.entries ps ≡ procedures_in old.entries ps = shown_same old new.entries shown onward sound is in
    let shows : Shows new shown = record {
      store = ap shown_store sight ∙ h.store;
      texts = subst (λ (s : StoreState). length s.texts ≡ s.declared) (sym sight) h.texts;
      listed = listed_still old.entries new.entries onward ps h.listed;
      defined = record {
        defined = still h.defined.defined;
        bodies = subst (λ (qs : List Proc). AreBodies (kept_in new.procedures) shown.bodies qs) (sym same)
            (bodies_of_more (length (kept_in old.procedures)) (kept_in new.procedures) shown.bodies (procedures_in old.entries ps)
            (subst (λ (bs : List LinkedProcedure). AreBodies bs shown.bodies (procedures_in old.entries ps)) (sym kept) h.defined.bodies));
      };
    } in
    (shows, subst (λ (s : StoreState). IsWhole s) (sym sight) is.1)

-- the same bodies are all of them
pub all_kept : (old new : List LinkedProcedure) → new ≡ old → take (length old) new ≡ old
all_kept old new e = ap (take (length old)) e ∙ all_of old
  where
    all_of : (xs : List LinkedProcedure) → take (length xs) xs ≡ xs
    all_of [] = refl
    all_of (x ∷ xs) = ap (λ ys. x ∷ ys) (all_of xs)

-- ---- what is ready

-- A program is ready whose code stands for its block with slots, over names in sight that are those of g, and whose bodies are kept behind the others, if
-- all procedures that it calls are listed.
pub ready_made : (es sight g : List Name) (hs : Heads) (shape : Shape) (old new : Procedures) (program : Program) →
    block_in program.book Forward ≡ slots.block_in es sight (cell_of_program program).block → sight ≡ g → names_under program.book ≡ length sight →
    program.first ≡ length (kept_in old) → AreBodiesFrom (kept_in new) (length (kept_in old)) (procedures_in es (procedures_of program)) →
    length (kept_in new) ≡ length (kept_in old) + length (procedures_of program) → HasEntries hs es → AreListed es (procedures_of program) →
    IsBlk hs shape (cell_of_program program).block → AreProcs hs (procedures_of program) → IsReady es g new program
ready_made es sight g hs shape old new program meant names many first bodies count entries listed block procedures =
    let b : Blk = (cell_of_program program).block in
    let ps : List Proc = procedures_of program in
    record {
      meant = λ more onward. meant ∙ ap (λ (l : List Name). slots.block_in es l b) names
          ∙ sym (block_stays es more onward g b (block_calls hs es entries shape b block));
      names = many ∙ ap (λ (l : List Name). length l) names;
      within = omega (arith, first, count);
      bodies = λ more onward. subst (λ (qs : List Proc). AreBodiesFrom (kept_in new) program.first qs)
          (sym (procedures_stay es more onward ps listed (bodies_call hs es entries ps procedures)))
          (subst (λ (n : ℕ). AreBodiesFrom (kept_in new) n (procedures_in es ps)) (sym first) bodies);
    }

-- ---- what a cell is checked over

-- a cell that is well formed over what is known of a world is so over the world
pub formed_here : (w : World) (env : Known) (t u : tree.Cell) → IsKnownOf env w → IsWellFormedOver env t → u ≡ t →
    IsWellFormed (shape_of w.store) (heads_of w.procedures) u
formed_here w env t u known formed e =
    subst (λ (t : tree.Cell). IsWellFormed (shape_of w.store) (heads_of w.procedures) t) (sym e)
    (formed_same (shape_of w.store) (heads_in env.procedures) (heads_of w.procedures) (plain_cell t) known.heads
    (subst (λ (g : Shape). IsWellFormed g (heads_in env.procedures) t) known.names formed))
