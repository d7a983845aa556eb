-- How a walk moves in its run.
use Rattle.std.proofs.Common.{◌≡◌, ℕ, ◌+◌, ◌-◌, false, List, refl, ap, ◌∙◌, sym, subst}
use Rattle.std.specs.Prelude.{All}
use Rattle.janus_meaning.specs.Syntax.{Name}
use Rattle.janus_slots.specs.Numbers.{HaveOneNumber}
use Rattle.janus_places.specs.declared.table.Table.{Table}
use Rattle.janus_places.specs.Table.{IsTableOf}
use Rattle.kernel_machine.specs.declared.progress.Progress.{Progress}
use Rattle.kernel_machine.specs.Language.{Forward}
use Rattle.kernel_machine.specs.State.{here}
use Rattle.kernel_machine.specs.Legal.{IsLegal}
use Rattle.kernel_runner.specs.Program.{cell_of_program}
use Rattle.kernel_runner.specs.declared.program.Program.{Program}
use Rattle.kernel_runner.specs.declared.runner.Runner.{Runner}
use Rattle.kernel_runner.specs.Runner.{Is, Inside, Runs, at_count, count_after}
use Rattle.kernel_history.specs.Fields.{past_of}
use Rattle.kernel_history.specs.declared.tree.HistoryTree.{HistoryTree}
use Rattle.steps_walk.specs.declared.walk.Walk.{Walk}
use Rattle.steps_walk.specs.Bodies.{IsMet}
use Rattle.steps_walk.specs.Where.{text_block}
use Rattle.steps_walk.specs.Walking.{StepsBack}
use Rattle.steps_walk.specs.Walk.{runner_of, program_of, tree_of, block_of, bodies_of, IsWalking, Moves, KeepsMet, HasMet}

module _ {L : Type 0} where
  -- it still walks
  pub walks : (old new : Walk L) → Moves old new → IsWalking old → IsWalking new
  walks old new h w =
      let there = h.stands w.stands.at w.stands.stands in
      record {
        stands = record {
          at = at_count there.0 w.stands.at;
          stands = subst (λ (p : Program). Is (runner_of new) (Inside p (at_count there.0 w.stands.at) false)) (sym h.program) there.1;
          code = w.stands.code ∙ ap (λ (p : Program). Forward (cell_of_program p)) (sym h.program);
          world = w.stands.world ∙ ap (λ (t : HistoryTree). here (past_of t)) (sym h.tree);
          legal = subst (λ (t : HistoryTree). IsLegal (past_of t)) (sym h.tree) w.stands.legal;
        };
        one_number = subst HaveOneNumber (sym h.entries) w.one_number;
        table = subst (λ (t : Table). IsTableOf t (text_block (program_of new))) (sym h.block)
            (subst (λ (p : Program). IsTableOf (block_of old) (text_block p)) (sym h.program) w.table);
        met = h.met w.met;
      }

  pub stays : (w : Walk L) → Moves w w
  stays w = record { program = refl; tree = refl; block = refl; entries = refl; met = λ m. m; stands = λ at i. (at.count, i) }

  pub further : (a b c : Walk L) → Moves a b → Moves b c → Moves a c
  further a b c h k = record {
    program = k.program ∙ h.program;
    tree = k.tree ∙ h.tree;
    block = k.block ∙ h.block;
    entries = k.entries ∙ h.entries;
    met = λ m. k.met (h.met m);
    stands = λ at i.
        let first = h.stands at i in
        let second = k.stands (at_count first.0 at)
        (subst (λ (p : Program). Is (runner_of b) (Inside p (at_count first.0 at) false)) (sym h.program) first.1) in
        (second.0, subst (λ (p : Program). Is (runner_of c) (Inside p (at_count second.0 at) false)) h.program second.1);
  }

  -- with another runner, in whose table are the same names
  module _ (w : Walk L) (r : Runner L) (entries : r.entries ≡ (runner_of w).entries) where
    abbrev pub moved : Walk L
    moved = record { «open» = record { runner = r; program = w.open.program; tree = w.open.tree }; block = w.block; met = w.met }

    met_moved : HasMet w → HasMet moved
    met_moved m = subst (λ (es : List Name). All (IsMet es (program_of w) (tree_of w)) (bodies_of w)) (sym entries) m

    -- steps on move it, and steps back
    pub ran : (m : ℕ) (told : Progress) → Runs (program_of w) m told (runner_of w) r → Moves w moved
    ran m told h = record {
      program = refl;
      tree = refl;
      block = refl;
      entries = entries;
      met = met_moved;
      stands = λ at i. (count_after (at.count + m) told, (h at i).is);
    }

    pub gone : (m : ℕ) → StepsBack (program_of w) m (runner_of w) r → Moves w moved
    gone m h = record {
      program = refl;
      tree = refl;
      block = refl;
      entries = entries;
      met = met_moved;
      stands = λ at i. (at.count - m, h at i);
    }

  -- with more bodies that were met
  pub met_more : (old new : Walk L) → new ≡ record old { met = new.met } → HasMet new → IsWalking old → KeepsMet old new
  met_more old new e m w =
      let runner : runner_of new ≡ runner_of old = ap runner_of e in
      let moves : Moves old new = record {
        program = ap program_of e;
        tree = ap tree_of e;
        block = ap block_of e;
        entries = ap (λ (r : Runner L). r.entries) runner;
        met = λ all. m;
        stands = λ at i. (at.count, subst (λ (r : Runner L). Is r (Inside (program_of old) at false)) (sym runner) i);
      } in
      record { runner = runner; moves = moves; walks = walks old new moves w }

  pub met_both : (a b c : Walk L) → KeepsMet a b → KeepsMet b c → KeepsMet a c
  met_both a b c h k = record { runner = k.runner ∙ h.runner; moves = further a b c h.moves k.moves; walks = k.walks }

  pub met_none : (w : Walk L) → IsWalking w → KeepsMet w w
  met_none w h = record { runner = refl; moves = stays w; walks = h }
