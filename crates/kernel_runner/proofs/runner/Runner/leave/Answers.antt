use Rattle.std.proofs.Common.{◌≡◌, ℕ, List, length, refl, sym, ap, ◌∙◌, subst}
use Rattle.std.proofs.lemmas.List.{length-map}
use Rattle.janus_meaning.specs.Syntax.{Proc}
use Rattle.janus_meaning.specs.World.{Declaration}
use Rattle.janus_syntax.specs.Tree.{procedure_view, procedures_view}
use Rattle.janus_syntax.specs.View.{plain_procedure}
use Rattle.janus_machine.specs.Bodies.{AreDefined, onto}
use Rattle.kernel_runner.specs.Program.{declarations_of, procedures_of}
use Rattle.kernel_runner.specs.Runner.{ShownWorld, Becomes, CanLeave}
use Rattle.kernel_runner.proofs.Borders.{left_here}
use Rattle.kernel_runner.proofs.Declaring.{declared_count}
use Rattle.kernel_runner.proofs.runner.Runner.leave.Given as given
use Rattle.kernel_runner.proofs.runner.Runner.leave.Goals as goal

-- the names of the cell are taken back
retired : (g : given.Over) (c : goal.After-retire_all g) (to : ShownWorld) → CanLeave c.args.self.now c.args.program.now to →
    Becomes c.args.self.now.counted.store c.retire.new.store to.world.store
retired g c to can =
    let ds : List Declaration = declarations_of c.args.program.now in
    let many : length ds ≡ length c.declarations.result.now = sym (ap (λ (l : List Declaration). length l) c.declarations.ensures)
    ∙ declared_count c.declarations.result.now in
    c.retire.ensures.becomes to.world.store (record { declarations = ds; many = many; declared = can.is.0.store })

pub returns-clause-leaves : goal.returns-clause-leaves
returns-clause-leaves g c = λ to can.
    let same : length (procedures_of c.args.program.now) ≡ length c.procedures.result.now =
    sym (ap (λ (ps : List Proc). length ps) c.procedures.ensures) ∙ length-map (procedures_view c.procedures.result.now) plain_procedure
    ∙ length-map c.procedures.result.now procedure_view in
    left_here c.args.self.now _ c.args.program.now to can (retired g c to can) c.retire_all.ensures.kept refl
    (c.retire_all.ensures.defined to.bodies
    (subst (λ (n : ℕ). AreDefined c.args.self.now.procedures (onto c.args.program.now.first n to.bodies)) same can.is.0.defined.defined))

pub returns-clause-counts : goal.returns-clause-counts
returns-clause-counts g c = record { writes = (retired g c c.requires.0 c.requires.1).unwritten; steps = refl }

pub retire_all-requires-clause-newest : goal.retire_all-requires-clause-newest
retire_all-requires-clause-newest g c =
    let same : length (procedures_of c.args.program.now) ≡ length c.procedures.result.now =
    sym (ap (λ (ps : List Proc). length ps) c.procedures.ensures) ∙ length-map (procedures_view c.procedures.result.now) plain_procedure
    ∙ length-map c.procedures.result.now procedure_view in (
      c.requires.0.bodies,
      subst (λ (n : ℕ). AreDefined c.args.self.now.procedures (onto c.args.program.now.first n c.requires.0.bodies)) same
          c.requires.1.is.0.defined.defined,
    )
