use Rattle.std.proofs.Common.{◌≡◌, ℕ, List, length, refl, sym, ap, ◌∙◌, subst}
use Rattle.std.proofs.lemmas.List.{length-map}
use Rattle.janus_meaning.specs.Syntax.{Proc}
use Rattle.janus_meaning.specs.World.{declare}
use Rattle.janus_syntax.specs.Tree.{procedure_view, procedures_view}
use Rattle.janus_syntax.specs.View.{plain_procedure}
use Rattle.janus_machine.specs.StoreState.{shown_store}
use Rattle.janus_machine.specs.Bodies.{AreDefined, onto}
use Rattle.kernel_runner.specs.Program.{procedures_of}
use Rattle.kernel_runner.proofs.Borders.{entered_here}
use Rattle.kernel_runner.proofs.Declaring.{becomes_same}
use Rattle.kernel_runner.proofs.runner.Runner.enter.Goals as goal

pub returns-clause-ok : goal.returns-clause-ok
returns-clause-ok g c = λ from can.
    let same : length (procedures_of c.args.program.now) ≡ length c.procedures.result.now =
    sym (ap (λ (ps : List Proc). length ps) c.procedures.ensures) ∙ length-map (procedures_view c.procedures.result.now) plain_procedure
    ∙ length-map c.procedures.result.now procedure_view in
    entered_here c.args.self.now
    (record {
      counted = record c.args.self.now.counted { store = c.declare.new.store };
      cursor = c.enter.new.self;
      procedures =
          c.define_all.new.self;
      entries = c.args.self.now.entries;
    })
    c.args.program.now from can
    (becomes_same _ _ _ _ (ap (λ l. declare l (shown_store c.args.self.now.counted.store)) c.declarations.ensures) c.in_ok-declare.ensures.ok)
    c.define_all.ensures.kept refl
    (subst (λ (n : ℕ). AreDefined c.define_all.new.self (onto c.args.program.now.first n from.bodies)) (sym same)
    (c.define_all.ensures.defined from.bodies can.is.0.defined.defined can.behind))
    (record { stands = c.enter.ensures.stands; place = c.enter.ensures.place; counts = c.enter.ensures.counts })

pub returns-clause-counts : goal.returns-clause-counts
returns-clause-counts g c = record { writes = c.in_ok-declare.ensures.ok.unwritten; steps = refl }

pub define_all-requires-clause-new : goal.define_all-requires-clause-new
define_all-requires-clause-new g c = (c.requires.0.bodies, c.requires.1.is.0.defined.defined, c.requires.1.behind)
