use Rattle.std.proofs.Common.{◌≡◌, true, false, [], ◌∷◌, ap, sym, ◌∙◌, if◌then◌else◌}
use Rattle.janus_meaning.specs.Store.{same_name}
use Rattle.janus_syntax.specs.Tree.{name_view}
use Rattle.janus_syntax.specs.View.{name_of}
use Rattle.janus_check.specs.declared.fault.CheckFault.TheVariants.{SelfUse}
use Rattle.janus_check.specs.Names.{meant_kind}
use Rattle.janus_check.specs.Fault.{first_from}
use Rattle.janus_check.specs.Check.{use_faults}
use Rattle.janus_check.specs.Sight.{in_sight, faults_at}
use Rattle.janus_check.proofs.LookupLemmas.{same_as_bytes}
use Rattle.janus_check.proofs.expression.fault_at.Goals as goal

pub returns-then-eq : goal.returns-then-eq
returns-then-eq g c =
    let g = in_sight c.in-EndOfLocal.sight.now in
    let same : same_name (name_of c.args.name.now) (name_of c.in-EndOfLocal.local.now) ≡ true =
    same_as_bytes (name_of c.args.name.now) (name_of c.in-EndOfLocal.local.now) ∙ sym c.if-eq.ensures in
    c.sooner.ensures
    ∙ ap (λ b. first_from c.args.first (if b then SelfUse c.args.name.now.span ∷ [] else use_faults g (meant_kind c.args.kind) (name_view c.args.name.now)))
    (sym same)
    ∙ ap (λ s. first_from c.args.first (faults_at s (meant_kind c.args.kind) (name_view c.args.name.now))) (sym c.in-EndOfLocal.is)

pub returns-else-eq : goal.returns-else-eq
returns-else-eq g c =
    let g = in_sight c.in-EndOfLocal.sight.now in
    let other : same_name (name_of c.args.name.now) (name_of c.in-EndOfLocal.local.now) ≡ false =
    same_as_bytes (name_of c.args.name.now) (name_of c.in-EndOfLocal.local.now) ∙ sym c.if-eq.ensures in
    c.use_fault-else-eq.ensures
    ∙ ap (λ b. first_from c.args.first (if b then SelfUse c.args.name.now.span ∷ [] else use_faults g (meant_kind c.args.kind) (name_view c.args.name.now)))
    (sym other)
    ∙ ap (λ s. first_from c.args.first (faults_at s (meant_kind c.args.kind) (name_view c.args.name.now))) (sym c.in-EndOfLocal.is)
