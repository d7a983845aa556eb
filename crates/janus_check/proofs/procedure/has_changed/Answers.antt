use Rattle.std.proofs.Common.{◌≡◌, not, refl, ap, ◌∙◌, sym}
use Rattle.janus_check.specs.contracts.env.KindPartialEq.TheImpl.{eq-value}
use Rattle.janus_check.specs.declared.env.Kind.{Kind}
use Rattle.janus_check.specs.declared.env.Kind.TheVariants.{Number, Array, Stack}
use Rattle.janus_check.specs.Names.{meant_kind, meant_kinds}
use Rattle.janus_check.specs.Check.{same_kind, is_changed}
use Rattle.janus_check.proofs.HeadLemmas.{compared}
use Rattle.janus_check.proofs.procedure.has_changed.Goals as goal

same : (k l : Kind) → eq-value.it k l ≡ same_kind (meant_kind k) (meant_kind l)
same Number Number = refl
same Number Array = refl
same Number Stack = refl
same Array Number = refl
same Array Array = refl
same Array Stack = refl
same Stack Number = refl
same Stack Array = refl
same Stack Stack = refl

pub returns-in-Some : goal.returns-in-Some
returns-in-Some g c =
    c.ne.ensures ∙ ap not (compared eq-value.it same c.in-Some.found.now c.args.kinds.now)
    ∙ sym (ap (is_changed (meant_kinds c.args.kinds.now)) c.in-Some.ensures)
