use Rattle.std.proofs.Common.{◌≡◌, [], ◌∷◌, string_bytes, sym, subst}
use Rattle.janus_syntax.specs.Tree.{name_view}
use Rattle.janus_syntax.specs.Tokens.{Name}
use Rattle.janus_syntax.specs.TextTokens.{views}
use Rattle.janus_syntax.specs.Statements.{IsNameOrOther}
use Rattle.janus_syntax.proofs.SoFar.{AreNamed}
use Rattle.janus_syntax.proofs.Calls.{view_push, no_name, first_name, named_goes_on, named_ends}
use Rattle.janus_syntax.proofs.call.names.Goals as goal

pub returns-in_default : goal.returns-in_default
returns-in_default c =
    rw c.new.ensures.items (no_name (views c.args.tokens.now) (subst (IsNameOrOther (views c.args.tokens.now)) c.in_default.is c.in_ok-first.ensures))

pub names-init : goal.names-init
names-init c =
    let first = c.in-Some.first in
    let i : views c.args.tokens.now ≡ Name (string_bytes first.text) first.span ∷ views c.in-Some.after.now =
    subst (IsNameOrOther (views c.args.tokens.now)) c.in-Some.is c.in_ok-first.ensures in
    rw (c.in_ok-push.ensures.items, c.new-names.ensures.items)
    (subst (λ ts. AreNamed (name_view first ∷ []) ts (views c.in-Some.after.now)) (sym i)
    (first_name (string_bytes first.text) first.span (views c.in-Some.after.now)))

pub names-preserved : goal.names-preserved
names-preserved c =
    rw (c.in_ok-push-2.ensures.items, view_push c.names.names.items c.in_ok-next.next)
    (named_goes_on c.names.invariant c.in-Some-sign_at.ensures.found c.in_ok-next.ensures)

pub returns : goal.returns
returns c = named_ends c.names.invariant c.in_default-sign_at.ensures.none
