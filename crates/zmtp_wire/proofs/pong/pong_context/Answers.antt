use Rattle.std.proofs.Common.{◌≡◌, ◌++◌, ◌∷◌, ℕ, List, take, drop, codes, ap, sym, ◌∙◌, arith, take-append-drop}
use Rattle.std.proofs.lemmas.Slice.Eq.{bytes_eq-Decides}
use Rattle.zmtp_wire.specs.Pong.{pong}
use Rattle.zmtp_wire.proofs.Pongs.{pong-read}
use Rattle.zmtp_wire.proofs.pong.pong_context.Goals as goal

-- what stands before the context is that of a pong
pub returns-clause-pong : goal.returns-clause-pong
returns-clause-pong c =
    let body = c.in_ok-size.body.now in
    let context = c.in_ok-context.context.now in
    let prefix = c.in_ok-context.ensures.cases in
    let name : take 5 body ≡ 4 ∷ codes "PONG" = (bytes_eq-Decides (take 5 body) (4 ∷ codes "PONG")).0 prefix.0 in
    let is : body ≡ (pong context).body =
    sym (take-append-drop 5 body) ∙ ap (λ (front : List ℕ). front ++ drop 5 body) name ∙ ap (λ (rest : List ℕ). 4 ∷ codes "PONG" ++ rest) (sym prefix.1) in
    pong-read c.args.octets.now c.in_ok-flags.behind.now body context c.in_ok-flags.flags.now c.in_ok-size.size.now c.in_ok-flags.ensures.cases.0
    c.in_ok-size.ensures.cases.0 c.if-flags-ne-COMMAND.false (sym c.from.ensures ∙ c.if-from-body.false) is (omega (arith, c.if-context-gt-CONTEXT_LIMIT.false))
