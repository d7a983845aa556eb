use Rattle.std.proofs.Common.{◌≡◌, ◌∙◌, List, [], ◌∷◌, ◌++◌, ap, sym, subst, map}
use Rattle.std.proofs.lemmas.List.{map-append}
use Rattle.zmtp_peer.specs.declared.brought.Brought as code
use Rattle.zmtp_peer.specs.declared.brought.Brought.TheVariants as variant
use Rattle.zmtp_peer.specs.Events.{bodies}
use Rattle.zmtp_peer.specs.Brought.{Brought, Whole, brought_of, first_of}
use Rattle.zmtp_peer.specs.Intake.{front_of, brought_in, Keeps}
use Rattle.zmtp_peer.proofs.FrameLemmas.{keeps-whole}
use Rattle.zmtp_peer.proofs.intake.complete.Goals as goal

pub returns-clause-kept : goal.returns-clause-kept
returns-clause-kept c =
    let intake = c.args.intake.now in
    let left = bodies c.replace-message.new.dest.items in
    let all : c.push_reserved.new.self.items ≡ intake.brought.items ++ variant.Message intake.held ∷ [] =
    c.push_reserved.ensures.items ∙ ap (λ (items : List code.Brought). items ++ variant.Message c.replace-message.result ∷ []) c.reserve.ensures.items
    ∙ ap (λ held. intake.brought.items ++ variant.Message held ∷ []) c.replace-message.ensures.value in
    let seen : map brought_of c.push_reserved.new.self.items ≡ brought_in intake ++ Whole (bodies intake.held.items) ∷ [] =
    ap (map brought_of) all ∙ map-append brought_of intake.brought.items (variant.Message intake.held ∷ []) in
    subst (λ (items : List Brought). Keeps (front_of intake) (first_of items left)) (sym seen) (keeps-whole (brought_in intake) (bodies intake.held.items) left)
