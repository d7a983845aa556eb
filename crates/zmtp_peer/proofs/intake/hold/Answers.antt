use Rattle.std.proofs.Common.{◌≡◌, List, ℕ, [], ◌∷◌, sym, subst, length, arith}
use Rattle.std.proofs.lemmas.Bool.Decides.{nat_tests}
use Rattle.std.proofs.lemmas.List.{map-append}
use Rattle.std.specs.declared.alloc.Global.{Global}
use Rattle.std.specs.declared.vec.Vec.{Vec}
use Rattle.zmtp_peer.specs.Events.{bodies}
use Rattle.zmtp_peer.specs.Brought.{Whole, first_of}
use Rattle.zmtp_peer.specs.Intake.{front_of, brought_in, Keeps}
use Rattle.zmtp_peer.proofs.FrameLemmas.{keeps-same, keeps-held, keeps-then, keeps-alone, keeps-added}
use Rattle.zmtp_peer.proofs.intake.hold.Goals as goal

pub returns-in_err-add_frame-clause-kept : goal.returns-in_err-add_frame-clause-kept
returns-in_err-add_frame-clause-kept c =
    let intake = c.args.intake.now in
    subst (λ (held : List (Vec ℕ Global)). Keeps (front_of intake) (first_of (brought_in intake) (bodies held))) (sym c.in_err-add_frame.ensures.err)
    (keeps-same (front_of intake))

pub returns-clause-kept : goal.returns-clause-kept
returns-clause-kept c =
    let intake = c.args.intake.now in
    let held = c.add_frame.new.held.items in
    let more : Keeps (front_of intake) (first_of (brought_in intake) (bodies held)) =
    subst (λ (frames : List (Vec ℕ Global)). Keeps (front_of intake) (first_of (brought_in intake) (bodies frames))) (sym c.in_ok-add_frame.ensures.ok)
    (subst (λ (frames : List (List ℕ)). Keeps (front_of intake) (first_of (brought_in intake) frames))
    (sym (map-append (λ (frame : Vec ℕ Global). frame.items) intake.held.items (c.args.body ∷ [])))
    (keeps-held (brought_in intake) (bodies intake.held.items) (c.args.body.items ∷ []))) in
    keeps-then (front_of intake) (first_of (brought_in intake) (bodies held)) (front_of c.complete.new.intake) more c.complete.ensures.kept

pub returns-then-is_empty-clause-kept : goal.returns-then-is_empty-clause-kept
returns-then-is_empty-clause-kept c =
    let intake = c.args.intake.now in
    let none : length intake.held.items ≡ 0 = grind (arith, nat_tests, intake.held.ok.0) in
    keeps-added c.add_alone.result intake.brought.items c.add_alone.new.brought.items (Whole (c.args.body.items ∷ [])) (bodies intake.held.items)
    (keeps-alone (brought_in intake) (Whole (c.args.body.items ∷ [])) intake.held.items none) c.add_alone.ensures.ok c.add_alone.ensures.err

pub returns-then-more-clause-kept : goal.returns-then-more-clause-kept
returns-then-more-clause-kept c =
    let intake = c.args.intake.now in
    subst (λ (frames : List (Vec ℕ Global)). Keeps (front_of intake) (first_of (brought_in intake) (bodies frames))) (sym c.in_ok-add_frame.ensures.ok)
    (subst (λ (frames : List (List ℕ)). Keeps (front_of intake) (first_of (brought_in intake) frames))
    (sym (map-append (λ (frame : Vec ℕ Global). frame.items) intake.held.items (c.args.body ∷ [])))
    (keeps-held (brought_in intake) (bodies intake.held.items) (c.args.body.items ∷ [])))
