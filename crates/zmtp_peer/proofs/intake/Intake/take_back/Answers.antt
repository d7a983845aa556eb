use Rattle.std.proofs.Common.{ℕ, ap, sym, ◌∙◌, take}
use Rattle.std.proofs.lemmas.List.{take-map}
use Rattle.std.specs.declared.alloc.Global.{Global}
use Rattle.std.specs.declared.vec.Vec.{Vec}
use Rattle.zmtp_peer.specs.Events.{bodies}
use Rattle.zmtp_peer.proofs.intake.Intake.take_back.Goals as goal

pub returns-clause-held : goal.returns-clause-held
returns-clause-held c =
    ap bodies c.truncate.ensures.items
    ∙ sym (take-map (λ (v : Vec ℕ Global). v.items) c.args.kept c.front-frames.result.items)
    ∙ ap (take c.args.kept) (rw (c.replace-brought.ensures.value, c.replace-held.ensures.value) at c.front-frames.ensures)
