use Rattle.std.proofs.Common.{arith}
use Rattle.jupyter_msg.proofs.CutLemmas.{popped, after_apart}
use Rattle.jupyter_msg.proofs.message.take_apart.Goals as goal

pub returns-clause-after : goal.returns-clause-after
returns-clause-after c =
    let p = popped _ _ _ _ _ _ _ _ _ (rw c.unwrap-content.ensures at c.pop.ensures.items) (rw c.unwrap-metadata.ensures at c.pop-2.ensures.items)
    (rw c.unwrap-parent.ensures at c.pop-3.ensures.items) (rw c.unwrap-header.ensures at c.pop-4.ensures.items) in
    after_apart (λ frame. frame.items) c.args.frames.items _ _ _ _ _ _ _ _ c.args.at c.in_ok-parts.ensures.tail c.in_ok-buffers.ensures.items
    c.in_ok-buffers.ensures.tail p (omega (arith, c.in_ok-parts.parts.ok.0, c.in_ok-parts.ensures.tail_len, c.requires))
