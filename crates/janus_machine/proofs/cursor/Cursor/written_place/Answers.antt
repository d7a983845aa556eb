use Rattle.std.proofs.Common.{◌≡◌, ◌-◌, ap, ◌∙◌}
use Rattle.std.specs.Prelude.{reverse}
use Rattle.janus_code.specs.CodeBlock.{code_block}
use Rattle.janus_code.specs.Slotted.{all_slots}
use Rattle.janus_machine.specs.LaidCode.{LaidCode}
use Rattle.janus_linear.specs.Layout.{block_size}
use Rattle.janus_machine.specs.declared.linked_code.LinkedCode.{LinkedCode}
use Rattle.janus_machine.specs.declared.direction.Direction.{Direction}
use Rattle.janus_machine.specs.declared.direction.Direction.TheVariants.{Forward, Inverse}
use Rattle.janus_machine.specs.Places.{laid_in, block_in}
use Rattle.janus_machine.specs.Nested.{book_in}
use Rattle.janus_machine.specs.Cursors.{book_of}
use Rattle.janus_machine.proofs.Written.{is_written}
use Rattle.janus_machine.proofs.cursor.Cursor.written_place.Goals as goal

pub returns-in-Forward : goal.returns-in-Forward
returns-in-Forward c =
    let t = c.args.book.now.procedures.now in
    let b = c.args.book.now.code.now in
    let u = c.args.self.now in
    let end : c.last-last.result ≡ block_size (block_in (book_of t b u) Forward) - 1 =
    c.last-last.ensures
    ∙ ap (λ (l : LaidCode). block_size (code_block all_slots l.linear.code) - 1)
    (c.laid.ensures ∙ ap (λ (k : LinkedCode). laid_in k u.direction) (c.running.ensures ∙ ap (λ is. book_in t b (reverse is)) c.deref.ensures.value))
    ∙ ap (λ (d : Direction). block_size (block_in (book_of t b u) d) - 1) c.in-Forward.is in
    is_written t b u Forward c.saturating_sub-at.result c.in-Forward.is
    (c.saturating_sub-at.ensures ∙ ap (λ n. n - u.to_go) end)

pub returns-in-Inverse : goal.returns-in-Inverse
returns-in-Inverse c =
    let t = c.args.book.now.procedures.now in
    let b = c.args.book.now.code.now in
    let u = c.args.self.now in
    let end : c.last-last.result ≡ block_size (block_in (book_of t b u) Inverse) - 1 =
    c.last-last.ensures
    ∙ ap (λ (l : LaidCode). block_size (code_block all_slots l.linear.code) - 1)
    (c.laid.ensures ∙ ap (λ (k : LinkedCode). laid_in k u.direction) (c.running.ensures ∙ ap (λ is. book_in t b (reverse is)) c.deref.ensures.value))
    ∙ ap (λ (d : Direction). block_size (block_in (book_of t b u) d) - 1) c.in-Inverse.is in
    is_written t b u Inverse c.saturating_sub.result c.in-Inverse.is
    (c.saturating_sub.ensures ∙ ap (λ n. c.last-last.result - n) c.saturating_sub-at.ensures ∙ ap (λ n. n - (n - u.to_go)) end)
