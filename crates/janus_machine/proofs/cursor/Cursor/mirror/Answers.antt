use Rattle.std.proofs.Common.{◌≡◌, ℕ, suc, ◌+◌, ◌-◌, ap, ◌∙◌, sym, subst, arith}
use Rattle.std.specs.Prelude.{reverse}
use Rattle.janus_code.specs.CodeBlock.{code_block}
use Rattle.janus_code.specs.Slotted.{all_slots}
use Rattle.janus_machine.specs.LaidCode.{LaidCode}
use Rattle.janus_linear.specs.Layout.{block_size}
use Rattle.janus_linear.specs.Within.{within, frames_in}
use Rattle.janus_machine.specs.declared.linked_code.LinkedCode.{LinkedCode}
use Rattle.janus_machine.specs.declared.direction.Direction.{Direction}
use Rattle.janus_machine.specs.Places.{laid_in, block_in}
use Rattle.janus_machine.specs.Cursor.{calls_of}
use Rattle.janus_machine.specs.Nested.{row_place, book_in, frames_outside, AreOpenCalls}
use Rattle.janus_machine.proofs.Turning.{outside_turned, open_turned, frames_turned}
use Rattle.janus_machine.proofs.Turned.{turned_place}
use Rattle.janus_machine.proofs.Mirrors.{place_mirrored}
use Rattle.janus_machine.proofs.Agreed.{stacks_turned, locals_turned, callers_turned}
use Rattle.janus_machine.specs.Open.{HaveLocals}
use Rattle.janus_frames.specs.Calls.{own_names}
use Rattle.janus_machine.proofs.cursor.Cursor.mirror.Goals as goal

pub returns-clause-place : goal.returns-clause-place
returns-clause-place c = λ h stands.
    let t = c.args.book.now.procedures.now in
    let b = c.args.book.now.code.now in
    let u = c.args.self.now in
    let d = u.direction in
    let cs = calls_of u in
    let to = c.saturating_sub-self.result in
    let end : c.last.result ≡ block_size (block_in (book_in t b cs) d) - 1 =
    c.last.ensures
    ∙ ap (λ (l : LaidCode). block_size (code_block all_slots l.linear.code) - 1)
    (c.laid-code.ensures ∙ ap (λ (k : LinkedCode). laid_in k d) (c.running.ensures ∙ ap (λ is. book_in t b (reverse is)) c.deref.ensures.value)) in
    let left : to ≡ block_size (block_in (book_in t b cs) d) - 1 - u.to_go = omega (arith, c.saturating_sub-self.ensures, end) in
    ap (λ (w : Direction). within (frames_outside t b w cs h.callers)
    (row_place (book_in t b cs) w (block_size (block_in (book_in t b cs) w) - suc to))) c.opposite-self.ensures
    ∙ turned_place t b d cs h.callers u.to_go to stands.calls left

pub returns-clause-stands : goal.returns-clause-stands
returns-clause-stands c = λ h stands.
    let t = c.args.book.now.procedures.now in
    let b = c.args.book.now.code.now in
    let u = c.args.self.now in
    let d = u.direction in
    let cs = calls_of u in
    let e = c.opposite-self.ensures in
    record {
      few = stands.few;
      calls = subst (λ (w : Direction). AreOpenCalls t b w cs h.callers) (sym e) (open_turned t b d cs h.callers stands.calls);
      used = stands.used ∙ sym (frames_turned (frames_outside t b d cs h.callers))
          ∙ ap frames_in (sym (outside_turned t b d cs h.callers stands.calls))
          ∙ ap (λ (w : Direction). frames_in (frames_outside t b w cs h.callers)) (sym e);
      low = stands.low;
    }

pub returns-clause-agrees : goal.returns-clause-agrees
returns-clause-agrees c = λ k h stands agrees.
    let t = c.args.book.now.procedures.now in
    let b = c.args.book.now.code.now in
    let u = c.args.self.now in
    let d = u.direction in
    let cs = calls_of u in
    let to = c.saturating_sub-self.result in
    let way = c.opposite-self.ensures in
    let end : c.last.result ≡ block_size (block_in (book_in t b cs) d) - 1 =
    c.last.ensures
    ∙ ap (λ (l : LaidCode). block_size (code_block all_slots l.linear.code) - 1)
    (c.laid-code.ensures ∙ ap (λ (k : LinkedCode). laid_in k d) (c.running.ensures ∙ ap (λ is. book_in t b (reverse is)) c.deref.ensures.value)) in
    let left : to ≡ block_size (block_in (book_in t b cs) d) - 1 - u.to_go = omega (arith, c.saturating_sub-self.ensures, end) in
    let row = ap (λ (w : Direction). row_place (book_in t b cs) w (block_size (block_in (book_in t b cs) w) - suc to)) way
    ∙ place_mirrored (book_in t b cs) d u.to_go to left in
    let whole = ap
    (λ (w : Direction). within (frames_outside t b w cs h.callers)
    (row_place (book_in t b cs) w (block_size (block_in (book_in t b cs) w) - suc to))) way
    ∙ turned_place t b d cs h.callers u.to_go to stands.calls left in
    record {
      stacks = agrees.stacks ∙ sym (stacks_turned k _ _ whole);
      size = agrees.size ∙ ap (λ (m : ℕ). own_names h.declared h.callers + m) (sym (locals_turned _ _ row));
      names = agrees.names;
      callers = subst (λ (w : Direction). HaveLocals t b h.declared w cs h.callers) (sym way)
          (callers_turned t b h.declared d cs h.callers stands.calls agrees.callers);
    }
