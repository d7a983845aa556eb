use Rattle.std.proofs.Common.{◌≡◌, ◌≤◌, ◌-◌, suc, [], ◌∷◌, refl, ap, ◌∙◌, sym, subst, arith}
use Rattle.std.specs.Prelude.{reverse}
use Rattle.std.proofs.lemmas.List.{reverse-append}
use Rattle.janus_code.specs.CodeBlock.{code_block}
use Rattle.janus_code.specs.Slotted.{all_slots}
use Rattle.janus_linear.specs.Layout.{block_size}
use Rattle.janus_machine.specs.declared.linked_code.LinkedCode.{LinkedCode}
use Rattle.janus_machine.specs.LaidCode.{LaidCode}
use Rattle.janus_machine.specs.Places.{laid_in, block_in}
use Rattle.janus_machine.specs.Nested.{book_in, caller_way, call_at}
use Rattle.janus_machine.specs.Cursor.{calls_of}
use Rattle.janus_machine.proofs.Leaving.{left_alone, leaves_stands, leaves_leads, leaves_agrees}
use Rattle.janus_machine.proofs.call.leave_call.Goals as goal

pub unbind-requires : goal.unbind-requires
unbind-requires g c =
    let u = c.args.cursor.now in
    let call = c.in-Some.call in
    let cs = reverse c.pop.new.self.items in
    let calls_are : calls_of u ≡ call ∷ cs = ap reverse c.in-Some.ensures.items ∙ reverse-append c.pop.new.self.items (call ∷ []) in
    left_alone c.args.procedures.now c.args.book.now u c.args.store.now c.requires.standing call cs calls_are c.requires.ended c.requires.safe

pub returns-clause-stands : goal.returns-clause-stands
returns-clause-stands g c =
    let t = c.args.procedures.now in
    let b = c.args.book.now in
    let u = c.args.cursor.now in
    let h = c.args.store.now in
    let call = c.in-Some.call in
    let cs = reverse c.pop.new.self.items in
    let calls_are : calls_of u ≡ call ∷ cs = ap reverse c.in-Some.ensures.items ∙ reverse-append c.pop.new.self.items (call ∷ []) in
    let way = c.caller_direction-direction.result in
    let turned : way ≡ caller_way call.uncalled u.direction = c.caller_direction-direction.ensures in
    let caller = book_in t b cs in
    let end : c.last-end.result ≡ block_size (block_in caller way) - 1 =
    c.last-end.ensures
    ∙ ap (λ (k : LaidCode). block_size (code_block all_slots k.linear.code) - 1)
    (c.laid-caller.ensures ∙ ap (λ (k : LinkedCode). laid_in k way) (c.running.ensures ∙ ap (λ is. book_in t b (reverse is)) c.deref.ensures.value)) in
    let placed = c.turned_place-at.ensures caller end in
    let to_go : c.saturating_sub-cursor.result ≡ block_size (block_in caller (caller_way call.uncalled u.direction)) - 1 - suc
    (call_at caller (caller_way call.uncalled u.direction) call.place) =
    subst (λ w. c.saturating_sub-cursor.result ≡ block_size (block_in caller w) - 1 - suc (call_at caller w call.place)) turned
    (omega (arith, c.saturating_sub-cursor.ensures, c.saturating_sub.ensures, end, placed)) in
    leaves_stands t b u h c.requires.standing call cs calls_are c.requires.ended c.requires.safe _ c.unbind.new.self refl turned to_go refl refl
    c.unbind.ensures

pub returns-clause-steps : goal.returns-clause-steps
returns-clause-steps g c = λ ps k known a.
    let t = c.args.procedures.now in
    let b = c.args.book.now in
    let u = c.args.cursor.now in
    let h = c.args.store.now in
    let call = c.in-Some.call in
    let cs = reverse c.pop.new.self.items in
    let calls_are : calls_of u ≡ call ∷ cs = ap reverse c.in-Some.ensures.items ∙ reverse-append c.pop.new.self.items (call ∷ []) in
    let way = c.caller_direction-direction.result in
    let turned : way ≡ caller_way call.uncalled u.direction = c.caller_direction-direction.ensures in
    let caller = book_in t b cs in
    let end : c.last-end.result ≡ block_size (block_in caller way) - 1 =
    c.last-end.ensures
    ∙ ap (λ (k : LaidCode). block_size (code_block all_slots k.linear.code) - 1)
    (c.laid-caller.ensures ∙ ap (λ (k : LinkedCode). laid_in k way) (c.running.ensures ∙ ap (λ is. book_in t b (reverse is)) c.deref.ensures.value)) in
    let placed = c.turned_place-at.ensures caller end in
    let to_go : c.saturating_sub-cursor.result ≡ block_size (block_in caller (caller_way call.uncalled u.direction)) - 1 - suc
    (call_at caller (caller_way call.uncalled u.direction) call.place) =
    subst (λ w. c.saturating_sub-cursor.result ≡ block_size (block_in caller w) - 1 - suc (call_at caller w call.place)) turned
    (omega (arith, c.saturating_sub-cursor.ensures, c.saturating_sub.ensures, end, placed)) in
    leaves_leads t b u h c.requires.standing call cs calls_are c.requires.ended c.requires.safe
    (record {
      direction = way;
      to_go = c.saturating_sub-cursor.result;
      calls = c.pop.new.self;
      used = call.used;
      count = u.count;
      turned = u.turned;
      room = subst (λ m. 8192 ≤ m) (sym c.in-Some.ensures.capacity) u.room;
    })
    c.unbind.new.self refl turned to_go refl refl c.unbind.ensures ps k known

pub returns-clause-agrees : goal.returns-clause-agrees
returns-clause-agrees g c = λ k a.
    let t = c.args.procedures.now in
    let b = c.args.book.now in
    let u = c.args.cursor.now in
    let h = c.args.store.now in
    let call = c.in-Some.call in
    let cs = reverse c.pop.new.self.items in
    let calls_are : calls_of u ≡ call ∷ cs = ap reverse c.in-Some.ensures.items ∙ reverse-append c.pop.new.self.items (call ∷ []) in
    let way = c.caller_direction-direction.result in
    let turned : way ≡ caller_way call.uncalled u.direction = c.caller_direction-direction.ensures in
    let caller = book_in t b cs in
    let end : c.last-end.result ≡ block_size (block_in caller way) - 1 =
    c.last-end.ensures
    ∙ ap (λ (k : LaidCode). block_size (code_block all_slots k.linear.code) - 1)
    (c.laid-caller.ensures ∙ ap (λ (k : LinkedCode). laid_in k way) (c.running.ensures ∙ ap (λ is. book_in t b (reverse is)) c.deref.ensures.value)) in
    let placed = c.turned_place-at.ensures caller end in
    let to_go : c.saturating_sub-cursor.result ≡ block_size (block_in caller (caller_way call.uncalled u.direction)) - 1 - suc
    (call_at caller (caller_way call.uncalled u.direction) call.place) =
    subst (λ w. c.saturating_sub-cursor.result ≡ block_size (block_in caller w) - 1 - suc (call_at caller w call.place)) turned
    (omega (arith, c.saturating_sub-cursor.ensures, c.saturating_sub.ensures, end, placed)) in
    leaves_agrees t b u h c.requires.standing call cs calls_are c.requires.ended c.requires.safe _ c.unbind.new.self refl turned to_go refl refl
    c.unbind.ensures k a
