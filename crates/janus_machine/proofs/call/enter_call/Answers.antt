use Rattle.std.proofs.Common.{◌≡◌, ◌-◌, ◌+◌, ◌≤◌, refl, ap, ◌∙◌, sym, subst, arith}
use Rattle.janus_code.specs.CodeBlock.{code_block}
use Rattle.janus_code.specs.Slotted.{all_slots}
use Rattle.janus_linear.specs.Layout.{block_size}
use Rattle.janus_machine.specs.LaidCode.{LaidCode}
use Rattle.janus_machine.specs.Places.{block_in}
use Rattle.janus_machine.specs.Procedures.{in_effect}
use Rattle.janus_machine.specs.Cursors.{book_of}
use Rattle.janus_machine.proofs.Entering.{room_small, too_deep, is_known, can_lend, room_for_call, enters_stands, enters_leads, enters_agrees}
use Rattle.janus_machine.proofs.call.enter_call.Goals as goal

pub returns-then-room_left-cursor-clause-steps : goal.returns-then-room_left-cursor-clause-steps
returns-then-room_left-cursor-clause-steps g c = λ ps k known a.
    let t = c.args.procedures.now in
    let b = c.args.book.now in
    let u = c.args.cursor.now in
    let h = c.args.store.now in
    let here = c.requires.here in
    (too_deep t b u h c.requires.standing c.args.at c.args.room_left here.stm here.here c.if-room_left-cursor.true ps k, refl, refl)

pub unreachable-requires : goal.unreachable-requires
unreachable-requires g c =
    let t = c.args.procedures.now in
    let b = c.args.book.now in
    let u = c.args.cursor.now in
    let h = c.args.store.now in
    let safe = c.requires.safe in
    is_known t b u h c.requires.standing c.args.at c.args.room_left c.args.site c.requires.here c.if-room_left-cursor.false safe.0 safe.1 safe.2 safe.4
    (sym c.body.ensures ∙ ap in_effect c.in_default.is)

pub bind-requires-clause-found : goal.bind-requires-clause-found
bind-requires-clause-found g c =
    can_lend c.args.procedures.now c.args.book.now c.args.cursor.now c.args.store.now c.requires.standing c.args.at c.args.room_left c.args.site c.requires.here
    c.if-room_left-cursor.false c.requires.safe c.in-Some.procedure.now (sym c.in-Some.ensures)

pub bind-requires-clause-room : goal.bind-requires-clause-room
bind-requires-clause-room g c =
    (room_for_call c.args.procedures.now c.args.book.now c.args.cursor.now c.args.store.now c.requires.standing c.args.at c.args.room_left c.args.site
    c.requires.here c.if-room_left-cursor.false c.requires.safe c.in-Some.procedure.now (sym c.in-Some.ensures)).1

pub push_reserved-requires : goal.push_reserved-requires
push_reserved-requires g c =
    let u = c.args.cursor.now in
    let calls =
    (room_for_call c.args.procedures.now c.args.book.now u c.args.store.now c.requires.standing c.args.at c.args.room_left c.args.site
    c.requires.here c.if-room_left-cursor.false c.requires.safe c.in-Some.procedure.now (sym c.in-Some.ensures)).0 in
    omega (arith, calls, u.room, u.calls.ok.0)

pub overflow_sub-cursor-2 : goal.overflow_sub-cursor-2
overflow_sub-cursor-2 g c =
    let here = c.requires.here in
    omega (
      arith,
      room_small c.args.procedures.now c.args.book.now c.args.cursor.now c.args.store.now c.requires.standing c.args.at c.args.room_left here.stm
          here.here,
    )

pub returns-clause-stands : goal.returns-clause-stands
returns-clause-stands g c =
    let t = c.args.procedures.now in
    let b = c.args.book.now in
    let u = c.args.cursor.now in
    let h = c.args.store.now in
    let site = c.args.site in
    let body = c.in-Some.procedure.now in
    let end : c.last-end.result ≡ block_size (block_in (book_of t b u) u.direction) - 1 =
    c.last-end.ensures ∙ ap (λ (k : LaidCode). block_size (code_block all_slots k.linear.code) - 1) c.requires.code in
    let to_go : c.last-cursor.result ≡ block_size (block_in body.book site.way) - 1 =
    c.last-cursor.ensures ∙ ap (λ (k : LaidCode). block_size (code_block all_slots k.linear.code) - 1) c.laid-body.ensures in
    enters_stands t b u h c.requires.standing c.args.at c.args.room_left site c.requires.here c.if-room_left-cursor.false c.requires.safe body
    (sym c.in-Some.ensures) _ c.bind.new.self c.turned_place.result (c.turned_place.ensures (book_of t b u) end) c.is_turned.result
    c.push_reserved.ensures.items c.is_turned.ensures refl to_go refl refl c.bind.ensures

pub returns-clause-steps : goal.returns-clause-steps
returns-clause-steps g c = λ ps k known a.
    let t = c.args.procedures.now in
    let b = c.args.book.now in
    let u = c.args.cursor.now in
    let h = c.args.store.now in
    let site = c.args.site in
    let body = c.in-Some.procedure.now in
    let end : c.last-end.result ≡ block_size (block_in (book_of t b u) u.direction) - 1 =
    c.last-end.ensures ∙ ap (λ (k : LaidCode). block_size (code_block all_slots k.linear.code) - 1) c.requires.code in
    let to_go : c.last-cursor.result ≡ block_size (block_in body.book site.way) - 1 =
    c.last-cursor.ensures ∙ ap (λ (k : LaidCode). block_size (code_block all_slots k.linear.code) - 1) c.laid-body.ensures in
    enters_leads t b u h c.requires.standing c.args.at c.args.room_left site c.requires.here c.if-room_left-cursor.false c.requires.safe body
    (sym c.in-Some.ensures)
    (record {
      direction = site.way;
      to_go = c.last-cursor.result;
      calls = c.push_reserved.new.self;
      used = u.used + (16383 - c.args.room_left) + 2;
      count = u.count;
      turned = u.turned;
      room = subst (λ m. 8192 ≤ m) (sym c.push_reserved.ensures.capacity) u.room;
    })
    c.bind.new.self c.turned_place.result (c.turned_place.ensures (book_of t b u) end) c.is_turned.result
    c.push_reserved.ensures.items c.is_turned.ensures refl to_go refl refl c.bind.ensures ps k known

pub returns-clause-agrees : goal.returns-clause-agrees
returns-clause-agrees g c = λ k a.
    let t = c.args.procedures.now in
    let b = c.args.book.now in
    let u = c.args.cursor.now in
    let h = c.args.store.now in
    let site = c.args.site in
    let body = c.in-Some.procedure.now in
    let end : c.last-end.result ≡ block_size (block_in (book_of t b u) u.direction) - 1 =
    c.last-end.ensures ∙ ap (λ (k : LaidCode). block_size (code_block all_slots k.linear.code) - 1) c.requires.code in
    let to_go : c.last-cursor.result ≡ block_size (block_in body.book site.way) - 1 =
    c.last-cursor.ensures ∙ ap (λ (k : LaidCode). block_size (code_block all_slots k.linear.code) - 1) c.laid-body.ensures in
    enters_agrees t b u h c.requires.standing c.args.at c.args.room_left site c.requires.here c.if-room_left-cursor.false c.requires.safe body
    (sym c.in-Some.ensures) _ c.bind.new.self c.turned_place.result (c.turned_place.ensures (book_of t b u) end) c.is_turned.result
    c.push_reserved.ensures.items c.is_turned.ensures refl to_go refl refl c.bind.ensures k a
