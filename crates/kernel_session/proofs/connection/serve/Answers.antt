use Rattle.std.proofs.Common.{List, ℕ, ◌++◌, [], take, inl, inr, sym, ap, ◌∙◌, subst, append-nil, arith}
use Rattle.std.proofs.lemmas.List.{map-append}
use Rattle.std.specs.Io.KnownBytes.{Appends}
use Rattle.zmtp_peer.specs.declared.role.Role.{Role}
use Rattle.zmtp_peer.specs.Opening.{opening_of}
use Rattle.zmtp_peer.specs.Reading.{ending_of}
use Rattle.kernel_session.specs.declared.flow.Flow.TheVariants.{Going, Closed, Worn, OutOfMemory}
use Rattle.exact_write.specs.Sent.{SentSome}
use Rattle.kernel_session.specs.Action.{Sent, sends}
use Rattle.kernel_session.specs.Session.{going, role_of}
use Rattle.kernel_session.proofs.ActsLemmas.{consumes_none, consumes_join, acts_sends, notices_of-sends, told_quiet}
use Rattle.kernel_session.proofs.SessionLemmas.{whole_none, cut_none}
use Rattle.kernel_session.proofs.PieceLemmas.{new_awaits, reads_as, comes_by_piece, stops_by_piece, ends_midway, ends_at_end, whole_end, cut_end}
use Rattle.kernel_session.proofs.connection.serve.Goals as goal

pub returns-in-Err : goal.returns-in-Err
returns-in-Err g c =
    let old = g.W.Write.contents c.args.writer.now in
    let new = g.W.Write.contents c.send_opening.new.writer in
    let role = c.new-peer.ensures.role ∙ c.role.ensures in
    let before = sends (opening_of (role_of c.args.socket)) in
    let p = subst (λ (r : Role). SentSome old new (opening_of r)) role c.in-Err.ensures.err in
    record {
      session = (
        [],
        consumes_none (g.R.Read.remaining c.args.reader.now),
        ends_midway g.W.Write.contents g.D.Desk.leads g.V.Watcher.notices c.args.socket c.args.key.now before c.args.writer.now c.send_opening.new.writer
            c.args.desk.now c.args.desk.now c.args.watcher.now c.args.watcher.now (going c.args.stamp.now) c.args.stamp.now
            [] [] (ending_of c.new-peer.result.state) (g.R.Read.remaining c.args.reader.now) c.in-Err.fault c.in-Err.ensures.midway
            (reads_as c.args.socket [] [] c.new-peer.result c.new-peer.ensures.stands role)
            (cut_none g.W.Write.contents g.D.Desk.leads g.V.Watcher.notices c.args.socket c.args.key.now before (sends p.0) c.args.writer.now
            c.send_opening.new.writer c.args.desk.now c.args.desk.now c.args.watcher.now c.args.watcher.now (going c.args.stamp.now) []
            (told_quiet g.W.Write.contents g.D.Desk.leads g.V.Watcher.notices c.args.writer.now c.send_opening.new.writer c.args.desk.now c.args.desk.now
            c.args.watcher.now (sends p.0) (notices_of-sends p.0)
            (acts_sends g.W.Write.contents g.D.Desk.leads c.args.writer.now c.send_opening.new.writer c.args.desk.now p.0 p.3))
            (sends p.1, ap (λ (x : List ℕ). sends x) p.2 ∙ map-append Sent p.0 p.1)),
      );
    }

pub loop-init : goal.loop-init
loop-init g c =
    let old = g.W.Write.contents c.args.writer.now in
    let new = g.W.Write.contents c.send_opening.new.writer in
    let role = c.new-peer.ensures.role ∙ c.role.ensures in
    let opening = opening_of (role_of c.args.socket) in (
      [],
      [],
      consumes_none (g.R.Read.remaining c.args.reader.now),
      c.new-peer.ensures.stands,
      role,
      new_awaits c.new-peer.result c.new-peer.ensures.stands,
      whole_none g.W.Write.contents g.D.Desk.leads g.V.Watcher.notices c.args.socket c.args.key.now (sends opening) c.args.writer.now
          c.send_opening.new.writer c.args.desk.now c.args.desk.now c.args.watcher.now c.args.watcher.now (going c.args.stamp.now)
          (told_quiet g.W.Write.contents g.D.Desk.leads g.V.Watcher.notices c.args.writer.now c.send_opening.new.writer c.args.desk.now c.args.desk.now
          c.args.watcher.now (sends opening) (notices_of-sends opening)
          (acts_sends g.W.Write.contents g.D.Desk.leads c.args.writer.now c.send_opening.new.writer c.args.desk.now opening
          (subst (λ (r : Role). Appends old new (opening_of r)) role c.in-Ok.ensures.ok))),
    )

pub returns-in-Ok-Closed : goal.returns-in-Ok-Closed
returns-in-Ok-Closed g c =
    let inv = c.loop.invariant in
    let before = sends (opening_of (role_of c.args.socket)) in
    let piece = take c.in-Ok-read.count c.read.new.buf in
    let read = consumes_join _ _ _ inv.0 piece inv.2 c.in-Ok-read.ensures.bytes.0 in
    let role = c.in-Ok-Closed.ensures.role ∙ inv.4 in
    let p = c.in-Ok-Closed.ensures.ok in
    let stands = p.1 inv.0 inv.1 inv.3 in
    let reads = reads_as c.args.socket (inv.0 ++ piece) (inv.1 ++ p.0) c.advance.new.peer stands role in
    let whole = comes_by_piece g.W.Write.contents g.D.Desk.leads g.V.Watcher.notices c.args.socket c.args.key.now before
    c.args.writer.now c.loop.writer c.advance.new.writer
    c.args.desk.now c.loop.desk c.advance.new.desk c.args.watcher.now c.loop.watcher c.advance.new.watcher (going c.args.stamp.now) c.loop.stamp
    c.advance.new.stamp c.loop.peer c.advance.new.peer inv.0 piece inv.1
    inv.6 inv.3 role
    c.in-Ok-Closed.field-0 Closed c.in-Ok-Closed.field-0-is p.0 p.2 in
    record { session = (inv.0 ++ piece, read, (inv.1 ++ p.0, ending_of c.advance.new.peer.state, reads, inr whole)) }

pub returns-in-Ok-Worn : goal.returns-in-Ok-Worn
returns-in-Ok-Worn g c =
    let inv = c.loop.invariant in
    let before = sends (opening_of (role_of c.args.socket)) in
    let piece = take c.in-Ok-read.count c.read.new.buf in
    let read = consumes_join _ _ _ inv.0 piece inv.2 c.in-Ok-read.ensures.bytes.0 in
    let role = c.in-Ok-Worn.ensures.role ∙ inv.4 in
    let p = c.in-Ok-Worn.ensures.ok in
    let stands = p.1 inv.0 inv.1 inv.3 in
    let reads = reads_as c.args.socket (inv.0 ++ piece) (inv.1 ++ p.0) c.advance.new.peer stands role in
    let whole = comes_by_piece g.W.Write.contents g.D.Desk.leads g.V.Watcher.notices c.args.socket c.args.key.now before
    c.args.writer.now c.loop.writer c.advance.new.writer
    c.args.desk.now c.loop.desk c.advance.new.desk c.args.watcher.now c.loop.watcher c.advance.new.watcher (going c.args.stamp.now) c.loop.stamp
    c.advance.new.stamp c.loop.peer c.advance.new.peer inv.0 piece inv.1
    inv.6 inv.3 role
    c.in-Ok-Worn.field-0 Worn c.in-Ok-Worn.field-0-is p.0 p.2 in
    record { session = (inv.0 ++ piece, read, (inv.1 ++ p.0, ending_of c.advance.new.peer.state, reads, inr whole)) }

pub returns-in-Ok-OutOfMemory : goal.returns-in-Ok-OutOfMemory
returns-in-Ok-OutOfMemory g c =
    let inv = c.loop.invariant in
    let before = sends (opening_of (role_of c.args.socket)) in
    let piece = take c.in-Ok-read.count c.read.new.buf in
    let read = consumes_join _ _ _ inv.0 piece inv.2 c.in-Ok-read.ensures.bytes.0 in
    let role = c.in-Ok-OutOfMemory.ensures.role ∙ inv.4 in
    let p = c.in-Ok-OutOfMemory.ensures.ok in
    let stands = p.1 inv.0 inv.1 inv.3 in
    let reads = reads_as c.args.socket (inv.0 ++ piece) (inv.1 ++ p.0) c.advance.new.peer stands role in
    let whole = comes_by_piece g.W.Write.contents g.D.Desk.leads g.V.Watcher.notices c.args.socket c.args.key.now before
    c.args.writer.now c.loop.writer c.advance.new.writer
    c.args.desk.now c.loop.desk c.advance.new.desk c.args.watcher.now c.loop.watcher c.advance.new.watcher (going c.args.stamp.now) c.loop.stamp
    c.advance.new.stamp c.loop.peer c.advance.new.peer inv.0 piece inv.1
    inv.6 inv.3 role
    c.in-Ok-OutOfMemory.field-0 OutOfMemory c.in-Ok-OutOfMemory.field-0-is p.0 p.2 in
    record {
      session = (
        inv.0 ++ piece,
        read,
        inl (inv.0 ++ piece, [], sym (append-nil (inv.0 ++ piece)), (inv.1 ++ p.0, ending_of c.advance.new.peer.state, reads, inl whole)),
      );
    }

pub returns-in-Err-advance : goal.returns-in-Err-advance
returns-in-Err-advance g c =
    let inv = c.loop.invariant in
    let before = sends (opening_of (role_of c.args.socket)) in
    let piece = take c.in-Ok-read.count c.read.new.buf in
    let read = consumes_join _ _ _ inv.0 piece inv.2 c.in-Ok-read.ensures.bytes.0 in
    let role = c.in-Err-advance.ensures.role ∙ inv.4 in
    let stop = stops_by_piece g.W.Write.contents g.D.Desk.leads g.V.Watcher.notices c.args.socket c.args.key.now before
    c.args.writer.now c.loop.writer c.advance.new.writer
    c.args.desk.now c.loop.desk c.advance.new.desk c.args.watcher.now c.loop.watcher c.advance.new.watcher (going c.args.stamp.now) c.loop.stamp
    c.advance.new.stamp c.loop.peer c.advance.new.peer inv.0 piece inv.1
    inv.6 inv.3 role
    (g.R.Read.remaining c.read.new.self) c.in-Err-advance.fault c.in-Err-advance.ensures.err in
    record { session = (inv.0 ++ piece, read, stop) }

pub loop-preserved : goal.loop-preserved
loop-preserved g c =
    let inv = c.loop.invariant in
    let before = sends (opening_of (role_of c.args.socket)) in
    let piece = take c.in-Ok-read.count c.read.new.buf in
    let read = consumes_join _ _ _ inv.0 piece inv.2 c.in-Ok-read.ensures.bytes.0 in
    let role = c.in-Ok-Going.ensures.role ∙ inv.4 in
    let p = c.in-Ok-Going.ensures.ok in
    let stands = p.1 inv.0 inv.1 inv.3 in
    let reads = reads_as c.args.socket (inv.0 ++ piece) (inv.1 ++ p.0) c.advance.new.peer stands role in
    let calm = c.in-Ok-Going.ensures.quiet c.in-Ok-Going.field-0-is inv.0 inv.1 inv.3 in
    let whole = comes_by_piece g.W.Write.contents g.D.Desk.leads g.V.Watcher.notices c.args.socket c.args.key.now before
    c.args.writer.now c.loop.writer c.advance.new.writer
    c.args.desk.now c.loop.desk c.advance.new.desk c.args.watcher.now c.loop.watcher c.advance.new.watcher (going c.args.stamp.now) c.loop.stamp
    c.advance.new.stamp c.loop.peer c.advance.new.peer inv.0 piece inv.1
    inv.6 inv.3 role
    c.in-Ok-Going.field-0 Going c.in-Ok-Going.field-0-is p.0 p.2 in
    (inv.0 ++ piece, inv.1 ++ p.0, read, stands, role, calm, whole)

pub returns-in-Ok-close : goal.returns-in-Ok-close
returns-in-Ok-close g c =
    let inv = c.loop.invariant in
    let before = sends (opening_of (role_of c.args.socket)) in
    let piece = take c.in-Ok-read.count c.read.new.buf in
    let read = consumes_join _ _ _ inv.0 piece inv.2 c.in-Ok-read.ensures.bytes.0 in
    let role = c.in-Ok-Going.ensures.role ∙ inv.4 in
    let p = c.in-Ok-Going.ensures.ok in
    let stands = p.1 inv.0 inv.1 inv.3 in
    let reads = reads_as c.args.socket (inv.0 ++ piece) (inv.1 ++ p.0) c.advance.new.peer stands role in
    let calm = c.in-Ok-Going.ensures.quiet c.in-Ok-Going.field-0-is inv.0 inv.1 inv.3 in
    let whole = comes_by_piece g.W.Write.contents g.D.Desk.leads g.V.Watcher.notices c.args.socket c.args.key.now before
    c.args.writer.now c.loop.writer c.advance.new.writer
    c.args.desk.now c.loop.desk c.advance.new.desk c.args.watcher.now c.loop.watcher c.advance.new.watcher (going c.args.stamp.now) c.loop.stamp
    c.advance.new.stamp c.loop.peer c.advance.new.peer inv.0 piece inv.1
    inv.6 inv.3 role
    c.in-Ok-Going.field-0 Going c.in-Ok-Going.field-0-is p.0 p.2 in
    let q = c.in-Ok-close.ensures.ok (inv.0 ++ piece) (inv.1 ++ p.0) stands in
    let done = whole_end g.W.Write.contents g.D.Desk.leads g.V.Watcher.notices c.args.socket c.args.key.now before
    c.args.writer.now c.advance.new.writer c.close.new.writer
    c.args.desk.now c.advance.new.desk c.close.new.desk c.args.watcher.now c.advance.new.watcher
    (going c.args.stamp.now) c.advance.new.stamp (inv.1 ++ p.0) whole q.0 q.1 q.2 in
    record {
      session = (
        inv.0 ++ piece,
        read,
        (inv.1 ++ p.0, ending_of c.advance.new.peer.state, reads, inl (calm, done, c.in-Ok-read.ensures.bytes.1 c.if-count-eq0.true (omega arith))),
      );
    }

pub returns-in-Err-close : goal.returns-in-Err-close
returns-in-Err-close g c =
    let inv = c.loop.invariant in
    let before = sends (opening_of (role_of c.args.socket)) in
    let piece = take c.in-Ok-read.count c.read.new.buf in
    let read = consumes_join _ _ _ inv.0 piece inv.2 c.in-Ok-read.ensures.bytes.0 in
    let role = c.in-Ok-Going.ensures.role ∙ inv.4 in
    let p = c.in-Ok-Going.ensures.ok in
    let stands = p.1 inv.0 inv.1 inv.3 in
    let reads = reads_as c.args.socket (inv.0 ++ piece) (inv.1 ++ p.0) c.advance.new.peer stands role in
    let calm = c.in-Ok-Going.ensures.quiet c.in-Ok-Going.field-0-is inv.0 inv.1 inv.3 in
    let whole = comes_by_piece g.W.Write.contents g.D.Desk.leads g.V.Watcher.notices c.args.socket c.args.key.now before
    c.args.writer.now c.loop.writer c.advance.new.writer
    c.args.desk.now c.loop.desk c.advance.new.desk c.args.watcher.now c.loop.watcher c.advance.new.watcher (going c.args.stamp.now) c.loop.stamp
    c.advance.new.stamp c.loop.peer c.advance.new.peer inv.0 piece inv.1
    inv.6 inv.3 role
    c.in-Ok-Going.field-0 Going c.in-Ok-Going.field-0-is p.0 p.2 in
    let q = c.in-Err-close.ensures.err (inv.0 ++ piece) (inv.1 ++ p.0) stands in
    let cut = cut_end g.W.Write.contents g.D.Desk.leads g.V.Watcher.notices c.args.socket c.args.key.now before
    c.args.writer.now c.advance.new.writer c.close.new.writer
    c.args.desk.now c.advance.new.desk c.close.new.desk c.args.watcher.now c.advance.new.watcher
    (going c.args.stamp.now) c.advance.new.stamp (inv.1 ++ p.0) whole q.0 q.1 q.2 in
    record {
      session = (
        inv.0 ++ piece,
        read,
        ends_at_end g.W.Write.contents g.D.Desk.leads g.V.Watcher.notices c.args.socket c.args.key.now before c.args.writer.now c.close.new.writer
            c.args.desk.now c.close.new.desk c.args.watcher.now c.advance.new.watcher (going c.args.stamp.now) c.advance.new.stamp
            (inv.0 ++ piece) (inv.1 ++ p.0) (ending_of c.advance.new.peer.state) (g.R.Read.remaining c.read.new.self) c.in-Err-close.fault
            c.in-Err-close.ensures.midway reads (calm, c.in-Ok-read.ensures.bytes.1 c.if-count-eq0.true (omega arith), cut),
      );
    }
