use Rattle.std.proofs.Common.{◌≡◌, ℕ, ◌≤◌, vec_len, ◌+◌, List, [], ◌++◌, ap, sym, subst, ◌∙◌, take, take_all, length, length-append, arith, refl}
use Rattle.std.specs.Vec.{vec_capacity}
use Rattle.std.proofs.lemmas.List.{length-take-le}
use Rattle.std.proofs.lemmas.Result.{err_from_is_err_and}
use Rattle.zmtp_wire.specs.Greeting.{IsGreeting, IsGreetingFault}
use Rattle.zmtp_wire.proofs.Streams.{longer}
use Rattle.zmtp_peer.specs.declared.event.PeerEvent.{PeerEvent}
use Rattle.std.specs.declared.alloc.Global.{Global}
use Rattle.std.specs.declared.vec.Vec.{Vec}
use Rattle.zmtp_peer.specs.declared.fault.PeerFault.{PeerFault}
use Rattle.zmtp_peer.specs.declared.intake.Stage.TheVariants as stage
use Rattle.zmtp_peer.specs.declared.intake.Stage.{Stage}
use Rattle.zmtp_peer.specs.declared.terms.Terms.{Terms}
use Rattle.zmtp_peer.specs.Terms.{terms_of}
use Rattle.zmtp_peer.specs.Faults.{fault_of, Wire, want_of_memory}
use Rattle.zmtp_peer.specs.Events.{Event, Refused, bodies, events_of}
use Rattle.zmtp_peer.specs.Intake.{IsRefusal, state_at}
use Rattle.zmtp_peer.specs.Connection.{ReadsPiece, state_in, room_in}
use Rattle.zmtp_peer.specs.Reading.{PeerState, Brings, ReservesFor, Reserves}
use Rattle.zmtp_peer.proofs.ReadingLemmas.{standing, stands-refused, stands-short, stands-unwelcome, stands-read, stands-on, stands-same}
use Rattle.zmtp_peer.proofs.RoomLemmas.{reserves-none, reserves-fewer, reserves-within, held-count}
use Rattle.zmtp_peer.proofs.RefusalLemmas.{not-refused, refused-anyhow, never-memory, ok-weaker, err-weaker, whole-front, take-whole, welcome-none}
use Rattle.zmtp_peer.proofs.peer.Peer.feed.Goals as goal

pub returns-in-Refused-clause-fault : goal.returns-in-Refused-clause-fault
returns-in-Refused-clause-fault c =
    let is : c.args.self.now.state ≡ Refused (fault_of c.in-Refused.fault) =
    ap (λ (s : PeerState). s.state) (sym c.self.view_is)
    ∙ ap (λ (at : Stage). state_at at (bodies c.self.inside.connection.intake.held.items)) c.in-Refused.is in
    (λ _. (stands-refused c.args.self.now (fault_of c.in-Refused.fault) c.args.piece.now is, is))

pub returns-in_err-events : goal.returns-in_err-events
returns-in_err-events c =
    let inside = c.self.inside in
    let kept = inside.connection in
    let greeting : List ℕ = take inside.greeted inside.greeting in
    let new = c.read.new.self in
    let table = kept.counts in
    let going : ¬ (IsRefusal (state_in kept)) = not-refused kept.intake.stage (bodies kept.intake.held.items) c.in_default.not-Refused in
    let after : PeerState = standing inside.role greeting (state_in new) new.decoder.rest new.counts (room_in new) in
    let unread = c.in_err-events.ensures.unread in
    let same : state_in new ≡ state_in kept = ap (λ (at : Stage). state_at at (bodies new.intake.held.items)) unread.stage
    ∙ ap (state_at kept.intake.stage) unread.held in
    let brings = stands-same inside.role greeting (state_in kept) kept.decoder.rest table (room_in kept) greeting (state_in new) new.decoder.rest new.counts
    (room_in new) refl same unread.rest c.in_err-events.ensures.uncounted in
    let p = err_from_is_err_and c.from_residual.result c.from_residual.ensures.1 in
    rw (p.1, p.2) (record {
      role = ap (λ (s : PeerState). s.role) c.self.view_is;
      events = tt;
      quiet = tt;
      fault = λ not. absurd (not refl);
      memory = λ _. subst (λ (s : PeerState). Brings s [] [] after) c.self.view_is brings;
      stays = λ fault is. absurd (going (subst IsRefusal (sym is ∙ ap (λ (s : PeerState). s.state) (sym c.self.view_is)) tt));
      given_back = c.read.ensures.given_back;
      room = tt;
      fault_room = λ not. absurd (not refl);
    })

pub returns-then-self-eq-GREETING_LENGTH : goal.returns-then-self-eq-GREETING_LENGTH
returns-then-self-eq-GREETING_LENGTH c =
    let inside = c.self.inside in
    let kept = inside.connection in
    let now = c.args.self.now in
    let piece = c.args.piece.now in
    let greeting : List ℕ = take inside.greeted inside.greeting in
    let new = c.read.new.self in
    let table = kept.counts in
    let going : ¬ (IsRefusal (state_in kept)) = not-refused kept.intake.stage (bodies kept.intake.held.items) c.in_default.not-Refused in
    let after : PeerState = standing inside.role greeting (state_in new) new.decoder.rest new.counts (room_in new) in
    let complete : length greeting ≡ 64 = length-take-le inside.greeted inside.greeting (omega (arith, c.self.told, c.self.invariant.0))
    ∙ c.if-self-eq-GREETING_LENGTH.true in
    let events = c.in_ok-events.events in
    let whole : take inside.greeted inside.greeting ≡ inside.greeting =
    take_all inside.greeted inside.greeting (omega (arith, c.of-terms.ensures.size, c.if-self-eq-GREETING_LENGTH.true)) in
    let read = subst
    (λ (terms : Terms). ReadsPiece terms (longer kept.decoder.rest piece) (state_in kept) new.decoder.rest (state_in new) (events_of events.items))
    (c.of-terms.ensures.terms ∙ ap (terms_of inside.role) (sym whole)) c.in_ok-events.ensures.read in
    let brings = stands-on inside.role greeting (state_in kept) kept.decoder.rest table (room_in kept) piece greeting (state_in new) new.decoder.rest new.counts
    (room_in new) (events_of events.items) refl complete going read c.in_ok-events.ensures.counted in
    let here : Brings now piece (events_of events.items) after =
    subst (λ (s : PeerState). Brings s piece (events_of events.items) after) c.self.view_is brings in
    let reached : (fault : PeerFault) → new.intake.stage ≡ stage.Refused fault → state_in new ≡ Refused (fault_of fault) =
    λ fault h. ap (λ (at : Stage). state_at at (bodies new.intake.held.items)) h in
    let count = held-count kept.intake.stage kept.intake.held c.self.invariant.1.0 going in
    let reserved : Reserves piece now after (vec_capacity events) =
    subst (λ (s : PeerState). Reserves piece s after (vec_capacity events)) c.self.view_is
    (subst (λ (n : ℕ). ReservesFor (length kept.decoder.rest.octets + length piece) n (room_in kept) (room_in new) (vec_capacity events))
    count c.in_ok-events.ensures.room) in
    record {
      role = ap (λ (s : PeerState). s.role) c.self.view_is;
      events = ok-weaker c.answer.result (λ told. told ≡ events) (λ told. Brings now piece (events_of told.items) after)
          (λ told is. subst (λ (es : Vec PeerEvent Global). Brings now piece (events_of es.items) after) (sym is) here) c.answer.ensures.events;
      quiet = ok-weaker c.answer.result (λ told. events_of told.items ≡ [] → ¬ (IsRefusal (state_at new.intake.stage [])))
          (λ told. events_of told.items ≡ [] → ¬ (IsRefusal (state_in new)))
          (λ told h none refusal. h none (refused-anyhow new.intake.stage (bodies new.intake.held.items) [] refusal)) c.answer.ensures.quiet;
      fault = err-weaker c.answer.result (λ fault. (events.items ≡ []) × (new.intake.stage ≡ stage.Refused fault))
          (λ fault. ¬ (fault_of fault ≡ want_of_memory) → Brings now piece [] after × (state_in new ≡ Refused (fault_of fault)))
          (λ fault h _. (subst (λ (es : List Event). Brings now piece es after) (ap events_of h.0) here, reached fault h.1)) c.answer.ensures.fault;
      memory = err-weaker c.answer.result (λ fault. (events.items ≡ []) × (new.intake.stage ≡ stage.Refused fault))
          (λ fault. fault_of fault ≡ want_of_memory → Brings now [] [] after)
          (λ fault h is. absurd
          (never-memory c.of-terms.result (longer kept.decoder.rest piece) new.decoder.rest (state_in kept) (state_in new) (events_of events.items)
          c.in_ok-events.ensures.read going (reached fault h.1 ∙ ap Refused is))) c.answer.ensures.fault;
      stays = λ fault is. absurd (going (subst IsRefusal (sym is ∙ ap (λ (s : PeerState). s.state) (sym c.self.view_is)) tt));
      given_back = c.read.ensures.given_back;
      room = ok-weaker c.answer.result (λ told. told ≡ events) (λ told. Reserves piece now after (vec_capacity told))
          (λ told is. subst (λ (es : Vec PeerEvent Global). Reserves piece now after (vec_capacity es)) (sym is) reserved) c.answer.ensures.events;
      fault_room = err-weaker c.answer.result (λ fault. (events.items ≡ []) × (new.intake.stage ≡ stage.Refused fault))
          (λ fault. ¬ (fault_of fault ≡ want_of_memory) → Reserves piece now after 0)
          (λ fault h _. reserves-fewer _ _ now.room (room_in new) (vec_capacity events) reserved) c.answer.ensures.fault;
    }

pub returns-then-piece-missing : goal.returns-then-piece-missing
returns-then-piece-missing c =
    let inside = c.self.inside in
    let kept = inside.connection in
    let greeting : List ℕ = take inside.greeted inside.greeting in
    let now : List ℕ = take (inside.greeted + length c.args.piece.now) c.write_at.new.greeting in
    let table = kept.counts in
    let going : ¬ (IsRefusal (state_in kept)) = not-refused kept.intake.stage (bodies kept.intake.held.items) c.in_default.not-Refused in
    let after : PeerState = standing inside.role now (state_in kept) kept.decoder.rest table (room_in kept) in
    let brings = stands-short inside.role greeting (state_in kept) kept.decoder.rest table (room_in kept) c.args.piece.now now c.write_at.ensures.written
    (omega (
      arith,
      ap length c.write_at.ensures.written,
      length-append greeting c.args.piece.now,
      length-take-le inside.greeted inside.greeting (omega (arith, c.self.told, c.self.invariant.0)),
      c.if-piece-missing.true,
    )) going in
    record {
      role = ap (λ (s : PeerState). s.role) c.self.view_is;
      events = subst (λ (s : PeerState). Brings s c.args.piece.now (events_of c.new.result.items) after) c.self.view_is
          (subst (λ (es : List PeerEvent). Brings (standing inside.role greeting (state_in kept) kept.decoder.rest table (room_in kept)) c.args.piece.now
          (events_of es) after) (sym c.new.ensures.items) brings);
      quiet = λ _. going;
      fault = tt;
      memory = tt;
      stays = λ fault is. absurd (going (subst IsRefusal (sym is ∙ ap (λ (s : PeerState). s.state) (sym c.self.view_is)) tt));
      given_back = c.self.invariant.1.2;
      room = subst (λ (s : PeerState). Reserves c.args.piece.now s after (vec_capacity c.new.result)) c.self.view_is
          (subst (λ (n : ℕ). Reserves c.args.piece.now (standing inside.role greeting (state_in kept) kept.decoder.rest table (room_in kept)) after n)
          (sym c.new.ensures.capacity) (reserves-none _ _ (room_in kept)));
      fault_room = tt;
    }

pub returns-in-Err : goal.returns-in-Err
returns-in-Err c =
    let inside = c.self.inside in
    let kept = inside.connection in
    let greeting : List ℕ = take inside.greeted inside.greeting in
    let front = c.split_at.result.0.now in
    let stream = c.split_at.result.1.now in
    let filled = c.write_at-2.new.greeting in
    let table = kept.counts in
    let going : ¬ (IsRefusal (state_in kept)) = not-refused kept.intake.stage (bodies kept.intake.held.items) c.in_default.not-Refused in
    let after : PeerState = standing inside.role (take 64 filled) (Refused (Wire c.in-Err.fault)) kept.decoder.rest table (room_in kept) in
    let all : take 64 filled ≡ filled = take-whole filled c.write_at-2.ensures.size in
    let size : length (take 64 filled) ≡ 64 = ap length all ∙ c.write_at-2.ensures.size in
    let written : take 64 filled ≡ greeting ++ front =
    whole-front filled inside.greeting front inside.greeted c.write_at-2.ensures.written
    (omega (arith, c.split_at.ensures.front_len, c.self.invariant.0)) in
    let brings = stands-unwelcome inside.role greeting (state_in kept) kept.decoder.rest table (room_in kept) front stream (take 64 filled)
    c.in-Err.fault written size
    (subst (λ (o : List ℕ). IsGreetingFault o c.in-Err.fault) (sym all) c.in-Err.ensures.fault) going in
    record {
      role = ap (λ (s : PeerState). s.role) c.self.view_is;
      events = tt;
      quiet = tt;
      fault = λ _. (
        subst (λ (s : PeerState). Brings s c.args.piece.now [] after) c.self.view_is
            (subst (λ (o : List ℕ). Brings (standing inside.role greeting (state_in kept) kept.decoder.rest table (room_in kept)) o [] after)
            (sym c.split_at.ensures.by_index.0) brings),
        refl,
      );
      memory = λ is. absurd (welcome-none filled c.in-Err.fault c.in-Err.ensures.fault is);
      stays = λ fault is. absurd (going (subst IsRefusal (sym is ∙ ap (λ (s : PeerState). s.state) (sym c.self.view_is)) tt));
      given_back = c.self.invariant.1.2;
      room = tt;
      fault_room = λ _. subst (λ (s : PeerState). Reserves c.args.piece.now s after 0) c.self.view_is (reserves-none _ _ (room_in kept));
    }

pub returns-in_err-first : goal.returns-in_err-first
returns-in_err-first c =
    let inside = c.self.inside in
    let kept = inside.connection in
    let greeting : List ℕ = take inside.greeted inside.greeting in
    let filled = c.write_at-2.new.greeting in
    let new = c.read-3.new.self in
    let unread = c.in_err-first.ensures.unread in
    let table = kept.counts in
    let going : ¬ (IsRefusal (state_in kept)) = not-refused kept.intake.stage (bodies kept.intake.held.items) c.in_default.not-Refused in
    let after : PeerState = standing inside.role (take inside.greeted filled) (state_in new) new.decoder.rest new.counts (room_in new) in
    let same : state_in new ≡ state_in kept = ap (λ (at : Stage). state_at at (bodies new.intake.held.items)) unread.stage
    ∙ ap (state_at kept.intake.stage) unread.held in
    let brings = stands-same inside.role greeting (state_in kept) kept.decoder.rest table (room_in kept) (take inside.greeted filled) (state_in new)
    new.decoder.rest new.counts (room_in new)
    c.write_at-2.ensures.before same unread.rest c.in_err-first.ensures.uncounted in
    let p = err_from_is_err_and c.from_residual-in_err-first.result c.from_residual-in_err-first.ensures.1 in
    rw (p.1, p.2) (record {
      role = ap (λ (s : PeerState). s.role) c.self.view_is;
      events = tt;
      quiet = tt;
      fault = λ not. absurd (not refl);
      memory = λ _. subst (λ (s : PeerState). Brings s [] [] after) c.self.view_is brings;
      stays = λ fault is. absurd (going (subst IsRefusal (sym is ∙ ap (λ (s : PeerState). s.state) (sym c.self.view_is)) tt));
      given_back = c.read-3.ensures.given_back;
      room = tt;
      fault_room = λ not. absurd (not refl);
    })

pub returns : goal.returns
returns c =
    let inside = c.self.inside in
    let kept = inside.connection in
    let now = c.args.self.now in
    let greeting : List ℕ = take inside.greeted inside.greeting in
    let front = c.split_at.result.0.now in
    let stream = c.split_at.result.1.now in
    let filled = c.write_at-2.new.greeting in
    let new = c.read-3.new.self in
    let events = c.in_ok-first.first in
    let table = kept.counts in
    let going : ¬ (IsRefusal (state_in kept)) = not-refused kept.intake.stage (bodies kept.intake.held.items) c.in_default.not-Refused in
    let after : PeerState = standing inside.role (take 64 filled) (state_in new) new.decoder.rest new.counts (room_in new) in
    let all : take 64 filled ≡ filled = take-whole filled c.write_at-2.ensures.size in
    let size : length (take 64 filled) ≡ 64 = ap length all ∙ c.write_at-2.ensures.size in
    let written : take 64 filled ≡ greeting ++ front =
    whole-front filled inside.greeting front inside.greeted c.write_at-2.ensures.written
    (omega (arith, c.split_at.ensures.front_len, c.self.invariant.0)) in
    let read = subst
    (λ (terms : Terms). ReadsPiece terms (longer kept.decoder.rest stream) (state_in kept) new.decoder.rest (state_in new) (events_of events.items))
    (c.of-terms-2.ensures.terms ∙ ap (terms_of inside.role) (sym all)) c.in_ok-first.ensures.read in
    let brings = stands-read inside.role greeting (state_in kept) kept.decoder.rest table (room_in kept) front stream (take 64 filled) c.in_default-read.field-0
    (state_in new) new.decoder.rest new.counts (room_in new) (events_of events.items)
    written size (subst (λ (o : List ℕ). IsGreeting o c.in_default-read.field-0) (sym all) c.in_default-read.ensures.greeting)
    going read c.in_ok-first.ensures.counted in
    let here : Brings now c.args.piece.now (events_of events.items) after =
    subst (λ (s : PeerState). Brings s c.args.piece.now (events_of events.items) after) c.self.view_is
    (subst (λ (o : List ℕ). Brings (standing inside.role greeting (state_in kept) kept.decoder.rest table (room_in kept)) o (events_of events.items) after)
    (sym c.split_at.ensures.by_index.0) brings) in
    let reached : (fault : PeerFault) → new.intake.stage ≡ stage.Refused fault → state_in new ≡ Refused (fault_of fault) =
    λ fault h. ap (λ (at : Stage). state_at at (bodies new.intake.held.items)) h in
    let piece = c.args.piece.now in
    let less : length kept.decoder.rest.octets + length stream ≤ length kept.decoder.rest.octets + length piece =
    omega (arith, ap length c.split_at.ensures.by_index.0, length-append front stream) in
    let count = held-count kept.intake.stage kept.intake.held c.self.invariant.1.0 going in
    let reserved : Reserves piece now after (vec_capacity events) =
    subst (λ (s : PeerState). Reserves piece s after (vec_capacity events)) c.self.view_is
    (subst (λ (n : ℕ). ReservesFor (length kept.decoder.rest.octets + length piece) n (room_in kept) (room_in new) (vec_capacity events)) count
    (reserves-within (length kept.decoder.rest.octets + length stream) (length kept.decoder.rest.octets + length piece) (vec_len kept.intake.held)
    (room_in kept) (room_in new) (vec_capacity events) c.in_ok-first.ensures.room less)) in
    record {
      role = ap (λ (s : PeerState). s.role) c.self.view_is;
      events = ok-weaker c.answer-2.result (λ told. told ≡ events) (λ told. Brings now c.args.piece.now (events_of told.items) after)
          (λ told is. subst (λ (es : Vec PeerEvent Global). Brings now c.args.piece.now (events_of es.items) after) (sym is) here) c.answer-2.ensures.events;
      quiet = ok-weaker c.answer-2.result (λ told. events_of told.items ≡ [] → ¬ (IsRefusal (state_at new.intake.stage [])))
          (λ told. events_of told.items ≡ [] → ¬ (IsRefusal (state_in new)))
          (λ told h none refusal. h none (refused-anyhow new.intake.stage (bodies new.intake.held.items) [] refusal)) c.answer-2.ensures.quiet;
      fault = err-weaker c.answer-2.result (λ fault. (events.items ≡ []) × (new.intake.stage ≡ stage.Refused fault))
          (λ fault. ¬ (fault_of fault ≡ want_of_memory) → Brings now c.args.piece.now [] after × (state_in new ≡ Refused (fault_of fault)))
          (λ fault h _. (subst (λ (es : List Event). Brings now c.args.piece.now es after) (ap events_of h.0) here, reached fault h.1))
          c.answer-2.ensures.fault;
      memory = err-weaker c.answer-2.result (λ fault. (events.items ≡ []) × (new.intake.stage ≡ stage.Refused fault))
          (λ fault. fault_of fault ≡ want_of_memory → Brings now [] [] after)
          (λ fault h is. absurd
          (never-memory c.of-terms-2.result (longer kept.decoder.rest stream) new.decoder.rest (state_in kept) (state_in new) (events_of events.items)
          c.in_ok-first.ensures.read going (reached fault h.1 ∙ ap Refused is))) c.answer-2.ensures.fault;
      stays = λ fault is. absurd (going (subst IsRefusal (sym is ∙ ap (λ (s : PeerState). s.state) (sym c.self.view_is)) tt));
      given_back = c.read-3.ensures.given_back;
      room = ok-weaker c.answer-2.result (λ told. told ≡ events) (λ told. Reserves piece now after (vec_capacity told))
          (λ told is. subst (λ (es : Vec PeerEvent Global). Reserves piece now after (vec_capacity es)) (sym is) reserved) c.answer-2.ensures.events;
      fault_room = err-weaker c.answer-2.result (λ fault. (events.items ≡ []) × (new.intake.stage ≡ stage.Refused fault))
          (λ fault. ¬ (fault_of fault ≡ want_of_memory) → Reserves piece now after 0)
          (λ fault h _. reserves-fewer _ _ now.room (room_in new) (vec_capacity events) reserved) c.answer-2.ensures.fault;
    }
