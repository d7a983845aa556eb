use Rattle.std.proofs.Common.{ap, refl, sym, subst, arith, length, ◌+◌, ◌≡◌, ◌≤◌, ◌*◌, [], List, ◌∙◌, IfOk}
use Rattle.std.specs.Prelude.{max, vec_len}
use Rattle.std.specs.Vec.{vec_capacity}
use Rattle.std.proofs.lemmas.List.{length-append}
use Rattle.zmtp_wire.specs.Stream.{Rest}
use Rattle.zmtp_wire.specs.Decoding.{Decoding, fed, SameButRoom}
use Rattle.zmtp_peer.specs.declared.event.PeerEvent.{PeerEvent}
use Rattle.zmtp_peer.specs.Events.{events_of}
use Rattle.zmtp_peer.specs.Subscriptions.{count_in, counted_all}
use Rattle.zmtp_peer.specs.Connection.{ReadsPiece, state_in, room_in}
use Rattle.zmtp_peer.proofs.FeedLemmas.{at_ok, at_err, if_ok, ends-partial, unread, reserves-fed}
use Rattle.zmtp_peer.proofs.GivingBack.{fed_gives_back}
use Rattle.zmtp_peer.proofs.connection.Connection.read.Goals as goal

pub read_frames-requires : goal.read_frames-requires
read_frames-requires c = record {
  connection = (
    c.requires.connection.0,
    c.requires.connection.1,
    fed_gives_back c.feed.result c.args.self.now.decoder c.feed.new.self c.args.piece.now (sym c.is_err.ensures.value ∙ c.if-is_err.false)
        c.feed.ensures.fed c.feed.ensures.given_back,
    c.requires.connection.3,
  );
  going = c.requires.going;
}

pub returns-then-is_err : goal.returns-then-is_err
returns-then-is_err c =
    let old = c.args.self.now.decoder in
    let broken = sym c.is_err.ensures.value ∙ c.if-is_err.true in
    let same : SameButRoom (fed old []) c.feed.new.self = at_err _ c.feed.result broken c.feed.ensures.nothing in
    record {
      read = tt;
      counted = tt;
      unread = record { rest = c.take_back.ensures.rest ∙ ap (λ (d : Decoding). d.before) same; stage = refl; held = refl };
      uncounted = λ q. refl;
      opening = c.requires.connection.0;
      tidy = c.requires.connection.1;
      given_back = c.take_back.ensures.given_back;
      brought = c.requires.connection.3;
      room = tt;
    }

pub returns-then-is_partial : goal.returns-then-is_partial
returns-then-is_partial c =
    let self = c.args.self.now in
    let fine = sym c.is_err.ensures.value ∙ c.if-is_err.false in
    let same : SameButRoom (fed self.decoder c.args.piece.now) c.feed.new.self = at_ok _ c.feed.result fine c.feed.ensures.fed in
    record {
      read = record {
        frames = [];
        left = ap (λ (d : Decoding). d.rest) same;
        told = ap events_of c.new.ensures.items;
        ends = ends-partial (state_in self) c.feed.new.self.rest (c.is_partial.ensures.0 c.if-is_partial.true);
      };
      counted = λ q. sym (ap (λ (events : List PeerEvent). counted_all q (count_in self.counts q) (events_of events)) c.new.ensures.items);
      unread = tt;
      uncounted = tt;
      opening = c.requires.connection.0;
      tidy = c.requires.connection.1;
      given_back = fed_gives_back c.feed.result self.decoder c.feed.new.self c.args.piece.now fine c.feed.ensures.fed c.feed.ensures.given_back;
      brought = c.requires.connection.3;
      room = record {
        stream = at_ok _ c.feed.result fine c.feed.ensures.room;
        held = omega arith;
        told = omega (arith, c.new.ensures.capacity);
      };
    }

pub returns : goal.returns
returns c =
    let self = c.args.self.now in
    let piece = c.args.piece.now in
    let frames = c.read_frames in
    let new = frames.new.self in
    let fine = sym c.is_err.ensures.value ∙ c.if-is_err.false in
    let same : SameButRoom (fed self.decoder piece) c.feed.new.self = at_ok _ c.feed.result fine c.feed.ensures.fed in
    let rest : c.feed.new.self.rest ≡ (fed self.decoder piece).rest = ap (λ (d : Decoding). d.rest) same in
    let came : length c.feed.new.self.rest.octets ≡ length self.decoder.rest.octets + length piece =
    ap (λ (r : Rest). length r.octets) rest ∙ length-append self.decoder.rest.octets piece in
    let room : c.feed.new.self.room ≤ max self.decoder.room (4 * (length self.decoder.rest.octets + length piece)) =
    at_ok _ c.feed.result fine c.feed.ensures.room in
    record {
      read = subst (λ (r : Rest). IfOk frames.result
          (λ events. ReadsPiece c.args.terms r (state_in self) new.decoder.rest (state_in new) (events_of events.items))) rest frames.ensures.read;
      counted = frames.ensures.counted;
      unread = unread frames.result self new c.feed.new.self.before (ap (λ (d : Decoding). d.before) same) frames.ensures.rest frames.ensures.stage
          frames.ensures.held;
      uncounted = frames.ensures.uncounted;
      opening = frames.ensures.opening;
      tidy = frames.ensures.tidy;
      given_back = frames.ensures.given_back;
      brought = frames.ensures.brought;
      room = if_ok _ _ frames.result
          (λ events. reserves-fed (length c.feed.new.self.rest.octets) (length self.decoder.rest.octets + length piece) (vec_len self.intake.held)
          (room_in self) (record (room_in self) { octets = c.feed.new.self.room }) (room_in new) (vec_capacity events) came room refl)
          frames.ensures.room;
    }
