use Rattle.std.proofs.Common.{inl, refl, rules}
use Rattle.zmtp_peer.proofs.FrameLemmas.{on_ok, not_ok, not_if_ok}
use Rattle.zmtp_peer.proofs.connection.gather.Goals as goal

pub returns-in_err-take_frames : goal.returns-in_err-take_frames
returns-in_err-take_frames c =
    let told = c.from_residual.result in
    let refused = c.from_residual.ensures.0 in
    record {
      taken = not_ok _ told refused;
      empty = not_if_ok _ told refused;
      space = not_if_ok _ told refused;
      room = not_ok _ told refused;
      same = λ q. refl;
      idle = λ q idle. inl idle;
      before = c.take_frames.ensures.before;
      stream = c.take_frames.ensures.room;
      kept = c.take_frames.ensures.kept;
      grows = not_ok _ told refused;
      fresh = c.take_frames.ensures.fresh;
    }

pub returns-in_err-reserve : goal.returns-in_err-reserve
returns-in_err-reserve c =
    let told = c.from_residual-in_err-reserve.result in
    let refused = c.from_residual-in_err-reserve.ensures.0 in
    record {
      taken = not_ok _ told refused;
      empty = not_if_ok _ told refused;
      space = not_if_ok _ told refused;
      room = not_ok _ told refused;
      same = c.reserve.ensures.same;
      idle = rw c.deref.ensures.value at c.reserve.ensures.idle;
      before = c.take_frames.ensures.before;
      stream = c.take_frames.ensures.room;
      kept = c.take_frames.ensures.kept;
      grows = not_ok _ told refused;
      fresh = c.take_frames.ensures.fresh;
    }

pub returns : goal.returns
returns c =
    let told = c.with_capacity.result in
    record {
      taken = on_ok told c.in_ok-take_frames.ensures.taken;
      empty = c.with_capacity.ensures.items;
      space = search rules;
      room = on_ok told (rw (c.deref.ensures.value, c.len-most.ensures) at c.in_ok-reserve.ensures.room);
      same = c.reserve.ensures.same;
      idle = rw c.deref.ensures.value at c.reserve.ensures.idle;
      before = c.take_frames.ensures.before;
      stream = c.take_frames.ensures.room;
      kept = c.take_frames.ensures.kept;
      grows = on_ok told c.in_ok-take_frames.ensures.grows;
      fresh = c.take_frames.ensures.fresh;
    }
