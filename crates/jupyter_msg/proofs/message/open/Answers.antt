use Rattle.std.proofs.Common.{Err, inr, refl, sym, ap, ◌+◌, drop, arith, length, ◌≤◌}
use Rattle.std.proofs.lemmas.List.{take_rest, length-drop, length-map}
use Rattle.std.proofs.lemmas.Result.{err_from_is_err_and}
use Rattle.jupyter_msg.specs.Octets.{octets}
use Rattle.jupyter_msg.proofs.CutLemmas.{none_of, cut_of}
use Rattle.jupyter_msg.proofs.OpenLemmas.{five_after, taken_message, memory_refused, every_message, exactly_refused, judged_refused, refused_at, taken_read}
use Rattle.jupyter_msg.proofs.OpenLemmas.{not_read, not_message, no_delimiter_early, refused_early, passed_early}
use Rattle.jupyter_msg.specs.declared.fault.MsgFault.TheVariants.{NoDelimiter}
use Rattle.jupyter_msg.proofs.message.open.Goals as goal

pub returns-in_default : goal.returns-in_default
returns-in_default c =
    let key = c.args.key.now in
    let frames = octets c.args.frames.items in
    let ok = not_message key frames (Err NoDelimiter) NoDelimiter refl in
    let none = none_of c.args.frames.items (sym (rw c.deref.ensures.value at c.in_default.ensures)) in
    let refused = refused_at key frames (Err NoDelimiter) NoDelimiter refl (inr none) in
    record {
      message = ok;
      read = tt;
      refused = refused;
      every = every_message key frames (Err NoDelimiter) ok refused;
      exactly = exactly_refused key frames
          (Err NoDelimiter) ok refused;
      early = λ fault t q. ap Err (no_delimiter_early key frames none fault q);
    }

pub returns-in_err-read : goal.returns-in_err-read
returns-in_err-read c =
    let key = c.args.key.now in
    let frames = octets c.args.frames.items in
    let p = err_from_is_err_and c.from_residual.result c.from_residual.ensures.1 in
    let cut = cut_of c.args.frames.items c.in-Some.at (sym (rw c.deref.ensures.value at c.in-Some.ensures)) in
    let judged = rw (c.deref-2.ensures.value, take_rest) at c.in_err-read.ensures.refused in
    let early = rw (c.deref-2.ensures.value, take_rest) at c.in_err-read.ensures.early in
    let ok = not_message key frames c.from_residual.result p.0 p.1 in
    let refused = refused_at key frames c.from_residual.result p.0 p.1 (rw p.2 (judged_refused key frames _ _ _ cut judged)) in
    record {
      message = ok;
      read = not_read c.from_residual.result p.0 p.1;
      refused = refused;
      every = every_message key frames c.from_residual.result ok
          refused;
      exactly = exactly_refused key frames c.from_residual.result ok refused;
      early =
          λ fault t q. refused_early key frames _ _ c.from_residual.result _ p.0 fault cut p.1 (rw p.2 refl) (early fault t) q;
    }

pub take_apart-requires : goal.take_apart-requires
take_apart-requires c =
    let frames = c.args.frames.items in
    let at = c.in-Some.at in
    let passed = rw (c.deref-2.ensures.value, take_rest) at c.in_ok-read.ensures.refused in
    let five = five_after c.args.key.now (octets (drop (at + 1) frames)) passed in
    let counted : 5 ≤ length (drop (at + 1) frames) = rw (length-map (drop (at + 1) frames) (λ frame. frame.items)) at five in
    omega (arith, counted, length-drop (at + 1) frames, c.args.frames.ok.0)

pub returns : goal.returns
returns c =
    let key = c.args.key.now in
    let frames = octets c.args.frames.items in
    let cut = cut_of c.args.frames.items c.in-Some.at (sym (rw c.deref.ensures.value at c.in-Some.ensures)) in
    let passed = rw (c.deref-2.ensures.value, take_rest) at c.in_ok-read.ensures.refused in
    let ok = taken_message key frames _ _ c.take_apart.result cut passed c.take_apart.ensures.identities c.take_apart.ensures.after in
    let from = rw (c.deref-2.ensures.value, take_rest) at c.in_ok-read.ensures.read in
    let read = taken_read _ c.in_ok-read.read c.take_apart.result from c.take_apart.ensures.after c.take_apart.ensures.read in
    let refused = memory_refused key frames c.take_apart.result c.take_apart.ensures.memory in
    record {
      message = ok;
      read = read;
      refused = refused;
      every = every_message key frames c.take_apart.result ok refused;
      exactly = exactly_refused key frames
          c.take_apart.result ok refused;
      early = λ fault t q. passed_early key frames _ _ c.take_apart.result cut passed fault q;
    }
