-- What the code finds at the front of a rest: a frame, a part of one, or a fault.
use Rattle.std.proofs.Common.{◌≡◌, ◌≢◌, ℕ, ◌+◌, ◌-◌, ◌<◌, ◌≤◌, List, ◌++◌, length, replicate, take, drop, sym, ap, ◌∙◌, refl, subst, arith, append_assoc}
use Rattle.std.proofs.Common.{length-append, take-append-drop, length-take-le, length-drop, take_all, drop-drop}
use Rattle.std.proofs.Math.Seq.{drop-append-add}
use Rattle.std.proofs.lemmas.List.{length-replicate}
use Rattle.zmtp_wire.specs.declared.header.Header.{Header}
use Rattle.zmtp_wire.specs.declared.tally.Tally.{Tally}
use Rattle.zmtp_wire.specs.declared.fault.WireFault.{WireFault}
use Rattle.zmtp_wire.specs.declared.fault.WireFault.TheVariants.{BadSignature, OldVersion, BadMechanism, ReservedBits, CommandWithMore, TooLong, Memory}
use Rattle.zmtp_wire.specs.Header.{IsHeader}
use Rattle.zmtp_wire.specs.Fronts.{HasHeader, IsHeaderBegun, HasBadFlags}
use Rattle.zmtp_wire.specs.Frame.{Frame}
use Rattle.zmtp_wire.specs.Tally.{Fits, counted}
use Rattle.zmtp_wire.specs.Stream.{Rest, Takes, IsTooLong, IsFaultAt, IsPartial}
use Rattle.zmtp_wire.proofs.Headers.{one_header, begun_or_whole}

-- the same header, its size said otherwise
sized : (head : List ℕ) (h : Header) (n : ℕ) → n ≡ h.size → IsHeader head h → IsHeader head (record { more = h.more; command = h.command; size = n })
sized head h n same header =
    let P : ℕ → Type 0 = λ k. IsHeader head (record { more = h.more; command = h.command; size = k }) in
    subst P (sym same) header

-- a fault of the flags is a fault at the front
pub flags_fault : (fault : WireFault) (octets : List ℕ) (t : Tally) → HasBadFlags octets fault → IsFaultAt (record { octets = octets; tally = t }) fault
flags_fault ReservedBits octets t bad = bad
flags_fault CommandWithMore octets t bad = bad
flags_fault TooLong octets t bad = absurd bad.3
flags_fault BadSignature octets t bad = absurd bad.3
flags_fault OldVersion octets t bad = absurd bad.3
flags_fault BadMechanism octets t bad = absurd bad.3
flags_fault Memory octets t bad = absurd bad.3

-- a part of a header is a part of a frame
pub header_begun : (octets : List ℕ) (t : Tally) → IsHeaderBegun octets → IsPartial (record { octets = octets; tally = t })
header_begun octets t begun =
    let h = begun.whole in
    let body : List ℕ = replicate h.size 0 in
    let some : 0 < length begun.missing = begun.some in
    record {
      missing = begun.missing ++ body;
      some = rw length-append (omega arith);
      frame = record { more = h.more; command = h.command; body = body };
      begun = record {
        head = octets ++ begun.missing;
        spelled = sym (append_assoc octets begun.missing body);
        header = sized (octets ++ begun.missing) h (length body) (length-replicate h.size 0) begun.header;
      };
      fits = λ long. begun_or_whole octets long.0 long.1 begun long.2;
    }

-- a header within the limits has no size that passes them
pub fits_alone : (octets : List ℕ) (t : Tally) (h : Header) (behind : List ℕ) → HasHeader octets h behind → Fits t h →
    ¬ (IsTooLong (record { octets = octets; tally = t }))
fits_alone octets t h behind has fits long =
    let heads = one_header octets h long.0 behind long.1 has long.2 in
    long.3 (subst (λ (k : Header). Fits t k) heads.0 fits)

-- a header and less than its body is a part of a frame
pub body_begun : (octets : List ℕ) (t : Tally) (h : Header) (behind : List ℕ) → HasHeader octets h behind → Fits t h → length behind < h.size →
    IsPartial (record { octets = octets; tally = t })
body_begun octets t h behind has fits few =
    let zeros : List ℕ = replicate (h.size - length behind) 0 in
    let size : length (behind ++ zeros) ≡ h.size = rw (length-append, length-replicate) (omega arith) in
    record {
      missing = zeros;
      some = rw length-replicate (omega arith);
      frame = record { more = h.more; command = h.command; body = behind ++ zeros };
      begun = record {
        head = has.head;
        spelled = ap (λ s. s ++ zeros) has.front ∙ append_assoc has.head behind zeros;
        header = sized has.head h (length (behind ++ zeros)) size has.header;
      };
      fits = fits_alone octets t h behind has fits;
    }

-- a header and its body is a frame
pub frame_whole : (octets : List ℕ) (t u : Tally) (h : Header) (behind body : List ℕ) (n : ℕ) → HasHeader octets h behind → Fits t h → u ≡ counted t h →
    h.size ≤ length behind
    → body ≡ take h.size behind → n ≡ length octets - (length behind - h.size)
    → Takes (record { octets = octets; tally = t }) (record { more = h.more; command = h.command; body = body }) (record { octets = drop n octets; tally = u })
frame_whole octets t u h behind body n has fits after enough is_body is_length =
    let head = has.head in
    let size : length body ≡ h.size = ap length is_body ∙ length-take-le h.size behind enough in
    let lengths : length octets ≡ length head + length behind = ap length has.front ∙ length-append head behind in
    let at : n ≡ length head + h.size = omega arith in
    let parts : behind ≡ body ++ drop h.size behind = sym (take-append-drop h.size behind) ∙ ap (λ s. s ++ drop h.size behind) (sym is_body) in
    let last : drop n octets ≡ drop h.size behind = ap (λ k. drop k octets) at ∙ ap (λ s. drop (length head + h.size) s) has.front
    ∙ drop-append-add head behind h.size in
    let same : h ≡ record { more = h.more; command = h.command; size = length body } = ap (λ k. record h { size = k }) (sym size) in
    record {
      taken = head ++ body;
      front = has.front ∙ ap (λ s. head ++ s) parts ∙ sym (append_assoc head body (drop h.size behind)) ∙ ap (λ s. (head ++ body) ++ s) (sym last);
      frame = record { head = head; spelled = refl; header = sized head h (length body) size has.header };
      fits = subst (λ (k : Header). Fits t k) same fits;
      tally = after ∙ ap (λ (k : Header). counted t k) same;
    }

-- the rest from a place of the buffer on
rest_at : (items slice : List ℕ) (at : ℕ) → slice ≡ items → take (length slice - at) (drop at slice) ≡ drop at items
rest_at items slice at same = take_all (length slice - at) (drop at slice) (omega (arith, length-drop at slice)) ∙ ap (λ s. drop at s) same

-- a fault from a place of the buffer on is one of what is left
pub fault_at : (fault : WireFault) (items slice : List ℕ) (at : ℕ) (t : Tally) (rest : Rest) → slice ≡ items →
    record { octets = drop at items; tally = t } ≡ rest
    → (fault ≢ Memory → IsFaultAt (record { octets = take (length slice - at) (drop at slice); tally = t }) fault) → fault ≢ Memory → IsFaultAt rest fault
fault_at fault items slice at t rest same is given unlike =
    let P : List ℕ → Type 0 = λ o. IsFaultAt (record { octets = o; tally = t }) fault in
    subst (λ (r : Rest). IsFaultAt r fault) is (subst P (rest_at items slice at same) (given unlike))

-- and a frame from there on is a frame of it
pub frame_at : (f : Frame) (items slice : List ℕ) (at n : ℕ) (t u : Tally) (rest : Rest) → slice ≡ items → record { octets = drop at items; tally = t } ≡ rest
    → Takes (record { octets = take (length slice - at) (drop at slice); tally = t }) f
    (record { octets = drop n (take (length slice - at) (drop at slice)); tally = u })
    → Takes rest f (record { octets = drop (at + n) items; tally = u })
frame_at f items slice at n t u rest same is takes =
    let P : List ℕ → Type 0 = λ o. Takes (record { octets = o; tally = t }) f (record { octets = drop n o; tally = u }) in
    let there = subst P (rest_at items slice at same) takes in
    let Q : List ℕ → Type 0 = λ o. Takes (record { octets = drop at items; tally = t }) f (record { octets = o; tally = u }) in
    subst (λ (r : Rest). Takes r f (record { octets = drop (at + n) items; tally = u })) is (subst Q (drop-drop n at items) there)

-- and a part of a frame is one of it
pub partial_at : (items slice : List ℕ) (at : ℕ) (t : Tally) (rest : Rest) → slice ≡ items → record { octets = drop at items; tally = t } ≡ rest
    → IsPartial (record { octets = take (length slice - at) (drop at slice); tally = t }) → IsPartial rest
partial_at items slice at t rest same is partial =
    let P : List ℕ → Type 0 = λ o. IsPartial (record { octets = o; tally = t }) in
    subst (λ (r : Rest). IsPartial r) is (subst P (rest_at items slice at same) partial)
