-- Each stream is read: at the front of a rest stands a frame, a part of one or a fault.
use Rattle.std.proofs.Common.{◌≡◌, inl, inr, ℕ, zero, suc, ◌+◌, ◌<◌, ◌≤◌, Bool, true, false, ◌&&◌, List, [], ◌∷◌, ◌++◌, length, take, drop, All, sym, ap, ◌∙◌}
use Rattle.std.proofs.Common.{refl, subst, arith, length-append, length-drop, take-append-drop}
use Rattle.std.proofs.lemmas.Bool.{cases_lt}
use Rattle.std.proofs.lemmas.List.{get_or_past}
use Rattle.std.specs.Int.{w64, from_be_bytes}
use Rattle.zmtp_wire.specs.declared.header.Header.{Header}
use Rattle.zmtp_wire.specs.declared.tally.Tally.{Tally}
use Rattle.zmtp_wire.specs.declared.fault.WireFault.{WireFault}
use Rattle.zmtp_wire.specs.declared.fault.WireFault.TheVariants.{ReservedBits, CommandWithMore, TooLong}
use Rattle.zmtp_wire.specs.Header.{flags, size_octets, size_bound}
use Rattle.zmtp_wire.specs.Fronts.{HasHeader, IsHeaderBegun, HasBadFlags}
use Rattle.zmtp_wire.specs.Frame.{Frame}
use Rattle.zmtp_wire.specs.Tally.{Fits, counted, counted_with, octet_limit, frame_limit}
use Rattle.zmtp_wire.specs.Stream.{Rest, whole, Takes, End, Open, Faulty, EndsIn, ReadsFrom}
use Rattle.zmtp_wire.specs.Laws.{EveryStreamIsRead}
use Rattle.zmtp_wire.proofs.Octets.{flags_read, flags_with, size_bounded, length-eight_octets, AreOctets, are_octets_behind, are_octets_front}
use Rattle.zmtp_wire.proofs.Sizes.{long_front}
use Rattle.zmtp_wire.proofs.Headers.{begun-nothing, begun-read, header-read}
use Rattle.zmtp_wire.proofs.Taking.{flags_fault, header_begun, body_begun, frame_whole}

-- what stands at the front, apart from the limits
data Front (octets : List ℕ) : Type 0 where
  begun : IsHeaderBegun octets → Front octets
  faulty : (fault : WireFault) → HasBadFlags octets fault → Front octets
  headed : (h : Header) (behind : List ℕ) → HasHeader octets h behind → Front octets

-- a size at the front, where there are enough octets for one
size_front : (l : Bool) (octets : List ℕ) → AreOctets octets → length (size_octets l 0) ≤ length octets
    → (n : ℕ) × (behind : List ℕ) × (octets ≡ size_octets l n ++ behind) × (n < size_bound l)
size_front false [] each enough = absurd (omega arith)
size_front false (x ∷ behind) each enough = (x, behind, refl, each 0)
size_front true octets each enough =
    let eight : 8 ≤ length octets = omega (arith, length-eight_octets 0) in
    let lengths : length (drop 8 octets) + 8 ≡ length octets = omega (arith, length-drop 8 octets) in
    let first : AreOctets (take 8 octets) = are_octets_front (take 8 octets) (drop 8 octets) (subst AreOctets (sym (take-append-drop 8 octets)) each) in (
      from_be_bytes w64 (take 8 octets),
      drop 8 octets,
      long_front true octets (take 8 octets) (drop 8 octets) _ refl refl refl lengths each refl,
      size_bounded (take 8 octets) first,
    )

-- behind flags that are allowed
allowed_front : (octets behind : List ℕ) (first : ℕ) (m l c : Bool) → octets ≡ first ∷ behind → AreOctets octets → first ≡ flags m l c → (c && m) ≡ false →
    Front octets
allowed_front octets behind first m l c e each bits allowed =
    elim (cases_lt (length behind) (length (size_octets l 0))) [
      | inl few ↦ begun (begun-read octets first behind m l c e each bits allowed few)
      | inr enough ↦
          let size = size_front l behind (λ i. subst AreOctets e each (suc i)) enough in
          headed (record { more = m; command = c; size = size.0 }) size.1 (header-read octets first behind m l c size.0 size.1 e bits allowed size.2 size.3)
    ]

both_set : (c m : Bool) → (c && m) ≡ true → (c ≡ true) × (m ≡ true)
both_set true true e = (refl, refl)
both_set true false e = cc
both_set false m e = cc

flags_front : (octets behind : List ℕ) (first : ℕ) (m l c both : Bool) → octets ≡ first ∷ behind → AreOctets octets → first ≡ flags m l c → (c && m) ≡ both →
    Front octets
flags_front octets behind first m l c false e each bits allowed = allowed_front octets behind first m l c e each bits allowed
flags_front octets behind first m l c true e each bits both =
    let set = both_set c m both in
    faulty CommandWithMore (first, behind, e, (l, flags_with first m l c bits set.1 set.0))

front_of : (octets : List ℕ) → AreOctets octets → Front octets
front_of [] each = begun (begun-nothing [] refl)
front_of (first ∷ behind) each =
    elim (cases_lt first 8) [
      | inl small ↦ flags_front (first ∷ behind) behind first _ _ _ _ refl each (flags_read first (omega arith)) refl
      | inr large ↦ faulty ReservedBits (first, behind, refl, large)
    ]

-- a frame, or an end
data Next (rest : Rest) : Type 0 where
  takes : (f : Frame) (behind : Rest) → Takes rest f behind → Next rest
  ends : (end : End) → EndsIn rest end → Next rest

headed_next : (octets behind : List ℕ) (t : Tally) (h : Header) → HasHeader octets h behind → Fits t h → Next (record { octets = octets; tally = t })
headed_next octets behind t h has fits =
    elim (cases_lt (length behind) h.size) [
      | inl few ↦ ends (Open octets) (refl, body_begun octets t h behind has fits few)
      | inr enough ↦ takes _ _ (frame_whole octets t (counted t h) h behind (take h.size behind) _ has fits refl enough refl refl)
    ]

too_long_next : (octets behind : List ℕ) (t : Tally) (h : Header) → HasHeader octets h behind → ¬ (Fits t h) → Next (record { octets = octets; tally = t })
too_long_next octets behind t h has unfit = ends (Faulty TooLong) (h, behind, has, unfit)

next_of : (octets : List ℕ) (t : Tally) → Front octets → Next (record { octets = octets; tally = t })
next_of octets t (begun part) = ends (Open octets) (refl, header_begun octets t part)
next_of octets t (faulty fault bad) = ends (Faulty fault) (flags_fault fault octets t bad)
next_of octets t (headed h behind has) =
    elim (cases_lt octet_limit ((counted_with t h).octets + h.size)) [
      | inl large ↦ too_long_next octets behind t h has (λ fits. let small = fits.octets in omega arith)
      | inr small ↦ elim (cases_lt (counted_with t h).frames frame_limit) [
        | inl few ↦ headed_next octets behind t h has (record { octets = small; frames = few })
        | inr many ↦ too_long_next octets behind t h has (λ fits. let few = fits.frames in omega arith)
      ]
    ]

-- a frame takes some octets
takes_some : (rest : Rest) (f : Frame) (behind : Rest) → Takes rest f behind → length behind.octets < length rest.octets
takes_some rest f behind taking =
    let head = taking.frame.head in
    let some : 0 < length head = rw taking.frame.header.spelled (omega arith) in
    let lengths : length taking.taken ≡ length head + length f.body = ap length taking.frame.spelled ∙ length-append head f.body in
    omega (arith, ap length taking.front ∙ length-append taking.taken behind.octets)

-- with n more than the octets there are, all of them are read
reading : (n : ℕ) (rest : Rest) → length rest.octets < n → AreOctets rest.octets → (fs : List Frame) × (end : End) × ReadsFrom rest fs end
reading zero rest small each = absurd (omega arith)
reading (suc n) rest small each =
    elim (next_of rest.octets rest.tally (front_of rest.octets each)) [
      | ends end is ↦ ([], end, (rest, refl, is))
      | takes f behind taking ↦
          let fewer = takes_some rest f behind taking in
          let on = reading n behind (omega arith) (are_octets_behind taking.taken behind.octets (subst AreOctets taking.front each)) in
          (f ∷ on.0, on.1, (on.2.0, (behind, taking, on.2.1), on.2.2))
    ]

are_octets : (stream : List ℕ) → All (λ octet. octet < 256) stream → AreOctets stream
are_octets stream each i =
    elim (cases_lt i (length stream)) [
      | inl in_it ↦ each i 0 in_it
      | inr past ↦ rw (get_or_past stream i 0 past) (omega arith)
    ]

pub every_stream_is_read : EveryStreamIsRead
every_stream_is_read stream each = reading (suc (length stream)) (whole stream) (omega arith) (are_octets stream each)
