-- Streams: the front of a stream is a frame, a part of one or a fault, and one of these; so a stream has one reading.
use Rattle.std.proofs.Common.{◌≡◌, ℕ, ◌<◌, Bool, List, [], ◌∷◌, ◌++◌, length, sym, ap, ◌∙◌, refl, subst, arith, append_assoc, append-nil, length-append}
use Rattle.zmtp_wire.specs.declared.header.Header.{Header}
use Rattle.zmtp_wire.specs.declared.tally.Tally.{Tally}
use Rattle.zmtp_wire.specs.declared.fault.WireFault.{WireFault}
use Rattle.zmtp_wire.specs.declared.fault.WireFault.TheVariants.{BadSignature, OldVersion, BadMechanism, ReservedBits, CommandWithMore, TooLong, Memory}
use Rattle.zmtp_wire.specs.Fronts.{HasHeader, HasBadFlags}
use Rattle.zmtp_wire.specs.Frame.{Frame, header_of, IsFrame}
use Rattle.zmtp_wire.specs.Tally.{Fits, counted}
use Rattle.zmtp_wire.specs.Stream.{Rest, whole, Takes, Leaves, IsTooLong, IsFaultAt, IsPartial, End, Open, Faulty, EndsIn, ReadsFrom, Reads}
use Rattle.zmtp_wire.specs.Laws.{StreamsHaveOneReading, ReadingsGoOn, FaultsStay, FramesAreReadBack, Event, Fed, Given, octets_fed, frames_given, Run}
use Rattle.zmtp_wire.specs.Laws.{NoCutMatters, CutsAgree}
use Rattle.zmtp_wire.proofs.Octets.{fronts_equal}
use Rattle.zmtp_wire.proofs.Headers.{one_header, header_longer, header_or_fault, fault_longer, one_fault}

-- a rest with more octets behind it
abbrev pub longer : Rest → List ℕ → Rest
longer rest more = record { octets = rest.octets ++ more; tally = rest.tally }

-- ---- what stands at the front

-- a frame at the front has its header there
frame_header : (octets behind : List ℕ) (f : Frame) → IsFrame octets f → HasHeader (octets ++ behind) (header_of f) (f.body ++ behind)
frame_header octets behind f frame = record {
  head = frame.head;
  front = ap (λ s. s ++ behind) frame.spelled ∙ append_assoc frame.head f.body behind;
  header = frame.header;
}

taken_header : (rest : Rest) (f : Frame) (behind : Rest) → Takes rest f behind → HasHeader rest.octets (header_of f) (f.body ++ behind.octets)
taken_header rest f behind takes =
    subst (λ o. HasHeader o (header_of f) (f.body ++ behind.octets)) (sym takes.front) (frame_header takes.taken behind.octets f takes.frame)

same_rest : (a b : Rest) → a.octets ≡ b.octets → a.tally ≡ b.tally → a ≡ b
same_rest a b octets tally =
    let P : List ℕ → Rest = λ o. record { octets = o; tally = a.tally } in
    let Q : Tally → Rest = λ t. record { octets = b.octets; tally = t } in
    ap P octets ∙ ap Q tally

same_frame : (f g : Frame) → f.more ≡ g.more → f.command ≡ g.command → f.body ≡ g.body → f ≡ g
same_frame f g more command body =
    let P : Bool → Frame = λ b. record { more = b; command = f.command; body = f.body } in
    let Q : Bool → Frame = λ b. record { more = g.more; command = b; body = f.body } in
    let R : List ℕ → Frame = λ b. record { more = g.more; command = g.command; body = b } in
    ap P more ∙ ap Q command ∙ ap R body

-- one frame at most stands at the front
pub one_frame : (rest : Rest) (f g : Frame) (a b : Rest) → Takes rest f a → Takes rest g b → (f ≡ g) × (a ≡ b)
one_frame rest f g a b p q =
    let heads = one_header rest.octets (header_of f) (header_of g) (f.body ++ a.octets) (g.body ++ b.octets) (taken_header rest f a p)
    (taken_header rest g b q) in
    let sizes : length f.body ≡ length g.body = ap (λ (h : Header). h.size) heads.0 in
    let bodies = fronts_equal f.body g.body a.octets b.octets sizes heads.1 in
    let frames : f ≡ g = same_frame f g (ap (λ (h : Header). h.more) heads.0) (ap (λ (h : Header). h.command) heads.0) bodies.0 in
    (frames, same_rest a b bodies.1 (p.tally ∙ ap (λ h. counted rest.tally h) heads.0 ∙ sym q.tally))

-- a frame with more octets behind it is the same frame
pub takes_longer : (rest : Rest) (f : Frame) (behind : Rest) (more : List ℕ) → Takes rest f behind → Takes (longer rest more) f (longer behind more)
takes_longer rest f behind more takes = record {
  taken = takes.taken;
  front = ap (λ s. s ++ more) takes.front ∙ append_assoc takes.taken behind.octets more;
  frame = takes.frame;
  fits = takes.fits;
  tally = takes.tally;
}

-- a frame is no part of a frame
pub partial_or_frame : (rest : Rest) (f : Frame) (behind : Rest) → IsPartial rest → Takes rest f behind → ⊥
partial_or_frame rest f behind partial takes =
    let missing = partial.missing in
    let g = partial.frame in
    let all : HasHeader (rest.octets ++ missing) (header_of g) (g.body ++ []) =
    subst (λ o. HasHeader o (header_of g) (g.body ++ [])) (append-nil (rest.octets ++ missing)) (frame_header (rest.octets ++ missing) [] g partial.begun) in
    let front = header_longer rest.octets (header_of f) (f.body ++ behind.octets) missing (taken_header rest f behind takes) in
    let heads = one_header (rest.octets ++ missing) (header_of f) (header_of g) ((f.body ++ behind.octets) ++ missing) (g.body ++ []) front all in
    let sizes : length f.body ≡ length g.body = ap (λ (h : Header). h.size) heads.0 in
    let lengths : length ((f.body ++ behind.octets) ++ missing) ≡ length (g.body ++ []) = ap length heads.1 in
    let some : 0 < length missing = partial.some in
    omega (arith, length-append (f.body ++ behind.octets) missing, length-append f.body behind.octets, length-append g.body [])

-- a fault of the flags, of the frame that its octet begins
flags_or_frame : (octets more : List ℕ) (f : Frame) (fault : WireFault) → HasBadFlags octets fault → IsFrame (octets ++ more) f → ⊥
flags_or_frame octets more f fault bad frame =
    header_or_fault ((octets ++ more) ++ []) (header_of f) (f.body ++ []) fault (frame_header (octets ++ more) [] f frame)
    (fault_longer (octets ++ more) [] fault (fault_longer octets more fault bad))

flags_or_taken : (rest : Rest) (f : Frame) (behind : Rest) (fault : WireFault) → HasBadFlags rest.octets fault → Takes rest f behind → ⊥
flags_or_taken rest f behind fault bad takes = header_or_fault rest.octets (header_of f) (f.body ++ behind.octets) fault (taken_header rest f behind takes) bad

too_long_or_frame : (rest : Rest) (f : Frame) (behind : Rest) → IsTooLong rest → Takes rest f behind → ⊥
too_long_or_frame rest f behind long takes =
    let heads = one_header rest.octets (header_of f) long.0 (f.body ++ behind.octets) long.1 (taken_header rest f behind takes) long.2 in
    long.3 (subst (λ h. Fits rest.tally h) heads.0 takes.fits)

-- a fault is no frame
pub fault_or_frame : (fault : WireFault) (rest : Rest) (f : Frame) (behind : Rest) → IsFaultAt rest fault → Takes rest f behind → ⊥
fault_or_frame ReservedBits rest f behind fault takes = flags_or_taken rest f behind ReservedBits fault takes
fault_or_frame CommandWithMore rest f behind fault takes = flags_or_taken rest f behind CommandWithMore fault takes
fault_or_frame TooLong rest f behind fault takes = too_long_or_frame rest f behind fault takes
fault_or_frame BadSignature rest f behind fault takes = fault
fault_or_frame OldVersion rest f behind fault takes = fault
fault_or_frame BadMechanism rest f behind fault takes = fault
fault_or_frame Memory rest f behind fault takes = fault

-- a fault is no part of a frame
pub fault_or_partial : (fault : WireFault) (rest : Rest) → IsFaultAt rest fault → IsPartial rest → ⊥
fault_or_partial ReservedBits rest fault partial = flags_or_frame rest.octets partial.missing partial.frame ReservedBits fault partial.begun
fault_or_partial CommandWithMore rest fault partial = flags_or_frame rest.octets partial.missing partial.frame CommandWithMore fault partial.begun
fault_or_partial TooLong rest fault partial = partial.fits fault
fault_or_partial BadSignature rest fault partial = fault
fault_or_partial OldVersion rest fault partial = fault
fault_or_partial BadMechanism rest fault partial = fault
fault_or_partial Memory rest fault partial = fault

-- an end is no frame
pub end_or_frame : (end : End) (rest : Rest) (f : Frame) (behind : Rest) → EndsIn rest end → Takes rest f behind → ⊥
end_or_frame (Open octets) rest f behind ends takes = partial_or_frame rest f behind ends.1 takes
end_or_frame (Faulty fault) rest f behind ends takes = fault_or_frame fault rest f behind ends takes

flags_or_long : (rest : Rest) (fault : WireFault) → HasBadFlags rest.octets fault → IsTooLong rest → ⊥
flags_or_long rest fault bad long = header_or_fault rest.octets long.0 long.1 fault long.2 bad

-- a rest has one fault
pub one_fault_at : (f g : WireFault) (rest : Rest) → IsFaultAt rest f → IsFaultAt rest g → f ≡ g
one_fault_at ReservedBits ReservedBits rest p q = refl
one_fault_at CommandWithMore CommandWithMore rest p q = refl
one_fault_at TooLong TooLong rest p q = refl
one_fault_at ReservedBits CommandWithMore rest p q = one_fault rest.octets ReservedBits CommandWithMore p q
one_fault_at CommandWithMore ReservedBits rest p q = one_fault rest.octets CommandWithMore ReservedBits p q
one_fault_at ReservedBits TooLong rest p q = absurd (flags_or_long rest ReservedBits p q)
one_fault_at CommandWithMore TooLong rest p q = absurd (flags_or_long rest CommandWithMore p q)
one_fault_at TooLong ReservedBits rest p q = absurd (flags_or_long rest ReservedBits q p)
one_fault_at TooLong CommandWithMore rest p q = absurd (flags_or_long rest CommandWithMore q p)
one_fault_at BadSignature g rest p q = absurd p
one_fault_at OldVersion g rest p q = absurd p
one_fault_at BadMechanism g rest p q = absurd p
one_fault_at Memory g rest p q = absurd p
one_fault_at f BadSignature rest p q = absurd q
one_fault_at f OldVersion rest p q = absurd q
one_fault_at f BadMechanism rest p q = absurd q
one_fault_at f Memory rest p q = absurd q

-- a rest has one end
pub one_end : (end other : End) (rest : Rest) → EndsIn rest end → EndsIn rest other → end ≡ other
one_end (Open xs) (Open ys) rest p q = ap Open (sym p.0 ∙ q.0)
one_end (Faulty f) (Faulty g) rest p q = ap Faulty (one_fault_at f g rest p q)
one_end (Open xs) (Faulty g) rest p q = absurd (fault_or_partial g rest q p.1)
one_end (Faulty f) (Open ys) rest p q = absurd (fault_or_partial f rest p q.1)

-- ---- frames one behind another

-- with more octets behind them the frames are the same
pub leaves_longer : (fs : List Frame) (rest behind : Rest) (more : List ℕ) → Leaves rest fs behind → Leaves (longer rest more) fs (longer behind more)
leaves_longer [] rest behind more e = ap (λ r. longer r more) e
leaves_longer (f ∷ fs) rest behind more steps = (longer steps.0 more, takes_longer rest f steps.0 more steps.1, leaves_longer fs steps.0 behind more steps.2)

-- one more frame at the end
pub leaves_more : (fs : List Frame) (f : Frame) (rest behind next : Rest) → Leaves rest fs behind → Takes behind f next → Leaves rest (fs ++ f ∷ []) next
leaves_more [] f rest behind next e takes = (next, subst (λ r. Takes r f next) e takes, refl)
leaves_more (g ∷ fs) f rest behind next steps takes = (steps.0, steps.1, leaves_more fs f steps.0 behind next steps.2 takes)

-- a reading of a stream goes on with each list of frames that stands at its front
pub reading_behind : (fs gs : List Frame) (rest behind : Rest) (end : End) → Leaves rest fs behind → ReadsFrom rest gs end
    → (hs : List Frame) × (gs ≡ fs ++ hs) × ReadsFrom behind hs end
reading_behind [] gs rest behind end e reads = (gs, refl, subst (λ r. ReadsFrom r gs end) (sym e) reads)
reading_behind (f ∷ fs) [] rest behind end steps reads =
    absurd (end_or_frame end rest f steps.0 (subst (λ r. EndsIn r end) reads.1 reads.2) steps.1)
reading_behind (f ∷ fs) (g ∷ gs) rest behind end steps reads =
    let same = one_frame rest f g steps.0 reads.1.0 steps.1 reads.1.1 in
    let next : ReadsFrom steps.0 gs end = subst (λ r. ReadsFrom r gs end) (sym same.1) (reads.0, reads.1.2, reads.2) in
    let on = reading_behind fs gs steps.0 behind end steps.2 next in
    (on.0, (ap (λ x. x ∷ gs) (sym same.0) ∙ ap (λ xs. f ∷ xs) on.1), on.2)

-- at an end nothing more is read
pub ends_there : (hs : List Frame) (rest : Rest) (end other : End) → EndsIn rest end → ReadsFrom rest hs other → (hs ≡ []) × (end ≡ other)
ends_there [] rest end other ends reads = (refl, one_end end other rest ends (subst (λ r. EndsIn r other) reads.1 reads.2))
ends_there (h ∷ hs) rest end other ends reads = absurd (end_or_frame end rest h reads.1.0 ends reads.1.1)

-- ---- laws

pub one_reading : StreamsHaveOneReading
one_reading stream fs gs end other p q =
    let on = reading_behind fs gs (whole stream) p.0 other p.1 q in
    let none = ends_there on.0 p.0 end other p.2 on.2 in
    (sym (on.1 ∙ ap (λ hs. fs ++ hs) none.0 ∙ append-nil fs), none.1)

pub readings_go_on : ReadingsGoOn
readings_go_on stream more fs gs end other p q =
    let on = reading_behind fs gs (whole (stream ++ more)) (longer p.0 more) other (leaves_longer fs (whole stream) p.0 more p.1) q in
    (on.0, on.1)

pub fault_stays : (fault : WireFault) (rest : Rest) (more : List ℕ) → IsFaultAt rest fault → IsFaultAt (longer rest more) fault
fault_stays ReservedBits rest more fault = fault_longer rest.octets more ReservedBits fault
fault_stays CommandWithMore rest more fault = fault_longer rest.octets more CommandWithMore fault
fault_stays TooLong rest more fault = (fault.0, fault.1 ++ more, header_longer rest.octets fault.0 fault.1 more fault.2, fault.3)
fault_stays BadSignature rest more fault = fault
fault_stays OldVersion rest more fault = fault
fault_stays BadMechanism rest more fault = fault
fault_stays Memory rest more fault = fault

pub faults_stay : FaultsStay
faults_stay stream more fs fault p = (longer p.0 more, leaves_longer fs (whole stream) p.0 more p.1, fault_stays fault p.0 more p.2)

pub frames_are_read_back : FramesAreReadBack
frames_are_read_back rest octets f frame fits fs end reads =
    let all : Rest = record rest { octets = octets ++ rest.octets } in
    let next : Rest = record rest { tally = counted rest.tally (header_of f) } in
    let takes : Takes all f next = record { taken = octets; front = refl; frame = frame; fits = fits; tally = refl } in
    let on = reading_behind (f ∷ []) fs all next end (next, takes, refl) reads in
    (on.0, on.1, on.2)

runs_join : (es : List Event) (rest after : Rest) → Run rest es after → Leaves (longer rest (octets_fed es)) (frames_given es) after
runs_join [] rest after e = e ∙ same_rest rest (longer rest []) (sym (append-nil rest.octets)) refl
runs_join (Fed piece ∷ es) rest after run =
    subst (λ r. Leaves r (frames_given es) after)
    (same_rest (longer (longer rest piece) (octets_fed es)) (longer rest (piece ++ octets_fed es)) (append_assoc rest.octets piece (octets_fed es)) refl)
    (runs_join es (longer rest piece) after run)
runs_join (Given f ∷ es) rest after run =
    (longer run.0 (octets_fed es), takes_longer rest f run.0 (octets_fed es) run.1, runs_join es run.0 after run.2)

pub no_cut_matters : NoCutMatters
no_cut_matters es after run = runs_join es (whole []) after run

pub cuts_agree : CutsAgree
cuts_agree es fs a b end other run another same ends finishes =
    let first : Reads (octets_fed es) (frames_given es) end = (a, no_cut_matters es a run, ends) in
    let second : Reads (octets_fed fs) (frames_given fs) other = (b, no_cut_matters fs b another, finishes) in
    one_reading (octets_fed fs) (frames_given es) (frames_given fs) end other (subst (λ (s : List ℕ). Reads s (frames_given es) end) same first) second
