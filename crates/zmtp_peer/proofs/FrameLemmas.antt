-- One more frame of a stream, and what frames tell.
use Rattle.std.proofs.Common.{◌≡◌, ℕ, ◌<◌, List, [], ◌∷◌, ◌++◌, length, refl, ap, sym, ◌∙◌, arith, append_assoc, append-nil, length-append, inl, inr}
use Rattle.std.proofs.Common.{Result, Ok, Err, OnOk, OnErr, IfOk, IsErr, map, zero, suc, subst}
use Rattle.std.specs.declared.alloc.Global.{Global}
use Rattle.std.specs.declared.vec.Vec.{Vec}
use Rattle.std.proofs.lemmas.List.{take-append-le}
use Rattle.std.proofs.lemmas.Bool.{false≢true}
use Rattle.zmtp_wire.specs.Frame.{Frame}
use Rattle.zmtp_wire.specs.Stream.{Rest, Takes, Leaves, IsPartial}
use Rattle.zmtp_wire.proofs.Streams.{leaves_more}
use Rattle.zmtp_peer.specs.declared.terms.Terms.{Terms}
use Rattle.zmtp_peer.specs.declared.intake.Intake.{Intake}
use Rattle.zmtp_peer.specs.Events.{Event, State, after_frame, frame_told, after, told, bodies}
use Rattle.zmtp_peer.specs.declared.fault.PeerFault.{PeerFault}
use Rattle.zmtp_peer.specs.declared.intake.Stage.{Stage}
use Rattle.zmtp_peer.specs.declared.intake.Stage.TheVariants as stage
use Rattle.zmtp_peer.specs.declared.brought.Brought as code
use Rattle.zmtp_peer.specs.Brought.{Brought, Whole, OfCommand, brought_of, first_of}
use Rattle.zmtp_peer.specs.Intake.{state_at, state_of, told_by, Keeps, IsRefusal, TakesFrames}

-- frames are taken, and nothing ends them yet
pub record Taken (terms : Terms) (rest : Rest) (old : Intake) (behind : Rest) (new : Intake) : Type 0 where
  pub frames : List Frame
  pub left : Leaves rest frames behind
  pub events : told_by terms.role new ≡ told_by terms.role old ++ told terms (state_of old) frames
  pub state : state_of new ≡ after terms (state_of old) frames

-- a frame has at least its flags
pub takes-shorter : (rest : Rest) (f : Frame) (behind : Rest) → Takes rest f behind → length behind.octets < length rest.octets
takes-shorter rest f behind t =
    let head = ap length t.frame.header.spelled in
    let taken = ap length t.frame.spelled ∙ length-append t.frame.head f.body in
    let whole = ap length t.front ∙ length-append t.taken behind.octets in
    omega (arith, head, taken, whole)

-- frames behind frames
pub after-append : (terms : Terms) (state : State) (fs gs : List Frame) → after terms state (fs ++ gs) ≡ after terms (after terms state fs) gs
after-append terms state [] gs = refl
after-append terms state (f ∷ fs) gs = after-append terms (after_frame terms state f) fs gs

pub told-append : (terms : Terms) (state : State) (fs gs : List Frame) → told terms state (fs ++ gs) ≡ told terms state fs ++ told terms (after terms state fs)
    gs
told-append terms state [] gs = refl
told-append terms state (f ∷ fs) gs =
    ap (λ es. frame_told terms state f ++ es) (told-append terms (after_frame terms state f) fs gs)
    ∙ sym (append_assoc (frame_told terms state f) (told terms (after_frame terms state f) fs) (told terms (after terms (after_frame terms state f) fs) gs))

-- what was told, and what one more frame tells
events-more : (terms : Terms) (state : State) (fs : List Frame) (f : Frame) (xs ys zs : List Event) → ys ≡ xs ++ told terms state fs
    → zs ≡ ys ++ frame_told terms (after terms state fs) f → zs ≡ xs ++ told terms state (fs ++ f ∷ [])
events-more terms state fs f xs ys zs before now =
    now ∙ ap (λ es. es ++ frame_told terms (after terms state fs) f) before
    ∙ append_assoc xs (told terms state fs) (frame_told terms (after terms state fs) f)
    ∙ ap (λ es. xs ++ (told terms state fs ++ es)) (sym (append-nil (frame_told terms (after terms state fs) f)))
    ∙ ap (λ es. xs ++ es) (sym (told-append terms state fs (f ∷ [])))

pub keeps-same : (xs : List (List ℕ)) → Keeps xs xs
keeps-same xs n h = (h, refl)

pub keeps-then : (xs ys zs : List (List ℕ)) → Keeps xs ys → Keeps ys zs → Keeps xs zs
keeps-then xs ys zs a b n h = ((b n (a n h).0).0, (b n (a n h).0).1 ∙ (a n h).1)

keeps-append : (xs ys : List (List ℕ)) → Keeps xs (xs ++ ys)
keeps-append xs ys n h = (omega (arith, length-append xs ys), take-append-le n xs ys h)

-- the front where more frames are held, where they became a whole message, and where a command came between them
pub keeps-held : (brought : List Brought) (held more : List (List ℕ)) → Keeps (first_of brought held) (first_of brought (held ++ more))
keeps-held [] held more = keeps-append held more
keeps-held (Whole message ∷ others) held more = keeps-same message
keeps-held (OfCommand event ∷ others) held more = keeps-held others held more

pub keeps-whole : (brought : List Brought) (held left : List (List ℕ)) → Keeps (first_of brought held) (first_of (brought ++ Whole held ∷ []) left)
keeps-whole [] held left = keeps-same held
keeps-whole (Whole message ∷ others) held left = keeps-same message
keeps-whole (OfCommand event ∷ others) held left = keeps-whole others held left

pub keeps-told : (brought : List Brought) (held : List (List ℕ)) (event : Event) →
    Keeps (first_of brought held) (first_of (brought ++ OfCommand event ∷ []) held)
keeps-told [] held event = keeps-same held
keeps-told (Whole message ∷ others) held event = keeps-same message
keeps-told (OfCommand first ∷ others) held event = keeps-told others held event

keeps-nothing : (ys : List (List ℕ)) → Keeps [] ys
keeps-nothing ys zero h = (omega arith, refl)
keeps-nothing ys (suc n) h = absurd (omega arith)

-- where nothing is held, anything may be brought
pub keeps-alone : (brought : List Brought) (item : Brought) (held : List (Vec ℕ Global)) → length held ≡ 0
    → Keeps (first_of brought (bodies held)) (first_of (brought ++ item ∷ []) (bodies held))
keeps-alone [] item [] none = keeps-nothing (first_of (item ∷ []) [])
keeps-alone (Whole message ∷ others) item [] none = keeps-same message
keeps-alone (OfCommand event ∷ others) item [] none = keeps-alone others item [] none
keeps-alone brought item (frame ∷ held) none = absurd (omega arith)

-- the front where one more is brought, or where there was no memory for it
pub keeps-added : {T E : Type 0} (r : Result T E) (old new : List code.Brought) (item : Brought) (held : List (List ℕ))
    → Keeps (first_of (map brought_of old) held) (first_of (map brought_of old ++ item ∷ []) held)
    → OnOk r (map brought_of new ≡ map brought_of old ++ item ∷ []) → OnErr r (new ≡ old)
    → Keeps (first_of (map brought_of old) held) (first_of (map brought_of new) held)
keeps-added (Ok x) old new item held keeps ok err =
    subst (λ (items : List Brought). Keeps (first_of (map brought_of old) held) (first_of items held)) (sym ok) keeps
keeps-added (Err e) old new item held keeps ok err =
    subst (λ (items : List code.Brought). Keeps (first_of (map brought_of old) held) (first_of (map brought_of items) held)) (sym err)
    (keeps-same (first_of (map brought_of old) held))

-- nothing is taken yet
pub taken-none : (terms : Terms) (rest : Rest) (intake : Intake) → Taken terms rest intake rest intake
taken-none terms rest intake = record { frames = []; left = refl; events = sym (append-nil (told_by terms.role intake)); state = refl }

-- one more frame is taken
pub taken-more : (terms : Terms) (rest : Rest) (old : Intake) (behind next : Rest) (new last : Intake) (f : Frame)
    → Taken terms rest old behind new → Takes behind f next
    → state_of last ≡ after_frame terms (state_of new) f → told_by terms.role last ≡ told_by terms.role new ++ frame_told terms (state_of new) f
    → Taken terms rest old next last
taken-more terms rest old behind next new last f t takes state events = record {
  frames = t.frames ++ f ∷ [];
  left = leaves_more t.frames f rest behind next t.left takes;
  events = events-more terms (state_of old) t.frames f (told_by terms.role old) (told_by terms.role new) (told_by terms.role last) t.events
      (events ∙ ap (λ s. told_by terms.role new ++ frame_told terms s f) t.state);
  state = state ∙ ap (λ s. after_frame terms s f) t.state ∙ sym (after-append terms (state_of old) t.frames (f ∷ []));
}

-- frames are taken, up to one that refuses the peer, or up to the end of what came
pub taken-refused : (terms : Terms) (rest : Rest) (old : Intake) (behind : Rest) (new : Intake) → Taken terms rest old behind new → IsRefusal (state_of new) →
    TakesFrames terms rest old behind new
taken-refused terms rest old behind new t refused = record { frames = t.frames; left = t.left; events = t.events; ends = inr (inl (t.state, refused)) }

pub taken-partial : (terms : Terms) (rest : Rest) (old : Intake) (behind : Rest) (new : Intake) → Taken terms rest old behind new → IsPartial behind →
    ¬ (IsRefusal (state_of new)) → TakesFrames terms rest old behind new
taken-partial terms rest old behind new t partial going = record { frames = t.frames; left = t.left; events = t.events; ends = inl (partial, t.state, going) }

-- a stage that is no refusal
pub going-on : (at : Stage) (held : List (List ℕ)) → ((fault : PeerFault) → at ≡ stage.Refused fault → ⊥) → ¬ (IsRefusal (state_at at held))
going-on stage.Opening held h = λ refused. refused
going-on stage.Open held h = λ refused. refused
going-on (stage.Refused fault) held h = λ refused. h fault refl

-- what holds anyway holds at Ok
pub on_ok : {T E P : Type 0} (r : Result T E) → P → OnOk r P
on_ok (Ok x) p = p
on_ok (Err e) p = tt

-- what would hold at Ok, where there is an error
pub not_ok : {T E : Type 0} (P : Type 0) (r : Result T E) → IsErr r → OnOk r P
not_ok P (Ok x) h = absurd (false≢true h)
not_ok P (Err e) h = tt

pub not_if_ok : {T E : Type 0} (P : T → Type 0) (r : Result T E) → IsErr r → IfOk r P
not_if_ok P (Ok x) h = absurd (false≢true h)
not_if_ok P (Err e) h = tt
