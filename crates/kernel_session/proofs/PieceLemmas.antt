-- How a connection goes on by its pieces, and how it ends by its last one.
use Rattle.std.proofs.Common.{◌≡◌, ◌≢◌, ◌≤◌, arith, ℕ, List, [], ◌∷◌, ◌++◌, Option, Err, inl, inr, ◌⊎◌, refl, sym, ap, ◌∙◌, subst, subst₂, append_assoc}
use Rattle.std.proofs.Common.{append-nil}
use Rattle.zmtp_peer.specs.declared.fault.PeerFault.{PeerFault}
use Rattle.zmtp_peer.specs.Faults.{fault_of, want_of_memory}
use Rattle.zmtp_peer.specs.Events.{Event, State as Stage, Opening, Open, Refused}
use Rattle.zmtp_peer.specs.Intake.{IsRefusal}
use Rattle.zmtp_peer.specs.Reading.{Ending, Awaiting, PeerReads, PeerState, Stands, Brings, ending_of}
use Rattle.zmtp_peer.specs.Laws.{OctetsHaveOneReading}
use Rattle.kernel_message.specs.declared.stamp.Stamp.{Stamp}
use Rattle.kernel_session.specs.declared.socket.Socket.{Socket}
use Rattle.kernel_session.specs.declared.socket.Socket.TheVariants.{Shell, Control, Iopub, Stdin, Heartbeat}
use Rattle.kernel_session.specs.declared.flow.Flow.{Flow}
use Rattle.kernel_session.specs.declared.flow.Flow.TheVariants.{Going}
use Rattle.kernel_session.specs.declared.fault.ServeFault.{ServeFault}
use Rattle.kernel_session.specs.declared.fault.ServeFault.TheVariants.{Read, Write, Peer, Memory}
use Rattle.kernel_watch.specs.declared.notice.Notice.{Notice}
use Rattle.kernel_session.specs.Call.{Call}
use Rattle.kernel_session.specs.Action.{Action, Acts, notices_of}
use Rattle.kernel_session.specs.Closing.{Closes, ClosesPart}
use Rattle.kernel_session.specs.Parts.{ActedPart}
use Rattle.kernel_session.specs.Session.{State, going, role_of, IsSession}
use Rattle.kernel_session.specs.Ends.{Cut, CutAtEnd, IsMidway, stops_by, comes_to, comes_to_end, is_cut_at_end, ends_by}
use Rattle.kernel_session.proofs.ActsLemmas.{notices_of-sends, quiet_start, told_none, told_join, told_quiet}
use Rattle.kernel_session.proofs.RequestLemmas.{starts_with}
use Rattle.kernel_session.proofs.SessionLemmas.{whole_none, whole_whole, whole_cut, cut_none, cut_whole}

-- ---- the peer

-- nothing stands behind a list that is the same with it
none_behind : (xs ys : List Event) → xs ≡ xs ++ ys → ys ≡ []
none_behind [] ys e = sym e
none_behind (x ∷ xs) ys e = let h : xs ≡ xs ++ ys = cc in none_behind xs ys h

pub awaiting : (s : Stage) → (IsRefusal s → ⊥) → ending_of s ≡ Awaiting
awaiting Opening n = refl
awaiting (Open held) n = refl
awaiting (Refused fault) n = absurd (n tt)

too_short : 64 ≤ 0 → ⊥
too_short p = omega arith

-- a peer that was fed nothing isn't refused
pub new_awaits : (s : PeerState) → Stands [] [] s → ending_of s.state ≡ Awaiting
new_awaits s p = elim p.reads [ inl q ↦ q.awaits | inr q ↦ elim q [ inl r ↦ absurd (too_short r.complete) | inr r ↦ absurd (too_short r.complete) ] ]

pub reads_as : (socket : Socket) (input : List ℕ) (events : List Event) (s : PeerState) → Stands input events s → s.role ≡ role_of socket
    → PeerReads (role_of socket) input events (ending_of s.state)
reads_as socket input events s p e = subst (λ r. PeerReads r input events (ending_of s.state)) e p.reads

-- more is fed, which brings nothing
pub brings_on : (a b c : PeerState) (xs : List ℕ) (es : List Event) → Brings a xs es b → Brings b [] [] c → Brings a xs es c
brings_on a b c xs es p q fed given st =
    subst₂ (λ (x : List ℕ) (y : List Event). Stands x y c) (append-nil (fed ++ xs)) (append-nil (given ++ es))
    (q (fed ++ xs) (given ++ es) (p fed given st))

-- what is fed nothing tells nothing
tells_none : OctetsHaveOneReading → (b c : PeerState) (fed : List ℕ) (given es : List Event) → c.role ≡ b.role → Stands fed given b
    → Stands (fed ++ []) (given ++ es) c → es ≡ []
tells_none law b c fed given es role p q =
    let r : PeerReads b.role fed (given ++ es) (ending_of c.state) =
    subst (λ x. PeerReads x fed (given ++ es) (ending_of c.state)) role
    (subst (λ (x : List ℕ). PeerReads c.role x (given ++ es) (ending_of c.state)) (append-nil fed) q.reads) in
    none_behind given es (law b.role fed given (given ++ es) (ending_of b.state) (ending_of c.state) p.reads r).0

pub quiet_on : OctetsHaveOneReading → (a b c : PeerState) (xs : List ℕ) (es fs : List Event) → c.role ≡ b.role → Brings a xs es b → Brings b [] fs c
    → Brings a xs es c
quiet_on law a b c xs es fs role p q fed given st =
    let s = p fed given st in
    let t = q (fed ++ xs) (given ++ es) s in
    let none = tells_none law b c (fed ++ xs) (given ++ es) fs role s t in
    subst₂ (λ (x : List ℕ) (y : List Event). Stands x y c) (append-nil (fed ++ xs))
    (ap (λ (x : List Event). (given ++ es) ++ x) none ∙ append-nil (given ++ es)) t

pub calm_on : OctetsHaveOneReading → (a b c : PeerState) (xs : List ℕ) (es fs : List Event) → c.role ≡ b.role → Brings a xs es b → Brings b [] fs c
    → (fs ≡ [] → IsRefusal c.state → ⊥) → (fed : List ℕ) (given : List Event) → Stands fed given a → ending_of c.state ≡ Awaiting
calm_on law a b c xs es fs role p q calm fed given st =
    let s = p fed given st in
    awaiting c.state (calm (tells_none law b c (fed ++ xs) (given ++ es) fs role s (q (fed ++ xs) (given ++ es) s)))

-- ---- one piece

module _ {W D V : Type 0} (contents : W → Option (List ℕ)) (leads : D → Call → D → Type 0) (notices : V → Option (List Notice))
    (socket : Socket) (key : List ℕ) (stamp stamp2 : Stamp) where
  pub stops_first : (w : W) (d : D) (v : V) (a c : PeerState) (piece : List ℕ) (fault : PeerFault) (told : ServeFault)
      → (fault_of fault ≡ want_of_memory → Brings a [] [] c)
      → (fault_of fault ≢ want_of_memory → Brings a piece [] c × (c.state ≡ Refused (fault_of fault)))
      → ((fault_of fault ≡ want_of_memory) × (told ≡ Memory)) ⊎ ((fault_of fault ≢ want_of_memory) × (told ≡ Peer fault))
      → stops_by contents leads notices socket key w w d d v v stamp stamp a piece c told
  stops_first w d v a c piece fault told memory other so =
      elim so [
        | inl p ↦ subst (λ (f : ServeFault). stops_by contents leads notices socket key w w d d v v stamp stamp a piece c f) (sym p.1) (
          [],
          piece,
          refl,
          [],
          memory p.0,
          cut_none contents leads notices socket key [] [] w w d d v v (going stamp) []
              (told_none contents leads notices w d v) ([], refl),
        )
        | inr p ↦ subst (λ (f : ServeFault). stops_by contents leads notices socket key w w d d v v stamp stamp a piece c f) (sym p.1) (
          [],
          (other p.0).0,
          p.0,
          (other p.0).1,
          whole_none contents leads notices socket key [] w w d d v v (going stamp)
              (told_none contents leads notices w d v),
        )
      ]

  pub stops_midway : (w w' : W) (d d' : D) (v v' : V) (a b : PeerState) (piece : List ℕ) (es : List Event) (fault : ServeFault) → IsMidway fault
      → Brings a piece es b → Cut contents leads notices socket key [] w w' d d' v v' (going stamp) es
      → stops_by contents leads notices socket key w w' d d' v v' stamp stamp2 a piece b fault
  stops_midway w w' d d' v v' a b piece es Read m p q = absurd m
  stops_midway w w' d d' v v' a b piece es (Peer f) m p q = absurd m
  stops_midway w w' d d' v v' a b piece es Write m p q = (es, p, q)
  stops_midway w w' d d' v v' a b piece es Memory m p q = (piece, [], sym (append-nil piece), es, p, q)

  -- the events were taken, and the fault behind them is told
  pub stops_behind : (w w' : W) (d d' : D) (v v' : V) (a b c : PeerState) (piece : List ℕ) (es : List Event) (fault : PeerFault) (told : ServeFault)
      (flow : Flow) →
      flow ≡ Going
      → Brings a piece es b → comes_to contents leads notices socket key [] w w' d d' v v' (going stamp) stamp2 flow es
      → (fault_of fault ≡ want_of_memory → Brings b [] [] c)
      → (fault_of fault ≢ want_of_memory → Brings b [] [] c × (c.state ≡ Refused (fault_of fault)))
      → ((fault_of fault ≡ want_of_memory) × (told ≡ Memory)) ⊎ ((fault_of fault ≢ want_of_memory) × (told ≡ Peer fault))
      → stops_by contents leads notices socket key w w' d d' v v' stamp stamp2 a piece c told
  stops_behind w w' d d' v v' a b c piece es fault told flow on p whole memory other so =
      let done = subst (λ (f : Flow). comes_to contents leads notices socket key [] w w' d d' v v' (going stamp) stamp2 f es) on whole in
      elim so [
        | inl q ↦ subst (λ (f : ServeFault). stops_by contents leads notices socket key w w' d d' v v' stamp stamp2 a piece c f) (sym q.1) (
          piece,
          [],
          sym (append-nil piece),
          es,
          brings_on a b c piece es p (memory q.0),
          cut_whole contents leads notices socket key [] w w' d d' v v' (going stamp) (going stamp2) es done,
        )
        | inr q ↦ subst (λ (f : ServeFault). stops_by contents leads notices socket key w w' d d' v v' stamp stamp2 a piece c f) (sym q.1)
            (es, brings_on a b c piece es p (other q.0).0, q.0, (other q.0).1, done)
      ]

-- ---- all pieces

module _ {W D V : Type 0} (contents : W → Option (List ℕ)) (leads : D → Call → D → Type 0) (notices : V → Option (List Notice))
    (socket : Socket) (key : List ℕ) (before : List Action) (w w1 w2 : W) (d d1 d2 : D) (v v1 v2 : V) (s : State)
    (stamp stamp2 : Stamp) (peer peer2 : PeerState) (input piece : List ℕ) (given : List Event)
    (so_far : comes_to contents leads notices socket key before w w1 d d1 v v1 s stamp Going given) (stands : Stands input given peer)
    (role : peer2.role ≡ role_of socket) where
  pub comes_by_piece : (found flow : Flow) → found ≡ flow → (es : List Event)
      → comes_to contents leads notices socket key [] w1 w2 d1 d2 v1 v2 (going stamp) stamp2 found es
      → comes_to contents leads notices socket key before w w2 d d2 v v2 s stamp2 flow (given ++ es)
  comes_by_piece found flow e es p =
      let to : State = record { stamp = stamp2; flow = flow } in
      whole_whole contents leads notices socket key before w w1 w2 d d1 d2 v v1 v2 s (going stamp) to given es so_far refl
      (subst (λ (f : Flow). comes_to contents leads notices socket key [] w1 w2 d1 d2 v1 v2 (going stamp) stamp2 f es) e p)

  reads_more : (part : List ℕ) (es : List Event) → Brings peer part es peer2 → PeerReads (role_of socket) (input ++ part) (given ++ es) (ending_of peer2.state)
  reads_more part es p = reads_as socket (input ++ part) (given ++ es) peer2 (p input given stands) role

  cut_more : (es : List Event) → Cut contents leads notices socket key [] w1 w2 d1 d2 v1 v2 (going stamp) es
      → Cut contents leads notices socket key before w w2 d d2 v v2 s (given ++ es)
  cut_more es p = whole_cut contents leads notices socket key before w w1 w2 d d1 d2 v v1 v2 s (going stamp) given es so_far refl p

  pub stops_by_piece : (left : Option (List ℕ)) (fault : ServeFault)
      → stops_by contents leads notices socket key w1 w2 d1 d2 v1 v2 stamp stamp2 peer piece peer2 fault
      → ends_by contents leads notices socket key before w w2 d d2 v v2 s stamp2 (Err fault) (input ++ piece) left
  stops_by_piece left Read p = absurd p
  stops_by_piece left Write p = (given ++ p.0, ending_of peer2.state, reads_more piece p.0 p.1, inl (cut_more p.0 p.2))
  stops_by_piece left Memory p = inl (
    input ++ p.0,
    p.1,
    ap (λ (x : List ℕ). input ++ x) p.2 ∙ sym (append_assoc input p.0 p.1),
    (given ++ p.3, ending_of peer2.state, reads_more p.0 p.3 p.4, inr (cut_more p.3 p.5)),
  )
  stops_by_piece left (Peer f) p = (
    given ++ p.0,
    ending_of peer2.state,
    reads_more piece p.0 p.1,
    (p.2, ap ending_of p.3, comes_by_piece Going Going refl p.0 p.4),
  )

-- a beginning, by the fault
module _ {W D V : Type 0} (contents : W → Option (List ℕ)) (leads : D → Call → D → Type 0) (notices : V → Option (List Notice))
    (socket : Socket) (key : List ℕ) (before : List Action) (w w' : W) (d d' : D) (v v' : V) (s : State)
    (stamp2 : Stamp) (input : List ℕ) (events : List Event) (ending : Ending) (left : Option (List ℕ)) where
  pub ends_midway : (fault : ServeFault) → IsMidway fault → PeerReads (role_of socket) input events ending →
      Cut contents leads notices socket key before w w' d d' v v' s events
      → ends_by contents leads notices socket key before w w' d d' v v' s stamp2 (Err fault) input left
  ends_midway Read m p q = absurd m
  ends_midway (Peer f) m p q = absurd m
  ends_midway Write m p q = (events, ending, p, inl q)
  ends_midway Memory m p q = inl (input, [], sym (append-nil input), (events, ending, p, inr q))

  pub ends_at_end : (fault : ServeFault) → IsMidway fault → PeerReads (role_of socket) input events ending
      → is_cut_at_end contents leads notices socket key before w w' d d' v v' s stamp2 left events ending
      → ends_by contents leads notices socket key before w w' d d' v v' s stamp2 (Err fault) input left
  ends_at_end Read m p q = absurd m
  ends_at_end (Peer f) m p q = absurd m
  ends_at_end Write m p q = (events, ending, p, inr q)
  ends_at_end Memory m p q = inr (events, ending, p, q)

-- ---- the end of the input

-- what the end of the input brings has no notice
closes_quietly : (socket : Socket) (events : List Event) (closing : List Action) → Closes socket events closing → notices_of closing ≡ []
closes_quietly Iopub events closing p = ap notices_of p.brings ∙ notices_of-sends p.octets
closes_quietly Shell events closing p = ap notices_of p
closes_quietly Control events closing p = ap notices_of p
closes_quietly Stdin events closing p = ap notices_of p
closes_quietly Heartbeat events closing p = ap notices_of p

part_quietly : (socket : Socket) (events : List Event) (closing : List Action) → ClosesPart socket events closing → notices_of closing ≡ []
part_quietly Iopub events closing p = ap notices_of p.brings ∙ notices_of-sends p.octets
part_quietly Shell events closing p = ap notices_of p
part_quietly Control events closing p = ap notices_of p
part_quietly Stdin events closing p = ap notices_of p
part_quietly Heartbeat events closing p = ap notices_of p

module _ {W D V : Type 0} (contents : W → Option (List ℕ)) (leads : D → Call → D → Type 0) (notices : V → Option (List Notice))
    (socket : Socket) (key : List ℕ) (before : List Action) (w w1 w2 : W) (d d1 d2 : D) (v v1 : V) (s : State) (stamp : Stamp) (events : List Event)
    (so_far : comes_to contents leads notices socket key before w w1 d d1 v v1 s stamp Going events) where
  -- all events were looked at
  all_seen : IsSession socket key s events so_far.actions (going stamp)
  all_seen =
      subst (λ (x : List Event). IsSession socket key s x so_far.actions (going stamp))
      (sym (so_far.taken ∙ ap (λ (x : List Event). so_far.seen ++ x) (so_far.none_unseen refl) ∙ append-nil so_far.seen)) so_far.session

  pub whole_end : (closing : List Action) → Closes socket events closing → Acts contents leads w1 w2 d1 d2 closing
      → comes_to_end contents leads notices socket key before w w2 d d2 v v1 s stamp events
  whole_end closing p q = record {
    actions = so_far.actions;
    session = all_seen;
    closing = closing;
    closes = p;
    acts = told_join contents leads notices w w1 w2 d d1 d2 v v1 v1 (before ++ so_far.actions) closing so_far.acts
        (told_quiet contents leads notices w1 w2 d1 d2 v1 closing (closes_quietly socket events closing p) q);
  }

  pub cut_end : (closing : List Action) → ClosesPart socket events closing → ActedPart contents leads w1 w2 d1 d2 closing
      → CutAtEnd contents leads notices socket key before w w2 d d2 v v1 s events
  cut_end closing p q = record {
    actions = so_far.actions;
    new = going stamp;
    session = all_seen;
    closing = closing;
    closes = p;
    done = (before ++ so_far.actions) ++ q.0;
    acts = told_join contents leads notices w w1 w2 d d1 d2 v v1 v1 (before ++ so_far.actions) q.0 so_far.acts
        (told_quiet contents leads notices w1 w2 d1 d2 v1 q.0 (quiet_start q.0 q.2.0 closing q.2.1 (part_quietly socket events closing p)) q.1);
    start = starts_with (before ++ so_far.actions) q.0 closing q.2;
  }
