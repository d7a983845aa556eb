-- What one event brings, from its parts.
use Rattle.std.proofs.Common.{◌≡◌, ℕ, suc, ◌+◌, ◌<◌, List, [], ◌∷◌, ◌++◌, map, length, get_or, drop, drop-cons, add-one, append_assoc, Option, Some, None}
use Rattle.std.proofs.Common.{Result, IfOk, OnErr}
use Rattle.std.proofs.Common.{◌⊎◌, inl, inr, refl, sym, ap, ◌∙◌, subst}
use Rattle.std.proofs.lemmas.List.{map-append}
use Rattle.std.specs.Io.KnownBytes.{Appends}
use Rattle.jupyter_msg.specs.declared.request.Request.{Request}
use Rattle.zmtp_peer.specs.declared.event.PeerEvent.{PeerEvent}
use Rattle.zmtp_peer.specs.Events.{Event, event_of, events_of}
use Rattle.kernel_message.specs.declared.stamp.Stamp.{Stamp}
use Rattle.kernel_session.specs.declared.socket.Socket.{Socket}
use Rattle.kernel_session.specs.declared.flow.Flow.{Flow}
use Rattle.kernel_session.specs.declared.flow.Flow.TheVariants.{Going}
use Rattle.kernel_watch.specs.declared.notice.Notice.{Notice}
use Rattle.kernel_watch.specs.declared.notice.Notice.TheVariants as notice
use Rattle.kernel_watch.specs.Hears.{Hears}
use Rattle.kernel_session.specs.declared.talk.DeskReply.{DeskReply}
use Rattle.kernel_session.specs.Call.{Call, Published}
use Rattle.kernel_session.specs.Talk.{talk, says_of}
use Rattle.jupyter_msg.specs.Message.{frames_of}
use Rattle.kernel_message.specs.Message.{asker_of}
use Rattle.kernel_message.specs.Sent.{sent}
use Rattle.exact_write.specs.Sent.{SentSome}
use Rattle.kernel_session.specs.Action.{Action, Sent, Told, ActsTold, sends, asks, tells, notices_of}
use Rattle.kernel_session.specs.Session.{State, going, IsAsked, IsServed, IsServedTold, IsWorn, IsTurn, IsStep, opened, asking, outgoing, reply_octets}
use Rattle.kernel_session.specs.Parts.{ActedToldPart}
use Rattle.kernel_session.specs.Ends.{Takes, Breaks, Whole, Cut}
use Rattle.kernel_session.proofs.ActsLemmas.{acts_sends, notices_of-sends, notices_of-asks, quiet_both, quiet_start, told_join, told_quiet, told_one}
use Rattle.kernel_session.proofs.RequestLemmas.{if_ok, on_err, starts_with, Serves, ServesPart}
use Rattle.kernel_session.proofs.SessionLemmas.{takes_event, breaks_event, breaks_none, whole_one, cut_one, whole_whole, whole_cut, whole_over, cut_over}

-- ---- requests

-- what goes out for a request has no notice
answered_quiet : (key : List ℕ) (r : Request) (stamp : Stamp) (told : Option DeskReply) → notices_of (outgoing key r stamp told) ≡ []
answered_quiet key r stamp None = refl
answered_quiet key r stamp (Some told) =
    let out = sent (asker_of r) stamp (says_of r.content told) in
    quiet_both (asks (map (λ b. Published (frames_of key b)) out.broadcasts)) (sends (reply_octets key out.reply))
    (notices_of-asks (map (λ b. Published (frames_of key b)) out.broadcasts)) (notices_of-sends (reply_octets key out.reply))

pub served_quiet : (key : List ℕ) (r : Request) (stamp : Stamp) (actions : List Action) (new : State) → IsServed key r stamp actions new → notices_of actions
    ≡ []
served_quiet key r stamp actions new p =
    let t = talk r.content p.heard in
    ap notices_of p.brings
    ∙ quiet_both (asks (asking key r stamp p.dated t)) (outgoing key r (opened p.dated) t.told) (notices_of-asks (asking key r stamp p.dated t))
    (answered_quiet key r (opened p.dated) t.told)

module _ {W D V : Type 0} (contents : W → Option (List ℕ)) (leads : D → Call → D → Type 0) (notices : V → Option (List Notice)) (key : List ℕ)
    (w w' : W) (d d' : D) (stamp stamp2 : Stamp) (r : Request) where
  abbrev pub Attends : V → V → Flow → Type 0
  Attends v v' flow =
      (actions : List Action) × ActsTold contents leads notices w w' d d' v v' actions
      × (IsServedTold key r stamp actions (record { stamp = stamp2; flow = flow }) ⊎ IsWorn stamp actions (record { stamp = stamp2; flow = flow }))

  abbrev pub AttendsPart : V → V → Type 0
  AttendsPart v v' =
      (actions : List Action) × (new : State) × IsServedTold key r stamp actions new × ActedToldPart contents leads notices w w' d d' v v' actions

  -- told as it began, and as it was done
  pub attended : (v v1 v2 : V) (flow : Flow) → Hears (notices v) (notices v1) (notice.Begun ∷ []) → Hears (notices v1) (notices v2) (notice.Done ∷ [])
      → Serves contents leads key w w' d d d' r stamp stamp stamp2 flow → Attends v v2 flow
  attended v v1 v2 flow began done p = (
    Told notice.Begun ∷ (p.0 ++ tells (notice.Done ∷ [])),
    told_join contents leads notices w w w' d d d' v v1 v2 (Told notice.Begun ∷ []) (p.0 ++ tells (notice.Done ∷ []))
        (told_one contents leads notices w d v v1 notice.Begun began)
        (told_join contents leads notices w w' w' d d' d' v1 v1 v2 p.0 (tells (notice.Done ∷ []))
        (told_quiet contents leads notices w w' d d' v1 p.0 (served_quiet key r stamp p.0 (record { stamp = stamp2; flow = flow }) p.2) p.1)
        (told_one contents leads notices w' d' v1 v2 notice.Done done)),
    inl (p.0, p.2, refl),
  )

  -- told as it began, and cut
  pub attended_part : (v v1 : V) → Hears (notices v) (notices v1) (notice.Begun ∷ [])
      → ServesPart contents leads key w w' d d d' r stamp stamp stamp2 → AttendsPart v v1
  attended_part v v1 began p =
      let all = p.0 ++ tells (notice.Done ∷ []) in
      let done = p.3.0 in
      let more = p.3.2.0 in (
        Told notice.Begun ∷ all,
        p.1,
        (p.0, p.2, refl),
        (
          Told notice.Begun ∷ done,
          told_join contents leads notices w w w' d d d' v v1 v1 (Told notice.Begun ∷ []) done (told_one contents leads notices w d v v1 notice.Begun began)
              (told_quiet contents leads notices w w' d d' v1 done (quiet_start done more p.0 p.3.2.1 (served_quiet key r stamp p.0 p.1 p.2)) p.3.1),
          starts_with (Told notice.Begun ∷ []) done all (
            more ++ tells (notice.Done ∷ []),
            ap (λ (t : List Action). t ++ tells (notice.Done ∷ [])) p.3.2.1 ∙ append_assoc done more
                (tells (notice.Done ∷ [])),
          ),
        ),
      )

-- ---- messages

module _ {W D V : Type 0} (contents : W → Option (List ℕ)) (leads : D → Call → D → Type 0) (notices : V → Option (List Notice)) (key : List ℕ)
    (w w' : W) (d d' : D) (stamp stamp2 : Stamp) (s : Socket) (frames : List (List ℕ)) where
  abbrev pub Turns : V → V → Flow → Type 0
  Turns v v' flow =
      (actions : List Action) × IsTurn s key stamp frames actions (record { stamp = stamp2; flow = flow })
      × ActsTold contents leads notices w w' d d' v v' actions

  abbrev pub TurnsPart : V → V → Type 0
  TurnsPart v v' =
      ((actions : List Action) × (new : State) × IsTurn s key stamp frames actions new × ActedToldPart contents leads notices w w' d d' v v' actions)
      ⊎ ActsTold contents leads notices w w' d d' v v' []

  pub turn_whole : {E : Type 0} (v v1 v2 : V) (r : Request) → IsAsked s key frames r → Hears (notices v) (notices v1) (notice.Signed ∷ [])
      → (result : Result Flow E)
      → IfOk result (λ flow. Attends contents leads notices key w w' d d' stamp stamp2 r v1 v2 flow) → IfOk result (λ flow. Turns v v2 flow)
  turn_whole v v1 v2 r asked signed result p =
      if_ok result (λ (flow : Flow). Attends contents leads notices key w w' d d' stamp stamp2 r v1 v2 flow) (λ (flow : Flow). Turns v v2 flow)
      (λ flow q. (
        Told notice.Signed ∷ q.0,
        inl (r, asked, (q.0, q.2, refl)),
        told_join contents leads notices w w w' d d d' v v1 v2 (Told notice.Signed ∷ []) q.0 (told_one contents leads notices w d v v1 notice.Signed signed)
            q.1,
      )) p

  pub turn_part : {E : Type 0} (v v1 v2 : V) (r : Request) → IsAsked s key frames r → Hears (notices v) (notices v1) (notice.Signed ∷ [])
      → (result : Result Flow E)
      → OnErr result (AttendsPart contents leads notices key w w' d d' stamp stamp2 r v1 v2) → OnErr result (TurnsPart v v2)
  turn_part v v1 v2 r asked signed result p =
      on_err result (AttendsPart contents leads notices key w w' d d' stamp stamp2 r v1 v2) (TurnsPart v v2)
      (λ q. inl (
        Told notice.Signed ∷ q.0,
        q.1,
        inl (r, asked, (q.0, inl q.2, refl)),
        (
          Told notice.Signed ∷ q.3.0,
          told_join contents leads notices w w w' d d d' v v1 v2 (Told notice.Signed ∷ []) q.3.0
              (told_one contents leads notices w d v v1 notice.Signed signed) q.3.1,
          starts_with (Told notice.Signed ∷ []) q.3.0 q.0 q.3.2,
        ),
      )) p

  module _ (v v' : V) (socket : Socket) (on : socket ≡ s) (event e : PeerEvent) (is : event ≡ e) where
    pub turn_takes : {E : Type 0} →
        ((actions : List Action) (new : State) → IsTurn s key stamp frames actions new → IsStep s key stamp (event_of e) actions new)
        → (result : Result Flow E) → IfOk result (λ flow. Turns v v' flow)
        → IfOk result (λ flow. Takes contents leads notices socket key w w' d d' v v' stamp (event_of event) (record { stamp = stamp2; flow = flow }))
    turn_takes step result p =
        if_ok result (λ (flow : Flow). Turns v v' flow)
        (λ (flow : Flow). Takes contents leads notices socket key w w' d d' v v' stamp (event_of event) (record { stamp = stamp2; flow = flow }))
        (λ flow q. takes_event contents leads notices key w w' d d' v v' stamp socket s on event e is q.0 _ (step q.0 _ q.1) q.2) p

    pub turn_breaks : {E : Type 0} →
        ((actions : List Action) (new : State) → IsTurn s key stamp frames actions new → IsStep s key stamp (event_of e) actions new)
        → (result : Result Flow E) → OnErr result (TurnsPart v v')
        → OnErr result (Breaks contents leads notices socket key w w' d d' v v' stamp (event_of event))
    turn_breaks step result p =
        on_err result (TurnsPart v v') (Breaks contents leads notices socket key w w' d d' v v' stamp (event_of event))
        (λ q. elim q [
          | inl x ↦ breaks_event contents leads notices key w w' d d' v v' stamp socket s on event e is x.0 x.3.0 x.1 (step x.0 x.1 x.2) x.3.1 x.3.2
          | inr x ↦ breaks_none contents leads notices key w w' d d' v v' stamp socket s on event e is x
        ]) p

-- an event for which these octets go out and then this notice is told, and nothing else is done
module _ {W D V : Type 0} (contents : W → Option (List ℕ)) (leads : D → Call → D → Type 0) (notices : V → Option (List Notice)) (key : List ℕ)
    (w w' : W) (d : D) (v v' : V) (stamp : Stamp) (socket s : Socket) (on : socket ≡ s) (event e : PeerEvent) (is : event ≡ e) (out : List ℕ) (told : Notice)
    (step : IsStep s key stamp (event_of e) (sends out ++ tells (told ∷ [])) (going stamp)) where
  pub sent_takes : {E : Type 0} (result : Result Flow E)
      → IfOk result (λ flow. (flow ≡ Going) × Appends (contents w) (contents w') out × Hears (notices v) (notices v') (told ∷ []))
      → IfOk result (λ flow. Takes contents leads notices socket key w w' d d v v' stamp (event_of event) (record { stamp = stamp; flow = flow }))
  sent_takes result p =
      if_ok result (λ (flow : Flow). (flow ≡ Going) × Appends (contents w) (contents w') out × Hears (notices v) (notices v') (told ∷ []))
      (λ (flow : Flow). Takes contents leads notices socket key w w' d d v v' stamp (event_of event) (record { stamp = stamp; flow = flow }))
      (λ flow q.
      takes_event contents leads notices key w w' d d v v' stamp socket s on event e is (sends out ++ tells (told ∷ [])) (record { stamp = stamp; flow = flow })
      (subst (λ (f : Flow). IsStep s key stamp (event_of e) (sends out ++ tells (told ∷ [])) (record { stamp = stamp; flow = f })) (sym q.0) step)
      (told_join contents leads notices w w' w' d d d v v v' (sends out) (tells (told ∷ []))
      (told_quiet contents leads notices w w' d d v (sends out) (notices_of-sends out) (acts_sends contents leads w w' d out q.1))
      (told_one contents leads notices w' d v v' told q.2))) p

  pub sent_breaks : {E : Type 0} (result : Result Flow E) → OnErr result (SentSome (contents w) (contents w') out × (v' ≡ v))
      → OnErr result (Breaks contents leads notices socket key w w' d d v v' stamp (event_of event))
  sent_breaks result p =
      on_err result (SentSome (contents w) (contents w') out × (v' ≡ v)) (Breaks contents leads notices socket key w w' d d v v' stamp (event_of event))
      (λ r.
      let q = r.0 in
      breaks_event contents leads notices key w w' d d v v' stamp socket s on event e is (sends out ++ tells (told ∷ [])) (sends q.0) (going stamp) step
      (subst (λ (x : V). ActsTold contents leads notices w w' d d v x (sends q.0)) (sym r.1)
      (told_quiet contents leads notices w w' d d v (sends q.0) (notices_of-sends q.0) (acts_sends contents leads w w' d q.0 q.3))) (
        sends q.1 ++ tells (told ∷ []),
        ap (λ (x : List ℕ). sends x ++ tells (told ∷ [])) q.2 ∙ ap (λ (x : List Action). x ++ tells (told ∷ [])) (map-append Sent q.0 q.1)
            ∙ append_assoc (sends q.0) (sends q.1) (tells (told ∷ [])),
      )) p

-- ---- one event after the other

-- the next event, and those behind it
pub events_next : (all : List PeerEvent) (i : ℕ) (d item e : PeerEvent) → i < length all → item ≡ get_or all i d → e ≡ item
    → events_of (drop i all) ≡ event_of e ∷ events_of (drop (i + 1) all)
events_next all i d item e lt is value =
    ap events_of (drop-cons all i d lt)
    ∙ ap (λ (x : PeerEvent). event_of x ∷ events_of (drop (suc i) all)) (sym is ∙ sym value)
    ∙ ap (λ (n : ℕ). event_of e ∷ events_of (drop n all)) (sym (add-one i))

-- the events up to the next one, and those behind it
pub events_split : (all : List PeerEvent) (i : ℕ) (d item e : PeerEvent) → i < length all → item ≡ get_or all i d → e ≡ item
    → (seen events : List Event) → seen ++ events_of (drop i all) ≡ events
    → (seen ++ event_of e ∷ []) ++ events_of (drop (i + 1) all) ≡ events
events_split all i d item e lt is value seen events p =
    append_assoc seen (event_of e ∷ []) (events_of (drop (i + 1) all))
    ∙ ap (λ (x : List Event). seen ++ x) (sym (events_next all i d item e lt is value)) ∙ p

module _ {W D V : Type 0} (contents : W → Option (List ℕ)) (leads : D → Call → D → Type 0) (notices : V → Option (List Notice))
    (socket : Socket) (key : List ℕ) (w w1 w2 : W) (d d1 d2 : D) (v v1 v2 : V) (s : State) (stamp stamp2 : Stamp) (seen : List Event) (e : Event)
    (so_far : Whole contents leads notices socket key [] w w1 d d1 v v1 s (going stamp) seen) where
  pub whole_next : (found flow : Flow) → found ≡ flow
      → Takes contents leads notices socket key w1 w2 d1 d2 v1 v2 stamp e (record { stamp = stamp2; flow = found })
      → Whole contents leads notices socket key [] w w2 d d2 v v2 s (record { stamp = stamp2; flow = flow }) (seen ++ e ∷ [])
  whole_next found flow same p =
      subst (λ (f : Flow). Whole contents leads notices socket key [] w w2 d d2 v v2 s (record { stamp = stamp2; flow = f }) (seen ++ e ∷ [])) same
      (whole_whole contents leads notices socket key [] w w1 w2 d d1 d2 v v1 v2 s (going stamp) (record { stamp = stamp2; flow = found }) seen (e ∷ []) so_far
      refl
      (whole_one contents leads notices socket key w1 w2 d1 d2 v1 v2 stamp e (record { stamp = stamp2; flow = found }) p))

  pub over_next : (flow : Flow) → (flow ≡ Going → ⊥) → Takes contents leads notices socket key w1 w2 d1 d2 v1 v2 stamp e
      (record { stamp = stamp2; flow = flow })
      → (more events : List Event) → (seen ++ e ∷ []) ++ more ≡ events
      → Whole contents leads notices socket key [] w w2 d d2 v v2 s (record { stamp = stamp2; flow = flow }) events
  over_next flow over p more events all =
      subst (λ (x : List Event). Whole contents leads notices socket key [] w w2 d d2 v v2 s (record { stamp = stamp2; flow = flow }) x) all
      (whole_over contents leads notices socket key [] w w2 d d2 v v2 s (record { stamp = stamp2; flow = flow }) (seen ++ e ∷ []) more
      (whole_next flow flow refl p) over)

  pub cut_next : Breaks contents leads notices socket key w1 w2 d1 d2 v1 v2 stamp e → (more events : List Event) → (seen ++ e ∷ []) ++ more ≡ events
      → Cut contents leads notices socket key [] w w2 d d2 v v2 s events
  cut_next p more events all =
      subst (λ (x : List Event). Cut contents leads notices socket key [] w w2 d d2 v v2 s x) all
      (cut_over contents leads notices socket key [] w w2 d d2 v v2 s (seen ++ e ∷ []) more
      (whole_cut contents leads notices socket key [] w w1 w2 d d1 d2 v v1 v2 s (going stamp) seen (e ∷ []) so_far refl
      (cut_one contents leads notices socket key w1 w2 d1 d2 v1 v2 stamp e p)))
