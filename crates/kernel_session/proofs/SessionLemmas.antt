-- A session goes on event by event.
use Rattle.std.proofs.Common.{◌≡◌, ◌≢◌, ℕ, List, [], ◌∷◌, ◌++◌, Option, inl, inr, refl, sym, ap, ◌∙◌, subst, append_assoc, append-nil}
use Rattle.zmtp_peer.specs.declared.event.PeerEvent.{PeerEvent}
use Rattle.zmtp_peer.specs.Events.{Event, event_of}
use Rattle.kernel_message.specs.declared.stamp.Stamp.{Stamp}
use Rattle.kernel_session.specs.declared.socket.Socket.{Socket}
use Rattle.kernel_session.specs.declared.flow.Flow.TheVariants.{Going}
use Rattle.kernel_watch.specs.declared.notice.Notice.{Notice}
use Rattle.kernel_session.specs.Call.{Call}
use Rattle.kernel_session.specs.Action.{Action, ActsTold, IsStartOf}
use Rattle.kernel_session.specs.Session.{State, going, IsStep, IsSession}
use Rattle.kernel_session.specs.Ends.{Takes, Begins, Breaks, Whole, Cut}
use Rattle.kernel_session.proofs.ActsLemmas.{told_join}

pub session_join : (socket : Socket) (key : List ℕ) (old : State) (xs ys : List Event) (a b : List Action) (mid new : State)
    → IsSession socket key old xs a mid → IsSession socket key mid ys b new → IsSession socket key old (xs ++ ys) (a ++ b) new
session_join socket key old [] ys a b mid new p q =
    subst (λ (s : State). IsSession socket key s ys (a ++ b) new) p.1
    (subst (λ (t : List Action). IsSession socket key mid ys t new) (sym (ap (λ (x : List Action). x ++ b) p.0)) q)
session_join socket key old (x ∷ xs) ys a b mid new p q = (
  p.0,
  p.1,
  p.2 ++ b,
  p.3,
  p.4,
  session_join socket key p.1 xs ys p.2 b mid new p.5 q,
  ap (λ (t : List Action). t ++ b) p.6 ∙ append_assoc p.0 p.2 b,
)

pub session_one : (socket : Socket) (key : List ℕ) (stamp : Stamp) (e : Event) (actions : List Action) (new : State)
    → IsStep socket key stamp e actions new → IsSession socket key (going stamp) (e ∷ []) actions new
session_one socket key stamp e actions new p = (actions, new, [], refl, p, (refl, refl), sym (append-nil actions))

-- the events of two parts, where the first part left none
taken_both : (es1 es2 xs ys u v : List Event) → es1 ≡ xs ++ u → u ≡ [] → es2 ≡ ys ++ v → es1 ++ es2 ≡ (xs ++ ys) ++ v
taken_both es1 es2 xs ys u v p none q =
    ap (λ (t : List Event). t ++ es2) (p ∙ ap (λ (t : List Event). xs ++ t) none ∙ append-nil xs)
    ∙ ap (λ (t : List Event). xs ++ t) q ∙ sym (append_assoc xs ys v)

-- ---- one event

module _ {W D V : Type 0} (contents : W → Option (List ℕ)) (leads : D → Call → D → Type 0) (notices : V → Option (List Notice)) (key : List ℕ)
    (w w' : W) (d d' : D) (v v' : V) (stamp : Stamp)
    (socket s : Socket) (on : socket ≡ s) (event e : PeerEvent) (is : event ≡ e) where
  step_is : (actions : List Action) (new : State) → IsStep s key stamp (event_of e) actions new → IsStep socket key stamp (event_of event) actions new
  step_is actions new p =
      subst (λ (t : Socket). IsStep t key stamp (event_of event) actions new) (sym on)
      (subst (λ (x : PeerEvent). IsStep s key stamp (event_of x) actions new) (sym is) p)

  pub takes_event : (actions : List Action) (new : State) → IsStep s key stamp (event_of e) actions new
      → ActsTold contents leads notices w w' d d' v v' actions → Takes contents leads notices socket key w w' d d' v v' stamp (event_of event) new
  takes_event actions new p q = record { actions = actions; step = step_is actions new p; acts = q }

  pub breaks_event : (actions done : List Action) (new : State) → IsStep s key stamp (event_of e) actions new
      → ActsTold contents leads notices w w' d d' v v' done → IsStartOf done actions
      → Breaks contents leads notices socket key w w' d d' v v' stamp (event_of event)
  breaks_event actions done new p q r = record {
    done = done;
    acts = q;
    begun = inl record { actions = actions; new = new; step = step_is actions new p; start = r };
  }

  pub breaks_none : ActsTold contents leads notices w w' d d' v v' [] → Breaks contents leads notices socket key w w' d d' v v' stamp (event_of event)
  breaks_none q = record { done = []; acts = q; begun = inr refl }

module _ {W D V : Type 0} (contents : W → Option (List ℕ)) (leads : D → Call → D → Type 0) (notices : V → Option (List Notice))
    (socket : Socket) (key : List ℕ) where
  abbrev pub DoneAll : List Action → W → W → D → D → V → V → State → State → List Event → Type 0
  DoneAll before w w' d d' v v' s s' es = Whole contents leads notices socket key before w w' d d' v v' s s' es

  abbrev pub DonePart : List Action → W → W → D → D → V → V → State → List Event → Type 0
  DonePart before w w' d d' v v' s es = Cut contents leads notices socket key before w w' d d' v v' s es

  -- no event
  pub whole_none : (before : List Action) (w w' : W) (d d' : D) (v v' : V) (s : State) → ActsTold contents leads notices w w' d d' v v' before
      → DoneAll before w w' d d' v v' s s []
  whole_none before w w' d d' v v' s p = record {
    seen = [];
    unseen = [];
    taken = refl;
    none_unseen = λ _. refl;
    actions = [];
    session = (refl, refl);
    acts = subst (ActsTold contents leads notices w w' d d' v v') (sym (append-nil before)) p;
  }

  pub whole_one : (w w' : W) (d d' : D) (v v' : V) (stamp : Stamp) (e : Event) (new : State)
      → Takes contents leads notices socket key w w' d d' v v' stamp e new → DoneAll [] w w' d d' v v' (going stamp) new (e ∷ [])
  whole_one w w' d d' v v' stamp e new p = record {
    seen = e ∷ [];
    unseen = [];
    taken = refl;
    none_unseen = λ _. refl;
    actions = p.actions;
    session = session_one socket key stamp e p.actions new p.step;
    acts = p.acts;
  }

  begun_part : (w w' : W) (d d' : D) (v v' : V) (stamp : Stamp) (e : Event) (done : List Action) → ActsTold contents leads notices w w' d d' v v' done
      → Begins contents leads notices socket key stamp e done → DonePart [] w w' d d' v v' (going stamp) (e ∷ [])
  begun_part w w' d d' v v' stamp e done p b = record {
    seen = e ∷ [];
    unseen = [];
    taken = refl;
    actions = b.actions;
    new = b.new;
    session = session_one socket key stamp e b.actions b.new b.step;
    done = done;
    acts = p;
    start = b.start;
  }

  -- nothing more than a beginning of the actions before was done
  pub cut_none : (before done : List Action) (w w' : W) (d d' : D) (v v' : V) (s : State) (es : List Event)
      → ActsTold contents leads notices w w' d d' v v' done
      → IsStartOf done before → DonePart before w w' d d' v v' s es
  cut_none before done w w' d d' v v' s es p q = record {
    seen = [];
    unseen = es;
    taken = refl;
    actions = [];
    new = s;
    session = (refl, refl);
    done = done;
    acts = p;
    start = (q.0, append-nil before ∙ q.1);
  }

  -- all was done, and no more
  pub cut_whole : (before : List Action) (w w' : W) (d d' : D) (v v' : V) (s s' : State) (es : List Event)
      → DoneAll before w w' d d' v v' s s' es → DonePart before w w' d d' v v' s es
  cut_whole before w w' d d' v v' s s' es p = record {
    seen = p.seen;
    unseen = p.unseen;
    taken = p.taken;
    actions = p.actions;
    new = s';
    session = p.session;
    done = before ++ p.actions;
    acts = p.acts;
    start = ([], sym (append-nil (before ++ p.actions)));
  }

  pub cut_one : (w w' : W) (d d' : D) (v v' : V) (stamp : Stamp) (e : Event)
      → Breaks contents leads notices socket key w w' d d' v v' stamp e → DonePart [] w w' d d' v v' (going stamp) (e ∷ [])
  cut_one w w' d d' v v' stamp e p =
      elim p.begun [
        | inl b ↦ begun_part w w' d d' v v' stamp e p.done p.acts b
        | inr none ↦ cut_none [] p.done w w' d d' v v' (going stamp) (e ∷ []) p.acts ([], sym (append-nil p.done ∙ none))
      ]

  pub whole_whole : (before : List Action) (w w1 w2 : W) (d d1 d2 : D) (v v1 v2 : V) (s s1 s2 : State) (es1 es2 : List Event)
      → DoneAll before w w1 d d1 v v1 s s1 es1 → s1.flow ≡ Going → DoneAll [] w1 w2 d1 d2 v1 v2 s1 s2 es2 → DoneAll before w w2 d d2 v v2 s s2 (es1 ++ es2)
  whole_whole before w w1 w2 d d1 d2 v v1 v2 s s1 s2 es1 es2 p goes q = record {
    seen = p.seen ++ q.seen;
    unseen = q.unseen;
    taken = taken_both es1 es2 p.seen q.seen p.unseen q.unseen p.taken (p.none_unseen goes) q.taken;
    none_unseen = q.none_unseen;
    actions = p.actions ++ q.actions;
    session = session_join socket key s p.seen q.seen p.actions q.actions s1 s2 p.session q.session;
    acts = subst (ActsTold contents leads notices w w2 d d2 v v2) (append_assoc before p.actions q.actions)
        (told_join contents leads notices w w1 w2 d d1 d2 v v1 v2 _ _ p.acts q.acts);
  }

  pub whole_cut : (before : List Action) (w w1 w2 : W) (d d1 d2 : D) (v v1 v2 : V) (s s1 : State) (es1 es2 : List Event)
      → DoneAll before w w1 d d1 v v1 s s1 es1 → s1.flow ≡ Going → DonePart [] w1 w2 d1 d2 v1 v2 s1 es2 → DonePart before w w2 d d2 v v2 s (es1 ++ es2)
  whole_cut before w w1 w2 d d1 d2 v v1 v2 s s1 es1 es2 p goes q =
      let first = before ++ p.actions in
      record {
        seen = p.seen ++ q.seen;
        unseen = q.unseen;
        taken = taken_both es1 es2 p.seen q.seen p.unseen q.unseen p.taken (p.none_unseen goes) q.taken;
        actions = p.actions ++ q.actions;
        new = q.new;
        session = session_join socket key s p.seen q.seen p.actions q.actions s1 q.new p.session q.session;
        done = first ++ q.done;
        acts = told_join contents leads notices w w1 w2 d d1 d2 v v1 v2 _ _ p.acts q.acts;
        start = (
          q.start.0,
          sym (append_assoc before p.actions q.actions) ∙ ap (λ (t : List Action). first ++ t) q.start.1 ∙ sym (append_assoc first q.done q.start.0),
        );
      }

  -- a session that is over, or was cut, leaves what follows unseen
  pub whole_over : (before : List Action) (w w' : W) (d d' : D) (v v' : V) (s s' : State) (es more : List Event)
      → DoneAll before w w' d d' v v' s s' es → s'.flow ≢ Going → DoneAll before w w' d d' v v' s s' (es ++ more)
  whole_over before w w' d d' v v' s s' es more p over = record {
    seen = p.seen;
    unseen = p.unseen ++ more;
    taken = ap (λ (t : List Event). t ++ more) p.taken ∙ append_assoc p.seen p.unseen more;
    none_unseen = λ goes. absurd (over goes);
    actions = p.actions;
    session = p.session;
    acts = p.acts;
  }

  pub cut_over : (before : List Action) (w w' : W) (d d' : D) (v v' : V) (s : State) (es more : List Event)
      → DonePart before w w' d d' v v' s es → DonePart before w w' d d' v v' s (es ++ more)
  cut_over before w w' d d' v v' s es more p = record {
    seen = p.seen;
    unseen = p.unseen ++ more;
    taken = ap (λ (t : List Event). t ++ more) p.taken ∙ append_assoc p.seen p.unseen more;
    actions = p.actions;
    new = p.new;
    session = p.session;
    done = p.done;
    acts = p.acts;
    start = p.start;
  }
