-- How far a connection came in its session, and how it ends.
use Rattle.std.specs.Prelude.{◌≡◌, ◌≢◌, ℕ, ◌⊎◌, List, [], ◌++◌, Option, Result, Ok, Err}
use Rattle.std.specs.Io.KnownBytes.{IsAtEnd}
use Rattle.kernel_message.specs.declared.stamp.Stamp.{Stamp}
use Rattle.zmtp_peer.specs.Events.{Event, Refused}
use Rattle.zmtp_peer.specs.Faults.{fault_of, want_of_memory}
use Rattle.zmtp_peer.specs.Reading.{Ending, Awaiting, Failing, PeerReads, PeerState, Brings}
use Rattle.kernel_session.specs.declared.socket.Socket.{Socket}
use Rattle.kernel_session.specs.declared.flow.Flow.{Flow}
use Rattle.kernel_session.specs.declared.flow.Flow.TheVariants.{Going, Closed, Worn, OutOfMemory}
use Rattle.kernel_session.specs.declared.fault.ServeFault.{ServeFault}
use Rattle.kernel_session.specs.declared.fault.ServeFault.TheVariants.{Read, Write, Peer, Memory}
use Rattle.kernel_session.specs.Call.{Call}
use Rattle.kernel_watch.specs.declared.notice.Notice.{Notice}
use Rattle.kernel_session.specs.Action.{Action, ActsTold, IsStartOf}
use Rattle.kernel_session.specs.Session.{State, going, role_of, IsStep, IsSession}
use Rattle.kernel_session.specs.Closing.{Closes, ClosesPart}

-- a fault in the midst of the events
abbrev pub IsMidway : ServeFault → Type 0
IsMidway Write = Unit {0}
IsMidway Memory = Unit {0}
IsMidway Read = ⊥
IsMidway (Peer fault) = ⊥

-- what one connection is between, and its key: what a writer holds, what a call does to the desk, what a watcher was told, the socket
module _ {W D V : Type 0} (contents : W → Option (List ℕ)) (leads : D → Call → D → Type 0) (notices : V → Option (List Notice)) (socket : Socket)
    (key : List ℕ) where
  -- the event was taken, from a session with this stamp
  pub record Takes (writer writer' : W) (desk desk' : D) (watcher watcher' : V) (stamp : Stamp) (event : Event) (new : State) : Type 0 where
    pub actions : List Action
    pub step : IsStep socket key stamp event actions new
    pub acts : ActsTold contents leads notices writer writer' desk desk' watcher watcher' actions

  -- a beginning of what the event brings
  pub record Begins (stamp : Stamp) (event : Event) (done : List Action) : Type 0 where
    pub actions : List Action
    pub new : State
    pub step : IsStep socket key stamp event actions new
    pub start : IsStartOf done actions

  -- a beginning of what the event brings was done, or nothing
  pub record Breaks (writer writer' : W) (desk desk' : D) (watcher watcher' : V) (stamp : Stamp) (event : Event) : Type 0 where
    pub done : List Action
    pub acts : ActsTold contents leads notices writer writer' desk desk' watcher watcher' done
    pub begun : Begins stamp event done ⊎ (done ≡ [])

  -- All was done that the events bring, and before it the actions before, from one state of the session to another. Where it is over
  -- some of the events were not looked at.
  pub record Whole (before : List Action) (writer writer' : W) (desk desk' : D) (watcher watcher' : V) (old new : State) (events : List Event) : Type 0 where
    pub seen : List Event
    pub unseen : List Event
    pub taken : events ≡ seen ++ unseen
    pub none_unseen : new.flow ≡ Going → unseen ≡ []
    pub actions : List Action
    pub session : IsSession socket key old seen actions new
    pub acts : ActsTold contents leads notices writer writer' desk desk' watcher watcher' (before ++ actions)

  -- All was done that the events and the end of the input bring.
  pub record WholeToEnd (before : List Action) (writer writer' : W) (desk desk' : D) (watcher watcher' : V) (old new : State)
      (events : List Event) : Type 0 where
    pub actions : List Action
    pub session : IsSession socket key old events actions new
    pub closing : List Action
    pub closes : Closes socket events closing
    pub acts : ActsTold contents leads notices writer writer' desk desk' watcher watcher' (before ++ actions ++ closing)

  -- A beginning was done of what the events bring: a write failed, or memory was refused.
  pub record Cut (before : List Action) (writer writer' : W) (desk desk' : D) (watcher watcher' : V) (old : State) (events : List Event) : Type 0 where
    pub seen : List Event
    pub unseen : List Event
    pub taken : events ≡ seen ++ unseen
    pub actions : List Action
    pub new : State
    pub session : IsSession socket key old seen actions new
    pub done : List Action
    pub acts : ActsTold contents leads notices writer writer' desk desk' watcher watcher' done
    pub start : IsStartOf done (before ++ actions)

  -- the same behind all the events, of what the end of the input brings
  pub record CutAtEnd (before : List Action) (writer writer' : W) (desk desk' : D) (watcher watcher' : V) (old : State) (events : List Event) : Type 0 where
    pub actions : List Action
    pub new : State
    pub session : IsSession socket key old events actions new
    pub closing : List Action
    pub closes : ClosesPart socket events closing
    pub done : List Action
    pub acts : ActsTold contents leads notices writer writer' desk desk' watcher watcher' done
    pub start : IsStartOf done (before ++ actions ++ closing)

  -- how a piece that the peer sent stops a connection
  abbrev pub stops_by : W → W → D → D → V → V → Stamp → Stamp → PeerState → List ℕ → PeerState → ServeFault → Type 0
  stops_by w w' d d' v v' stamp stamp' peer piece peer' Read = ⊥
  stops_by w w' d d' v v' stamp stamp' peer piece peer' Write =
      (events : List Event) × Brings peer piece events peer' × Cut [] w w' d d' v v' (going stamp) events
  stops_by w w' d d' v v' stamp stamp' peer piece peer' Memory =
      (part : List ℕ) × (rest : List ℕ) × (piece ≡ part ++ rest)
      × (events : List Event) × Brings peer part events peer' × Cut [] w w' d d' v v' (going stamp) events
  stops_by w w' d d' v v' stamp stamp' peer piece peer' (Peer fault) =
      (events : List Event) × Brings peer piece events peer' × (fault_of fault ≢ want_of_memory) × (peer'.state ≡ Refused (fault_of fault))
      × Whole [] w w' d d' v v' (going stamp) (going stamp') events

  module _ (before : List Action) (writer writer' : W) (desk desk' : D) (watcher watcher' : V) (old : State) (stamp' : Stamp) where
    abbrev pub comes_to : Flow → List Event → Type 0
    comes_to flow events = Whole before writer writer' desk desk' watcher watcher' old (record { stamp = stamp'; flow = flow }) events

    abbrev pub comes_to_end : List Event → Type 0
    comes_to_end events = WholeToEnd before writer writer' desk desk' watcher watcher' old (record { stamp = stamp'; flow = Going }) events

    -- a beginning of what the events bring
    abbrev pub is_cut : List Event → Type 0
    is_cut events = Cut before writer writer' desk desk' watcher watcher' old events

    -- all that they bring, at the end of the input, and a beginning of what that brings
    abbrev pub is_cut_at_end : Option (List ℕ) → List Event → Ending → Type 0
    is_cut_at_end left events ending = (ending ≡ Awaiting) × IsAtEnd left × CutAtEnd before writer writer' desk desk' watcher watcher' old events

    -- how the octets are read: the events that they tell, and what is behind these
    abbrev pub Reading : (List Event → Ending → Type 0) → List ℕ → Type 0
    Reading P input = (events : List Event) × (ending : Ending) × PeerReads (role_of socket) input events ending × P events ending

    -- HOW A CONNECTION ENDS, by its answer, for the octets that it read. Where memory ran out, for some beginning of them, or at their end.
    abbrev pub ends_by : Result (Unit {0}) ServeFault → List ℕ → Option (List ℕ) → Type 0
    ends_by (Ok done) input left =
        Reading (λ events ending. ((ending ≡ Awaiting) × comes_to_end events × IsAtEnd left) ⊎ comes_to Closed events) input
    ends_by (Err Read) input left =
        Reading (λ events ending. ((ending ≡ Awaiting) × comes_to Going events) ⊎ comes_to Worn events) input
    ends_by (Err (Peer fault)) input left =
        Reading (λ events ending. (fault_of fault ≢ want_of_memory) × (ending ≡ Failing (fault_of fault)) × comes_to Going events) input
    ends_by (Err Write) input left = Reading (λ events ending. is_cut events ⊎ is_cut_at_end left events ending) input
    ends_by (Err Memory) input left =
        ((part : List ℕ) × (rest : List ℕ) × (input ≡ part ++ rest)
        × Reading (λ events ending. comes_to OutOfMemory events ⊎ is_cut events) part)
        ⊎ Reading (λ events ending. is_cut_at_end left events ending) input
