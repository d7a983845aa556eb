-- What goes on between one connection, its desk and its watcher: the octets that go out, the calls that are made and the notices that are told, in one
-- list: a contract binds the order of the octets, that of the calls, that of the notices, and through a write that fails how they follow each other.
use Rattle.std.specs.Prelude.{◌≡◌, ℕ, List, [], ◌∷◌, ◌++◌, map, Option}
use Rattle.std.specs.Io.KnownBytes.{Appends}
use Rattle.kernel_watch.specs.declared.notice.Notice.{Notice}
use Rattle.kernel_watch.specs.Hears.{Hears}
use Rattle.kernel_session.specs.Call.{Call, Leads}

-- one octet that goes out, one call with its answer, or one notice
pub data Action : Type 0 where
  Sent : ℕ → Action
  Called : Call → Action
  Told : Notice → Action

abbrev pub sends : List ℕ → List Action
sends octets = map Sent octets

abbrev pub asks : List Call → List Action
asks calls = map Called calls

abbrev pub tells : List Notice → List Action
tells notices = map Told notices

-- the octets, the calls and the notices of actions
abbrev pub sent_of : List Action → List ℕ
sent_of [] = []
sent_of (Sent octet ∷ actions) = octet ∷ sent_of actions
sent_of (Called c ∷ actions) = sent_of actions
sent_of (Told notice ∷ actions) = sent_of actions

abbrev pub calls_of : List Action → List Call
calls_of [] = []
calls_of (Sent octet ∷ actions) = calls_of actions
calls_of (Called c ∷ actions) = c ∷ calls_of actions
calls_of (Told notice ∷ actions) = calls_of actions

abbrev pub notices_of : List Action → List Notice
notices_of [] = []
notices_of (Sent octet ∷ actions) = notices_of actions
notices_of (Called c ∷ actions) = notices_of actions
notices_of (Told notice ∷ actions) = notice ∷ notices_of actions

-- The writer grew by the octets of the actions, and their calls lead from the desk before to the desk after.
pub record Acts {W D : Type 0} (contents : W → Option (List ℕ)) (leads : D → Call → D → Type 0)
    (writer writer' : W) (desk desk' : D) (actions : List Action) : Type 0 where
  pub sent : Appends (contents writer) (contents writer') (sent_of actions)
  pub called : Leads leads desk (calls_of actions) desk'

-- The same, and the watcher heard the notices of the actions.
pub record ActsTold {W D V : Type 0} (contents : W → Option (List ℕ)) (leads : D → Call → D → Type 0) (notices : V → Option (List Notice))
    (writer writer' : W) (desk desk' : D) (watcher watcher' : V) (actions : List Action) : Type 0 where
  pub acts : Acts contents leads writer writer' desk desk' actions
  pub told : Hears (notices watcher) (notices watcher') (notices_of actions)

-- a beginning of the actions
abbrev pub IsStartOf : List Action → List Action → Type 0
IsStartOf actions all = (more : List Action) × (all ≡ actions ++ more)
