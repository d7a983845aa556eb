-- What is done for a request part by part, and a beginning of it.
use Rattle.std.specs.Prelude.{◌≡◌, ℕ, List, [], ◌∷◌, ◌++◌, Option, Some, None}
use Rattle.jupyter_msg.specs.declared.request.Request.{Request}
use Rattle.jupyter_msg.specs.declared.request.RequestContent.{RequestContent}
use Rattle.jupyter_msg.specs.Message.{frames_of}
use Rattle.kernel_message.specs.Message.{broadcast_message}
use Rattle.kernel_reply.specs.Status.{busy}
use Rattle.kernel_message.specs.declared.stamp.Stamp.{Stamp}
use Rattle.kernel_session.specs.declared.talk.DeskReply.{DeskReply}
use Rattle.kernel_session.specs.Call.{Call, Published, Dated, Leads}
use Rattle.kernel_watch.specs.declared.notice.Notice.{Notice}
use Rattle.kernel_session.specs.declared.message.Reading.{Reading}
use Rattle.kernel_session.specs.declared.message.Reading.TheVariants.{NoMessage, Nothing, Asked}
use Rattle.kernel_session.specs.declared.socket.Socket.{Socket}
use Rattle.kernel_session.specs.Action.{Action, Acts, ActsTold, IsStartOf}
use Rattle.kernel_session.specs.Talk.{Heard, talk, says_of, says_with}
use Rattle.kernel_session.specs.Session.{IsDated, IsAsked, AsksNothing, IsNoMessage, opened, asking, ends_with}

-- some of the calls were made, in their order
abbrev pub LedPart : {D : Type 0} → (D → Call → D → Type 0) → D → List Call → D → Type 0
LedPart leads old calls new = (done : List Call) × (more : List Call) × (calls ≡ done ++ more) × Leads leads old done new

-- some of the actions were done, in their order
abbrev pub ActedPart : {W D : Type 0} → (W → Option (List ℕ)) → (D → Call → D → Type 0) → W → W → D → D → List Action → Type 0
ActedPart contents leads writer writer' desk desk' actions =
    (done : List Action) × Acts contents leads writer writer' desk desk' done × IsStartOf done actions

-- the same with the notices
abbrev pub ActedToldPart : {W D V : Type 0} → (W → Option (List ℕ)) → (D → Call → D → Type 0) → (V → Option (List Notice)) → W → W → D → D → V → V
    → List Action → Type 0
ActedToldPart contents leads notices writer writer' desk desk' watcher watcher' actions =
    (done : List Action) × ActsTold contents leads notices writer writer' desk desk' watcher watcher' done × IsStartOf done actions

-- what was read of the frames of a message is so
abbrev pub IsRead : Socket → List ℕ → List (List ℕ) → Reading → Type 0
IsRead socket key frames NoMessage = IsNoMessage key frames
IsRead socket key frames Nothing = AsksNothing socket key frames
IsRead socket key frames (Asked request) = IsAsked socket key frames request

module _ {D : Type 0} (leads : D → Call → D → Type 0) (desk desk' : D) (key : List ℕ) (header : List ℕ) (stamp : Stamp) where
  -- the date was set and the status busy published, with this header as parent header
  pub record IsBegun (stamp' : Stamp) : Type 0 where
    pub dated : Stamp
    pub is_dated : IsDated stamp dated
    pub called : Leads leads desk (Dated stamp.date dated.date ∷ Published (frames_of key (broadcast_message header dated dated.next busy)) ∷ []) desk'
    pub moved : stamp' ≡ opened dated

-- the date was set
pub record IsDatedAlone {D : Type 0} (leads : D → Call → D → Type 0) (desk desk' : D) (stamp : Stamp) : Type 0 where
  pub dated : Stamp
  pub is_dated : IsDated stamp dated
  pub called : Leads leads desk (Dated stamp.date dated.date ∷ []) desk'

module _ {D : Type 0} (leads : D → Call → D → Type 0) (desk desk' : D) (key : List ℕ) (r : Request) (stamp : Stamp) where
  -- the request was dated and opened, and the desk was asked
  pub record IsTakenUp (stamp' : Stamp) (told : Option DeskReply) : Type 0 where
    pub dated : Stamp
    pub is_dated : IsDated stamp dated
    pub heard : Heard
    pub called : Leads leads desk (asking key r stamp dated (talk r.content heard)) desk'
    pub tells : told ≡ (talk r.content heard).told
    pub moved : stamp' ≡ opened dated

  -- some of this was done
  pub record IsTakenUpPart : Type 0 where
    pub dated : Stamp
    pub is_dated : IsDated stamp dated
    pub heard : Heard
    pub called : LedPart leads desk (asking key r stamp dated (talk r.content heard)) desk'

-- ---- a request that hands the text of its cell on

-- the text that was handed on; none counts as the empty one
abbrev pub text_of : Option (List ℕ) → List ℕ
text_of None = []
text_of (Some code) = code

-- The text of the cell was handed on. By what is left of the request and by this text the same is said, and the session ends alike.
pub record HasHandedOn (old new : RequestContent) (code : List ℕ) : Type 0 where
  pub says : (told : DeskReply) → says_with new code told ≡ says_of old told
  pub ends : ends_with new ≡ ends_with old
