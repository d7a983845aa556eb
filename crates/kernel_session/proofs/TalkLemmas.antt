-- What a request has the desk do, from what was said to it.
use Rattle.std.proofs.Common.{◌≡◌, ℕ, Bool, true, false, List, [], ◌∷◌, Option, Some, Result, Ok, Err, IfOk, refl, sym, subst, if◌then◌else◌}
use Rattle.std.specs.Str.{bytes_eq}
use Rattle.kernel_reply.specs.post.PostFault.{PostFault}
use Rattle.kernel_reply.specs.post.PostFault.TheVariants as post_fault
use Rattle.kernel_reply.specs.done.Done.{Done}
use Rattle.kernel_reply.specs.answer.Answer.{Answer}
use Rattle.kernel_reply.specs.answer.HallFault.{HallFault}
use Rattle.kernel_reply.specs.answer.HallFault.TheVariants as hall_fault
use Rattle.kernel_session.specs.declared.talk.Consulted.{Consulted}
use Rattle.kernel_session.specs.declared.talk.DeskReply.{DeskReply}
use Rattle.kernel_session.specs.declared.talk.DeskReply.TheVariants.{Answered}
use Rattle.kernel_reply.specs.Comms.{asks_target, target as undo_target}
use Rattle.kernel_session.specs.Question.{Comms, IsOpen}
use Rattle.kernel_session.specs.Call.{Call, Asked}
use Rattle.kernel_session.specs.Talk.{Heard, Talk, IsHeld, ask, only, list_comms, before, says_open, if_open, open_then_ask, open_comm, follow, talk}
use Rattle.jupyter_msg.specs.declared.comm.CommAsk.{CommAsk}
use Rattle.jupyter_msg.specs.declared.comm.CommAsk.TheVariants as comm
use Rattle.jupyter_msg.specs.declared.request.RequestContent.{RequestContent}

-- what was not asked is taken as refused
pub unasked : Result Answer HallFault
unasked = Err hall_fault.Memory

pub unchanged : Result Bool HallFault
unchanged = Err hall_fault.Memory

pub unposted : Result Done PostFault
unposted = Err post_fault.Memory

abbrev pub nobody : Heard
nobody = record { comm = unasked; changed = unchanged; job = unposted; answer = unasked }

abbrev pub heard_answer : Result Answer HallFault → Heard
heard_answer a = record { comm = unasked; changed = unchanged; job = unposted; answer = a }

abbrev pub heard_change : Result Bool HallFault → Result Answer HallFault → Heard
heard_change b a = record { comm = unasked; changed = b; job = unposted; answer = a }

abbrev pub heard_job : Result Done PostFault → Result Answer HallFault → Heard
heard_job j a = record { comm = unasked; changed = unchanged; job = j; answer = a }

-- whether the comm is open was told too
abbrev pub heard_comm : Result Answer HallFault → Heard → Heard
heard_comm a h = record h { comm = a }

module _ {D : Type 0} (leads : D → Call → D → Type 0) (d d1 : D) where
  pub open_held : (d2 : D) (id : List ℕ) (a : Answer) (t : Talk) (told : Option DeskReply) → says_open a.content ≡ true
      → leads d (Asked (IsOpen id) (Ok a)) d1 → IsHeld leads d1 t told d2 → IsHeld leads d (if_open id (Ok a) t) told d2
  open_held d2 id a t told e p q =
      subst (λ (b : Bool). IsHeld leads d (if b then before (Asked (IsOpen id) (Ok a) ∷ []) t else ask (IsOpen id) (Ok a)) told d2) (sym e)
      ((d1, p, q.0), q.1)

  pub closed_held : (id : List ℕ) (a : Answer) (t : Talk) → says_open a.content ≡ false
      → leads d (Asked (IsOpen id) (Ok a)) d1 → IsHeld leads d (if_open id (Ok a) t) (Some (Answered a)) d1
  closed_held id a t e p =
      subst (λ (b : Bool). IsHeld leads d (if b then before (Asked (IsOpen id) (Ok a) ∷ []) t else ask (IsOpen id) (Ok a)) (Some (Answered a)) d1) (sym e)
      ((d1, p, refl), refl)

  pub target_held : (target id : List ℕ) (b : Result Bool HallFault) (a : Result Answer HallFault) (told : Option DeskReply)
      → bytes_eq target undo_target ≡ true → IsHeld leads d (open_then_ask id b a) told d1
      → IsHeld leads d (open_comm target id (heard_change b a)) told d1
  target_held target id b a told e p =
      subst (λ (t : Bool). IsHeld leads d (if t then open_then_ask id b a else ask (IsOpen id) a) told d1) (sym e) p

  pub other_held : (target id : List ℕ) (a : Result Answer HallFault) (told : Option DeskReply)
      → bytes_eq target undo_target ≡ false → IsHeld leads d (ask (IsOpen id) a) told d1
      → IsHeld leads d (open_comm target id (heard_answer a)) told d1
  other_held target id a told e p =
      subst (λ (t : Bool). IsHeld leads d (if t then open_then_ask id unchanged a else ask (IsOpen id) a) told d1) (sym e) p

  pub comms_held : (target : Option (List ℕ)) (a : Result Answer HallFault) (told : Option DeskReply)
      → asks_target target ≡ true → IsHeld leads d (ask Comms a) told d1 → IsHeld leads d (list_comms target a) told d1
  comms_held target a told e p = subst (λ (t : Bool). IsHeld leads d (if t then ask Comms a else only []) told d1) (sym e) p

  pub no_comms_held : (target : Option (List ℕ)) (told : Option DeskReply)
      → asks_target target ≡ false → IsHeld leads d (only []) told d1 → IsHeld leads d (list_comms target unasked) told d1
  no_comms_held target told e p = subst (λ (t : Bool). IsHeld leads d (if t then ask Comms unasked else only []) told d1) (sym e) p

-- what follows does not depend on what was told of the comm
pub follow-comm : (asked : CommAsk) (a : Result Answer HallFault) (h : Heard) → follow asked (heard_comm a h) ≡ follow asked h
follow-comm (comm.Undo k) a h = refl
follow-comm (comm.Redo k) a h = refl
follow-comm (comm.Goto n) a h = refl
follow-comm comm.State a h = refl
follow-comm comm.Other a h = refl

module _ {D : Type 0} (leads : D → Call → D → Type 0) (d d' : D) where
  abbrev pub StoreState : RequestContent → Option DeskReply → Type 0
  StoreState content told = (h : Heard) × IsHeld leads d (talk content h) told d'

  -- the talk of a request, told by its kind
  pub held_as : (content x : RequestContent) → content ≡ x → (told : Option DeskReply) (h : Heard) (t : Talk) → talk x h ≡ t → IsHeld leads d t told d'
      → StoreState content told
  held_as content x e told h t same p =
      (h, subst (λ (y : RequestContent). IsHeld leads d (talk y h) told d') (sym e) (subst (λ (y : Talk). IsHeld leads d y told d') (sym same) p))

  -- of a request that hands nothing on
  pub held_kept : (content x : RequestContent) → content ≡ x → (told : Option DeskReply) (h : Heard) (t : Talk) → talk x h ≡ t → IsHeld leads d t told d'
      → (shown : Option DeskReply) → shown ≡ told → StoreState content shown
  held_kept content x e told h t same p shown is = subst (StoreState content) (sym is) (held_as content x e told h t same p)

  pub held_cell : {E : Type 0} (content x : RequestContent) → content ≡ x → (t : Result Done PostFault → Result Answer HallFault → Talk)
      → ((j : Result Done PostFault) (a : Result Answer HallFault) → talk x (heard_job j a) ≡ t j a)
      → (r : Result Consulted E) → IfOk r (λ c. (j : Result Done PostFault) × (a : Result Answer HallFault) × IsHeld leads d (t j a) c.told d')
      → IfOk r (λ c. StoreState content c.told)
  held_cell content x e t same (Ok c) p = held_as content x e c.told (heard_job p.0 p.1) (t p.0 p.1) (same p.0 p.1) p.2
  held_cell content x e t same (Err f) p = tt
