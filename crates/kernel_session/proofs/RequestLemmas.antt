-- What one request brings, from its parts.
use Rattle.std.proofs.Common.{◌≡◌, ℕ, ◌≤◌, List, [], ◌∷◌, ◌++◌, map, Option, Some, None, Result, Ok, Err, IfOk, IfErr, OnOk, OnErr, refl, sym}
use Rattle.std.proofs.Common.{ap, ◌∙◌, subst, append_assoc, append-nil}
use Rattle.std.proofs.lemmas.List.{map-append}
use Rattle.std.specs.Io.KnownBytes.{Appends}
use Rattle.jupyter_msg.specs.Message.{frames_of}
use Rattle.jupyter_msg.specs.declared.request.Request.{Request}
use Rattle.kernel_message.specs.declared.stamp.Stamp.{Stamp}
use Rattle.kernel_message.specs.Sent.{Sent}
use Rattle.kernel_session.specs.declared.talk.DeskReply.{DeskReply}
use Rattle.kernel_session.specs.declared.flow.Flow.{Flow}
use Rattle.kernel_session.specs.declared.flow.Flow.TheVariants.{OutOfMemory}
use Rattle.kernel_session.specs.Call.{Call, Published, Dated, Leads}
use Rattle.exact_write.specs.Sent.{SentSome}
use Rattle.kernel_session.specs.Action.{Action, Sent as SentOctet, Called, Acts, IsStartOf, sends, asks}
use Rattle.kernel_session.specs.Talk.{Heard, IsHeld, talk, says_of}
use Rattle.kernel_session.specs.Session.{State, IsServed, opened, asking, busy_frames, reply_octets, answered, outgoing, stamp_behind, flow_behind}
use Rattle.kernel_session.specs.Session.{state_behind, ends_with, served, last_next}
use Rattle.kernel_session.specs.Parts.{LedPart, ActedPart, IsBegun, IsDatedAlone, IsTakenUp, IsTakenUpPart}
use Rattle.kernel_session.proofs.ActsLemmas.{leads_join, acts_none, acts_join, acts_asks, acts_sends}
use Rattle.kernel_session.proofs.TalkLemmas.{nobody}

pub on_ok : {A E : Type 0} (r : Result A E) (P Q : Type 0) → (P → Q) → OnOk r P → OnOk r Q
on_ok (Ok x) P Q f p = f p
on_ok (Err e) P Q f p = tt

pub on_err : {A E : Type 0} (r : Result A E) (P Q : Type 0) → (P → Q) → OnErr r P → OnErr r Q
on_err (Ok x) P Q f p = tt
on_err (Err e) P Q f p = f p

pub on_fail : {A E : Type 0} (r : Result A E) (P : Type 0) → P → OnErr r P
on_fail (Ok x) P p = tt
on_fail (Err e) P p = p

pub starts_with : (first done all : List Action) → IsStartOf done all → IsStartOf (first ++ done) (first ++ all)
starts_with first done all p = (p.0, ap (λ t. first ++ t) p.1 ∙ sym (append_assoc first done p.0))

-- some calls are some actions
pub asks_start : (done more : List Call) → IsStartOf (asks done) (asks (done ++ more))
asks_start done more = (asks more, map-append Called done more)

module _ {D : Type 0} (leads : D → Call → D → Type 0) (d d1 d2 : D) (key : List ℕ) (r : Request) (stamp stamp1 : Stamp) where
  -- the calls with which a request is begun
  abbrev opening : Stamp → List Call
  opening dated = Dated stamp.date dated.date ∷ Published (busy_frames key r dated) ∷ []

  pub taken_up : IsBegun leads d d1 key r.header.items stamp stamp1 → (told : Option DeskReply) (h : Heard)
      → IsHeld leads d1 (talk r.content h) told d2 → IsTakenUp leads d d2 key r stamp stamp1 told
  taken_up p told h q = record {
    dated = p.dated;
    is_dated = p.is_dated;
    heard = h;
    called = leads_join leads d d1 d2 (opening p.dated) (talk r.content h).calls p.called q.0;
    tells = q.1;
    moved = p.moved;
  }

  pub dated_part : IsDatedAlone leads d d1 stamp → IsTakenUpPart leads d d1 key r stamp
  dated_part p = record {
    dated = p.dated;
    is_dated = p.is_dated;
    heard = nobody;
    called = (Dated stamp.date p.dated.date ∷ [], Published (busy_frames key r p.dated) ∷ (talk r.content nobody).calls, refl, p.called);
  }

  pub begun_part : IsBegun leads d d1 key r.header.items stamp stamp1 → d2 ≡ d1 → IsTakenUpPart leads d d2 key r stamp
  begun_part p same = record {
    dated = p.dated;
    is_dated = p.is_dated;
    heard = nobody;
    called = (
      opening p.dated,
      (talk r.content nobody).calls,
      refl,
      subst (λ (x : D). Leads leads d (opening p.dated) x) (sym same) p.called,
    );
  }

module _ {W D : Type 0} (contents : W → Option (List ℕ)) (leads : D → Call → D → Type 0) (key : List ℕ) where
  abbrev pub published : Sent → List Call
  published s = map (λ b. Published (frames_of key b)) s.broadcasts

  abbrev pub goes_out : Sent → List Action
  goes_out s = asks (published s) ++ sends (reply_octets key s.reply)

  -- nothing was done
  pub none_done : (w : W) (d : D) (all : List Action) → ActedPart contents leads w w d d all
  none_done w d all = ([], acts_none contents leads w d, (all, refl))

  module _ (w w' : W) (d d' : D) (s t : Sent) (same : s ≡ t) where
    pub out_whole : Leads leads d (published s) d' → Appends (contents w) (contents w') (reply_octets key s.reply)
        → Acts contents leads w w' d d' (goes_out t)
    out_whole q p =
        subst (λ (x : Sent). Acts contents leads w w' d d' (goes_out x)) same
        (acts_join contents leads w w w' d d' d' _ _ (acts_asks contents leads w d d' _ q) (acts_sends contents leads w w' d' _ p))

    pub out_led : LedPart leads d (published s) d' → ActedPart contents leads w w d d' (goes_out t)
    out_led q =
        let reply = sends (reply_octets key s.reply) in
        subst (λ (x : Sent). ActedPart contents leads w w d d' (goes_out x)) same (
          asks q.0,
          acts_asks contents leads w d d' _ q.3,
          (
            asks q.1 ++ reply,
            ap (λ (x : List Call). asks x ++ reply) q.2 ∙ ap (λ (x : List Action). x ++ reply) (map-append Called q.0 q.1)
                ∙ append_assoc (asks q.0) (asks q.1) reply,
          ),
        )

    pub out_cut : Leads leads d (published s) d' → SentSome (contents w) (contents w') (reply_octets key s.reply)
        → ActedPart contents leads w w' d d' (goes_out t)
    out_cut q p =
        let first = asks (published s) in
        subst (λ (x : Sent). ActedPart contents leads w w' d d' (goes_out x)) same (
          first ++ sends p.0,
          acts_join contents leads w w w' d d' d' _ _ (acts_asks contents leads w d d' _ q) (acts_sends contents leads w w' d' p.0 p.3),
          starts_with first (sends p.0) (sends (reply_octets key s.reply)) (sends p.1, ap (λ (x : List ℕ). sends x) p.2 ∙ map-append SentOctet p.0 p.1),
        )

  module _ (w w' : W) (d d1 d2 : D) (r : Request) (stamp stamp1 stamp2 : Stamp) where
    abbrev pub Serves : Flow → Type 0
    Serves flow =
        (actions : List Action) × Acts contents leads w w' d d2 actions × IsServed key r stamp actions (record { stamp = stamp2; flow = flow })

    abbrev pub ServesPart : Type 0
    ServesPart =
        (actions : List Action) × (new : State) × IsServed key r stamp actions new × ActedPart contents leads w w' d d2 actions

    pub request_whole : stamp.next ≤ last_next → (told : DeskReply) → IsTakenUp leads d d1 key r stamp stamp1 (Some told)
        → Acts contents leads w w' d1 d2 (answered key r stamp1 (says_of r.content told)) → stamp2 ≡ stamp_behind r stamp1 (Some told)
        → (flow : Flow) → flow ≡ ends_with r.content → Serves flow
    request_whole fits told p q moved flow ends =
        let t = talk r.content p.heard in
        let out : outgoing key r stamp1 (Some told) ≡ outgoing key r (opened p.dated) t.told =
        ap (λ (s : Stamp). outgoing key r s (Some told)) p.moved ∙ ap (λ (o : Option DeskReply). outgoing key r (opened p.dated) o) p.tells in
        let end : stamp2 ≡ stamp_behind r (opened p.dated) t.told =
        moved ∙ ap (λ (s : Stamp). stamp_behind r s (Some told)) p.moved ∙ ap (λ (o : Option DeskReply). stamp_behind r (opened p.dated) o) p.tells in
        let on : flow ≡ flow_behind r t.told = ends ∙ ap (λ (o : Option DeskReply). flow_behind r o) p.tells in (
          served key r stamp p.dated t,
          acts_join contents leads w w w' d d1 d2 _ _ (acts_asks contents leads w d d1 (asking key r stamp p.dated t) p.called)
              (subst (λ (x : List Action). Acts contents leads w w' d1 d2 x) out q),
          record {
            numbered = fits;
            dated = p.dated;
            is_dated = p.is_dated;
            heard = p.heard;
            brings = refl;
            reaches = λ i. record { stamp = end i; flow = on i };
          },
        )

    pub request_cut : stamp.next ≤ last_next → (told : DeskReply) → IsTakenUp leads d d1 key r stamp stamp1 (Some told)
        → ActedPart contents leads w w' d1 d2 (answered key r stamp1 (says_of r.content told)) → ServesPart
    request_cut fits told p q =
        let t = talk r.content p.heard in
        let first = asks (asking key r stamp p.dated t) in
        let out : outgoing key r stamp1 (Some told) ≡ outgoing key r (opened p.dated) t.told =
        ap (λ (s : Stamp). outgoing key r s (Some told)) p.moved ∙ ap (λ (o : Option DeskReply). outgoing key r (opened p.dated) o) p.tells in (
          served key r stamp p.dated t,
          state_behind r (opened p.dated) t.told,
          record {
            numbered = fits;
            dated = p.dated;
            is_dated = p.is_dated;
            heard = p.heard;
            brings = refl;
            reaches = refl;
          },
          (
            first ++ q.0,
            acts_join contents leads w w w' d d1 d2 _ _ (acts_asks contents leads w d d1 (asking key r stamp p.dated t) p.called) q.1,
            starts_with first q.0 _ (subst (λ (x : List Action). IsStartOf q.0 x) out q.2),
          ),
        )

  -- the desk found no memory
  pub request_starved : (w : W) (d d1 : D) (r : Request) (stamp stamp1 : Stamp) → stamp.next ≤ last_next
      → IsTakenUp leads d d1 key r stamp stamp1 None → Serves w w d d d1 r stamp stamp1 stamp1 OutOfMemory
  request_starved w d d1 r stamp stamp1 fits p =
      let t = talk r.content p.heard in
      let none : t.told ≡ None = sym p.tells in
      let first = asks (asking key r stamp p.dated t) in
      let out : served key r stamp p.dated t ≡ first =
      ap (λ (o : Option DeskReply). first ++ outgoing key r (opened p.dated) o) none ∙ append-nil first in
      let end : stamp1 ≡ stamp_behind r (opened p.dated) t.told = p.moved ∙ ap (λ (o : Option DeskReply). stamp_behind r (opened p.dated) o) p.tells in
      let on : OutOfMemory ≡ flow_behind r t.told = ap (λ (o : Option DeskReply). flow_behind r o) p.tells in (
        served key r stamp p.dated t,
        subst (λ (x : List Action). Acts contents leads w w d d1 x) (sym out) (acts_asks contents leads w d d1 (asking key r stamp p.dated t) p.called),
        record {
          numbered = fits;
          dated = p.dated;
          is_dated = p.is_dated;
          heard = p.heard;
          brings = refl;
          reaches = λ i. record { stamp = end i; flow = on i };
        },
      )

  pub request_unasked : (w : W) (d d1 : D) (r : Request) (stamp stamp2 : Stamp) → stamp.next ≤ last_next
      → IsTakenUpPart leads d d1 key r stamp → ServesPart w w d d d1 r stamp stamp stamp2
  request_unasked w d d1 r stamp stamp2 fits p =
      let t = talk r.content p.heard in
      let all = asks (asking key r stamp p.dated t) in
      let later = outgoing key r (opened p.dated) t.told in
      let done = p.called.0 in
      let more = p.called.1 in (
        served key r stamp p.dated t,
        state_behind r (opened p.dated) t.told,
        record {
          numbered = fits;
          dated = p.dated;
          is_dated = p.is_dated;
          heard = p.heard;
          brings = refl;
          reaches = refl;
        },
        (
          asks done,
          acts_asks contents leads w d d1 done p.called.3,
          (
            asks more ++ later,
            ap (λ (x : List Call). asks x ++ later) p.called.2 ∙ ap (λ (x : List Action). x ++ later) (map-append Called done more)
                ∙ append_assoc (asks done) (asks more) later,
          ),
        ),
      )

pub if_ok : {A E : Type 0} (r : Result A E) (P Q : A → Type 0) → ((x : A) → P x → Q x) → IfOk r P → IfOk r Q
if_ok (Ok x) P Q f p = f x p
if_ok (Err e) P Q f p = tt

pub if_err : {A E : Type 0} (r : Result A E) (P Q : E → Type 0) → ((e : E) → P e → Q e) → IfErr r P → IfErr r Q
if_err (Ok x) P Q f p = tt
if_err (Err e) P Q f p = f e p
