-- The calls of a connection, one after the other.
use Rattle.std.proofs.Common.{◌≡◌, ◌∙◌, ℕ, true, List, [], ◌∷◌, ◌++◌, append_assoc, Option, Result, Ok, Err, refl, sym, ap, subst, ⊎_elim}
use Rattle.std.proofs.lemmas.Bool.{false≢true}
use Rattle.std.proofs.lemmas.List.{append-nil}
use Rattle.kernel_core.specs.Runs.{Machine, IsPost, Run}
use Rattle.kernel_core.specs.events.Event.{Event}
use Rattle.kernel_core.specs.events.Event.TheVariants as event
use Rattle.kernel_core.specs.events.Told.{Told}
use Rattle.kernel_core.specs.events.Told.TheVariants as told
use Rattle.kernel_message.specs.declared.stamp.Stamp.{Stamp}
use Rattle.kernel_watch.specs.declared.notice.Notice.{Notice}
use Rattle.kernel_session.specs.declared.socket.Socket.{Socket}
use Rattle.kernel_session.specs.declared.fault.ServeFault.{ServeFault}
use Rattle.kernel_session.specs.declared.fault.ServeFault.TheVariants.{Read, Write, Peer, Memory}
use Rattle.kernel_session.specs.Call.{Call, Posted, Asked, Changed, Rang, Shut, Published, Kept, Dated, Leads}
use Rattle.kernel_session.specs.Action.{Action}
use Rattle.kernel_session.specs.Session.{State}
use Rattle.kernel_session.specs.Ends.{ends_by}
use Rattle.kernel_server.specs.declared.slice.Slice.{Slice}
use Rattle.kernel_server.specs.Pace.{ArePaced, behind}
use Rattle.kernel_server.specs.Jobs.{lane}
use Rattle.kernel_server.specs.Lone.{Lone, lone_leads}
use Rattle.kernel_server.specs.Course.{RanOn}
use Rattle.kernel_server.specs.Laws.{handed, all_handed, LoneDesksKeepAll}

-- ---- runs in a row

runs_on : (old mid new : Machine) (xs ys : List Event) (ts us : List Told) → Run old xs ts mid → Run mid ys us new → Run old (xs ++ ys) (ts ++ us) new
runs_on old mid new [] ys [] us r s = subst (λ (m : Machine). Run m ys us new) r s
runs_on old mid new [] ys (t ∷ ts) us r s = absurd r
runs_on old mid new (x ∷ xs) ys [] us r s = absurd r
runs_on old mid new (x ∷ xs) ys (t ∷ ts) us r s = (r.0, r.1, runs_on r.0 mid new xs ys ts us r.2 s)

paced_on : (slices mid left : List Slice) (xs ys : List Event) → ArePaced slices xs mid → ArePaced mid ys left → ArePaced slices (xs ++ ys) left
paced_on slices mid left [] ys p q = subst (λ (list : List Slice). ArePaced list ys left) p q
paced_on slices mid left (event.Slice m asked ∷ xs) ys p q = (p.0, p.1, paced_on (behind slices) mid left xs ys p.2 q)
paced_on slices mid left (event.Begin ∷ xs) ys p q = paced_on slices mid left xs ys p q
paced_on slices mid left (event.Post at job ∷ xs) ys p q = paced_on slices mid left xs ys p q
paced_on slices mid left (event.Shut ∷ xs) ys p q = paced_on slices mid left xs ys p q

ran_on : (a b c : Lone) → RanOn a b → RanOn b c → RanOn a c
ran_on a b c p q = record {
  events = p.events ++ q.events;
  answers = p.answers ++ q.answers;
  run = runs_on a.machine b.machine c.machine p.events q.events p.answers q.answers p.run q.run;
  paced = paced_on a.slices b.slices c.slices p.events q.events p.paced q.paced;
  later = p.later ++ q.later;
  kept = q.kept ∙ ap (λ bs. bs ++ q.later) p.kept ∙ append_assoc a.kept p.later q.later;
}

-- ---- one call

-- the kernel, its slices and the broadcasts are as before
stays : (old new : Lone) → new.machine ≡ old.machine → new.slices ≡ old.slices → new.kept ≡ old.kept → RanOn old new
stays old new m s k = record { events = []; answers = []; run = m; paced = s; later = []; kept = k ∙ sym (append-nil old.kept) }

same : (old new : Lone) → new ≡ old → RanOn old new
same old new e = stays old new (ap (λ d. d.machine) e) (ap (λ d. d.slices) e) (ap (λ d. d.kept) e)

call_ran : (old new : Lone) (call : Call) → lone_leads old call new → RanOn old new
call_ran old new (Posted request wishes (Ok d)) h =
    let run = h.0.runs in
    let post : IsPost old.machine lane request (Ok d.number) h.0.posted = h.0.is_posted in
    record {
      events = event.Post lane h.0.job ∷ event.Begin ∷ run.0;
      answers = told.Post (Ok d.number) ∷ run.1.answers;
      run = (h.0.posted, subst (λ r. IsPost old.machine lane r (Ok d.number) h.0.posted) (sym h.0.is_job) post, run.1.run);
      paced = run.1.paced;
      later = [];
      kept = h.2 ∙ sym (append-nil old.kept);
    }
call_ran old new (Posted request wishes (Err fault)) h = same old new h.1
call_ran old new (Asked q answer) h = same old new h.1
call_ran old new (Changed change answer) h =
    stays old new (ap (λ (d : Lone). d.machine) h.new_is) (ap (λ (d : Lone). d.slices) h.new_is) (ap (λ (d : Lone). d.kept) h.new_is)
call_ran old new Rang h = same old new h
call_ran old new Shut h = record {
  events = event.Shut ∷ [];
  answers = told.Shut ∷ [];
  run = (new.machine, ap (λ (d : Lone). d.machine) h, refl);
  paced = ap (λ (d : Lone). d.slices) h;
  later = [];
  kept = ap (λ (d : Lone). d.kept) h ∙ sym (append-nil old.kept);
}
call_ran old new (Published b) h =
    ⊎_elim
    (λ e. record {
      events = [];
      answers = [];
      run = ap (λ (d : Lone). d.machine) e;
      paced = ap (λ (d : Lone). d.slices) e;
      later = b ∷ [];
      kept = ap (λ (d : Lone). d.kept) e;
    })
    (λ e. stays old new (ap (λ (d : Lone). d.machine) e) (ap (λ (d : Lone). d.slices) e) (ap (λ (d : Lone). d.kept) e))
    h
call_ran old new (Kept bs) h = same old new h.2
call_ran old new (Dated before after) h = same old new h.1

-- ---- all calls of a connection

calls_ran : (old new : Lone) (calls : List Call) → Leads lone_leads old calls new → RanOn old new
calls_ran old new [] h = same old new h
calls_ran old new (call ∷ calls) h = ran_on old h.0 new (call_ran old h.0 call h.1) (calls_ran h.0 new calls h.2)

module _ {W V : Type 0} (contents : W → Option (List ℕ)) (notices : V → Option (List Notice)) (socket : Socket) (key : List ℕ) (before : List Action)
    (writer writer' : W) (desk desk' : Lone) (watcher watcher' : V) (old : State) (stamp' : Stamp) where
  -- however a connection ends
  pub connection_ran : (result : Result (Unit {0}) ServeFault) (input : List ℕ) (left : Option (List ℕ))
      → ends_by contents lone_leads notices socket key before writer writer' desk desk' watcher watcher' old stamp' result input left → RanOn desk desk'
  connection_ran (Ok done) input left h =
      ⊎_elim (λ h. calls_ran desk desk' _ h.1.acts.acts.called) (λ h. calls_ran desk desk' _ h.acts.acts.called) h.3
  connection_ran (Err Read) input left h =
      ⊎_elim (λ h. calls_ran desk desk' _ h.1.acts.acts.called) (λ h. calls_ran desk desk' _ h.acts.acts.called) h.3
  connection_ran (Err (Peer fault)) input left h = calls_ran desk desk' _ h.3.2.acts.acts.called
  connection_ran (Err Write) input left h =
      ⊎_elim (λ h. calls_ran desk desk' _ h.acts.acts.called) (λ h. calls_ran desk desk' _ h.2.acts.acts.called) h.3
  connection_ran (Err Memory) input left h =
      ⊎_elim
      (λ h. ⊎_elim (λ h. calls_ran desk desk' _ h.acts.acts.called) (λ h. calls_ran desk desk' _ h.acts.acts.called) h.3.3)
      (λ h. calls_ran desk desk' _ h.3.2.acts.acts.called)
      h

-- ---- the broadcasts

-- a call that hands over nothing leaves the broadcasts
nothing_handed : (old new : Lone) → new.kept ≡ old.kept → new.is_whole ≡ old.is_whole → new.is_whole ≡ true → (old.is_whole ≡ true) ×
    (new.kept ≡ old.kept ++ [])
nothing_handed old new k e w = (sym e ∙ w, k ∙ sym (append-nil old.kept))

left_alone : (old new : Lone) → new ≡ old → new.is_whole ≡ true → (old.is_whole ≡ true) × (new.kept ≡ old.kept ++ [])
left_alone old new e w = nothing_handed old new (ap (λ (d : Lone). d.kept) e) (ap (λ (d : Lone). d.is_whole) e) w

call_keeps : (old new : Lone) (call : Call) → lone_leads old call new → new.is_whole ≡ true → (old.is_whole ≡ true) × (new.kept ≡ old.kept ++ handed call)
call_keeps old new (Posted request wishes (Ok d)) h w = nothing_handed old new h.2 h.3 w
call_keeps old new (Posted request wishes (Err fault)) h w = left_alone old new h.1 w
call_keeps old new (Asked q answer) h w = left_alone old new h.1 w
call_keeps old new (Changed change answer) h w =
    nothing_handed old new (ap (λ (d : Lone). d.kept) h.new_is) (ap (λ (d : Lone). d.is_whole) h.new_is) w
call_keeps old new Rang h w = left_alone old new h w
call_keeps old new Shut h w = nothing_handed old new (ap (λ (d : Lone). d.kept) h) (ap (λ (d : Lone). d.is_whole) h) w
call_keeps old new (Published b) h w =
    ⊎_elim
    (λ e. (sym (ap (λ (d : Lone). d.is_whole) e) ∙ w, ap (λ (d : Lone). d.kept) e))
    (λ e. absurd (false≢true (sym (ap (λ (d : Lone). d.is_whole) e) ∙ w)))
    h
call_keeps old new (Kept bs) h w = left_alone old new h.2 w
call_keeps old new (Dated before after) h w = left_alone old new h.1 w

pub lone_desks_keep_all : LoneDesksKeepAll
lone_desks_keep_all old new [] h w = left_alone old new h w
lone_desks_keep_all old new (call ∷ calls) h w =
    let later = lone_desks_keep_all h.0 new calls h.2 w in
    let first = call_keeps old h.0 call h.1 later.0 in
    (first.0, later.1 ∙ ap (λ bs. bs ++ all_handed calls) first.1 ∙ append_assoc old.kept (handed call) (all_handed calls))
