-- After a shutdown each post is refused.
use Rattle.std.proofs.Common.{◌≡◌, true, List, [], ◌∷◌, refl, sym, ap, ◌∙◌, Ok, Err}
use Rattle.kernel_machine.specs.Minutes.{posts_of}
use Rattle.kernel_machine.specs.Runs.{Machine, shut, Run}
use Rattle.machine_laws.specs.Theorems.{AllPostsRefused, ShutRefusesJobs}
use Rattle.kernel_machine.specs.declared.post.PostFault.{PostFault}
use Rattle.kernel_machine.specs.declared.post.PostFault.TheVariants.{Closing}
use Rattle.kernel_machine.specs.declared.events.Event.{Event}
use Rattle.kernel_machine.specs.declared.events.Event.TheVariants as event
use Rattle.kernel_machine.specs.declared.events.Told.{Told}
use Rattle.kernel_machine.specs.declared.events.Told.TheVariants as told
use Rattle.machine_laws.proofs.Determined.{refusal_same}
use Rattle.kernel_machine.proofs.Posts.{begin_keeps_posts, slice_keeps_posts, shut_keeps_posts, begin_closing}

closed_runs : (old new : Machine) (events : List Event) (answers : List Told) → old.closing ≡ true → Run old events answers new → (new.closing ≡ true) ×
    AllPostsRefused answers × (posts_of new.minutes ≡ posts_of old.minutes)
closed_runs old new [] [] c r = (ap (λ (m : Machine). m.closing) r ∙ c, tt, ap (λ (m : Machine). posts_of m.minutes) r)
closed_runs old new [] (t ∷ answers) c r = absurd r
closed_runs old new (e ∷ events) [] c r = absurd r
closed_runs old new (event.Post lane job ∷ events) (told.Post (Ok number) ∷ answers) c r = absurd (let e = sym c ∙ r.1.0.serves in cc)
closed_runs old new (event.Post lane job ∷ events) (told.Post (Err fault) ∷ answers) c r =
    let rest = closed_runs r.0 new events answers (ap (λ (m : Machine). m.closing) r.1.1 ∙ c) r.2 in
    let is : fault ≡ Closing = refusal_same old fault Closing r.1.0 c in
    (rest.0, (ap (λ (f : PostFault). Err f) is, rest.1), rest.2 ∙ ap (λ (m : Machine). posts_of m.minutes) r.1.1)
closed_runs old new (event.Begin ∷ events) (told.Begin answer ∷ answers) c r =
    let rest = closed_runs r.0 new events answers (begin_closing old answer r.0 r.1 ∙ c) r.2 in
    (rest.0, rest.1, rest.2 ∙ begin_keeps_posts old answer r.0 r.1)
closed_runs old new (event.Slice m asked ∷ events) (told.Slice answer ∷ answers) c r =
    let rest = closed_runs r.0 new events answers (ap (λ (x : Machine). x.closing) r.1.2 ∙ c) r.2 in
    (rest.0, rest.1, rest.2 ∙ slice_keeps_posts old m asked answer r.0 r.1)
closed_runs old new (event.Shut ∷ events) (told.Shut ∷ answers) c r =
    let rest = closed_runs r.0 new events answers (ap (λ (x : Machine). x.closing) r.1) r.2 in
    (rest.0, rest.1, rest.2 ∙ shut_keeps_posts old r.0 r.1)
closed_runs old new (e ∷ events) (t ∷ answers) c r = absurd r.1

pub shut_refuses_jobs : ShutRefusesJobs
shut_refuses_jobs old new events answers r = closed_runs (shut old) new events answers refl r
