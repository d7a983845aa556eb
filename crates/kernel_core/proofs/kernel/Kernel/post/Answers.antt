use Rattle.std.proofs.Common.{◌≡◌, ℕ, List, [], ◌∷◌, ◌++◌, Ok, length, suc, sym, ap, ◌∙◌, subst, arith}
use Rattle.std.proofs.lemmas.List.{length-map}
use Rattle.kernel_machine.specs.Request.{request_of}
use Rattle.kernel_machine.specs.Minutes as minutes
use Rattle.kernel_machine.specs.Minutes.{posted_in}
use Rattle.kernel_machine.specs.Runs.{Machine, Seen, IsReady, IsPost, posted}
use Rattle.kernel_machine.proofs.Noted.{post_kept}
use Rattle.kernel_core.specs.Written.{entry_of, entries_in, ArePosts}
use Rattle.kernel_core.specs.MachineParts.{machine_of, machine_with}
use Rattle.kernel_core.specs.declared.minutes.Entry.TheVariants.{Posted}
use Rattle.kernel_core.proofs.Writing.{one_more, place_posted, posted_view, pushed}
use Rattle.kernel_core.proofs.kernel.Kernel.post.Given as given
use Rattle.kernel_core.proofs.kernel.Kernel.post.Goals as goal

-- what is written down, in the machine's words
written : (g : given.Over) (c : goal.After-post g) → entries_in c.post.new.self ≡ entries_in c.self.inside.minutes ++ minutes.Posted c.args.lane
    (request_of c.args.job) ∷ []
written g c =
    one_more c.make_room.new.self.entries.items c.post.new.self.entries.items (Posted c.args.lane c.args.job) c.post.ensures.written
    ∙ ap (λ (entries : List minutes.Entry). entries ++ minutes.Posted c.args.lane (request_of c.args.job) ∷ []) c.make_room.ensures.same

-- its place stands last in the queue
queued : (g : given.Over) (c : goal.After-post g) → c.push_back.new.self.items ≡ c.self.inside.queue.items ++ length (entries_in c.self.inside.minutes) ∷ []
queued g c =
    let size = length-map c.make_room.new.self.entries.items entry_of in
    let same = ap (λ (entries : List minutes.Entry). length entries) c.make_room.ensures.same in
    let place : c.len-place.result ≡ length (entries_in c.self.inside.minutes) =
    omega (arith, size, same, c.len-place.ensures, c.make_room.new.self.entries.ok.0) in
    pushed c.push_back.result _ _ c.push_back.new.self.items (sym c.is_err-2.ensures.value ∙ c.if-is_err-2.false) c.push_back.ensures.items
    ∙ ap (λ (n : ℕ). c.self.inside.queue.items ++ n ∷ []) place

-- the machine behind the post
abbrev over : (g : given.Over) (c : goal.After-post g) → Machine
over g c = machine_with c.self.inside.history.state c.push_back.new.self.items c.self.inside.counter c.post.new.self c.self.inside.closing

is_posted : (g : given.Over) (c : goal.After-post g) → over g c ≡ posted (machine_of c.self.inside) c.args.lane (request_of c.args.job)
is_posted g c =
    posted_view (entries_in c.self.inside.minutes) (entries_in c.post.new.self) c.self.inside.queue.items c.push_back.new.self.items c.args.lane
    (request_of c.args.job) c.self.inside.history.state
    c.self.inside.counter c.self.inside.closing (written g c) (queued g c) c.self.invariant.queue

number : (g : given.Over) (c : goal.After-post g) → c.post.result ≡ suc (posted_in (entries_in c.self.inside.minutes))
number g c = c.post.ensures.number ∙ ap suc (c.make_room.ensures.kept.posted ∙ ap posted_in c.make_room.ensures.same)

is_post : (g : given.Over) (c : goal.After-post g) → IsPost (machine_of c.self.inside) c.args.lane (request_of c.args.job) (Ok c.post.result) (over g c)
is_post g c = (subst (λ (s : Seen). IsReady s.machine) (sym c.self.view_is) c.in_default.ensures.none, number g c, is_posted g c)

pub invariant_of-self-2 : goal.invariant_of-self-2
invariant_of-self-2 g c = record {
  places = c.post.ensures.kept;
  queue =
      subst (λ (entries : List minutes.Entry). ArePosts entries c.push_back.new.self.items) (sym (written g c))
      (subst (λ (places : List ℕ). ArePosts (entries_in c.self.inside.minutes ++ minutes.Posted c.args.lane (request_of c.args.job) ∷ []) places)
      (sym (queued g c))
      (place_posted (entries_in c.self.inside.minutes) c.self.inside.queue.items c.args.lane (request_of c.args.job) c.self.invariant.queue));
  legal = post_kept (machine_of c.self.inside) c.args.lane (request_of c.args.job) (Ok c.post.result) (over g c) c.self.invariant.legal (is_post g c);
}

pub returns-clause-post : goal.returns-clause-post
returns-clause-post g c = subst (λ (s : Seen). IsPost s.machine c.args.lane (request_of c.args.job) (Ok c.post.result) (over g c)) c.self.view_is (is_post g c)
