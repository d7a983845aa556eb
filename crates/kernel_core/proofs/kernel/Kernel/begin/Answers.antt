use Rattle.std.proofs.Common.{◌≡◌, [], ◌∷◌, ◌++◌, suc, ap, ◌∙◌, subst, arith}
use Rattle.kernel_machine.specs.Minutes as minutes
use Rattle.kernel_machine.specs.Minutes.{ended_in}
use Rattle.kernel_machine.specs.Runs.{Machine, Seen, IsBegin}
use Rattle.kernel_machine.specs.declared.outcome.Begun.TheVariants.{Ended}
use Rattle.kernel_machine.proofs.Noted.{begin_kept, begun_unended, counter_within}
use Rattle.kernel_core.specs.Written.{entries_in}
use Rattle.kernel_core.specs.MachineParts.{machine_of, machine_with}
use Rattle.kernel_core.proofs.Writing.{no_end_begun, unnoted, end_written, end_noted, end_stays}
use Rattle.kernel_core.proofs.kernel.Kernel.begin.Given as given
use Rattle.kernel_core.proofs.kernel.Kernel.begin.Goals as goal

pub begin_next-told-requires-clause-few : goal.begin_next-told-requires-clause-few
begin_next-told-requires-clause-few g c =
    let within = counter_within (machine_of c.self.inside) c.self.invariant.legal.minutes in
    omega (arith, c.self.invariant.places.posted, c.self.invariant.places.within, within)

-- no end is told: the machine behind the begin
abbrev going : (g : given.Over) (c : goal.In_default g) → Machine
going g c = machine_with c.begin_next-told.new.history.state c.begin_next-told.new.queue.items c.begin_next-told.new.counter c.self.inside.minutes
    c.self.inside.closing

begun : (g : given.Over) (c : goal.In_default g) → IsBegin (machine_of c.self.inside) c.begin_next-told.result (going g c)
begun g c = (going g c, c.begin_next-told.ensures.begins, unnoted (going g c) _ (no_end_begun c.begin_next-told.result c.in_default.not-Ended))

pub invariant_of-self : goal.invariant_of-self
invariant_of-self g c = record {
  places = c.self.invariant.places;
  queue = c.begin_next-told.ensures.posts;
  legal = begin_kept (machine_of c.self.inside) c.begin_next-told.result (going g c) c.self.invariant.legal (begun g c);
}

pub returns-in_default : goal.returns-in_default
returns-in_default g c = record {
  begin = subst (λ (s : Seen). IsBegin s.machine c.begin_next-told.result (going g c)) c.self.view_is (begun g c);
  unwritten = c.begin_next-told.ensures.counts.writes ∙ ap (λ (s : Seen). s.writes) c.self.view_is;
  no_steps = c.begin_next-told.ensures.counts.steps ∙ ap (λ (s : Seen). s.steps) c.self.view_is;
}

-- an end is told: the machine in which it is written down
abbrev mid : (g : given.Over) (c : goal.After-end g) → Machine
mid g c = machine_with c.begin_next-told.new.history.state c.begin_next-told.new.queue.items c.begin_next-told.new.counter c.self.inside.minutes
    c.self.inside.closing

pub end-requires-clause-some : goal.end-requires-clause-some
end-requires-clause-some g c =
    let some =
    begun_unended (machine_of c.self.inside) c.in-Ended.outcome
    (machine_with c.begin_next-told.new.history.state c.begin_next-told.new.queue.items c.begin_next-told.new.counter c.self.inside.minutes
    c.self.inside.closing)
    c.self.invariant.legal.minutes c.in-Ended.ensures.begins
    in
    omega (arith, c.self.invariant.places.posted, c.self.invariant.places.ended, some)

written : (g : given.Over) (c : goal.After-end g) → entries_in c.end.new.self ≡ entries_in c.self.inside.minutes ++ minutes.Ended
    (suc (ended_in (entries_in c.self.inside.minutes))) c.in-Ended.outcome c.begin_next-told.new.counter c.begin_next-told.new.history.state.past.position ∷ []
written g c =
    end_written c.self.inside.minutes c.end.new.self c.in-Ended.outcome c.begin_next-told.new.counter c.position-node.result _ c.self.invariant.places
    c.end.ensures.written c.position-node.ensures

abbrev over : (g : given.Over) (c : goal.After-end g) → Machine
over g c = machine_with c.begin_next-told.new.history.state c.begin_next-told.new.queue.items c.begin_next-told.new.counter c.end.new.self c.self.inside.closing

ended : (g : given.Over) (c : goal.After-end g) → IsBegin (machine_of c.self.inside) (Ended c.in-Ended.outcome) (over g c)
ended g c = (
  mid g c,
  c.in-Ended.ensures.begins,
  end_noted c.begin_next-told.new.history.state c.begin_next-told.new.queue.items c.begin_next-told.new.counter c.self.inside.closing c.self.inside.minutes
      c.end.new.self c.in-Ended.outcome (written g c)
      c.begin_next-told.ensures.posts,
)

pub invariant_of-self-2 : goal.invariant_of-self-2
invariant_of-self-2 g c = record {
  places = c.end.ensures.kept;
  queue = end_stays c.self.inside.minutes c.end.new.self _ c.begin_next-told.new.queue.items (written g c) c.begin_next-told.ensures.posts;
  legal = begin_kept (machine_of c.self.inside) (Ended c.in-Ended.outcome) (over g c) c.self.invariant.legal (ended g c);
}

pub returns-clause-begin : goal.returns-clause-begin
returns-clause-begin g c = subst (λ (s : Seen). IsBegin s.machine (Ended c.in-Ended.outcome) (over g c)) c.self.view_is (ended g c)

pub returns-clause-unwritten : goal.returns-clause-unwritten
returns-clause-unwritten g c = c.begin_next-told.ensures.counts.writes ∙ ap (λ (s : Seen). s.writes) c.self.view_is

pub returns-clause-no_steps : goal.returns-clause-no_steps
returns-clause-no_steps g c = c.begin_next-told.ensures.counts.steps ∙ ap (λ (s : Seen). s.steps) c.self.view_is
