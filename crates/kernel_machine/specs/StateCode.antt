-- How states are stored, so that contracts can have them as values.
use Rattle.std.specs.Prelude.{ℕ, ◌⊎◌, List, refl, ◌≡◌}
use Rattle.std.specs.Coded.{Coded, code_by, coded×, coded⊎, coded_ℕ, coded_list}
use Rattle.std.proofs.Common.{inl, inr}
use Rattle.janus_meaning.specs.World.{World, Cell}
use Rattle.janus_meaning.specs.Codes.{cell_code, world_code}
use Rattle.kernel_machine.specs.State.{Node, Past, Work, Posted, Move, Entered, Job, Idle, Border, Inside, State}
use Rattle.kernel_machine.specs.Travel.{Travel}
use Rattle.kernel_machine.specs.Heading.{Heading}
use Rattle.kernel_machine.specs.contracts.travel.Travel.{the_row as travel_row}
use Rattle.kernel_machine.specs.contracts.heading.Heading.{the_row as heading_row}

abbrev node_code : Coded Node
node_code =
    code_by (ℕ × (Cell × ℕ)) (coded× coded_ℕ (coded× cell_code coded_ℕ))
    (λ n. (n.parent, (n.cell, n.steps))) (λ p. record { parent = p.0; cell = p.1.0; steps = p.1.1 }) (λ _. refl)

abbrev past_code : Coded Past
past_code =
    code_by (List Node × (List World × (List ℕ × ℕ)))
    (coded× (coded_list node_code) (coded× (coded_list world_code) (coded× (coded_list coded_ℕ) coded_ℕ)))
    (λ s. (s.nodes, (s.worlds, (s.favourites, s.position))))
    (λ p. record { nodes = p.0; worlds = p.1.0; favourites = p.1.1.0; position = p.1.1.1 }) (λ _. refl)

abbrev work_parts : Work → Cell ⊎ Travel
work_parts (Posted cell) = inl cell
work_parts (Move travel) = inr travel

abbrev parts_work : Cell ⊎ Travel → Work
parts_work (inl cell) = Posted cell
parts_work (inr travel) = Move travel

pub work_back : (work : Work) → parts_work (work_parts work) ≡ work
work_back (Posted cell) = refl
work_back (Move travel) = refl

abbrev work_code : Coded Work
work_code = code_by (Cell ⊎ Travel) (coded⊎ cell_code travel_row.coded) work_parts parts_work work_back

abbrev entered_code : Coded Entered
entered_code =
    code_by (Work × (ℕ × Heading)) (coded× work_code (coded× coded_ℕ heading_row.coded))
    (λ e. (e.work, (e.count, e.heading))) (λ p. record { work = p.0; count = p.1.0; heading = p.1.1 }) (λ _. refl)

abbrev job_parts : Job → ℕ ⊎ (Travel ⊎ Entered)
job_parts Idle = inl 0
job_parts (Border travel) = inr (inl travel)
job_parts (Inside e) = inr (inr e)

abbrev parts_job : ℕ ⊎ (Travel ⊎ Entered) → Job
parts_job (inl n) = Idle
parts_job (inr (inl travel)) = Border travel
parts_job (inr (inr e)) = Inside e

pub job_back : (job : Job) → parts_job (job_parts job) ≡ job
job_back Idle = refl
job_back (Border travel) = refl
job_back (Inside e) = refl

abbrev job_code : Coded Job
job_code = code_by (ℕ ⊎ (Travel ⊎ Entered)) (coded⊎ coded_ℕ (coded⊎ travel_row.coded entered_code)) job_parts parts_job job_back

abbrev pub state_code : Coded State
state_code = code_by (Past × Job) (coded× past_code job_code) (λ s. (s.past, s.job)) (λ p. record { past = p.0; job = p.1 }) (λ _. refl)
