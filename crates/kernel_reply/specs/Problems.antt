-- What went wrong with a cell, a post or an expression: its name, and the line that tells it.
use Rattle.std.specs.Prelude.{ℕ, List, codes, Option, Some, None}
use Rattle.janus_meaning.specs.Faults as fault
use Rattle.kernel_ask.specs.Refusal as refusal
use Rattle.kernel_ask.specs.PostFault as post_fault
use Rattle.kernel_ask.specs.outcome.Outcome.{Outcome}
use Rattle.kernel_ask.specs.outcome.Outcome.TheVariants.{Ran, Failed, Interrupted, Undid, Redid, Went, Refused}
use Rattle.kernel_ask.specs.post.PostFault.{PostFault}
use Rattle.kernel_ask.specs.TextLines.{outcome_line, post_fault_line}
use Rattle.kernel_ask.specs.Lines.{exp_fault_line}
use Rattle.kernel_ask.specs.declared.done.ExpFault.{ExpFault}
use Rattle.kernel_ask.specs.declared.done.ExpFault.TheVariants as exp

-- the name of what went wrong, and the line that tells it
pub record Problem : Type 0 where
  pub ename : List ℕ
  pub evalue : List ℕ

-- what went wrong with a cell; nothing where it ran
abbrev pub cell_problem : Outcome → Option Problem
cell_problem (Failed f steps) = Some (record { ename = fault.name_of f; evalue = outcome_line (Failed f steps) })
cell_problem (Interrupted steps) = Some (record { ename = codes "Interrupted"; evalue = outcome_line (Interrupted steps) })
cell_problem (Refused r) = Some (record { ename = refusal.name_of r; evalue = outcome_line (Refused r) })
cell_problem (Ran node steps) = None
cell_problem (Undid cells end) = None
cell_problem (Redid cells end) = None
cell_problem (Went up down end) = None

-- why a job was not posted
abbrev pub post_problem : PostFault → Problem
post_problem f = record { ename = post_fault.name_of f; evalue = post_fault_line f }

-- why an expression has no value
abbrev pub exp_problem : ExpFault → Problem
exp_problem (exp.Refused r) = record { ename = refusal.name_of r; evalue = exp_fault_line (exp.Refused r) }
exp_problem (exp.Met f) = record { ename = fault.name_of f; evalue = exp_fault_line (exp.Met f) }
