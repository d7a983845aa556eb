-- The line that says why an expression has no value.
use Rattle.std.specs.Prelude.{ℕ, List}
use Rattle.kernel_text.specs.Lines.{fault_text, refusal_text}
use Rattle.kernel_ask.specs.declared.done.ExpFault.{ExpFault}
use Rattle.kernel_ask.specs.declared.done.ExpFault.TheVariants as exp

-- the text was refused, or its evaluation met a fault
abbrev pub exp_fault_line : ExpFault → List ℕ
exp_fault_line (exp.Refused r) = refusal_text r
exp_fault_line (exp.Met f) = fault_text f
