-- A problem, without where it lies in memory.
use Rattle.std.specs.Prelude.{string_bytes}
use Rattle.kernel_reply.specs.Problems as table
use Rattle.kernel_reply.specs.declared.problem.Problem.{Problem}

abbrev pub told : Problem → table.Problem
told problem = record { ename = problem.ename.now; evalue = string_bytes problem.evalue }
