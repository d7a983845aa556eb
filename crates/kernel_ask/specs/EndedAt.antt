-- Where the kernel stands as a cell has run.
use Rattle.std.specs.Prelude.{◌≡◌}
use Rattle.kernel_text.specs.State.{Past}
use Rattle.kernel_text.specs.outcome.Outcome.{Outcome}
use Rattle.kernel_text.specs.outcome.Outcome.TheVariants.{Ran, Failed, Interrupted, Undid, Redid, Went, Refused}

-- after a cell that ran, at its node
abbrev pub StandsAtEnd : Outcome → Past → Type 0
StandsAtEnd (Ran node steps) s = s.position ≡ node
StandsAtEnd (Failed fault steps) s = Unit {0}
StandsAtEnd (Interrupted steps) s = Unit {0}
StandsAtEnd (Undid cells end) s = Unit {0}
StandsAtEnd (Redid cells end) s = Unit {0}
StandsAtEnd (Went up down end) s = Unit {0}
StandsAtEnd (Refused refusal) s = Unit {0}
