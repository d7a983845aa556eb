-- The names of procedures that a cell listed are taken out of the table again: what is shown stays.
use Rattle.std.proofs.Common.{◌≡◌, ℕ, List, length, take, sym, ap, ◌∙◌, subst}
use Rattle.std.proofs.Math.Seq.{take-append_seam}
use Rattle.janus_meaning.specs.Syntax.{Name, Proc}
use Rattle.janus_slots.specs.Numbers.{GoOn}
use Rattle.janus_slots.specs.Slots.{procedures_in}
use Rattle.janus_slots.specs.Law.{AreListed}
use Rattle.kernel_runner.specs.Bodies.{Define}
use Rattle.kernel_machine.specs.Language.{IsSound}
use Rattle.kernel_runner.specs.Runner.{ShownWorld, Shows, Is, Between}
use Rattle.kernel_runner.specs.declared.runner.Runner.{Runner}
use Rattle.kernel_loader.proofs.Listed.{procedures_stay}
use Rattle.kernel_loader.proofs.Sighted.{sound_call}

pub taken_back : (old new : List Name) (n : ℕ) → n ≡ length old → GoOn old new → take n new ≡ old
taken_back old new n e onward =
    ap (λ (k : ℕ). take k new) e ∙ ap (λ (l : List Name). take (length old) l) onward.1 ∙ take-append_seam old onward.0

-- what is shown names the same with the names behind them and without
pub shown_same : {L : Type 0} (old : Runner L) (es : List Name) (shown : ShownWorld) → GoOn old.entries es → IsSound shown.world → Is old (Between shown) →
    procedures_in es shown.world.procedures ≡ procedures_in old.entries shown.world.procedures
shown_same old es shown onward sound is =
    procedures_stay old.entries es onward shown.world.procedures is.0.listed (sound_call old.entries shown.world sound is.0.listed)

-- a table of fewer names, in which all that is shown is listed, shows the same
pub shows_less : {L : Type 0} (runner : Runner L) (es : List Name) (shown : ShownWorld) → AreListed es shown.world.procedures →
    procedures_in runner.entries shown.world.procedures ≡ procedures_in es shown.world.procedures → Shows runner shown →
    Shows (record runner { entries = es }) shown
shows_less runner es shown listed same h = record {
  store = h.store;
  texts = h.texts;
  listed = listed;
  defined = subst (λ (qs : List Proc). Define runner.procedures shown.bodies qs) same h.defined;
}

-- so what was listed since can be taken out again
pub shows_unlisted : {L : Type 0} (old mid : Runner L) (es : List Name) (shown : ShownWorld) → GoOn old.entries mid.entries → es ≡ old.entries →
    IsSound shown.world → Is old (Between shown) → Shows mid shown → Shows (record mid { entries = es }) shown
shows_unlisted old mid es shown onward same sound is h =
    let ps : List Proc = shown.world.procedures in
    shows_less mid es shown (subst (λ (l : List Name). AreListed l ps) (sym same) is.0.listed)
    (shown_same old mid.entries shown onward sound is ∙ ap (λ (l : List Name). procedures_in l ps) (sym same)) h
