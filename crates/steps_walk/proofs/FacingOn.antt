-- A runner that faced back faces on again.
use Rattle.std.proofs.Common.{◌≡◌, ℕ, true, false, not, ap, ◌∙◌}
use Rattle.janus_meaning.specs.Stepping.{mirror}
use Rattle.janus_machine.specs.Cursors.{IsStanding, place_of}
use Rattle.janus_machine.specs.Open.{Agrees}
use Rattle.janus_machine.specs.declared.cursor.Cursor.{Cursor}
use Rattle.janus_machine.specs.Counts.{TurnsRound}
use Rattle.kernel_runner.specs.Runner.{Place, Stands}
use Rattle.kernel_runner.specs.declared.program.Program.{Program}
use Rattle.kernel_runner.specs.declared.runner.Runner.{Runner}
use Rattle.kernel_runner.proofs.Going.{back_means}
use Rattle.steps_walk.specs.Walking.{IsUnbroken}

pub turned_on : {L : Type 0} (runner : Runner L) (program : Program) (at : Place) (cursor : Cursor) → Stands runner program at true → IsUnbroken runner at →
    IsStanding runner.procedures program.book cursor runner.counted.store →
    place_of runner.procedures program.book cursor runner.counted.store.callers ≡ mirror
    (place_of runner.procedures program.book runner.cursor runner.counted.store.callers) →
    ((k : ℕ) → Agrees k runner.procedures program.book runner.cursor runner.counted.store →
    Agrees k runner.procedures program.book cursor runner.counted.store) → TurnsRound runner.cursor cursor →
    Stands {L = L} (record { counted = runner.counted; cursor = cursor; procedures = runner.procedures; entries = runner.entries }) program at false
turned_on runner program at cursor h unbroken standing place agrees counts = record {
  cell = h.cell;
  good = h.good;
  few = h.few;
  counted = counts.0 ∙ h.counted;
  turned = counts.1 ∙ ap not h.turned;
  standing = standing;
  declared = h.declared;
  texts = h.texts;
  agrees = agrees _ h.agrees;
  ready = h.ready;
  listed = h.listed;
  defined = h.defined;
  faces = ((back_means runner program at h).turned cursor place, unbroken);
}
