use Rattle.std.proofs.Common.{◌≡◌, pos, sym, ◌∙◌, refl, arith, Bool, true, false, IsTrue, w16, to_z, of_z}
use Rattle.std.proofs.lemmas.Int.{to_z-of_z}
use lib.Dec.{T}
use Rattle.std.specs.Int.Signed.{le_z, le_z_yes}
use Rattle.jiff.proofs.SpanFacts.{signed_arith}
use Rattle.jiff.proofs.Family.{civil_nanos_injective, epoch_day_injective}
use Rattle.stamp_texts.specs.Date.{Shows}
use Rattle.stamp_texts.proofs.date.has_date.Goals as goal

passed : (b : Bool) → IsTrue b → T b
passed true e = tt
passed false e = cc

passes : (b : Bool) → T b → IsTrue b
passes true t = refl
passes false t = absurd t

pub returns : goal.returns
returns c =
    let shown = c.to_datetime.result in
    let shows : Shows c.args.instant.nanosecond shown = omega (arith, signed_arith, c.to_datetime.ensures) in
    let year : to_z w16 (of_z w16 c.year.result) ≡ shown.date.year = to_z-of_z w16 c.year.result (record { sfits = c.year.type_inv }) ∙ c.year.ensures in (
      λ h. (shown, shows, le_z_yes (passed (le_z (pos 0) shown.date.year) (rw year at h))),
      λ d.
          let days = civil_nanos_injective d.0 shown (d.1 ∙ sym shows) in
          let same = epoch_day_injective d.0.date shown.date days.0 in
          rw (year, ← same.0) (passes (le_z (pos 0) d.0.date.year) d.2.le),
    )
