use Rattle.std.proofs.Common.{◌≡◌, ◌∙◌, ap, ℕ, ℤ, unsigned_abs, refl, arith, FitsSigned, w8, w16, to_z, of_z}
use Rattle.std.proofs.lemmas.Int.{to_z-of_z}
use Rattle.jiff.proofs.SpanFacts.{signed_arith}
use Rattle.stamp_texts.specs.Date.{Shows}
use Rattle.stamp_texts.proofs.date.date_text.Goals as goal

-- a part of the date, without the sign that it doesn't have
size_of : (w : _) (shown part : ℤ) (size : ℕ) → FitsSigned w shown → shown ≡ part → size ≡ unsigned_abs (to_z w (of_z w shown)) → size ≡ unsigned_abs part
size_of w shown part size fits same e = e ∙ ap unsigned_abs (to_z-of_z w shown fits ∙ same)

pub returns : goal.returns
returns c =
    let shows : Shows c.args.instant.nanosecond c.to_datetime-shown.result = omega (arith, signed_arith, c.to_datetime-shown.ensures) in
    let year = size_of w16 _ _ _ (record { sfits = c.year.type_inv }) c.year.ensures c.unsigned_abs-year.ensures.value in
    let month = size_of w8 _ _ _ (record { sfits = c.month.type_inv }) c.month.ensures c.unsigned_abs-month.ensures.value in
    let day = size_of w8 _ _ _ (record { sfits = c.day.type_inv }) c.day.ensures c.unsigned_abs-day.ensures.value in
    let hour = size_of w8 _ _ _ (record { sfits = c.hour.type_inv }) c.hour.ensures c.unsigned_abs-hour.ensures.value in
    let minute = size_of w8 _ _ _ (record { sfits = c.minute.type_inv }) c.minute.ensures c.unsigned_abs-minute.ensures.value in
    let second = size_of w8 _ _ _ (record { sfits = c.second.type_inv }) c.second.ensures c.unsigned_abs-second.ensures.value in (
      c.to_datetime-shown.result,
      shows,
      rw (
        c.tens.ensures,
        c.ones.ensures,
        c.tens-2.ensures,
        c.ones-2.ensures,
        c.tens-3.ensures,
        c.ones-3.ensures,
        c.tens-4.ensures,
        c.ones-4.ensures,
        c.tens-5.ensures,
        c.ones-5.ensures,
        c.tens-6.ensures,
        c.ones-6.ensures,
        c.tens-7.ensures,
        c.ones-7.ensures,
        year,
        month,
        day,
        hour,
        minute,
        second,
      )
          refl,
    )
