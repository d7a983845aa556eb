use Rattle.std.proofs.Common.{List, ℕ, sym, subst}
use Rattle.stamp_texts.specs.Date.{IsDateText}
use Rattle.stamp_texts.proofs.present.date_of.Goals as goal

-- it was asked for
pub date_text-requires : goal.date_text-requires
date_text-requires c = c.has_date-is_dated.ensures.0 c.if-is_dated.true

pub returns-in-Some-clause-dated : goal.returns-in-Some-clause-dated
returns-in-Some-clause-dated c = c.has_date-is_dated.ensures.0 c.if-is_dated.true

pub returns-in-Some-clause-date : goal.returns-in-Some-clause-date
returns-in-Some-clause-date c = subst (λ (date : List ℕ). IsDateText c.args.instant.nanosecond date) (sym c.in-Some.ensures.same) c.date_text.ensures
