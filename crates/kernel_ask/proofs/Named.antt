-- One more value of a user expression.
use Rattle.std.proofs.Common.{◌≡◌, ℕ, true, false, List, [], ◌∷◌, ◌++◌, length, string_bytes, refl, sym, subst, arith}
use Rattle.kernel_text.specs.State.{Past, here, world_at}
use Rattle.kernel_text.specs.outcome.Outcome.{Outcome}
use Rattle.kernel_text.specs.outcome.Outcome.TheVariants.{Ran, Failed, Interrupted, Undid, Redid, Went, Refused}
use Rattle.kernel_ask.specs.EndedAt.{StandsAtEnd}
use Rattle.kernel_ask.specs.Making.{has_values}
use Rattle.janus_meaning.specs.Store.{Store}
use Rattle.kernel_ask.specs.Wishes.{WishOf}
use Rattle.kernel_ask.specs.declared.done.NamedValue.{NamedValue}
use Rattle.kernel_ask.specs.Evaluation.{IsEvaluated, AreValues, AreValuesAfter}

pub values_more : (s : Store) (wishes : List WishOf) (values : List NamedValue) (wish : WishOf) (named : NamedValue) → AreValues s wishes values →
    string_bytes named.name ≡ wish.name → IsEvaluated s wish.exp named.value →
    AreValues s (wishes ++ wish ∷ []) (values ++ named ∷ [])
values_more s [] [] wish named so_far name value = (name, value, tt)
values_more s [] (n ∷ ns) wish named so_far name value = absurd so_far
values_more s (w ∷ ws) [] wish named so_far name value = absurd so_far
values_more s (w ∷ ws) (n ∷ ns) wish named so_far name value = (so_far.0, so_far.1, values_more s ws ns wish named so_far.2 name value)

-- behind a cell that ran
pub values_on : (o : Outcome) (s : Past) (wishes : List WishOf) (values : List NamedValue) (wish : WishOf) (named : NamedValue) → has_values o ≡ true →
    StandsAtEnd o s → AreValuesAfter o s wishes values → string_bytes named.name ≡ wish.name → IsEvaluated (here s).store wish.exp named.value →
    AreValuesAfter o s (wishes ++ wish ∷ []) (values ++ named ∷ [])
values_on (Ran node steps) s wishes values wish named h still so_far name value =
    subst (λ (n : ℕ). AreValues (world_at s n).store (wishes ++ wish ∷ []) (values ++ named ∷ [])) still
    (values_more (here s).store wishes values wish named (subst (λ (n : ℕ). AreValues (world_at s n).store wishes values) (sym still) so_far) name value)
values_on (Failed fault steps) s wishes values wish named h still so_far name value = cc
values_on (Interrupted steps) s wishes values wish named h still so_far name value = cc
values_on (Undid cells end) s wishes values wish named h still so_far name value = cc
values_on (Redid cells end) s wishes values wish named h still so_far name value = cc
values_on (Went up down end) s wishes values wish named h still so_far name value = cc
values_on (Refused refusal) s wishes values wish named h still so_far name value = cc

-- and behind what has no values
pub values_none : (o : Outcome) (s : Past) (wishes : List WishOf) (values : List NamedValue) (wish : WishOf) → has_values o ≡ false →
    AreValuesAfter o s wishes values → AreValuesAfter o s (wishes ++ wish ∷ []) values
values_none (Ran node steps) s wishes values wish h so_far = cc
values_none (Failed fault steps) s wishes values wish h so_far = so_far
values_none (Interrupted steps) s wishes values wish h so_far = so_far
values_none (Undid cells end) s wishes values wish h so_far = so_far
values_none (Redid cells end) s wishes values wish h so_far = so_far
values_none (Went up down end) s wishes values wish h so_far = so_far
values_none (Refused refusal) s wishes values wish h so_far = so_far

pub nothing_left : {X : Type 0} (xs : List X) → length xs ≡ 0 → xs ≡ []
nothing_left [] h = refl
nothing_left (x ∷ xs) h = absurd (omega arith)
