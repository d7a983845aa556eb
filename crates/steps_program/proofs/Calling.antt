-- Open calls that are told one after the other.
use Rattle.std.proofs.Common.{◌≡◌, ℕ, zero, suc, ◌+◌, List, ◌++◌, refl, sym, subst, add-one}
use Rattle.std.specs.Prelude.{Option}
use Rattle.exact_write.proofs.SendLemmas.{appends_join}
use Rattle.steps_walk.specs.declared.walk.Walk.{Walk}
use Rattle.steps_program.specs.declared.source.Source.{Source}
use Rattle.steps_program.specs.Told.{TellsCall, TellsFirstCalls, TellsSomeCalls}
use Rattle.steps_program.proofs.Telling.{Goes}

module _ {L : Type 0} (sources : List Source) (w : Walk L) (i : ℕ) where
  pub one_more : (a b c : Option (List ℕ)) → Goes (TellsFirstCalls sources w i) a b → Goes (TellsCall sources w i) b c →
      Goes (TellsFirstCalls sources w (i + 1)) a c
  one_more a b c (before, first, p) (last, call, q) = (
    before ++ last,
    subst (λ n. TellsFirstCalls sources w n (before ++ last)) (sym (add-one i)) (before, last, first, call, refl),
    appends_join a b c before last p q,
  )

-- with a call open those that are open are told
pub some_calls : {L : Type 0} (sources : List Source) (w : Walk L) (n : ℕ) (out : List ℕ) → (n ≡ 0 → ⊥) → TellsFirstCalls sources w n out →
    TellsSomeCalls sources w n out
some_calls sources w zero out some h = absurd (some refl)
some_calls sources w (suc n) out some h = h
