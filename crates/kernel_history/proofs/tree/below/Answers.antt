use Rattle.std.proofs.Common.{◌≡◌, ℕ, ◌<◌, Option, None, Some, refl, subst, arith}
use Rattle.std.specs.Prelude.{MatchOption}
use Rattle.std.specs.Option.{IsSome}
use Rattle.kernel_machine.specs.State.{Past, below_by, favourite_of}
use Rattle.kernel_machine.specs.declared.travel.Aim.{Aim}
use Rattle.kernel_machine.specs.declared.travel.Aim.TheVariants.{Undo, Redo, Goto}
use Rattle.kernel_machine.proofs.Trees.{next_below}
use Rattle.kernel_history.specs.Fields.{past_of}
use Rattle.kernel_history.proofs.tree.below.Goals as goal

-- but towards a node the way down leads to the favourite
favourite_below : (aim : Aim) (s : Past) (down : ℕ) → ((n : ℕ) → aim ≡ Goto n → ⊥) → below_by aim s down ≡ favourite_of s s.position
favourite_below Undo s down other = refl
favourite_below Redo s down other = refl
favourite_below (Goto n) s down other = absurd (other n refl)

is_there : (r : Option ℕ) (n : ℕ) → MatchOption r (n ≡ 0) (λ child. child ≡ n) → 0 < n → IsSome r
is_there None n told some = absurd (omega (arith, told, some))
is_there (Some child) n told some = refl

pub unwrap-requires : goal.unwrap-requires
unwrap-requires c =
    let s = past_of c.args.tree.now in
    let travel = c.args.travel in
    let next = next_below s travel c.requires.legal c.requires.way c.requires.possible in
    is_there c.favourite.result (favourite_of s s.position) c.favourite.ensures.favourite
    (subst (λ (n : ℕ). 0 < n) (favourite_below travel.aim s travel.down c.in_default.not-Goto) next.some)
