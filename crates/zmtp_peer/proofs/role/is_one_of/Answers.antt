use Rattle.std.proofs.Common.{◌≡◌, ℕ, List, [], ◌∷◌, Bool, map, refl, sym, ap, ◌∙◌, Bor, ◌||◌}
use Rattle.std.proofs.lemmas.List.Folds.{list_any_at}
use Rattle.std.specs.List.{list_any}
use Rattle.std.specs.Str.{bytes_eq}
use Rattle.zmtp_peer.proofs.role.is_one_of.Goals as goal

list_any-map : {X Y : Type 0} (p : Y → Bool) (f : X → Y) (xs : List X) → list_any p (map f xs) ≡ list_any (λ x. p (f x)) xs
list_any-map p f [] = refl
list_any-map p f (x ∷ xs) = ap (λ b. p (f x) || b) (list_any-map p f xs)

pub returns-then-eq : goal.returns-then-eq
returns-then-eq c =
    let socket_type = c.args.socket_type.now in
    sym (list_any-map (bytes_eq socket_type) (λ (one : Bor (List ℕ)). one.now) c.args.types.now
    ∙ list_any_at (λ (one : Bor (List ℕ)). bytes_eq socket_type one.now) c.args.types.now c.loop-one.one-index _ c.loop-one-test.true
    (sym c.eq.ensures ∙ c.if-eq.true))
