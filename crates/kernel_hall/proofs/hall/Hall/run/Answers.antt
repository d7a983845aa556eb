use Rattle.std.proofs.Common.{◌≡◌, ℕ, ◌-◌, List, [], option_map, string_bytes, get_or, refl, sym, subst}
use Rattle.std.proofs.lemmas.Option.{get_or_from_slice_get}
use Rattle.hall_state.specs.Request.{request_of}
use Rattle.hall_state.specs.Wishes.{WishOf}
use Rattle.hall_state.specs.Notes.{wished_in}
use Rattle.hall_state.specs.Passes.{HasPosted}
use Rattle.hall_state.specs.PendingResults.{WereMade}
use Rattle.hall_state.proofs.Fronts.{posted_on}
use Rattle.hall_state.proofs.Noted.{wished_stays}
use Rattle.kernel_hall.proofs.hall.Hall.run.Goals as goal

-- what was posted still stands as its end is seen
pub returns-clause-posted : goal.returns-clause-posted
returns-clause-posted g c =
    let job = request_of c.args.job in
    let given = c.args.wishes.items in
    subst (λ (n : ℕ). HasPosted c.args.pass.now job given n c.end_of.new.pass) (sym c.end_of.ensures.number)
    (posted_on c.args.pass.now c.send.new.pass c.end_of.new.pass job given c.in_ok-number.number c.in_ok-number.ensures.posted c.end_of.ensures.seen
    c.end_of.ensures.legal)

-- and its wishes are those that are noted under its number
pub returns-clause-made : goal.returns-clause-made
returns-clause-made g c =
    let given = c.args.wishes.items in
    let d = c.end_of.result in
    let n = c.in_ok-number.number in
    let notes = c.end_of.new.pass.notes in
    let there = wished_stays c.send.new.pass.notes notes n given c.end_of.ensures.seen.noted c.in_ok-number.ensures.posted.wished in
    let own : get_or (wished_in notes) (n - 1) [] ≡ given = get_or_from_slice_get (wished_in notes) (n - 1) given [] there in
    subst (λ (w : List WishOf). ∥ WereMade c.end_of.new.pass.front d.number d.outcome w (option_map string_bytes d.shown) d.values.items ∥₁) own
    (c.end_of.ensures.made refl)
