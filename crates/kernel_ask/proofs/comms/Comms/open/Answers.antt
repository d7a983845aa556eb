use Rattle.std.proofs.Common.{◌≡◌, Bool, true, ap, ◌∙◌, sym, map, string_bytes, if◌then◌else◌}
use Rattle.kernel_text.specs.NameSets.{with_name}
use Rattle.kernel_ask.specs.Comms.{can_open}
use Rattle.kernel_text.proofs.NameSets.{names_inserted}
use Rattle.kernel_ask.proofs.comms.Comms.open.Goals as goal

pub returns-clause-ok : goal.returns-clause-ok
returns-clause-ok c =
    let ids = c.args.self.now in
    let id = string_bytes c.args.id in
    let can : can_open ids id ≡ true = ap (can_open ids) (sym c.as_str.ensures.value) ∙ sym c.can_open.ensures ∙ c.if-not-can_open.false in
    ap (map string_bytes) c.in_ok-insert.ensures.keys
    ∙ names_inserted c.self.inside.ids.keys c.args.id
    ∙ ap (λ xs. with_name xs id) c.self.view_is
    ∙ ap (λ (b : Bool). if b then with_name ids id else ids) (sym can)
