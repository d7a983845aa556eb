use Rattle.std.proofs.Common.{List, ℕ, ◌||◌, sym, ap, ◌∙◌, string_bytes, bytes_eq}
use Rattle.janus_meaning.specs.Store.{same_name}
use Rattle.janus_check.proofs.LookupLemmas.{same_as_bytes}
use Rattle.janus_check.proofs.naming.is_name.Goals as goal

pub returns-else-found : goal.returns-else-found
returns-else-found c =
    let name = c.args.name.now in
    let used = string_bytes c.args.used.now.text in
    c.eq.ensures ∙ ap (λ (text : List ℕ). bytes_eq text name) c.as_str.ensures.value ∙ sym (same_as_bytes used name)
    ∙ ap (λ found. found || same_name used name) (sym c.if-found.false)
