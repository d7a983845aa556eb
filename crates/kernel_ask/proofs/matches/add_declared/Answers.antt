use Rattle.std.proofs.Common.{◌≤◌, length, take, map, sym, ap, ◌∙◌, arith, string_bytes}
use Rattle.std.proofs.lemmas.List.{take_all}
use Rattle.kernel_text.specs.Values.{shown}
use Rattle.kernel_ask.specs.Added.{with_match, with_matches}
use Rattle.kernel_ask.specs.Matches.{names_of}
use Rattle.kernel_ask.proofs.Added.{with_matches_more}
use Rattle.kernel_ask.proofs.Names.{length_names, name_more}
use Rattle.kernel_ask.proofs.matches.add_declared.Goals as goal

pub loop-i-preserved : goal.loop-i-preserved
loop-i-preserved g c =
    let prefix = c.args.prefix.now in
    let first = map string_bytes c.args.names.now.keys in
    let names = names_of c.args.world.now.store in
    let name = c.entry.result.0.now in
    c.in_ok-add_match.ensures
    ∙ ap (λ ks. with_match prefix ks name) c.loop-i.invariant
    ∙ sym (with_matches_more prefix first (take c.loop-i.i names) name)
    ∙ ap (with_matches prefix first) (sym (name_more c.args.world.now.store c.loop-i.i (name, shown c.entry.result.1) c.entry.ensures))

pub returns : goal.returns
returns g c =
    let names = names_of c.args.world.now.store in
    let all : length names ≤ c.loop-i.i = omega (arith, length_names c.args.world.now.store, c.len-i-end.ensures, c.loop-i-test.false) in
    c.loop-i.invariant ∙ ap (with_matches c.args.prefix.now (map string_bytes c.args.names.now.keys)) (take_all c.loop-i.i names all)
