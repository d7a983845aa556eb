use Rattle.std.proofs.Common.{◌≡◌, map, take, string_bytes}
use Rattle.janus_syntax.specs.Spelling.{keyword_text}
use Rattle.kernel_ask.specs.Added.{with_matches}
use Rattle.kernel_ask.proofs.matches.add_keywords.Given as goal

abbrev pub invariant-loop-keyword : goal.invariant-loop-keyword
invariant-loop-keyword l =
    map string_bytes l.names.keys ≡ with_matches l.prefix (map string_bytes l.initial.names.keys) (map keyword_text (take l.keyword-index l.keywords))
